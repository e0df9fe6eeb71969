use Rattle.store_outcome_laws.proofs.Stores.{blanked_first, contents_not_durable, copy_lacks, equal_blocks_written}
use Rattle.store_outcome_laws.proofs.Stores.{failure_as_want, few_copies, standing_overwritten, texts_not_given_up}
use Rattle.store_outcome_laws.proofs.Stores.{unchanged_written}
use Rattle.store_outcome_laws.proofs.laws.outcomes_are_refused.Goals as goal

pub returns-clause-equal_blocks_written : goal.returns-clause-equal_blocks_written
returns-clause-equal_blocks_written g c = equal_blocks_written

pub returns-clause-unchanged_content_written : goal.returns-clause-unchanged_content_written
returns-clause-unchanged_content_written g c = unchanged_written

pub returns-clause-failed_write_as_out_of_memory : goal.returns-clause-failed_write_as_out_of_memory
returns-clause-failed_write_as_out_of_memory g c = failure_as_want

pub returns-clause-copy_without_the_index : goal.returns-clause-copy_without_the_index
returns-clause-copy_without_the_index g c = few_copies

pub returns-clause-copy_without_a_content : goal.returns-clause-copy_without_a_content
returns-clause-copy_without_a_content g c = copy_lacks

pub returns-clause-contents_not_durable : goal.returns-clause-contents_not_durable
returns-clause-contents_not_durable g c = contents_not_durable _ c.outcomes_are_refused.ensures.index_first

pub returns-clause-blocks_that_stand_overwritten : goal.returns-clause-blocks_that_stand_overwritten
returns-clause-blocks_that_stand_overwritten g c = standing_overwritten _ c.outcomes_are_refused.ensures.old_overwritten

pub returns-clause-blanked_before_a_rebuild : goal.returns-clause-blanked_before_a_rebuild
returns-clause-blanked_before_a_rebuild g c = blanked_first _ c.outcomes_are_refused.ensures.salvage_lost

pub returns-clause-texts_not_given_up_first : goal.returns-clause-texts_not_given_up_first
returns-clause-texts_not_given_up_first g c = texts_not_given_up
