use Rattle.deploy_outcome_laws.proofs.Calls.{due_wants_memory, look_mends, made_again, made_twice, refusal_wrote}
use Rattle.deploy_outcome_laws.proofs.Calls.{refused_done, root_first, root_stamped}
use Rattle.deploy_outcome_laws.proofs.Plans.{generations_first, initial_where_converted, other_bank_read}
use Rattle.deploy_outcome_laws.proofs.Plans.{unreadable_kept}
use Rattle.deploy_outcome_laws.proofs.Rows.{active_bank_taken, bad_root_formatted, copy_left, new_contents_kept}
use Rattle.deploy_outcome_laws.proofs.Rows.{previous_kept}
use Rattle.deploy_outcome_laws.proofs.laws.outcomes_are_refused.Goals as goal

pub returns-clause-bad_root_formatted : goal.returns-clause-bad_root_formatted
returns-clause-bad_root_formatted g c = bad_root_formatted

pub returns-clause-previous_version_kept_by_a_finish : goal.returns-clause-previous_version_kept_by_a_finish
returns-clause-previous_version_kept_by_a_finish g c = previous_kept

pub returns-clause-new_contents_kept_by_a_rollback : goal.returns-clause-new_contents_kept_by_a_rollback
returns-clause-new_contents_kept_by_a_rollback g c = new_contents_kept

pub returns-clause-copy_of_the_root_left_by_a_wipe : goal.returns-clause-copy_of_the_root_left_by_a_wipe
returns-clause-copy_of_the_root_left_by_a_wipe g c = copy_left

pub returns-clause-update_into_the_active_bank : goal.returns-clause-update_into_the_active_bank
returns-clause-update_into_the_active_bank g c = active_bank_taken

pub returns-clause-contents_from_the_other_bank : goal.returns-clause-contents_from_the_other_bank
returns-clause-contents_from_the_other_bank g c = other_bank_read _ _

pub returns-clause-generations_before_the_plan : goal.returns-clause-generations_before_the_plan
returns-clause-generations_before_the_plan g c = generations_first _ _

pub returns-clause-unreadable_key_kept_by_a_recovery : goal.returns-clause-unreadable_key_kept_by_a_recovery
returns-clause-unreadable_key_kept_by_a_recovery g c = unreadable_kept

pub returns-clause-opening_stamps_the_root : goal.returns-clause-opening_stamps_the_root
returns-clause-opening_stamps_the_root g c = root_stamped g.D.Disk.medium

pub returns-clause-look_mends_the_root : goal.returns-clause-look_mends_the_root
returns-clause-look_mends_the_root g c = look_mends g.D.Disk.medium

pub returns-clause-refusal_has_written : goal.returns-clause-refusal_has_written
returns-clause-refusal_has_written g c = refusal_wrote g.D.Disk.medium

pub returns-clause-due_refusal_wants_memory : goal.returns-clause-due_refusal_wants_memory
returns-clause-due_refusal_wants_memory g c = due_wants_memory

pub returns-clause-refused_update_answered_done : goal.returns-clause-refused_update_answered_done
returns-clause-refused_update_answered_done g c = refused_done _ _

pub returns-clause-storage_made_twice : goal.returns-clause-storage_made_twice
returns-clause-storage_made_twice g c = made_twice

pub returns-clause-made_again_by_a_commit : goal.returns-clause-made_again_by_a_commit
returns-clause-made_again_by_a_commit g c = made_again g.D.Disk.medium

pub returns-clause-root_before_its_storages : goal.returns-clause-root_before_its_storages
returns-clause-root_before_its_storages g c = root_first g.D.Disk.medium c.outcomes_are_refused.ensures.root_too_early

pub returns-clause-initial_value_where_a_converter_is_due : goal.returns-clause-initial_value_where_a_converter_is_due
returns-clause-initial_value_where_a_converter_is_due g c = initial_where_converted _
