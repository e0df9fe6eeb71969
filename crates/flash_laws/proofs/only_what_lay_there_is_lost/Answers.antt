use Rattle.flash_laws.proofs.Left.{kept_byte, kept_length, left, left_file, spared_file}
use Rattle.flash_disk.specs.Newest.{places}
use Rattle.flash_laws.proofs.only_what_lay_there_is_lost.Goals as goal

pub returns-clause-spared : goal.returns-clause-spared
returns-clause-spared c old new blocks file loses spares = spared_file old new loses blocks file spares

pub returns-clause-left : goal.returns-clause-left
returns-clause-left c old new blocks file loses agreed leaves = left_file old new loses blocks file agreed leaves

pub returns-clause-pages : goal.returns-clause-pages
returns-clause-pages c old new blocks file page loses = left old new loses (places blocks) file page

pub returns-clause-bytes : goal.returns-clause-bytes
returns-clause-bytes c old new blocks file i loses = kept_byte old new loses (places blocks) file i

pub returns-clause-lengths : goal.returns-clause-lengths
returns-clause-lengths c old new blocks file loses = kept_length old new loses (places blocks) file
