use Rattle.deploy_laws.proofs.Files.{root_files, root_no_slot, storage_files, beside_outside, other_file}
use Rattle.deploy_laws.proofs.laws.files_lie_apart.Goals as goal

pub returns-clause-root : goal.returns-clause-root
returns-clause-root c = root_files

pub returns-clause-storage : goal.returns-clause-storage
returns-clause-storage c = λ app bank number file s lt ltb ltn of. storage_files app bank number s lt ltb ltn file of

pub returns-clause-apart : goal.returns-clause-apart
returns-clause-apart c = other_file

pub returns-clause-slots : goal.returns-clause-slots
returns-clause-slots c = root_no_slot

pub returns-clause-beside : goal.returns-clause-beside
returns-clause-beside c = λ app bank number file s lt ltb ltn is. beside_outside app bank number s lt ltb ltn file is
