use Rattle.std.proofs.Common.{◌≡◌, ◌++◌, List}
use Rattle.std.specs.Prelude.{map}
use Rattle.std.specs.List.{AllByRecursion}
use Rattle.per_base.specs.declared.elements.Entry.{Entry}
use Rattle.per_base.specs.Maps.{Map}
use Rattle.element_state.specs.Views.{element_of}
use Rattle.file_storage.specs.StoredFiles.{IsStoredFile}
use Rattle.file_storage.proofs.opening.working_files.Given as goal

-- the files so far, and those that are left
pub record IsFilled (all left : List Entry) (files : Map) : Type 0 where
  pub parts : files ++ map element_of left ≡ map element_of all
  pub each : AllByRecursion IsStoredFile left

abbrev pub invariant-loop-entry : goal.invariant-loop-entry
invariant-loop-entry l = IsFilled l.fn.entries.items l.entry-iterator.rest.items l.files.entries
