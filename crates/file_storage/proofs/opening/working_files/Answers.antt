use Rattle.std.proofs.Common.{◌≡◌, ◌++◌, subst}
use Rattle.std.specs.Prelude.{map}
use Rattle.std.specs.List.{AllByRecursion}
use Rattle.element_state.specs.Views.{element_of}
use Rattle.file_storage.specs.StoredFiles.{IsStoredFile}
use Rattle.file_storage.proofs.Stored.{filled}
use Rattle.file_storage.proofs.opening.working_files.Goals as goal

pub loop-entry-preserved : goal.loop-entry-preserved
loop-entry-preserved c = record {
  parts = filled c.loop-entry.files.entries c.add.new.files.entries c.in-Some.entry c.next.new.self.rest.items
      c.args.entries.items c.requires.ascend
      (subst (λ es. c.loop-entry.files.entries ++ map element_of es ≡ map element_of c.args.entries.items)
      c.in-Some.ensures.steps.0 c.loop-entry.invariant.parts) c.in_ok-add.ensures;
  each = (subst (λ es. AllByRecursion IsStoredFile es) c.in-Some.ensures.steps.0 c.loop-entry.invariant.each).1;
}

pub add-requires : goal.add-requires
add-requires c = (subst (λ es. AllByRecursion IsStoredFile es) c.in-Some.ensures.steps.0 c.loop-entry.invariant.each).0
