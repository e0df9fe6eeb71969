use Rattle.std.proofs.Common.{◌≡◌, ◌++◌, take}
use Rattle.std.specs.Prelude.{map}
use Rattle.per_base.specs.declared.elements.Entry.{Entry}
use Rattle.per_base.specs.declared.elements.Change.TheVariants.{Remove}
use Rattle.file_storage.proofs.differences.remove_all.Given as goal

abbrev pub invariant-loop-entry : goal.invariant-loop-entry
invariant-loop-entry l = l.list.items ≡ l.initial.list.items
    ++ map (λ (e : Entry). Remove e.name) (take l.entry-index l.entries)
