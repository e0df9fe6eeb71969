use Rattle.std.proofs.Common.{take}
use Rattle.std.specs.List.{AllZip}
use Rattle.element_store.specs.Hashing.{IsHashedAs}
use Rattle.element_store.proofs.store.Store.hash_changes.Given as goal

abbrev pub invariant-loop-change : goal.invariant-loop-change
invariant-loop-change l = AllZip IsHashedAs (take l.change-index l.changes) l.hashed.items
