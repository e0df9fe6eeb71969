use Rattle.std.proofs.Common.{◌≡◌, take, map}
use Rattle.dump_text.specs.declared.dumps.DumpedStorage.{DumpedStorage}
use Rattle.per_dump.proofs.restoring.texts_of.Given as goal

-- the texts of those so far
abbrev pub invariant-loop-storage : goal.invariant-loop-storage
invariant-loop-storage l = l.texts.items ≡ map (λ (s : DumpedStorage). s.text) (take l.storage-index l.storages)
