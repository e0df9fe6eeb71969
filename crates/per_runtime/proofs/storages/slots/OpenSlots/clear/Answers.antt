use Rattle.std.proofs.Common.{None, arith}
use Rattle.per_runtime.proofs.storage_lemmas.SlotLaws.{all_are}
use Rattle.per_runtime.proofs.storages.slots.OpenSlots.clear.Goals as goal

pub returns : goal.returns
returns c = let past = c.loop-number-test.false in all_are c.loop-number.self.open.items 16 None
    c.loop-number.invariant.0 (λ k lt. c.loop-number.invariant.1 k (omega (arith, lt, past)))
