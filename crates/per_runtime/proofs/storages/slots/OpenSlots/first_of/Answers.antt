use Rattle.std.proofs.Common.{sym, ◌∙◌}
use Rattle.per_runtime.proofs.storage_lemmas.SlotLaws.{first_none, first_taken}
use Rattle.per_runtime.proofs.storages.slots.OpenSlots.first_of.Goals as goal

pub returns-then-is_taken : goal.returns-then-is_taken
returns-then-is_taken c = sym (first_taken c.args.self.now c.args.storages.now c.loop-number.number
    c.index-storages-number.result c.loop-number.invariant
    (sym c.is_taken.ensures ∙ c.if-is_taken.true) c.loop-number-test.true)

pub returns : goal.returns
returns c = sym (first_none c.args.self.now c.args.storages.now c.loop-number.number c.loop-number.invariant
    c.loop-number-test.false)
