use Rattle.std.proofs.Common.{ℕ, ◌+◌, ◌∙◌, List, Option, ap, is_some, take}
use Rattle.hash_guard.specs.SealedText.{verified}
use Rattle.guarded_cell.specs.Held.{Text, of_parity, with_slot}
use Rattle.guarded_cell.proofs.looking.see_slot.Goals as goal

pub returns-clause-seen : goal.returns-clause-seen
returns-clause-seen g c = λ tells.
    let shown = λ (w : Option Text). with_slot (c.args.copy + 1) (of_parity c.args.parity w) c.args.seens.now.items in
    let image = (g.D.Disk.medium c.args.disk.now).image in
    c.in_ok-verifies.ensures.seen
    ∙ ap shown (ap (λ (xs : List ℕ). verified (take c.in_ok-count.count xs)) c.deref.ensures.value
    ∙ c.in_ok-count.ensures.bytes tells ∙ ap (λ (f : ℕ). verified (image f)) c.slot.ensures)

pub returns-clause-flag : goal.returns-clause-flag
returns-clause-flag g c = λ tells.
    let image = (g.D.Disk.medium c.args.disk.now).image in
    c.in_ok-verifies.ensures.flag
    ∙ ap is_some (ap (λ (xs : List ℕ). verified (take c.in_ok-count.count xs)) c.deref.ensures.value
    ∙ c.in_ok-count.ensures.bytes tells ∙ ap (λ (f : ℕ). verified (image f)) c.slot.ensures)
