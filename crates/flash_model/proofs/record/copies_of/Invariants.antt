use Rattle.std.proofs.Common.{◌≡◌, replicate}
use Rattle.flash_model.proofs.record.copies_of.Given as goal

abbrev pub invariant-loop-made : goal.invariant-loop-made
invariant-loop-made l = l.pages.items ≡ replicate l._made l.page
