use Rattle.std.proofs.Common.{◌≡◌, take}
use Rattle.deploy.proofs.making.copy_all.Given as goal

abbrev pub invariant-loop-fresh : goal.invariant-loop-fresh
invariant-loop-fresh l = l.copies.items ≡ take l.fresh-index l.contents
