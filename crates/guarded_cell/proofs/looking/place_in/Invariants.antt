use Rattle.std.proofs.Common.{ℕ, ◌<◌, get_or}
use Rattle.guarded_cell.specs.declared.looking.Seen.{Seen}
use Rattle.guarded_cell.specs.Seens.{IsBefore}
use Rattle.guarded_cell.proofs.looking.place_in.Given as goal

abbrev pub invariant-loop-i : goal.invariant-loop-i
invariant-loop-i l = (j : ℕ) → j < l.i → (d : Seen) → IsBefore (l.generation, l.text) (get_or l.seens j d)
