use Rattle.std.proofs.Common.{◌≡◌, ℕ, ◌+◌, ◌<◌, length, get_or, not, false}
use Rattle.disk_model.specs.Orders.{named_in}
use Rattle.guarded_cell.proofs.slots.all_but.Given as goal

abbrev pub invariant-loop-copy : goal.invariant-loop-copy
invariant-loop-copy l = record {
  long : length l.chosen ≡ 8;
  flags : (copy : ℕ) → copy < l.copy → get_or l.chosen copy false ≡ not (named_in l.numbers (copy + 1));
}
