use Rattle.std.proofs.Common.{◌≡◌, ◌↔◌, drop}
use Rattle.value_model.specs.Views.{kinds_view}
use Rattle.value_model.proofs.types.+same.Given as goal

-- the types that are left decide
abbrev pub invariant-all_same-loop-i : goal.invariant-all_same-loop-i
invariant-all_same-loop-i l = (kinds_view (drop l.i l.types) ≡ kinds_view (drop l.i l.others)) ↔
    (kinds_view l.types ≡ kinds_view l.others)
