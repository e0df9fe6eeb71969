use Rattle.std.proofs.Common.{◌≡◌, drop}
use Rattle.value_model.specs.Kinds.{kinds_fit}
use Rattle.value_model.specs.Views.{kinds_view}
use Rattle.value_model.proofs.types.+fits.Given as goal

-- the types that are left decide
abbrev pub invariant-all_fit-loop-value_type : goal.invariant-all_fit-loop-value_type
invariant-all_fit-loop-value_type l = kinds_fit (kinds_view (drop l.value_type-index l.types))
    ≡ kinds_fit (kinds_view l.types)
