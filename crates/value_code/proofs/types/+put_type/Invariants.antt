use Rattle.std.proofs.Common.{◌≡◌, ◌++◌, drop}
use Rattle.std.specs.Prelude.{IsTrue}
use Rattle.value_model.specs.Kinds.{kinds_fit, type_codes}
use Rattle.value_model.specs.Views.{kinds_view}
use Rattle.value_code.proofs.types.+put_type.Given as goal

-- the codes so far, and those of the types that are left
abbrev pub invariant-put_types-loop-value_type : goal.invariant-put_types-loop-value_type
invariant-put_types-loop-value_type l = (l.out.items ++ type_codes (kinds_view (drop l.value_type-index l.types))
    ≡ l.fn.out.items ++ type_codes (kinds_view l.types))
    × IsTrue (kinds_fit (kinds_view (drop l.value_type-index l.types)))
