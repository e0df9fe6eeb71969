use Rattle.std.proofs.Common.{◌≡◌, ◌++◌, drop, map}
use Rattle.value_model.specs.Views.{kind_of}
use Rattle.value_model.proofs.types.+copies.Given as goal

-- the copies, and the types that are left
abbrev pub invariant-copies-loop-value_type : goal.invariant-copies-loop-value_type
invariant-copies-loop-value_type l = map kind_of l.all.items ++ map kind_of (drop l.value_type-index l.types)
    ≡ map kind_of l.types
