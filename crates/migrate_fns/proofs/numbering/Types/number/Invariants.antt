use Rattle.std.proofs.Common.{◌≡◌, ℕ, ◌<◌, Some}
use Rattle.std.specs.Prelude.{slice_get}
use Rattle.value_model.specs.Views.{kind_of}
use Rattle.migrate_fns.proofs.numbering.Types.number.Given as goal

-- no type so far is the same
abbrev pub invariant-loop-number : goal.invariant-loop-number
invariant-loop-number l = (i : ℕ) → i < l.number
    → slice_get l.fn.self i ≡ Some (kind_of l.marked.value_type.now) → ⊥
