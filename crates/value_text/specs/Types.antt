-- Which types have a text that is read: those that a value may have.
use Rattle.std.specs.Prelude.{◌≤◌, IsTrue}
use Rattle.value_model.specs.Kinds.{Kind, kind_depth, kind_fits}
use Rattle.value_model.specs.Validity.{max_depth}

-- a value may have the type: every group of fields in it has 1 to 32 members, and it nests at most 8 deep
pub record IsType (k : Kind) : Type 0 where
  pub groups : IsTrue (kind_fits k)
  pub shallow : kind_depth k ≤ max_depth
