-- The converters that a run is given.
use Rattle.std.specs.Prelude.{List}
use Rattle.migrate_fns.specs.Rules.{Rule, Answers}
use Rattle.migrate_fns.specs.Stored.{answers_of, rules_of}
use Rattle.migrate_fns.specs.declared.migrations.Migrations.{Migrations}

-- converters of values between types: between which types each is, and what each may answer
pub record Converters : Type 1 where
  pub rules : List Rule
  pub answers : Answers

-- the stored converters
abbrev pub converters_of : {X : Type 0} {F : X → Type 0} {g : _} → Migrations X F g → Converters
converters_of ms = record { rules = rules_of ms; answers = answers_of ms }
