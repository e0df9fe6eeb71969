use Rattle.std.proofs.Common.{◌≡◌, ◌≢◌, arith, rules, IfErr, Result, Err}
use Rattle.value_model.specs.declared.errors.ValueError.{ValueError}
use Rattle.value_model.specs.declared.errors.ValueError.TheVariants.{IllTyped, TooDeep, TooLong, OutOfMemory}
use Rattle.value_model.specs.Validity.{IsValue}
use Rattle.per_value.proofs.round_trips.back_and_forth.Goals as goal

only_memory : {V : Type 0} (r : Result V ValueError) → r ≢ Err IllTyped → r ≢ Err TooDeep → r ≢ Err TooLong
    → IfErr r (λ e. e ≡ OutOfMemory)
only_memory r a b c = search rules

pub returns-clause-memory : goal.returns-clause-memory
returns-clause-memory g c =
    let valid : IsValue (g.T.PerValue.tree c.in_ok-thing.thing) =
    rw c.in_ok-thing.ensures.thing c.from_value.ensures.valid in
    only_memory c.to_value.result c.to_value.ensures.well_typed
    (λ e. let deep = c.to_value.ensures.too_deep e in let shallow = valid.shallow in omega arith)
    (λ e. let long = c.to_value.ensures.too_long e in let short = valid.short in omega arith)
