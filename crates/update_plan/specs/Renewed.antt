-- What the merged names of a storage become, one after another.
use Rattle.std.specs.Prelude.{◌≡◌, ℕ, List, [], ◌∷◌, filter_map, Option, Some, Result, Ok, Err, ◌≢◌}
use Rattle.std.specs.List.{cons_option}
use Rattle.per_base.specs.declared.elements.Fresh.{Fresh}
use Rattle.per_base.specs.declared.errors.PerError.{PerError}
use Rattle.per_base.specs.declared.errors.PerError.TheVariants.{OutOfMemory}
use Rattle.deployment_model.specs.Data.{StorageData}
use Rattle.migrate_fns.specs.Rules.{Rule, Answers}
use Rattle.update_plan.specs.Fates.{Becomes, Fate, fate, refusal}
use Rattle.update_plan.specs.Limits.{IfMade}
use Rattle.update_plan.specs.Merging.{Item}
use Rattle.update_plan.specs.Plans.{first_or_none}

-- what an update at this moment makes of a name, by what is stored and configured of it
abbrev pub item_fate : List Rule → ℕ → StorageData → Item → Fate
item_fate rules now s p = fate rules now s p.name p.configured p.stored

-- the list has what each name becomes, in their order
abbrev pub BecomeAll : List Rule → Answers → ℕ → StorageData → List Item → List Fresh → Type 0
BecomeAll rules answers now s [] new = new ≡ []
BecomeAll rules answers now s (p ∷ ps) new = (first : Option Fresh) × (others : List Fresh)
    × Becomes answers p.name (item_fate rules now s p) first × IfMade s.kind p.name first
    × BecomeAll rules answers now s ps others × (new ≡ cons_option first others)

-- why the update is refused, name by name
abbrev pub refusals : List Rule → ℕ → StorageData → List Item → List PerError
refusals rules now s ps = filter_map (λ (p : Item). refusal (item_fate rules now s p)) ps

-- a call gave what all the names become, where none is refused, or the first refusal, or memory ran out
abbrev pub RenewAll : List Rule → Answers → ℕ → StorageData → List Item → Result (List Fresh) PerError → Type 0
RenewAll rules answers now s ps (Ok new) = (refusals rules now s ps ≡ []) × BecomeAll rules answers now s ps new
RenewAll rules answers now s ps (Err e) = e ≢ OutOfMemory → first_or_none (refusals rules now s ps) ≡ Some e
