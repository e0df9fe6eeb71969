-- No change has a name at which both maps are alike.
use Rattle.std.proofs.Common.{◌≡◌, ◌≢◌, ℕ, List, [], ◌∷◌, Bool, true, false, cond, Option, Some, None, refl, sym, ap}
use Rattle.std.proofs.Common.{◌∙◌}
use Rattle.std.specs.List.{All, AllByRecursion}
use Rattle.std.specs.Str.{bytes_eq}
use Rattle.std.proofs.lemmas.Slice.Eq.{bytes_eq-Decides}
use Rattle.per_base.specs.declared.elements.Element.{Element}
use Rattle.per_base.specs.Maps.{Map, element_at}
use Rattle.per_base.specs.declared.elements.Change.{Change}
use Rattle.per_base.specs.Changes.{changed_name, change_at}
use Rattle.element_state.specs.lemmas.Entrywise.{all_at}
use Rattle.element_maps.specs.Differences.{MakeInto, difference}
use Rattle.element_maps.proofs.Points.{unchanged}

unnamed : (name : List ℕ) (changes : List Change) → change_at name changes ≡ None
    → AllByRecursion (λ change. changed_name change ≢ name) changes
unnamed name [] none = tt
unnamed name (c ∷ cs) none = by (bytes_eq (changed_name c) name) refl none (unnamed name cs)
  where
    by : (b : Bool) → bytes_eq (changed_name c) name ≡ b → cond b (Some c) (change_at name cs) ≡ None
        → (change_at name cs ≡ None → AllByRecursion (λ change. changed_name change ≢ name) cs)
        → AllByRecursion (λ change. changed_name change ≢ name) (c ∷ cs)
    by true same is later = absurd (cc)
    by false apart is later = (
      (λ same. let equal : bytes_eq (changed_name c) name ≡ true =
          (bytes_eq-Decides (changed_name c) name).1 same in absurd (cc)),
      later is,
    )

pub others_unnamed : (synced new : Map) (changes : List Change) → MakeInto changes synced new
    → (name : List ℕ) → element_at synced name ≡ element_at new name
    → All (λ change. changed_name change ≢ name) changes
others_unnamed synced new changes made name same k d lt =
    all_at (λ (change : Change). changed_name change ≢ name) changes k d (unnamed name changes none) lt
  where
    none : change_at name changes ≡ None
    none = made.exact name ∙ (ap (λ (o : Option Element). difference name o (element_at new name)) same
        ∙ unchanged name (element_at new name))
