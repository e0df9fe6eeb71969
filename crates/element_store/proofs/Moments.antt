-- Every moment of an opening.
use Rattle.std.proofs.Common.{◌≡◌, ℕ, List, subst, ◌∙◌, ⊎_elim}
use Rattle.per_base.specs.declared.elements.Entry.{Entry}
use Rattle.disk_model.specs.Image.{Image}
use Rattle.disk_model.specs.Case.{Case}
use Rattle.disk_model.specs.Medium.{Medium, IsIdle, Elapses, EachCase}
use Rattle.disk_model.specs.Frame.{Spares, IsSettledOn}
use Rattle.disk_model.specs.Place.{IsNoArea, IsNoSlot, IsOutside}
use Rattle.disk_model.specs.lemmas.Frames.{settled_on, settled_before, settled_less}
use Rattle.disk_model.specs.Laws.{cases_on, elapses_on}
use Rattle.disk_model.specs.lemmas.Places.{outside_no_slot, outside_no_area}
use Rattle.disk_model.specs.declared.place.Place.{Place}
use Rattle.guarded_cell.specs.Register.{IsAlone}
use Rattle.guarded_cell.specs.Stops.{PutStops}
use Rattle.index_text.specs.declared.entries.Index.{Index}
use Rattle.index_text.specs.Rules.{IsIndex}
use Rattle.element_state.specs.declared.shapes.Shape.{Shape}
use Rattle.element_state.specs.States.{State, store_at}
use Rattle.element_state.specs.Clean.{IsClean}
use Rattle.element_state.specs.Conditions.{IsShape}
use Rattle.element_state.specs.Kept.{IsKeptCase, IsKeptMending}
use Rattle.element_laws.specs.Phases.{IsOfPlace, UntouchedLaw, AdoptLaw, MendLaw, OpensAt}
use Rattle.element_store.specs.Mends.{AreShown, MendsCase}

-- ---- the storage is kept

module _ (shape : Shape) (old one : Medium) (is : IsShape shape) (clean : IsClean shape old.image)
    (idle : IsIdle old one) (untouched : UntouchedLaw) (after : State) where
  pub first_kept : (c : Case) → one.since old.moment c → IsKeptCase shape old.image after c
  first_kept c past = untouched shape old.image after c is.some clean
      (settled_on (IsOfPlace shape.place) (idle.during c past))

  module _ (two : Medium) (adopt : AdoptLaw) (g : ℕ) (text : List ℕ) (index : Index)
      (opens : OpensAt shape old.image g text index) (t1 : Elapses old one) (t2 : Elapses one two)
      (puts : EachCase (PutStops shape.place g text one.image) one two) where
    pub second_kept : (c : Case) → two.since old.moment c → IsKeptCase shape old.image after c
    second_kept c past = ⊎_elim (first_kept c)
        (λ later. adopt shape old.image g text index after c is.some clean opens
        (subst (λ (i : Image). PutStops shape.place g text i c) idle.image (puts c later)))
        (cases_on t1 t2 c past)

    module _ (three : Medium) (mend : MendLaw) (views : List Entry) (rules : IsIndex index)
        (shown : AreShown shape index views old.image)
        (alone : IsAlone two.image shape.place g text)
        (areas : Spares (IsNoSlot shape.place) one.image two.image)
        (t3 : Elapses two three) (during : EachCase (MendsCase shape index views two.image) two three) where
      pub third_kept : (c : Case) → three.since old.moment c → IsKeptMending shape old.image after c
      third_kept c past = ⊎_elim (λ earlier twins. second_kept c earlier)
          (λ later. mend shape old.image two.image g text index after c is.some
          (record {
            clean = clean;
            opens = opens;
            alone = alone;
            areas = subst (λ (i : Image). Spares (IsNoSlot shape.place) i two.image) idle.image
                areas;
          })
          rules (during c later old.image shown))
          (cases_on (elapses_on t1 t2) t3 c past)

-- ---- no file outside changes

module _ (place : Place) (old one two : Medium) (same : one.image ≡ old.image)
    (areas : Spares (IsNoSlot place) one.image two.image) where
  pub slots_outside : Spares (IsOutside place) old.image two.image
  slots_outside f out = subst (λ (i : Image). two.image f ≡ i f) same (areas f (outside_no_slot place f out))

  pub both_outside : (three : Image) → Spares (IsNoArea place) two.image three
      → Spares (IsOutside place) old.image three
  both_outside three slots f out = slots f (outside_no_area place f out) ∙ slots_outside f out

module _ (place : Place) (g : ℕ) (text : List ℕ) (old one two : Medium) (idle : IsIdle old one) (t1 : Elapses old one)
    (t2 : Elapses one two)
    (puts : EachCase (PutStops place g text one.image) one two) where
  pub second_outside : EachCase (IsSettledOn (IsOutside place) old.image) old two
  second_outside c past = ⊎_elim
      (λ early. settled_on (IsOutside place) (idle.during c early))
      (λ later. settled_less (λ f out. outside_no_slot place f out)
      (subst (λ (i : Image). IsSettledOn (IsNoSlot place) i c) idle.image (puts c later).elsewhere))
      (cases_on t1 t2 c past)

  module _ (shape : Shape) (at_place : shape.place ≡ place)
      (three : Medium) (index : Index) (views : List Entry)
      (shown : AreShown shape index views old.image) (areas : Spares (IsNoSlot place) one.image two.image)
      (t3 : Elapses two three) (during : EachCase (MendsCase shape index views two.image) two three) where
    pub third_outside : EachCase (IsSettledOn (IsOutside place) old.image) old three
    third_outside c past = ⊎_elim (second_outside c)
        (λ later.
        let it = during c later old.image shown in
        let settled : IsSettledOn (IsNoArea shape.place) two.image c =
        record { base = it.base.slots; full = it.full.slots; left = it.left.slots } in
        settled_before (slots_outside place old one two idle.image areas)
        (settled_less (λ f out. outside_no_area place f out)
        (subst (λ (p : Place). IsSettledOn (IsNoArea p) two.image c) at_place settled)))
        (cases_on (elapses_on t1 t2) t3 c past)
