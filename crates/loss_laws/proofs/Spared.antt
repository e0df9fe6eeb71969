-- A storage whose slots are as they were, where its contents were lost.
use Rattle.std.proofs.Common.{◌≡◌, ◌⊎◌, ℕ, zero, suc, ◌+◌, ◌<◌, ◌≤◌, List, [], ◌∷◌, length, Bool, true, false, cond}
use Rattle.std.proofs.Common.{Option, Some, None, refl, sym, ap, subst, ◌∙◌, inl, inr, ⊎_elim, arith}
use Rattle.std.specs.Prelude.{map, nat_le}
use Rattle.std.specs.List.{AllZip}
use Rattle.per_base.specs.declared.elements.Content.TheVariants.{Bad, Good}
use Rattle.per_base.specs.declared.elements.Scope.{Scope}
use Rattle.per_base.specs.declared.elements.Scope.TheVariants as scope
use Rattle.hash_guard.specs.SealedText.{verified}
use Rattle.disk_model.specs.Image.{Image}
use Rattle.disk_model.specs.Place.{slot}
use Rattle.flash_model.specs.Pages.{Pages}
use Rattle.flash_disk.specs.Emptied.{LosesAnyPages}
use Rattle.flash_disk.specs.FlashFiles.{flash_files}
use Rattle.flash_disk.specs.Newest.{places}
use Rattle.flash_laws.specs.Lost.{SparesFile}
use Rattle.guarded_cell.specs.Held.{held_in_first, of_parity, with_slot}
use Rattle.guarded_cell.specs.Register.{Holds}
use Rattle.index_text.specs.declared.entries.IndexEntry.{IndexEntry}
use Rattle.element_state.specs.Clean.{where_of}
use Rattle.element_state.specs.declared.shapes.Shape.{Shape}
use Rattle.element_state.specs.declared.shapes.View.{View}
use Rattle.element_state.specs.Fit.{FitText, fit_among, fit_texts}
use Rattle.element_state.specs.States.{beside, Corrupt, first_picked, Opens, others_of, state_of, store_at}
use Rattle.element_state.specs.Views.{content_of, entry_view, qualifies, supporters, view_of}
use Rattle.element_laws.specs.Apart.{FrameLaw}
use Rattle.element_laws.specs.lemmas.Copies.{voted_given}
use Rattle.element_laws.specs.lemmas.Fits.{fit_at, fit-In, In-fit, IsHeldFit, picked_parts}
use Rattle.element_laws.specs.lemmas.Left.{good_is, value_at}
use Rattle.element_laws.specs.lemmas.Lists.{In, zip_map}
use Rattle.element_laws.specs.lemmas.Phases.{opens_pick, pick}
use Rattle.element_laws.specs.lemmas.Standing.{generation_of, gift_of}
use Rattle.deploy_laws.specs.Laws.{SaysFrameLaw}
use Rattle.loss_laws.specs.Spared.{IsKeptOrCorrupt, KeepTwins, ReadsOrRefuses, SparedRootsLaw, SparedSlotsLaw}
use Rattle.loss_laws.specs.Spared.{BringsOlder, IsSameOrOlder, OlderLaw, SparedStoragesLaw}
use Rattle.loss_laws.proofs.Lists.{alone_picked}
use Rattle.loss_laws.proofs.Storages.{map_none}

-- ---- elements

module _ (old new : Image) (shape : Shape) (positive : 1 ≤ shape.m) (twins : KeepTwins shape.place old new) where
  module _ (e : IndexEntry) (v : List ℕ) where
    abbrev n : ℕ
    n = shape.place.copies

    by_value : value_at old shape (where_of e) ≡ Some v → (o salvage : Option (List ℕ))
        → value_at new shape (where_of e) ≡ o
        → (content_of o salvage ≡ Good v) ⊎ ((s : Option (List ℕ)) × (content_of o salvage ≡ Bad s))
    by_value was None salvage is = inr (salvage, refl)
    by_value was (Some w) salvage is =
        let gave = voted_given shape.m n positive (gift_of old shape (where_of e)) v was in
        let gives = voted_given shape.m n positive (gift_of new shape (where_of e)) w is in
        inl (ap (λ y. Good y) (twins (where_of e) gave.0 gives.0 v w gave.1 gives.1 gave.2 gives.2))

  kept : (e : IndexEntry) → IsKeptOrCorrupt (entry_view new shape.place shape.m e)
      (entry_view old shape.place shape.m e)
  unfolding entry_view
  kept e = record {
    name = refl;
    info = refl;
    changed = refl;
    len = refl;
    content = λ v good. by_value e v
        (good_is (value_at old shape (where_of e)) _ v good) (value_at new shape (where_of e)) _ refl;
  }

-- ---- a storage that opened at a text, alone

module _ (old : Image) (shape : Shape) (view : View) (opens : store_at old shape ≡ Opens view []) where
  opened : (r : FitText × List FitText) × (pick shape old ≡ Some r) × (view_of old shape r.0 ≡ view)
  opened = opens_pick shape old view [] opens

  abbrev x : FitText
  x = opened.0.0

  opened_at : store_at old shape ≡ Opens (view_of old shape x) (map (view_of old shape) opened.0.1)
  unfolding store_at
  opened_at = ap (state_of (view_of old shape) (fit_texts shape old)) opened.1

  alone : fit_texts shape old ≡ x ∷ []
  alone = alone_picked (qualifies old shape) (fit_texts shape old) opened.0 opened.1
      (map_none (view_of old shape) opened.0.1 (ap others_of (sym opened_at ∙ opens)))

module _ (old new : Image) (shape : Shape) (positive : 1 ≤ shape.m)
    (slots : (copy parity : ℕ) → copy < shape.place.copies → parity < 2
    → new (slot shape.place copy parity) ≡ old (slot shape.place copy parity))
    (twins : KeepTwins shape.place old new) (view : View) (opens : store_at old shape ≡ Opens view []) where
  held_same : (n : ℕ) → n ≤ shape.place.copies → held_in_first new shape.place n ≡ held_in_first old shape.place n
  unfolding held_in_first
  held_same zero le = refl
  held_same (suc copy) le =
      let lt : copy < shape.place.copies = omega (arith, le) in
      ap (λ bytes. with_slot (copy + 1) (of_parity 1 (verified bytes))
      (with_slot (copy + 1) (of_parity 0 (verified (new (slot shape.place copy 0))))
      (held_in_first new shape.place copy))) (slots copy 1 lt (omega arith))
      ∙ ap (λ bytes. with_slot (copy + 1) (of_parity 1 (verified (old (slot shape.place copy 1))))
      (with_slot (copy + 1) (of_parity 0 (verified bytes)) (held_in_first new shape.place copy)))
      (slots copy 0 lt (omega arith))
      ∙ ap (λ seens. with_slot (copy + 1) (of_parity 1 (verified (old (slot shape.place copy 1))))
      (with_slot (copy + 1) (of_parity 0 (verified (old (slot shape.place copy 0)))) seens))
      (held_same copy (omega (arith, le)))

  texts_same : fit_texts shape new ≡ fit_texts shape old
  unfolding fit_texts
  texts_same = ap (fit_among shape) (held_same shape.place.copies (omega arith))

  abbrev its : FitText
  its = x old shape view opens

  alone_now : fit_texts shape new ≡ its ∷ []
  alone_now = texts_same ∙ alone old shape view opens

  state_now : store_at new shape ≡ state_of (view_of new shape) (its ∷ []) (first_picked (qualifies new shape) (its ∷ []))
  unfolding store_at
  state_now = ap (λ texts. state_of (view_of new shape) texts (first_picked (qualifies new shape) texts)) alone_now

  by_test : (b : Bool)
      → (state_of (view_of new shape) (its ∷ []) (cond b (Some (its, [])) (beside its None))
      ≡ Opens (view_of new shape its) [])
      ⊎ (state_of (view_of new shape) (its ∷ []) (cond b (Some (its, [])) (beside its None))
      ≡ Corrupt (Some (view_of new shape its)) [])
  by_test true = inl refl
  by_test false = inr refl

  one_of_two : (store_at new shape ≡ Opens (view_of new shape its) [])
      ⊎ (store_at new shape ≡ Corrupt (Some (view_of new shape its)) [])
  one_of_two = elim (by_test (qualifies new shape its)) [ inl is ↦ inl (state_now ∙ is) | inr is ↦ inr (state_now ∙ is) ]

  same_supporters : (s : Scope) → s ≡ scope.Element
      → supporters s new shape.place its ≡ supporters s old shape.place its
  same_supporters scope.Element e = refl
  same_supporters scope.Storage e = cc

  still_opens : shape.scope ≡ scope.Element → store_at new shape ≡ Opens (view_of new shape its) []
  still_opens e =
      let passes : qualifies new shape its ≡ true =
      ap (λ xs. nat_le shape.m (length xs)) (same_supporters shape.scope e)
      ∙ (picked_parts (qualifies old shape) (fit_texts shape old) (opened old shape view opens).0
      (opened old shape view opens).1).2 in
      state_now ∙ ap (λ b. state_of (view_of new shape) (its ∷ []) (cond b (Some (its, [])) (beside its None))) passes

  each_kept : AllZip IsKeptOrCorrupt (view_of new shape its).entries (view_of old shape its).entries
  unfolding view_of
  each_kept = zip_map IsKeptOrCorrupt (entry_view new shape.place shape.m) (entry_view old shape.place shape.m)
      its.1.entries (λ e h. kept old new shape positive twins e)

  pub reads : ReadsOrRefuses shape view (store_at new shape)
  reads = record {
    view = view_of new shape its;
    is = one_of_two;
    element = still_opens;
    generation = generation_of shape new its ∙ sym (generation_of shape old its)
        ∙ ap (λ (w : View). w.generation) (opened old shape view opens).2;
    each = subst (λ (w : View). AllZip IsKeptOrCorrupt (view_of new shape its).entries w.entries)
        (opened old shape view opens).2 each_kept;
  }

-- ---- where what is held now was held, or is older

module _ (old new : Image) (shape : Shape) (positive : 1 ≤ shape.m) (twins : KeepTwins shape.place old new)
    (view : View) (opens : store_at old shape ≡ Opens view [])
    (known : BringsOlder shape.place view.generation old new) (now : View) (others : List View)
    (opens_now : store_at new shape ≡ Opens now others) where
  picked : (r : FitText × List FitText) × (pick shape new ≡ Some r) × (view_of new shape r.0 ≡ now)
  picked = opens_pick shape new now others opens_now

  it : IsHeldFit new shape picked.0.0
  it = In-fit new shape picked.0.0
      ((picked_parts (qualifies new shape) (fit_texts shape new) picked.0 picked.1).1 picked.0.0 (inl refl))

  generation_now : now.generation ≡ it.generation
  generation_now = ap (λ (w : View). w.generation) (sym picked.2) ∙ generation_of shape new picked.0.0
      ∙ ap (λ (y : FitText). y.0.generation) (sym it.is)

  now_is : view_of new shape (fit_at new shape it.generation it.text it.index) ≡ now
  now_is = ap (view_of new shape) it.is ∙ picked.2

  module _ (c : ℕ) (lt : c < shape.place.copies) (was : Holds old shape.place c it.generation it.text) where
    view_is : view_of old shape (fit_at old shape it.generation it.text it.index) ≡ view
    view_is = elim (subst (λ (zs : List FitText). In (fit_at old shape it.generation it.text it.index) zs)
        (alone old shape view opens)
        (fit-In old shape c it.generation it.text it.index lt was it.fit)) [
          | inl e ↦ ap (view_of old shape) (sym e) ∙ (opened old shape view opens).2
          | inr none ↦ absurd none
        ]

    each_as_was : AllZip IsKeptOrCorrupt (view_of new shape (fit_at new shape it.generation it.text it.index)).entries
        (view_of old shape (fit_at old shape it.generation it.text it.index)).entries
    unfolding view_of
    each_as_was = zip_map IsKeptOrCorrupt (entry_view new shape.place shape.m) (entry_view old shape.place shape.m)
        it.index.entries (λ e h. kept old new shape positive twins e)

    same_view : IsSameOrOlder now view
    same_view = inr (
      generation_now ∙ sym (generation_of shape old (fit_at old shape it.generation it.text it.index))
          ∙ ap (λ (w : View). w.generation) view_is,
      subst (λ (w : View). AllZip IsKeptOrCorrupt w.entries view.entries) now_is
          (subst (λ (w : View). AllZip IsKeptOrCorrupt
          (view_of new shape (fit_at new shape it.generation it.text it.index)).entries w.entries) view_is each_as_was),
    )

  pub same_or_older : IsSameOrOlder now view
  same_or_older = ⊎_elim
      (λ less. inl (let e = generation_now in omega (arith, less, e)))
      (λ held. same_view held.0 held.1 held.2)
      (known it.copy it.generation it.text it.inside it.holds)

pub brings_older : OlderLaw
brings_older old new shape view positive twins known opens now others opens_now = same_or_older old new shape positive
    twins view opens known now others opens_now

-- ---- from flash

abbrev pub FilesLaw : Type 0
FilesLaw = (old new : Pages) (blocks file : ℕ) → LosesAnyPages old new → SparesFile old new (places blocks) file
    → flash_files new blocks file ≡ flash_files old blocks file

pub spared_storages : FilesLaw → FrameLaw → SparedStoragesLaw
spared_storages files frame old new blocks shape loses spares = (frame shape (flash_files old blocks)
    (flash_files new blocks) (λ file of_place. files old new blocks file loses (spares file of_place))).state

pub spared_roots : FilesLaw → SaysFrameLaw → SparedRootsLaw
spared_roots files frame old new blocks app loses spares = frame app (flash_files old blocks) (flash_files new blocks)
    (λ file of_place. files old new blocks file loses (spares file of_place))

pub spared_slots : FilesLaw → SparedSlotsLaw
spared_slots files old new blocks shape view loses positive spares twins opens =
    reads (flash_files old blocks) (flash_files new blocks) shape positive
    (λ copy parity lt small. files old new blocks (slot shape.place copy parity) loses (spares copy parity lt small))
    twins view opens
