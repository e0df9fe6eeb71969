-- The phases of a call, from the cases of a crash to what is kept.
use Rattle.std.proofs.Common.{◌≡◌, ℕ, ◌*◌, ◌<◌, ◌≤◌, ◌⊎◌, Bool, true, false, List, [], ◌∷◌, Option, Some, None, cond}
use Rattle.std.proofs.Common.{find, refl, sym, ap, subst, ◌∙◌, inl, inr, arith}
use Rattle.std.specs.Prelude.{map, length, slice_index}
use Rattle.std.specs.List.{AllByRecursion}
use Rattle.disk_model.specs.Image.{Image}
use Rattle.disk_model.specs.Case.{Case, IsSettledAt}
use Rattle.disk_model.specs.Damage.{DecaysFor, IsSoundFor, IsUndamaged}
use Rattle.disk_model.specs.Frame.{Keeps, KeepsCase}
use Rattle.disk_model.specs.Place.{slot, area, IsNoArea}
use Rattle.hash_guard.specs.SealedText.{VerifiesAs}
use Rattle.guarded_cell.specs.Register.{Holds, own}
use Rattle.guarded_cell.specs.Stops.{IsSlotPiece, IsOldOrNew, HoldsLess}
use Rattle.guarded_cell.specs.lemmas.StopLaws.{alone_only}
use Rattle.block_files.specs.Aside.{Where, StandsAside, AsideLaw}
use Rattle.block_files.specs.Contents.{counting}
use Rattle.block_files.specs.Areas.{has_all_bytes}
use Rattle.index_text.specs.declared.entries.Index.{Index}
use Rattle.index_text.specs.declared.entries.IndexEntry.{IndexEntry}
use Rattle.index_text.specs.Reading.{index_of}
use Rattle.index_text.specs.Rules.{IsIndex, IsEntry}
use Rattle.element_state.specs.declared.shapes.Shape.{Shape}
use Rattle.element_state.specs.declared.shapes.View.{View}
use Rattle.element_state.specs.Fit.{FitText, fit_texts}
use Rattle.element_state.specs.Views.{qualifies, view_of}
use Rattle.element_state.specs.States.{State, Opens, Corrupt, beside, first_picked, state_of, store_at, corrupt_state}
use Rattle.element_state.specs.Clean.{where_of, IsNamed, IsPiece, in_slot, in_blocks, IsClean}
use Rattle.element_state.specs.Chosen.{chosen, or_first}
use Rattle.element_state.specs.Kept.{Kept, IsKeptOn, SameHeadings, all_views}
use Rattle.element_laws.specs.Phases.{IsOfPlace, DamageLaw, UntouchedLaw, OpensAt, IsCorruptAt, CorruptLaw, IsSalvageAt}
use Rattle.element_laws.specs.Phases.{IsAdopted, AdoptLaw, KeepLaw, TakesBlocks, ContentsLaw, ContentsDoneLaw}
use Rattle.element_laws.specs.lemmas.Lists.{In, all_by, all_in, Contains-In, In-map, not_none, not_false, some_is}
use Rattle.element_laws.specs.lemmas.Copies.{CopyGives}
use Rattle.element_laws.specs.lemmas.Fits.{fit-spelled, picked_parts, In-views}
use Rattle.element_laws.specs.lemmas.Standing.{gift_of, generation_of, one_fit}
use Rattle.element_laws.specs.lemmas.Left.{is_whole_at}
use Rattle.element_laws.specs.lemmas.Keeping.{HoldsOnly, IsLess, IsFewer, KeepsAll, less_keeps, at_first, its}
use Rattle.element_laws.specs.lemmas.Keeping.{its_generation}
use Rattle.element_laws.specs.lemmas.Keeping.{its_only, less_opens, less_clean, salvage_first, fewer_corrupt}
use Rattle.element_laws.specs.lemmas.Keeping.{fewer_salvage}
use Rattle.element_laws.specs.lemmas.Keeping.{fewer_clean}
use Rattle.element_laws.specs.lemmas.Frames.{own_small, slot_no_area, area_no_slot, its_blocks, given_piece, given_back}
use Rattle.element_laws.specs.lemmas.Frames.{whole_on, less_decays, fewer_decays}

-- ---- at which text a storage opens

pub no_open : (vs : List View) (w : View) (rest : List View) → corrupt_state vs ≡ Opens w rest → ⊥
no_open [] w rest e = cc
no_open (v ∷ vs) w rest e = cc

none_picked : {A : Type 0} (q : A → Bool) (xs : List A) → find q xs ≡ None → first_picked q xs ≡ None
none_picked q [] e = refl
none_picked q (y ∷ ys) e = elim (q y) as (λ b. cond b (Some y) (find q ys) ≡ None
    → cond b (Some (y, ys)) (beside y (first_picked q ys)) ≡ None) [
      | true ↦ λ e. absurd (not_none y e)
      | false ↦ λ e. ap (beside y) (none_picked q ys e)
    ] e

module _ (shape : Shape) (start : Image) where
  abbrev pub pick : Option (FitText × List FitText)
  pick = first_picked (qualifies start shape) (fit_texts shape start)

  picks : (o : Option (FitText × List FitText)) → pick ≡ o → (v : View) (others : List View)
      → state_of (view_of start shape) (fit_texts shape start) o ≡ Opens v others
      → (r : FitText × List FitText) × (pick ≡ Some r) × (view_of start shape r.0 ≡ v)
  picks None e v others is = absurd (no_open (map (view_of start shape) (fit_texts shape start)) v others is)
  picks (Some r) e v others is = (r, e, cc)

  pub opens_pick : (v : View) (others : List View) → store_at start shape ≡ Opens v others
      → (r : FitText × List FitText) × (pick ≡ Some r) × (view_of start shape r.0 ≡ v)
  unfolding store_at
  opens_pick v others is = picks pick refl v others is

  -- on a clean image no other text has the headings of the one at which it opens
  pub one_view : IsClean shape start → (v : View) (others : List View) → store_at start shape ≡ Opens v others
      → AllByRecursion (λ w. SameHeadings w v → w ≡ v) (all_views (store_at start shape))
  unfolding store_at
  one_view clean v others is =
      let (r, e, shown) = opens_pick v others is in
      let view : FitText → View = view_of start shape in
      let q : FitText → Bool = qualifies start shape in
      let xs : List FitText = fit_texts shape start in
      all_by (λ w. SameHeadings w v → w ≡ v) (all_views (state_of view xs pick)) (λ w h same.
      let x = In-views view q xs w pick refl h in
      let gen : x.0.0.generation ≡ r.0.0.generation = sym (generation_of shape start x.0)
      ∙ ap (λ (u : View). u.generation) x.2 ∙ same.generation ∙ ap (λ (u : View). u.generation) (sym shown)
      ∙ generation_of shape start r.0 in
      sym x.2 ∙ ap view (one_fit shape start clean x.0 r.0 x.1 ((picked_parts q xs r e).1 r.0 (inl refl)) gen) ∙ shown)

  none_pick : (o : Option (FitText × List FitText)) → pick ≡ o → (salvage : Option View) (others : List View)
      → state_of (view_of start shape) (fit_texts shape start) o ≡ Corrupt salvage others → pick ≡ None
  none_pick None e salvage others is = e
  none_pick (Some r) e salvage others is = cc

  pub corrupt_pick : IsCorruptAt shape start → pick ≡ None
  unfolding store_at
  corrupt_pick is = none_pick pick refl is.0 is.1 is.2

-- ---- where a storage opens, nothing is asked of a salvage

not_picked : (ts : List FitText) (q : FitText → Bool) (o : Option FitText) (r : FitText × List FitText) (text : FitText)
    → find q ts ≡ o → first_picked q ts ≡ Some r
    → or_first ts o ≡ Some (false, text) → ⊥
not_picked ts q None r text e found is = absurd (not_none r (sym found ∙ none_picked q ts e))
not_picked ts q (Some x) r text e found is = not_false
    (sym (ap (λ (p : Bool × FitText). p.0) (some_is (true, x) (false, text) is)))

opens_first : (shape : Shape) (start : Image) (r : FitText × List FitText) (text : FitText) → pick shape start ≡ Some r
    → chosen start shape ≡ Some (false, text) → ⊥
unfolding chosen
opens_first shape start r text found is =
    not_picked (fit_texts shape start) (qualifies start shape) (find (qualifies start shape) (fit_texts shape start)) r
    text refl found is

pub opened_on : (shape : Shape) (start new : Image) (damaged : List ℕ) (after : State) (r : FitText × List FitText)
    → pick shape start ≡ Some r
    → Kept shape damaged (store_at new shape) (store_at start shape) after → IsClean shape new
    → IsKeptOn shape damaged start new after
opened_on shape start new damaged after r found kept clean = record {
  kept = kept;
  salvage = λ text is holder. absurd (opens_first shape start r text found is);
  clean = clean;
}

-- ---- what is less is kept

-- from a storage that opens at a text
pub less_kept : (shape : Shape) (start new : Image) (damaged : List ℕ) (g : ℕ) (t : List ℕ) (i : Index) (after : State)
    → 1 ≤ shape.m → IsClean shape start
    → OpensAt shape start g t i → IsLess shape g t damaged start new → IsKeptOn shape damaged start new after
less_kept shape start new damaged g t i after positive clean opens less =
    let (r, e, is) = opens_pick shape start opens.view opens.others opens.opens in
    let fit = its shape start new damaged positive clean r e in
    let gen : g ≡ fit.generation = sym opens.generation_is ∙ sym (ap (λ (v : View). v.generation) is)
    ∙ generation_of shape start r.0
    ∙ sym (its_generation shape start new damaged positive clean r e) in
    let text : t ≡ fit.text = its_only shape start new damaged positive clean r e g t
    (record { copy = opens.copy; inside = opens.inside; holds = opens.held }) gen in
    let of_it : IsLess shape fit.generation fit.text damaged start new =
    subst (λ (h : ℕ). IsLess shape h fit.text damaged start new) gen
    (subst (λ (u : List ℕ). IsLess shape g u damaged start new) text less) in
    opened_on shape start new damaged after r e (less_opens shape start new damaged positive clean r e of_it after)
    (less_clean shape start new damaged positive clean r e of_it)

-- from a corrupt one
pub fewer_kept : (shape : Shape) (start new : Image) (damaged : List ℕ) (after : State) → 1 ≤ shape.m
    → IsClean shape start → IsCorruptAt shape start
    → IsFewer shape start new → ((text : FitText) → IsSalvageAt shape start text
    → KeepsAll shape text.0.generation text.0.text damaged start new)
    → IsKeptOn shape damaged start new after
fewer_kept shape start new damaged after positive clean corrupt fewer keeps =
    let none = corrupt_pick shape start corrupt in
    record {
      kept = fewer_corrupt shape start new damaged positive clean fewer none after keeps;
      salvage = fewer_salvage shape start new damaged positive clean fewer none after keeps;
      clean = fewer_clean shape start new damaged positive clean fewer;
    }

-- ---- what nobody touched

module _ (shape : Shape) (start mid new : Image) (damaged : List ℕ) (after : State) (positive : 1 ≤ shape.m)
    (clean : IsClean shape start)
    (same : (f : ℕ) → IsOfPlace shape.place f → mid f ≡ start f) (d : DecaysFor (IsPiece shape.place) damaged mid new)
  where
    slot_same : (copy h : ℕ) → copy < shape.place.copies → mid (slot shape.place copy (own h))
        ≡ start (slot shape.place copy (own h))
    slot_same copy h lt = let small = own_small h in same (slot shape.place copy (own h))
        (record { copy = copy; kind = own h; inside = lt; small = omega (arith, small); is = refl })

    area_same : (copy : ℕ) → copy < shape.place.copies → mid (area shape.place copy)
        ≡ start (area shape.place copy)
    area_same copy lt = same (area shape.place copy)
        (record { copy = copy; kind = 2; inside = lt; small = omega arith; is = refl })

    held_same : (copy h : ℕ) (u : List ℕ) → copy < shape.place.copies → Holds mid shape.place copy h u
        → Holds start shape.place copy h u
    held_same copy h u lt v = subst (λ (bytes : List ℕ). VerifiesAs bytes h u) (slot_same copy h lt) v

    given_same : (at : Where) (copy : ℕ) (w : List ℕ) → copy < shape.place.copies
        → CopyGives (gift_of mid shape at) copy w
        → CopyGives (gift_of start shape at) copy w
    given_same at copy w lt gives = subst (λ (file : List ℕ). counting file at.blocks at.len at.hash ≡ Some w)
        (area_same copy lt) gives

    same_less : (g : ℕ) (t : List ℕ) → IsLess shape g t damaged start mid
    same_less g t = record {
      held = λ copy h u lt v. inl (held_same copy h u lt v);
      counted = λ at is copy w lt gives. inl (given_same at copy w lt gives);
      text = λ copy lt spared v. subst (λ (bytes : List ℕ). VerifiesAs bytes g t) (sym (slot_same copy g lt)) v;
      whole = λ i spells e k copy v lt spared was gave.
          let at = where_of e in
          subst (λ (file : List ℕ). (has_all_bytes file at.blocks at.len ≡ true)
          × (counting file at.blocks at.len at.hash ≡ Some v)) (sym (area_same copy lt)) (was, gave);
    }

    same_fewer : IsFewer shape start mid
    same_fewer = record {
      held = λ copy lt h u v. held_same copy h u lt v;
      counted =
          λ at is copy w lt gives. given_same at copy w lt gives;
    }

    same_keeps : (text : FitText) → IsSalvageAt shape start text
        → KeepsAll shape text.0.generation text.0.text damaged start new
    same_keeps text is = less_keeps shape text.0.generation text.0.text damaged start new
        (less_decays shape damaged mid new d text.0.generation text.0.text start
        (same_less text.0.generation text.0.text))

    by_pick : (o : Option (FitText × List FitText)) → pick shape start ≡ o → IsKeptOn shape damaged start new after
    by_pick None e =
        let fewer = fewer_decays shape damaged mid new d start same_fewer in
        record {
          kept = fewer_corrupt shape start new damaged positive clean fewer e after same_keeps;
          salvage = fewer_salvage shape start new damaged positive clean fewer e after same_keeps;
          clean = fewer_clean shape start new damaged positive clean fewer;
        }
    by_pick (Some r) e =
        let fit = its shape start new damaged positive clean r e in
        let less = less_decays shape damaged mid new d fit.generation fit.text start (same_less fit.generation fit.text)
        in
        opened_on shape start new damaged after r e (less_opens shape start new damaged positive clean r e less after)
        (less_clean shape start new damaged positive clean r e less)

    pub same_kept : IsKeptOn shape damaged start new after
    same_kept = by_pick (pick shape start) refl

pub damage : DamageLaw
damage shape start left damaged positive clean d =
    let on = same_kept shape start start left damaged (store_at start shape) positive clean (λ f is. refl) d in
    (on.kept, on.clean)

pub untouched : UntouchedLaw
untouched shape start after c positive clean settled sound damaged image d =
    same_kept shape start c.left image damaged after positive clean (λ f is. settled.left f is) d

-- ---- where none qualifies

is_corrupt : (vs : List View) → (salvage : Option View) × (others : List View)
    × (corrupt_state vs ≡ Corrupt salvage others)
is_corrupt [] = (None, [], refl)
is_corrupt (v ∷ vs) = (Some v, vs, refl)

pub corrupt_found : CorruptLaw
unfolding store_at
corrupt_found shape start e =
    let it = is_corrupt (map (view_of start shape) (fit_texts shape start)) in (
      it.0,
      it.1,
      ap (state_of (view_of start shape) (fit_texts shape start))
          (none_picked (qualifies start shape) (fit_texts shape start) e) ∙ it.2,
    )

-- ---- the text of a salvage

first_false : (ts : List FitText) (o : Option FitText) (text : FitText) → or_first ts o ≡ Some (false, text) → o ≡ None
first_false ts None text e = refl
first_false ts (Some x) text e = absurd (not_false (sym
    (ap (λ (p : Bool × FitText). p.0) (some_is (true, x) (false, text) e))))

pub salvage_corrupt : (shape : Shape) (start : Image) (text : FitText) → IsSalvageAt shape start text
    → IsCorruptAt shape start
unfolding chosen
salvage_corrupt shape start text is = corrupt_found shape start
    (first_false (fit_texts shape start) (find (qualifies start shape) (fit_texts shape start)) text is)

-- some copy holds it
pub salvage_held : (shape : Shape) (start : Image) (text : FitText) → IsSalvageAt shape start text
    → (copy : ℕ) × (copy < shape.place.copies) × Holds start shape.place copy text.0.generation text.0.text
salvage_held shape start text is =
    let list = salvage_first shape start text is in
    let at = at_first shape start text list.0 list.1 in (
      at.copy,
      at.inside,
      subst (λ (u : FitText). Holds start shape.place at.copy u.0.generation u.0.text) at.is
          at.holds,
    )

pub one_salvage : (shape : Shape) (start : Image) (text other : FitText) → IsSalvageAt shape start text
    → IsSalvageAt shape start other → text ≡ other
one_salvage shape start text other a b = ap (λ (p : Bool × FitText). p.1)
    (some_is (false, text) (false, other) (sym a ∙ b))

-- ---- slots are written, and no area

module _ (shape : Shape) (c : Case) where
  pub sound_slots : IsSoundFor (IsPiece shape.place) c → IsSoundFor (IsSlotPiece shape.place) c
  sound_slots sound x is = sound (in_slot x) is

  pub decays_slots : (damaged : List ℕ) (image : Image) → DecaysFor (IsPiece shape.place) damaged c.left image
      → DecaysFor (IsSlotPiece shape.place) damaged c.left image
  decays_slots damaged image d = record { others = d.others; pieces = λ x is. d.pieces (in_slot x) is }

-- contents are what they were, where the areas were not touched
module _ (shape : Shape) (start left new : Image) (damaged : List ℕ)
    (same : (copy : ℕ) → left (area shape.place copy) ≡ start (area shape.place copy))
    (d : DecaysFor (IsPiece shape.place) damaged left new) where
  pub given_then : (at : Where) → IsNamed shape.place new at → (copy : ℕ) (w : List ℕ) → copy < shape.place.copies
      → CopyGives (gift_of new shape at) copy w → CopyGives (gift_of start shape at) copy w
  given_then at is copy w lt gives =
      subst (λ (file : List ℕ). counting file at.blocks at.len at.hash ≡ Some w) (same copy)
      (given_back shape damaged left new d at is copy w lt gives)

  pub whole_then : (at : Where) (copy : ℕ) (v : List ℕ) → IsUndamaged damaged shape.place copy
      → is_whole_at start shape copy at ≡ true
      → CopyGives (gift_of start shape at) copy v → (is_whole_at new shape copy at ≡ true)
      × CopyGives (gift_of new shape at) copy v
  whole_then at copy v spared was gave = whole_on shape damaged left new d copy at v spared
      (subst (λ (file : List ℕ). (has_all_bytes file at.blocks at.len ≡ true)
      × (counting file at.blocks at.len at.hash ≡ Some v)) (sym (same copy)) (was, gave))

pub adopt : AdoptLaw
adopt shape start g t i after c positive clean opens stops sound damaged image d =
    let it : IsOldOrNew shape.place g t damaged start image =
    stops.slots (sound_slots shape c sound) damaged image (decays_slots shape c damaged image d) in
    let same = λ (copy : ℕ). stops.elsewhere.left (area shape.place copy)
    (area_no_slot shape.place copy) in
    less_kept shape start image damaged g t i after positive clean opens (record {
      held = λ copy h u lt v. it.known copy lt h u v;
      counted = λ at is copy w lt gives. inl (given_then shape start c.left image damaged same d at is copy w lt gives);
      text = it.kept;
      whole = λ j spells e k copy v lt spared was gave. whole_then shape start c.left image damaged same d (where_of e)
          copy v spared was gave;
    })

pub keep : KeepLaw
keep shape start text after c positive clean salvage stops sound damaged image d =
    let known : HoldsLess shape.place start image =
    stops.known (sound_slots shape c sound) damaged image (decays_slots shape c damaged image d) in
    let same = λ (copy : ℕ). stops.elsewhere.left (area shape.place copy)
    (area_no_slot shape.place copy) in
    let its : KeepsAll shape text.0.generation text.0.text damaged start image = record {
      text = stops.kept (sound_slots shape c sound) damaged image (decays_slots shape c damaged image d);
      whole = λ j spells e k copy v lt spared was gave. whole_then shape start c.left image damaged same d (where_of e)
          copy v spared was gave;
    } in
    fewer_kept shape start image damaged after positive clean (salvage_corrupt shape start text salvage) (record {
      held = known;
      counted = λ at is copy w lt gives. given_then shape start c.left image damaged same d at is copy w lt gives;
    })
    (λ other is. subst (λ (u : FitText). KeepsAll shape u.0.generation u.0.text damaged start image)
    (one_salvage shape start text other salvage is) its)

-- ---- contents are written, in blocks outside those of the text that is held alone

-- blocks are enough for their contents
pub room : (i : Index) → IsIndex i → (e : IndexEntry) → In e i.entries → e.len ≤ 256 * length e.blocks
room i is e h = let entry = all_in (IsEntry i.format i.kind) i.entries is.each e h in let blocks =
    entry.blocks in omega (arith, blocks)

-- contents of a text that is held alone are contents of its index
pub named_entry : (shape : Shape) (image : Image) (g : ℕ) (t : List ℕ) (i : Index) → index_of t ≡ Some i
    → HoldsOnly shape image g t
    → (at : Where) → IsNamed shape.place image at → (e : IndexEntry) × In e i.entries × (where_of e ≡ at)
named_entry shape image g t i spells only at is =
    let same = only is.copy is.generation is.text is.inside is.held in
    let one : is.index ≡ i = some_is is.index i (sym is.spelled ∙ ap index_of same.1 ∙ spells) in
    In-map where_of at i.entries (subst (λ (j : Index). In at (map where_of j.entries)) one
    (Contains-In at (map where_of is.index.entries) is.named))

module _ (aside : AsideLaw) (shape : Shape) (now : Image) (i : Index) (taken : ℕ → Bool) (is_index : IsIndex i)
    (takes : TakesBlocks taken i)
    (old c : Case) (settled : IsSettledAt now old) (keeps : KeepsCase (IsNoArea shape.place)
    (λ k. taken k ≡ true) old c) where
  pub stands_aside : (e : IndexEntry) → In e i.entries → (f : ℕ)
      → StandsAside (where_of e) (now f) (c.base f) (c.full f) (c.left f)
  stands_aside e h f = aside shape.place taken now old c settled keeps (where_of e)
      (all_in (λ (e : IndexEntry). (k : ℕ) → k < length e.blocks → taken (slice_index e.blocks k) ≡ true) i.entries
      takes e h) (room i is_index e h) f

  pub slot_then : (copy h : ℕ) → c.left (slot shape.place copy (own h))
      ≡ now (slot shape.place copy (own h))
  slot_then copy h = keeps.left.files (slot shape.place copy (own h))
      (slot_no_area shape.place copy h)
      ∙ ap (λ (image : Image). image (slot shape.place copy (own h))) settled.left

pub contents_less : AsideLaw → (shape : Shape) (start now : Image) (g : ℕ) (t : List ℕ) (i : Index) (taken : ℕ → Bool)
    (damaged : List ℕ) (old c : Case)
    → IsAdopted shape start now g t i → IsIndex i → TakesBlocks taken i → IsSettledAt now old
    → KeepsCase (IsNoArea shape.place) (λ k. taken k ≡ true) old c
    → IsSoundFor (IsPiece shape.place) c
    → IsLess shape g t damaged start c.left × HoldsOnly shape c.left g t
contents_less aside shape start now g t i taken damaged old c adopted is_index takes settled keeps sound =
    let place = shape.place in
    let copies = shape.place.copies in
    let its_slot = λ (copy h : ℕ). slot_then aside shape now i taken is_index takes old c settled keeps copy h in
    let stands = λ (e : IndexEntry) (k : In e i.entries) (f : ℕ).
    stands_aside aside shape now i taken is_index takes old c settled keeps e k f in
    let area_was = λ (copy : ℕ). adopted.areas (area place copy) (area_no_slot place copy) in
    let held_now = λ (copy h : ℕ) (u : List ℕ) (v : Holds c.left place copy h u).
    subst (λ (bytes : List ℕ). VerifiesAs bytes h u) (its_slot copy h) v in
    let only : HoldsOnly shape c.left g t = λ copy h u lt v.
    alone_only now place g t adopted.alone copy lt h u (held_now copy h u v) in
    let spells = fit-spelled shape t i adopted.opens.fit in
    let less : IsLess shape g t damaged start c.left = record {
      held = λ copy h u lt v. inr (only copy h u lt v);
      counted = λ at is copy w lt gives.
          let (e, k, same) = named_entry shape c.left g t i spells only at is in
          let piece = sound (in_blocks (its_blocks shape copy at w)) (given_piece shape copy at w c.left lt is gives) in
          let from : (counting (c.base (area place copy)) at.blocks at.len at.hash ≡ Some w)
          ⊎ (counting (c.full (area place copy)) at.blocks at.len at.hash ≡ Some w) =
          elim piece [ inl p ↦ inl p.counts | inr p ↦ inr p.counts ] in
          let stand = subst (λ (at : Where). StandsAside at (now (area place copy)) (c.base (area place copy))
          (c.full (area place copy)) (c.left (area place copy))) same (stands e k (area place copy)) in
          inl (subst (λ (file : List ℕ). counting file at.blocks at.len at.hash ≡ Some w) (area_was copy)
          (stand.piece w from));
      text = λ copy lt spared v. subst (λ (bytes : List ℕ). VerifiesAs bytes g t) (sym (its_slot copy g))
          (adopted.alone.held copy lt);
      whole = λ j spelled e k copy v lt spared was gave.
          let one : j ≡ i = some_is j i (sym spelled ∙ spells) in
          let at = where_of e in
          let now_is = subst (λ (file : List ℕ). (has_all_bytes file at.blocks at.len ≡ true)
          × (counting file at.blocks at.len at.hash ≡ Some v)) (sym (area_was copy)) (was, gave) in
          let stand = (stands e (subst (λ (j : Index). In e j.entries) one k) (area place copy)).whole now_is.0 in
          (stand.1, stand.0 ∙ now_is.1);
    } in
    (less, only)

pub contents : AsideLaw → ContentsLaw
contents aside shape start now g t i taken after old c positive adopted is_index takes settled keeps sound damaged image
    d =
    let less = contents_less aside shape start now g t i taken damaged old c adopted is_index takes settled keeps
    sound in
    less_kept shape start image damaged g t i after positive adopted.clean adopted.opens
    (less_decays shape damaged c.left image d g t start less.0)

-- after whole writes, with nothing pending
pub contents_then : AsideLaw → (shape : Shape) (start now then : Image) (g : ℕ) (t : List ℕ) (i : Index)
    (taken : ℕ → Bool) (damaged : List ℕ)
    → IsAdopted shape start now g t i → IsIndex i → TakesBlocks taken i
    → Keeps (IsNoArea shape.place) (λ k. taken k ≡ true) now then
    → IsLess shape g t damaged start then × HoldsOnly shape then g t
contents_then aside shape start now then g t i taken damaged adopted is_index takes keeps =
    contents_less aside shape start now g t i taken damaged (record { base = now; full = now; left = now })
    (record { base = now; full = then; left = then })
    adopted is_index takes (record { base = refl; full = refl; left = refl })
    (record {
      base = refl;
      full = keeps;
      left = record {
        files = keeps.files;
        bytes = λ f k j lt apart inside. keeps.bytes f k j lt apart;
        no_shorter =
            keeps.no_shorter;
      };
    })
    (λ x is. inr is)

pub contents_done : AsideLaw → ContentsDoneLaw
contents_done aside shape start now then g t i taken after c positive adopted is_index takes keeps settled sound damaged
    image d =
    let less = (contents_then aside shape start now then g t i taken damaged adopted is_index takes keeps).0 in
    less_kept shape start image damaged g t i after positive adopted.clean adopted.opens
    (less_decays shape damaged c.left image d g t start (subst (λ (im : Image). IsLess shape g t damaged start im)
    (sym settled.left) less))
