-- What is kept whatever files are damaged is kept by pieces: damage that spares pieces of some copies is compared with
-- one that spares all files of these copies.
use Rattle.std.proofs.Common.{◌≡◌, ℕ, zero, suc, ◌+◌, ◌*◌, ◌<◌, ◌≤◌, ◌⊎◌, Bool, true, false, ◌&&◌, List, [], ◌∷◌}
use Rattle.std.proofs.Common.{length, cond, find, Option, Some, None, refl, sym, ap, subst, ◌∙◌, inl, inr, arith}
use Rattle.std.specs.Prelude.{map, is_some, ◌||◌, nat_eq, nat_le}
use Rattle.std.specs.List.{AllZip, Contains, list_all}
use Rattle.std.proofs.lemmas.Bool.{le-leb, leb-true, eqb-true, eq-eqb, cases_eq, cases_Bool}
use Rattle.per_base.specs.declared.elements.Scope.{Scope}
use Rattle.per_base.specs.declared.elements.Scope.TheVariants as scope
use Rattle.per_base.specs.declared.elements.Entry.{Entry}
use Rattle.per_base.specs.declared.elements.Content.{Content}
use Rattle.per_base.specs.declared.elements.Content.TheVariants.{Good}
use Rattle.disk_model.specs.declared.place.Place.{Place}
use Rattle.disk_model.specs.Image.{Image}
use Rattle.disk_model.specs.Damage.{DecaysFor, IsUndamaged, AtLeast}
use Rattle.disk_model.specs.Place.{slot, area}
use Rattle.hash_guard.specs.SealedText.{VerifiesAs}
use Rattle.m_of_n.specs.Laws.{voted-held}
use Rattle.guarded_cell.specs.Register.{Holds, own}
use Rattle.guarded_cell.specs.Stops.{SlotText, IsSlotPiece}
use Rattle.guarded_cell.specs.lemmas.HeldLaws.{holds_is, is_holds}
use Rattle.guarded_cell.specs.lemmas.StopLaws.{at_least_map, at_least_one}
use Rattle.block_files.specs.Aside.{Where}
use Rattle.block_files.specs.Areas.{has_all_bytes}
use Rattle.block_files.specs.Contents.{counting, first_content, lacks}
use Rattle.index_text.specs.declared.entries.Index.{Index}
use Rattle.index_text.specs.declared.entries.IndexEntry.{IndexEntry}
use Rattle.element_state.specs.declared.shapes.Shape.{Shape}
use Rattle.element_state.specs.declared.shapes.View.{View}
use Rattle.element_state.specs.Fit.{FitText, fit_index, fit_texts}
use Rattle.element_state.specs.Views.{holds_text, counts, holds_all, supporters, qualifies, content_of, entry_view}
use Rattle.element_state.specs.Views.{view_of}
use Rattle.element_state.specs.States.{State, Opens, Corrupt, beside, first_picked, state_of, store_at}
use Rattle.element_state.specs.Clean.{where_of, IsNamed, IsPiece, in_slot, in_blocks, BlockText}
use Rattle.element_state.specs.Clean.{IsBlockPiece, IsClean}
use Rattle.element_state.specs.Chosen.{chosen, or_first}
use Rattle.element_state.specs.Kept.{SameHeadings, IsLeftOf, IsFrom, IsSpared, HasEnough, KeepsGood, CostsNoCopy}
use Rattle.element_state.specs.Kept.{Kept, all_views, StaysAs}
use Rattle.element_laws.specs.Pieces.{SparesTexts, SparesContent, SparesStorage, HasEnoughContent, KeepsElement}
use Rattle.element_laws.specs.Pieces.{HasEnoughStorage, OpensAs, OpensAsAfter, IsYounger, PiecesLaw}
use Rattle.element_laws.specs.Pieces.{PiecesCaseLaw, FilesLaw, StaysByPieces, OnwardLaw, RotsApart, TwoRotsLaw}
use Rattle.element_laws.specs.lemmas.Lists.{In, In-Contains, Contains-In, not_none, some_is, not_false, both_true}
use Rattle.element_laws.specs.lemmas.Lists.{true_both, or_true, true_or, false_not_true, not_is_false, there_is}
use Rattle.element_laws.specs.lemmas.Lists.{list_all-In, In-list_all, zip_with, zip_both, all_in, nothing_listed}
use Rattle.element_laws.specs.lemmas.Copies.{Gift, CopyGives, gifts, AreAlike, good_now}
use Rattle.element_laws.specs.lemmas.Copies.{holders_many, first_given, none_given, good_same, bad_good}
use Rattle.element_laws.specs.lemmas.Fits.{fit_at, IsHeldFit, In-fit, fit-In, fit_descends, pick_greatest, picked_max}
use Rattle.element_laws.specs.lemmas.Fits.{picked_parts, none_passes, views-In}
use Rattle.element_laws.specs.lemmas.Standing.{gift_of, one_fit, generation_of, headings_of, index_heading}
use Rattle.element_laws.specs.lemmas.Left.{value_at, good_is, spared_has, not_listed, that_le, named, alike}
use Rattle.element_laws.specs.lemmas.Frames.{own_small, held_back}
use Rattle.element_laws.specs.lemmas.Frames.{named_back, given_back}
use Rattle.element_laws.specs.lemmas.Phases.{pick, opens_pick, damage}

-- ---- copies that were counted, as a test

-- copies that were counted and pass the test that finds them
abbrev Counted : (P : ℕ → Type 0) (n m : ℕ) → Type 0
Counted P n m = (test : ℕ → Bool) × ((c : ℕ) → test c ≡ true → (c < n) × P c) × AtLeast (λ c. test c ≡ true) n m

counted_as : (P : ℕ → Type 0) (n m : ℕ) → AtLeast P n m → Counted P n m
counted_as P n zero some = ((λ c. false), (λ c e. absurd (not_false e)), tt)
counted_as P zero (suc m) some = absurd some
counted_as P (suc n) (suc m) (inl one) =
    let r = counted_as P n m one.1 in
    let test : ℕ → Bool = λ c. nat_eq c n || r.0 c in (
      test,
      λ c e. elim (or_true (nat_eq c n) (r.0 c) e) [
        | inl is ↦ let same : c ≡ n = eqb-true c n is in (omega (arith, same), subst P (sym same) one.0)
        | inr is ↦ let it = r.1 c is in let lt = it.0 in (omega (arith, lt), it.1)
      ],
      inl (
        true_or (nat_eq n n) (r.0 n) (inl (eq-eqb n n refl)),
        at_least_map (λ c. r.0 c ≡ true) (λ c. test c ≡ true) n m (λ c lt is. true_or (nat_eq c n) (r.0 c) (inr is))
            r.2,
      ),
    )
counted_as P (suc n) (suc m) (inr rest) =
    let r = counted_as P n (suc m) rest in (
      r.0,
      λ c e. let it = r.1 c e in let lt = it.0 in (omega (arith, lt), it.1),
      inr r.2,
    )

-- ---- files of copies that pass a test

module _ (place : Place) (test : ℕ → Bool) where
  abbrev is_file : ℕ → ℕ → Bool
  is_file c f = nat_le (place.first + 4 * c) f && nat_le f (place.first + 4 * c + 2)

  -- the file is one of the copies, of the first n, that pass
  abbrev is_of : ℕ → ℕ → Bool
  is_of zero f = false
  is_of (suc n) f = (test n && is_file n f) || is_of n f

  of_one : (n f : ℕ) → is_of n f ≡ true
      → (c : ℕ) × (c < n) × (test c ≡ true) × (place.first + 4 * c ≤ f) × (f ≤ place.first + 4 * c + 2)
  of_one zero f e = absurd (not_false e)
  of_one (suc n) f e = elim (or_true (test n && is_file n f) (is_of n f) e) [
    | inl is ↦
        let both = both_true (test n) (is_file n f) is in
        let range = both_true (nat_le (place.first + 4 * n) f) (nat_le f (place.first + 4 * n + 2)) both.1 in (
          n,
          omega arith,
          both.0,
          leb-true (place.first + 4 * n) f range.0,
          leb-true f (place.first + 4 * n + 2) range.1,
        )
    | inr is ↦ let r = of_one n f is in let lt = r.1 in (r.0, omega (arith, lt), r.2, r.3, r.4)
  ]

  one_of : (n c f : ℕ) → c < n → test c ≡ true → place.first + 4 * c ≤ f → f ≤ place.first + 4 * c + 2
      → is_of n f ≡ true
  one_of zero c f lt is low high = absurd (omega (arith, lt))
  one_of (suc n) c f lt is low high = true_or (test n && is_file n f) (is_of n f) (elim (cases_eq c n) [
    | inl same ↦ inl (true_both (test n) (is_file n f) (subst (λ (k : ℕ). test k ≡ true) same is)
        (true_both (nat_le (place.first + 4 * n) f) (nat_le f (place.first + 4 * n + 2))
        (le-leb (place.first + 4 * n) f (omega (arith, same, low)))
        (le-leb f (place.first + 4 * n + 2) (omega (arith, same, high)))))
    | inr ne ↦ inr (one_of n c f (omega (arith, lt, ne)) is low high)
  ])

  none_of : (n c f : ℕ) → test c ≡ false → place.first + 4 * c ≤ f → f ≤ place.first + 4 * c + 2
      → is_of n f ≡ false
  none_of n c f isnt low high = false_not_true (is_of n f) (λ e.
      let r = of_one n f e in
      let low_r = r.3 in
      let high_r = r.4 in
      let same : r.0 ≡ c = omega (arith, low, high, low_r, high_r) in
      not_false (sym isnt ∙ subst (λ (k : ℕ). test k ≡ true) same r.2))

  -- the image with these files as another has them, and the damaged files that are none of them
  abbrev restored : (n : ℕ) (left image : Image) → Image
  restored n left image f = cond (is_of n f) (left f) (image f)

  abbrev damaged_else : (n : ℕ) → List ℕ → List ℕ
  damaged_else n [] = []
  damaged_else n (f ∷ fs) = cond (is_of n f) (damaged_else n fs) (f ∷ damaged_else n fs)

  else_not : (n : ℕ) (fs : List ℕ) (f : ℕ) → In f (damaged_else n fs) → is_of n f ≡ false
  else_not n [] f h = absurd h
  else_not n (x ∷ fs) f h = elim (cases_Bool (is_of n x)) [
    | inl is ↦ else_not n fs f (subst (λ (b : Bool). In f (cond b (damaged_else n fs) (x ∷ damaged_else n fs))) is h)
    | inr isnt ↦ elim (subst (λ (b : Bool). In f (cond b (damaged_else n fs) (x ∷ damaged_else n fs))) isnt h) [
      | inl same ↦ subst (λ (k : ℕ). is_of n k ≡ false) same isnt
      | inr k ↦ else_not n fs f k
    ]
  ]

  in_else : (n : ℕ) (fs : List ℕ) (f : ℕ) → In f fs → is_of n f ≡ false → In f (damaged_else n fs)
  in_else n [] f h isnt = absurd h
  in_else n (x ∷ fs) f h isnt = elim (cases_Bool (is_of n x)) [
    | inl is ↦ subst (λ (b : Bool). In f (cond b (damaged_else n fs) (x ∷ damaged_else n fs))) (sym is)
        (elim h [
          | inl same ↦ absurd (not_false (sym isnt ∙ subst (λ (k : ℕ). is_of n k ≡ true) same is))
          | inr k ↦ in_else n fs f k isnt
        ])
    | inr off ↦ subst (λ (b : Bool). In f (cond b (damaged_else n fs) (x ∷ damaged_else n fs))) (sym off)
        (elim h [ inl same ↦ inl same | inr k ↦ inr (in_else n fs f k isnt) ])
  ]

-- ---- lists side by side

zip_unmap : {A B C : Type 0} (R : C → B → Type 0) (f : A → C) (xs : List A) (ys : List B)
    → AllZip R (map f xs) ys → AllZip (λ x y. R (f x) y) xs ys
zip_unmap R f [] [] h = tt
zip_unmap R f [] (y ∷ ys) h = absurd h
zip_unmap R f (x ∷ xs) [] h = absurd h
zip_unmap R f (x ∷ xs) (y ∷ ys) h = (h.0, zip_unmap R f xs ys h.1)

later_found : {A : Type 0} (q : A → Bool) (x : A) (xs : List A) (r : A × List A)
    → ((s : A × List A) → first_picked q xs ≡ Some s → find q xs ≡ Some s.0) → (o : Option (A × List A))
    → first_picked q xs ≡ o → beside x o ≡ Some r → find q xs ≡ Some r.0
later_found q x xs r found None is e = absurd (not_none r (sym e))
later_found {A} q x xs r found (Some s) is e = found s is
    ∙ ap (λ (t : A × List A). Some t.0) (some_is (s.0, x ∷ s.1) r e)

picked_find : {A : Type 0} (q : A → Bool) (xs : List A) (r : A × List A) → first_picked q xs ≡ Some r
    → find q xs ≡ Some r.0
picked_find q [] r e = absurd (not_none r (sym e))
picked_find {A} q (x ∷ xs) r e = elim (q x) as (λ b. cond b (Some (x, xs)) (beside x (first_picked q xs)) ≡ Some r
    → cond b (Some x) (find q xs) ≡ Some r.0) [
      | true ↦ λ e. ap (λ (s : A × List A). Some s.0) (some_is (x, xs) r e)
      | false ↦ λ e. later_found q x xs r (picked_find q xs) (first_picked q xs) refl e
    ] e

find_picked : {A : Type 0} (q : A → Bool) (xs : List A) (x : A) → find q xs ≡ Some x
    → (r : A × List A) × (first_picked q xs ≡ Some r) × (r.0 ≡ x)
find_picked q [] x e = absurd (not_none x (sym e))
find_picked {A} q (y ∷ ys) x e = elim (q y) as (λ b. cond b (Some y) (find q ys) ≡ Some x
    → (r : A × List A) × (cond b (Some (y, ys)) (beside y (first_picked q ys)) ≡ Some r) × (r.0 ≡ x)) [
      | true ↦ λ e. ((y, ys), refl, some_is y x e)
      | false ↦ λ e. let r = find_picked q ys x e in ((r.0.0, y ∷ r.0.1), ap (beside y) r.1, r.2)
    ] e

-- ---- a text that qualifies on one image, on another

module _ (shape : Shape) (a b : Image) (g : ℕ) (t : List ℕ) (i : Index)
    (held : (c : ℕ) → c < shape.place.copies → Holds a shape.place c g t → Holds b shape.place c g t)
    (counted : shape.scope ≡ scope.Storage → (e : IndexEntry) → In e i.entries → (copy : ℕ) (w : List ℕ)
    → copy < shape.place.copies → CopyGives (gift_of a shape (where_of e)) copy w
    → CopyGives (gift_of b shape (where_of e)) copy w) where
  text_on : (c : ℕ) → c < shape.place.copies → holds_text a shape.place (fit_at a shape g t i) c ≡ true
      → holds_text b shape.place (fit_at b shape g t i) c ≡ true
  text_on c lt e = is_holds b shape.place c (g, t) (held c lt (holds_is a shape.place c (g, t) e))

  all_on : shape.scope ≡ scope.Storage → (c : ℕ) → c < shape.place.copies
      → holds_all a shape.place (fit_at a shape g t i) c ≡ true
      → holds_all b shape.place (fit_at b shape g t i) c ≡ true
  all_on storage c lt e =
      let r = both_true (holds_text a shape.place (fit_at a shape g t i) c)
      (list_all (λ e. counts a shape.place e c) i.entries) e in
      true_both (holds_text b shape.place (fit_at b shape g t i) c)
      (list_all (λ e. counts b shape.place e c) i.entries) (text_on c lt r.0)
      (In-list_all (λ e. counts b shape.place e c) i.entries (λ x h.
      let v = there_is (gift_of a shape (where_of x) c)
      (list_all-In (λ e. counts a shape.place e c) x i.entries r.1 h) in
      ap is_some (counted storage x h c v.0 lt v.1)))

  supported_on : (s : Scope) → shape.scope ≡ s
      → shape.m ≤ length (supporters s a shape.place (fit_at a shape g t i))
      → shape.m ≤ length (supporters s b shape.place (fit_at b shape g t i))
  supported_on scope.Element is le = that_le (holds_text a shape.place (fit_at a shape g t i))
      (holds_text b shape.place (fit_at b shape g t i)) shape.place.copies shape.m text_on le
  supported_on scope.Storage is le = that_le (holds_all a shape.place (fit_at a shape g t i))
      (holds_all b shape.place (fit_at b shape g t i)) shape.place.copies shape.m (all_on is) le

  qualifies_on : qualifies a shape (fit_at a shape g t i) ≡ true → qualifies b shape (fit_at b shape g t i) ≡ true
  qualifies_on passes =
      le-leb shape.m (length (supporters shape.scope b shape.place (fit_at b shape g t i)))
      (supported_on shape.scope refl (leb-true shape.m (length
      (supporters shape.scope a shape.place (fit_at a shape g t i))) passes))

-- ---- texts alike

headings_on : (shape : Shape) (a b : Image) (x y : FitText) (there : View) → x.0.generation ≡ y.0.generation
    → x.1 ≡ y.1 → SameHeadings (view_of a shape x) there → SameHeadings (view_of b shape y) there
headings_on shape a b x y there gen index same = record {
  generation = generation_of shape b y ∙ sym gen ∙ sym (generation_of shape a x) ∙ same.generation;
  entries = headings_of shape b y ∙ ap (λ (i : Index). map index_heading i.entries) (sym index)
      ∙ sym (headings_of shape a x) ∙ same.entries;
}

-- ---- the image with the copies restored that are spared

module _ (shape : Shape) (damaged : List ℕ) (left image : Image)
    (d : DecaysFor (IsPiece shape.place) damaged left image) (test : ℕ → Bool)
    (spares : (c : ℕ) → test c ≡ true → SparesStorage shape left image c) where
  abbrev n : ℕ
  n = shape.place.copies

  abbrev back : Image
  back = restored shape.place test n left image

  abbrev files : List ℕ
  files = damaged_else shape.place test n damaged

  at_true : (f : ℕ) → is_of shape.place test n f ≡ true → back f ≡ left f
  at_true f e = ap (λ b. cond b (left f) (image f)) e

  at_false : (f : ℕ) → is_of shape.place test n f ≡ false → back f ≡ image f
  at_false f e = ap (λ b. cond b (left f) (image f)) e

  slot_of : (c p : ℕ) → c < n → p < 2 → test c ≡ true → back (slot shape.place c p) ≡ left (slot shape.place c p)
  slot_of c p lt small is = at_true (slot shape.place c p)
      (one_of shape.place test n c (slot shape.place c p) lt is (omega arith) (omega (arith, small)))

  slot_not : (c p : ℕ) → p < 2 → test c ≡ false → back (slot shape.place c p) ≡ image (slot shape.place c p)
  slot_not c p small isnt = at_false (slot shape.place c p)
      (none_of shape.place test n c (slot shape.place c p) isnt (omega arith) (omega (arith, small)))

  area_of : (c : ℕ) → c < n → test c ≡ true → back (area shape.place c) ≡ left (area shape.place c)
  area_of c lt is = at_true (area shape.place c)
      (one_of shape.place test n c (area shape.place c) lt is (omega arith) (omega arith))

  area_not : (c : ℕ) → test c ≡ false → back (area shape.place c) ≡ image (area shape.place c)
  area_not c isnt = at_false (area shape.place c)
      (none_of shape.place test n c (area shape.place c) isnt (omega arith) (omega arith))

  to_image : (c h : ℕ) (u : List ℕ) → c < n → Holds back shape.place c h u → Holds image shape.place c h u
  to_image c h u lt v = elim (cases_Bool (test c)) [
    | inl is ↦ (spares c is).0 h u
        (subst (λ (bytes : List ℕ). VerifiesAs bytes h u) (slot_of c (own h) lt (own_small h) is) v)
    | inr isnt ↦ subst (λ (bytes : List ℕ). VerifiesAs bytes h u) (slot_not c (own h) (own_small h) isnt) v
  ]

  of_image : (c h : ℕ) (u : List ℕ) → c < n → Holds image shape.place c h u → Holds back shape.place c h u
  of_image c h u lt v = elim (cases_Bool (test c)) [
    | inl is ↦ subst (λ (bytes : List ℕ). VerifiesAs bytes h u) (sym (slot_of c (own h) lt (own_small h) is))
        (held_back shape damaged left image d c h u lt v)
    | inr isnt ↦ subst (λ (bytes : List ℕ). VerifiesAs bytes h u) (sym (slot_not c (own h) (own_small h) isnt)) v
  ]

  named_image : (at : Where) → IsNamed shape.place back at → IsNamed shape.place image at
  named_image at is = record {
    copy = is.copy;
    generation = is.generation;
    text = is.text;
    index = is.index;
    inside = is.inside;
    held = to_image is.copy is.generation is.text is.inside is.held;
    spelled = is.spelled;
    named = is.named;
  }

  slot_piece : (s : SlotText) → IsSlotPiece shape.place back s → IsSlotPiece shape.place left s
  slot_piece s is = elim (cases_Bool (test s.copy)) [
    | inl on ↦ record {
      copy = is.copy;
      parity = is.parity;
      verifies = subst (λ (bytes : List ℕ). VerifiesAs bytes s.generation s.text)
          (slot_of s.copy s.parity is.copy is.parity on) is.verifies;
    }
    | inr off ↦ d.pieces (in_slot s) (record {
      copy = is.copy;
      parity = is.parity;
      verifies = subst (λ (bytes : List ℕ). VerifiesAs bytes s.generation s.text)
          (slot_not s.copy s.parity is.parity off) is.verifies;
    })
  ]

  block_piece : (b : BlockText) → IsBlockPiece shape.place back b → IsBlockPiece shape.place left b
  block_piece b is = elim (cases_Bool (test b.copy)) [
    | inl on ↦ record {
      inside = is.inside;
      named = named_back shape damaged left image d b.at (named_image b.at is.named);
      counts = subst (λ (file : List ℕ). counting file b.at.blocks b.at.len b.at.hash ≡ Some b.bytes)
          (area_of b.copy is.inside on) is.counts;
    }
    | inr off ↦ d.pieces (in_blocks b) (record {
      inside = is.inside;
      named = named_image b.at is.named;
      counts = subst (λ (file : List ℕ). counting file b.at.blocks b.at.len b.at.hash ≡ Some b.bytes)
          (area_not b.copy off) is.counts;
    })
  ]

  pub restored_decays : DecaysFor (IsPiece shape.place) files left back
  restored_decays = record {
    others = λ f outside. elim (cases_Bool (is_of shape.place test n f)) [
      | inl is ↦ at_true f is
      | inr isnt ↦ at_false f isnt ∙ d.others f (λ c. outside (In-Contains f files
          (in_else shape.place test n damaged f (Contains-In f damaged c) isnt)))
    ];
    pieces = λ x is. elim x as (λ x. IsPiece shape.place back x → IsPiece shape.place left x) [
      | in_slot s ↦ slot_piece s
      | in_blocks b ↦ block_piece b
    ] is;
  }

  pub restored_spared : (c : ℕ) → c < n → test c ≡ true → IsUndamaged files shape.place c
  restored_spared c lt is k small inside = not_false (sym
      (else_not shape.place test n damaged (shape.place.first + 4 * c + k)
      (Contains-In (shape.place.first + 4 * c + k) files inside))
      ∙ one_of shape.place test n c (shape.place.first + 4 * c + k) lt is (omega arith) (omega (arith, small)))

  -- with storage scope the copies give the same
  gift_to : shape.scope ≡ scope.Storage → (at : Where) → IsNamed shape.place image at → (c : ℕ) (w : List ℕ) → c < n
      → CopyGives (gift_of back shape at) c w → CopyGives (gift_of image shape at) c w
  gift_to storage at is c w lt gives = elim (cases_Bool (test c)) [
    | inl on ↦ (spares c on).1 storage at (named_back shape damaged left image d at is) w
        (subst (λ (file : List ℕ). counting file at.blocks at.len at.hash ≡ Some w) (area_of c lt on) gives)
    | inr off ↦ subst (λ (file : List ℕ). counting file at.blocks at.len at.hash ≡ Some w) (area_not c off) gives
  ]

  gift_from : (at : Where) → IsNamed shape.place image at → (c : ℕ) (w : List ℕ) → c < n
      → CopyGives (gift_of image shape at) c w → CopyGives (gift_of back shape at) c w
  gift_from at is c w lt gives = elim (cases_Bool (test c)) [
    | inl on ↦ subst (λ (file : List ℕ). counting file at.blocks at.len at.hash ≡ Some w) (sym (area_of c lt on))
        (given_back shape damaged left image d at is c w lt gives)
    | inr off ↦ subst (λ (file : List ℕ). counting file at.blocks at.len at.hash ≡ Some w) (sym (area_not c off)) gives
  ]

  -- ---- at which text it opens

  module _ (clean : IsClean shape image) (r : FitText × List FitText) (found : pick shape back ≡ Some r) where
    pub its : IsHeldFit back shape r.0
    its = In-fit back shape r.0 ((picked_parts (qualifies back shape) (fit_texts shape back) r found).1 r.0 (inl refl))

    abbrev pub its_text : FitText
    its_text = fit_at image shape its.generation its.text its.index

    pub its_holds : Holds image shape.place its.copy its.generation its.text
    its_holds = to_image its.copy its.generation its.text its.inside its.holds

    pub its_named : (e : IndexEntry) → In e its.index.entries → IsNamed shape.place image (where_of e)
    its_named e k = named shape image clean its.copy its.generation its.text its.index its.inside its_holds its.fit e k

    its_in : In its_text (fit_texts shape image)
    its_in = fit-In image shape its.copy its.generation its.text its.index its.inside its_holds its.fit

    pub its_passes : qualifies image shape its_text ≡ true
    its_passes = qualifies_on shape back image its.generation its.text its.index
        (λ c lt v. to_image c its.generation its.text lt v)
        (λ storage e k c w lt gives. gift_to storage (where_of e) (its_named e k) c w lt gives)
        (subst (λ x. qualifies back shape x ≡ true) (sym its.is)
        (picked_parts (qualifies back shape) (fit_texts shape back) r found).2)

    its_most : (z : FitText) → In z (fit_texts shape image) → qualifies image shape z ≡ true
        → z.0.generation ≤ its.generation
    its_most z h passes =
        let w = In-fit image shape z h in
        let there = fit-In back shape w.copy w.generation w.text w.index w.inside
        (of_image w.copy w.generation w.text w.inside w.holds) w.fit in
        let still = qualifies_on shape image back w.generation w.text w.index
        (λ c lt v. of_image c w.generation w.text lt v)
        (λ storage e k c u lt gives. gift_from (where_of e)
        (named shape image clean w.copy w.generation w.text w.index w.inside w.holds w.fit e k) c u lt gives)
        (subst (λ x. qualifies image shape x ≡ true) (sym w.is) passes) in
        let max : w.generation ≤ r.0.0.generation = picked_max (qualifies back shape) (fit_texts shape back) r
        (fit_descends back shape) found (fit_at back shape w.generation w.text w.index) there still in
        let a : w.generation ≡ z.0.generation = ap (λ (x : FitText). x.0.generation) w.is in
        let b : its.generation ≡ r.0.0.generation = ap (λ (x : FitText). x.0.generation) its.is in
        omega (arith, max, a, b)

    pub its_chosen : chosen image shape ≡ Some (true, its_text)
    unfolding chosen
    its_chosen =
        let s = pick_greatest (qualifies image shape) (fit_texts shape image) its_text (fit_descends image shape)
        its_in its_passes its_most (λ z h e. one_fit shape image clean z its_text h its_in e) in
        ap (or_first (fit_texts shape image))
        (picked_find (qualifies image shape) (fit_texts shape image) s.0 s.1)
        ∙ ap (λ (x : FitText). Some (true, x)) s.2

-- ---- what the copies that are counted give

module _ (shape : Shape) (left : Image) (e : IndexEntry) where
  abbrev at_e : Where
  at_e = where_of e

  abbrev gift_e : Gift
  gift_e = gift_of left shape at_e

  abbrev n_copies : ℕ
  n_copies = shape.place.copies

  -- a copy that does not lack a value gives it
  voted_gives : (v : List ℕ) (c : ℕ) → (entry_view left shape.place shape.m e).content ≡ Good v → c < n_copies
      → ¬ (Contains (entry_view left shape.place shape.m e).lacking (c + 1)) → CopyGives gift_e c v
  unfolding entry_view
  voted_gives v c good lt absent = (spared_has shape left at_e v c
      (good_is (value_at left shape at_e) (first_content (gifts gift_e n_copies)) v good) lt absent).0

  -- so does one where the value is not voted, but is what is left
  module _ (alike : AreAlike gift_e n_copies) (v : List ℕ) (c : ℕ) (lt : c < n_copies) where
    left_value : (w x : List ℕ) → CopyGives gift_e c x
        → (s : Option (List ℕ)) → first_content (gifts gift_e n_copies) ≡ s
        → IsLeftOf (content_of None s) (Good v) → CopyGives gift_e c v
    left_value w x gives None is kept = absurd (none_given gift_e n_copies is c x lt gives)
    left_value w x gives (Some s) is kept =
        let one = first_given gift_e n_copies s is in
        let same : v ≡ s = elim kept [ inl e ↦ good_same v s e | inr e ↦ absurd (bad_good (Some s) v (sym e)) ] in
        gives ∙ ap (λ y. Some y) (alike c one.0 x s lt one.1 gives one.2 ∙ sym same)

    left_gives_by : (o : Option (List ℕ)) → value_at left shape at_e ≡ o
        → IsLeftOf (content_of o (first_content (gifts gift_e n_copies))) (Good v)
        → ¬ (Contains (entry_view left shape.place shape.m e).lacking (c + 1)) → CopyGives gift_e c v
    unfolding entry_view
    left_gives_by (Some w) is kept absent =
        (spared_has shape left at_e w c is lt absent).0 ∙ ap (λ y. Some y) (sym (good_same v w kept))
    left_gives_by None is kept absent =
        let counts = not_is_false (is_some (gift_e c)) (subst (λ o. lacks o (gift_e c)
        (has_all_bytes (left (area shape.place c)) at_e.blocks at_e.len) ≡ false) is
        (not_listed shape left at_e (value_at left shape at_e) c lt absent)) in
        let x = there_is (gift_e c) counts in
        left_value v x.0 x.1 (first_content (gifts gift_e n_copies)) refl kept

    left_gives : IsLeftOf (entry_view left shape.place shape.m e).content (Good v)
        → ¬ (Contains (entry_view left shape.place shape.m e).lacking (c + 1)) → CopyGives gift_e c v
    unfolding entry_view
    left_gives kept absent = left_gives_by (value_at left shape at_e) refl kept absent

-- each copy that did not lack a good element, if enough are spared, gave it after the stop
abbrev GivesOn : Shape → (left image : Image) → IndexEntry → Entry → Type 0
GivesOn shape left image e f = (v : List ℕ) → f.content ≡ Good v
    → HasEnoughContent shape left image (where_of e) f.lacking → (c : ℕ) → c < shape.place.copies
    → ¬ (Contains f.lacking (c + 1)) → CopyGives (gift_of left shape (where_of e)) c v

-- with storage scope a good element is good
abbrev IsWide : Shape → (image : Image) → IndexEntry → Entry → Type 0
IsWide shape image e f = shape.scope ≡ scope.Storage → (v : List ℕ) → f.content ≡ Good v
    → (entry_view image shape.place shape.m e).content ≡ Good v

module _ (shape : Shape) (left image : Image) (positive : 1 ≤ shape.m) (e : IndexEntry)
    (alike : AreAlike (gift_of image shape (where_of e)) shape.place.copies) where
  -- enough copies give a value: it is read
  many_good : (v : List ℕ) → AtLeast (λ c. CopyGives (gift_of image shape (where_of e)) c v) shape.place.copies shape.m
      → (entry_view image shape.place shape.m e).content ≡ Good v
  unfolding entry_view
  many_good v many =
      let f : Gift = gift_of image shape (where_of e) in
      let one = at_least_one (λ c. CopyGives f c v) shape.place.copies shape.m positive many in
      ap (λ o. content_of o (first_content (gifts f shape.place.copies)))
      (good_now shape.m shape.place.copies positive f v (λ c w lt gives. alike c one.0 w v lt one.1 gives one.2) many)

  keeps_element : (f : Entry) → GivesOn shape left image e f → IsWide shape image e f
      → KeepsElement shape left image e f
  keeps_element f gives wide v good (inl storage) = wide storage v good
  keeps_element f gives wide v good (inr enough) = many_good v (at_least_map
      (λ c. SparesContent shape.place left image (where_of e) c × ¬ (Contains f.lacking (c + 1)))
      (λ c. CopyGives (gift_of image shape (where_of e)) c v) shape.place.copies shape.m
      (λ c lt s. s.0 v (gives v good enough c lt s.1)) enough)

view_at : (a b : View) (s t : List View) → Opens a s ≡ Opens b t → a ≡ b
view_at a b s t e = cc

found_true : (ts : List FitText) (o : Option FitText) (text : FitText) → or_first ts o ≡ Some (true, text)
    → o ≡ Some text
found_true ts (Some x) text e = ap (λ (p : Bool × FitText). Some p.1) (some_is (true, x) (true, text) e)
found_true [] None text e = absurd (not_none (true, text) (sym e))
found_true (t ∷ ts) None text e = absurd (not_false
    (ap (λ (p : Bool × FitText). p.0) (some_is (false, t) (true, text) e)))

finds : (shape : Shape) (image : Image) (text : FitText) → chosen image shape ≡ Some (true, text)
    → find (qualifies image shape) (fit_texts shape image) ≡ Some text
unfolding chosen
finds shape image text is = found_true (fit_texts shape image) (find (qualifies image shape) (fit_texts shape image))
    text is

opens_at : (shape : Shape) (image : Image) (r : FitText × List FitText) → pick shape image ≡ Some r
    → store_at image shape ≡ Opens (view_of image shape r.0) (map (view_of image shape) r.1)
unfolding store_at
opens_at shape image r e = ap (state_of (view_of image shape) (fit_texts shape image)) e

-- ---- from what is kept whatever files are damaged

module _ (shape : Shape) (before after : State) (damaged : List ℕ) (left image : Image) (positive : 1 ≤ shape.m)
    (law : (files : List ℕ) (other : Image) → DecaysFor (IsPiece shape.place) files left other
    → Kept shape files (store_at other shape) before after × IsClean shape other)
    (d : DecaysFor (IsPiece shape.place) damaged left image) where
  itself : DecaysFor (IsPiece shape.place) [] left left
  itself = record { others = λ f outside. refl; pieces = λ x is. is }

  left_kept : Kept shape [] (store_at left shape) before after
  left_kept = (law [] left itself).0

  left_clean : IsClean shape left
  left_clean = (law [] left itself).1

  image_clean : IsClean shape image
  image_clean = (law damaged image d).1

  -- a text that is held on the image, and fits
  module _ (copy g : ℕ) (t : List ℕ) (i : Index) (inside : copy < shape.place.copies)
      (holds : Holds image shape.place copy g t) (fit : fit_index shape t ≡ Some i) where
    abbrev here : FitText
    here = fit_at image shape g t i

    abbrev then : FitText
    then = fit_at left shape g t i

    held_then : Holds left shape.place copy g t
    held_then = held_back shape damaged left image d copy g t inside holds

    in_then : In then (fit_texts shape left)
    in_then = fit-In left shape copy g t i inside held_then fit

    alike_then : (e : IndexEntry) → In e i.entries → AreAlike (gift_of left shape (where_of e)) shape.place.copies
    alike_then = alike shape left left_clean copy g t i inside held_then fit

    passes_then : qualifies image shape here ≡ true → qualifies left shape then ≡ true
    passes_then = qualifies_on shape image left g t i
        (λ c lt v. held_back shape damaged left image d c g t lt v)
        (λ storage e k c w lt gives. given_back shape damaged left image d (where_of e)
        (named shape image image_clean copy g t i inside holds fit e k) c w lt gives)

    in_views : In (view_of left shape then) (all_views (store_at left shape))
    unfolding store_at
    in_views = views-In (view_of left shape) (qualifies left shape) (fit_texts shape left) then
        (first_picked (qualifies left shape) (fit_texts shape left)) refl in_then

    finish : (there : View) → chosen image shape ≡ Some (true, here) → SameHeadings (view_of image shape here) there
        → AllZip (GivesOn shape left image) i.entries there.entries
        → AllZip (IsWide shape image) i.entries there.entries → OpensAs shape left image here there
    finish there opens same gives wide = record {
      opens = opens;
      same = same;
      good = zip_with (λ e f. GivesOn shape left image e f × IsWide shape image e f) (KeepsElement shape left image)
          i.entries there.entries
          (λ e f h k both. keeps_element shape left image positive e
          (alike shape image image_clean copy g t i inside holds fit e h) f both.0 both.1)
          (zip_both (GivesOn shape left image) (IsWide shape image) i.entries there.entries gives wide);
    }

    spared_none : (lacking : List ℕ) (c : ℕ) → ¬ (Contains lacking (c + 1)) → IsSpared shape [] lacking c
    spared_none lacking c absent = (λ k small. nothing_listed (shape.place.first + 4 * c + k), absent)

    -- the text of before
    left_zip : (there : View) → IsFrom (view_of left shape then) there
        → CostsNoCopy shape [] (view_of left shape then) there
        → AllZip (GivesOn shape left image) i.entries there.entries
    unfolding view_of
    left_zip there from costs = zip_with
        (λ e f. IsLeftOf (entry_view left shape.place shape.m e).content f.content
        × ((v : List ℕ) (c : ℕ) → f.content ≡ Good v → c < shape.place.copies → IsSpared shape [] f.lacking c
        → ¬ (Contains (entry_view left shape.place shape.m e).lacking (c + 1))))
        (GivesOn shape left image) i.entries there.entries
        (λ e f h k both v good enough c lt absent. left_gives shape left e (alike_then e h) v c lt
        (subst (λ (x : Content). IsLeftOf (entry_view left shape.place shape.m e).content x) good both.0)
        (both.1 v c good lt (spared_none f.lacking c absent)))
        (zip_both (λ e f. IsLeftOf (entry_view left shape.place shape.m e).content f.content)
        (λ e f. (v : List ℕ) (c : ℕ) → f.content ≡ Good v → c < shape.place.copies → IsSpared shape [] f.lacking c
        → ¬ (Contains (entry_view left shape.place shape.m e).lacking (c + 1))) i.entries there.entries
        (zip_unmap (λ (x y : Entry). IsLeftOf x.content y.content) (entry_view left shape.place shape.m) i.entries
        there.entries from.contents)
        (zip_unmap (λ (x y : Entry). (v : List ℕ) (c : ℕ) → y.content ≡ Good v → c < shape.place.copies
        → IsSpared shape [] y.lacking c → ¬ (Contains x.lacking (c + 1))) (entry_view left shape.place shape.m)
        i.entries there.entries costs))

    -- the text of after, at which it opened after the stop
    after_zip : (there : View) → KeepsGood shape [] (view_of left shape then) there
        → CostsNoCopy shape [] (view_of left shape then) there
        → AllZip (GivesOn shape left image) i.entries there.entries
    unfolding view_of
    after_zip there good costs = zip_with
        (λ e f. ((v : List ℕ) → f.content ≡ Good v → (shape.scope ≡ scope.Storage) ⊎ HasEnough shape [] f.lacking
        → (entry_view left shape.place shape.m e).content ≡ Good v)
        × ((v : List ℕ) (c : ℕ) → f.content ≡ Good v → c < shape.place.copies → IsSpared shape [] f.lacking c
        → ¬ (Contains (entry_view left shape.place shape.m e).lacking (c + 1))))
        (GivesOn shape left image) i.entries there.entries
        (λ e f h k both v is enough c lt absent. voted_gives shape left e v c
        (both.0 v is (inr (at_least_map
        (λ c. SparesContent shape.place left image (where_of e) c × ¬ (Contains f.lacking (c + 1)))
        (IsSpared shape [] f.lacking) shape.place.copies shape.m (λ c lt s. spared_none f.lacking c s.1) enough)))
        lt (both.1 v c is lt (spared_none f.lacking c absent)))
        (zip_both (λ e f. (v : List ℕ) → f.content ≡ Good v
        → (shape.scope ≡ scope.Storage) ⊎ HasEnough shape [] f.lacking
        → (entry_view left shape.place shape.m e).content ≡ Good v)
        (λ e f. (v : List ℕ) (c : ℕ) → f.content ≡ Good v → c < shape.place.copies → IsSpared shape [] f.lacking c
        → ¬ (Contains (entry_view left shape.place shape.m e).lacking (c + 1))) i.entries there.entries
        (zip_unmap (λ (x y : Entry). (v : List ℕ) → y.content ≡ Good v
        → (shape.scope ≡ scope.Storage) ⊎ HasEnough shape [] y.lacking → x.content ≡ Good v)
        (entry_view left shape.place shape.m) i.entries there.entries good)
        (zip_unmap (λ (x y : Entry). (v : List ℕ) (c : ℕ) → y.content ≡ Good v → c < shape.place.copies
        → IsSpared shape [] y.lacking c → ¬ (Contains x.lacking (c + 1))) (entry_view left shape.place shape.m)
        i.entries there.entries costs))

    -- where the storage opened after the stop at a view of its generation, it opened at it
    one_then : (r : FitText × List FitText) → pick shape left ≡ Some r → (view_of left shape r.0).generation ≡ g
        → r.0 ≡ then
    one_then r found gen = one_fit shape left left_clean r.0 then
        ((picked_parts (qualifies left shape) (fit_texts shape left) r found).1 r.0 (inl refl)) in_then
        (sym (generation_of shape left r.0) ∙ gen)

-- ---- a storage that opened

module _ (shape : Shape) (v : View) (others : List View) (after : State) (damaged : List ℕ) (left image : Image)
    (positive : 1 ≤ shape.m) (follows : IsYounger (Opens v others) after)
    (law : (files : List ℕ) (other : Image) → DecaysFor (IsPiece shape.place) files left other
    → Kept shape files (store_at other shape) (Opens v others) after × IsClean shape other)
    (d : DecaysFor (IsPiece shape.place) damaged left image)
    (enough : HasEnoughStorage shape left image v.lacking) where
  counted : Counted (λ copy. SparesStorage shape left image copy × ¬ (Contains v.lacking (copy + 1)))
      shape.place.copies shape.m
  counted = counted_as (λ copy. SparesStorage shape left image copy × ¬ (Contains v.lacking (copy + 1)))
      shape.place.copies shape.m enough

  abbrev test : ℕ → Bool
  test = counted.0

  spares : (c : ℕ) → test c ≡ true → SparesStorage shape left image c
  spares c is = (counted.1 c is).1.0

  abbrev image_back : Image
  image_back = back shape damaged left image d test spares

  abbrev files_left : List ℕ
  files_left = files shape damaged left image d test spares

  on_back : Kept shape files_left (store_at image_back shape) (Opens v others) after × IsClean shape image_back
  on_back = law files_left image_back (restored_decays shape damaged left image d test spares)

  enough_back : HasEnough shape files_left v.lacking
  enough_back = at_least_map (λ c. test c ≡ true) (IsSpared shape files_left v.lacking) shape.place.copies shape.m
      (λ c lt is. (restored_spared shape damaged left image d test spares c lt is, (counted.1 c is).1.1)) counted.2

  enough_then : HasEnough shape [] v.lacking
  enough_then = at_least_map (λ copy. SparesStorage shape left image copy × ¬ (Contains v.lacking (copy + 1)))
      (IsSpared shape [] v.lacking) shape.place.copies shape.m
      (λ c lt s. (λ k small. nothing_listed (shape.place.first + 4 * c + k), s.1)) enough

  clean : IsClean shape image
  clean = image_clean shape (Opens v others) after damaged left image positive law d

  module _ (w : View) (rest : List View) (is : store_at image_back shape ≡ Opens w rest) where
    opened : (r : FitText × List FitText) × (pick shape image_back ≡ Some r) × (view_of image_back shape r.0 ≡ w)
    opened = opens_pick shape image_back w rest is

    abbrev held : IsHeldFit image_back shape opened.0.0
    held = its shape damaged left image d test spares clean opened.0 opened.1

    abbrev text : FitText
    text = fit_at image shape held.generation held.text held.index

    holds_it : Holds image shape.place held.copy held.generation held.text
    holds_it = its_holds shape damaged left image d test spares clean opened.0 opened.1

    generation_back : held.generation ≡ opened.0.0.0.generation
    generation_back = ap (λ (x : FitText). x.0.generation) held.is

    index_back : held.index ≡ opened.0.0.1
    index_back = ap (λ (x : FitText). x.1) held.is

    generation_w : w.generation ≡ held.generation
    generation_w = ap (λ (x : View). x.generation) (sym opened.2) ∙ generation_of shape image_back opened.0.0
        ∙ sym generation_back

    headings : (there : View) → SameHeadings w there → SameHeadings (view_of image shape text) there
    headings there same = headings_on shape image_back image opened.0.0 text there (sym generation_back)
        (sym index_back) (subst (λ (x : View). SameHeadings x there) (sym opened.2) same)

    headings_then : (there : View) → SameHeadings w there
        → SameHeadings (view_of left shape (fit_at left shape held.generation held.text held.index)) there
    headings_then there same = headings_on shape image_back left opened.0.0
        (fit_at left shape held.generation held.text held.index) there (sym generation_back) (sym index_back)
        (subst (λ (x : View). SameHeadings x there) (sym opened.2) same)

    wide_one : (e : IndexEntry) (f : Entry) → In e held.index.entries
        → ((value : List ℕ) → f.content ≡ Good value → (shape.scope ≡ scope.Storage) ⊎ HasEnough shape files_left
        f.lacking → (entry_view image_back shape.place shape.m e).content ≡ Good value) → IsWide shape image e f
    unfolding entry_view
    wide_one e f k keeps storage value good =
        let at : Where = where_of e in
        let n = shape.place.copies in
        let gift : Gift = gift_of image_back shape at in
        let voted_is = good_is (value_at image_back shape at) (first_content (gifts gift n)) value
        (keeps value good (inl storage)) in
        many_good shape left image positive e
        (alike shape image clean held.copy held.generation held.text held.index held.inside holds_it held.fit e k)
        value
        (at_least_map (λ c. CopyGives gift c value) (λ c. CopyGives (gift_of image shape at) c value) n shape.m
        (λ c lt gives. gift_to shape damaged left image d test spares storage at
        (its_named shape damaged left image d test spares clean opened.0 opened.1 e k) c value lt gives)
        (holders_many gift n shape.m value (voted-held shape.m (gifts gift n) value voted_is)))

    wide : (there : View) → KeepsGood shape files_left w there
        → AllZip (IsWide shape image) held.index.entries there.entries
    unfolding view_of
    wide there good = zip_with
        (λ e f. (value : List ℕ) → f.content ≡ Good value → (shape.scope ≡ scope.Storage) ⊎ HasEnough shape files_left
        f.lacking → (entry_view image_back shape.place shape.m e).content ≡ Good value)
        (IsWide shape image) held.index.entries there.entries (λ e f h k keeps. wide_one e f h keeps)
        (zip_unmap (λ (x y : Entry). (value : List ℕ) → y.content ≡ Good value
        → (shape.scope ≡ scope.Storage) ⊎ HasEnough shape files_left y.lacking → x.content ≡ Good value)
        (entry_view image_back shape.place shape.m) held.index.entries there.entries
        (subst (λ (x : View). KeepsGood shape files_left x there)
        (sym opened.2 ∙ ap (view_of image_back shape) (sym held.is)) good))

    is_chosen : chosen image shape ≡ Some (true, text)
    is_chosen = its_chosen shape damaged left image d test spares clean opened.0 opened.1

    reads : (there : View) → SameHeadings w there → KeepsGood shape files_left w there
        → AllZip (GivesOn shape left image) held.index.entries there.entries → OpensAs shape left image text there
    reads there same good gives = finish shape (Opens v others) after damaged left image positive law d held.copy
        held.generation held.text held.index held.inside holds_it held.fit there is_chosen (headings there same) gives
        (wide there good)

    as_before : SameHeadings w v → KeepsGood shape files_left w v → OpensAs shape left image text v
    as_before same good =
        let kept = all_in (λ x. SameHeadings x v → IsFrom x v × CostsNoCopy shape [] x v)
        (all_views (store_at left shape))
        (left_kept shape (Opens v others) after damaged left image positive law d).copies
        (view_of left shape (fit_at left shape held.generation held.text held.index))
        (in_views shape (Opens v others) after damaged left image positive law d held.copy held.generation held.text
        held.index held.inside holds_it held.fit) (headings_then v same) in
        reads v same good (left_zip shape (Opens v others) after damaged left image positive law d held.copy
        held.generation held.text held.index held.inside holds_it held.fit v kept.0 kept.1)

    -- ---- as after

    module _ (u : View) (more : List View) (after_is : after ≡ Opens u more) (apart : ¬ (SameHeadings w v))
        (same : SameHeadings w u) (good : KeepsGood shape files_left w u) where
      u_generation : u.generation ≡ held.generation
      u_generation = sym same.generation ∙ generation_w

      newer : v.generation < held.generation
      newer =
          let lt = subst (λ (s : State). IsYounger (Opens v others) s) after_is follows
          (λ s. apart (record { generation = same.generation ∙ s.generation; entries = same.entries ∙ s.entries })) in
          omega (arith, lt, u_generation)

      module _ (x : View) (xs : List View) (x_is : store_at left shape ≡ Opens x xs) where
        opened_then : (r : FitText × List FitText) × (pick shape left ≡ Some r) × (view_of left shape r.0 ≡ x)
        opened_then = opens_pick shape left x xs x_is

        max : held.generation ≤ x.generation
        max =
            let le : held.generation ≤ opened_then.0.0.0.generation = picked_max (qualifies left shape)
            (fit_texts shape left) opened_then.0 (fit_descends left shape) opened_then.1
            (fit_at left shape held.generation held.text held.index)
            (in_then shape (Opens v others) after damaged left image positive law d held.copy held.generation held.text
            held.index held.inside holds_it held.fit)
            (passes_then shape (Opens v others) after damaged left image positive law d held.copy held.generation
            held.text held.index held.inside holds_it held.fit
            (its_passes shape damaged left image d test spares clean opened.0 opened.1)) in
            let a = generation_of shape left opened_then.0.0 in
            let b : (view_of left shape opened_then.0.0).generation ≡ x.generation =
            ap (λ (y : View). y.generation) opened_then.2 in
            omega (arith, le, a, b)

        gives_then : StaysAs shape [] x v after → AllZip (GivesOn shape left image) held.index.entries u.entries
        gives_then (inl old) = let a = old.0.generation in let b = max in let c = newer in
            absurd (omega (arith, a, b, c))
        gives_then (inr new) =
            let one : new.1 ≡ u = view_at new.1 u new.2 more (sym new.3 ∙ after_is) in
            let gen : (view_of left shape opened_then.0.0).generation ≡ held.generation =
            ap (λ (y : View). y.generation) opened_then.2 ∙ new.4.generation ∙ ap (λ (y : View). y.generation) one
            ∙ u_generation in
            let it : x ≡ view_of left shape (fit_at left shape held.generation held.text held.index) =
            sym opened_then.2 ∙ ap (view_of left shape) (one_then shape (Opens v others) after damaged left image
            positive law d held.copy held.generation held.text held.index held.inside holds_it held.fit opened_then.0
            opened_then.1 gen) in
            after_zip shape (Opens v others) after damaged left image positive law d held.copy held.generation held.text
            held.index held.inside holds_it held.fit u
            (subst (λ (y : View). KeepsGood shape [] y u) it (subst (λ (y : View). KeepsGood shape [] x y) one new.5))
            (subst (λ (y : View). CostsNoCopy shape [] y u) it
            (subst (λ (y : View). CostsNoCopy shape [] x y) one new.6))

      as_after : OpensAs shape left image text u
      as_after =
          let s = (left_kept shape (Opens v others) after damaged left image positive law d).stays enough_then in
          reads u same good (gives_then s.0 s.1 s.2 s.3)

    either : StaysAs shape files_left w v after
        → OpensAs shape left image text v ⊎ OpensAsAfter shape left image text after
    either (inl old) = inl (as_before old.0 old.1)
    either (inr new) = inr (subst (λ (s : State). OpensAsAfter shape left image text s) (sym new.3)
        (as_after new.1 new.2 new.3 new.0 new.4 new.5))

  open_pieces : (text : FitText) × (OpensAs shape left image text v ⊎ OpensAsAfter shape left image text after)
  open_pieces =
      let s = on_back.0.stays enough_back in
      (text s.0 s.1 s.2, either s.0 s.1 s.2 s.3)

-- ---- a corrupt storage

module _ (shape : Shape) (salvage : Option View) (others : List View) (u : View) (more : List View) (damaged : List ℕ)
    (left image : Image) (positive : 1 ≤ shape.m)
    (law : (files : List ℕ) (other : Image) → DecaysFor (IsPiece shape.place) files left other
    → Kept shape files (store_at other shape) (Corrupt salvage others) (Opens u more) × IsClean shape other)
    (d : DecaysFor (IsPiece shape.place) damaged left image)
    (text : FitText) (is_chosen : chosen image shape ≡ Some (true, text)) where
  r_image : (r : FitText × List FitText) × (pick shape image ≡ Some r) × (r.0 ≡ text)
  r_image = find_picked (qualifies image shape) (fit_texts shape image) text
      (finds shape image text is_chosen)

  abbrev parts_image : ((z : FitText) → In z (fit_texts shape image) → (r_image.0.0 ≡ z) ⊎ In z r_image.0.1)
      × ((z : FitText) → (r_image.0.0 ≡ z) ⊎ In z r_image.0.1 → In z (fit_texts shape image))
      × (qualifies image shape r_image.0.0 ≡ true)
  parts_image = picked_parts (qualifies image shape) (fit_texts shape image) r_image.0 r_image.1

  held_c : IsHeldFit image shape text
  held_c = In-fit image shape text (parts_image.1 text (inl r_image.2))

  passes_c : qualifies image shape (fit_at image shape held_c.generation held_c.text held_c.index) ≡ true
  passes_c = subst (λ x. qualifies image shape x ≡ true) (r_image.2 ∙ sym held_c.is) parts_image.2

  becomes_c : SameHeadings (view_of image shape r_image.0.0) u × KeepsGood shape damaged (view_of image shape
      r_image.0.0) u × CostsNoCopy shape damaged (view_of image shape r_image.0.0) u
  becomes_c = (law damaged image d).0.stays (view_of image shape r_image.0.0) (map (view_of image shape) r_image.0.1)
      (opens_at shape image r_image.0 r_image.1)

  abbrev here_c : FitText
  here_c = fit_at image shape held_c.generation held_c.text held_c.index

  abbrev then_c : FitText
  then_c = fit_at left shape held_c.generation held_c.text held_c.index

  to_here : view_of image shape r_image.0.0 ≡ view_of image shape here_c
  to_here = ap (view_of image shape) (r_image.2 ∙ sym held_c.is)

  u_gen : u.generation ≡ held_c.generation
  u_gen = sym becomes_c.0.generation ∙ ap (λ (y : View). y.generation) to_here ∙ generation_of shape image here_c

  gives_c : (o : Option (FitText × List FitText)) → pick shape left ≡ o
      → AllZip (GivesOn shape left image) held_c.index.entries u.entries
  unfolding store_at
  gives_c None e = absurd (none_passes (qualifies left shape) (fit_texts shape left) then_c e
      (in_then shape (Corrupt salvage others) (Opens u more) damaged left image positive law d held_c.copy
      held_c.generation held_c.text held_c.index held_c.inside held_c.holds held_c.fit)
      (passes_then shape (Corrupt salvage others) (Opens u more) damaged left image positive law d held_c.copy
      held_c.generation held_c.text held_c.index held_c.inside held_c.holds held_c.fit passes_c))
  gives_c (Some r) e =
      let becomes = (left_kept shape (Corrupt salvage others) (Opens u more) damaged left image positive law d).stays
      (view_of left shape r.0) (map (view_of left shape) r.1)
      (ap (state_of (view_of left shape) (fit_texts shape left)) e) in
      let it : view_of left shape r.0 ≡ view_of left shape then_c = ap (view_of left shape)
      (one_then shape (Corrupt salvage others) (Opens u more) damaged left image positive law d held_c.copy
      held_c.generation held_c.text held_c.index held_c.inside held_c.holds held_c.fit r e
      (becomes.0.generation ∙ u_gen)) in
      after_zip shape (Corrupt salvage others) (Opens u more) damaged left image positive law d held_c.copy
      held_c.generation held_c.text held_c.index held_c.inside held_c.holds held_c.fit u
      (subst (λ (y : View). KeepsGood shape [] y u) it becomes.1)
      (subst (λ (y : View). CostsNoCopy shape [] y u) it becomes.2)

  wide_c : AllZip (IsWide shape image) held_c.index.entries u.entries
  unfolding view_of
  wide_c = zip_with
      (λ e f. (value : List ℕ) → f.content ≡ Good value → (shape.scope ≡ scope.Storage) ⊎ HasEnough shape damaged
      f.lacking → (entry_view image shape.place shape.m e).content ≡ Good value)
      (IsWide shape image) held_c.index.entries u.entries
      (λ e f h k keeps storage value good. keeps value good (inl storage))
      (zip_unmap (λ (x y : Entry). (value : List ℕ) → y.content ≡ Good value
      → (shape.scope ≡ scope.Storage) ⊎ HasEnough shape damaged y.lacking → x.content ≡ Good value)
      (entry_view image shape.place shape.m) held_c.index.entries u.entries
      (subst (λ (x : View). KeepsGood shape damaged x u) to_here becomes_c.1))

  corrupt_pieces : OpensAs shape left image text u
  corrupt_pieces = subst (λ (x : FitText). OpensAs shape left image x u) held_c.is
      (finish shape (Corrupt salvage others) (Opens u more) damaged left image positive law d held_c.copy
      held_c.generation held_c.text held_c.index held_c.inside held_c.holds held_c.fit u
      (is_chosen ∙ ap (λ (x : FitText). Some (true, x)) (sym held_c.is))
      (subst (λ (x : View). SameHeadings x u) to_here becomes_c.0) (gives_c (pick shape left) refl) wide_c)

-- ---- the laws

pub pieces : PiecesLaw
pieces shape (Opens v others) after damaged left image positive follows law d =
    λ enough. open_pieces shape v others after damaged left image positive follows law d enough
pieces shape (Corrupt salvage others) (Opens u more) damaged left image positive follows law d =
    λ text is. corrupt_pieces shape salvage others u more damaged left image positive law d text is
pieces shape (Corrupt salvage others) (Corrupt s o) damaged left image positive follows law d = λ text is.
    let r = find_picked (qualifies image shape) (fit_texts shape image) text (finds shape image text is) in
    (law damaged image d).0.stays (view_of image shape r.0.0) (map (view_of image shape) r.0.1)
    (opens_at shape image r.0 r.1)

pub pieces_case : PiecesCaseLaw
pieces_case shape start after c damaged image positive follows kept sound d =
    pieces shape (store_at start shape) after damaged c.left image positive follows
    (λ files other decays. let on = kept sound files other decays in (on.kept, on.clean)) d

-- a copy of which no file is damaged is spared
pub by_files : FilesLaw
by_files place damaged left image copy d spared = (
  λ h u v. let small = own_small h in
      subst (λ (bytes : List ℕ). VerifiesAs bytes h u)
      (sym (d.others (slot place copy (own h)) (spared (own h) (omega (arith, small))))) v,
  λ at bytes counts. subst (λ (file : List ℕ). counting file at.blocks at.len at.hash ≡ Some bytes)
      (sym (d.others (area place copy) (spared 2 (omega arith)))) counts,
)

-- ---- from what a stop left

zip_through : {A B C : Type 0} (P : A → B → Type 0) (Q : B → C → Type 0) (R : A → C → Type 0)
    → ((x : A) (y : B) (z : C) → P x y → Q y z → R x z) → (xs : List A) (ys : List B) (zs : List C) → AllZip P xs ys
    → AllZip Q ys zs → AllZip R xs zs
zip_through P Q R go [] [] [] p q = tt
zip_through P Q R go [] [] (z ∷ zs) p q = absurd q
zip_through P Q R go [] (y ∷ ys) zs p q = absurd p
zip_through P Q R go (x ∷ xs) [] zs p q = absurd p
zip_through P Q R go (x ∷ xs) (y ∷ ys) [] p q = absurd q
zip_through P Q R go (x ∷ xs) (y ∷ ys) (z ∷ zs) p q = (go x y z p.0 q.0, zip_through P Q R go xs ys zs p.1 q.1)

module _ (shape : Shape) (left image : Image) (text : FitText) (w there : View) where
  -- an element of the view after the stop, beside that of the view before or after the call
  abbrev IsOnward : Entry → Entry → Type 0
  IsOnward x f = ((value : List ℕ) → f.content ≡ Good value
      → (shape.scope ≡ scope.Storage) ⊎ HasEnough shape [] f.lacking → x.content ≡ Good value)
      × ((value : List ℕ) (copy : ℕ) → f.content ≡ Good value → copy < shape.place.copies
      → IsSpared shape [] f.lacking copy → ¬ (Contains x.lacking (copy + 1)))

  spared_by_none : (lacking : List ℕ) (c : ℕ) → ¬ (Contains lacking (c + 1)) → IsSpared shape [] lacking c
  spared_by_none lacking c absent = (λ k small. nothing_listed (shape.place.first + 4 * c + k), absent)

  element_onward : (e : IndexEntry) (x f : Entry) → KeepsElement shape left image e x → IsOnward x f
      → KeepsElement shape left image e f
  element_onward e x f keeps on value good (inl storage) =
      keeps value (on.0 value good (inl storage)) (inl storage)
  element_onward e x f keeps on value good (inr enough) =
      let at : Where = where_of e in
      keeps value (on.0 value good (inr (at_least_map
      (λ c. SparesContent shape.place left image at c × ¬ (Contains f.lacking (c + 1)))
      (IsSpared shape [] f.lacking) shape.place.copies shape.m (λ c lt s. spared_by_none f.lacking c s.1) enough)))
      (inr (at_least_map (λ c. SparesContent shape.place left image at c × ¬ (Contains f.lacking (c + 1)))
      (λ c. SparesContent shape.place left image at c × ¬ (Contains x.lacking (c + 1))) shape.place.copies shape.m
      (λ c lt s. (s.0, on.1 value c good lt (spared_by_none f.lacking c s.1))) enough))

  reads_onward : SameHeadings w there → KeepsGood shape [] w there → CostsNoCopy shape [] w there
      → OpensAs shape left image text w → OpensAs shape left image text there
  reads_onward same good costs reads = record {
    opens = reads.opens;
    same = record {
      generation = reads.same.generation ∙ same.generation;
      entries = reads.same.entries ∙ same.entries;
    };
    good = zip_through (KeepsElement shape left image) IsOnward (KeepsElement shape left image) element_onward
        text.1.entries w.entries there.entries reads.good
        (zip_both (λ x f. (value : List ℕ) → f.content ≡ Good value
        → (shape.scope ≡ scope.Storage) ⊎ HasEnough shape [] f.lacking → x.content ≡ Good value)
        (λ x f. (value : List ℕ) (copy : ℕ) → f.content ≡ Good value → copy < shape.place.copies
        → IsSpared shape [] f.lacking copy → ¬ (Contains x.lacking (copy + 1))) w.entries there.entries good costs);
  }

follows_itself : (state : State) → IsYounger state state
follows_itself (Opens v others) = λ apart. absurd (apart (record { generation = refl; entries = refl }))
follows_itself (Corrupt salvage others) = tt

module _ (shape : Shape) (damaged : List ℕ) (left image : Image) (positive : 1 ≤ shape.m) (clean : IsClean shape left)
    (d : DecaysFor (IsPiece shape.place) damaged left image) (w : View) (rest : List View)
    (is : store_at left shape ≡ Opens w rest) (enough : HasEnoughStorage shape left image w.lacking) where
  itself_reads : (text : FitText) × OpensAs shape left image text w
  itself_reads =
      let by : StaysByPieces shape left image (store_at left shape) (store_at left shape) =
      pieces shape (store_at left shape) (store_at left shape) damaged left image positive
      (follows_itself (store_at left shape))
      (λ files other decays. damage shape left other files positive clean decays) d in
      let r = subst (λ (s : State). StaysByPieces shape left image s s) is by enough in
      (r.0, elim r.1 [ inl a ↦ a | inr b ↦ b ])

  stays_onward : (v : View) (others : List View) (after : State) → Kept shape [] (Opens w rest) (Opens v others) after
      → StaysAs shape [] w v after
      → (text : FitText) × (OpensAs shape left image text v ⊎ OpensAsAfter shape left image text after)
  stays_onward v others after kept (inl old) = (
    itself_reads.0,
    inl (reads_onward shape left image itself_reads.0 w v old.0 old.1 (kept.copies.0 old.0).1 itself_reads.1),
  )
  stays_onward v others after kept (inr new) = (
    itself_reads.0,
    inr (subst (λ (s : State). OpensAsAfter shape left image itself_reads.0 s) (sym new.3)
        (reads_onward shape left image itself_reads.0 w new.1 new.4 new.5 new.6 itself_reads.1)),
  )

  opens_onward : (v : View) (others : List View) (after : State) → Kept shape [] (Opens w rest) (Opens v others) after
      → HasEnough shape [] v.lacking
      → (text : FitText) × (OpensAs shape left image text v ⊎ OpensAsAfter shape left image text after)
  opens_onward v others after kept some =
      let r = kept.stays some in
      stays_onward v others after kept
      (subst (λ (x : View). StaysAs shape [] x v after) (view_at r.0 w r.1 rest (sym r.2)) r.3)

  corrupt_onward : (salvage : Option View) (others : List View) (after : State)
      → Kept shape [] (Opens w rest) (Corrupt salvage others) after
      → (text : FitText) × OpensAsAfter shape left image text after
  corrupt_onward salvage others (Opens u more) kept =
      let r = kept.stays w rest refl in
      (itself_reads.0, reads_onward shape left image itself_reads.0 w u r.0 r.1 r.2 itself_reads.1)
  corrupt_onward salvage others (Corrupt s o) kept = absurd (kept.stays w rest refl)

pub onward : OnwardLaw
onward shape (Opens v others) after damaged left image positive clean kept d = λ some w rest is enough.
    opens_onward shape damaged left image positive clean d w rest is enough v others after
    (subst (λ (s : State). Kept shape [] s (Opens v others) after) is kept) some
onward shape (Corrupt salvage others) after damaged left image positive clean kept d = λ w rest is enough.
    corrupt_onward shape damaged left image positive clean d w rest is enough salvage others after
    (subst (λ (s : State). Kept shape [] s (Corrupt salvage others) after) is kept)

-- ---- rot in two copies

module _ (shape : Shape) (one other : Where) (left image : Image) (rots : RotsApart shape.place one other left image)
  where
    slots_stay : (c : ℕ) → SparesTexts shape.place left image c
    slots_stay c h u v = let small = own_small h in subst (λ (bytes : List ℕ). VerifiesAs bytes h u)
        (sym (rots.files (slot shape.place c (own h)) (λ e. omega (arith, e, small)) (λ e. omega (arith, e, small)))) v

    last_stays : (at : Where) → SparesContent shape.place left image at 2
    last_stays at bytes counts =
        subst (λ (file : List ℕ). counting file at.blocks at.len at.hash ≡ Some bytes)
        (sym (rots.files (area shape.place 2) (λ e. omega (arith, e)) (λ e. omega (arith, e)))) counts

    module _ (element : shape.scope ≡ scope.Element) where
      storage_stays : (c : ℕ) → SparesStorage shape left image c × ¬ (Contains [] (c + 1))
      storage_stays c = (
        (slots_stay c, λ storage. absurd (apart (sym element ∙ storage))),
        nothing_listed (c + 1),
      )
        where
          apart : scope.Element ≡ scope.Storage → ⊥
          apart e = cc

    few_files : AtLeast (IsSpared shape (area shape.place 0 ∷ area shape.place 1 ∷ []) []) 3 2 → ⊥
    few_files (inl both) = elim both.1 [
      | inl it ↦ it.0.0 2 (omega arith) (1, omega arith, refl)
      | inr rest ↦ elim rest [ inl it ↦ it.0.0 2 (omega arith) (0, omega arith, refl) | inr none ↦ none ]
    ]
    few_files (inr rest) = elim rest [
      | inl both ↦ both.0.0 2 (omega arith) (1, omega arith, refl)
      | inr none ↦ elim none [ inl it ↦ absurd it.1 | inr nothing ↦ nothing ]
    ]

pub two_rots : TwoRotsLaw
two_rots shape one other left image three two element rots = (
  subst (λ (n : ℕ). AtLeast (λ c. SparesStorage shape left image c × ¬ (Contains [] (c + 1))) n shape.m) (sym three)
      (subst (λ (m : ℕ). AtLeast (λ c. SparesStorage shape left image c × ¬ (Contains [] (c + 1))) 3 m) (sym two)
      (inl (all 2, inl (all 1, tt)))),
  counts one (inl (last one, inr (inl ((rots.first, nothing_listed 1), tt)))),
  counts other (inl (last other, inl ((rots.second, nothing_listed 2), tt))),
  λ enough. few_files shape one other left image rots
      (subst (λ (m : ℕ). AtLeast (IsSpared shape (area shape.place 0 ∷ area shape.place 1 ∷ []) []) 3 m) two
      (subst (λ (n : ℕ). AtLeast (IsSpared shape (area shape.place 0 ∷ area shape.place 1 ∷ []) []) n shape.m) three
      enough)),
)
  where
    all : (c : ℕ) → SparesStorage shape left image c × ¬ (Contains [] (c + 1))
    all c = storage_stays shape one other left image rots element c

    last : (at : Where) → SparesContent shape.place left image at 2 × ¬ (Contains {X = ℕ} [] 3)
    last at = (last_stays shape one other left image rots at, nothing_listed 3)

    counts : (at : Where) → AtLeast (λ c. SparesContent shape.place left image at c × ¬ (Contains [] (c + 1))) 3 2
        → HasEnoughContent shape left image at []
    counts at some =
        subst (λ (n : ℕ). AtLeast (λ c. SparesContent shape.place left image at c × ¬ (Contains [] (c + 1))) n shape.m)
        (sym three)
        (subst (λ (m : ℕ). AtLeast (λ c. SparesContent shape.place left image at c × ¬ (Contains [] (c + 1))) 3 m)
        (sym two) some)
