-- What a storage is on two images that agree on the files of its place.
use Rattle.std.proofs.Common.{◌≡◌, ℕ, zero, suc, ◌+◌, ◌<◌, ◌≤◌, Bool, cond, ◌&&◌, not, List, [], ◌∷◌, length, Option}
use Rattle.std.proofs.Common.{Some, None, refl, sym, ap, subst, ◌∙◌, arith, ⊎_elim}
use Rattle.std.specs.Prelude.{map, is_some, nat_le}
use Rattle.std.specs.List.{filter, range_with_len, list_all}
use Rattle.per_base.specs.declared.elements.Scope.{Scope}
use Rattle.per_base.specs.declared.elements.Scope.TheVariants as scope
use Rattle.per_base.specs.declared.elements.Entry.{Entry}
use Rattle.disk_model.specs.Image.{Image}
use Rattle.disk_model.specs.Place.{slot, area}
use Rattle.disk_model.specs.declared.place.Place.{Place}
use Rattle.disk_model.specs.lemmas.Frames.{settled_less}
use Rattle.hash_guard.specs.SealedText.{VerifiesAs, verified}
use Rattle.m_of_n.specs.Vote.{voted}
use Rattle.guarded_cell.specs.Register.{Holds, IsAlone, IsBlank, own, other}
use Rattle.guarded_cell.specs.Held.{held_in_first, of_parity, with_slot, is_slot_text}
use Rattle.block_files.specs.Aside.{Where}
use Rattle.block_files.specs.Areas.{has_all_bytes}
use Rattle.block_files.specs.Contents.{counting, first_content, lacks, lacking}
use Rattle.index_text.specs.declared.entries.Index.{Index}
use Rattle.index_text.specs.declared.entries.IndexEntry.{IndexEntry}
use Rattle.index_text.specs.Spelling.{index_text}
use Rattle.element_state.specs.declared.shapes.Shape.{Shape}
use Rattle.element_state.specs.declared.shapes.View.{View}
use Rattle.element_state.specs.Fit.{FitText, fit_among, fit_texts, is_sole}
use Rattle.element_state.specs.Views.{holds_text, counts, holds_all, supporters, qualifies, given, content_of}
use Rattle.element_state.specs.Views.{entry_view, entries_seen, store_lacking, lacks_number, view_of}
use Rattle.element_state.specs.States.{Opens, corrupt_state, store_at, state_of, first_picked, beside}
use Rattle.element_state.specs.Clean.{counting_at, IsNamed, IsClean}
use Rattle.element_state.specs.Conditions.{IsInUse}
use Rattle.element_state.specs.lemmas.Supported.{copies_alike}
use Rattle.element_laws.specs.Phases.{IsOfPlace}
use Rattle.element_laws.specs.Apart.{IsStorageUnchanged, FrameLaw, OutsideLaw, ElsewhereLaw, ElsewhereCaseLaw}
use Rattle.element_laws.specs.lemmas.Phases.{untouched}

-- ---- lists by functions that agree

map_alike : {B : Type 0} (f g : ℕ → B) (a n : ℕ) → ((k : ℕ) → k < a + n → f k ≡ g k)
    → map f (range_with_len a n) ≡ map g (range_with_len a n)
map_alike f g a zero same = refl
map_alike f g a (suc n) same =
    ap (λ x. x ∷ map f (range_with_len (a + 1) n)) (same a (omega arith))
    ∙ ap (λ xs. g a ∷ xs) (map_alike f g (a + 1) n (λ k lt. same k (omega (arith, lt))))

filter_alike : (f g : ℕ → Bool) (a n : ℕ) → ((k : ℕ) → k < a + n → f k ≡ g k)
    → filter f (range_with_len a n) ≡ filter g (range_with_len a n)
filter_alike f g a zero same = refl
filter_alike f g a (suc n) same =
    ap (λ b. cond b (a ∷ filter f (range_with_len (a + 1) n)) (filter f (range_with_len (a + 1) n)))
    (same a (omega arith))
    ∙ ap (λ xs. cond (g a) (a ∷ xs) xs) (filter_alike f g (a + 1) n (λ k lt. same k (omega (arith, lt))))

map_each : {A B : Type 0} (f g : A → B) → ((x : A) → f x ≡ g x) → (xs : List A) → map f xs ≡ map g xs
map_each f g same [] = refl
map_each f g same (x ∷ xs) = ap (λ y. y ∷ map f xs) (same x) ∙ ap (λ ys. g x ∷ ys) (map_each f g same xs)

all_each : {A : Type 0} (f g : A → Bool) → ((x : A) → f x ≡ g x) → (xs : List A) → list_all f xs ≡ list_all g xs
all_each f g same [] = refl
all_each f g same (x ∷ xs) = ap (λ b. b && list_all f xs) (same x) ∙ ap (λ b. g x && b) (all_each f g same xs)

picked_each : {A : Type 0} (f g : A → Bool) → ((x : A) → f x ≡ g x) → (xs : List A) → first_picked f xs
    ≡ first_picked g xs
picked_each f g same [] = refl
picked_each f g same (x ∷ xs) =
    ap (λ b. cond b (Some (x, xs)) (beside x (first_picked f xs))) (same x)
    ∙ ap (λ o. cond (g x) (Some (x, xs)) (beside x o)) (picked_each f g same xs)

-- ---- the state

module _ (shape : Shape) (old new : Image) (same : (f : ℕ) → IsOfPlace shape.place f → new f ≡ old f) where
  abbrev place : Place
  place = shape.place

  slot_same : (copy parity : ℕ) → copy < place.copies → parity < 2
      → new (slot place copy parity) ≡ old (slot place copy parity)
  slot_same copy parity lt small = same (slot place copy parity)
      (record { copy = copy; kind = parity; inside = lt; small = omega (arith, small); is = refl })

  area_same : (copy : ℕ) → copy < place.copies → new (area place copy) ≡ old (area place copy)
  area_same copy lt = same (area place copy) (record {
    copy = copy;
    kind = 2;
    inside = lt;
    small = omega arith;
    is =
        refl;
  })

  own_same : (copy generation : ℕ) → copy < place.copies → new (slot place copy (own generation))
      ≡ old (slot place copy (own generation))
  own_same copy generation lt = slot_same copy (own generation) lt (omega arith)

  held_same : (n : ℕ) → n ≤ place.copies → held_in_first new place n ≡ held_in_first old place n
  unfolding held_in_first
  held_same zero le = refl
  held_same (suc copy) le =
      let lt : copy < place.copies = omega (arith, le) in
      ap (λ bytes. with_slot (copy + 1) (of_parity 1 (verified bytes))
      (with_slot (copy + 1) (of_parity 0 (verified (new (slot place copy 0)))) (held_in_first new place copy)))
      (slot_same copy 1 lt (omega arith))
      ∙ ap (λ bytes. with_slot (copy + 1) (of_parity 1 (verified (old (slot place copy 1))))
      (with_slot (copy + 1) (of_parity 0 (verified bytes)) (held_in_first new place copy)))
      (slot_same copy 0 lt (omega arith))
      ∙ ap (λ seens. with_slot (copy + 1) (of_parity 1 (verified (old (slot place copy 1))))
      (with_slot (copy + 1) (of_parity 0 (verified (old (slot place copy 0)))) seens))
      (held_same copy (omega (arith, le)))

  fit_same : fit_texts shape new ≡ fit_texts shape old
  unfolding fit_texts
  fit_same = ap (fit_among shape) (held_same place.copies (omega arith))

  text_same : (text : FitText) (copy : ℕ) → copy < place.copies
      → holds_text new shape.place text copy ≡ holds_text old shape.place text copy
  text_same text copy lt = ap (λ bytes. is_slot_text (text.0.generation, text.0.text) (verified bytes))
      (own_same copy text.0.generation lt)

  counts_same : (e : IndexEntry) (copy : ℕ) → copy < place.copies
      → counts new shape.place e copy ≡ counts old shape.place e copy
  counts_same e copy lt = ap (λ file. is_some (counting file e.blocks e.len e.hash)) (area_same copy lt)

  all_same : (text : FitText) (copy : ℕ) → copy < place.copies
      → holds_all new shape.place text copy ≡ holds_all old shape.place text copy
  all_same text copy lt =
      ap (λ b. b && list_all (λ e. counts new shape.place e copy) text.1.entries) (text_same text copy lt)
      ∙ ap (λ b. holds_text old shape.place text copy && b)
      (all_each (λ e. counts new shape.place e copy) (λ e. counts old shape.place e copy) (λ e. counts_same e copy lt)
      text.1.entries)

  supporters_same : (s : Scope) (text : FitText) → supporters s new shape.place text ≡ supporters s old shape.place text
  supporters_same scope.Element text = refl
  supporters_same scope.Storage text = copies_alike (holds_all new shape.place text) (holds_all old shape.place text)
      place.copies (all_same text)

  qualifies_same : (text : FitText) → qualifies new shape text ≡ qualifies old shape text
  qualifies_same text = ap (λ xs. nat_le shape.m (length xs)) (supporters_same shape.scope text)

  given_same : (e : IndexEntry) → given new shape.place e ≡ given old shape.place e
  given_same e = map_alike (λ c. counting (new (area place c)) e.blocks e.len e.hash)
      (λ c. counting (old (area place c)) e.blocks e.len e.hash) 0 place.copies
      (λ c lt. ap (λ file. counting file e.blocks e.len e.hash) (area_same c (omega (arith, lt))))

  lacking_same : (value : Option (List ℕ)) (e : IndexEntry)
      → lacking value place e.blocks e.len e.hash new ≡ lacking value place e.blocks e.len e.hash old
  lacking_same value e = ap (map suc) (filter_alike
      (λ c. lacks value (counting (new (area place c)) e.blocks e.len e.hash)
      (has_all_bytes (new (area place c)) e.blocks e.len))
      (λ c. lacks value (counting (old (area place c)) e.blocks e.len e.hash)
      (has_all_bytes (old (area place c)) e.blocks e.len)) 0 place.copies
      (λ c lt. ap (λ file. lacks value (counting file e.blocks e.len e.hash) (has_all_bytes file e.blocks e.len))
      (area_same c (omega (arith, lt)))))

  abbrev seen : (e : IndexEntry) → List (Option (List ℕ)) → List ℕ → Entry
  seen e gives lacks_it = record {
    name = e.name;
    info = e.info;
    changed = e.changed;
    len = e.len;
    content = content_of (voted shape.m gives) (first_content gives);
    lacking = lacks_it;
  }

  entry_same : (e : IndexEntry) → entry_view new shape.place shape.m e ≡ entry_view old shape.place shape.m e
  unfolding entry_view
  entry_same e =
      ap (λ gives. seen e gives (lacking (voted shape.m gives) place e.blocks e.len e.hash new)) (given_same e)
      ∙ ap (λ xs. seen e (given old shape.place e) xs) (lacking_same (voted shape.m (given old shape.place e)) e)

  entries_same : (es : List IndexEntry) → map (entry_view new shape.place shape.m) es
      ≡ map (entry_view old shape.place shape.m) es
  entries_same es = map_each (entry_view new shape.place shape.m) (entry_view old shape.place shape.m) entry_same es

  view_same : (text : FitText) → view_of new shape text ≡ view_of old shape text
  unfolding view_of
  view_same text =
      let view = λ (texts : List FitText) (entries : List Entry) (lacks_it : List ℕ).
      (let v : View = record {
        generation = text.0.generation;
        lacking = lacks_it;
        sole =
            is_sole texts;
        entries = entries;
      } in v) in
      let lacks_by = λ (image : Image) (entries : List Entry).
      store_lacking shape.scope (λ copy. not (holds_text image shape.place text copy)) entries place.copies in
      ap (λ texts. view texts (entries_seen new shape text) (lacks_by new (entries_seen new shape text))) fit_same
      ∙ ap (λ entries. view (fit_texts shape old) entries (lacks_by new entries)) (entries_same text.1.entries)
      ∙ ap (view (fit_texts shape old) (entries_seen old shape text)) (copies_alike
      (λ copy. lacks_number shape.scope (not (holds_text new shape.place text copy)) (entries_seen old shape text)
      (copy + 1))
      (λ copy. lacks_number shape.scope (not (holds_text old shape.place text copy)) (entries_seen old shape text)
      (copy + 1)) place.copies
      (λ copy lt. ap (λ b. lacks_number shape.scope (not b) (entries_seen old shape text) (copy + 1))
      (text_same text copy lt)))

  state_by : (texts : List FitText) (o : Option (FitText × List FitText))
      → state_of (view_of new shape) texts o ≡ state_of (view_of old shape) texts o
  state_by texts None = ap corrupt_state (map_each (view_of new shape) (view_of old shape) view_same texts)
  state_by texts (Some found) = ap (λ v. Opens v (map (view_of new shape) found.1)) (view_same found.0)
      ∙ ap (λ views. Opens (view_of old shape found.0) views)
      (map_each (view_of new shape) (view_of old shape) view_same found.1)

  pub state_same : store_at new shape ≡ store_at old shape
  unfolding store_at
  state_same =
      ap (λ texts. state_of (view_of new shape) texts (first_picked (qualifies new shape) texts)) fit_same
      ∙ ap (state_of (view_of new shape) (fit_texts shape old))
      (picked_each (qualifies new shape) (qualifies old shape) qualifies_same (fit_texts shape old))
      ∙ state_by (fit_texts shape old) (first_picked (qualifies old shape) (fit_texts shape old))

  -- ---- a clean place

  holds_back : (copy g : ℕ) (t : List ℕ) → copy < place.copies → Holds new place copy g t → Holds old place copy g t
  holds_back copy g t lt v = subst (λ (bytes : List ℕ). VerifiesAs bytes g t) (own_same copy g lt) v

  named_back : (at : Where) → IsNamed shape.place new at → IsNamed shape.place old at
  named_back at is = record {
    copy = is.copy;
    generation = is.generation;
    text = is.text;
    index = is.index;
    inside = is.inside;
    held = holds_back is.copy is.generation is.text is.inside is.held;
    spelled = is.spelled;
    named = is.named;
  }

  counting_back : (copy : ℕ) (at : Where) (w : List ℕ) → copy < place.copies
      → counting_at new shape.place copy at ≡ Some w
      → counting_at old shape.place copy at ≡ Some w
  counting_back copy at w lt e = subst (λ (file : List ℕ). counting file at.blocks at.len at.hash ≡ Some w)
      (area_same copy lt) e

  clean_same : IsClean shape old → IsClean shape new
  clean_same clean = record {
    one_each = λ a b g s t alt blt va vb. clean.one_each a b g s t alt blt (holds_back a g s alt va)
        (holds_back b g t blt vb);
    fit = λ copy g t lt v. clean.fit copy g t lt (holds_back copy g t lt v);
    alike = λ at a b s t named alt blt ea eb. clean.alike at a b s t (named_back at named) alt blt
        (counting_back a at s alt ea) (counting_back b at t blt eb);
  }

  -- ---- in use

  alone_same : (g : ℕ) (t : List ℕ) → IsAlone old place g t → IsAlone new place g t
  alone_same g t alone = record {
    held = λ copy lt. subst (λ (bytes : List ℕ). VerifiesAs bytes g t) (sym (own_same copy g lt)) (alone.held copy lt);
    blank = λ copy lt. subst IsBlank (sym (slot_same copy (other g) lt (omega arith))) (alone.blank copy lt);
  }

  in_use_same : (index : Index) (v : View) → IsInUse shape old index v → IsInUse shape new index v
  in_use_same index v is = record {
    alone = alone_same v.generation (index_text index) is.alone;
    fit = is.fit;
    opens = state_same ∙ is.opens;
    sole = is.sole;
    entries = is.entries ∙ sym (entries_same index.entries);
    mended = is.mended;
  }

  pub unchanged : IsStorageUnchanged shape old new
  unchanged = record { state = state_same; clean = clean_same; in_use = in_use_same }

-- ---- the laws

pub frame : FrameLaw
frame shape old new spares = unchanged shape old new spares

pub outside : OutsideLaw
outside one other apart file is copy k lt small e = ⊎_elim
    (λ before. (let at = is.is in let inside = is.inside in let kind =
    is.small in absurd (omega (arith, before, at, inside, kind, e, lt, small))))
    (λ after. (let at = is.is in let inside = is.inside in let kind =
    is.small in absurd (omega (arith, after, at, inside, kind, e, lt, small))))
    apart

pub elsewhere : ElsewhereLaw
elsewhere one shape old new apart spares = unchanged shape old new
    (λ f is. spares f (outside one shape.place apart f is))

pub elsewhere_case : ElsewhereCaseLaw
elsewhere_case one shape start after c some apart clean settled =
    untouched shape start after c some clean (settled_less (outside one shape.place apart) settled)
