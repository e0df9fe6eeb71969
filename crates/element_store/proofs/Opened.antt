-- A storage that was opened: its elements after they were mended, and that it is in use.
use Rattle.std.proofs.Common.{◌≡◌, ◌⊎◌, ℕ, zero, suc, ◌+◌, ◌-◌, ◌<◌, ◌≤◌, List, [], ◌∷◌, length, get_or, Bool, true}
use Rattle.std.proofs.Common.{false, IsTrue, Option, Some, None, inl, inr, refl, sym, ap, ◌∙◌, subst, arith, ⊎_elim}
use Rattle.std.proofs.Common.{Global, Vec}
use Rattle.std.specs.Prelude.{map, is_some, find, cond}
use Rattle.std.specs.List.{AllZip, AllByRecursion, Contains, list_all}
use Rattle.std.specs.Str.{bytes_eq}
use Rattle.std.proofs.lemmas.Bool.{cases_Bool, cond-true, cond-false, leb-true}
use Rattle.std.proofs.lemmas.Slice.Eq.{bytes_eq-Decides}
use Rattle.sha2.specs.Sha256.{sha256}
use Rattle.hash_guard.specs.SealedText.{VerifiesAs}
use Rattle.per_base.specs.declared.elements.Entry.{Entry}
use Rattle.per_base.specs.declared.elements.Content.{Content}
use Rattle.per_base.specs.declared.elements.Content.TheVariants.{Good, Bad}
use Rattle.per_base.specs.declared.elements.Scope.{Scope}
use Rattle.per_base.specs.declared.elements.Scope.TheVariants as scope
use Rattle.per_base.specs.Contents.{HasLength}
use Rattle.disk_model.specs.declared.place.Place.{Place}
use Rattle.disk_model.specs.Image.{Image}
use Rattle.disk_model.specs.Frame.{Spares}
use Rattle.disk_model.specs.Medium.{Medium}
use Rattle.disk_model.specs.Orders.{named_in}
use Rattle.disk_model.specs.Place.{area, slot, IsNoArea, IsNoSlot}
use Rattle.m_of_n.specs.Vote.{voted}
use Rattle.guarded_cell.specs.declared.cell.Cell.{Cell}
use Rattle.guarded_cell.specs.Cells.{CellAt, IsCellOf}
use Rattle.guarded_cell.specs.Register.{Holds, IsAlone, IsBlank, own, other}
use Rattle.guarded_cell.specs.Rights.{IsRight}
use Rattle.guarded_cell.specs.lemmas.CopyLaws.{enough_pass, passing_enough, passing_is}
use Rattle.guarded_cell.specs.lemmas.StopLaws.{at_least_map, alone_only}
use Rattle.block_files.specs.Areas.{joined, has_all_bytes, IsFull, AllFull, area_of}
use Rattle.block_files.specs.Contents.{counting, first_content, lacks, lacking}
use Rattle.block_files.specs.lemmas.AsideLaws.{joined_kept, within_grown}
use Rattle.index_text.specs.declared.entries.Index.{Index}
use Rattle.index_text.specs.declared.entries.IndexEntry.{IndexEntry}
use Rattle.index_text.specs.Spelling.{index_text}
use Rattle.element_state.specs.declared.shapes.Shape.{Shape}
use Rattle.element_state.specs.declared.shapes.View.{View}
use Rattle.element_state.specs.Clean.{where_of, IsNamed, IsClean}
use Rattle.element_state.specs.Fit.{FitText, fit_index, fit_texts}
use Rattle.element_state.specs.Views.{entry_view, given, counts, content_of, holds_text, holds_all, supporters}
use Rattle.element_state.specs.Views.{qualifies, view_of}
use Rattle.element_state.specs.States.{Opens, store_at, whole_view, mended_by, mended_entry, mended_view}
use Rattle.element_state.specs.Chosen.{IsReadBy, opened_of}
use Rattle.element_state.specs.Conditions.{IsShape, IsMended, IsInUse}
use Rattle.element_laws.specs.Phases.{CleanLaw, AreAgreed, IsSparing, TakesMend, KeepsBlocksWhole, OpensAt, OpenedLaw}
use Rattle.element_laws.specs.lemmas.Copies.{filtered_that, named_Contains, Contains_named, voted_given}
use Rattle.element_laws.specs.lemmas.Lists.{In, In-Contains, map-In, false_not_true, list_all-In, In-list_all}
use Rattle.element_laws.specs.lemmas.Lists.{both_true}
use Rattle.element_laws.specs.lemmas.Lists.{true_both, all_by, all_in}
use Rattle.element_laws.specs.lemmas.Fits.{In-fit, fit-spelled}
use Rattle.element_laws.specs.lemmas.Frames.{slot_no_area, area_no_slot}
use Rattle.element_store.specs.declared.opening.OpeningPlan.{OpeningPlan}
use Rattle.element_store.specs.declared.store.Store.{Store}
use Rattle.element_store.specs.declared.hashing.KeptStates.{KeptStates}
use Rattle.element_store.specs.Mends.{IsAsBefore, IsWholeIn, AreShown, SparesOthers}
use Rattle.element_store.specs.Opened.{IsOpeningPlan, IsFoundOn, OpensBy}
use Rattle.element_store.specs.Stores.{IsUsed, view_in}
use Rattle.element_store.proofs.Alone.{alone_text, opens_alone, supports_element, all_hold}
use Rattle.element_store.proofs.Fulls.{view_full, view_same, counting_full}
use Rattle.element_store.proofs.Shown.{content_good, gives}

-- ---- contents

content_cases : (x : Content) → ((v : List ℕ) × (x ≡ Good v)) ⊎ ((s : Option (List ℕ)) × (x ≡ Bad s))
content_cases (Good v) = inl (v, refl)
content_cases (Bad s) = inr (s, refl)

content_bad : (o s t : Option (List ℕ)) → content_of o s ≡ Bad t → o ≡ None
content_bad None s t e = refl
content_bad (Some x) s t e = cc

-- bytes that count and are within
full_of : (file blocks : List ℕ) (len : ℕ) (hash v : List ℕ) → counting file blocks len hash ≡ Some v
    → has_all_bytes file blocks len ≡ true → length v ≡ len → IsFull file blocks v × (sha256 v ≡ hash)
unfolding counting
full_of file blocks len hash v counted inside long = ⊎_elim
    (λ same.
    let j : joined file blocks len ≡ v = some_same (joined file blocks len) v
    (sym (cond-true (bytes_eq (sha256 (joined file blocks len)) hash) (Some (joined file blocks len)) None same)
    ∙ counted) in (
      record { bytes_are = ap (joined file blocks) long ∙ j; inside = ap (has_all_bytes file blocks) long ∙ inside },
      sym (ap sha256 j) ∙ (bytes_eq-Decides (sha256 (joined file blocks len)) hash).0 same,
    ))
    (λ differ. absurd (never (sym (cond-false (bytes_eq (sha256 (joined file blocks len)) hash)
    (Some (joined file blocks len)) None differ) ∙ counted)))
    (cases_Bool (bytes_eq (sha256 (joined file blocks len)) hash))
  where
    some_same : (a b : List ℕ) → Some a ≡ Some b → a ≡ b
    some_same a b e = cc

    never : None ≡ Some v → ⊥
    never e = cc

-- a copy that is not listed gives the value, and has all of it
unlisted : (image : Image) (place : Place) (m : ℕ) (e : IndexEntry) (v : List ℕ)
    → voted m (given image place e) ≡ Some v → (c : ℕ) → c < place.copies
    → ¬ (Contains (entry_view image place m e).lacking (c + 1))
    → (counting (image (area place c)) e.blocks e.len e.hash ≡ Some v)
    × (has_all_bytes (image (area place c)) e.blocks e.len ≡ true)
unfolding entry_view
unlisted image place m e v is c lt absent =
    let test = λ (k : ℕ). lacks (Some v) (counting (image (area place k)) e.blocks e.len e.hash)
    (has_all_bytes (image (area place k)) e.blocks e.len) in
    let fails : test c ≡ false = false_not_true (test c) (λ passes. absent
    (subst (λ (o : Option (List ℕ)). Contains (lacking o place e.blocks e.len e.hash image) (c + 1))
    (sym is)
    (subst (λ (xs : List ℕ). Contains xs (c + 1)) (sym (filtered_that test place.copies))
    (passing_is test place.copies c lt passes)))) in
    gives v (counting (image (area place c)) e.blocks e.len e.hash)
    (has_all_bytes (image (area place c)) e.blocks e.len) fails

good_voted : (image : Image) (place : Place) (m : ℕ) (e : IndexEntry) (v : List ℕ)
    → (entry_view image place m e).content ≡ Good v → voted m (given image place e) ≡ Some v
unfolding entry_view
good_voted image place m e v good = content_good (voted m (given image place e)) (first_content (given image place e)) v
    good

bad_voted : (image : Image) (place : Place) (m : ℕ) (e : IndexEntry) (s : Option (List ℕ))
    → (entry_view image place m e).content ≡ Bad s → voted m (given image place e) ≡ None
unfolding entry_view
bad_voted image place m e s bad = content_bad (voted m (given image place e)) (first_content (given image place e)) s
    bad

mended_good : (e : IndexEntry) (f : Entry) (v : List ℕ) → f.name ≡ e.name → f.info ≡ e.info → f.changed ≡ e.changed
    → f.len ≡ e.len → f.content ≡ Good v
    → record { name = e.name; info = e.info; changed = e.changed; len = e.len; content = Good v; lacking = [] }
    ≡ mended_entry f
mended_good e f v n i c l g =
    ap (λ (x : List ℕ). record {
      name = x;
      info = e.info;
      changed = e.changed;
      len = e.len;
      content = Good v;
      lacking =
          [];
    }) (sym n)
    ∙ ap (λ x. record { name = f.name; info = x; changed = e.changed; len = e.len; content = Good v; lacking = [] })
    (sym i)
    ∙ ap (λ (x : ℕ). record { name = f.name; info = f.info; changed = x; len = e.len; content = Good v; lacking = [] })
    (sym c)
    ∙ ap (λ (x : ℕ). record {
      name = f.name;
      info = f.info;
      changed = f.changed;
      len = x;
      content = Good v;
      lacking =
          [];
    }) (sym l)
    ∙ ap (λ (x : Content). record {
      name = f.name;
      info = f.info;
      changed = f.changed;
      len = f.len;
      content =
          x;
      lacking = [];
    }) (sym g)
    ∙ sym (ap (λ (x : Content). mended_by x f) g)

-- ---- one element

module _ (shape : Shape) (start now image : Image) (is : IsShape shape)
    (areas : Spares (IsNoSlot shape.place) start now) where
  area_was : (c : ℕ) → now (area shape.place c) ≡ start (area shape.place c)
  area_was c = areas (area shape.place c) (area_no_slot shape.place c)

  abbrev seen : IndexEntry → Entry
  seen e = entry_view start shape.place shape.m e

  module _ (e : IndexEntry) (read : IsReadBy shape.place.copies e (seen e))
      (whole : IsWholeIn image shape.place e (seen e))
      (kept : (copy : ℕ) → copy < shape.place.copies → ¬ (TakesMend shape start e copy)
      → KeepsBlocksWhole e.blocks (now (area shape.place copy)) (image (area shape.place copy))) where
    -- what an area that was not mended gives
    still : (c : ℕ) → c < shape.place.copies → ¬ (TakesMend shape start e c) → (n : ℕ)
        → joined (image (area shape.place c)) e.blocks n ≡ joined (start (area shape.place c)) e.blocks n
    still c lt untaken n =
        joined_kept (now (area shape.place c)) (image (area shape.place c)) e.blocks n
        (λ m j ltm ltj. (kept c lt untaken).bytes m j ltm ltj)
        ∙ ap (λ (file : List ℕ). joined file e.blocks n) (area_was c)

    grown : (c : ℕ) → c < shape.place.copies → ¬ (TakesMend shape start e c) → (n : ℕ)
        → has_all_bytes (start (area shape.place c)) e.blocks n ≡ true
        → has_all_bytes (image (area shape.place c)) e.blocks n ≡ true
    grown c lt untaken n inside = within_grown (now (area shape.place c)) (image (area shape.place c))
        e.blocks n (kept c lt untaken).no_shorter
        (ap (λ (file : List ℕ). has_all_bytes file e.blocks n) (area_was c) ∙ inside)

    module _ (v : List ℕ) (good : (seen e).content ≡ Good v) where
      long : length v ≡ e.len
      long = subst (λ (c : Content). HasLength c e.len) good read.value

      hashed : sha256 v ≡ e.hash
      unfolding counting
      hashed =
          let (c, lt, gave) = voted_given shape.m shape.place.copies is.some
          (λ (c : ℕ). counting (start (area shape.place c)) e.blocks e.len e.hash) v
          (good_voted start shape.place shape.m e v good) in
          hash_of (start (area shape.place c)) gave
        where
          hash_of : (file : List ℕ) → counting file e.blocks e.len e.hash ≡ Some v → sha256 v ≡ e.hash
          hash_of file counted = ⊎_elim
              (λ same.
              let j : joined file e.blocks e.len ≡ v = some_same (joined file e.blocks e.len) v
              (sym (cond-true (bytes_eq (sha256 (joined file e.blocks e.len)) e.hash)
              (Some (joined file e.blocks e.len)) None same) ∙ counted) in
              sym (ap sha256 j) ∙ (bytes_eq-Decides (sha256 (joined file e.blocks e.len)) e.hash).0 same)
              (λ differ. absurd (never (sym (cond-false (bytes_eq (sha256 (joined file e.blocks e.len)) e.hash)
              (Some (joined file e.blocks e.len)) None differ) ∙ counted)))
              (cases_Bool (bytes_eq (sha256 (joined file e.blocks e.len)) e.hash))
            where
              some_same : (a b : List ℕ) → Some a ≡ Some b → a ≡ b
              some_same a b e = cc

              never : None ≡ Some v → ⊥
              never e = cc

      full_at : AllFull shape.place e.blocks v image
      full_at c lt = ⊎_elim
          (λ listed.
          let (k, ltk, at) = named_Contains (seen e).lacking (c + 1) listed in
          let number : get_or (seen e).lacking k 0 ≡ c + 1 = get_default (seen e).lacking k (c + 1) ltk ∙ at in
          let same : c + 1 - 1 ≡ c = omega arith in
          subst (λ (x : ℕ). IsFull (image (area shape.place x)) e.blocks v) same
          (subst (λ (x : ℕ). IsFull (image (area_of shape.place x)) e.blocks v) number (whole v good k ltk)))
          (λ unlisted_c.
          let absent : ¬ (Contains (seen e).lacking (c + 1)) =
          λ has. never (sym (Contains_named (seen e).lacking (c + 1) has) ∙ unlisted_c) in
          let untaken : ¬ (TakesMend shape start e c) = λ takes. absent takes.listed in
          let gave = unlisted start shape.place shape.m e v (good_voted start shape.place shape.m e v good) c lt absent
          in
          let was = (full_of (start (area shape.place c)) e.blocks e.len e.hash v gave.0 gave.1 long).0 in
          record {
            bytes_are = still c lt untaken (length v) ∙ was.bytes_are;
            inside =
                grown c lt untaken (length v) was.inside;
          })
          (cases_Bool (named_in (seen e).lacking (c + 1)))
        where
          never : true ≡ false → ⊥
          never e = cc

          get_default : (xs : List ℕ) (k d : ℕ) → k < length xs → get_or xs k 0 ≡ get_or xs k d
          get_default [] k d ltk = absurd (omega (arith, ltk))
          get_default (x ∷ xs) zero d ltk = refl
          get_default (x ∷ xs) (suc k) d ltk = get_default xs k d (omega (arith, ltk))

      view_good : entry_view image shape.place shape.m e ≡ mended_entry (seen e)
      view_good = view_full image shape.place shape.m e v is.some is.enough full_at (sym hashed) (sym long)
          ∙ mended_good e (seen e) v read.name read.info read.changed read.len good

    module _ (s : Option (List ℕ)) (bad : (seen e).content ≡ Bad s) where
      none_agreed : (c : ℕ) → ¬ (TakesMend shape start e c)
      none_agreed c takes = never (sym takes.agreed ∙ bad_voted start shape.place shape.m e s bad)
        where
          never : Some takes.value ≡ None → ⊥
          never e = cc

      counts_as : (c : ℕ) → c < shape.place.copies → counting (image (area shape.place c)) e.blocks e.len e.hash
          ≡ counting (start (area shape.place c)) e.blocks e.len e.hash
      unfolding counting
      counts_as c lt = ap (λ (bytes : List ℕ). cond (bytes_eq (sha256 bytes) e.hash) (Some bytes) None)
          (still c lt (none_agreed c) e.len)

      view_bad : entry_view image shape.place shape.m e ≡ mended_entry (seen e)
      view_bad =
          view_same start image shape.place shape.m e counts_as
          (λ v c lt at.
          let none : v ≡ None = at ∙ bad_voted start shape.place shape.m e s bad in
          ap (λ (o : Option (List ℕ)). lacks o (counting (start (area shape.place c)) e.blocks e.len e.hash)
          (has_all_bytes (image (area shape.place c)) e.blocks e.len)) none
          ∙ ap (λ (o : Option (List ℕ)). lacks o (counting (start (area shape.place c)) e.blocks e.len e.hash)
          (has_all_bytes (start (area shape.place c)) e.blocks e.len)) (sym none))
          ∙ sym (ap (λ (x : Content). mended_by x (seen e)) bad)

    view_now : entry_view image shape.place shape.m e ≡ mended_entry (seen e)
    view_now = ⊎_elim (λ found. view_good found.0 found.1) (λ found. view_bad found.0 found.1)
        (content_cases (seen e).content)

    -- what counted in a copy counts there
    still_counts : (c : ℕ) → c < shape.place.copies → counts start shape.place e c ≡ true
        → counts image shape.place e c ≡ true
    still_counts c lt was = ⊎_elim
        (λ found. ap is_some (counting_full (image (area shape.place c)) e.blocks found.0 e.hash e.len
        (full_at found.0 found.1 c lt) (sym (hashed found.0 found.1)) (sym (long found.0 found.1))))
        (λ found. ap is_some (counts_as found.0 found.1 c lt) ∙ was)
        (content_cases (seen e).content)

    -- copies that agreed agree
    agreed_now : AreAgreed shape start e → AreAgreed shape image e
    agreed_now alike a b s t lta ltb one two = ⊎_elim
        (λ found.
        let whole_in = λ (c : ℕ) (ltc : c < shape.place.copies).
        counting_full (image (area shape.place c)) e.blocks found.0 e.hash e.len
        (full_at found.0 found.1 c ltc) (sym (hashed found.0 found.1)) (sym (long found.0 found.1)) in
        some_same s t (sym one ∙ whole_in a lta ∙ sym (whole_in b ltb) ∙ two))
        (λ found. alike a b s t lta ltb (sym (counts_as found.0 found.1 a lta) ∙ one)
        (sym (counts_as found.0 found.1 b ltb) ∙ two))
        (content_cases (seen e).content)
      where
        some_same : (x y : List ℕ) → Some x ≡ Some y → x ≡ y
        some_same x y e = cc

-- ---- all of them

zip_in : {X B : Type 0} (R : X → B → Type 0) (g : X → B) (xs : List X) → AllZip R xs (map g xs) → (x : X) → In x xs
    → R x (g x)
zip_in R g [] zip x inside = absurd inside
zip_in R g (y ∷ xs) zip x (inl same) = subst (λ z. R z (g z)) same zip.0
zip_in R g (y ∷ xs) zip x (inr rest) = zip_in R g xs zip.1 x rest

map_in : {X B : Type 0} (f g : X → B) (xs : List X) → ((x : X) → In x xs → f x ≡ g x) → map f xs ≡ map g xs
map_in f g [] each = refl
map_in f g (x ∷ xs) each = ap (λ y. y ∷ map f xs) (each x (inl refl))
    ∙ ap (λ ys. g x ∷ ys) (map_in f g xs (λ y inside. each y (inr inside)))

map_twice : {X B C : Type 0} (f : X → B) (g : B → C) (xs : List X) → map g (map f xs) ≡ map (λ x. g (f x)) xs
map_twice f g [] = refl
map_twice f g (x ∷ xs) = ap (λ ys. g (f x) ∷ ys) (map_twice f g xs)

mended_each : (fs : List Entry) → AllByRecursion (λ (f : Entry). IsMended f.content f.lacking) (map mended_entry fs)
mended_each [] = tt
mended_each (f ∷ fs) = (one f f.content refl, mended_each fs)
  where
    one : (f : Entry) (x : Content) → f.content ≡ x → IsMended (mended_entry f).content (mended_entry f).lacking
    one f (Good v) at =
        let whole : mended_entry f ≡ record {
          name = f.name;
          info = f.info;
          changed = f.changed;
          len = f.len;
          content =
              f.content;
          lacking = [];
        } = ap (λ (y : Content). mended_by y f) at in
        subst (λ (z : Entry). IsMended z.content z.lacking) (sym whole)
        (subst (λ (y : Content). IsMended y []) (sym at) refl)
    one f (Bad s) at =
        let same : mended_entry f ≡ f = ap (λ (y : Content). mended_by y f) at in
        subst (λ (z : Entry). IsMended z.content z.lacking) (sym same)
        (subst (λ (y : Content). IsMended y f.lacking) (sym at) tt)

module _ (shape : Shape) (start now image : Image) (g : ℕ) (text : List ℕ) (index : Index) (views : List Entry)
    (is : IsShape shape)
    (fit : fit_index shape text ≡ Some index) (shown : AreShown shape index views start)
    (areas : Spares (IsNoSlot shape.place) start now)
    (alone : IsAlone now shape.place g text)
    (read : AllZip (IsReadBy shape.place.copies) index.entries views)
    (spared : IsSparing KeepsBlocksWhole shape start now index image)
    (whole : AllZip (IsWholeIn image shape.place) index.entries views) where
  some : 1 ≤ shape.place.copies
  some = (let a = is.some in let b = is.enough in omega (arith, a, b))

  reads : (e : IndexEntry) → In e index.entries → IsReadBy shape.place.copies e (entry_view start shape.place shape.m e)
  reads e inside = zip_in (IsReadBy shape.place.copies) (entry_view start shape.place shape.m) index.entries
      (subst (λ (fs : List Entry). AllZip (IsReadBy shape.place.copies) index.entries fs) shown read) e inside

  wholes : (e : IndexEntry) → In e index.entries → IsWholeIn image shape.place e
      (entry_view start shape.place shape.m e)
  wholes e inside = zip_in (IsWholeIn image shape.place) (entry_view start shape.place shape.m) index.entries
      (subst (λ (fs : List Entry). AllZip (IsWholeIn image shape.place) index.entries fs) shown whole) e inside

  pub opened_alone : IsAlone image shape.place g text
  opened_alone = record {
    held = λ copy lt. subst (λ (bytes : List ℕ). VerifiesAs bytes g text)
        (sym (spared.slots (slot shape.place copy (own g))
        (slot_no_area shape.place copy g))) (alone.held copy lt);
    blank = λ copy lt. subst (λ (bytes : List ℕ). IsBlank bytes)
        (sym (spared.slots (slot shape.place copy (other g)) (other_no_area copy))) (alone.blank copy lt);
  }
    where
      other_no_area : (copy : ℕ) → IsNoArea shape.place (slot shape.place copy (other g))
      other_no_area copy c lt same = omega (arith, same)

  pub opened_entries : map mended_entry views ≡ map (entry_view image shape.place shape.m) index.entries
  opened_entries =
      ap (λ (fs : List Entry). map mended_entry fs) shown
      ∙ map_twice (entry_view start shape.place shape.m) mended_entry index.entries
      ∙ sym (map_in (entry_view image shape.place shape.m) (λ e. mended_entry (entry_view start shape.place shape.m e))
      index.entries
      (λ e inside. view_now shape start now image is areas e (reads e inside) (wholes e inside)
      (all_in _ index.entries spared.kept e inside)))

  -- enough copies supported the text, and so they do
  abbrev it : FitText
  it = alone_text image shape g text index some opened_alone fit

  supported : (s : Scope) (t : FitText) → t.1 ≡ index → shape.m ≤ length (supporters s start shape.place t)
      → shape.m ≤ length (supporters s image shape.place it)
  supported scope.Element t same enough =
      let long = supports_element image shape g text index some opened_alone fit in
      let b = is.enough in
      omega (arith, long, b)
  supported scope.Storage t same enough = passing_enough (holds_all image shape.place it) shape.place.copies shape.m
      (at_least_map (λ c. holds_all start shape.place t c ≡ true) (λ c. holds_all image shape.place it c ≡ true)
      shape.place.copies shape.m
      (λ c lt was. true_both (holds_text image shape.place it c)
      (list_all (λ e. counts image shape.place e c) index.entries)
      (all_hold image shape.place g text some opened_alone c lt)
      (In-list_all (λ e. counts image shape.place e c) index.entries (λ e inside.
      still_counts shape start now image is areas e (reads e inside) (wholes e inside)
      (all_in _ index.entries spared.kept e inside) c lt
      (list_all-In (λ e. counts start shape.place e c) e index.entries
      (subst (λ (i : Index). list_all (λ e. counts start shape.place e c) i.entries ≡ true) same
      (both_true (holds_text start shape.place t c) (list_all (λ e. counts start shape.place e c) t.1.entries)
      was).1) inside))))
      (enough_pass (holds_all start shape.place t) shape.place.copies shape.m enough))

  pub opened_opens : (t : FitText) → t.1 ≡ index → qualifies start shape t ≡ true
      → store_at image shape ≡ Opens (whole_view shape g (map mended_entry views)) []
  opened_opens t same enough =
      opens_alone image shape g text index some opened_alone fit
      (supported shape.scope t same (leb-true shape.m (length (supporters shape.scope start shape.place t)) enough))
      ∙ ap (λ (fs : List Entry). Opens (whole_view shape g fs) []) (sym opened_entries)

  pub opened_clean : CleanLaw → IsClean shape start → OpensAt shape start g text index → IsClean shape image
  opened_clean law clean opens = law shape image g text index opened_alone fit
      (all_by (AreAgreed shape image) index.entries (λ e inside.
      agreed_now shape start now image is areas e (reads e inside) (wholes e inside)
      (all_in _ index.entries spared.kept e inside)
      (λ a b s t lta ltb one two. clean.alike (where_of e) a b s t (named e inside) lta ltb one two)))
    where
      named : (e : IndexEntry) → In e index.entries → IsNamed shape.place start (where_of e)
      named e inside = record {
        copy = opens.copy;
        generation = g;
        text = text;
        index = index;
        inside = opens.inside;
        held = opens.held;
        spelled = fit-spelled shape text index fit;
        named = In-Contains (where_of e) (map where_of index.entries) (map-In where_of e index.entries inside);
      }

pub find_passes : {X : Type 0} (p : X → Bool) (xs : List X) (x : X) → find p xs ≡ Some x → p x ≡ true
find_passes p [] x e = absurd (never e)
  where
    never : None ≡ Some x → ⊥
    never e = cc
find_passes p (y ∷ xs) x e = ⊎_elim
    (λ passes. subst (λ z. p z ≡ true) (same (sym (cond-true (p y) (Some y) (find p xs) passes) ∙ e)) passes)
    (λ fails. find_passes p xs x (sym (cond-false (p y) (Some y) (find p xs) fails) ∙ e))
    (cases_Bool (p y))
  where
    same : Some y ≡ Some x → y ≡ x
    same e = cc

-- ---- the storage in memory

read_mended : (copies : ℕ) (es : List IndexEntry) (fs : List Entry) → AllZip (IsReadBy copies) es fs
    → AllZip (IsReadBy copies) es (map mended_entry fs)
read_mended copies [] [] zip = tt
read_mended copies [] (f ∷ fs) zip = absurd zip
read_mended copies (e ∷ es) [] zip = absurd zip
read_mended copies (e ∷ es) (f ∷ fs) zip = (one f.content refl, read_mended copies es fs zip.1)
  where
    one : (x : Content) → f.content ≡ x → IsReadBy copies e (mended_entry f)
    one (Good v) at = subst (λ (z : Entry). IsReadBy copies e z) (sym (ap (λ (y : Content). mended_by y f) at))
        (record {
          name = zip.0.name;
          info = zip.0.info;
          changed = zip.0.changed;
          len = zip.0.len;
          value = zip.0.value;
          lacking = λ i lt. absurd (omega (arith, lt));
          ascend = λ i j less lt. absurd (omega (arith, lt));
        })
    one (Bad s) at = subst (λ (z : Entry). IsReadBy copies e z) (sym (ap (λ (y : Content). mended_by y f) at)) zip.0

module _ (told : Bool) (start now image : Image) (shape : Shape) (r : OpeningPlan) (cell : Cell) (text : List ℕ)
    (is : IsShape shape) (ready : IsOpeningPlan shape r) (same : text ≡ r.seen.text)
    (of : IsCellOf shape.place r.seen.generation cell) (held : IsTrue told → CellAt now cell text)
    (found : IsTrue told → IsFoundOn start shape r) (areas : IsTrue told
    → Spares (IsNoSlot shape.place) start now)
    (spared : IsTrue told → SparesOthers shape r.index r.before.entries now image)
    (whole : IsTrue told → AllZip (IsWholeIn image shape.place) r.index.entries r.before.entries) where
  text_is : r.seen.text ≡ index_text r.index
  text_is = ready.text.index.spelled

  pub shown_at : IsTrue told → AreShown shape r.index r.before.entries start
  unfolding view_of
  shown_at tells = ap (λ (v : View). v.entries) (found tells).view

  fit : fit_index shape (index_text r.index) ≡ Some r.index
  fit = subst (λ (t : List ℕ). fit_index shape t ≡ Some r.index) text_is ready.text.index.fit

  adopted_alone : IsTrue told → IsAlone now shape.place r.seen.generation (index_text r.index)
  adopted_alone tells =
      subst (λ (t : List ℕ). IsAlone now shape.place r.seen.generation t) (same ∙ text_is)
      (subst (λ (g : ℕ). IsAlone now shape.place g text) of.counts
      (subst (λ (p : Place). IsAlone now p cell.generation text) of.lies (held tells)))

  in_use : IsTrue told → IsInUse shape image r.index (whole_view shape r.seen.generation
      (map mended_entry r.before.entries))
  in_use tells = record {
    alone = opened_alone shape start now image r.seen.generation (index_text r.index) r.index r.before.entries is fit
        (shown_at tells) (areas tells) (adopted_alone tells) ready.read (spared tells start (shown_at tells))
        (whole tells);
    fit = fit;
    opens = opened_opens shape start now image r.seen.generation (index_text r.index) r.index r.before.entries is fit
        (shown_at tells) (areas tells) (adopted_alone tells) ready.read (spared tells start (shown_at tells))
        (whole tells)
        (r.seen, r.index) refl (find_passes (qualifies start shape) (fit_texts shape start) (r.seen, r.index)
        (found tells).first);
    sole = refl;
    entries = opened_entries shape start now image r.seen.generation (index_text r.index) r.index r.before.entries is
        fit (shown_at tells) (areas tells) (adopted_alone tells) ready.read (spared tells start (shown_at tells))
        (whole tells);
    mended = mended_each r.before.entries;
  }

  pub opening_clean : CleanLaw → OpenedLaw → IsTrue told → IsClean shape start → IsClean shape image
  opening_clean law opened tells clean = opened_clean shape start now image r.seen.generation (index_text r.index)
      r.index r.before.entries is fit (shown_at tells) (areas tells) (adopted_alone tells) ready.read
      (spared tells start (shown_at tells)) (whole tells)
      law clean (subst (λ (t : List ℕ). OpensAt shape start r.seen.generation t r.index) text_is
      (opened shape start (r.seen, r.index) (found tells).first))

  abbrev store : Global → Vec KeptStates Global → Store
  store alloc kept = record {
    alloc = alloc;
    shape = shape;
    cell = cell;
    index = r.index;
    entries = r.entries;
    used =
        r.used;
    kept = kept;
  }

  view_is : (alloc : Global) (kept : Vec KeptStates Global) → view_in (store alloc kept)
      ≡ whole_view shape r.seen.generation (map mended_entry r.before.entries)
  view_is alloc kept = ap (λ (g : ℕ). whole_view shape g r.entries.items) of.counts
      ∙ ap (λ (fs : List Entry). whole_view shape r.seen.generation fs) ready.entries

  pub opening_view : (alloc : Global) (kept : Vec KeptStates Global) (s : Store) → s ≡ store alloc kept
      → view_in s ≡ mended_view shape r.before
  unfolding mended_view
  opening_view alloc kept s e = ap (λ (x : Store). view_in x) e ∙ view_is alloc kept
      ∙ ap (λ (g : ℕ). whole_view shape g (map mended_entry r.before.entries)) (sym ready.generation)

  used_now : (alloc : Global) → IsUsed told image (store alloc r.kept)
  used_now alloc = record {
    memory = record {
      place = of.lies;
      shape = is;
      positive = (let counts = of.counts in let least = ready.text.sealable.positive in omega (arith, counts, least));
      index = record { spelled = refl; rules = ready.text.index.rules; fits = ready.text.index.fits; fit = fit };
      entries = subst (λ (fs : List Entry). AllZip (IsReadBy shape.place.copies) r.index.entries fs) (sym ready.entries)
          (read_mended shape.place.copies r.index.entries r.before.entries ready.read);
      taken = ready.taken;
      kept = ready.kept;
    };
    disk = λ tells. subst (λ (v : View). IsInUse shape image r.index v) (sym (view_is alloc r.kept)) (in_use tells);
  }

  pub opening_used : (alloc : Global) (s : Store) → s ≡ store alloc r.kept → IsUsed told image s
  opening_used alloc s e = subst (λ (x : Store). IsUsed told image x) (sym e) (used_now alloc)

-- ---- what the moments of an opening ask

pub opening_shown : (start : Image) (shape : Shape) (r : OpeningPlan) (views : List Entry) → IsFoundOn start shape r
    → views ≡ r.before.entries → AreShown shape r.index views start
unfolding view_of
opening_shown start shape r views found same = same ∙ ap (λ (v : View). v.entries) found.view

pub opening_opens : (start : Image) (shape : Shape) (r : OpeningPlan) (text : List ℕ) → IsFoundOn start shape r
    → text ≡ r.seen.text → OpenedLaw → OpensAt shape start r.seen.generation text r.index
opening_opens start shape r text found same opened =
    subst (λ (t : List ℕ). OpensAt shape start r.seen.generation t r.index) (sym same)
    (opened shape start (r.seen, r.index) found.first)

pub opening_by : (start : Image) (shape : Shape) (r : OpeningPlan) (index : Index) → index ≡ r.index
    → IsFoundOn start shape r → OpensBy start shape index
opening_by start shape r index same found = record {
  seen = r.seen;
  first = found.first ∙ ap (λ (i : Index). (let o : Option FitText = Some (r.seen, i) in o)) (sym same);
}

pub opening_alone : (image : Image) (shape : Shape) (g : ℕ) (cell : Cell) (text : List ℕ) → IsCellOf shape.place g cell
    → CellAt image cell text
    → IsAlone image shape.place g text
opening_alone image shape g cell text of held =
    subst (λ (n : ℕ). IsAlone image shape.place n text) of.counts
    (subst (λ (p : Place). IsAlone image p cell.generation text) of.lies held)

module _ (told : Bool) (shape : Shape) (r : OpeningPlan) (views : List Entry) where
  pub opening_spared : (now image : Image) → views ≡ r.before.entries
      → (IsTrue told → SparesOthers shape r.index views now image)
      → IsTrue told → SparesOthers shape r.index r.before.entries now image
  opening_spared now image same spared tells = subst (λ (fs : List Entry). SparesOthers shape r.index fs now image) same
      (spared tells)

  pub opening_whole : (image : Image) → views ≡ r.before.entries
      → (IsTrue told → AllZip (IsWholeIn image shape.place) r.index.entries views)
      → IsTrue told → AllZip (IsWholeIn image shape.place) r.index.entries r.before.entries
  opening_whole image same whole tells = subst (λ (fs : List Entry).
      AllZip (IsWholeIn image shape.place) r.index.entries fs) same (whole tells)

-- some copy holds the text at which it opens
opened_text : (shape : Shape) (start : Image) (r : OpeningPlan) → IsFoundOn start shape r
    → (copy : ℕ) × (copy < shape.place.copies) × Holds start shape.place copy r.seen.generation r.seen.text
opened_text shape start r found =
    let u = In-fit start shape (r.seen, r.index) (find_in (qualifies start shape) (fit_texts shape start)
    (r.seen, r.index) found.first) in (
      u.copy,
      u.inside,
      subst (λ (x : FitText). Holds start shape.place u.copy x.0.generation x.0.text) u.is
          u.holds,
    )
  where
    find_in : {X : Type 0} (p : X → Bool) (xs : List X) (x : X) → find p xs ≡ Some x → In x xs
    find_in p [] x e = cc
    find_in p (y ∷ xs) x e = ⊎_elim
        (λ passes. inl (some_same y x (sym (cond-true (p y) (Some y) (find p xs) passes) ∙ e)))
        (λ fails. inr (find_in p xs x (sym (cond-false (p y) (Some y) (find p xs) fails) ∙ e)))
        (cases_Bool (p y))
      where
        some_same : {X : Type 0} (a b : X) → Some a ≡ Some b → a ≡ b
        some_same a b e = cc

-- ---- a storage that is in use as it is

module _ (shape : Shape) (old one two : Medium) (r : OpeningPlan) (text : List ℕ) (views : List Entry) (index : Index)
    (v : View) (is : IsShape shape)
    (in_use : IsInUse shape old.image index v) (ready : IsOpeningPlan shape r) (found : IsFoundOn old.image shape r)
    (same : text ≡ r.seen.text) (viewed : views ≡ r.before.entries) where
  before_is : r.before ≡ v
  before_is = some_is (sym found.opens ∙ ap opened_of in_use.opens)
    where
      some_is : Some r.before ≡ Some v → r.before ≡ v
      some_is e = cc

  pub idle_views : AllByRecursion (λ (e : Entry). IsMended e.content e.lacking) views
  idle_views = subst (λ (es : List Entry). AllByRecursion (λ (e : Entry). IsMended e.content e.lacking) es)
      (sym (viewed ∙ ap (λ (w : View). w.entries) before_is)) in_use.mended

  its_text : r.seen.text ≡ index_text index
  its_text =
      let u = opened_text shape old.image r found in
      (alone_only old.image shape.place v.generation (index_text index) in_use.alone u.0 u.1
      r.seen.generation r.seen.text u.2).1

  pub idle_alone : (image : Image) → image ≡ old.image → IsAlone image shape.place
      r.seen.generation text
  idle_alone image e =
      subst (λ (im : Image). IsAlone im shape.place r.seen.generation text) (sym e)
      (subst (λ (t : List ℕ). IsAlone old.image shape.place r.seen.generation t)
      (sym (same ∙ its_text))
      (subst (λ (g : ℕ). IsAlone old.image shape.place g (index_text index))
      (sym (ap (λ (w : View). w.generation) before_is) ∙ ready.generation) in_use.alone))

  -- and while its text is adopted
  pub idle_adopted : one.image ≡ old.image → one.written ≡ old.written
      → Spares (IsRight one.image shape.place r.seen.generation text) one.image two.image
      → (IsAlone one.image shape.place r.seen.generation text → two.written ≡ one.written)
      → IsAsBefore old two
  idle_adopted image written right already =
      let alone = idle_alone one.image image in
      record {
        image = (λ j f. right f (all_right alone f) j) ∙ image;
        written = already alone ∙ written;
      }
    where
      all_right : IsAlone one.image shape.place r.seen.generation text → (f : ℕ)
          → IsRight one.image shape.place r.seen.generation text f
      all_right alone f copy lt = (
        (λ e. subst (λ (k : ℕ). VerifiesAs (one.image k) r.seen.generation text) (sym e) (alone.held copy lt)),
        (λ e. subst (λ (k : ℕ). IsBlank (one.image k)) (sym e) (alone.blank copy lt)),
      )

pub idle_on : (old one two : Medium) → IsAsBefore old one → IsAsBefore one two → IsAsBefore old two
idle_on old one two a b = record { image = b.image ∙ a.image; written = b.written ∙ a.written }
