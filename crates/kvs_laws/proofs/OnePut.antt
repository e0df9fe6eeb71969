-- A commit that puts one value changes the value of that key and nothing else.
use Rattle.std.proofs.Common.{◌≡◌, ◌≢◌, ℕ, zero, suc, ◌+◌, List, [], ◌∷◌, length, map, true, false, Option, Some, None}
use Rattle.std.proofs.Common.{refl, sym, ap, ◌∙◌, subst, inl, inr, eqb, leb, ltb, arith}
use Rattle.std.specs.Prelude.{◌⊎◌, ◌&&◌, IsTrue}
use Rattle.std.specs.List.{All, AllZip, list_all}
use Rattle.std.specs.Str.{bytes_eq}
use Rattle.std.specs.declared.cmp.Ordering.{Ordering}
use Rattle.std.specs.declared.cmp.Ordering.TheVariants.{Less, Equal, Greater}
use Rattle.std.proofs.lemmas.Bool.{cases_Bool, and_parts, eqb-true}
use Rattle.per_base.specs.declared.elements.Change.{Change}
use Rattle.per_base.specs.declared.elements.Change.TheVariants.{Put}
use Rattle.per_base.specs.declared.elements.Entry.{Entry}
use Rattle.per_base.specs.declared.elements.FileInfo.{FileInfo}
use Rattle.per_base.specs.declared.elements.Fresh.{Fresh}
use Rattle.per_base.specs.declared.elements.StoreKind.{StoreKind}
use Rattle.per_base.specs.declared.elements.StoreKind.TheVariants.{Keys, Files}
use Rattle.per_base.specs.Changes.{changed_name}
use Rattle.per_base.specs.Contents.{blocks_for}
use Rattle.per_base.specs.Names.{name_cmp, NamesAscend}
use Rattle.index_text.specs.declared.entries.Index.{Index}
use Rattle.index_text.specs.declared.entries.IndexEntry.{IndexEntry}
use Rattle.index_text.specs.Rules.{IsEntry, blocks_of, has_info}
use Rattle.index_text.specs.Sizes.{Fits, area_blocks, size_of}
use Rattle.index_text.specs.Spelling.{store_kind_code}
use Rattle.element_state.specs.Changes.{after_changes, committed_by, entry_name, item_at}
use Rattle.element_state.specs.Chosen.{IsReadBy}
use Rattle.element_state.specs.States.{fresh_element, fresh_entry}
use Rattle.element_maps.specs.lemmas.InOrder.{ComesBeforeAll, first, rest, item_above, item_each, item_first, item_put}
use Rattle.element_maps.specs.lemmas.InOrder.{item_named}
use Rattle.element_maps.specs.lemmas.Names.{same_names, eq_names, eq_itself, tied_names, greater_less, less_less}
use Rattle.element_store.specs.Changing.{named_by}
use Rattle.element_store.specs.Committing.{index_in}
use Rattle.element_store.specs.Stores.{entries_of, store_generation, store_shape}
use Rattle.element_store.specs.declared.store.Store.{Store}
use Rattle.kvs_laws.specs.Costs.{ChangesValue, IsOfValue, PutsValue}

-- ---- two lists that have the same names are paired

abbrev Pair : List ℕ → ℕ → IndexEntry → IndexEntry → Type 0
Pair name blocks d e = (e ≡ d) ⊎ IsOfValue name blocks d e

abbrev IsPaired : List ℕ → ℕ → Option IndexEntry → Option IndexEntry → Type 0
IsPaired name blocks None None = Unit {0}
IsPaired name blocks None (Some e) = ⊥
IsPaired name blocks (Some d) None = ⊥
IsPaired name blocks (Some d) (Some e) = Pair name blocks d e

above_all : (a b : List ℕ) (names : List (List ℕ)) → name_cmp a b ≡ Less → ComesBeforeAll b names
    → ComesBeforeAll a names
above_all a b [] less above = tt
above_all a b (n ∷ ns) less above = (less_less a b n less above.0, above_all a b ns less above.1)

module _ (key : List ℕ) (blocks : ℕ) where
  paired : (xs ys : List IndexEntry) → NamesAscend named_by xs → NamesAscend named_by ys
      → ((name : List ℕ) → IsPaired key blocks (item_at named_by name xs) (item_at named_by name ys))
      → AllZip (Pair key blocks) xs ys
  paired [] [] up also found = tt
  paired [] (y ∷ ys) up also found = rw (item_first named_by y ys) at (found y.name)
  paired (x ∷ xs) [] up also found = rw (item_first named_by x xs) at (found x.name)
  paired (x ∷ xs) (y ∷ ys) up also found = by (name_cmp x.name y.name) refl
      (λ later. paired xs ys (rest named_by x xs up) (rest named_by y ys also) later)
    where
      none_behind : (z : IndexEntry) (zs : List IndexEntry) (name : List ℕ) → NamesAscend named_by (z ∷ zs)
          → z.name ≡ name → item_at named_by name zs ≡ None
      none_behind z zs name sorted is = subst (λ (n : List ℕ). item_at named_by n zs ≡ None) is
          (item_above named_by z.name zs (first named_by z zs sorted))

      tails : x.name ≡ y.name → (name : List ℕ)
          → IsPaired key blocks (item_at named_by name xs) (item_at named_by name ys)
      tails is name = elim (cases_Bool (bytes_eq x.name name)) [
        | inl t ↦
            let named : x.name ≡ name = same_names x.name name t in
            rw (none_behind x xs name up named, none_behind y ys name also (sym is ∙ named)) tt
        | inr f ↦
            let g : bytes_eq y.name name ≡ false = ap (λ n. bytes_eq n name) (sym is) ∙ f in
            let one : item_at named_by name (x ∷ xs) ≡ item_at named_by name xs = rw f refl in
            let two : item_at named_by name (y ∷ ys) ≡ item_at named_by name ys = rw g refl in
            rw (← one, ← two) (found name)
      ]

      by : (o : Ordering) → name_cmp x.name y.name ≡ o
          → (((name : List ℕ) → IsPaired key blocks (item_at named_by name xs) (item_at named_by name ys))
          → AllZip (Pair key blocks) xs ys) → AllZip (Pair key blocks) (x ∷ xs) (y ∷ ys)
      by Less e later =
          let none : item_at named_by x.name (y ∷ ys) ≡ None = item_above named_by x.name (y ∷ ys)
          (e, above_all x.name y.name (map named_by ys) e (first named_by y ys also)) in
          absurd (rw (item_first named_by x xs, none) at (found x.name))
      by Greater e later =
          let less : name_cmp y.name x.name ≡ Less = greater_less x.name y.name e in
          let none : item_at named_by y.name (x ∷ xs) ≡ None = item_above named_by y.name (x ∷ xs)
          (less, above_all y.name x.name (map named_by xs) less (first named_by x xs up)) in
          absurd (rw (none, item_first named_by y ys) at (found y.name))
      by Equal e later =
          let is : x.name ≡ y.name = same_names x.name y.name (tied_names x.name y.name e) in
          let there : item_at named_by x.name (y ∷ ys) ≡ Some y =
          subst (λ (n : List ℕ). item_at named_by n (y ∷ ys) ≡ Some y) (sym is) (item_first named_by y ys) in
          (rw (item_first named_by x xs, there) at (found x.name), later (tails is))

-- ---- an entry and what it shows

record IsShown (copies : ℕ) (name : List ℕ) (es : List IndexEntry) (f : Entry) : Type 0 where
  pub entry : IndexEntry
  pub found : item_at named_by name es ≡ Some entry
  pub read : IsReadBy copies entry f

shown : (copies : ℕ) (name : List ℕ) (es : List IndexEntry) (fs : List Entry) (f : Entry)
    → AllZip (IsReadBy copies) es fs → item_at entry_name name fs ≡ Some f → IsShown copies name es f
shown copies name [] [] f zip is = absurd cc
shown copies name [] (g ∷ fs) f zip is = absurd zip
shown copies name (e ∷ es) [] f zip is = absurd zip
shown copies name (e ∷ es) (g ∷ fs) f zip is = elim (cases_Bool (bytes_eq g.name name)) [
  | inl t ↦
      let s : Some g ≡ Some f = rw t at is in
      let same : g ≡ f = cc in
      let u : bytes_eq e.name name ≡ true = ap (λ n. bytes_eq n name) (sym zip.0.name) ∙ t in
      record { entry = e; found = rw u refl; read = subst (IsReadBy copies e) same zip.0 }
  | inr t ↦
      let later = shown copies name es fs f zip.1 (rw t at is) in
      let u : bytes_eq e.name name ≡ false = ap (λ n. bytes_eq n name) (sym zip.0.name) ∙ t in
      record { entry = later.entry; found = rw u later.found; read = later.read }
]

-- ---- what the rules say of it

same_code : (a b : StoreKind) → store_kind_code a ≡ store_kind_code b → a ≡ b
same_code Keys Keys e = refl
same_code Keys Files e = absurd cc
same_code Files Keys e = absurd cc
same_code Files Files e = refl

kind_is : (kind : StoreKind) (allowed : ℕ) (i : Index) → Fits kind allowed i → i.kind ≡ kind
kind_is kind allowed i fits =
    let front = and_parts (eqb (store_kind_code i.kind) (store_kind_code kind) && leb (size_of i.entries) allowed)
    (list_all (λ b. ltb b (area_blocks allowed)) (blocks_of i.entries)) fits in
    same_code i.kind kind (eqb-true _ _ (and_parts (eqb (store_kind_code i.kind) (store_kind_code kind))
    (leb (size_of i.entries) allowed) front.0).0)

no_info : (kind : StoreKind) (info : Option FileInfo) → kind ≡ Keys → IsTrue (has_info kind info) → info ≡ None
no_info kind None keys is = refl
no_info kind (Some i) keys is = absurd (let none : IsTrue (has_info Keys (Some i)) = rw keys at is in cc)

-- ---- the commit

module _ (f : Fresh) (old new : Store) (puts : PutsValue f old new) where
  abbrev Copies : ℕ
  Copies = (store_shape old).place.copies

  entries_are : entries_of new ≡ after_changes (store_generation old + 1) (entries_of old) (Put f ∷ [])
  unfolding committed_by
  entries_are = ap (λ v. v.entries) puts.view

  put_there : item_at entry_name f.name (entries_of new)
      ≡ Some (fresh_entry (store_generation old + 1) (fresh_element f))
  put_there = ap (item_at entry_name f.name) entries_are
      ∙ item_put entry_name f.name (fresh_entry (store_generation old + 1) (fresh_element f)) (entries_of old)
      ∙ rw (eq_itself f.name) refl

  old_kind : (index_in old).kind ≡ Keys
  old_kind = kind_is (store_shape old).kind (store_shape old).allowed (index_in old) puts.old_store.index.fits ∙ puts.kind

  new_kind : (index_in new).kind ≡ Keys
  new_kind = kind_is (store_shape new).kind (store_shape new).allowed (index_in new) puts.new_store.index.fits
      ∙ ap (λ s. s.kind) puts.shape ∙ puts.kind

  abbrev Blocks : ℕ
  Blocks = blocks_for (length f.bytes)

  abbrev Was : IsShown Copies f.name (index_in old).entries puts.was
  Was = shown Copies f.name (index_in old).entries (entries_of old) puts.was puts.old_store.entries puts.there

  abbrev Is : IsShown (store_shape new).place.copies f.name (index_in new).entries
      (fresh_entry (store_generation old + 1) (fresh_element f))
  Is = shown (store_shape new).place.copies f.name (index_in new).entries (entries_of new)
      (fresh_entry (store_generation old + 1) (fresh_element f)) puts.new_store.entries put_there

  of_value : IsOfValue f.name Blocks Was.entry Is.entry
  of_value =
      let was = item_each named_by (IsEntry (index_in old).format (index_in old).kind) f.name (index_in old).entries
      Was.entry puts.old_store.index.rules.each Was.found in
      let is = item_each named_by (IsEntry (index_in new).format (index_in new).kind) f.name (index_in new).entries
      Is.entry puts.new_store.index.rules.each Is.found in
      record {
        old_name = item_named named_by f.name (index_in old).entries Was.entry Was.found;
        new_name = item_named named_by f.name (index_in new).entries Is.entry Is.found;
        info = no_info (index_in new).kind Is.entry.info new_kind is.info
            ∙ sym (no_info (index_in old).kind Was.entry.info old_kind was.info);
        old_blocks = was.blocks ∙ ap blocks_for (sym Was.read.len) ∙ puts.as_many;
        new_blocks = is.blocks ∙ ap blocks_for (sym Is.read.len);
      }

  found : (name : List ℕ) → IsPaired f.name Blocks (item_at named_by name (index_in old).entries)
      (item_at named_by name (index_in new).entries)
  found name = elim (cases_Bool (bytes_eq f.name name)) [
    | inl t ↦ subst (λ (n : List ℕ). IsPaired f.name Blocks (item_at named_by n (index_in old).entries)
        (item_at named_by n (index_in new).entries)) (same_names f.name name t)
        (rw (Was.found, Is.found) (inr of_value))
    | inr t ↦ same (item_at named_by name (index_in old).entries) (item_at named_by name (index_in new).entries)
        (puts.carried name (only (Put f) (apart t)))
  ]
    where
      apart : bytes_eq f.name name ≡ false → f.name ≢ name
      apart t is = let u : bytes_eq f.name name ≡ true = eq_names f.name name is in absurd cc

      only : (c : Change) → changed_name c ≢ name → All (λ change. changed_name change ≢ name) (c ∷ [])
      only c differs zero d lt = differs
      only c differs (suc k) d lt = absurd (omega (arith, lt))

      same : (o p : Option IndexEntry) → p ≡ o → IsPaired f.name Blocks o p
      same o p is = subst (IsPaired f.name Blocks o) (sym is) (itself o)
        where
          itself : (q : Option IndexEntry) → IsPaired f.name Blocks q q
          itself None = tt
          itself (Some d) = inl refl

  pub put_changes : ChangesValue f.name (blocks_for (length f.bytes)) (index_in old) (index_in new)
  put_changes = record {
    format = puts.new_format ∙ sym puts.old_format;
    kind = new_kind ∙ sym old_kind;
    entries = paired f.name Blocks (index_in old).entries (index_in new).entries
        puts.old_store.index.rules.names_ascend puts.new_store.index.rules.names_ascend found;
  }
