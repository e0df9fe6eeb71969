-- All names: the entries after the changes, and the map that they denote.
use Rattle.std.proofs.Common.{◌≡◌, ℕ, suc, ◌+◌, ◌<◌, ◌≤◌, Bool, true, false, cond, List, [], ◌∷◌, length, map, Option}
use Rattle.std.proofs.Common.{Some, None, refl, sym, ap, subst, ◌∙◌, arith}
use Rattle.std.specs.Prelude.{option_map, ◌↔◌}
use Rattle.std.specs.List.{AllByRecursion}
use Rattle.std.specs.Str.{bytes_eq}
use Rattle.std.specs.BTreeMap.{is_at}
use Rattle.std.proofs.lemmas.List.Sums.{sum_by-cons}
use Rattle.std.proofs.lemmas.Map.Text.{is_eq-slice_cmp}
use Rattle.per_base.specs.declared.elements.Scope.{Scope}
use Rattle.per_base.specs.declared.elements.Scope.TheVariants as scopes
use Rattle.per_base.specs.declared.elements.Content.{Content}
use Rattle.per_base.specs.declared.elements.Content.TheVariants.{Good, Bad}
use Rattle.per_base.specs.declared.elements.Element.{Element}
use Rattle.per_base.specs.declared.elements.Entry.{Entry}
use Rattle.per_base.specs.Maps as maps
use Rattle.per_base.specs.Maps.{Map, element_at}
use Rattle.per_base.specs.Names.{IsName, NamesAscend, name_cmp}
use Rattle.per_base.specs.declared.elements.Change.{Change}
use Rattle.per_base.specs.Changes.{changed_name, change_at}
use Rattle.per_base.specs.Contents.{HasLength}
use Rattle.element_state.specs.declared.shapes.Shape.{Shape}
use Rattle.element_state.specs.declared.shapes.View.{View}
use Rattle.element_state.specs.Changes.{item_at, entry_by_name, entry_name, is_same, kept_or_fresh, committed_entry}
use Rattle.element_state.specs.Changes.{after_changes, committed_by, committed}
use Rattle.element_state.specs.Conditions.{AreCommittable, IsChange, size_of}
use Rattle.element_state.specs.Read.{IsEntryOf, IsView}
use Rattle.element_state.specs.States.{fresh_entry, whole_view, lacking_by, greatest_generation}
use Rattle.element_state.specs.Views.{element_of, judged_entry, judged_content, lacks_one, map_of}
use Rattle.element_maps.specs.Differences.{difference}
use Rattle.element_maps.specs.Sessions.{IsHeldElement, IsNext, IsSync, PassesTest, synchronised}
use Rattle.element_maps.specs.lemmas.Names.{eq_back, same_names}
use Rattle.element_maps.specs.lemmas.InOrder.{item_each, item_named, item_first, each_item, item_map}
use Rattle.element_maps.specs.lemmas.InOrder.{ascends_map, same_lists, names_apart}
use Rattle.element_maps.specs.lemmas.Same.{element, is_same_is}
use Rattle.element_maps.proofs.Entries.{ascends_after, after_all, entry_after}
use Rattle.element_maps.proofs.Copies.{AreNumbers, no_numbers, numbers_passing}
use Rattle.element_maps.proofs.Points.{judged_element, judged_good, point, point_taken, no_change, unchanged, is_other}
use Rattle.element_maps.proofs.Points.{IsOther}

-- ---- maps as lists of items

abbrev pub pair_name : List ℕ × Element → List ℕ
pair_name e = e.0

abbrev pub paired : List ℕ → Element → List ℕ × Element
paired name e = (name, e)

at_name : (name other : List ℕ) → is_at (name_cmp name) other ≡ bytes_eq other name
at_name name other = is_eq-slice_cmp name other ∙ eq_back name other

pub item_in_map : (name : List ℕ) (m : Map) → item_at pair_name name m ≡ option_map (paired name) (element_at m name)
item_in_map name [] = refl
item_in_map name (e ∷ m) = rw (at_name name e.0) (by (bytes_eq e.0 name) refl (item_in_map name m))
  where
    by : (b : Bool) → bytes_eq e.0 name ≡ b → item_at pair_name name m ≡ option_map (paired name) (element_at m name)
        → cond b (Some e) (item_at pair_name name m) ≡ option_map (paired name) (cond b (Some e.1) (element_at m name))
    by true t later = ap (λ n. Some (paired n e.1)) (same_names e.0 name t)
    by false f later = later

some_pair : (name : List ℕ) (o : Option Element) (e : List ℕ × Element) → option_map (paired name) o ≡ Some e
    → o ≡ Some e.1
some_pair name None e is = absurd cc
some_pair name (Some x) e is = let same : paired name x ≡ e = cc in ap (λ (p : List ℕ × Element). Some p.1) same

pub found_in_map : (name : List ℕ) (m : Map) (e : List ℕ × Element) → item_at pair_name name m ≡ Some e
    → element_at m name ≡ Some e.1
found_in_map name m e is = some_pair name (element_at m name) e (sym (item_in_map name m) ∙ is)

-- what is found of each name is found
pub same_found : (m n : Map) → ((name : List ℕ) → element_at m name ≡ element_at n name) → (name : List ℕ)
    → item_at pair_name name m ≡ item_at pair_name name n
same_found m n found name = item_in_map name m ∙ ap (λ o. option_map (paired name) o) (found name)
    ∙ sym (item_in_map name n)

abbrev pub judged_pair : (List ℕ → Bool) → Entry → List ℕ × Element
judged_pair test e = (e.name, judged_element test e)

pub maps_through : (test : List ℕ → Bool) (es : List Entry)
    → map element_of (map (judged_entry test) es) ≡ map (judged_pair test) es
maps_through test [] = refl
maps_through test (e ∷ es) = ap (λ m. (e.name, judged_element test e) ∷ m) (maps_through test es)

-- what is synchronised under a name
pub synced_at : (test : List ℕ → Bool) (v : View) (name : List ℕ)
    → element_at (synchronised test v) name ≡ option_map (judged_element test) (entry_by_name name v.entries)
synced_at test v name = go v.entries
  where
    go : (es : List Entry) → element_at (map element_of (map (judged_entry test) es)) name
        ≡ option_map (judged_element test) (entry_by_name name es)
    go [] = refl
    go (e ∷ es) = rw (at_name name e.name) (by (bytes_eq e.name name) (go es))
      where
        by : (b : Bool) → element_at (map element_of (map (judged_entry test) es)) name
            ≡ option_map (judged_element test) (entry_by_name name es)
            → cond b (Some (judged_element test e)) (element_at (map element_of (map (judged_entry test) es)) name)
            ≡ option_map (judged_element test) (cond b (Some e) (entry_by_name name es))
        by true later = refl
        by false later = later

synced_ascends : (test : List ℕ → Bool) (v : View) → NamesAscend entry_name v.entries
    → NamesAscend pair_name (synchronised test v)
synced_ascends test v sorted = subst (λ (m : Map). NamesAscend pair_name m) (sym (maps_through test v.entries))
    (ascends_map entry_name pair_name (judged_pair test) (λ e. refl) v.entries sorted)

-- ---- the map of a view

untested_content : (content : Content) → judged_content (λ bytes. true) content ≡ content
untested_content (Good value) = refl
untested_content (Bad None) = refl
untested_content (Bad (Some salvage)) = refl

pub untested : (v : View) → synchronised (λ bytes. true) v ≡ map_of v
untested v = go v.entries
  where
    go : (es : List Entry) → map element_of (map (judged_entry (λ bytes. true)) es) ≡ map element_of es
    go [] = refl
    go (e ∷ es) = ap (λ c. (e.name, element e.info e.len c) ∷ map element_of (map (judged_entry (λ bytes. true)) es))
        (untested_content e.content) ∙ ap (λ m. element_of e ∷ m) (go es)

synced_length : (test : List ℕ → Bool) (es : List Entry) → length (map (judged_pair test) es) ≡ length es
synced_length test [] = refl
synced_length test (e ∷ es) = ap suc (synced_length test es)

synced_size : (test : List ℕ → Bool) (es : List Entry) → maps.size_of (map (judged_pair test) es) ≡ size_of es
synced_size test [] = refl
synced_size test (e ∷ es) =
    let later = synced_size test es in
    omega (
      arith,
      sum_by-cons (λ (x : Entry). length x.name + x.len) e es,
      sum_by-cons (λ (x : List ℕ × Element). length x.0 + x.1.len) (judged_pair test e) (map (judged_pair test) es),
      later,
    )

-- an entry that is read shows an element as its kind asks
read_held : (shape : Shape) (test : List ℕ → Bool) (x : Entry) (e : Element) → IsEntryOf shape x
    → judged_element test x ≡ e → IsHeldElement shape.kind (Some e) e e.content
read_held shape test x e read is = subst (λ (y : Element). IsHeldElement shape.kind (Some y) y y.content) is
    (by (judged_content test x.content) refl)
  where
    by : (content : Content) → judged_content test x.content ≡ content
        → IsHeldElement shape.kind (Some (judged_element test x)) (judged_element test x) content
    by (Good bytes) good = record {
      info = read.info;
      length = subst (λ (c : Content). HasLength c x.len) (judged_good test x.content bytes good) read.content;
      small = read.len;
    }
    by (Bad salvage) bad = refl

pub owed : (shape : Shape) (test : List ℕ → Bool) (v : View) → IsView shape v
    → IsNext shape (synchronised test v) (synchronised test v)
owed shape test v read = record {
  names_ascend = synced_ascends test v read.names_ascend;
  few = let few : length v.entries ≤ 1024 = read.few in let same : length (synchronised test v) ≡ length v.entries =
      ap length (maps_through test v.entries) ∙ synced_length test v.entries in omega arith;
  small = let small : size_of v.entries ≤ shape.allowed = read.small in
      let same : maps.size_of (synchronised test v) ≡ size_of v.entries =
      ap maps.size_of (maps_through test v.entries) ∙ synced_size test v.entries in omega arith;
  each = λ name e is.
      let found : option_map (judged_element test) (entry_by_name name v.entries) ≡ Some e =
      sym (synced_at test v name) ∙ is in
      subst (λ (o : Option Element). IsHeldElement shape.kind o e e.content) (sym is)
      (by name e (entry_by_name name v.entries) refl found);
}
  where
    by : (name : List ℕ) (e : Element) (o : Option Entry) → entry_by_name name v.entries ≡ o
        → option_map (judged_element test) o ≡ Some e → IsHeldElement shape.kind (Some e) e e.content
    by name e None at found = absurd cc
    by name e (Some x) at found = let one : judged_element test x ≡ e =
        cc in read_held shape test x e (item_each entry_name (IsEntryOf shape) name v.entries x read.each at) one

-- ---- the entries after the changes

module _ (shape : Shape) (test : List ℕ → Bool) (v : View) (synced new : Map) (changes : List Change)
    (sync : IsSync shape test v synced new changes) where
  abbrev pub made : List ℕ × Element → Entry
  made e = committed_entry (v.generation + 1) v.entries synced e

  abbrev pub after : List Entry
  after = after_changes (v.generation + 1) v.entries changes

  pub held_at : (name : List ℕ) → element_at synced name ≡ option_map (judged_element test)
      (entry_by_name name v.entries)
  held_at name = ap (λ (m : Map). element_at m name) sync.held ∙ synced_at test v name

  kept_name : (b : Bool) (e : List ℕ × Element) (o : Option Entry) → ((x : Entry) → o ≡ Some x → x.name ≡ e.0)
      → entry_name (kept_or_fresh (v.generation + 1) b o e) ≡ e.0
  kept_name true e (Some x) named = named x refl
  kept_name true e None named = refl
  kept_name false e o named = refl

  made_name : (e : List ℕ × Element) → entry_name (made e) ≡ pair_name e
  made_name e = kept_name (is_same (element_at synced e.0) e.1) e (entry_by_name e.0 v.entries)
      (λ x is. item_named entry_name e.0 v.entries x is)

  pub held_new : (name : List ℕ) (e : Element) → element_at new name ≡ Some e
      → IsHeldElement shape.kind (option_map (judged_element test) (entry_by_name name v.entries)) e e.content
  held_new name e is = subst (λ (o : Option Element). IsHeldElement shape.kind o e e.content) (held_at name)
      (sync.next.each name e is)

  after_at : (name : List ℕ) → entry_by_name name after ≡ entry_by_name name (map made new)
  after_at name =
      let old : Option Entry = entry_by_name name v.entries in
      after_all (v.generation + 1) v.entries changes name sync.made.names_ascend
      ∙ ap (λ c. entry_after (v.generation + 1) c (entry_by_name name v.entries)) (sync.made.exact name)
      ∙ ap (λ o. entry_after (v.generation + 1) (difference name o (element_at new name))
      (entry_by_name name v.entries))
      (held_at name)
      ∙ point shape.kind test (v.generation + 1) name (entry_by_name name v.entries) (element_at new name)
      (λ e is. item_named entry_name name v.entries e is) (held_new name)
      ∙ ap (λ o. option_map (λ e. kept_or_fresh (v.generation + 1) (is_same o e) (entry_by_name name v.entries)
      (name, e))
      (element_at new name)) (sym (held_at name))
      ∙ through (element_at new name)
      ∙ ap (λ o. option_map made o) (sym (item_in_map name new))
      ∙ sym (item_map pair_name entry_name made made_name name new)
    where
      through : (o : Option Element) → option_map (λ e. kept_or_fresh (v.generation + 1)
          (is_same (element_at synced name) e) (entry_by_name name v.entries) (name, e)) o
          ≡ option_map made (option_map (paired name) o)
      through None = refl
      through (Some e) = refl

  pub after_is : after ≡ map made new
  after_is = same_lists entry_name after (map made new)
      (ascends_after (v.generation + 1) v.entries changes sync.read.names_ascend)
      (ascends_map pair_name entry_name made made_name new sync.next.names_ascend) after_at

  pub committed_is : committed_by shape v changes ≡ committed shape v synced new
  unfolding committed_by committed
  committed_is = ap (λ es. whole_view shape (v.generation + 1) es) after_is

  -- ---- what the committed view is

  -- a property of each element of the new map
  each_new : (P : List ℕ × Element → Type 0) → ((name : List ℕ) (e : Element) → element_at new name ≡ Some e
      → P (name, e)) → AllByRecursion P new
  each_new P found = each_item pair_name P new sync.next.names_ascend (λ name e is.
      let named : e.0 ≡ name = item_named pair_name name new e is in
      let here : P (name, e.1) = found name e.1 (found_in_map name new e is) in
      subst (λ (n : List ℕ). P (n, e.1)) (sym named) here)

  made_read : (e : List ℕ × Element) → element_at new e.0 ≡ Some e.1 → IsName e.0 → IsEntryOf shape (made e)
  made_read e is name = subst (λ (o : Option Element). IsEntryOf shape
      (kept_or_fresh (v.generation + 1) (is_same o e.1) (entry_by_name e.0 v.entries) e)) (sym (held_at e.0))
      (by (entry_by_name e.0 v.entries) refl (is_same (option_map (judged_element test) (entry_by_name e.0 v.entries))
      e.1) refl)
    where
      fresh : IsOther shape.kind e.1 → IsEntryOf shape (fresh_entry (v.generation + 1) e)
      fresh other = record {
        name = name;
        info = other.writable.info;
        len = other.writable.small;
        content = subst (λ (c : Content). HasLength c e.1.len) (sym other.good) other.writable.length;
        lacking = (no_numbers shape.place.copies).copies_are;
        ascend = (no_numbers shape.place.copies).ascend;
      }

      by : (o : Option Entry) → entry_by_name e.0 v.entries ≡ o → (b : Bool)
          → is_same (option_map (judged_element test) o) e.1 ≡ b
          → IsEntryOf shape (kept_or_fresh (v.generation + 1) b o e)
      by (Some x) found true same = item_each entry_name (IsEntryOf shape) e.0 v.entries x sync.read.each found
      by None found true same = absurd cc
      by (Some x) found false same = fresh (is_other shape.kind (Some (judged_element test x)) e.1
          (subst (λ (o : Option Entry). IsHeldElement shape.kind (option_map (judged_element test) o) e.1 e.1.content)
          found
          (held_new e.0 e.1 is)) same)
      by None found false same = fresh (is_other shape.kind None e.1
          (subst (λ (o : Option Entry). IsHeldElement shape.kind (option_map (judged_element test) o) e.1 e.1.content)
          found
          (held_new e.0 e.1 is)) same)

  all_made : (P : Entry → Type 0) (m : Map) → AllByRecursion (λ e. P (made e)) m → AllByRecursion P (map made m)
  all_made P [] all = tt
  all_made P (e ∷ m) all = (all.0, all_made P m all.1)

  -- an element that is made shows what the map says
  shown : PassesTest test new → (e : List ℕ × Element) → element_at new e.0 ≡ Some e.1 → judged_pair test (made e) ≡ e
  shown passes e is = subst (λ (o : Option Element). judged_pair test
      (kept_or_fresh (v.generation + 1) (is_same o e.1) (entry_by_name e.0 v.entries) e) ≡ e) (sym (held_at e.0))
      (by (entry_by_name e.0 v.entries) refl (is_same (option_map (judged_element test) (entry_by_name e.0 v.entries))
      e.1) refl)
    where
      judged : (other : IsOther shape.kind e.1) → judged_content test e.1.content ≡ e.1.content
      judged other =
          let pass : test other.bytes ≡ true = passes e.0 e.1 other.bytes is other.good in
          ap (judged_content test) other.good ∙ rw pass (sym other.good)

      fresh : IsOther shape.kind e.1 → judged_pair test (fresh_entry (v.generation + 1) e) ≡ e
      fresh other = ap (λ c. (e.0, element e.1.info e.1.len c)) (judged other)

      by : (o : Option Entry) → entry_by_name e.0 v.entries ≡ o → (b : Bool)
          → is_same (option_map (judged_element test) o) e.1 ≡ b
          → judged_pair test (kept_or_fresh (v.generation + 1) b o e) ≡ e
      by (Some x) found true same =
          let both : Some (judged_element test x) ≡ Some e.1 = is_same_is (Some (judged_element test x)) e.1 same in
          let one : judged_element test x ≡ e.1 = cc in
          ap (λ n. (n, judged_element test x)) (item_named entry_name e.0 v.entries x found) ∙ ap (λ y. (e.0, y)) one
      by None found true same = absurd cc
      by (Some x) found false same = fresh (is_other shape.kind (Some (judged_element test x)) e.1
          (subst (λ (o : Option Entry). IsHeldElement shape.kind (option_map (judged_element test) o) e.1 e.1.content)
          found
          (held_new e.0 e.1 is)) same)
      by None found false same = fresh (is_other shape.kind None e.1
          (subst (λ (o : Option Entry). IsHeldElement shape.kind (option_map (judged_element test) o) e.1 e.1.content)
          found
          (held_new e.0 e.1 is)) same)

  map_back : (m : Map) → AllByRecursion (λ e. judged_pair test (made e) ≡ e) m → map (judged_pair test) (map made m) ≡ m
  map_back [] all = refl
  map_back (e ∷ m) all = ap (λ x. x ∷ map (judged_pair test) (map made m)) all.0
      ∙ ap (λ rest. e ∷ rest) (map_back m all.1)

  pub held_next : PassesTest test new → synchronised test (committed shape v synced new) ≡ new
  unfolding committed
  held_next passes = maps_through test (map made new) ∙ map_back new
      (each_new (λ e. judged_pair test (made e) ≡ e) (λ name e is. shown passes (name, e) is))

  -- ---- the size

  made_len : (e : List ℕ × Element) → (made e).len ≡ e.1.len
  made_len e = subst (λ (o : Option Element). (kept_or_fresh (v.generation + 1) (is_same o e.1)
      (entry_by_name e.0 v.entries)
      e).len ≡ e.1.len) (sym (held_at e.0))
      (by (entry_by_name e.0 v.entries) (is_same (option_map (judged_element test) (entry_by_name e.0 v.entries)) e.1)
      refl)
    where
      by : (o : Option Entry) (b : Bool) → is_same (option_map (judged_element test) o) e.1 ≡ b
          → (kept_or_fresh (v.generation + 1) b o e).len ≡ e.1.len
      by (Some x) true same =
          let both : Some (judged_element test x) ≡ Some e.1 = is_same_is (Some (judged_element test x)) e.1 same in
          let one : judged_element test x ≡ e.1 = cc in
          ap (λ (y : Element). y.len) one
      by None true same = absurd cc
      by (Some x) false same = refl
      by None false same = refl

  sizes : (m : Map) → size_of (map made m) ≡ maps.size_of m
  sizes [] = refl
  sizes (e ∷ m) =
      let name : length (made e).name ≡ length e.0 = ap length (made_name e) in
      let len = made_len e in
      let later = sizes m in
      omega (
        arith,
        sum_by-cons (λ (x : Entry). length x.name + x.len) (made e) (map made m),
        sum_by-cons (λ (x : List ℕ × Element). length x.0 + x.1.len) e m,
        name,
        len,
        later,
      )

  pub size_is : size_of after ≡ maps.size_of new
  size_is = ap size_of after_is ∙ sizes new

  length_made : (m : Map) → length (map made m) ≡ length m
  length_made [] = refl
  length_made (e ∷ m) = ap suc (length_made m)

  -- ---- the committed view is as it will be read

  all_lacking : (scope : Scope) → AreNumbers shape.place.copies (lacking_by scope (map made new) shape.place.copies)
  all_lacking scopes.Element = no_numbers shape.place.copies
  all_lacking scopes.Storage = numbers_passing (λ copy. lacks_one (map made new) (copy + 1)) shape.place.copies

  each_named : (P : List ℕ → Type 0) (m : Map) → AllByRecursion P (maps.names_of m)
      → AllByRecursion (λ (e : List ℕ × Element). P e.0) m
  each_named P [] all = tt
  each_named P (e ∷ m) all = (all.0, each_named P m all.1)

  made_by : (m : Map) → AllByRecursion (λ (e : List ℕ × Element). element_at new e.0 ≡ Some e.1) m
      → AllByRecursion (λ (e : List ℕ × Element). IsName e.0) m
      → AllByRecursion (λ e. IsEntryOf shape (made e)) m
  made_by [] found names = tt
  made_by (e ∷ m) found names = (made_read e found.0 names.0, made_by m found.1 names.1)

  pub committed_read : AllByRecursion IsName (maps.names_of new) → IsView shape (committed shape v synced new)
  unfolding committed
  committed_read names = record {
    generation = omega arith;
    each = all_made (IsEntryOf shape) new (made_by new (each_new (λ e. element_at new e.0 ≡ Some e.1) (λ name e is. is))
        (each_named IsName new names));
    names_ascend = ascends_map pair_name entry_name made made_name new sync.next.names_ascend;
    few = let few : length new ≤ 1024 = sync.next.few in let same : length (map made new) ≡ length new =
        length_made new in omega arith;
    small = let small : maps.size_of new ≤ shape.allowed =
        sync.next.small in let same : size_of (map made new) ≡ maps.size_of new = sizes new in omega arith;
    lacking = (all_lacking shape.scope).copies_are;
    ascend = (all_lacking shape.scope).ascend;
  }

  -- ---- the changes may be committed

  pub taken : v.generation < greatest_generation → AreCommittable shape v changes
  taken not_worn = record {
    each = each_item changed_name (IsChange shape.kind v.entries) changes sync.made.names_ascend (λ name c is.
        point_taken shape.kind test name v.entries (entry_by_name name v.entries) (element_at new name) refl
        (held_new name)
        c
        (ap (λ o. difference name o (element_at new name)) (sym (held_at name)) ∙ sym (sync.made.exact name) ∙ is));
    names_apart = names_apart (map changed_name changes) sync.made.names_ascend;
    few = let few : length new ≤ 1024 = sync.next.few in let same : length after ≡ length new =
        ap length after_is ∙ length_made new in omega arith;
    small = let small : maps.size_of new ≤ shape.allowed =
        sync.next.small in let same : size_of after ≡ maps.size_of new = size_is in omega arith;
    not_worn = not_worn;
  }

  -- ---- nothing to change

  no_changes : (cs : List Change) → ((name : List ℕ) → change_at name cs ≡ None) → cs ≡ []
  no_changes [] none = refl
  no_changes (c ∷ cs) none = let no : Some c ≡ None = sym (item_first changed_name c cs) ∙ none (changed_name c) in
      absurd cc

  equal_where : changes ≡ [] → synced ≡ new
  equal_where none =
      let up : NamesAscend pair_name synced = subst (λ (m : Map). NamesAscend pair_name m) (sym sync.held)
      (synced_ascends test v sync.read.names_ascend) in
      same_lists pair_name synced new up sync.next.names_ascend (same_found synced new (λ name.
      no_change name (element_at synced name) (element_at new name)
      (sym (sync.made.exact name) ∙ ap (λ (cs : List Change). change_at name cs) none)))

  none_where : synced ≡ new → changes ≡ []
  none_where same = no_changes changes (λ name. sync.made.exact name
      ∙ ap (λ (m : Map). difference name (element_at synced name) (element_at m name)) (sym same)
      ∙ unchanged name (element_at synced name))

  pub nothing : (changes ≡ []) ↔ (synced ≡ new)
  nothing = (equal_where, none_where)
