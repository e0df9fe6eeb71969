-- What is left of the value of a key.
use Rattle.std.proofs.Common.{◌≡◌, ◌∙◌, ◌⊎◌, inl, inr, ◌<◌, ℕ, zero, suc, List, [], ◌∷◌, map, Bool, true, false}
use Rattle.std.proofs.Common.{is_eq, refl, sym, ap, arith}
use Rattle.std.specs.Prelude.{Option, Some, None, Ok}
use Rattle.std.specs.List.{AllByRecursion, AllZip}
use Rattle.per_base.specs.declared.elements.Content.{Content}
use Rattle.per_base.specs.declared.elements.Content.TheVariants.{Good, Bad}
use Rattle.per_base.specs.declared.elements.Element.{Element}
use Rattle.per_base.specs.declared.elements.Entry.{Entry}
use Rattle.per_base.specs.declared.elements.Scope.TheVariants as scope
use Rattle.per_base.specs.Maps.{Map, element_at}
use Rattle.per_base.specs.Names.{name_cmp}
use Rattle.disk_model.specs.Damage.{AtLeast}
use Rattle.disk_model.specs.Image.{Image}
use Rattle.value_model.specs.Kinds.{Kind}
use Rattle.value_model.specs.Trees.{Tree}
use Rattle.value_code.specs.Reading.{decoded}
use Rattle.deployment_model.specs.Data.{StorageData}
use Rattle.element_state.specs.declared.shapes.Shape.{Shape}
use Rattle.element_state.specs.declared.shapes.View.{View}
use Rattle.element_state.specs.Conditions.{IsMended}
use Rattle.element_state.specs.Kept.{HasEnough, IsKeptOn, IsSpared, KeepsGood, SameHeadings, StaysOpen, heading}
use Rattle.element_state.specs.States.{Opens, store_at}
use Rattle.element_state.specs.Views.{element_of, judged_content, judged_entry}
use Rattle.key_maps.specs.KeyElements.{is_encoding}
use Rattle.kvs_core.specs.Calls.{as_kind, get_as, read_key}
use Rattle.kvs_store.specs.Storages.{keys_in}
use Rattle.kvs_laws.specs.Values.{AskedKey, HasValue, ReadsAs}

-- ---- copies

at_least_as : (P Q : ℕ → Type 0) → ((k : ℕ) → P k → Q k) → (n m : ℕ) → AtLeast P n m → AtLeast Q n m
at_least_as P Q each n zero h = tt
at_least_as P Q each zero (suc m) h = h
at_least_as P Q each (suc n) (suc m) h = elim h [
  | inl p ↦ inl (each n p.0, at_least_as P Q each n m p.1)
  | inr p ↦ inr (at_least_as P Q each n (suc m) p)
]

pub enough_of_none : (shape : Shape) (damaged lacking : List ℕ) → HasEnough shape damaged lacking
    → HasEnough shape damaged []
enough_of_none shape damaged lacking h =
    at_least_as (IsSpared shape damaged lacking) (IsSpared shape damaged [])
    (λ k spared. (spared.0, λ there. let below : there.0 < 0 = there.1 in absurd (omega (arith, below))))
    shape.place.copies shape.m h

-- ---- a value that is read is good

pub record IsThere (m : Map) (name : List ℕ) : Type 0 where
  pub key : Element
  pub bytes : List ℕ
  pub there : element_at m name ≡ Some key
  pub good : key.content ≡ Good bytes
  pub encodes : is_encoding bytes ≡ true

pub readable : (c : StorageData) (m : Map) (name : List ℕ) (asked : Kind) (value : Tree)
    → get_as c m name asked ≡ Ok value
    → IsThere m name
readable c m name asked value is = by (element_at m name) refl
  where
    in_key : (key : Element) (content : Content) → element_at m name ≡ Some key → key.content ≡ content
        → as_kind asked (read_key c name content) ≡ Ok value → IsThere m name
    in_key key (Good bytes) there good reads = decoding (decoded bytes) refl
      where
        decoding : (tree : Option Tree) → decoded bytes ≡ tree → IsThere m name
        decoding None none = let h = rw none at reads in absurd (cc)
        decoding (Some tree) some = record {
          key = key;
          bytes = bytes;
          there = there;
          good = good;
          encodes = rw some refl;
        }
    in_key key (Bad salvage) there good reads = absurd (cc)

    by : (found : Option Element) → element_at m name ≡ found → IsThere m name
    by None none = let h = rw none at is in absurd (cc)
    by (Some key) there = in_key key key.content there refl (rw there at is)

-- ---- what is left of the entries of a view

abbrev pub keys_of : List Entry → Map
keys_of entries = map element_of (map (judged_entry is_encoding) entries)

judged_good : (content : Content) (bytes : List ℕ) → judged_content is_encoding content ≡ Good bytes
    → content ≡ Good bytes
judged_good (Good value) bytes is = by (is_encoding value) refl
  where
    by : (fits : Bool) → is_encoding value ≡ fits → Good value ≡ Good bytes
    by true fits = rw fits at is
    by false fits = let h = rw fits at is in absurd (cc)
judged_good (Bad None) bytes is = absurd (cc)
judged_good (Bad (Some salvage)) bytes is = by (is_encoding salvage) refl
  where
    by : (fits : Bool) → is_encoding salvage ≡ fits → Bad (Some salvage) ≡ Good bytes
    by true fits = rw fits at is
    by false fits = let h = rw fits at is in absurd (cc)

mended_good : (content : Content) (lacking bytes : List ℕ) → IsMended content lacking → content ≡ Good bytes
    → lacking ≡ []
mended_good (Good value) lacking bytes mended is = mended
mended_good (Bad salvage) lacking bytes mended is = absurd (cc)

module _ (shape : Shape) (damaged : List ℕ) (enough : HasEnough shape damaged []) (name : List ℕ) where
  abbrev Stay : Entry → Entry → Type 0
  Stay e f = (value : List ℕ) → f.content ≡ Good value
      → (shape.scope ≡ scope.Storage) ⊎ HasEnough shape damaged f.lacking → e.content ≡ Good value

  entry_left : (e f : Entry) (key : Element) (bytes : List ℕ) → Stay e f → heading e ≡ heading f
      → IsMended f.content f.lacking → (element_of (judged_entry is_encoding f)).1 ≡ key → key.content ≡ Good bytes
      → (element_of (judged_entry is_encoding e)).1 ≡ key
  entry_left e f key bytes stay same mended is good =
      let of_key : judged_content is_encoding f.content ≡ Good bytes = ap (λ (k : Element). k.content) is ∙ good in
      let there = judged_good f.content bytes of_key in
      let none = mended_good f.content f.lacking bytes mended there in
      let left = stay bytes there (inr (rw none enough)) in
      let info : e.info ≡ f.info = ap (λ t. t.1) same in
      let len : e.len ≡ f.len = ap (λ t. t.2) same in
      let now = rw there at is in
      rw (info, len, left) now

  entries_left : (es fs : List Entry) (key : Element) (bytes : List ℕ) → AllZip Stay es fs
      → map heading es ≡ map heading fs → AllByRecursion (λ (f : Entry). IsMended f.content f.lacking) fs
      → element_at (keys_of fs) name ≡ Some key → key.content ≡ Good bytes → element_at (keys_of es) name ≡ Some key
  entries_left [] [] key bytes stay same mended is good = is
  entries_left [] (f ∷ fs) key bytes stay same mended is good = absurd stay
  entries_left (e ∷ es) [] key bytes stay same mended is good = absurd stay
  entries_left (e ∷ es) (f ∷ fs) key bytes stay same mended is good =
      let heads : heading e ≡ heading f = cc in
      let tails : map heading es ≡ map heading fs = cc in
      let named : e.name ≡ f.name = ap (λ t. t.0) heads in
      by heads named (entries_left es fs key bytes stay.1 tails mended.1) (is_eq (name_cmp name f.name)) refl
    where
      by : heading e ≡ heading f → e.name ≡ f.name
          → (element_at (keys_of fs) name ≡ Some key → key.content ≡ Good bytes
          → element_at (keys_of es) name ≡ Some key)
          → (here : Bool) → is_eq (name_cmp name f.name) ≡ here → element_at (keys_of (e ∷ es)) name ≡ Some key
      by heads named later true here =
          let this : Some ((element_of (judged_entry is_encoding f)).1) ≡ Some key = rw here at is in
          let of_key : (element_of (judged_entry is_encoding f)).1 ≡ key = cc in
          rw (named, here) (ap Some (entry_left e f key bytes stay.0 heads mended.0 of_key good))
      by heads named later false here =
          let behind : element_at (keys_of fs) name ≡ Some key = rw here at is in
          rw (named, here) (later behind good)

-- ---- what is left of a storage

view_left : (asked : AskedKey) (shape : Shape) (damaged lacking : List ℕ) (w v : View) (value : Tree)
    → SameHeadings w v → KeepsGood shape damaged w v
    → AllByRecursion (λ (e : Entry). IsMended e.content e.lacking) v.entries → HasEnough shape damaged lacking
    → HasValue asked (keys_in v) value → HasValue asked (keys_in w) value
view_left asked shape damaged lacking w v value same good mended enough has =
    let there = readable asked.config (keys_in v) asked.name asked.kind value has in
    let none = enough_of_none shape damaged lacking enough in
    let left = entries_left shape damaged none asked.name w.entries v.entries there.key there.bytes good same.entries
    mended there.there there.good in
    let here : element_at (keys_in w) asked.name ≡ element_at (keys_in v) asked.name = left ∙ sym there.there in
    rw here has

-- a view whose good elements lack nothing, in which the key has this value
pub record IsWhole (asked : AskedKey) (v : View) (value : Tree) : Type 0 where
  pub mended : AllByRecursion (λ (e : Entry). IsMended e.content e.lacking) v.entries
  pub has : HasValue asked (keys_in v) value

stays_left : (asked : AskedKey) (shape : Shape) (damaged : List ℕ) (image : Image) (v next : View) (before after : Tree)
    → IsWhole asked v before → IsWhole asked next after
    → StaysOpen shape damaged (store_at image shape) (Opens v []) (Opens next []) → HasEnough shape damaged v.lacking
    → ReadsAs asked shape before image ⊎ ReadsAs asked shape after image
stays_left asked shape damaged image v next before after old new stays enough =
    let s = stays enough in
    elim s.3 [
      | inl p ↦ inl (record {
        view = s.0;
        others = s.1;
        opens = s.2;
        value_is = view_left asked shape damaged v.lacking s.0 v before p.0 p.1 old.mended enough old.has;
      })
      | inr p ↦ inr (record {
        view = s.0;
        others = s.1;
        opens = s.2;
        value_is = let is : p.1 ≡ next = cc in
            view_left asked shape damaged v.lacking s.0 next after (rw is at p.4) (rw is at p.5) new.mended enough
            new.has;
      })
    ]

pub kept_left : (asked : AskedKey) (shape : Shape) (damaged : List ℕ) (start image : Image) (v next : View)
    (before after : Tree) → store_at start shape ≡ Opens v [] → IsWhole asked v before → IsWhole asked next after
    → IsKeptOn shape damaged start image (Opens next []) → HasEnough shape damaged v.lacking
    → ReadsAs asked shape before image ⊎ ReadsAs asked shape after image
kept_left asked shape damaged start image v next before after opens old new kept enough =
    let stays : StaysOpen shape damaged (store_at image shape) (Opens v [])
    (Opens next []) = rw opens at kept.kept.stays in
    stays_left asked shape damaged image v next before after old new stays enough
