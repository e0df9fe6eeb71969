-- What is rescued of a storage keeps the rules of its elements.
use Rattle.std.proofs.Common.{◌≡◌, ℕ, suc, zero, ◌+◌, ◌<◌, ◌≤◌, Bool, true, false, cond, List, [], ◌∷◌, ◌++◌, length}
use Rattle.std.proofs.Common.{map, drop, get_or, Option, Some, None, refl, sym, ap, subst, ◌∙◌, arith, append_assoc}
use Rattle.std.proofs.Common.{append-nil, inl, inr}
use Rattle.std.specs.Prelude.{◌⊎◌, filter_map, option_map, option_and_then, IsTrue, IfSome}
use Rattle.std.proofs.lemmas.List.{drop_all}
use Rattle.std.proofs.lemmas.Option.{none-some}
use Rattle.std.specs.List.{AllByRecursion, cons_option}
use Rattle.std.specs.List.Sorted.{IsStrictlySortedBy}
use Rattle.std.specs.declared.cmp.Ordering.TheVariants.{Less}
use Rattle.per_base.specs.declared.elements.Cause.TheVariants as cause
use Rattle.per_base.specs.declared.elements.Content.{Content}
use Rattle.per_base.specs.declared.elements.Content.TheVariants.{Good, Bad}
use Rattle.per_base.specs.declared.elements.Entry.{Entry}
use Rattle.per_base.specs.declared.elements.FileInfo.{FileInfo}
use Rattle.per_base.specs.declared.elements.Fresh.{Fresh}
use Rattle.per_base.specs.declared.elements.StoreKind.{StoreKind}
use Rattle.per_base.specs.declared.elements.StoreKind.TheVariants.{Keys, Files}
use Rattle.per_base.specs.Names.{name_cmp}
use Rattle.per_base.specs.Contents.{HasLength}
use Rattle.value_code.specs.Reading.{is_content}
use Rattle.index_text.specs.Contents.{AreContents, SuitsKind}
use Rattle.index_text.specs.Rules.{has_info, max_len}
use Rattle.value_model.specs.Kinds.{Kind}
use Rattle.deployment_model.specs.Conditions.{IsElement, IsInitial, IsStorage, StartsAs}
use Rattle.deployment_model.specs.Data.{ElementData, StorageData}
use Rattle.deployment_model.specs.Lookups.{element_named, initial_content}
use Rattle.element_state.specs.declared.shapes.Shape.{Shape}
use Rattle.element_state.specs.declared.shapes.View.{View}
use Rattle.element_state.specs.Read.{IsEntryOf, IsView}
use Rattle.element_state.specs.Views.{judged_content}
use Rattle.update_plan.specs.Rows.{initial_contents}
use Rattle.deploy_rows.specs.Recovering.{recovered_contents, rescued, rescued_as}
use Rattle.deploy.specs.Recovered.{AreElements, rescued_entry}

-- ---- what an element starts with

-- of deployment_model
abbrev pub ElementLaw : Type 0
ElementLaw = (s : StorageData) (name : List ℕ) (e : ElementData) → IsStorage s → element_named s name ≡ Some e
    → IsElement s.kind e

initial_small : (kind : StoreKind) (t : Option Kind) (bytes : List ℕ) → IsInitial kind t bytes
    → length bytes ≤ max_len kind
initial_small Keys None bytes h = absurd h
initial_small Keys (Some k) bytes h = subst (λ b. length b ≤ 65536) (sym h.encoded) h.is_value.short
initial_small Files t bytes h = h

starts_small : (kind : StoreKind) (o : Option ElementData) → ((e : ElementData) → o ≡ Some e → IsElement kind e)
    → (bytes : List ℕ)
    → option_and_then (λ (e : ElementData). e.initial) o ≡ Some bytes → length bytes ≤ max_len kind
starts_small kind None law bytes is = absurd (none-some bytes is)
starts_small kind (Some e) law bytes is = initial_small kind e.value_type bytes
    (subst (λ o. StartsAs kind e.value_type o) is (law e refl).initial)

-- ---- one element

pub record IsRescued (kind : StoreKind) (name : List ℕ) (x : Fresh) : Type 0 where
  pub named : x.name ≡ name
  pub fresh : SuitsKind kind x

abbrev pub Rescues : StoreKind → List ℕ → Option Fresh → Type 0
Rescues kind name None = Unit {0}
Rescues kind name (Some x) = IsRescued kind name x

info_stays : (kind : StoreKind) (f : FileInfo → FileInfo) (info : Option FileInfo) → IsTrue (has_info kind info)
    → IsTrue (has_info kind (option_map f info))
info_stays Keys f None h = h
info_stays Keys f (Some i) h = h
info_stays Files f None h = h
info_stays Files f (Some i) h = h

as_long : (len most : ℕ) (bytes : List ℕ) → length bytes ≡ len → len ≤ most → length bytes ≤ most
as_long len most bytes is le = omega (arith, is, le)

judged_length : (test : List ℕ → Bool) (len : ℕ) (c : Content) → HasLength c len → HasLength (judged_content test c) len
judged_length test len (Good value) h = elim (test value) as (λ b. HasLength (cond b (Good value) (Bad None)) len)
    [ true ↦ h | false ↦ tt ]
judged_length test len (Bad None) h = tt
judged_length test len (Bad (Some salvage)) h = elim (test salvage) as
    (λ b. HasLength (cond b (Bad (Some salvage)) (Bad None)) len) [ true ↦ h | false ↦ tt ]

module _ (s : StorageData) (now : ℕ) (starts : (name bytes : List ℕ) → initial_content s name ≡ Some bytes
    → length bytes ≤ max_len s.kind) where
  anew : (e : Entry) → IsTrue (has_info s.kind e.info) → (bytes : List ℕ) → length bytes ≤ max_len s.kind
      → IsRescued s.kind e.name (rescued_as s now e bytes)
  anew e has bytes le = record { named = refl; fresh = record { info = info_stays s.kind _ e.info has; small = le } }

  from_start : (e : Entry) → IsTrue (has_info s.kind e.info) → (o : Option (List ℕ))
      → ((bytes : List ℕ) → o ≡ Some bytes → length bytes ≤ max_len s.kind)
      → Rescues s.kind e.name (option_map (rescued_as s now e) o)
  from_start e has None small = tt
  from_start e has (Some bytes) small = anew e has bytes (small bytes refl)

  content_rescued : (e : Entry) → IsTrue (has_info s.kind e.info) → e.len ≤ max_len s.kind → (c : Content)
      → HasLength c e.len
      → Rescues s.kind e.name (rescued s now e c)
  content_rescued e has le (Good bytes) h = record {
    named = refl;
    fresh =
        record { info = has; small = as_long e.len (max_len s.kind) bytes h le };
  }
  content_rescued e has le (Bad (Some bytes)) h = anew e has bytes (as_long e.len (max_len s.kind) bytes h le)
  content_rescued e has le (Bad None) h = from_start e has (initial_content s e.name) (starts e.name)

  pub entry_rescued : (shape : Shape) → shape.kind ≡ s.kind → (e : Entry) → IsEntryOf shape e
      → Rescues s.kind e.name (rescued_entry s now e)
  entry_rescued shape same e h = content_rescued e (subst (λ (k : StoreKind). IsTrue (has_info k e.info)) same h.info)
      (subst (λ (k : StoreKind). e.len ≤ max_len k) same h.len)
      (judged_content (is_content s.kind) e.content) (judged_length (is_content s.kind) e.len e.content h.content)

-- ---- all elements

module _ (kind : StoreKind) (f : Entry → Option Fresh) (Is : Entry → Type 0)
    (rescues : (e : Entry) → Is e → Rescues kind e.name (f e)) where
  each_fresh : (es : List Entry) → AllByRecursion Is es → AllByRecursion (SuitsKind kind) (filter_map f es)
  each_fresh [] h = tt
  each_fresh (e ∷ es) h = elim (f e) as (λ o. Rescues kind e.name o
      → AllByRecursion (SuitsKind kind) (cons_option o (filter_map f es))) [
        | None ↦ λ r. each_fresh es h.1
        | Some x ↦ λ r. (r.fresh, each_fresh es h.1)
      ] (rescues e h.0)

  below : (n : List ℕ) (es : List Entry) → AllByRecursion Is es
      → AllByRecursion (λ y. name_cmp n y ≡ Less) (map (λ (e : Entry). e.name) es)
      → AllByRecursion (λ y. name_cmp n y ≡ Less) (map (λ (x : Fresh). x.name) (filter_map f es))
  below n [] h less = tt
  below n (e ∷ es) h less = elim (f e) as (λ o. Rescues kind e.name o
      → AllByRecursion (λ y. name_cmp n y ≡ Less) (map (λ (x : Fresh). x.name) (cons_option o (filter_map f es)))) [
        | None ↦ λ r. below n es h.1 less.1
        | Some x ↦ λ r. (subst (λ y. name_cmp n y ≡ Less) (sym r.named) less.0, below n es h.1 less.1)
      ] (rescues e h.0)

  ascend : (es : List Entry) → AllByRecursion Is es → IsStrictlySortedBy name_cmp (map (λ (e : Entry). e.name) es)
      → IsStrictlySortedBy name_cmp (map (λ (x : Fresh). x.name) (filter_map f es))
  unfolding IsStrictlySortedBy
  ascend [] h sorted = tt
  ascend (e ∷ es) h sorted = elim (f e) as (λ o. Rescues kind e.name o
      → IsStrictlySortedBy name_cmp (map (λ (x : Fresh). x.name) (cons_option o (filter_map f es)))) [
        | None ↦ λ r. ascend es h.1 sorted.1
        | Some x ↦ λ r. (
          subst (λ n. AllByRecursion (λ y. name_cmp n y ≡ Less)
              (map (λ (z : Fresh). z.name) (filter_map f es))) (sym r.named) (below e.name es h.1 sorted.0),
          ascend es h.1 sorted.1,
        )
      ] (rescues e h.0)

  counts : (es : List Entry) → length (filter_map f es) ≤ length es
  counts [] = omega arith
  counts (e ∷ es) =
      let rest = counts es in
      elim (f e) as (λ o. length (cons_option o (filter_map f es)) ≤ suc (length es)) [
        | None ↦ omega (arith, rest)
        | Some x ↦ omega (arith, rest)
      ]

pub recovered_are_elements : ElementLaw → (s : StorageData) (now : ℕ) (shape : Shape) (v : View) → IsStorage s
    → shape.kind ≡ s.kind → IsView shape v
    → AreElements s.kind (recovered_contents s now (Some v))
recovered_are_elements law s now shape v is same read =
    let starts : (name bytes : List ℕ) → initial_content s name ≡ Some bytes → length bytes ≤ max_len s.kind =
    λ name bytes begins. starts_small s.kind (element_named s name) (λ e found. law s name e is found) bytes begins in
    let rescues : (e : Entry) → IsEntryOf shape e → Rescues s.kind e.name (rescued_entry s now e) =
    entry_rescued s now starts shape same in
    let few = counts s.kind (rescued_entry s now) (IsEntryOf shape) rescues v.entries in
    record {
      each = each_fresh s.kind (rescued_entry s now) (IsEntryOf shape) rescues v.entries read.each;
      names_ascend = ascend s.kind (rescued_entry s now) (IsEntryOf shape) rescues v.entries read.each
          read.names_ascend;
      few = omega (arith, few, read.few);
    }

-- beside what was read
pub view_rescued : (s : StorageData) (now : ℕ) (o : Option View) (v : View) (entries : List Entry) → o ≡ Some v
    → entries ≡ v.entries
    → filter_map (rescued_entry s now) entries ≡ recovered_contents s now o
view_rescued s now o v entries is same = ap (λ (es : List Entry). filter_map (rescued_entry s now) es) same
    ∙ ap (λ (w : Option View). recovered_contents s now w) (sym is)

pub rescued_are_elements : ElementLaw → (s : StorageData) (now : ℕ) (o : Option View) (v : View) (entries : List Entry)
    → o ≡ Some v → entries ≡ v.entries
    → IsStorage s → (shape : Shape) → shape.kind ≡ s.kind → IfSome o (IsView shape)
    → AreElements s.kind (filter_map (rescued_entry s now) entries)
rescued_are_elements law s now o v entries is same keeps shape kind read =
    subst (λ (es : List Entry). AreElements s.kind (filter_map (rescued_entry s now) es)) (sym same)
    (recovered_are_elements law s now shape v keeps kind (subst (λ (w : Option View). IfSome w (IsView shape)) is read))

-- where nothing was
pub none_started : (s : StorageData) (now : ℕ) (o : Option View) → o ≡ None
    → initial_contents s cause.Recovery now ≡ recovered_contents s now o
none_started s now o none = ap (λ (w : Option View). recovered_contents s now w) (sym none)

pub contents_are_elements : (kind : StoreKind) (maximum : ℕ) (contents : List Fresh) → AreContents kind maximum contents
    → AreElements kind contents
contents_are_elements kind maximum contents are = record {
  each = are.each;
  names_ascend = are.names_ascend;
  few =
      are.few;
}

-- ---- one after another

-- an item of a list, and what is left from there
pub item_at : {A : Type 0} (xs : List A) (i : ℕ) (x : A) → i < length xs → x ≡ get_or xs i x
    → drop i xs ≡ x ∷ drop (suc i) xs
item_at [] i x lt e = absurd (omega (arith, lt))
item_at (y ∷ ys) zero x lt e = ap (λ z. z ∷ ys) (sym e)
item_at (y ∷ ys) (suc i) x lt e = item_at ys i x (omega (arith, lt)) e

-- one item more of what is left
pub filter_next : {A B : Type 0} (f : A → Option B) (xs : List A) (i : ℕ) (x : A) (done longer whole : List B)
    → drop i xs ≡ x ∷ drop (suc i) xs
    → ((y : B) × (f x ≡ Some y) × (longer ≡ done ++ y ∷ [])) ⊎ ((f x ≡ None) × (longer ≡ done))
    → done ++ filter_map f (drop i xs) ≡ whole → longer ++ filter_map f (drop (i + 1) xs) ≡ whole
filter_next f xs i x done longer whole here step known =
    let next : suc i ≡ i + 1 = omega arith in
    let before : done ++ cons_option (f x) (filter_map f (drop (suc i) xs)) ≡ whole =
    ap (λ ys. done ++ filter_map f ys) (sym here) ∙ known in
    ap (λ j. longer ++ filter_map f (drop j xs)) (sym next) ∙ elim step [
      | inl y ↦ ap (λ m. m ++ filter_map f (drop (suc i) xs)) y.2
          ∙ append_assoc done (y.0 ∷ []) (filter_map f (drop (suc i) xs))
          ∙ ap (λ o. done ++ cons_option o (filter_map f (drop (suc i) xs))) (sym y.1) ∙ before
      | inr n ↦ ap (λ m. m ++ filter_map f (drop (suc i) xs)) n.1
          ∙ ap (λ o. done ++ cons_option o (filter_map f (drop (suc i) xs))) (sym n.0) ∙ before
    ]

pub filter_done : {A B : Type 0} (f : A → Option B) (xs : List A) (i : ℕ) (done whole : List B) → length xs ≤ i
    → done ++ filter_map f (drop i xs) ≡ whole → done ≡ whole
filter_done f xs i done whole past known = sym (append-nil done)
    ∙ ap (λ ys. done ++ filter_map f ys) (sym (drop_all i xs past)) ∙ known
