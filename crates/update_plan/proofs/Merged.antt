-- The merged names: they ascend, and each has what the two lists say of it.
use Rattle.std.proofs.Common.{◌≡◌, ℕ, Bool, true, false, List, [], ◌∷◌, map, Option, Some, None, refl, sym, ap, subst}
use Rattle.std.proofs.Common.{◌∙◌}
use Rattle.std.specs.Prelude.{find, filter_map, IfSome}
use Rattle.std.specs.List.{AllByRecursion, cons_option}
use Rattle.std.specs.List.Sorted.{IsStrictlySortedBy}
use Rattle.std.specs.Ordering.{is_eq}
use Rattle.std.specs.Str.{bytes_eq}
use Rattle.std.specs.declared.cmp.Ordering.{Ordering}
use Rattle.std.specs.declared.cmp.Ordering.TheVariants.{Less, Equal, Greater}
use Rattle.std.proofs.lemmas.Cmp.{nat_list_cmp_total}
use Rattle.std.proofs.lemmas.Map.Text.{is_eq-slice_cmp}
use Rattle.std.proofs.lemmas.Slice.Eq.{bytes_eq-Decides}
use Rattle.per_base.specs.declared.elements.Entry.{Entry}
use Rattle.per_base.specs.declared.errors.PerError.{PerError}
use Rattle.per_base.specs.Names.{name_cmp}
use Rattle.deployment_model.specs.Data.{ElementData}
use Rattle.update_plan.specs.Merging.{Item, only_stored, only_configured, both, by_order, with_entry, merged}

-- ---- names in their order

pub differ : (a b : List ℕ) → name_cmp a b ≡ Less → bytes_eq a b ≡ false
differ a b less = sym (is_eq-slice_cmp a b) ∙ ap is_eq less

pub differ_back : (a b : List ℕ) → name_cmp a b ≡ Less → bytes_eq b a ≡ false
differ_back a b less =
    let more : name_cmp b a ≡ Greater = rw (nat_list_cmp_total.antisymm b a, less) refl in
    sym (is_eq-slice_cmp b a) ∙ ap is_eq more

pub same_name : (a b : List ℕ) → bytes_eq a b ≡ true → a ≡ b
same_name a b e = (bytes_eq-Decides a b).0 e

pub equal_name : (a b : List ℕ) → name_cmp a b ≡ Equal → a ≡ b
equal_name a b e = same_name a b (sym (is_eq-slice_cmp a b) ∙ ap is_eq e)

pub self_named : (a : List ℕ) → bytes_eq a a ≡ true
self_named a = (bytes_eq-Decides a a).1 refl

pub turned : (a b : List ℕ) → name_cmp a b ≡ Greater → name_cmp b a ≡ Less
turned a b more = rw (nat_list_cmp_total.antisymm b a, more) refl

abbrev pub Above : List ℕ → List (List ℕ) → Type 0
Above a names = AllByRecursion (λ b. name_cmp a b ≡ Less) names

pub above_all : (a b : List ℕ) (names : List (List ℕ)) → name_cmp a b ≡ Less → Above b names → Above a names
above_all a b [] less h = tt
above_all a b (c ∷ names) less h = (nat_list_cmp_total.trans a b c less h.0, above_all a b names less h.1)

-- ---- looked up by name

module _ {A : Type 0} (name_of : A → List ℕ) where
  abbrev pub named : List A → List ℕ → Option A
  named xs name = find (λ (x : A). bytes_eq (name_of x) name) xs

  pub absent : (xs : List A) (name : List ℕ) → Above name (map name_of xs) → named xs name ≡ None
  absent [] name h = refl
  absent (x ∷ xs) name h = rw (differ_back name (name_of x) h.0) (absent xs name h.1)

  pub none_behind : (x : A) (xs : List A) (name : List ℕ) → name_cmp name (name_of x) ≡ Less
      → Above (name_of x) (map name_of xs) → named (x ∷ xs) name ≡ None
  none_behind x xs name less h = absent (x ∷ xs) name (less, above_all name (name_of x) (map name_of xs) less h)

-- ---- the names of what is merged

abbrev pub entry_name : Entry → List ℕ
entry_name e = e.name

abbrev pub element_name : ElementData → List ℕ
element_name c = c.name

abbrev pub item_name : Item → List ℕ
item_name p = p.name

abbrev Ascends : List (List ℕ) → Type 0
Ascends names = IsStrictlySortedBy name_cmp names

head_above : (a : List ℕ) (names : List (List ℕ)) → Ascends (a ∷ names) → Above a names
unfolding IsStrictlySortedBy
head_above a names h = h.0

rest_ascends : (a : List ℕ) (names : List (List ℕ)) → Ascends (a ∷ names) → Ascends names
unfolding IsStrictlySortedBy
rest_ascends a names h = h.1

ascends_from : (a : List ℕ) (names : List (List ℕ)) → Above a names → Ascends names → Ascends (a ∷ names)
unfolding IsStrictlySortedBy
ascends_from a names h k = (h, k)

none_ascend : Ascends []
unfolding IsStrictlySortedBy
none_ascend = tt

by_cmp : (P : List Item → Type 0) (o : Ordering) (first second third : List Item) → (o ≡ Less → P first)
    → (o ≡ Equal → P second) → (o ≡ Greater → P third) → P (by_order o first second third)
by_cmp P Less first second third f g h = f refl
by_cmp P Equal first second third f g h = g refl
by_cmp P Greater first second third f g h = h refl

only_above : (a : List ℕ) (cs : List ElementData) → Above a (map element_name cs)
    → Above a (map item_name (map only_configured cs))
only_above a [] h = tt
only_above a (c ∷ cs) h = (h.0, only_above a cs h.1)

mutual_above : (a : List ℕ) (e : Entry) (others : List ElementData → List Item) → name_cmp a e.name ≡ Less
    → ((cs : List ElementData) → Above a (map element_name cs) → Above a (map item_name (others cs)))
    → (cs : List ElementData) → Above a (map element_name cs) → Above a (map item_name (with_entry e others cs))
mutual_above a e others less rest [] h = (less, rest [] tt)
mutual_above a e others less rest (c ∷ cs) h = by_cmp (λ items. Above a (map item_name items)) (name_cmp e.name c.name)
    (only_stored e ∷ others (c ∷ cs)) (both e c ∷ others cs) (only_configured c ∷ with_entry e others cs)
    (λ o. (less, rest (c ∷ cs) h)) (λ o. (less, rest cs h.1)) (λ o. (h.0, mutual_above a e others less rest cs h.1))

merged_above : (a : List ℕ) (es : List Entry) (cs : List ElementData) → Above a (map entry_name es)
    → Above a (map element_name cs) → Above a (map item_name (merged es cs))
merged_above a [] cs h k = only_above a cs k
merged_above a (e ∷ es) cs h k = mutual_above a e (merged es) h.0 (λ ds. merged_above a es ds h.1) cs k

only_ascend : (cs : List ElementData) → Ascends (map element_name cs) → Ascends (map item_name (map only_configured cs))
only_ascend [] h = none_ascend
only_ascend (c ∷ cs) h = ascends_from c.name (map item_name (map only_configured cs))
    (only_above c.name cs (head_above c.name (map element_name cs) h))
    (only_ascend cs (rest_ascends c.name (map element_name cs) h))

with_ascends : (e : Entry) (es : List Entry) → Above e.name (map entry_name es)
    → ((cs : List ElementData) → Ascends (map element_name cs) → Ascends (map item_name (merged es cs)))
    → (cs : List ElementData) → Ascends (map element_name cs) → Ascends (map item_name (with_entry e (merged es) cs))
with_ascends e es above rest [] h = ascends_from e.name (map item_name (merged es []))
    (merged_above e.name es [] above tt) (rest [] none_ascend)
with_ascends e es above rest (c ∷ cs) h =
    let behind = head_above c.name (map element_name cs) h in
    let later = rest_ascends c.name (map element_name cs) h in
    by_cmp (λ items. Ascends (map item_name items)) (name_cmp e.name c.name) (only_stored e ∷ merged es (c ∷ cs))
    (both e c ∷ merged es cs) (only_configured c ∷ with_entry e (merged es) cs)
    (λ o. ascends_from e.name (map item_name (merged es (c ∷ cs)))
    (merged_above e.name es (c ∷ cs) above (o, above_all e.name c.name (map element_name cs) o behind))
    (rest (c ∷ cs) h))
    (λ o. ascends_from e.name (map item_name (merged es cs))
    (merged_above e.name es cs above (subst (λ n. Above n (map element_name cs))
    (sym (equal_name e.name c.name o)) behind)) (rest cs later))
    (λ o. let less = turned e.name c.name o in
    ascends_from c.name (map item_name (with_entry e (merged es) cs))
    (merged_above c.name (e ∷ es) cs (less, above_all c.name e.name (map entry_name es) less above) behind)
    (with_ascends e es above rest cs later))

pub merged_ascends : (es : List Entry) (cs : List ElementData) → Ascends (map entry_name es)
    → Ascends (map element_name cs) → Ascends (map item_name (merged es cs))
merged_ascends [] cs h k = only_ascend cs k
merged_ascends (e ∷ es) cs h k = with_ascends e es (head_above e.name (map entry_name es) h)
    (λ ds. merged_ascends es ds (rest_ascends e.name (map entry_name es) h)) cs k

-- ---- what is merged under a name

abbrev pub joined : List ℕ → Option Entry → Option ElementData → Option Item
joined name None None = None
joined name (Some e) c = Some (record { name = name; stored = Some e; configured = c })
joined name None (Some c) = Some (record { name = name; stored = None; configured = Some c })

abbrev IsJoined : List ℕ → List Item → List Entry → List ElementData → Type 0
IsJoined name items es cs = named item_name items name
    ≡ joined name (named entry_name es name) (named element_name cs name)

only_joined : (name : List ℕ) (cs : List ElementData) → IsJoined name (map only_configured cs) [] cs
only_joined name [] = refl
only_joined name (c ∷ cs) = elim (bytes_eq c.name name) as
    (λ b. bytes_eq c.name name ≡ b → IsJoined name (map only_configured (c ∷ cs)) [] (c ∷ cs)) [
      | true ↦ λ q. rw (q, same_name c.name name q) refl
      | false ↦ λ q. rw q (only_joined name cs)
    ] refl

with_joined : (name : List ℕ) (e : Entry) (es : List Entry) → Above e.name (map entry_name es)
    → ((cs : List ElementData) → Ascends (map element_name cs) → IsJoined name (merged es cs) es cs)
    → (cs : List ElementData) → Ascends (map element_name cs) → IsJoined name (with_entry e (merged es) cs) (e ∷ es) cs
with_joined name e es above rest [] h = elim (bytes_eq e.name name) as
    (λ b. bytes_eq e.name name ≡ b → IsJoined name (with_entry e (merged es) []) (e ∷ es) []) [
      | true ↦ λ q. rw (q, same_name e.name name q) refl
      | false ↦ λ q. rw q (rest [] none_ascend)
    ] refl
with_joined name e es above rest (c ∷ cs) h =
    let behind = head_above c.name (map element_name cs) h in
    let later = rest_ascends c.name (map element_name cs) h in
    by_cmp (λ items. IsJoined name items (e ∷ es) (c ∷ cs)) (name_cmp e.name c.name)
    (only_stored e ∷ merged es (c ∷ cs)) (both e c ∷ merged es cs) (only_configured c ∷ with_entry e (merged es) cs)
    (λ o. first_only o behind (bytes_eq e.name name) refl)
    (λ o. first_both (equal_name e.name c.name o) later (bytes_eq e.name name) refl)
    (λ o. second_only (turned e.name c.name o) (with_joined name e es above rest cs later) (bytes_eq c.name name) refl)
  where
    first_only : name_cmp e.name c.name ≡ Less → Above c.name (map element_name cs) → (b : Bool)
        → bytes_eq e.name name ≡ b → IsJoined name (only_stored e ∷ merged es (c ∷ cs)) (e ∷ es) (c ∷ cs)
    first_only less behind true q =
        let none : named element_name (c ∷ cs) e.name ≡ None = none_behind element_name c cs e.name less behind in
        let is : e.name ≡ name = same_name e.name name q in
        let here : named element_name (c ∷ cs) name ≡ None =
        subst (λ n. named element_name (c ∷ cs) n ≡ None) is none in
        let found : named entry_name (e ∷ es) name ≡ Some e = rw q refl in
        let first : named item_name (only_stored e ∷ merged es (c ∷ cs)) name ≡ Some (only_stored e) = rw q refl in
        first ∙ ap (λ n. Some (record { name = n; stored = Some e; configured = None })) is
        ∙ sym (ap (joined name (Some e)) here) ∙ sym (ap (λ o. joined name o (named element_name (c ∷ cs) name))
        found)
    first_only less behind false q =
        let found : named entry_name (e ∷ es) name ≡ named entry_name es name = rw q refl in
        let first : named item_name (only_stored e ∷ merged es (c ∷ cs)) name
        ≡ named item_name (merged es (c ∷ cs)) name = rw q refl in
        first ∙ rest (c ∷ cs) h ∙ sym (ap (λ o. joined name o (named element_name (c ∷ cs) name)) found)

    first_both : e.name ≡ c.name → Ascends (map element_name cs) → (b : Bool) → bytes_eq e.name name ≡ b
        → IsJoined name (both e c ∷ merged es cs) (e ∷ es) (c ∷ cs)
    first_both same later true q =
        let there : bytes_eq c.name name ≡ true = subst (λ n. bytes_eq n name ≡ true) same q in
        let found : named entry_name (e ∷ es) name ≡ Some e = rw q refl in
        let element : named element_name (c ∷ cs) name ≡ Some c = rw there refl in
        let first : named item_name (both e c ∷ merged es cs) name ≡ Some (both e c) = rw q refl in
        first ∙ ap (λ n. Some (record { name = n; stored = Some e; configured = Some c })) (same_name e.name name q)
        ∙ sym (ap (joined name (Some e)) element) ∙ sym (ap (λ o. joined name o (named element_name (c ∷ cs) name))
        found)
    first_both same later false q =
        let there : bytes_eq c.name name ≡ false = subst (λ n. bytes_eq n name ≡ false) same q in
        let found : named entry_name (e ∷ es) name ≡ named entry_name es name = rw q refl in
        let element : named element_name (c ∷ cs) name ≡ named element_name cs name = rw there refl in
        let first : named item_name (both e c ∷ merged es cs) name ≡ named item_name (merged es cs) name = rw q refl in
        first ∙ rest cs later ∙ sym (ap (joined name (named entry_name es name)) element)
        ∙ sym (ap (λ o. joined name o (named element_name (c ∷ cs) name)) found)

    second_only : name_cmp c.name e.name ≡ Less → IsJoined name (with_entry e (merged es) cs) (e ∷ es) cs → (b : Bool)
        → bytes_eq c.name name ≡ b → IsJoined name (only_configured c ∷ with_entry e (merged es) cs) (e ∷ es) (c ∷ cs)
    second_only less deeper true q =
        let none : named entry_name (e ∷ es) c.name ≡ None = none_behind entry_name e es c.name less above in
        let is : c.name ≡ name = same_name c.name name q in
        let here : named entry_name (e ∷ es) name ≡ None = subst (λ n. named entry_name (e ∷ es) n ≡ None) is none in
        let element : named element_name (c ∷ cs) name ≡ Some c = rw q refl in
        let first : named item_name (only_configured c ∷ with_entry e (merged es) cs) name ≡ Some (only_configured c) =
        rw q refl in
        first ∙ ap (λ n. Some (record { name = n; stored = None; configured = Some c })) is
        ∙ sym (ap (joined name None) element) ∙ sym (ap (λ o. joined name o (named element_name (c ∷ cs) name))
        here)
    second_only less deeper false q =
        let element : named element_name (c ∷ cs) name ≡ named element_name cs name = rw q refl in
        let first : named item_name (only_configured c ∷ with_entry e (merged es) cs) name
        ≡ named item_name (with_entry e (merged es) cs) name = rw q refl in
        first ∙ deeper ∙ sym (ap (joined name (named entry_name (e ∷ es) name)) element)

pub merged_joined : (name : List ℕ) (es : List Entry) (cs : List ElementData) → Ascends (map entry_name es)
    → Ascends (map element_name cs) → IsJoined name (merged es cs) es cs
merged_joined name [] cs h k = only_joined name cs
merged_joined name (e ∷ es) cs h k = with_joined name e es (head_above e.name (map entry_name es) h)
    (λ ds d. merged_joined name es ds (rest_ascends e.name (map entry_name es) h) d) cs k

-- ---- what is refused among the merged

module _ (f : List ℕ → Option ElementData → Option Entry → Option PerError)
    (free : (name : List ℕ) (c : ElementData) → f name (Some c) None ≡ None) where
  abbrev pub of_item : Item → Option PerError
  of_item p = f p.name p.configured p.stored

  abbrev pub of_entry : List ElementData → Entry → Option PerError
  of_entry cs e = f e.name (named element_name cs e.name) (Some e)

  only_free : (cs : List ElementData) → filter_map of_item (map only_configured cs) ≡ []
  only_free [] = refl
  only_free (c ∷ cs) = rw (free c.name c) (only_free cs)

  -- a configured element below all entries says nothing of them
  not_of : (c : ElementData) (cs : List ElementData) (es : List Entry) → Above c.name (map entry_name es)
      → filter_map (of_entry cs) es ≡ filter_map (of_entry (c ∷ cs)) es
  not_of c cs [] h = refl
  not_of c cs (e ∷ es) h =
      let here : named element_name (c ∷ cs) e.name ≡ named element_name cs e.name =
      rw (differ c.name e.name h.0) refl in
      ap (λ o. cons_option (f e.name o (Some e)) (filter_map (of_entry cs) es)) (sym here)
      ∙ ap (cons_option (f e.name (named element_name (c ∷ cs) e.name) (Some e))) (not_of c cs es h.1)

  with_refusals : (e : Entry) (es : List Entry) → Above e.name (map entry_name es)
      → ((cs : List ElementData) → Ascends (map element_name cs)
      → filter_map of_item (merged es cs) ≡ filter_map (of_entry cs) es)
      → (cs : List ElementData) → Ascends (map element_name cs)
      → filter_map of_item (with_entry e (merged es) cs) ≡ filter_map (of_entry cs) (e ∷ es)
  with_refusals e es above rest [] h = ap (cons_option (f e.name None (Some e))) (rest [] none_ascend)
  with_refusals e es above rest (c ∷ cs) h =
      let behind = head_above c.name (map element_name cs) h in
      let later = rest_ascends c.name (map element_name cs) h in
      by_cmp (λ items. filter_map of_item items ≡ filter_map (of_entry (c ∷ cs)) (e ∷ es)) (name_cmp e.name c.name)
      (only_stored e ∷ merged es (c ∷ cs)) (both e c ∷ merged es cs)
      (only_configured c ∷ with_entry e (merged es) cs)
      (λ o.
      let none : named element_name (c ∷ cs) e.name ≡ None = none_behind element_name c cs e.name o behind in
      ap (cons_option (f e.name None (Some e))) (rest (c ∷ cs) h)
      ∙ ap (λ x. cons_option (f e.name x (Some e)) (filter_map (of_entry (c ∷ cs)) es)) (sym none))
      (λ o.
      let same : e.name ≡ c.name = equal_name e.name c.name o in
      let there : bytes_eq c.name e.name ≡ true = subst (λ n. bytes_eq n e.name ≡ true) same (self_named e.name) in
      let element : named element_name (c ∷ cs) e.name ≡ Some c = rw there refl in
      ap (cons_option (f e.name (Some c) (Some e))) (rest cs later
      ∙ not_of c cs es (subst (λ n. Above n (map entry_name es)) same above))
      ∙ ap (λ x. cons_option (f e.name x (Some e)) (filter_map (of_entry (c ∷ cs)) es)) (sym element))
      (λ o.
      let less = turned e.name c.name o in
      ap (λ x. cons_option x (filter_map of_item (with_entry e (merged es) cs))) (free c.name c)
      ∙ with_refusals e es above rest cs later
      ∙ not_of c cs (e ∷ es) (less, above_all c.name e.name (map entry_name es) less above))

  pub merged_refusals : (es : List Entry) (cs : List ElementData) → Ascends (map entry_name es)
      → Ascends (map element_name cs) → filter_map of_item (merged es cs) ≡ filter_map (of_entry cs) es
  merged_refusals [] cs h k = only_free cs
  merged_refusals (e ∷ es) cs h k = with_refusals e es (head_above e.name (map entry_name es) h)
      (λ ds d. merged_refusals es ds (rest_ascends e.name (map entry_name es) h) d) cs k

-- ---- what holds of all of both holds of all that is merged

module _ (P : Entry → Type 0) (Q : ElementData → Type 0) where
  abbrev pub OfItem : Item → Type 0
  OfItem p = IfSome p.stored P × IfSome p.configured Q

  only_all : (cs : List ElementData) → AllByRecursion Q cs → AllByRecursion OfItem (map only_configured cs)
  only_all [] h = tt
  only_all (c ∷ cs) h = ((tt, h.0), only_all cs h.1)

  with_all : (e : Entry) (es : List Entry) → P e → ((cs : List ElementData) → AllByRecursion Q cs
      → AllByRecursion OfItem (merged es cs))
      → (cs : List ElementData) → AllByRecursion Q cs → AllByRecursion OfItem (with_entry e (merged es) cs)
  with_all e es p rest [] h = ((p, tt), rest [] tt)
  with_all e es p rest (c ∷ cs) h = by_cmp (AllByRecursion OfItem) (name_cmp e.name c.name)
      (only_stored e ∷ merged es (c ∷ cs)) (both e c ∷ merged es cs) (only_configured c ∷ with_entry e (merged es) cs)
      (λ o. ((p, tt), rest (c ∷ cs) h)) (λ o. ((p, h.0), rest cs h.1)) (λ o. ((tt, h.0), with_all e es p rest cs h.1))

  pub merged_all : (es : List Entry) (cs : List ElementData) → AllByRecursion P es → AllByRecursion Q cs
      → AllByRecursion OfItem (merged es cs)
  merged_all [] cs h k = only_all cs k
  merged_all (e ∷ es) cs h k = with_all e es h.0 (λ ds. merged_all es ds h.1) cs k
