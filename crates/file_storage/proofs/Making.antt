-- The walk gives the changes that make the stored files into the working ones: in the order of the names, and exactly
-- where they differ.
use Rattle.std.proofs.Common.{◌≡◌, ℕ, List, [], ◌∷◌, Bool, true, false, cond, refl, sym, ◌∙◌, ap, subst}
use Rattle.std.specs.Prelude.{Option, Some, None, map}
use Rattle.std.specs.BTreeMap.{is_at}
use Rattle.std.specs.List.{AllByRecursion, cons_option}
use Rattle.std.specs.List.Sorted.{IsStrictlySortedBy}
use Rattle.std.specs.Ordering.{match_ordering}
use Rattle.std.specs.Str.{bytes_eq}
use Rattle.std.specs.declared.cmp.Ordering.{Ordering}
use Rattle.std.specs.declared.cmp.Ordering.TheVariants.{Less, Equal, Greater}
use Rattle.std.proofs.lemmas.Map.Lookups.{exact_bytes}
use Rattle.std.proofs.lemmas.Map.Text.{is_eq-slice_cmp}
use Rattle.per_base.specs.declared.elements.Element.{Element}
use Rattle.per_base.specs.declared.elements.FileInfo.{FileInfo}
use Rattle.per_base.specs.Maps.{Map, element_at, names_of}
use Rattle.per_base.specs.Names.{name_cmp, NamesAscend}
use Rattle.per_base.specs.declared.elements.Change.{Change}
use Rattle.per_base.specs.declared.elements.Change.TheVariants.{Remove}
use Rattle.per_base.specs.Changes.{changed_name, change_at}
use Rattle.element_state.specs.Changes.{same_element}
use Rattle.element_maps.specs.Differences.{MakeInto, arrival, difference, put, replacement, same_bytes}
use Rattle.element_maps.specs.Differences.{touch}
use Rattle.element_maps.specs.lemmas.InOrder.{ComesBeforeAll, first, rest}
use Rattle.element_maps.specs.lemmas.Names.{eq_back, greater_less, less_apart, less_less, same_names}
use Rattle.file_storage.specs.Walks.{passing, removed, walked}

abbrev pair_name : List ℕ × Element → List ℕ
pair_name e = e.0

-- ---- names

touch_name : (name : List ℕ) (new : Element) (info : Option FileInfo) → changed_name (touch name new info) ≡ name
touch_name name new None = refl
touch_name name new (Some info) = refl

replacement_name : (name : List ℕ) (old new : Element) → changed_name (replacement name old new) ≡ name
replacement_name name old new = by (same_bytes old new)
  where
    by : (b : Bool) → changed_name (cond b (touch name new new.info) (put name new)) ≡ name
    by true = touch_name name new new.info
    by false = refl

arrival_name : (name : List ℕ) (old new : Element) (change : Change) → arrival name (Some old) new ≡ Some change
    → changed_name change ≡ name
arrival_name name old new change = by (same_element old new)
  where
    by : (b : Bool) → cond b None (Some (replacement name old new)) ≡ Some change → changed_name change ≡ name
    by true is = absurd (cc)
    by false is = let same : replacement name old new ≡ change =
        cc in subst (λ (c : Change). changed_name c ≡ name) same (replacement_name name old new)

-- ---- what holds of all names of both maps holds of those of the changes

module _ (P : List ℕ → Type 0) where
  each_removed : (stored : Map) → AllByRecursion P (names_of stored)
      → AllByRecursion P (map changed_name (map removed stored))
  each_removed [] all = tt
  each_removed (e ∷ stored) all = (all.0, each_removed stored all.1)

  each_option : (o : Option Change) (changes : List Change)
      → ((change : Change) → o ≡ Some change → P (changed_name change)) → AllByRecursion P (map changed_name changes)
      → AllByRecursion P (map changed_name (cons_option o changes))
  each_option None changes here all = all
  each_option (Some change) changes here all = (here change refl, all)

  each_passing : (file : List ℕ × Element) (others : Map → List Change)
      → ((stored : Map) → AllByRecursion P (names_of stored) → AllByRecursion P (map changed_name (others stored)))
      → (stored : Map) → P file.0 → AllByRecursion P (names_of stored)
      → AllByRecursion P (map changed_name (passing file others stored))
  each_passing file others later [] here all = (here, later [] tt)
  each_passing file others later (e ∷ stored) here all =
      by (each_passing file others later stored here all.1) (name_cmp e.0 file.0)
    where
      by : AllByRecursion P (map changed_name (passing file others stored)) → (r : Ordering)
          → AllByRecursion P (map changed_name (match_ordering r (removed e ∷ passing file others stored)
          (cons_option (arrival file.0 (Some e.1) file.1) (others stored))
          (put file.0 file.1 ∷ others (e ∷ stored))))
      by behind Less = (all.0, behind)
      by behind Equal = each_option (arrival file.0 (Some e.1) file.1) (others stored)
          (λ change is. subst P (sym (arrival_name file.0 e.1 file.1 change is)) here) (later stored all.1)
      by behind Greater = (here, later (e ∷ stored) all)

  each_walked : (files stored : Map) → AllByRecursion P (names_of files) → AllByRecursion P (names_of stored)
      → AllByRecursion P (map changed_name (walked files stored))
  each_walked [] stored of_files of_stored = each_removed stored of_stored
  each_walked (file ∷ files) stored of_files of_stored =
      each_passing file (walked files) (λ other all. each_walked files other of_files.1 all) stored of_files.0 of_stored

-- ---- the order

ascends : (change : Change) (changes : List Change) → ComesBeforeAll (changed_name change) (map changed_name changes)
    → NamesAscend changed_name changes → NamesAscend changed_name (change ∷ changes)
unfolding IsStrictlySortedBy
ascends change changes above sorted = (above, sorted)

none_ascend : NamesAscend changed_name []
unfolding IsStrictlySortedBy
none_ascend = tt

above_all : (a b : List ℕ) (names : List (List ℕ)) → name_cmp a b ≡ Less → ComesBeforeAll b names
    → ComesBeforeAll a names
above_all a b [] less above = tt
above_all a b (n ∷ ns) less above = (less_less a b n less above.0, above_all a b ns less above.1)

ascends_removed : (stored : Map) → NamesAscend pair_name stored → NamesAscend changed_name (map removed stored)
ascends_removed [] sorted = none_ascend
ascends_removed (e ∷ stored) sorted = ascends (removed e) (map removed stored)
    (each_removed (λ n. name_cmp e.0 n ≡ Less) stored (first pair_name e stored sorted))
    (ascends_removed stored (rest pair_name e stored sorted))

ascends_passing : (file : List ℕ × Element) (files stored : Map) → ComesBeforeAll file.0 (names_of files)
    → ((other : Map) → NamesAscend pair_name other → NamesAscend changed_name (walked files other))
    → NamesAscend pair_name stored → NamesAscend changed_name (passing file (walked files) stored)
ascends_passing file files [] above later sorted = ascends (put file.0 file.1) (walked files [])
    (each_walked (λ n. name_cmp file.0 n ≡ Less) files [] above tt) (later [] sorted)
ascends_passing file files (e ∷ stored) above later sorted =
    by (ascends_passing file files stored above later (rest pair_name e stored sorted)) (name_cmp e.0 file.0) refl
  where
    beyond : ComesBeforeAll e.0 (names_of stored)
    beyond = first pair_name e stored sorted

    tail : NamesAscend pair_name stored
    tail = rest pair_name e stored sorted

    at_once : (o : Option Change) → ((change : Change) → o ≡ Some change → changed_name change ≡ file.0)
        → ComesBeforeAll file.0 (map changed_name (walked files stored))
        → NamesAscend changed_name (cons_option o (walked files stored))
    at_once None named all = later stored tail
    at_once (Some change) named all = ascends change (walked files stored)
        (subst (λ n. ComesBeforeAll n (map changed_name (walked files stored))) (sym (named change refl)) all)
        (later stored tail)

    by : NamesAscend changed_name (passing file (walked files) stored) → (r : Ordering) → name_cmp e.0 file.0 ≡ r
        → NamesAscend changed_name (match_ordering r (removed e ∷ passing file (walked files) stored)
        (cons_option (arrival file.0 (Some e.1) file.1) (walked files stored))
        (put file.0 file.1 ∷ walked files (e ∷ stored)))
    by behind Less p = ascends (removed e) (passing file (walked files) stored)
        (each_passing (λ n. name_cmp e.0 n ≡ Less) file (walked files)
        (λ other all. each_walked (λ n. name_cmp e.0 n ≡ Less) files other
        (above_all e.0 file.0 (names_of files) p above) all) stored p beyond)
        behind
    by behind Equal p = at_once (arrival file.0 (Some e.1) file.1)
        (λ change is. arrival_name file.0 e.1 file.1 change is)
        (each_walked (λ n. name_cmp file.0 n ≡ Less) files stored above
        (subst (λ n. ComesBeforeAll n (names_of stored)) (exact_bytes e.0 file.0 p) beyond))
    by behind Greater p =
        let less : name_cmp file.0 e.0 ≡ Less = greater_less e.0 file.0 p in
        ascends (put file.0 file.1) (walked files (e ∷ stored))
        (each_walked (λ n. name_cmp file.0 n ≡ Less) files (e ∷ stored) above
        (less, above_all file.0 e.0 (names_of stored) less beyond))
        (later (e ∷ stored) sorted)

ascends_walked : (files stored : Map) → NamesAscend pair_name files → NamesAscend pair_name stored
    → NamesAscend changed_name (walked files stored)
ascends_walked [] stored of_files of_stored = ascends_removed stored of_stored
ascends_walked (file ∷ files) stored of_files of_stored =
    ascends_passing file files stored (first pair_name file files of_files)
    (λ other sorted. ascends_walked files other (rest pair_name file files of_files) sorted) of_stored

-- ---- what is found

-- the test of a map's look-up and that of a list's agree
at_name : (name other : List ℕ) → is_at (name_cmp name) other ≡ bytes_eq other name
at_name name other = is_eq-slice_cmp name other ∙ eq_back name other

element_above : (name : List ℕ) (m : Map) → ComesBeforeAll name (names_of m) → element_at m name ≡ None
element_above name [] above = refl
element_above name (e ∷ m) above = rw (at_name name e.0, eq_back e.0 name, less_apart name e.0 above.0)
    (element_above name m above.1)

-- a look-up at the head of a map, by whether the name is the head's
head_is : (name : List ℕ) (e : List ℕ × Element) (m : Map) (b : Bool) → bytes_eq e.0 name ≡ b
    → element_at (e ∷ m) name ≡ cond b (Some e.1) (element_at m name)
head_is name e m b is = rw (at_name name e.0, is) refl

pub change_is : (name : List ℕ) (change : Change) (changes : List Change) (b : Bool)
    → bytes_eq (changed_name change) name ≡ b → change_at name (change ∷ changes)
    ≡ cond b (Some change) (change_at name changes)
change_is name change changes b is = rw is refl

abbrev Exact : (changes : List Change) (stored files : Map) → Type 0
Exact changes stored files = (name : List ℕ) → change_at name changes
    ≡ difference name (element_at stored name) (element_at files name)

exact_removed : (stored : Map) → NamesAscend pair_name stored → Exact (map removed stored) stored []
exact_removed [] sorted name = refl
exact_removed (e ∷ stored) sorted name = by (bytes_eq e.0 name) refl
    (exact_removed stored (rest pair_name e stored sorted) name)
  where
    by : (b : Bool) → bytes_eq e.0 name ≡ b → change_at name (map removed stored)
        ≡ difference name (element_at stored name) None
        → change_at name (removed e ∷ map removed stored) ≡ difference name (element_at (e ∷ stored) name) None
    by true t later =
        let named : e.0 ≡ name = same_names e.0 name t in
        change_is name (removed e) (map removed stored) true t
        ∙ ap (λ n. let change : Change = Remove n in Some change) named
        ∙ sym (ap (λ o. difference name o None) (head_is name e stored true t))
    by false f later = change_is name (removed e) (map removed stored) false f ∙ later
        ∙ sym (ap (λ o. difference name o None) (head_is name e stored false f))

abbrev ExactAt : (name : List ℕ) (stored files : Map) → (changes : List Change) → Type 0
ExactAt name stored files changes = change_at name changes
    ≡ difference name (element_at stored name) (element_at files name)

exact_passing : (file : List ℕ × Element) (files stored : Map) → ComesBeforeAll file.0 (names_of files)
    → ((other : Map) → NamesAscend pair_name other → Exact (walked files other) other files)
    → NamesAscend pair_name stored → Exact (passing file (walked files) stored) stored (file ∷ files)
exact_passing file files [] above later sorted name = by (bytes_eq file.0 name) refl (later [] sorted name)
  where
    by : (b : Bool) → bytes_eq file.0 name ≡ b → change_at name (walked files [])
        ≡ difference name None (element_at files name)
        → change_at name (put file.0 file.1 ∷ walked files []) ≡ difference name None (element_at (file ∷ files) name)
    by true t rest_of =
        let named : file.0 ≡ name = same_names file.0 name t in
        change_is name (put file.0 file.1) (walked files []) true t ∙ ap (λ n. Some (put n file.1)) named
        ∙ sym (ap (difference name None) (head_is name file files true t))
    by false f rest_of = change_is name (put file.0 file.1) (walked files []) false f ∙ rest_of
        ∙ sym (ap (difference name None) (head_is name file files false f))
exact_passing file files (e ∷ stored) above later sorted name =
    by (exact_passing file files stored above later (rest pair_name e stored sorted) name) (name_cmp e.0 file.0) refl
  where
    beyond : ComesBeforeAll e.0 (names_of stored)
    beyond = first pair_name e stored sorted

    tail : NamesAscend pair_name stored
    tail = rest pair_name e stored sorted

    -- the stored file comes first: it is taken away
    removes : ExactAt name stored (file ∷ files) (passing file (walked files) stored) → name_cmp e.0 file.0 ≡ Less
        → (b : Bool) → bytes_eq e.0 name ≡ b → ExactAt name (e ∷ stored) (file ∷ files)
        (removed e ∷ passing file (walked files) stored)
    removes behind less true t =
        let named : e.0 ≡ name = same_names e.0 name t in
        let gone : element_at (file ∷ files) name ≡ None =
        element_above name (file ∷ files) (subst (λ n. ComesBeforeAll n (names_of (file ∷ files))) named
        (less, above_all e.0 file.0 (names_of files) less above)) in
        change_is name (removed e) (passing file (walked files) stored) true t
        ∙ ap (λ n. let change : Change = Remove n in Some change) named
        ∙ sym (ap (λ o. difference name o (element_at (file ∷ files) name)) (head_is name e stored true t)
        ∙ ap (difference name (Some e.1)) gone)
    removes behind less false f = change_is name (removed e) (passing file (walked files) stored) false f ∙ behind
        ∙ sym (ap (λ o. difference name o (element_at (file ∷ files) name)) (head_is name e stored false f))

    -- both have the name
    other_name : (o : Option Change) → ((change : Change) → o ≡ Some change → changed_name change ≡ file.0)
        → bytes_eq file.0 name ≡ false → change_at name (cons_option o (walked files stored))
        ≡ change_at name (walked files stored)
    other_name None named f = refl
    other_name (Some change) named f = change_is name change (walked files stored) false
        (ap (λ n. bytes_eq n name) (named change refl) ∙ f)

    own_name : (o : Option Change) → ((change : Change) → o ≡ Some change → changed_name change ≡ file.0)
        → bytes_eq file.0 name ≡ true → change_at name (walked files stored) ≡ None
        → change_at name (cons_option o (walked files stored)) ≡ o
    own_name None named t none = none
    own_name (Some change) named t none = change_is name change (walked files stored) true
        (ap (λ n. bytes_eq n name) (named change refl) ∙ t)

    meets : name_cmp e.0 file.0 ≡ Equal → (b : Bool) → bytes_eq file.0 name ≡ b
        → ExactAt name (e ∷ stored) (file ∷ files) (cons_option (arrival file.0 (Some e.1) file.1)
        (walked files stored))
    meets tied true t =
        let one : e.0 ≡ file.0 = exact_bytes e.0 file.0 tied in
        let named : file.0 ≡ name = same_names file.0 name t in
        let none_stored : element_at stored name ≡ None = element_above name stored
        (subst (λ n. ComesBeforeAll n (names_of stored)) (one ∙ named) beyond) in
        let none_working : element_at files name ≡ None = element_above name files
        (subst (λ n. ComesBeforeAll n (names_of files)) named above) in
        let none_later : change_at name (walked files stored) ≡ None =
        later stored tail name ∙ ap (λ o. difference name o (element_at files name)) none_stored
        ∙ ap (difference name None) none_working in
        own_name (arrival file.0 (Some e.1) file.1) (λ change is. arrival_name file.0 e.1 file.1 change is) t none_later
        ∙ ap (λ n. arrival n (Some e.1) file.1) named
        ∙ sym (ap (λ o. difference name o (element_at (file ∷ files) name))
        (head_is name e stored true (ap (λ n. bytes_eq n name) one ∙ t))
        ∙ ap (difference name (Some e.1)) (head_is name file files true t))
    meets tied false f =
        let one : e.0 ≡ file.0 = exact_bytes e.0 file.0 tied in
        other_name (arrival file.0 (Some e.1) file.1) (λ change is. arrival_name file.0 e.1 file.1 change is) f
        ∙ later stored tail name
        ∙ sym (ap (λ o. difference name o (element_at (file ∷ files) name))
        (head_is name e stored false (ap (λ n. bytes_eq n name) one ∙ f))
        ∙ ap (difference name (element_at stored name)) (head_is name file files false f))

    -- the working file comes first: it is new
    adds : name_cmp e.0 file.0 ≡ Greater → (b : Bool) → bytes_eq file.0 name ≡ b
        → ExactAt name (e ∷ stored) (file ∷ files) (put file.0 file.1 ∷ walked files (e ∷ stored))
    adds above_it true t =
        let named : file.0 ≡ name = same_names file.0 name t in
        let less : name_cmp file.0 e.0 ≡ Less = greater_less e.0 file.0 above_it in
        let none : element_at (e ∷ stored) name ≡ None =
        element_above name (e ∷ stored) (subst (λ n. ComesBeforeAll n (names_of (e ∷ stored))) named
        (less, above_all file.0 e.0 (names_of stored) less beyond)) in
        change_is name (put file.0 file.1) (walked files (e ∷ stored)) true t ∙ ap (λ n. Some (put n file.1)) named
        ∙ sym (ap (λ o. difference name o (element_at (file ∷ files) name)) none
        ∙ ap (difference name None) (head_is name file files true t))
    adds above_it false f = change_is name (put file.0 file.1) (walked files (e ∷ stored)) false f
        ∙ later (e ∷ stored) sorted name
        ∙ sym (ap (difference name (element_at (e ∷ stored) name)) (head_is name file files false f))

    by : ExactAt name stored (file ∷ files) (passing file (walked files) stored) → (r : Ordering)
        → name_cmp e.0 file.0 ≡ r
        → ExactAt name (e ∷ stored) (file ∷ files) (match_ordering r (removed e ∷ passing file (walked files) stored)
        (cons_option (arrival file.0 (Some e.1) file.1) (walked files stored))
        (put file.0 file.1 ∷ walked files (e ∷ stored)))
    by behind Less p = removes behind p (bytes_eq e.0 name) refl
    by behind Equal p = meets p (bytes_eq file.0 name) refl
    by behind Greater p = adds p (bytes_eq file.0 name) refl

exact_walked : (files stored : Map) → NamesAscend pair_name files → NamesAscend pair_name stored
    → Exact (walked files stored) stored files
exact_walked [] stored of_files of_stored = exact_removed stored of_stored
exact_walked (file ∷ files) stored of_files of_stored =
    exact_passing file files stored (first pair_name file files of_files)
    (λ other sorted. exact_walked files other (rest pair_name file files of_files) sorted) of_stored

pub walk_makes : (files stored : Map) → IsStrictlySortedBy name_cmp (names_of files)
    → IsStrictlySortedBy name_cmp (names_of stored) → MakeInto (walked files stored) stored files
walk_makes files stored of_files of_stored = record {
  names_ascend = ascends_walked files stored of_files of_stored;
  exact = exact_walked files stored of_files of_stored;
}
