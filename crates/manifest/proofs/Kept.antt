-- What a manifest that breaks no rule says keeps what every deployment keeps.
use Rattle.std.proofs.Common.{◌≡◌, ℕ, ◌≤◌, Bool, true, false, not, ◌||◌, List, [], ◌∷◌, ◌++◌, length, map, Option, Some}
use Rattle.std.proofs.Common.{None, is_some, is_none, Result, Ok, Err, refl, sym, ap, subst, suc, arith, lit≤}
use Rattle.std.specs.Prelude.{option_and_then, unwrap_or, sum_by, nat_le, IfOk, IfErr, OnOk, codes, if◌then◌else◌}
use Rattle.std.specs.List.{AllByRecursion, list_all, flat_map}
use Rattle.std.specs.List.Sorted.{IsStrictlySortedBy}
use Rattle.std.proofs.lemmas.Bool.{and_parts, leb-true}
use Rattle.std.proofs.lemmas.Slice.Eq.{bytes_eq-Decides}
use Rattle.std.proofs.lemmas.List.Sums.{sum_by-cons}
use Rattle.serde_json.specs.Data.{Data}
use Rattle.serde_json.specs.Find.{get}
use Rattle.hex.specs.Hex.{decode_of}
use Rattle.per_base.specs.declared.elements.StoreKind.{StoreKind}
use Rattle.per_base.specs.declared.elements.StoreKind.TheVariants.{Keys, Files}
use Rattle.per_base.specs.Names.{name_cmp}
use Rattle.value_model.specs.Kinds.{Kind}
use Rattle.value_model.specs.Trees.{Tree, type_of}
use Rattle.value_model.specs.Validity.{IsValue}
use Rattle.value_text.specs.Types.{IsType}
use Rattle.value_text.specs.Parsing.{value_in}
use Rattle.value_text.specs.Texts.{type_text}
use Rattle.value_text.specs.lemmas.Public.{same_type, value_in_takes}
use Rattle.deployment_model.specs.declared.configs.Deployment.{Deployment}
use Rattle.manifest.specs.declared.errors.ManifestError.{ManifestError}
use Rattle.manifest.specs.Reading.{Judges, RefusesManifest, broken_in, broken_rule, deployment_in, said_in, value_of}
use Rattle.deployment_model.specs.Data.{deployment_data, ElementData, StorageData, DeploymentData}
use Rattle.deployment_model.specs.Conditions.{HasTypeFor, IsEncodingOf, IsInitial, StartsAs, IsElement, IsStorage}
use Rattle.deployment_model.specs.Conditions.{IsDeployment, initial_size as start_of, overwrites}
use Rattle.manifest.specs.Values.{is_in_range, may_be, whole_in}
use Rattle.manifest.specs.Parts.{ListedThing, storages, elements, all_elements, name_in, maximum_in, redundancy_in}
use Rattle.manifest.specs.Parts.{agreeing_in, copies_in, version_in, strategy_in, type_in, type_for, encoding_as}
use Rattle.manifest.specs.Parts.{key_bytes, file_bytes, if_short, is_lower_digit, ok_of, bytes_said, initial_in}
use Rattle.manifest.specs.Rules.{first_broken, or_else, whole_rules, storage_rules, element_rules, first_violated}
use Rattle.manifest.specs.Rules.{has_version, has_few_storages, are_named, is_named, sizes_are_in_range, has_size}
use Rattle.manifest.specs.Rules.{has_sizes, minimums_are_below, has_minimum_below, maximums_fit_together}
use Rattle.manifest.specs.Rules.{redundancies_have_counts, are_counts, says_counts, has_counts, elements_are_few}
use Rattle.manifest.specs.Rules.{has_few_elements, keys_have_types, has_type, initials_are_read, may_start}
use Rattle.manifest.specs.Rules.{elements_have_strategies, has_strategy, initials_fit, has_room, initial_size}
use Rattle.manifest.specs.Parts.{by_name}
use Rattle.manifest.specs.Contents.{element_said, storage_said, deployment_said}
use Rattle.manifest.proofs.TypeLaws.{then_some, has_a_type, type_said, type_of_value}
use Rattle.manifest.proofs.ByName.{all_by_name, sorted_by_name, length_by_name, sum_by_name}

-- ---- small facts

if_some : {A : Type 0} (test : Bool) (a b : A) → (if test then Some a else None) ≡ Some b → (test ≡ true) × (a ≡ b)
if_some true a b e = (refl, ap (λ o. unwrap_or o a) e)
if_some false a b e = absurd cc

all_true : {A : Type 0} (p : A → Bool) (xs : List A) → list_all p xs ≡ true → AllByRecursion (λ x. p x ≡ true) xs
all_true p [] h = tt
all_true p (x ∷ xs) h = let both = and_parts _ _ h in (both.0, all_true p xs both.1)

both_all : {A : Type 0} (P Q : A → Type 0) (xs : List A) → AllByRecursion P xs → AllByRecursion Q xs
    → AllByRecursion (λ x. P x × Q x) xs
both_all P Q [] p q = tt
both_all P Q (x ∷ xs) p q = ((p.0, q.0), both_all P Q xs p.1 q.1)

all_map : {A B : Type 0} (P : A → Type 0) (Q : B → Type 0) (f : A → B) → ((x : A) → P x → Q (f x)) → (xs : List A)
    → AllByRecursion P xs → AllByRecursion Q (map f xs)
all_map P Q f each [] all = tt
all_map P Q f each (x ∷ xs) all = (each x all.0, all_map P Q f each xs all.1)

front_all : {A : Type 0} (P : A → Type 0) (xs ys : List A) → AllByRecursion P (xs ++ ys)
    → AllByRecursion P xs × AllByRecursion P ys
front_all P [] ys all = (tt, all)
front_all P (x ∷ xs) ys all = let rest = front_all P xs ys all.1 in ((all.0, rest.0), rest.1)

parts_all : {A B : Type 0} (P : B → Type 0) (f : A → List B) (xs : List A) → AllByRecursion P (flat_map f xs)
    → AllByRecursion (λ x. AllByRecursion P (f x)) xs
parts_all P f [] all = tt
parts_all P f (x ∷ xs) all = let both = front_all P (f x) (flat_map f xs) all in (both.0, parts_all P f xs both.1)

within_range : (low high default : ℕ) (o : Option ℕ) → is_in_range low high o ≡ true
    → (low ≤ unwrap_or o default) × (unwrap_or o default ≤ high)
within_range low high default None h = absurd cc
within_range low high default (Some n) h = let both = and_parts _ _ h in (leb-true _ _ both.0, leb-true _ _ both.1)

-- ---- an element

typed : (e : ListedThing) → has_type e ≡ true → HasTypeFor e.0 (type_for e)
unfolding has_type
typed (Keys, d) h = has_a_type d (type_in d) refl h
typed (Files, d) h = refl

encoded : (k : Kind) (t : Tree) (bytes : List ℕ) → IsType k → IsValue t → encoding_as k t ≡ Some bytes
    → IsEncodingOf k bytes
encoded k t bytes type value e =
    let found = if_some _ _ _ e in
    record {
      value = t;
      is_value = value;
      of_type = same_type (type_of t) k (type_of_value t value) type
          ((bytes_eq-Decides (type_text (type_of t)) (type_text k)).0 found.0);
      encoded = sym found.1;
    }

key_starts : (o : Option Kind) (text bytes : List ℕ) → ((k : Kind) → o ≡ Some k → IsType k)
    → key_bytes o text ≡ Some bytes → IsInitial Keys o bytes
unfolding key_bytes
key_starts None text bytes type e = absurd cc
key_starts (Some k) text bytes type e =
    let said = then_some (encoding_as k) (value_in text) bytes e in
    encoded k said.0 bytes (type k refl) (value_in_takes text said.0 said.1).0 said.2

short : (bytes : List ℕ) (read : Option (List ℕ)) → option_and_then if_short read ≡ Some bytes → length bytes ≤ 1048576
short bytes read e =
    let said = then_some if_short read bytes e in
    let found = if_some _ _ _ said.2 in
    subst (λ bs. length bs ≤ 1048576) found.1 (leb-true _ _ found.0)

file_read : (test : Bool) (read : Option (List ℕ)) (bytes : List ℕ)
    → (if test then option_and_then if_short read else None) ≡ Some bytes → length bytes ≤ 1048576
file_read true read bytes e = short bytes read e
file_read false read bytes e = absurd cc

file_starts : (text bytes : List ℕ) → file_bytes text ≡ Some bytes → length bytes ≤ 1048576
unfolding file_bytes
file_starts text bytes e = file_read (list_all is_lower_digit text) (ok_of (decode_of text)) bytes e

starts_at : (e : ListedThing) (o : Option (List ℕ)) → initial_in e ≡ o → StartsAs e.0 (type_for e) o
unfolding initial_in
starts_at e None is = tt
starts_at (Keys, d) (Some bytes) is = let said = then_some (bytes_said (Keys, d)) _ bytes is in
    key_starts (type_in d) said.0 bytes (type_said d) said.2
starts_at (Files, d) (Some bytes) is = let said = then_some (bytes_said (Files, d)) _ bytes is in
    file_starts said.0 bytes said.2

starts : (e : ListedThing) → StartsAs e.0 (type_for e) (initial_in e)
starts e = starts_at e (initial_in e) refl

-- what is overwritten has an initial content that was read
overwritten : (over absent said read : Bool) → absent ≡ not said → (absent || read) ≡ true → (not over || said) ≡ true
    → (not over || read) ≡ true
overwritten false absent said read is h k = refl
overwritten true absent false read is h k = absurd cc
overwritten true absent true read is h k = let gone : absent ≡ false = is in rw gone at h

not_absent : {A : Type 0} (o : Option A) → is_none o ≡ not (is_some o)
not_absent None = refl
not_absent (Some a) = refl

record KeepsRules (e : ListedThing) : Type 0 where
  named : is_named e ≡ true
  has_type : has_type e ≡ true
  read : may_start e ≡ true
  strategy : has_strategy e ≡ true

element_keeps : (kind : StoreKind) (e : ListedThing) → (e.0 ≡ kind) × KeepsRules e → IsElement kind (element_said e)
unfolding element_said is_named may_start has_strategy
element_keeps kind e (is, rules) =
    let strategy = and_parts _ _ rules.strategy in
    subst (λ k. IsElement k (element_said e)) is (record {
      name = rules.named;
      typed = typed e rules.has_type;
      initial = starts e;
      overwritten = overwritten (overwrites (strategy_in e.1)) (is_none (get (codes "initial") e.1))
          (is_some (get (codes "initial") e.1)) (is_some (initial_in e)) (not_absent _) rules.read strategy.1;
    })

-- ---- a storage

maximum_kept : (o : Option Data) → may_be (has_size 1) o ≡ true
    → (1 ≤ unwrap_or (whole_in o) 1048576) × (unwrap_or (whole_in o) 1048576 ≤ 4194304)
maximum_kept None h = (lit≤ tt, lit≤ tt)
maximum_kept (Some d) h = within_range 1 4194304 1048576 (whole_in (Some d)) h

maximum_range : (s : ListedThing) → has_sizes s ≡ true → (1 ≤ maximum_in s.1) × (maximum_in s.1 ≤ 4194304)
unfolding maximum_in has_sizes
maximum_range s h = maximum_kept (get (codes "maximumAllowedSize") s.1) (and_parts _ _ h).1

pair_kept : (m n : Option ℕ) → are_counts m n ≡ true → (1 ≤ unwrap_or m 1) × (unwrap_or m 1 ≤ unwrap_or n 1)
    × (unwrap_or n 1 ≤ 7)
pair_kept None n h = absurd cc
pair_kept (Some m) None h = absurd cc
pair_kept (Some m) (Some n) h =
    let outer = and_parts _ _ h in
    let inner = and_parts _ _ outer.0 in
    (leb-true _ _ inner.0, leb-true _ _ inner.1, leb-true _ _ outer.1)

counts_kept : (o : Option Data) → may_be says_counts o ≡ true
    → (1 ≤ unwrap_or (option_and_then agreeing_in o) 1) × (unwrap_or (option_and_then agreeing_in o) 1
    ≤ unwrap_or (option_and_then copies_in o) 1) × (unwrap_or (option_and_then copies_in o) 1 ≤ 7)
counts_kept None h = (lit≤ tt, lit≤ tt, lit≤ tt)
counts_kept (Some r) h = pair_kept (agreeing_in r) (copies_in r) h

elements_kind : (kind : StoreKind) (ds : List Data) → AllByRecursion (λ (e : ListedThing). e.0 ≡ kind)
    (map (λ d. (kind, d)) ds)
elements_kind kind [] = tt
elements_kind kind (d ∷ ds) = (refl, elements_kind kind ds)

of_the_kind : (s : ListedThing) → AllByRecursion (λ (e : ListedThing). e.0 ≡ s.0) (elements s)
unfolding elements
of_the_kind s = elements_kind s.0 _

map-map : {A B C : Type 0} (f : B → C) (g : A → B) (xs : List A) → map f (map g xs) ≡ map (λ x. f (g x)) xs
map-map f g [] = refl
map-map f g (x ∷ xs) = ap (λ ys. f (g x) ∷ ys) (map-map f g xs)

length_map : {A B : Type 0} (f : A → B) (xs : List A) → length (map f xs) ≡ length xs
length_map f [] = refl
length_map f (x ∷ xs) = ap (λ n. suc n) (length_map f xs)

sum-map : {A B : Type 0} (f : B → ℕ) (g : A → B) (xs : List A) → sum_by f (map g xs) ≡ sum_by (λ x. f (g x)) xs
sum-map f g [] = refl
sum-map f g (x ∷ xs) = omega (arith, sum_by-cons f (g x) (map g xs), sum_by-cons (λ y. f (g y)) x xs, sum-map f g xs)

names_of_elements : (ls : List ListedThing) → map (λ (e : ElementData). e.name) (map element_said ls)
    ≡ map (λ (l : ListedThing). name_in l.1) ls
unfolding element_said
names_of_elements ls = map-map (λ (e : ElementData). e.name) element_said ls

names_of_storages : (ls : List ListedThing) → map (λ (s : StorageData). s.name) (map storage_said ls)
    ≡ map (λ (l : ListedThing). name_in l.1) ls
unfolding storage_said
names_of_storages ls = map-map (λ (s : StorageData). s.name) storage_said ls

sizes_of_elements : (ls : List ListedThing) → sum_by start_of (map element_said ls) ≡ sum_by initial_size ls
unfolding element_said initial_size
sizes_of_elements ls = sum-map start_of element_said ls

sizes_of_storages : (ls : List ListedThing) → sum_by (λ (s : StorageData). s.maximum) (map storage_said ls)
    ≡ sum_by (λ (l : ListedThing). maximum_in l.1) ls
unfolding storage_said
sizes_of_storages ls = sum-map (λ (s : StorageData). s.maximum) storage_said ls

record StorageRules (s : ListedThing) : Type 0 where
  named : is_named s ≡ true
  sizes : has_sizes s ≡ true
  minimum : has_minimum_below s ≡ true
  counts : has_counts s ≡ true
  few : has_few_elements s ≡ true
  elements : AllByRecursion KeepsRules (elements s)
  room : has_room s ≡ true

storage_keeps : (s : ListedThing) → StorageRules s → IsStorage (storage_said s)
unfolding storage_said is_named has_minimum_below has_counts has_few_elements has_room
storage_keeps s rules =
    let ordered = by_name (elements s) in
    let range = maximum_range s rules.sizes in
    let counts = counts_kept (redundancy_in s.1) rules.counts in
    let few : length (elements s) ≤ 1024 = leb-true _ _ (and_parts _ _ rules.few).1 in
    let room : sum_by initial_size (elements s) ≤ maximum_in s.1 = leb-true _ _ rules.room in
    let kept = all_by_name (λ (e : ListedThing). (e.0 ≡ s.0) × KeepsRules e) (elements s)
    (both_all (λ (e : ListedThing). e.0 ≡ s.0) KeepsRules (elements s) (of_the_kind s) rules.elements) in
    record {
      name = rules.named;
      minimum = leb-true _ _ rules.minimum;
      some_room = range.0;
      maximum = range.1;
      some_agree = counts.0;
      enough_copies = counts.1;
      copies = counts.2;
      few = omega (arith, length_map element_said ordered, length_by_name (elements s), few);
      ascends = subst (IsStrictlySortedBy name_cmp) (sym (names_of_elements ordered)) (sorted_by_name (elements s));
      each = all_map (λ (e : ListedThing). (e.0 ≡ s.0) × KeepsRules e) (IsElement s.0) element_said (element_keeps s.0)
          ordered kept;
      fits = omega (arith, sizes_of_elements ordered, sum_by_name initial_size (elements s), room);
    }

-- ---- the whole

gathered_elements : (es : List ListedThing) → AllByRecursion (λ e. is_named e ≡ true) es
    → AllByRecursion (λ e. has_type e ≡ true) es → AllByRecursion (λ e. may_start e ≡ true) es
    → AllByRecursion (λ e. has_strategy e ≡ true) es
    → AllByRecursion KeepsRules es
gathered_elements [] n t r s = tt
gathered_elements (e ∷ es) n t r s = (
  record { named = n.0; has_type = t.0; read = r.0; strategy = s.0 },
  gathered_elements es n.1 t.1 r.1 s.1,
)

gathered : (ss : List ListedThing) → AllByRecursion (λ s. is_named s ≡ true) ss
    → AllByRecursion (λ s. has_sizes s ≡ true) ss
    → AllByRecursion (λ s. has_minimum_below s ≡ true) ss → AllByRecursion (λ s. has_counts s ≡ true) ss
    → AllByRecursion (λ s. has_few_elements s ≡ true) ss
    → AllByRecursion (λ s. AllByRecursion KeepsRules (elements s)) ss → AllByRecursion (λ s. has_room s ≡ true) ss
    → AllByRecursion StorageRules ss
gathered [] n z m c f e r = tt
gathered (s ∷ ss) n z m c f e r = (
  record {
    named = n.0;
    sizes = z.0;
    minimum = m.0;
    counts = c.0;
    few = f.0;
    elements =
        e.0;
    room = r.0;
  },
  gathered ss n.1 z.1 m.1 c.1 f.1 e.1 r.1,
)

zipped : (ss : List ListedThing) → are_named ss ≡ true → sizes_are_in_range ss ≡ true → minimums_are_below ss ≡ true
    → redundancies_have_counts ss ≡ true → elements_are_few ss ≡ true
    → are_named (all_elements ss) ≡ true → keys_have_types (all_elements ss) ≡ true
    → initials_are_read (all_elements ss) ≡ true → elements_have_strategies (all_elements ss) ≡ true
    → initials_fit ss ≡ true
    → AllByRecursion StorageRules ss
unfolding are_named sizes_are_in_range minimums_are_below redundancies_have_counts elements_are_few keys_have_types
    initials_are_read elements_have_strategies initials_fit
zipped ss named sizes minimums counts few names types read strategies room =
    gathered ss (all_true is_named ss named) (all_true has_sizes ss sizes) (all_true has_minimum_below ss minimums)
    (all_true has_counts ss counts) (all_true has_few_elements ss few)
    (parts_all KeepsRules elements ss (gathered_elements (all_elements ss) (all_true is_named _ names)
    (all_true has_type _ types) (all_true may_start _ read) (all_true has_strategy _ strategies)))
    (all_true has_room ss room)

all_kept_at : {A : Type 0} (rules : List (ℕ × (A → Bool))) (a : A) (n : ℕ) (test : Bool)
    → (if test then first_broken rules a else Some n) ≡ None → (test ≡ true) × (first_broken rules a ≡ None)
all_kept_at rules a n true h = (refl, h)
all_kept_at rules a n false h = absurd cc

all_kept : {A : Type 0} (rules : List (ℕ × (A → Bool))) (a : A) → first_broken rules a ≡ None
    → AllByRecursion (λ rule. rule.1 a ≡ true) rules
all_kept [] a h = tt
all_kept (rule ∷ rules) a h = let both = all_kept_at rules a rule.0 (rule.1 a) h in (both.0, all_kept rules a both.1)

neither : (first later : Option ℕ) → or_else first later ≡ None → (first ≡ None) × (later ≡ None)
neither None later h = (refl, h)
neither (Some rule) later h = absurd cc

version_range : (d : Data) → has_version d ≡ true → 1 ≤ unwrap_or (version_in d) 0
unfolding has_version
version_range d h = (within_range 1 4294967295 0 (version_in d) h).0

storages_few : (d : Data) → has_few_storages d ≡ true → length (storages d) ≤ 16
unfolding has_few_storages
storages_few d h = leb-true _ _ h

maximums_few : (ss : List ListedThing) → maximums_fit_together ss ≡ true
    → sum_by (λ (s : ListedThing). maximum_in s.1) ss ≤ 16777216
unfolding maximums_fit_together
maximums_few ss h = leb-true _ _ h

pub keeps : (d : Data) → first_violated d ≡ None → IsDeployment (deployment_said d)
unfolding first_violated deployment_said
keeps d h =
    let ss = storages d in
    let first = neither _ _ h in
    let later = neither _ _ first.1 in
    let whole = all_kept whole_rules d first.0 in
    let of_storages = all_kept storage_rules ss later.0 in
    let of_elements = all_kept element_rules ss later.1 in
    let rules = zipped ss (of_storages.1.0) (of_storages.1.1.1.0) (of_storages.1.1.1.1.0)
    (of_storages.1.1.1.1.1.1.1.1.1.0) (of_storages.1.1.1.1.1.1.1.1.1.1.0)
    (and_parts _ _ (of_elements.1.0)).0 (of_elements.1.1.0) (of_elements.1.1.1.0) (of_elements.1.1.1.1.0)
    (of_elements.1.1.1.1.1.0) in
    let ordered = by_name ss in
    let few = storages_few d (whole.1.1.1.1.0) in
    record {
      version = version_range d (whole.1.0);
      few = omega (arith, length_map storage_said ordered, length_by_name ss, few);
      ascends = subst (IsStrictlySortedBy name_cmp) (sym (names_of_storages ordered)) (sorted_by_name ss);
      each = all_map StorageRules IsStorage storage_said storage_keeps ordered (all_by_name StorageRules ss rules);
      room = omega (
        arith,
        sizes_of_storages ordered,
        sum_by_name (λ (s : ListedThing). maximum_in s.1) ss,
        maximums_few ss (of_storages.1.1.1.1.1.0),
      );
    }

-- ---- what was read

-- the first rule that a text violates, where it is short or not and denotes this
unfoldable pub least_of : Option Data → Bool → Option ℕ
least_of o short = or_else (if short then (if is_some o then None else Some 2) else Some 1) (broken_in o)

pub read_kept : (o : Option Data) (short : Bool) (said : DeploymentData) → least_of o short ≡ None
    → said_in o (least_of o short) ≡ Some said → IsDeployment said
unfolding least_of
read_kept o false said none is = absurd cc
read_kept None true said none is = absurd cc
read_kept (Some d) true said none is =
    let found = subst (λ b. said_in (Some d) b ≡ Some said) none is in
    subst IsDeployment (ap (λ o. unwrap_or o said) found) (keeps d none)

pub keeps_read : (text : List ℕ) (r : Result Deployment ManifestError) → Judges r (broken_rule text)
    → IfOk r (λ d. deployment_in text ≡ Some (deployment_data d)) → IfOk r (λ d. IsDeployment (deployment_data d))
unfolding broken_rule deployment_in least_of
keeps_read text (Ok d) judged said = read_kept (value_of text) (nat_le (length text) 65536) (deployment_data d) judged
    said
keeps_read text (Err e) judged said = tt

pub rejected_of : (r : Result Deployment ManifestError) (broken : Option ℕ) → Judges r broken
    → IfErr r (RefusesManifest broken)
rejected_of (Ok d) broken judged = tt
rejected_of (Err e) broken judged = judged

pub accepted_of : (r : Result Deployment ManifestError) (broken : Option ℕ) → Judges r broken → OnOk r (broken ≡ None)
accepted_of (Ok d) broken judged = judged
accepted_of (Err e) broken judged = tt
