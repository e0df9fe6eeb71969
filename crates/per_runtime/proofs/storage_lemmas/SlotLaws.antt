-- Slots of a list, and what is open after one of them changed.
use Rattle.std.proofs.Common.{◌≡◌, ◌≢◌, ℕ, zero, suc, ◌+◌, ◌<◌, ◌≤◌, List, [], ◌∷◌, ◌++◌, length, map, replicate, true}
use Rattle.std.proofs.Common.{Option, Some, None, is_some, option_map, slice_get, slice_index_or, slice_set, refl, sym}
use Rattle.std.proofs.Common.{ap, ◌∙◌, subst, arith}
use Rattle.std.specs.List.{AllByRecursion}
use Rattle.std.proofs.lemmas.List.{length-map, map-set}
use Rattle.std.proofs.lemmas.Option.{get_or_from_slice_get, slice_get-get_or, slice_get-map, slice_get_read}
use Rattle.disk_model.specs.Image.{Image}
use Rattle.deployment_model.specs.Data.{StorageData, storage_data}
use Rattle.deployment_model.specs.declared.configs.StorageConfig.{StorageConfig}
use Rattle.open_storages.specs.declared.opens.Open.{Open}
use Rattle.open_storages.specs.Opens.{session_in}
use Rattle.run_model.specs.Calls.{first_open, if_open, session_at}
use Rattle.run_model.specs.Worlds.{Sessions}
use Rattle.per_runtime.specs.declared.storages.slots.OpenSlots.{OpenSlots}
use Rattle.per_runtime.specs.storages.Slots.{if_there, resting_with, sessions_in, slot_at}

-- ---- places of a list

pub get_set : {A : Type 0} (xs : List A) (n : ℕ) (x : A) → n < length xs → slice_get (slice_set xs n x) n ≡ Some x
get_set [] n x lt = absurd (omega (arith, lt))
get_set (y ∷ ys) zero x lt = refl
get_set (y ∷ ys) (suc n) x lt = get_set ys n x (omega (arith, lt))

pub get_set_other : {A : Type 0} (xs : List A) (n k : ℕ) (x : A) → k ≢ n
    → slice_get (slice_set xs n x) k ≡ slice_get xs k
get_set_other [] n k x ne = refl
get_set_other (y ∷ ys) zero zero x ne = absurd (ne refl)
get_set_other (y ∷ ys) zero (suc k) x ne = refl
get_set_other (y ∷ ys) (suc n) zero x ne = refl
get_set_other (y ∷ ys) (suc n) (suc k) x ne = get_set_other ys n k x (λ e. ne (ap suc e))

-- what stands there, set again
pub set_same : {A : Type 0} (xs : List A) (n : ℕ) (x : A) → slice_get xs n ≡ Some x → slice_set xs n x ≡ xs
set_same [] n x is = refl
set_same (y ∷ ys) zero x is = let e : y ≡ x = grind arith in ap (λ z. z ∷ ys) (sym e)
set_same (y ∷ ys) (suc n) x is = ap (λ zs. y ∷ zs) (set_same ys n x is)

pub set_again : {A : Type 0} (xs : List A) (n : ℕ) (x y : A) → slice_set (slice_set xs n x) n y ≡ slice_set xs n y
set_again [] n x y = refl
set_again (z ∷ zs) zero x y = refl
set_again (z ∷ zs) (suc n) x y = ap (λ ws. z ∷ ws) (set_again zs n x y)

pub length_set : {A : Type 0} (xs : List A) (n : ℕ) (x : A) → length (slice_set xs n x) ≡ length xs
length_set [] n x = refl
length_set (y ∷ ys) zero x = refl
length_set (y ∷ ys) (suc n) x = let e = length_set ys n x in omega (arith, e)

pub get_append : {A : Type 0} (xs ys : List A) (n : ℕ) (x : A) → slice_get xs n ≡ Some x
    → slice_get (xs ++ ys) n ≡ Some x
get_append [] ys n x is = absurd cc
get_append (z ∷ zs) ys zero x is = is
get_append (z ∷ zs) ys (suc n) x is = get_append zs ys n x is

pub all_at : {A : Type 0} (P : A → Type 0) (xs : List A) (n : ℕ) (x : A) → AllByRecursion P xs → slice_get xs n ≡ Some x
    → P x
all_at P [] n x every is = absurd cc
all_at P (y ∷ ys) zero x every is = let e : y ≡ x = grind arith in subst P e every.0
all_at P (y ∷ ys) (suc n) x every is = all_at P ys n x every.1 is

-- all of a list of that many are this
pub all_are : {A : Type 0} (xs : List A) (n : ℕ) (x : A) → length xs ≡ n → ((k : ℕ) → k < n → slice_get xs k ≡ Some x)
    → xs ≡ replicate n x
all_are [] zero x long each = refl
all_are [] (suc n) x long each = absurd (omega (arith, long))
all_are (y ∷ ys) zero x long each = absurd (omega (arith, long))
all_are (y ∷ ys) (suc n) x long each =
    let first : Some y ≡ Some x = each 0 (omega arith) in
    let e : y ≡ x = grind arith in
    ap (λ z. z ∷ ys) e ∙ ap (λ zs. x ∷ zs) (all_are ys n x (omega (arith, long))
    (λ k lt. each (suc k) (omega (arith, lt))))

pub replicate_more : {A : Type 0} (n : ℕ) (x : A) → replicate n x ++ x ∷ [] ≡ replicate (n + 1) x
replicate_more zero x = refl
replicate_more (suc n) x = let e : suc n + 1 ≡ suc (n + 1) =
    omega arith in ap (λ zs. x ∷ zs) (replicate_more n x) ∙ ap (λ k. replicate k x) (sym e)

-- ---- what is in a slot

if_there_at : {A : Type 0} (o : Option (Option A)) (x : A) → if_there o ≡ Some x → o ≡ Some (Some x)
if_there_at None x is = absurd cc
if_there_at (Some o) x is = ap (λ y. Some y) is

pub there : (slots : OpenSlots) (n : ℕ) (o : Open) → slot_at slots n ≡ Some o → slice_get slots.open.items n ≡ Some (Some o)
there slots n o is = if_there_at (slice_get slots.open.items n) o is

none_there_at : {A : Type 0} (xs : List (Option A)) (n : ℕ) → n < length xs → if_there (slice_get xs n) ≡ None
    → slice_get xs n ≡ Some None
none_there_at [] n lt is = absurd (omega (arith, lt))
none_there_at (x ∷ xs) zero lt is = ap (λ y. Some y) is
none_there_at (x ∷ xs) (suc n) lt is = none_there_at xs n (omega (arith, lt)) is

pub none_there : (slots : OpenSlots) (n : ℕ) → n < length slots.open.items → slot_at slots n ≡ None
    → slice_get slots.open.items n ≡ Some None
none_there slots n lt is = none_there_at slots.open.items n lt is

-- ---- their sessions

seen_slot : (o : Option (Option Open)) → if_open (option_map (option_map session_in) o)
    ≡ option_map session_in (if_there o)
seen_slot None = refl
seen_slot (Some None) = refl
seen_slot (Some (Some o)) = refl

-- the session at a number is that of the storage in its slot
pub session_slot : (image : Image) (app : ℕ) (slots : OpenSlots) (n : ℕ)
    → session_at (resting_with image app slots) n ≡ option_map session_in (slot_at slots n)
session_slot image app slots n = ap if_open (slice_get-map (option_map session_in) slots.open.items n)
    ∙ seen_slot (slice_get slots.open.items n)

-- what is read at the place of a number is in its slot
pub slot_read : (slots : OpenSlots) (n : ℕ) (x : Option Open) → n < length slots.open.items
    → x ≡ slice_index_or slots.open.items n x → slot_at slots n ≡ x
slot_read slots n x lt is = ap if_there (slice_get_read slots.open.items (length slots.open.items) n x refl lt is)

-- and one changed slot changes one session
pub sessions_set : (was is : OpenSlots) (n : ℕ) (x : Option Open) → is.open.items ≡ slice_set was.open.items n x
    → sessions_in is ≡ slice_set (sessions_in was) n (option_map session_in x)
sessions_set was is n x e = ap (map (option_map session_in)) e ∙ map-set (option_map session_in) was.open.items n x

-- a storage that was taken out and put back
pub put_back : (was is : OpenSlots) (n : ℕ) (o : Open) → slot_at was n ≡ Some o
    → is.open.items ≡ slice_set (slice_set was.open.items n None) n (Some o) → is.open.items ≡ was.open.items
put_back was is n o at e = e ∙ set_again was.open.items n None (Some o)
    ∙ set_same was.open.items n (Some o) (there was n o at)

-- ---- the first that is open

pub first_empty : (ss : Sessions) → first_open ss [] ≡ None
first_empty [] = refl
first_empty (s ∷ ss) = refl

-- those below are closed and this one is open
pub first_at : (xs : List (Option Open)) (cs : List StorageData) (n : ℕ) (o : Open) (c : StorageData)
    → ((k : ℕ) → k < n → if_there (slice_get xs k) ≡ None) → if_there (slice_get xs n) ≡ Some o
    → slice_get cs n ≡ Some c
    → first_open (map (option_map session_in) xs) cs ≡ Some c.name
first_at [] cs n o c below is at = absurd cc
first_at (x ∷ xs) [] n o c below is at = absurd cc
first_at (None ∷ xs) (d ∷ ds) zero o c below is at = absurd cc
first_at (Some p ∷ xs) (d ∷ ds) zero o c below is at = let e : d ≡ c =
    grind arith in ap (λ (y : StorageData). Some y.name) e
first_at (None ∷ xs) (d ∷ ds) (suc n) o c below is at =
    first_at xs ds n o c (λ k lt. below (suc k) (omega (arith, lt))) is at
first_at (Some p ∷ xs) (d ∷ ds) (suc n) o c below is at =
    absurd (let none : Some p ≡ None = below 0 (omega arith) in cc)

-- or all are closed
all_closed : (xs : List (Option Open)) (cs : List StorageData)
    → ((k : ℕ) → k < length cs → if_there (slice_get xs k) ≡ None)
    → first_open (map (option_map session_in) xs) cs ≡ None
all_closed [] cs all = refl
all_closed (x ∷ xs) [] all = refl
all_closed (None ∷ xs) (d ∷ ds) all = all_closed xs ds (λ k lt. all (suc k) (omega (arith, lt)))
all_closed (Some p ∷ xs) (d ∷ ds) all = absurd (let none : Some p ≡ None = all 0 (omega arith) in cc)

some_of : {A : Type 0} (o : Option A) → is_some o ≡ true → (x : A) × (o ≡ Some x)
some_of None is = absurd cc
some_of (Some x) is = (x, refl)

-- how the storage of a number is configured
pub config_there : (storages ys : List StorageConfig) (n : ℕ) (s : StorageConfig) → ys ≡ storages → n < length storages
    → s ≡ slice_index_or ys n s
    → slice_get (map storage_data storages) n ≡ Some (storage_data s)
config_there storages ys n s e lt is = slice_get-map storage_data storages n
    ∙ ap (option_map storage_data) (slice_get_read storages (length storages) n s refl lt
    (is ∙ ap (λ (xs : List StorageConfig). slice_index_or xs n s) e))

get_or_again : {A : Type 0} (xs : List A) (n : ℕ) (d : A) → n < length xs
    → slice_index_or xs n d ≡ slice_index_or xs n (slice_index_or xs n d)
get_or_again xs n d lt = sym (get_or_from_slice_get xs n (slice_index_or xs n d) (slice_index_or xs n d)
    (slice_get-get_or xs n d lt))

pub first_taken : (slots : OpenSlots) (storages : List StorageConfig) (n : ℕ) (d : StorageConfig)
    → ((k : ℕ) → k < n → slot_at slots k ≡ None) → is_some (slot_at slots n) ≡ true
    → n < length storages → first_open (sessions_in slots) (map storage_data storages)
    ≡ Some (slice_index_or storages n d).name
first_taken slots storages n d below is lt = let o = some_of (slot_at slots n) is in
    first_at slots.open.items (map storage_data storages) n o.0 (storage_data (slice_index_or storages n d)) below o.1
    (config_there storages storages n (slice_index_or storages n d) refl lt (get_or_again storages n d lt))

pub first_none : (slots : OpenSlots) (storages : List StorageConfig) (n : ℕ) → ((k : ℕ) → k < n → slot_at slots k ≡ None)
    → length storages ≤ n
    → first_open (sessions_in slots) (map storage_data storages) ≡ None
first_none slots storages n below past = all_closed slots.open.items (map storage_data storages)
    (λ k lt. below k (let long = length-map storages storage_data in omega (arith, lt, past, long)))
