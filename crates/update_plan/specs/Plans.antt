-- The plan of an update: what each storage of the new version has, or the first refusal.
use denote.Ref.{Bor}
use Rattle.std.specs.Prelude.{◌≡◌, ◌≤◌, ℕ, List, [], ◌∷◌, length, map, filter_map, find, cond, nat_lt, Bool, true, ◌≢◌}
use Rattle.std.specs.Prelude.{false, Option, Some, None, Result, Ok, Err, IsTrue, sum_by, ⊤}
use Rattle.std.specs.List.{AllByRecursion}
use Rattle.std.specs.List.Sorted.{IsStrictlySortedBy}
use Rattle.std.specs.Str.{bytes_eq}
use Rattle.per_base.specs.declared.elements.Content.{Content}
use Rattle.per_base.specs.declared.elements.Content.TheVariants.{Good, Bad}
use Rattle.per_base.specs.declared.elements.Entry.{Entry}
use Rattle.per_base.specs.declared.elements.Fresh.{Fresh}
use Rattle.per_base.specs.declared.elements.StoreKind.{StoreKind}
use Rattle.per_base.specs.declared.elements.StoreKind.TheVariants.{Keys, Files}
use Rattle.per_base.specs.declared.errors.Limit.TheVariants as limit
use Rattle.per_base.specs.declared.errors.PerError.{PerError}
use Rattle.per_base.specs.declared.errors.PerError.TheVariants.{IntegrityCorrupted, LimitReached, OutOfStorageSpace}
use Rattle.per_base.specs.declared.errors.PerError.TheVariants.{OutOfMemory}
use Rattle.per_base.specs.declared.errors.Unit.TheVariants.{Whole}
use Rattle.per_base.specs.Names.{name_cmp}
use Rattle.index_text.specs.Rules.{has_info, max_len}
use Rattle.deployment_model.specs.Data.{DeploymentData, StorageData}
use Rattle.deployment_model.specs.Lookups.{element_named, storage_named}
use Rattle.migrate_fns.specs.Rules.{Rule, Answers}
use Rattle.update_plan.specs.declared.contents.Stored.{Stored}
use Rattle.update_plan.specs.declared.contents.StorageContents.{StorageContents}
use Rattle.update_plan.specs.declared.contents.StorageContents.TheVariants.{Missing, Damaged, Present}
use Rattle.update_plan.specs.Fates.{Becomes, fate, refusal}
use Rattle.index_text.specs.Contents.{AreContents, fresh_size}

-- ---- what is stored

-- the bytes of a readable content are no more than an element of its kind may have
abbrev pub IsSmall : StoreKind → Content → Type 0
IsSmall kind (Good bytes) = length bytes ≤ max_len kind
IsSmall kind (Bad salvage) = ⊤

-- an element as a storage of this kind is read: an info exactly for a file, and no content that is too long
pub record IsStoredEntry (kind : StoreKind) (e : Entry) : Type 0 where
  pub info : IsTrue (has_info kind e.info)
  pub small : IsSmall kind e.content

-- as a storage of this kind is read: names that ascend, and an info exactly for files
pub record AreStored (kind : StoreKind) (es : List Entry) : Type 0 where
  pub names_ascend : IsStrictlySortedBy name_cmp (map (λ (e : Entry). e.name) es)
  pub each : AllByRecursion (IsStoredEntry kind) es

-- what is there of a storage of this kind: nothing, damage, or its elements as they are read
abbrev pub ArePresent : StoreKind → StorageContents → Type 0
ArePresent kind Missing = ⊤
ArePresent kind Damaged = ⊤
ArePresent kind (Present es) = AreStored kind es

-- where the old version has this storage, the contents are as one of its kind is read
abbrev pub AreContentsOf : Option StorageData → StorageContents → Type 0
AreContentsOf None contents = ⊤
AreContentsOf (Some s) contents = ArePresent s.kind contents

-- where the old version has a storage of this name, what is stored is as one of its kind is read
abbrev pub IsStoredOf : DeploymentData → Stored → Type 0
IsStoredOf old x = AreContentsOf (storage_named old x.name) x.contents

-- where nothing is handed over the storage is missing
abbrev pub or_missing : Option (Bor StorageContents) → StorageContents
or_missing None = Missing
or_missing (Some contents) = contents.now

-- what was found to be stored of a storage; where nothing was, it is missing
abbrev pub contents_in : Option Stored → StorageContents
contents_in None = Missing
contents_in (Some x) = x.contents

-- what is stored of the storage of this name; of two with one name the first counts
abbrev pub contents_named : List Stored → List ℕ → StorageContents
contents_named contents name = contents_in (find (λ (x : Stored). bytes_eq x.name name) contents)

-- whether two kinds are the same
abbrev pub is_kind : StoreKind → StoreKind → Bool
is_kind Keys Keys = true
is_kind Keys Files = false
is_kind Files Keys = false
is_kind Files Files = true

-- these contents, where the old storage has this kind, and else none: the storage is missing
abbrev pub if_kind : StoreKind → Option StorageData → StorageContents → StorageContents
if_kind kind None contents = Missing
if_kind kind (Some s) contents = cond (is_kind s.kind kind) contents Missing

-- what a storage of the new version starts from, by the old version and all that is stored: what is stored of the
-- storage of the same name and kind
abbrev pub stored_for : DeploymentData → List Stored → StorageData → StorageContents
stored_for old contents s = if_kind s.kind (storage_named old s.name) (contents_named contents s.name)

-- ---- one storage

-- the first of the stored elements with this name
abbrev pub entry_named : List Entry → List ℕ → Option Entry
entry_named es name = find (λ (e : Entry). bytes_eq e.name name) es

-- the first of the elements that are to be written with this name
abbrev pub fresh_named : List Fresh → List ℕ → Option Fresh
fresh_named xs name = find (λ (x : Fresh). bytes_eq x.name name) xs

-- `new` is what the storage `s` has after an update at the moment `now` over the stored elements `old`: names that
-- ascend, and each name has what the update makes of it, where the converters answer as `answers` allows
pub record Updated (rules : List Rule) (answers : Answers) (now : ℕ) (s : StorageData) (old : List Entry)
    (new : List Fresh) : Type 0 where
  pub names_ascend : IsStrictlySortedBy name_cmp (map (λ (x : Fresh). x.name) new)
  pub each : (name : List ℕ) → Becomes answers name (fate rules now s name (element_named s name)
      (entry_named old name)) (fresh_named new name)

-- the first of a list, if there is one
abbrev pub first_or_none : {A : Type 0} → List A → Option A
first_or_none [] = None
first_or_none (x ∷ xs) = Some x

-- why the update at the moment `now` cannot keep a stored element, where it is to be kept and cannot be
abbrev pub entry_refusal : List Rule → ℕ → StorageData → Entry → Option PerError
entry_refusal rules now s e = refusal (fate rules now s e.name (element_named s e.name) (Some e))

-- of the stored elements, in their order, that are to be kept and cannot be, the first
abbrev pub first_refusal : List Rule → ℕ → StorageData → List Entry → Option PerError
first_refusal rules now s old = first_or_none (filter_map (entry_refusal rules now s) old)

-- these elements; or the refusal of more than 1,024 of them, and then of names and contents that are together more
-- bytes than the maximum
abbrev pub within_limits : ℕ → List Fresh → Result (List Fresh) PerError
within_limits maximum new = cond (nat_lt 1024 (length new)) (Err (LimitReached limit.Elements))
    (cond (nat_lt maximum (sum_by fresh_size new)) (Err (OutOfStorageSpace (sum_by fresh_size new) maximum)) (Ok new))

-- the plan over these stored elements: this refusal, or what the storage has after the update, if within its limits
abbrev pub PlansOver : List Rule → Answers → ℕ → StorageData → List Entry → Option PerError
    → Result (List Fresh) PerError → Type 0
PlansOver rules answers now s old (Some e) plan = plan ≡ Err e
PlansOver rules answers now s old None plan = (new : List Fresh) × Updated rules answers now s old new
    × (plan ≡ within_limits s.maximum new)

-- the plan of one storage, by what is stored of it: nothing, damage (the plan is refused then), or these elements
abbrev pub PlansFor : List Rule → Answers → ℕ → StorageData → StorageContents → Result (List Fresh) PerError → Type 0
PlansFor rules answers now s Missing plan = PlansOver rules answers now s [] None plan
PlansFor rules answers now s Damaged plan = plan ≡ Err (IntegrityCorrupted (Whole s.name))
PlansFor rules answers now s (Present old) plan = PlansOver rules answers now s old (first_refusal rules now s old) plan

-- ---- all storages

-- an item in front of the others, where these are no refusal
abbrev pub with_first : {A : Type 0} → A → Result (List A) PerError → Result (List A) PerError
with_first x (Ok xs) = Ok (x ∷ xs)
with_first x (Err e) = Err e

-- a plan of one storage, and then of the others: the first refusal ends it
abbrev pub Continues : Result (List Fresh) PerError → (Result (List (List Fresh)) PerError → Type 0)
    → Result (List (List Fresh)) PerError → Type 0
Continues (Err e) others plan = plan ≡ Err e
Continues (Ok new) others plan = (rest : Result (List (List Fresh)) PerError) × others rest
    × (plan ≡ with_first new rest)

-- the plan of all storages, in their order, by what is stored for each: what each has after the update, or the first
-- refusal
abbrev pub PlansAll : List Rule → Answers → ℕ → (StorageData → StorageContents) → List StorageData
    → Result (List (List Fresh)) PerError → Type 0
PlansAll rules answers now stored [] plan = plan ≡ Ok []
PlansAll rules answers now stored (s ∷ ss) plan = (first : Result (List Fresh) PerError)
    × PlansFor rules answers now s (stored s) first × Continues first (PlansAll rules answers now stored ss) plan

-- there is a list of contents for each storage, which can be stored in it: names that ascend, at most 1,024 elements of
-- its kind, and no more bytes than its maximum
abbrev pub AllFit : List StorageData → List (List Fresh) → Type 0
AllFit [] [] = ⊤
AllFit [] (x ∷ xs) = ⊥
AllFit (s ∷ ss) [] = ⊥
AllFit (s ∷ ss) (x ∷ xs) = AreContents s.kind s.maximum x × AllFit ss xs

-- ---- what a call answers, where memory did not run out

-- a result passes the test, or it is the error OutOfMemory
abbrev pub UnlessOutOfMemory : {A : Type 0} → Result A PerError → (Result A PerError → Type 0) → Type 0
UnlessOutOfMemory (Ok x) P = P (Ok x)
UnlessOutOfMemory (Err e) P = e ≢ OutOfMemory → P (Err e)
