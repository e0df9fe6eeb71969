-- What a call on the storage leaves of the total.
use Rattle.std.proofs.Common.{◌≡◌, ◌⊎◌, ◌<◌, ◌^◌, inl, inr, ℕ, Bool, List, ap, arith, subst}
use Rattle.std.specs.Prelude.{IfErr, IfSome, IsErrAnd, IsSomeAnd, OnErr, OnOk, Option, Some, None, Result, Ok, Err}
use Rattle.per_base.specs.Causes.{Rose}
use Rattle.per_base.specs.declared.errors.PerError.{PerError}
use Rattle.per_base.specs.declared.errors.PerError.TheVariants.{PhysicalStorageFailure}
use Rattle.disk_model.specs.Image.{Image}
use Rattle.disk_model.specs.Medium.{Medium, Quiet}
use Rattle.value_model.specs.Kinds.{Kind, four, unsigned_kind}
use Rattle.value_model.specs.Trees.{Tree, unsigned_tree}
use Rattle.value_model.specs.Validity.{IsValue}
use Rattle.kvs_core.specs.Calls.{set_value}
use Rattle.kvs_store.specs.Storages.{KvsSession, showing}
use Rattle.kvs_store.specs.Synced.{IsSynced}
use Rattle.kvs_laws.specs.Values.{HasValue}
use Rattle.per_embed.specs.Owned.{IsOpenOn, KeepsEachSynced, KeepsValues, OwnedKeys, ReadsSynced, asked_of}
use Rattle.odometer.specs.declared.odometers.TheConstants.{KEY}
use Rattle.odometer.specs.Odometers.{HasTotal, ReadsTotal, TotalThroughout, kilometres, the_total}

-- ---- how a call ended

pub on_err : {A E : Type 0} (result : Result A E) (P : Type 0) → P → OnErr result P
on_err (Ok answer) P holds = tt
on_err (Err error) P holds = holds

pub on_ok : {A E : Type 0} (result : Result A E) (P Q : Type 0) → (P → Q) → OnOk result P → OnOk result Q
on_ok (Ok answer) P Q step holds = step holds
on_ok (Err error) P Q step holds = tt

pub none_ok : {A E : Type 0} (result : Result A E) (e : E) → IsErrAnd result (λ x. x ≡ e) → (P : Type 0)
    → OnOk result P
none_ok (Ok answer) e is P = absurd is
none_ok (Err error) e is P = tt

pub passed_on : {A E : Type 0} (result : Result A E) (e : E) → IsErrAnd result (λ x. x ≡ e) → result ≡ Err e
passed_on (Ok answer) e is = absurd is
passed_on {A} {E} (Err error) e is = ap (λ (x : E). Err x) is

-- ---- a total

-- a number is a value
pub number_is_value : (tree : ℕ → Tree) (total : ℕ) → tree ≡ unsigned_tree four → total < 2 ^ 32 → IsValue (tree total)
number_is_value tree total of_tree small =
    let value : IsValue (unsigned_tree four total) = record {
      typed = tt;
      in_range = small;
      shallow = omega arith;
      short = omega arith;
    } in
    rw of_tree value

-- what is synchronised reads so
pub total_reads : (storage : Option KvsSession) (total : ℕ) (image : Image) → IfSome storage (HasTotal total)
    → IfSome storage (λ kvs. ReadsSynced kvs image) → IfSome storage (λ kvs. ReadsTotal kvs total image)
total_reads None total image has reads = tt
total_reads (Some kvs) total image has reads = reads KEY.now (unsigned_kind four) (kilometres total) has

pub total_quiet : (told : Bool) (storage : Option KvsSession) (m : Medium) → IfSome storage (IsOpenOn told m)
    → IfSome storage (λ _. Quiet m)
total_quiet told None m is = tt
total_quiet told (Some kvs) m is = is.quiet

-- while the disk is not called, the total stands
before_of : {A B : Type 0} → A ⊎ A → A ⊎ B
before_of h = elim h [ inl x ↦ inl x | inr x ↦ inl x ]

pub total_stands : (storage : Option KvsSession) (before after : ℕ) (old new : Medium) → new ≡ old
    → IfSome storage (HasTotal before) → IfSome storage (λ kvs. KeepsEachSynced kvs old)
    → TotalThroughout storage before after old new
total_stands None before after old new same has keeps = tt
total_stands (Some kvs) before after old new same has keeps = λ clean c since sound damaged image decays enough.
    let here = rw same at since in
    before_of (keeps KEY.now (unsigned_kind four) (kilometres before) has clean c here sound damaged image decays enough)

-- ---- a set, and the sync after it

-- a set that is done changes what the calls see alone
abbrev pub ShowsElse : (before shown : Option KvsSession) → Type 0
ShowsElse before shown = IsSomeAnd before (λ kvs. IsSomeAnd shown (λ later. later ≡ showing kvs later.session.visible))

pub shows_else : (before shown : Option KvsSession) (name : List ℕ) (tree : ℕ → Tree) (total : ℕ)
    → tree ≡ unsigned_tree four
    → IsSomeAnd before (λ kvs. IsSomeAnd shown (λ later.
    set_value kvs.config kvs.session.visible name (tree total) ≡ Ok later.session.visible))
    → IfSome before (λ kvs. IsSomeAnd shown (λ later. later ≡ showing kvs later.session.visible))
    → ShowsElse before shown
shows_else None shown name tree total of_tree ok beside = absurd ok
shows_else (Some kvs) shown name tree total of_tree ok beside = beside

pub total_kept : (before shown : Option KvsSession) (total : ℕ) → ShowsElse before shown
    → IfSome before (HasTotal total) → IfSome shown (HasTotal total)
total_kept None shown total beside has = absurd beside
total_kept (Some kvs) None total beside has = absurd beside
total_kept (Some kvs) (Some later) total beside has =
    let config : later.config ≡ kvs.config = ap (λ (k : KvsSession). k.config) beside in
    let synced : later.session.synced ≡ kvs.session.synced = ap (λ (k : KvsSession). k.session.synced) beside in
    rw (config, synced) has

-- a failure of the disk is one of an open storage
pub failed_open : (before shown : Option KvsSession) (old mid new : Medium) → ShowsElse before shown → mid ≡ old
    → IfSome shown (λ _. Rose mid.faults new.faults) → IfSome before (λ _. Rose old.faults new.faults)
failed_open None shown old mid new beside same rose = tt
failed_open (Some kvs) None old mid new beside same rose = absurd beside
failed_open (Some kvs) (Some later) old mid new beside same rose = rw same at rose

-- what is shown becomes what is synchronised
pub total_saved : (told : Bool) (shown later : Option KvsSession) (old new : Medium) (name : List ℕ) (kind : Kind)
    (tree : ℕ → Tree) (total : ℕ) → kind ≡ unsigned_kind four → tree ≡ unsigned_tree four → name ≡ KEY.now
    → IsSomeAnd shown (λ kvs. HasValue (asked_of kvs name kind) kvs.session.visible (tree total))
    → IsSomeAnd shown (λ kvs. IsSomeAnd later (λ after. IsSynced told kvs after old new))
    → IfSome later (HasTotal total)
total_saved told None later old new name kind tree total of_kind of_tree named has synced = absurd has
total_saved told (Some kvs) None old new name kind tree total of_kind of_tree named has synced = absurd synced
total_saved told (Some kvs) (Some after) old new name kind tree total of_kind of_tree named has synced =
    let config : after.config ≡ kvs.config = ap (λ (k : KvsSession). k.config) synced.session in
    let stored : after.session.synced ≡ kvs.session.visible = ap (λ (k : KvsSession). k.session.synced) synced.session
    in
    let here : HasValue (the_total kvs) kvs.session.visible (kilometres total) = rw (of_kind, of_tree, named) at has in
    rw (config, stored) here

-- a sync that is refused leaves what was synchronised
pub total_left : {A D : Type 0} (before : Option KvsSession) (mid new : OwnedKeys D) (result : Result A PerError)
    → ((total : ℕ) → IfSome before (HasTotal total) → IfSome mid.kvs (HasTotal total))
    → IfErr result (λ error. ((error ≡ PhysicalStorageFailure) × (new.kvs ≡ None)) ⊎ (new ≡ mid))
    → OnErr result ((total : ℕ) → IfSome before (HasTotal total) → IfSome new.kvs (HasTotal total))
total_left before mid new (Ok answer) kept left = tt
total_left before mid new (Err error) kept left = λ total has.
    elim left [ inl closed ↦ rw closed.1 tt | inr same ↦ rw same (kept total has) ]

-- a sync of what is shown leaves one total or the other
pub total_throughout : (before shown : Option KvsSession) (old mid new : Medium) (name : List ℕ) (kind : Kind)
    (tree : ℕ → Tree) (was total : ℕ) → kind ≡ unsigned_kind four → tree ≡ unsigned_tree four → name ≡ KEY.now
    → ShowsElse before shown
    → IsSomeAnd shown (λ kvs. HasValue (asked_of kvs name kind) kvs.session.visible (tree total))
    → IfSome before (HasTotal was) → mid ≡ old → IfSome shown (λ kvs. KeepsValues kvs mid new)
    → TotalThroughout before was total old new
total_throughout None shown old mid new name kind tree was total of_kind of_tree named beside has had same keeps = tt
total_throughout (Some kvs) None old mid new name kind tree was total of_kind of_tree named beside has had same keeps =
    absurd beside
total_throughout (Some kvs) (Some later) old mid new name kind tree was total of_kind of_tree named beside has had same
    keeps =
    let config : later.config ≡ kvs.config = ap (λ (k : KvsSession). k.config) beside in
    let shows : HasValue (the_total kvs) later.session.visible (kilometres total) =
    rw (of_kind, of_tree, named, config) at has in
    let shown : KeepsValues (showing kvs later.session.visible) mid new =
    subst (λ (k : KvsSession). KeepsValues k mid new) beside keeps in
    let kept : KeepsValues (showing kvs later.session.visible) old new =
    subst (λ (m : Medium). KeepsValues (showing kvs later.session.visible) m new) same shown in
    kept KEY.now (unsigned_kind four) (kilometres was) (kilometres total) had shows
