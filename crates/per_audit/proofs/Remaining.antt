-- What is left to be added, while storages and applications are gone through one after another; and what looks leave of
-- a disk.
use Rattle.std.proofs.Common.{◌≡◌, ℕ, zero, suc, ◌+◌, ◌-◌, ◌<◌, ◌≤◌, List, [], ◌∷◌, ◌++◌, map, length, get_or, drop}
use Rattle.std.proofs.Common.{Bool, true, false, refl, sym, ap, ◌∙◌, ◌⊎◌, subst, inl, inr, ⊎_elim, arith, true≢false}
use Rattle.std.specs.Prelude.{Result, Ok, Err, IfOk, OnErr, OnOk, is_err}
use Rattle.std.specs.List.{AllByRecursion, flat_map, range_with_len}
use Rattle.std.proofs.lemmas.List.{append-nil, append_assoc, drop_all, drop_more}
use Rattle.disk_model.specs.Image.{Image}
use Rattle.disk_model.specs.Case.{IsSettledAt}
use Rattle.disk_model.specs.Laws.{cases_on, elapses_none, elapses_on, idle_none, idle_on}
use Rattle.disk_model.specs.Medium.{EachCase, Elapses, IsIdle, IsLawful, Medium, Quiet, WritesNothing}
use Rattle.deployment_model.specs.Conditions.{IsStorage}
use Rattle.deployment_model.specs.Data.{StorageData, storage_data}
use Rattle.deployment_model.specs.declared.configs.StorageConfig.{StorageConfig}
use Rattle.element_state.specs.States.{State, store_at}
use Rattle.deploy_laws.specs.Places.{storage_shape}
use Rattle.deploy_laws.specs.Apps.{app_at, root_sole}
use Rattle.per_audit.specs.Audits.{elements_at, elements_of, findings_at, findings_of, listed_of, of_storage}
use Rattle.per_audit.specs.Noted.{AddsNotes, over_storages}
use Rattle.per_audit.specs.declared.findings.Finding.{Finding}
use Rattle.per_audit.specs.declared.findings.Listed.{Listed}
use Rattle.per_audit.specs.declared.noting.Notes.{Notes}

-- ---- storages of a version

-- what is there and what the storages from a number on come to is what was there at first and what all of them come to
abbrev pub Left : {A : Type 0} → (ℕ → StorageData → State → List A) → Image → (app bank number : ℕ) → List StorageConfig
    → (start now : List A) → Type 0
Left f image app bank number storages start now =
    now ++ over_storages f image app bank number (map storage_data (drop number storages))
    ≡ start ++ over_storages f image app bank 0 (map storage_data storages)

module _ {A : Type 0} (f : ℕ → StorageData → State → List A) (image : Image) (app bank : ℕ)
    (storages : List StorageConfig) (start : List A) where
  left_more : (number : ℕ) (x : StorageConfig) (now new : List A) → number < length storages
      → x ≡ get_or storages number x
      → Left f image app bank number storages start now
      → new ≡ now ++ f bank (storage_data x) (store_at image (storage_shape app bank number (storage_data x)))
      → Left f image app bank (number + 1) storages start new
  left_more number x now new lt is left added =
      let here = f bank (storage_data x) (store_at image (storage_shape app bank number (storage_data x))) in
      let later = drop (number + 1) storages in
      let rest = over_storages f image app bank (suc number) (map storage_data later) in
      let next : number + 1 ≡ suc number = omega arith in
      let step : drop number storages ≡ x ∷ later = drop_more storages number x lt
      ∙ ap (λ (y : StorageConfig). y ∷ later) (sym is) in
      ap (λ n. new ++ over_storages f image app bank n (map storage_data later)) next
      ∙ ap (λ (xs : List A). xs ++ rest) added
      ∙ append_assoc now here rest
      ∙ sym (ap (λ (ys : List StorageConfig). now ++ over_storages f image app bank number (map storage_data ys)) step)
      ∙ left

  left_all : (number : ℕ) (now : List A) → length storages ≤ number → Left f image app bank number storages start now
      → now ≡ start ++ over_storages f image app bank 0 (map storage_data storages)
  left_all number now past left =
      sym (append-nil now)
      ∙ sym (ap (λ (ys : List StorageConfig). now ++ over_storages f image app bank number (map storage_data ys))
      (drop_all number storages past))
      ∙ left

pub record AreLeft (image : Image) (app bank number : ℕ) (storages : List StorageConfig) (start now : Notes) : Type 0
  where
    pub elements : Left (listed_of app) image app bank number storages start.elements.items now.elements.items
    pub findings : Left (of_storage app) image app bank number storages start.findings.items now.findings.items

module _ (image : Image) (app bank : ℕ) (storages : List StorageConfig) (start : Notes) where
  pub are_left_more : (number : ℕ) (x : StorageConfig) (now new : Notes) → number < length storages
      → x ≡ get_or storages number x
      → AreLeft image app bank number storages start now
      → AddsNotes (listed_of app bank (storage_data x) (store_at image
      (storage_shape app bank number (storage_data x))))
      (of_storage app bank (storage_data x) (store_at image (storage_shape app bank number (storage_data x)))) now new
      → AreLeft image app bank (number + 1) storages start new
  are_left_more number x now new lt is left adds = record {
    elements = left_more (listed_of app) image app bank storages start.elements.items number x now.elements.items
        new.elements.items lt is left.elements adds.elements_are;
    findings = left_more (of_storage app) image app bank storages start.findings.items number x now.findings.items
        new.findings.items lt is left.findings adds.findings_are;
  }

  pub none_are_left : (number : ℕ) (now : Notes) → length storages ≤ number
      → AreLeft image app bank number storages start now
      → AddsNotes (over_storages (listed_of app) image app bank 0 (map storage_data storages))
      (over_storages (of_storage app) image app bank 0 (map storage_data storages)) start now
  none_are_left number now past left = record {
    elements_are = left_all (listed_of app) image app bank storages start.elements.items number now.elements.items past
        left.elements;
    findings_are = left_all (of_storage app) image app bank storages start.findings.items number now.findings.items past
        left.findings;
  }

-- each storage of a deployment keeps what storages keep
pub storage_keeps : (ds : List StorageConfig) (k : ℕ) (x : StorageConfig)
    → AllByRecursion IsStorage (map storage_data ds) → k < length ds → x ≡ get_or ds k x
    → IsStorage (storage_data x)
storage_keeps [] k x all lt is = absurd (omega (arith, lt))
storage_keeps (d ∷ ds) zero x all lt is = subst (λ (y : StorageConfig). IsStorage (storage_data y)) (sym is) all.0
storage_keeps (d ∷ ds) (suc k) x all lt is = storage_keeps ds k x all.1 (omega (arith, lt)) is

pub as_many : (ds : List StorageConfig) → length (map storage_data ds) ≡ length ds
as_many [] = refl
as_many (d ∷ ds) = ap suc (as_many ds)

-- there are at most sixteen
pub few_storages : (ds : List StorageConfig) → length (map storage_data ds) ≤ 16 → length ds ≤ 16
few_storages ds few = let same = as_many ds in omega (arith, few, same)

-- ---- applications

abbrev pub app_elements_at : Image → ℕ → List Listed
app_elements_at image app = elements_of app (app_at image app)

abbrev pub app_findings_at : Image → ℕ → List Finding
app_findings_at image app = findings_of app (root_sole image app) (app_at image app)

pub elements_whole : (image : Image) → flat_map (app_elements_at image) (range_with_len 0 8) ≡ elements_at image
unfolding elements_at
elements_whole image = refl

pub findings_whole : (image : Image) → flat_map (app_findings_at image) (range_with_len 0 8) ≡ findings_at image
unfolding findings_at
findings_whole image = refl

-- what is there and what the applications from one on come to is what all of them come to
abbrev pub AppsLeft : {A : Type 0} → (ℕ → List A) → (app : ℕ) → (now : List A) → Type 0
AppsLeft f app now = now ++ flat_map f (range_with_len app (8 - app)) ≡ flat_map f (range_with_len 0 8)

apps_more : {A : Type 0} (f : ℕ → List A) (app : ℕ) (now new : List A) → app < 8 → AppsLeft f app now
    → new ≡ now ++ f app → AppsLeft f (app + 1) new
apps_more {A} f app now new lt left added =
    let rest = flat_map f (range_with_len (app + 1) (8 - (app + 1))) in
    let one : 8 - app ≡ suc (8 - (app + 1)) = omega (arith, lt) in
    ap (λ (xs : List A). xs ++ rest) added
    ∙ append_assoc now (f app) rest
    ∙ sym (ap (λ n. now ++ flat_map f (range_with_len app n)) one)
    ∙ left

pub apps_more_at : {A : Type 0} (f : Image → ℕ → List A) (old mid : Image) (app : ℕ) (now new : List A) → app < 8
    → mid ≡ old → AppsLeft (f old) app now
    → new ≡ now ++ f mid app → AppsLeft (f old) (app + 1) new
apps_more_at f old mid app now new lt same left added =
    apps_more (f old) app now new lt left (added ∙ ap (λ (im : Image). now ++ f im app) same)

pub apps_all : {A : Type 0} (f : ℕ → List A) (app : ℕ) (now : List A) → 8 ≤ app → AppsLeft f app now
    → now ≡ flat_map f (range_with_len 0 8)
apps_all f app now past left =
    let none : 8 - app ≡ 0 = omega (arith, past) in
    sym (append-nil now) ∙ sym (ap (λ n. now ++ flat_map f (range_with_len app n)) none) ∙ left

-- ---- the disk

-- looks that all succeeded
pub record IsSeen (old new : Medium) : Type 0 where
  pub image : new.image ≡ old.image
  pub idle : Quiet old → IsIdle old new
  pub written : new.written ≡ old.written
  pub passes : new.faults ≡ old.faults
  pub time : Elapses old new

pub none_seen : {told : Bool} {m : Medium} → IsLawful told m → IsSeen m m
none_seen law = record {
  image = refl;
  idle = λ quiet. idle_none law quiet;
  written = refl;
  passes = refl;
  time =
      elapses_none law;
}

pub seen_on : {a b c : Medium} → IsSeen a b → IsSeen b c → IsSeen a c
seen_on first next = record {
  image = next.image ∙ first.image;
  idle = λ quiet. let was = first.idle quiet in idle_on first.time was next.time (next.idle was.quiet);
  written = next.written ∙ first.written;
  passes = next.passes ∙ first.passes;
  time = elapses_on first.time next.time;
}

-- after a sync that succeeded: a crash leaves what reads give, or what one before the sync might have left
pub seen_behind : {old mid new : Medium} → Elapses old mid → WritesNothing old mid → Quiet mid → Elapses mid new
    → (Quiet mid → IsIdle mid new) → EachCase (λ c. old.now c ⊎ IsSettledAt old.image c) old new
seen_behind time nothing quiet later idle c s = ⊎_elim
    (λ first. ⊎_elim (λ was. inl was) (λ now. inr (subst (λ (i : Image). IsSettledAt i c) nothing.image (quiet c now)))
    (nothing.during c first))
    (λ at. inr (subst (λ (i : Image). IsSettledAt i c) nothing.image ((idle quiet).during c at)))
    (cases_on time later c s)

-- ---- a result that was tested

pub on_err : {T E P : Type 0} → (r : Result T E) → is_err r ≡ true → OnErr r P → P
on_err (Ok x) is p = absurd (true≢false (sym is))
on_err (Err e) is p = p

pub on_ok : {T E P : Type 0} → (r : Result T E) → is_err r ≡ false → OnOk r P → P
on_ok (Ok x) is p = p
on_ok (Err e) is p = absurd (true≢false is)

-- what is so of each audit over an image
pub on_image : {X : Type 0} (of : Image → X) (old mid : Image) (x : X) → mid ≡ old → x ≡ of mid → x ≡ of old
on_image of old mid x same is = is ∙ ap of same

pub each_on_image : {T E X : Type 0} (of : Image → X) (part : T → X) (old mid : Image) (r : Result T E) → mid ≡ old
    → IfOk r (λ t. part t ≡ of mid) → IfOk r (λ t. part t ≡ of old)
each_on_image of part old mid (Ok t) same is = on_image of old mid (part t) same is
each_on_image of part old mid (Err e) same is = tt

pub passes_on : {T E : Type 0} (r : Result T E) (a b c : ℕ) → b ≡ a → OnOk r (c ≡ b) → OnOk r (c ≡ a)
passes_on (Ok t) a b c first is = is ∙ first
passes_on (Err e) a b c first is = tt
