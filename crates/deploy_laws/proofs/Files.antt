-- Which files the places of an application have: its root, its banks and the storages in them are apart.
use Rattle.std.proofs.Common.{◌≡◌, ℕ, suc, ◌+◌, ◌<◌, ◌≤◌, List, [], ◌∷◌, ◌++◌, length, None, Some, inl, inr, ⊎_elim}
use Rattle.std.proofs.Common.{arith}
use Rattle.std.specs.List.{AllByRecursion}
use Rattle.std.proofs.lemmas.Bool.{cases_lt}
use Rattle.disk_model.specs.Image.{Image}
use Rattle.disk_model.specs.Case.{Case}
use Rattle.disk_model.specs.Frame.{Spares, IsSettledOn}
use Rattle.disk_model.specs.Place.{IsNoSlot, IsOutside}
use Rattle.disk_model.specs.lemmas.Frames.{settled_less}
use Rattle.deployment_model.specs.Data.{StorageData}
use Rattle.deployment_model.specs.Conditions.{IsStorage}
use Rattle.element_state.specs.declared.shapes.Shape.{Shape}
use Rattle.element_laws.specs.Phases.{IsOfPlace}
use Rattle.deploy_laws.specs.Places.{Named, root_place, first_file, storage_file, storage_shape, shapes_from, shapes_in}
use Rattle.deploy_laws.specs.Places.{IsFileOf, IsNoFileOf, IsNoRootFile, IsBeside, IsOutsideBank}
use Rattle.deploy_laws.specs.Apps.{Says, nothing, absent, installed, shapes_named, IsInBank, AreVersions, IsFree}

-- ---- lists of storages

-- at least one copy must agree
abbrev pub IsFit : Shape → Type 0
IsFit shape = 1 ≤ shape.m

-- in a case their files are settled
abbrev pub AreUntouched : Image → Case → List Shape → Type 0
AreUntouched start c shapes = AllByRecursion (λ shape. IsSettledOn (IsOfPlace shape.place) start c) shapes

-- their files hold what they held
abbrev pub AreSpared : Image → Image → List Shape → Type 0
AreSpared old new shapes = AllByRecursion (λ shape. Spares (IsOfPlace shape.place) old new) shapes

-- ---- the root

pub root_files : (app f : ℕ) → app < 8 → IsOfPlace (root_place app) f → (first_file app ≤ f) × (f < first_file app + 12)
root_files app f lt of = let inside = of.inside in let small = of.small in let is = of.is in
    (omega (arith, lt, inside, small, is), omega (arith, lt, inside, small, is))

pub root_own : (app f : ℕ) → app < 8 → IsOfPlace (root_place app) f → IsFileOf app f
root_own app f lt of = let files = root_files app f lt of in let below = files.1 in (files.0, omega (arith, below))

pub root_outside : (app bank f : ℕ) → app < 8 → IsOfPlace (root_place app) f → IsOutsideBank app bank f
root_outside app bank f lt of = let files = root_files app f lt of in let below = files.1 in inl (omega (arith, below))

pub root_beside : (app bank number f : ℕ) → app < 8 → IsOfPlace (root_place app) f → IsBeside app bank number f
root_beside app bank number f lt of = let files = root_files app f lt of in let below =
    files.1 in inl (omega (arith, below))

pub root_no_slot : (app f : ℕ) → app < 8 → IsNoRootFile app f → IsNoSlot (root_place app) f
root_no_slot app f lt aside copy parity ltc ltp e = ⊎_elim (λ below. absurd (omega (arith, lt, below, ltc, ltp, e)))
    (λ above. absurd (omega (arith, lt, above, ltc, ltp, e))) aside

-- ---- a storage

module _ (app bank number : ℕ) (s : StorageData) (lt : app < 8) (ltb : bank ≤ 1) (ltn : number < 16) where
  pub storage_files : (f : ℕ) → IsOfPlace (storage_shape app bank number s).place f
      → (storage_file app bank number ≤ f) × (f < storage_file app bank number + 32)
  unfolding storage_shape
  storage_files f of = let inside = of.inside in let small = of.small in let is = of.is in
      (omega (arith, lt, ltb, ltn, inside, small, is), omega (arith, lt, ltb, ltn, inside, small, is))

  pub storage_own : (f : ℕ) → IsOfPlace (storage_shape app bank number s).place f → IsFileOf app f
  storage_own f of = let files = storage_files f of in let low = files.0 in let high = files.1 in
      (omega (arith, low), omega (arith, ltb, ltn, high))

  pub storage_outside : (other f : ℕ) → other ≤ 1 → ¬ (bank ≡ other)
      → IsOfPlace (storage_shape app bank number s).place f
      → IsOutsideBank app other f
  storage_outside other f lto differs of = let files = storage_files f of in let low = files.0 in let high =
      files.1 in ⊎_elim
      (λ below. inr (omega (arith, low, ltb, lto, below)))
      (λ above. ⊎_elim (λ over. inl (omega (arith, high, ltn, lto, over)))
      (λ not_over. absurd (differs (omega (arith, above, not_over)))) (cases_lt bank other))
      (cases_lt other bank)

  pub storage_beside : (other_bank other f : ℕ) → other_bank ≤ 1 → other < 16 → (bank ≡ other_bank → number ≡ other → ⊥)
      → IsOfPlace (storage_shape app bank number s).place f
      → IsBeside app other_bank other f
  storage_beside other_bank other f lto ltm differs of = let files = storage_files f of in let low =
      files.0 in let high = files.1 in
      ⊎_elim
      (λ below. inr (omega (arith, low, ltb, lto, ltm, below)))
      (λ above. ⊎_elim
      (λ over. inl (omega (arith, high, ltn, lto, over)))
      (λ not_over. let same : bank ≡ other_bank = omega (arith, above, not_over) in ⊎_elim
      (λ less. inr (omega (arith, low, same, less)))
      (λ least. ⊎_elim (λ more. inl (omega (arith, high, same, more)))
      (λ most. absurd (differs same (omega (arith, least, most)))) (cases_lt number other))
      (cases_lt other number))
      (cases_lt bank other_bank))
      (cases_lt other_bank bank)

  pub storage_no_slot : (f : ℕ) → IsOfPlace (storage_shape app bank number s).place f → IsNoSlot (root_place app) f
  storage_no_slot f of copy parity ltc ltp e = let files = storage_files f of in let low =
      files.0 in absurd (omega (arith, lt, low, ltc, ltp, e))

  pub storage_no_root : (f : ℕ) → IsOfPlace (storage_shape app bank number s).place f → IsNoRootFile app f
  storage_no_root f of = let low = (storage_files f of).0 in inr (omega (arith, low))

  pub beside_outside : (f : ℕ) → IsBeside app bank number f
      → IsOutside (storage_shape app bank number s).place f
  beside_outside f beside copy k ltc ltk e =
      let files = storage_files f (record { copy = copy; kind = k; inside = ltc; small = ltk; is = e }) in
      let low = files.0 in
      let high = files.1 in
      ⊎_elim (λ below. absurd (omega (arith, low, below))) (λ above. absurd (omega (arith, high, above))) beside

  pub storage_fit : IsStorage s → IsFit (storage_shape app bank number s)
  unfolding storage_shape
  storage_fit keeps = keeps.some_agree

-- ---- the storages of a version, and all that a root names

module _ (app bank : ℕ) (P : Shape → Type 0) (each : (number : ℕ) (s : StorageData) → number < 16 → IsStorage s
    → P (storage_shape app bank number s)) where
  pub all_from : (number : ℕ) (ss : List StorageData) → number + length ss ≤ 16 → AllByRecursion IsStorage ss
      → AllByRecursion P (shapes_from app bank number ss)
  all_from number [] le keeps = tt
  all_from number (s ∷ ss) le keeps = (
    each number s (omega (arith, le)) keeps.0,
    all_from (suc number) ss (omega (arith, le)) keeps.1,
  )

pub all_in : (app : ℕ) (v : Named) (P : Shape → Type 0) → IsInBank v
    → ((number : ℕ) (s : StorageData) → number < 16 → IsStorage s → P (storage_shape app v.bank number s))
    → AllByRecursion P (shapes_in app v)
all_in app v P is each = let keeps = is.keeps in let few = keeps.few in
    all_from app v.bank P each 0 v.deployment.storages (omega (arith, few)) keeps.each

pub joined : (P : Shape → Type 0) (xs ys : List Shape) → AllByRecursion P xs → AllByRecursion P ys
    → AllByRecursion P (xs ++ ys)
joined P [] ys h k = k
joined P (x ∷ xs) ys h k = (h.0, joined P xs ys h.1 k)

module _ (app : ℕ) (P : Shape → Type 0) where
  pub all_named : ((bank number : ℕ) (s : StorageData) → bank ≤ 1 → number < 16 → IsStorage s
      → P (storage_shape app bank number s))
      → (says : Says) → AreVersions says → AllByRecursion P (shapes_named app says)
  unfolding shapes_named
  all_named each nothing is = tt
  all_named each (absent g) is = tt
  all_named each (installed g active None) is = joined P (shapes_in app active) []
      (all_in app active P is (λ number s ltn keeps. each active.bank number s is.in_bank ltn keeps)) tt
  all_named each (installed g active (Some previous)) is = let a = is.of_active in let p = is.of_previous in
      joined P (shapes_in app active) (shapes_in app previous)
      (all_in app active P a (λ number s ltn keeps. each active.bank number s a.in_bank ltn keeps))
      (all_in app previous P p (λ number s ltn keeps. each previous.bank number s p.in_bank ltn keeps))

  -- none is in this bank
  pub all_apart : (other : ℕ) → ((bank number : ℕ) (s : StorageData) → bank ≤ 1 → ¬ (bank ≡ other) → number < 16
      → IsStorage s → P (storage_shape app bank number s))
      → (says : Says) → AreVersions says → IsFree other says → AllByRecursion P (shapes_named app says)
  unfolding shapes_named
  all_apart other each nothing is free = tt
  all_apart other each (absent g) is free = tt
  all_apart other each (installed g active None) is free =
      joined P (shapes_in app active) [] (all_in app active P is
      (λ number s ltn keeps. each active.bank number s is.in_bank free ltn keeps)) tt
  all_apart other each (installed g active (Some previous)) is free = let a = is.of_active in let p = is.of_previous in
      joined P (shapes_in app active) (shapes_in app previous)
      (all_in app active P a (λ number s ltn keeps. each active.bank number s a.in_bank free.0 ltn keeps))
      (all_in app previous P p (λ number s ltn keeps. each previous.bank number s p.in_bank free.1 ltn keeps))

module _ (app : ℕ) (lt : app < 8) (says : Says) (versions : AreVersions says) where
  pub all_fit : AllByRecursion IsFit (shapes_named app says)
  all_fit = all_named app IsFit (λ bank number s ltb ltn keeps. storage_fit app bank number s lt ltb ltn keeps) says
      versions

  -- where the files of the application are settled, or hold what they held, so are those of each storage
  pub own_untouched : (start : Image) (c : Case) → IsSettledOn (IsFileOf app) start c
      → AreUntouched start c (shapes_named app says)
  own_untouched start c settled = all_named app (λ shape. IsSettledOn (IsOfPlace shape.place) start c)
      (λ bank number s ltb ltn keeps. settled_less (λ f of. storage_own app bank number s lt ltb ltn f of) settled) says
      versions

  pub own_spared : (old new : Image) → Spares (IsFileOf app) old new → AreSpared old new (shapes_named app says)
  own_spared old new spared = all_named app (λ shape. Spares (IsOfPlace shape.place) old new)
      (λ bank number s ltb ltn keeps f of. spared f (storage_own app bank number s lt ltb ltn f of)) says versions

  -- the same of all files but the slots of the root
  pub beside_untouched : (start : Image) (c : Case) → IsSettledOn (IsNoSlot (root_place app)) start c
      → AreUntouched start c (shapes_named app says)
  beside_untouched start c settled = all_named app (λ shape. IsSettledOn (IsOfPlace shape.place) start c)
      (λ bank number s ltb ltn keeps. settled_less (λ f of. storage_no_slot app bank number s lt ltb ltn f of) settled)
      says versions

  pub root_spared : (old new : Image) → Spares (IsNoRootFile app) old new → AreSpared old new (shapes_named app says)
  root_spared old new spared = all_named app (λ shape. Spares (IsOfPlace shape.place) old new)
      (λ bank number s ltb ltn keeps f of. spared f (storage_no_root app bank number s lt ltb ltn f of)) says versions

  -- and of all files but those of a bank in which none is
  module _ (other : ℕ) (le : other ≤ 1) (free : IsFree other says) where
    pub apart_untouched : (start : Image) (c : Case) → IsSettledOn (IsOutsideBank app other) start c
        → AreUntouched start c (shapes_named app says)
    apart_untouched start c settled = all_apart app (λ shape. IsSettledOn (IsOfPlace shape.place) start c) other
        (λ bank number s ltb differs ltn keeps. settled_less
        (λ f of. storage_outside app bank number s lt ltb ltn other f le differs of) settled) says versions free

    pub apart_spared : (old new : Image) → Spares (IsOutsideBank app other) old new
        → AreSpared old new (shapes_named app says)
    apart_spared old new spared = all_apart app (λ shape. Spares (IsOfPlace shape.place) old new) other
        (λ bank number s ltb differs ltn keeps f of. spared f
        (storage_outside app bank number s lt ltb ltn other f le differs of)) says versions free

-- ---- applications apart

pub other_file : (one other f : ℕ) → ¬ (one ≡ other) → IsFileOf other f → IsNoFileOf one f
other_file one other f differs is = let low = is.0 in let high = is.1 in ⊎_elim
    (λ below. inr (omega (arith, low, high, below)))
    (λ above. ⊎_elim (λ over. inl (omega (arith, low, high, over)))
    (λ not_over. absurd (differs (omega (arith, above, not_over)))) (cases_lt other one))
    (cases_lt one other)

pub others_settled : (one other : ℕ) (start : Image) (c : Case) → ¬ (one ≡ other) → IsSettledOn (IsNoFileOf one) start c
    → IsSettledOn (IsFileOf other) start c
others_settled one other start c differs settled = settled_less (λ f is. other_file one other f differs is) settled
