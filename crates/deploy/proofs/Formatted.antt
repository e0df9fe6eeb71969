-- Roots that are formatted, one application after another.
use Rattle.std.proofs.Common.{◌≡◌, ℕ, ◌+◌, ◌<◌, ◌≤◌, List, [], ◌∷◌, Bool, true, length, refl, sym, ap, ◌∙◌, subst}
use Rattle.std.proofs.Common.{⊎_elim, inl, inr, arith}
use Rattle.std.specs.Prelude.{IsTrue, nat_le}
use Rattle.std.proofs.lemmas.Bool.{cases_eq, cases_lt}
use Rattle.disk_model.specs.Frame.{IsSettledOn, Spares}
use Rattle.disk_model.specs.Image.{Image}
use Rattle.disk_model.specs.Laws.{goes_on, goes_none}
use Rattle.disk_model.specs.Medium.{EachCase, Elapses, IsLawful, Medium, Quiet}
use Rattle.disk_model.specs.Place.{IsNoSlot}
use Rattle.disk_model.specs.lemmas.Frames.{settled_before, settled_less, settled_on}
use Rattle.disk_model.specs.declared.place.Place.{Place}
use Rattle.guarded_cell.specs.declared.cell.Cell.{Cell}
use Rattle.guarded_cell.specs.declared.looking.Seen.{Seen}
use Rattle.guarded_cell.specs.Cells.{CellAt, IsCellOf}
use Rattle.guarded_cell.specs.Held.{copies_that, held, lacking}
use Rattle.guarded_cell.specs.Register.{IsAlone}
use Rattle.guarded_cell.specs.Stops.{FormatStops}
use Rattle.element_laws.specs.Phases.{IsOfPlace}
use Rattle.root_text.specs.RootText.{absent, root_text}
use Rattle.deploy_laws.specs.Apps.{IsCleanApp, app_at, root_sole, shapes_named}
use Rattle.deploy_laws.specs.Laws.{AloneCleanLaw, AloneFrameLaw, AloneLaw, RootFilesLaw, RootSlotsLaw}
use Rattle.deploy_laws.specs.Places.{IsNoRootFile, first_file, root_place}
use Rattle.deploy_rows.specs.Rows.{empty_app}
use Rattle.deploy.specs.Clauses.{IsNoRootSlot, Leaves}
use Rattle.deploy.proofs.InUse.{AgainLaw, cell_alone, held_app}

-- the root of this application says that nothing is installed, under generation 1
abbrev pub IsEmptyRoot : Image → ℕ → Type 0
IsEmptyRoot image app = IsAlone image (root_place app) 1 (root_text absent)

-- the files that are no root's slots
abbrev pub IsNoRoot : ℕ → Type 0
IsNoRoot file = (app : ℕ) → app < 8 → IsNoRootSlot app file

-- ---- one root

pub formatted : (image : Image) (app : ℕ) (cell : Cell) → IsCellOf (root_place app) 1 cell
    → CellAt image cell (root_text absent) → IsEmptyRoot image app
formatted image app cell is at = subst (λ (g : ℕ). IsAlone image (root_place app) g (root_text absent))
    is.counts
    (cell_alone image app cell (root_text absent) is.lies at)

-- ---- and the others

module _ (files : RootFilesLaw) (slots : RootSlotsLaw) (frame : AloneFrameLaw) (app : ℕ) (lt : app < 8)
    (old new : Image)
    (spared : Spares (IsNoSlot (root_place app)) old new) where
  apart : (other f : ℕ) → ¬ (other ≡ app) → (first_file other ≤ f) × (f < first_file other + 12) → IsNoRootFile app f
  apart other f differs of = ⊎_elim
      (λ below. inl (omega (arith, below, of.1)))
      (λ above. inr (omega (arith, above, differs, of.0)))
      (cases_lt other app)

  other_spared : (other : ℕ) → other < 8 → ¬ (other ≡ app) → Spares (IsOfPlace (root_place other)) old new
  other_spared other small differs f of = spared f (slots app f lt (apart other f differs (files other f small of)))

  pub one_more : (n : ℕ) → n ≡ app → ((other : ℕ) → other < n → IsEmptyRoot old other) → IsEmptyRoot new app
      → (other : ℕ) → other < n + 1 → IsEmptyRoot new other
  one_more n at were it other small = ⊎_elim
      (λ (same : other ≡ app). subst (λ (a : ℕ). IsEmptyRoot new a) (sym same) it)
      (λ (differs : ¬ (other ≡ app)). frame other 1 (root_text absent) old new
      (other_spared other (omega (arith, small, at, lt)) differs)
      (were other (below other differs small)))
      (cases_eq other app)
    where
      below : (other : ℕ) → ¬ (other ≡ app) → other < n + 1 → other < n
      below other differs small = omega (arith, differs, small, at)

-- ---- every moment

pub none_left : (told : Bool) (m : Medium) → IsLawful told m → Leaves told IsNoRoot m m
none_left told m law = record {
  at_the_end = λ tells f no. refl;
  throughout = λ tells quiet. goes_none (IsSettledOn IsNoRoot m.image) law
      (λ c now. settled_on IsNoRoot (quiet c now));
}

pub one_left : (told : Bool) (app : ℕ) → app < 8 → (old mid new : Medium) → Elapses old mid → Elapses mid new
    → Leaves told IsNoRoot old mid → (Quiet old → Quiet mid)
    → (IsTrue told → Spares (IsNoSlot (root_place app)) mid.image new.image)
    → (IsTrue told → Quiet mid → EachCase (FormatStops (root_place app) 1
    (root_text absent) mid.image) mid new)
    → Leaves told IsNoRoot old new
one_left told app lt old mid new first next were still spared stops = record {
  at_the_end = λ tells f no. spared tells f (no app lt) ∙ were.at_the_end tells f no;
  throughout = λ tells quiet. goes_on (IsSettledOn IsNoRoot old.image) first next (were.throughout tells quiet)
      (λ c past. settled_before (were.at_the_end tells)
      (settled_less (λ f no. no app lt)
      (stops tells (still quiet) c past).elsewhere));
}

-- ---- what the image says

-- of guarded_cell
abbrev pub HeldAloneLaw : Type 0
HeldAloneLaw = (image : Image) (place : Place) (g : ℕ) (text : List ℕ) → IsAlone image place g text
    → (held image place ≡ record { generation = g; text = text; copies = copies_that (λ c. true) place.copies } ∷ [])
    × (lacking image place g text ≡ [])

module _ (image : Image) (app : ℕ) (empty : IsEmptyRoot image app) where
  pub empty_is : (again : AgainLaw) (alone : AloneLaw) → app_at image app ≡ empty_app 1
  unfolding shapes_named
  empty_is again alone = held_app again alone image app 1 absent tt empty

  pub empty_settled : (held_alone : HeldAloneLaw) → IsTrue (root_sole image app)
  empty_settled held_alone = ap (λ (seens : List Seen). nat_le (length seens) 1)
      (held_alone image (root_place app) 1 (root_text absent) empty).0

  pub empty_clean : (again : AgainLaw) (clean : AloneCleanLaw) → IsCleanApp app image
  unfolding shapes_named
  empty_clean again clean = clean app 1 (root_text absent) absent image empty (again absent tt) tt
