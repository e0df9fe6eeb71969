-- Which manifests a root keeps.
use Rattle.std.proofs.Common.{◌≡◌, ℕ, ◌+◌, ◌*◌, ◌<◌, ◌≤◌, [], Option, Some, None, refl, sym, ap, ◌∙◌, arith}
use Rattle.disk_model.specs.Image.{Image}
use Rattle.disk_model.specs.Place.{slot}
use Rattle.disk_model.specs.declared.place.Place.{Place}
use Rattle.guarded_cell.specs.declared.looking.Seen.{Seen}
use Rattle.guarded_cell.specs.Held.{standing}
use Rattle.guarded_cell.specs.Stands.{SameSlots}
use Rattle.element_laws.specs.Phases.{IsOfPlace}
use Rattle.root_text.specs.RootText.{root_of}
use Rattle.root_text.specs.RootText as text
use Rattle.deploy_laws.specs.Apps.{absent, says_at, says_by, says_in}
use Rattle.deploy_laws.specs.Laws.{RootFilesLaw}
use Rattle.deploy_laws.specs.Places.{IsFileOf, first_file, root_place}
use Rattle.deploy_rows.specs.Costs.{manifests_at, manifests_by, manifests_in}
use Rattle.deploy_rows.specs.Laws.{ManifestsFrameLaw, NoManifestsLaw}

stands_so : (image : Image) (app : ℕ) (seen : Option Seen) → standing image (root_place app) 2 ≡ seen
    → manifests_at image app ≡ manifests_in seen
unfolding manifests_at
stands_so image app seen is = ap manifests_in is

-- of guarded_cell
abbrev pub SameStandingLaw : Type 0
SameStandingLaw = (place : Place) (m : ℕ) (old new : Image) → SameSlots place old new
    → standing new place m ≡ standing old place m

slot_inside : RootFilesLaw → (app copy parity : ℕ) → app < 8 → copy < (root_place app).copies → parity < 2
    → IsFileOf app (slot (root_place app) copy parity)
slot_inside files app copy parity lt inside small =
    let of : IsOfPlace (root_place app) (slot (root_place app) copy parity) = record {
      copy = copy;
      kind = parity;
      inside = inside;
      small = omega (arith, small);
      is = refl;
    } in
    let lies = files app (slot (root_place app) copy parity) lt of in
    let below = lies.1 in
    (lies.0, omega (arith, below))

pub same_manifests : RootFilesLaw → SameStandingLaw → ManifestsFrameLaw
same_manifests files same app old new lt spared =
    let slots : SameSlots (root_place app) old new = λ copy parity inside small.
    spared (slot (root_place app) copy parity) (slot_inside files app copy parity lt inside small) in
    stands_so new app (standing old (root_place app) 2) (same (root_place app) 2 old new slots)
    ∙ sym (stands_so old app (standing old (root_place app) 2) refl)

-- ---- a root with no version

absent_by : (h : ℕ) (r : Option text.Root) (g : ℕ) → says_by h r ≡ absent g → manifests_by r ≡ []
absent_by h None g is = absurd cc
absent_by h (Some text.absent) g is = refl
absent_by h (Some (text.installed bank active previous)) g is = absurd cc

absent_in : (seen : Option Seen) (g : ℕ) → says_in seen ≡ absent g → manifests_in seen ≡ []
absent_in None g is = absurd cc
absent_in (Some seen) g is = absent_by seen.generation (root_of seen.text) g is

pub absent_keeps : NoManifestsLaw
unfolding says_at manifests_at
absent_keeps image app g is = absent_in (standing image (root_place app) 2) g is
