-- A register is opened: what a stop leaves, and at which text it opens.
use Rattle.std.proofs.Common.{◌≡◌, ℕ, ◌+◌, ◌*◌, ◌≤◌, List, Option, Some, None, sym, subst, arith}
use Rattle.std.proofs.Math.Nat.{mul-le-mul_left}
use Rattle.disk_model.specs.Image.{Image}
use Rattle.disk_model.specs.Case.{Case, IsSettledAt}
use Rattle.disk_model.specs.Medium.{Medium, Elapses, IsIdle, EachCase}
use Rattle.disk_model.specs.Laws.{goes_on}
use Rattle.disk_model.specs.declared.place.Place.{Place}
use Rattle.guarded_cell.specs.declared.looking.Seen.{Seen}
use Rattle.guarded_cell.specs.Held.{standing}
use Rattle.guarded_cell.specs.Stops.{PutStops}
use Rattle.guarded_cell.specs.Opens.{StandsAs, OpenStops, OpenStopsAt}
use Rattle.guarded_cell.proofs.Putting.{still_stops}

pub open_still : (place : Place) (m : ℕ) (start : Image) (c : Case) → IsSettledAt start c
    → OpenStops place m start c
open_still place m start c settled = go (standing start place m)
  where
    go : (s : Option Seen) → OpenStopsAt place s start c
    go None = settled
    go (Some seen) = still_stops place seen.generation seen.text start c settled

-- nothing is written until a text is found to stand, and then it is put into every copy
pub open_later : (place : Place) (m : ℕ) (old mid new : Medium) (seen : Seen) → Elapses old mid → Elapses mid new
    → IsIdle old mid
    → standing old.image place m ≡ Some seen
    → EachCase (PutStops place seen.generation seen.text mid.image) mid new
    → EachCase (OpenStops place m old.image) old new
open_later place m old mid new seen time next idle stands put =
    goes_on (OpenStops place m old.image) time next
    (λ c past. open_still place m old.image c (idle.during c past))
    (λ c past. subst (λ (s : Option Seen). OpenStopsAt place s old.image c) (sym stands)
    (subst (λ (im : Image). PutStops place seen.generation seen.text im c) idle.image (put c past)))

pub stands_as : (s : Option Seen) (seen : Seen) (g : ℕ) (t : List ℕ) → s ≡ Some seen → g ≡ seen.generation
    → t ≡ seen.text → StandsAs s g t
stands_as s seen g t is_it counts alike = subst (λ (x : Option Seen). StandsAs x g t) (sym is_it)
    (sym counts, sym alike)

-- ---- the count of bytes

-- a text that can be sealed again is short
pub opened_most : (copies len was mid now : ℕ) → mid ≡ was → len ≤ 524244 → now ≤ mid + copies * (44 + len + 44)
    → now ≤ was + copies * (44 + 524244 + 44)
opened_most copies len was mid now same short written =
    let wider : copies * (44 + len + 44) ≤ copies * (44 + 524244 + 44) =
    mul-le-mul_left copies (omega (arith, short)) in
    omega (arith, same, written, wider)
