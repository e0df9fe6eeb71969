-- A disk at one moment, and what calls do to it.
use Rattle.std.specs.Prelude.{◌≡◌, ◌⊎◌, ℕ, ◌≤◌, Bool, IsTrue}
use Rattle.disk_model.specs.Image.{Image}
use Rattle.disk_model.specs.Case.{Case, IsSettledAt}

-- All that is said of a disk at one moment. A case is one way that a crash may end; moments are numbers, and t is this
-- one or an earlier one.
pub record Medium : Type 1 where
  -- what reads give
  pub image : Image
  -- what a crash now may leave
  pub now : Case → Type 0
  -- the number of this moment, which later moments do not go below
  pub moment : ℕ
  -- what a crash at moment t or later, up to now, might have left
  pub since : ℕ → Case → Type 0
  -- what reads gave at moment t or later, up to now, as the cases then possible that leave it
  pub gave : ℕ → Case → Type 0
  -- what a stop at moment t or later would have left, and what is there now, can be opened again as a disk
  pub opens : ℕ → Type 0
  -- and it goes on taking writes once it is opened: nothing there contradicts itself
  pub agrees : ℕ → Type 0
  -- and in it two copies of a place share nothing that one fault of the device takes away, as far as there was room to
  -- keep them apart
  pub apart : ℕ → Type 0
  -- how many calls have failed, up to the greatest u64
  pub faults : ℕ
  -- how many bytes were written
  pub written : ℕ

-- nothing is pending: a crash now leaves what reads give
abbrev pub Quiet : Medium → Type 0
Quiet m = (c : Case) → m.now c → IsSettledAt m.image c

-- some crash now leaves this image
abbrev pub IsOutcome : Medium → Image → Type 0
IsOutcome m image = (c : Case) × m.now c × (c.left ≡ image)

-- What is so of each disk that meets the model; `told` says whether its bytes are modelled.
pub record IsLawful (told : Bool) (m : Medium) : Type 0 where
  -- this moment is one of those since an earlier one
  pub counts_now : (t : ℕ) (c : Case) → t ≤ m.moment → m.now c → m.since t c
  -- since this moment there is no other
  pub only_now : (c : Case) → m.since m.moment c → m.now c
  -- what reads give is what some crash now leaves
  pub reads_one : IsTrue told → IsOutcome m m.image
  -- a case that leaves what reads give now counts among those that reads gave since an earlier moment, and since this
  -- one no other does
  pub gives : IsTrue told → (c : Case) → m.now c → c.left ≡ m.image → m.gave m.moment c
  pub gave_counts : (t : ℕ) (c : Case) → t ≤ m.moment → m.gave m.moment c → m.gave t c
  pub gives_only : (c : Case) → m.gave m.moment c → m.now c × (c.left ≡ m.image)
  -- what reads gave is what a crash might have left
  pub gave_left : (t : ℕ) (c : Case) → m.gave t c → m.since t c

-- What came since each moment t up to `moment` is what `old` has of it and what came since `moment`, no more and no
-- less (`new t x`: x came at moment t or later).
pub record Grows {X : Type 0} (moment : ℕ) (old new : ℕ → X → Type 0) : Type 0 where
  pub nothing_else : (t : ℕ) (x : X) → t ≤ moment → new t x → old t x ⊎ new moment x
  pub keeps : (t : ℕ) (x : X) → t ≤ moment → old t x → new t x
  pub adds : (t : ℕ) (x : X) → t ≤ moment → new moment x → new t x

-- Time goes on: the cases since t are those from before and those since the start of the call, and so are those that
-- reads gave; what could be opened again at every moment since t can be so at each of the call and at its end; and no
-- count falls.
pub record Elapses (old new : Medium) : Type 0 where
  pub later : old.moment ≤ new.moment
  pub nothing_else : (t : ℕ) (c : Case) → t ≤ old.moment → new.since t c → old.since t c ⊎ new.since old.moment c
  pub keeps : (t : ℕ) (c : Case) → t ≤ old.moment → old.since t c → new.since t c
  pub adds : (t : ℕ) (c : Case) → t ≤ old.moment → new.since old.moment c → new.since t c
  pub gave : Grows old.moment old.gave new.gave
  pub opens : (t : ℕ) → t ≤ old.moment → old.opens t → new.opens t
  pub agrees : (t : ℕ) → t ≤ old.moment → old.agrees t → new.agrees t
  pub apart : (t : ℕ) → t ≤ old.moment → old.apart t → new.apart t
  pub faults : old.faults ≤ new.faults
  pub written : old.written ≤ new.written

-- calls that change no byte, and after which a crash leaves nothing that it would not have left before
pub record OnlyReads (old new : Medium) : Type 0 where
  pub image : new.image ≡ old.image
  pub now : (c : Case) → new.now c → old.now c
  pub during : (c : Case) → new.since old.moment c → old.now c
  pub written : new.written ≡ old.written

-- calls that change no byte, as reads and syncs: a case since their start is one of the start or one of the end
pub record WritesNothing (old new : Medium) : Type 0 where
  pub image : new.image ≡ old.image
  pub during : (c : Case) → new.since old.moment c → old.now c ⊎ new.now c
  pub written : new.written ≡ old.written

-- reads and syncs on a quiet disk: it stays quiet, and each crash meanwhile leaves what reads gave at the start
pub record IsIdle (old new : Medium) : Type 0 where
  pub image : new.image ≡ old.image
  pub quiet : Quiet new
  pub during : (c : Case) → new.since old.moment c → IsSettledAt old.image c
  pub written : new.written ≡ old.written

-- P holds of each case of a crash at any moment of a stretch of calls, by the disk at its start and at its end
abbrev pub EachCase : (P : Case → Type 0) → Medium → Medium → Type 0
EachCase P old new = (c : Case) → new.since old.moment c → P c
