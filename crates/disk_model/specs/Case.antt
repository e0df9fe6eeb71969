-- What a crash may leave: cases, and how writes and syncs lead from case to case.
use Rattle.std.specs.Prelude.{◌≡◌, ◌⊎◌, ℕ, List, length}
use Rattle.disk_model.specs.Image.{Image, put_image, TornImage}

-- One case of a crash, which is one way that it may end: three images.
pub record Case : Type 0 where
  -- what reads gave after the last sync
  pub base : Image
  -- what they would give had each write since then been done whole
  pub full : Image
  -- what the crash leaves
  pub left : Image

-- nothing is pending: the crash leaves this image, which is what all three are
pub record IsSettledAt (image : Image) (c : Case) : Type 0 where
  pub base : c.base ≡ image
  pub full : c.full ≡ image
  pub left : c.left ≡ image

-- a write of these bytes into a file from the byte `at` on, from the case before it to the case after it: done whole in
-- `full`, and cut short anywhere, or nowhere, in `left`
pub record WriteCase (file at : ℕ) (bytes : List ℕ) (old new : Case) : Type 0 where
  pub base : new.base ≡ old.base
  pub full : new.full ≡ put_image old.full file at bytes
  pub left : TornImage file at (length bytes) old.left new.left

-- a write that failed or is under way, with the same arguments: as a write, or left out
abbrev pub WriteOrNot : ℕ → ℕ → List ℕ → Case → Case → Type 0
WriteOrNot file at bytes old new = WriteCase file at bytes old new ⊎ (new ≡ old)

-- what a crash may leave after a call, by what it might leave before: each new case comes from an old one by this step
abbrev pub Follows : (step : Case → Case → Type 0) → (Case → Type 0) → (Case → Type 0) → Type 0
Follows step old new = (c : Case) → new c → (d : Case) × old d × step d c

-- each case to which this step leads from an old one is a new one
abbrev pub Reaches : (step : Case → Case → Type 0) → (Case → Type 0) → (Case → Type 0) → Type 0
Reaches step old new = (d c : Case) → old d → step d c → new c

-- this case comes by the step from one of a disk that read as the image and had nothing pending
abbrev pub FromSettled : (step : Case → Case → Type 0) → Image → Case → Type 0
FromSettled step image c = (d : Case) × IsSettledAt image d × step d c
