-- What a crash leaves of contents that are in blocks which writes leave alone.
use Rattle.std.specs.Prelude.{◌≡◌, ◌⊎◌, ℕ, ◌*◌, ◌<◌, ◌≤◌, List, length, slice_index, Bool, true, Some}
use Rattle.disk_model.specs.Image.{Image}
use Rattle.disk_model.specs.Case.{Case, IsSettledAt}
use Rattle.disk_model.specs.Place.{IsNoArea}
use Rattle.disk_model.specs.Frame.{KeepsCase}
use Rattle.disk_model.specs.declared.place.Place.{Place}
use Rattle.block_files.specs.Areas.{has_all_bytes}
use Rattle.block_files.specs.Contents.{counting}

-- where a content is: its blocks, its length in bytes and its SHA-256
pub record Where : Type 0 where
  pub blocks : List ℕ
  pub len : ℕ
  pub hash : List ℕ

-- a content in one area file, from a start at which nothing was pending, in one case of a crash (base, full, left):
-- where the file had all of its bytes, the crash leaves it as it was; and neither base nor full has bytes with its hash
-- that the start had not
pub record StandsAside (at : Where) (start base full left : List ℕ) : Type 0 where
  pub whole : has_all_bytes start at.blocks at.len ≡ true
      → (counting left at.blocks at.len at.hash ≡ counting start at.blocks at.len at.hash)
      × (has_all_bytes left at.blocks at.len ≡ true)
  pub piece : (bytes : List ℕ)
      → (counting base at.blocks at.len at.hash ≡ Some bytes) ⊎ (counting full at.blocks at.len at.hash ≡ Some bytes)
      → counting start at.blocks at.len at.hash ≡ Some bytes

-- from a start at which nothing was pending, writes to areas of a place that spare the blocks of a set (`taken`) leave
-- every content in these blocks so, whatever file it is in
abbrev pub AsideLaw : Type 0
AsideLaw = (place : Place) (taken : ℕ → Bool) (start : Image) (old new : Case) → IsSettledAt start old
    → KeepsCase (IsNoArea place) (λ k. taken k ≡ true) old new
    → (at : Where) → ((m : ℕ) → m < length at.blocks → taken (slice_index at.blocks m) ≡ true)
    → at.len ≤ 256 * length at.blocks
    → (f : ℕ) → StandsAside at (start f) (new.base f) (new.full f) (new.left f)
