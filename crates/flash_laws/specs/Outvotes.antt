-- What the loss of pages of one block leaves of what was synchronised: each copy but one of a place has its files as
-- they were, so where m copies have to agree the others decide.
use Rattle.std.specs.Prelude.{◌≡◌, ◌≢◌, ◌⊎◌, ◌+◌, ◌*◌, ◌%◌, ◌<◌, ◌≤◌, ℕ, List, Some}
use Rattle.block_files.specs.Contents.{contents, counting}
use Rattle.disk_model.specs.Image.{Image}
use Rattle.disk_model.specs.Place.{area}
use Rattle.disk_model.specs.declared.place.Place.{Place}
use Rattle.flash_model.specs.Pages.{Pages, IsPlain}
use Rattle.flash_model.specs.State.{FlashCase}
use Rattle.flash_model.specs.FlashMedium.{FlashMedium}
use Rattle.flash_disk.specs.Apart.{LosesPages}
use Rattle.flash_disk.specs.FlashFiles.{flash_files}
use Rattle.flash_disk.specs.KeepsApart.{LackedRoom}
use Rattle.guarded_cell.specs.Register.{Holds, IsHeldBy, IsAlone, IsStanding}
use Rattle.m_of_n.specs.Vote.{voted}

-- a place, the files of a thing's copies, as those of roots and storages are: it begins at a multiple of 32 and has at
-- most 8 copies
pub record IsPlaced (place : Place) : Type 0 where
  pub first : place.first % 32 ≡ 0
  pub copies : place.copies ≤ 8

-- all files of all places but those of this copy are as they were
abbrev pub SparesOtherCopies : (lost : ℕ) → (old new : Image) → Type 0
SparesOtherCopies lost old new = (place : Place) (copy k : ℕ) → IsPlaced place → copy < place.copies → copy ≢ lost
    → k < 4 → new (place.first + 4 * copy + k) ≡ old (place.first + 4 * copy + k)

-- each copy gives this content, of this length and hash, from these blocks of its area file
abbrev pub GiveAll : Image → Place → (blocks : List ℕ) → (len : ℕ) → (hash content : List ℕ) → Type 0
GiveAll image place blocks len hash content = (copy : ℕ) → copy < place.copies
    → counting (image (area place copy)) blocks len hash ≡ Some content

-- The files of the copy `lost` may be anything, and all others are as they were. Where m copies have to agree, at least
-- 2 and fewer than there are, a text that each copy holds alone stands, and m copies hold no other; and a content that
-- each copy gives is the vote. Where one copy is enough, the text needs that no copy gives one of a greater generation,
-- as of a bank (one of an application's two sets of storages) that was made again from generation 1, and no other
-- stands unless it has the same one; and the content needs that no copy gives another under its hash.
pub record Outvotes (old new : Image) : Type 0 where
  pub lost : ℕ
  pub spares : SparesOtherCopies lost old new
  pub text : (m generation : ℕ) (text : List ℕ) (place : Place) → IsPlaced place → 2 ≤ m → m < place.copies
      → IsAlone old place generation text → IsStanding new place m generation text
  pub only : (m generation g : ℕ) (text t : List ℕ) (place : Place) → IsPlaced place → 2 ≤ m
      → IsAlone old place generation text → IsHeldBy new place m g t → (g ≡ generation) × (t ≡ text)
  pub content : (m len : ℕ) (blocks hash content : List ℕ) (place : Place) → IsPlaced place → 2 ≤ m
      → m < place.copies → GiveAll old place blocks len hash content
      → voted m (contents place blocks len hash new) ≡ Some content
  pub text_of_one : (generation : ℕ) (text : List ℕ) (place : Place) → IsPlaced place → 1 < place.copies
      → IsAlone old place generation text
      → ((copy g : ℕ) (t : List ℕ) → copy < place.copies → Holds new place copy g t → g ≤ generation)
      → IsStanding new place 1 generation text
  pub only_of_one : (generation g : ℕ) (text t : List ℕ) (place : Place) → IsPlaced place → 1 < place.copies
      → IsAlone old place generation text
      → ((copy h : ℕ) (u : List ℕ) → copy < place.copies → Holds new place copy h u
      → (h < generation) ⊎ ((h ≡ generation) × (u ≡ text)))
      → IsStanding new place 1 g t → (g ≡ generation) × (t ≡ text)
  pub content_of_one : (len : ℕ) (blocks hash content : List ℕ) (place : Place) → IsPlaced place → 1 < place.copies
      → GiveAll old place blocks len hash content
      → ((copy : ℕ) (other : List ℕ) → copy < place.copies
      → counting (new (area place copy)) blocks len hash ≡ Some other → other ≡ content)
      → voted 1 (contents place blocks len hash new) ≡ Some content

-- ---- from a moment on

-- whatever pages of one block are lost of these the copies outvote, or at some moment there was no room for one that
-- was written
abbrev pub OutlastsLoss : FlashMedium → ℕ → Pages → Type 0
OutlastsLoss m t pages = (block : ℕ) (new : Pages) → LosesPages block pages new
    → Outvotes (flash_files pages m.blocks) (flash_files new m.blocks) ⊎ LackedRoom m t

-- the loss of the pages of one block is outlasted by what a flash holds now, and by what a crash at any moment since
-- this one leaves, if no page passes its hash by chance
pub record OutlastsSince (m : FlashMedium) (t : ℕ) : Type 0 where
  pub now : OutlastsLoss m t m.state.pages
  pub during : (c : FlashCase) → m.since t c → IsPlain c.before c.whole c.left → OutlastsLoss m t c.left
