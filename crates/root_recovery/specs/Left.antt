-- What a recovery takes, in words of what the copies of a root hold. Copies are counted from 0, but from 1 in lists.
use Rattle.std.specs.Prelude.{◌≡◌, ℕ, ◌<◌, ◌≤◌, List, length, Some}
use Rattle.disk_model.specs.Image.{Image}
use Rattle.guarded_cell.specs.Held.{copies_that, holds}
use Rattle.guarded_cell.specs.Register.{Holds}
use Rattle.root_text.specs.RootText.{Root, root_of}
use Rattle.deploy_laws.specs.Places.{root_place, copies_of_root}
use Rattle.deploy_laws.specs.Apps.{nothing, says_at}
use Rattle.root_recovery.specs.Recoveries.{RootRow, reads, none_left, takes}

-- a copy holds, under this generation, a text that says a root
pub record HoldsRoot (image : Image) (app copy generation : ℕ) (text : List ℕ) : Type 0 where
  pub inside : copy < copies_of_root
  pub held : Holds image (root_place app) copy generation text
  pub root : Root
  pub said : root_of text ≡ Some root

-- the root says nothing, and no copy holds one
pub record NoneIsLeft (image : Image) (app : ℕ) : Type 0 where
  pub nothing_said : says_at image app ≡ nothing
  pub none : (copy generation : ℕ) (text : List ℕ) → ¬ (HoldsRoot image app copy generation text)

-- the root says nothing, and this one is left of it, which these copies hold
pub record IsRootLeft (image : Image) (app generation : ℕ) (root : Root) (copies : List ℕ) : Type 0 where
  pub nothing_said : says_at image app ≡ nothing
  pub text : List ℕ
  pub said : root_of text ≡ Some root
  pub copies_are : copies ≡ copies_that (λ copy. holds image (root_place app) copy (generation, text)) 3
  pub some : 1 ≤ length copies
  -- no copy holds a root of a greater generation
  pub greatest : (copy h : ℕ) (other : List ℕ) → HoldsRoot image app copy h other → h ≤ generation
  -- of the roots of this generation it has the lowest copy
  pub lowest : (copy : ℕ) (other : List ℕ) → HoldsRoot image app copy generation other → ¬ (other ≡ text)
      → (lower : ℕ) × (lower < copy) × Holds image (root_place app) lower generation text

-- the row says of this root what is so: it reads, nothing is left of it, or this is
abbrev pub IsRowOf : Image → ℕ → RootRow → Type 0
IsRowOf image app reads = ¬ (says_at image app ≡ nothing)
IsRowOf image app none_left = NoneIsLeft image app
IsRowOf image app (takes g root copies) = IsRootLeft image app g root copies

-- the row of each application of every image is the right one
abbrev pub RowLaw : (Image → ℕ → RootRow) → Type 0
RowLaw row = (image : Image) (app : ℕ) → IsRowOf image app (row image app)
