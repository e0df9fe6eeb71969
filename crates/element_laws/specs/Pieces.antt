-- Undamaged copies, counted by pieces: of each element by its own blocks, and of the index apart. Damage made `image`
-- of `left`, which is what a stop left. `before` is the state before the call in progress, `after` the one after it.
use Rattle.std.specs.Prelude.{◌≡◌, ◌≢◌, ◌⊎◌, ℕ, ◌+◌, ◌<◌, ◌≤◌, List, [], ◌∷◌, true, Some, ⊤}
use Rattle.std.specs.List.{AllZip, Contains}
use Rattle.per_base.specs.declared.elements.Scope.TheVariants as scope
use Rattle.per_base.specs.declared.elements.Entry.{Entry}
use Rattle.per_base.specs.declared.elements.Content.TheVariants.{Good}
use Rattle.disk_model.specs.declared.place.Place.{Place}
use Rattle.disk_model.specs.Image.{Image}
use Rattle.disk_model.specs.Case.{Case}
use Rattle.disk_model.specs.Damage.{DecaysFor, IsSoundFor, IsUndamaged, AtLeast}
use Rattle.disk_model.specs.Place.{area}
use Rattle.guarded_cell.specs.Register.{Holds}
use Rattle.block_files.specs.Aside.{Where}
use Rattle.index_text.specs.declared.entries.IndexEntry.{IndexEntry}
use Rattle.element_state.specs.declared.shapes.Shape.{Shape}
use Rattle.element_state.specs.declared.shapes.View.{View}
use Rattle.element_state.specs.Fit.{FitText}
use Rattle.element_state.specs.Views.{entry_view, view_of}
use Rattle.element_state.specs.States.{State, Opens, Corrupt, store_at}
use Rattle.element_state.specs.Clean.{where_of, counting_at, IsNamed, IsPiece, IsClean}
use Rattle.element_state.specs.Chosen.{chosen}
use Rattle.element_state.specs.Kept.{SameHeadings, HasEnough, Kept, IsKeptCase}

-- ---- what damage spares

-- the texts of a copy: it holds each that it held
abbrev pub SparesTexts : Place → (left image : Image) → (copy : ℕ) → Type 0
SparesTexts place left image copy = (generation : ℕ) (text : List ℕ) → Holds left place copy generation text
    → Holds image place copy generation text

-- a content in a copy: its blocks, if they had the hash, hold the same bytes
abbrev pub SparesContent : Place → (left image : Image) → Where → (copy : ℕ) → Type 0
SparesContent place left image at copy = (bytes : List ℕ) → counting_at left place copy at ≡ Some bytes
    → counting_at image place copy at ≡ Some bytes

-- the storage in a copy: its texts, and with storage scope also each content that an index names
abbrev pub SparesStorage : Shape → (left image : Image) → (copy : ℕ) → Type 0
SparesStorage shape left image copy = SparesTexts shape.place left image copy
    × (shape.scope ≡ scope.Storage → (at : Where) → IsNamed shape.place left at
    → SparesContent shape.place left image at copy)

-- in as many copies as must agree the storage is spared, and they are not among those, counted from 1, that lacked it
abbrev pub HasEnoughStorage : Shape → (left image : Image) → (lacking : List ℕ) → Type 0
HasEnoughStorage shape left image lacking = AtLeast (λ copy. SparesStorage shape left image copy
    × ¬ (Contains lacking (copy + 1))) shape.place.copies shape.m

-- so it is with the content of an element
abbrev pub HasEnoughContent : Shape → (left image : Image) → Where → (lacking : List ℕ) → Type 0
HasEnoughContent shape left image at lacking = AtLeast (λ copy. SparesContent shape.place left image at copy
    × ¬ (Contains lacking (copy + 1))) shape.place.copies shape.m

-- ---- what is left

-- an element of a view, beside its entry in the index on the image: if it was good, and its content is left in enough
-- copies, it reads as the same value; with storage scope the copies of the storage are enough
abbrev pub KeepsElement : Shape → (left image : Image) → IndexEntry → Entry → Type 0
KeepsElement shape left image e f = (value : List ℕ) → f.content ≡ Good value
    → (shape.scope ≡ scope.Storage) ⊎ HasEnoughContent shape left image (where_of e) f.lacking
    → (entry_view image shape.place shape.m e).content ≡ Good value

-- the storage opens on the image at this text, which has the headings of the view, and its elements are kept
pub record OpensAs (shape : Shape) (left image : Image) (text : FitText) (there : View) : Type 0 where
  pub opens : chosen image shape ≡ Some (true, text)
  pub same : SameHeadings (view_of image shape text) there
  pub good : AllZip (KeepsElement shape left image) text.1.entries there.entries

-- it reads as the view of a state that opens
abbrev pub OpensAsAfter : Shape → (left image : Image) → FitText → (after : State) → Type 0
OpensAsAfter shape left image text (Opens v others) = OpensAs shape left image text v
OpensAsAfter shape left image text (Corrupt salvage others) = ⊥

-- with enough copies left of a storage that opens, it opens, at the view before or at the one after; one that was
-- corrupt opens at most at the one after
abbrev pub StaysByPieces : Shape → (left image : Image) → (before after : State) → Type 0
StaysByPieces shape left image (Opens v others) after = HasEnoughStorage shape left image v.lacking
    → (text : FitText) × (OpensAs shape left image text v ⊎ OpensAsAfter shape left image text after)
StaysByPieces shape left image (Corrupt salvage others) after = (text : FitText)
    → chosen image shape ≡ Some (true, text) → OpensAsAfter shape left image text after

-- ---- the laws

-- the view after, if it has other headings, is the younger one: its generation is greater
abbrev pub IsYounger : (before after : State) → Type 0
IsYounger (Opens v others) (Opens w rest) = ¬ (SameHeadings w v) → v.generation < w.generation
IsYounger (Opens v others) (Corrupt salvage rest) = ⊤
IsYounger (Corrupt salvage others) after = ⊤

-- what is kept whatever files are damaged, and its place clean, is kept by pieces
abbrev pub PiecesLaw : Type 0
PiecesLaw = (shape : Shape) (before after : State) (damaged : List ℕ) (left image : Image) → 1 ≤ shape.m
    → IsYounger before after
    → ((files : List ℕ) (other : Image) → DecaysFor (IsPiece shape.place) files left other
    → Kept shape files (store_at other shape) before after × IsClean shape other)
    → DecaysFor (IsPiece shape.place) damaged left image → StaysByPieces shape left image before after

-- a stop in a case that keeps a storage, and damage after it, keep it by pieces
abbrev pub PiecesCaseLaw : Type 0
PiecesCaseLaw = (shape : Shape) (start : Image) (after : State) (c : Case) (damaged : List ℕ) (image : Image)
    → 1 ≤ shape.m → IsYounger (store_at start shape) after → IsKeptCase shape start after c
    → IsSoundFor (IsPiece shape.place) c → DecaysFor (IsPiece shape.place) damaged c.left image
    → StaysByPieces shape c.left image (store_at start shape) after

-- a copy of which no file is damaged is spared, in its texts and in every content
abbrev pub FilesLaw : Type 0
FilesLaw = (place : Place) (damaged : List ℕ) (left image : Image) (copy : ℕ)
    → DecaysFor (IsPiece place) damaged left image → IsUndamaged damaged place copy
    → SparesTexts place left image copy × ((at : Where) → SparesContent place left image at copy)

-- ---- from what a stop left

-- If the storage opens after the stop, and the damage spares enough copies of the view at which it does, it opens
-- still: with enough copies before, at the view before or at the one after.
abbrev pub StaysOnward : Shape → (left image : Image) → (before after : State) → Type 0
StaysOnward shape left image (Opens v others) after = HasEnough shape [] v.lacking → (w : View) (rest : List View)
    → store_at left shape ≡ Opens w rest → HasEnoughStorage shape left image w.lacking
    → (text : FitText) × (OpensAs shape left image text v ⊎ OpensAsAfter shape left image text after)
StaysOnward shape left image (Corrupt salvage others) after = (w : View) (rest : List View)
    → store_at left shape ≡ Opens w rest → HasEnoughStorage shape left image w.lacking
    → (text : FitText) × OpensAsAfter shape left image text after

-- what a stop alone keeps is kept so by damage after it
abbrev pub OnwardLaw : Type 0
OnwardLaw = (shape : Shape) (before after : State) (damaged : List ℕ) (left image : Image) → 1 ≤ shape.m
    → IsClean shape left → Kept shape [] (store_at left shape) before after
    → DecaysFor (IsPiece shape.place) damaged left image → StaysOnward shape left image before after

-- ---- rot in two copies

-- damage to the areas of the first two copies alone: it spares one content in the first, and another in the second
pub record RotsApart (place : Place) (one other : Where) (left image : Image) : Type 0 where
  pub files : (f : ℕ) → f ≢ area place 0 → f ≢ area place 1 → image f ≡ left f
  pub first : SparesContent place left image one 0
  pub second : SparesContent place left image other 1

-- of three copies, of which two must agree, each of these contents has two whole ones, and the index three; counted by
-- files one is left
abbrev pub TwoRotsLaw : Type 0
TwoRotsLaw = (shape : Shape) (one other : Where) (left image : Image) → shape.place.copies ≡ 3 → shape.m ≡ 2
    → shape.scope ≡ scope.Element → RotsApart shape.place one other left image
    → HasEnoughStorage shape left image [] × HasEnoughContent shape left image one []
    × HasEnoughContent shape left image other []
    × ¬ (HasEnough shape (area shape.place 0 ∷ area shape.place 1 ∷ []) [])
