-- A cell that is in use, as the disk's bytes show it.
use Rattle.std.specs.Prelude.{◌≡◌, ℕ, List}
use Rattle.disk_model.specs.declared.place.Place.{Place}
use Rattle.disk_model.specs.Image.{Image}
use Rattle.guarded_cell.specs.declared.cell.Cell.{Cell}
use Rattle.guarded_cell.specs.Register.{IsAlone}

-- the place of a cell's register
abbrev pub place_of : Cell → Place
place_of cell = cell.place

-- the generation under which a cell's text is held
abbrev pub generation_of : Cell → ℕ
generation_of cell = cell.generation

-- the cell is in use on this image with this text: each copy holds it, and no other slot verifies
abbrev pub CellAt : Image → Cell → List ℕ → Type 0
CellAt image cell text = IsAlone image cell.place cell.generation text

-- this cell is of this place, and its text is held under this generation
pub record IsCellOf (place : Place) (generation : ℕ) (cell : Cell) : Type 0 where
  pub lies : place_of cell ≡ place
  pub counts : generation_of cell ≡ generation
