-- What a creation writes at most, and what it never leaves: contents torn in blocks that an index names.
use Rattle.std.specs.Prelude.{◌⊎◌, ℕ, ◌+◌, ◌*◌, List, length, sum_by}
use Rattle.per_base.specs.declared.elements.StoreKind.{StoreKind}
use Rattle.per_base.specs.declared.elements.Fresh.{Fresh}
use Rattle.disk_model.specs.declared.place.Place.{Place}
use Rattle.disk_model.specs.Image.{Image}
use Rattle.disk_model.specs.Case.{Case}
use Rattle.disk_model.specs.Frame.{IsSettledOn}
use Rattle.disk_model.specs.Place.{IsNoSlot}
use Rattle.block_files.specs.Aside.{Where}
use Rattle.element_state.specs.Clean.{IsNamed}
use Rattle.element_store.specs.Committing.{listed_length}
use Rattle.element_store.specs.Plans.{blocks_of_all}

-- how long the text of an index of these contents is in format 2, with the 4 bytes before them
abbrev pub fresh_length : StoreKind → List Fresh → ℕ
fresh_length kind contents = 4 + sum_by (λ (f : Fresh). listed_length kind f.name (length f.bytes)) contents

-- what a creation writes at most: in each copy its contents in whole blocks of 256 bytes, their index with its head of
-- 44 bytes, and four blanks as long as that head
abbrev pub creating_cost : (copies : ℕ) → StoreKind → List Fresh → ℕ
creating_cost copies kind contents = copies * (256 * blocks_of_all contents + fresh_length kind contents + 5 * 44)

-- no copy holds a text that names contents
abbrev pub NamesNothing : Place → Image → Type 0
NamesNothing place image = (at : Where) → ¬ (IsNamed place image at)

-- nothing is pending but in slots, or no text names contents: neither after the last sync, nor with each write since,
-- nor in what is left
abbrev pub IsUntorn : Place → Case → Type 0
IsUntorn place c = ((image : Image) × IsSettledOn (IsNoSlot place) image c)
    ⊎ (NamesNothing place c.base × NamesNothing place c.full × NamesNothing place c.left)
