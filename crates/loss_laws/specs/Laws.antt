-- What the loss of pages of one block leaves to be read: the statements of the laws.
use Rattle.std.specs.Prelude.{◌<◌, ◌≤◌, ℕ, List}
use Rattle.disk_model.specs.Image.{Image}
use Rattle.guarded_cell.specs.Register.{Holds, IsAlone}
use Rattle.element_state.specs.Clean.{IsClean}
use Rattle.element_state.specs.declared.shapes.Shape.{Shape}
use Rattle.element_state.specs.declared.shapes.View.{View}
use Rattle.element_state.specs.States.{store_at}
use Rattle.deploy_laws.specs.Places.{root_place}
use Rattle.flash_laws.specs.Outvotes.{IsPlaced, Outvotes}
use Rattle.loss_laws.specs.ReadsOn.{AppsReadOn, ReadsOn, RootReadsOn}
use Rattle.loss_laws.specs.Whole.{IsWholeRoot, IsWholeStorage}

-- a storage that was whole reads on where at least 2 copies, and fewer than there are, have to agree
abbrev pub StoragesLaw : Type 0
StoragesLaw = (old new : Image) (outvoted : Outvotes old new) (shape : Shape) (view : View) → IsPlaced shape.place
    → 2 ≤ shape.m → shape.m < shape.place.copies
    → IsWholeStorage old shape view → ReadsOn shape outvoted.lost view (store_at new shape)

-- Where one copy is enough it needs that the place is clean and no copy gives a text of a greater generation, as one of
-- a bank that was made again does.
abbrev pub StoragesOfOneLaw : Type 0
StoragesOfOneLaw = (old new : Image) (outvoted : Outvotes old new) (shape : Shape) (view : View) → IsPlaced shape.place
    → 1 ≤ shape.m → shape.m < shape.place.copies → IsWholeStorage old shape view
    → IsClean shape new
    → ((copy generation : ℕ) (text : List ℕ) → copy < shape.place.copies
    → Holds new shape.place copy generation text → generation ≤ view.generation)
    → ReadsOn shape outvoted.lost view (store_at new shape)

-- a root that was whole reads on
abbrev pub RootsLaw : Type 0
RootsLaw = (old new : Image) (outvoted : Outvotes old new) (app : ℕ) → app < 8 → IsWholeRoot old app
    → RootReadsOn app outvoted.lost old new

-- and so does one of which each copy held one text alone
abbrev pub AloneRootsLaw : Type 0
AloneRootsLaw = (old new : Image) (outvoted : Outvotes old new) (app g : ℕ) (text : List ℕ) → app < 8
    → IsAlone old (root_place app) g text
    → RootReadsOn app outvoted.lost old new

-- each application reads on
abbrev pub AppsLaw : Type 0
AppsLaw = (old new : Image) → Outvotes old new → AppsReadOn old new
