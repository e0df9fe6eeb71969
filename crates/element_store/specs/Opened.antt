-- An opening: what it knows before it writes.
use Rattle.std.specs.Prelude.{◌≡◌, map, true, Some, find}
use Rattle.std.specs.List.{All, AllZip}
use Rattle.disk_model.specs.Image.{Image}
use Rattle.guarded_cell.specs.declared.looking.Seen.{Seen}
use Rattle.guarded_cell.specs.Seens.{IsSeenOn}
use Rattle.guarded_cell.specs.Slots.{IsSlotsOf}
use Rattle.index_text.specs.declared.entries.Index.{Index}
use Rattle.index_text.specs.Sizes.{area_blocks}
use Rattle.element_state.specs.declared.shapes.Shape.{Shape}
use Rattle.element_state.specs.declared.shapes.View.{View}
use Rattle.element_state.specs.Conditions.{IsInUse}
use Rattle.element_state.specs.Fit.{fit_texts}
use Rattle.element_state.specs.Views.{qualifies, view_of}
use Rattle.element_state.specs.States.{mended_entry, store_at}
use Rattle.element_state.specs.Chosen.{IsFit, IsReadBy, opened_of}
use Rattle.element_state.specs.Read.{IsView}
use Rattle.element_state.specs.Reports.{reports}
use Rattle.element_store.specs.declared.opening.OpeningPlan.{OpeningPlan}
use Rattle.element_store.specs.Hashing.{AreOfElement}
use Rattle.element_store.specs.Stores.{AreTaken}

-- whether or not the disk is modelled: a text that fits, its view, and what follows from these
pub record IsOpeningPlan (shape : Shape) (r : OpeningPlan) : Type 0 where
  pub text : IsFit shape (r.seen, r.index)
  pub generation : r.before.generation ≡ r.seen.generation
  pub read : AllZip (IsReadBy shape.place.copies) r.index.entries r.before.entries
  pub view : IsView shape r.before
  pub entries : r.entries.items ≡ map mended_entry r.before.entries
  pub kept : All (AreOfElement r.entries.items) r.kept.items
  pub reports : r.reports.items ≡ reports (λ bytes. true) shape r.before
  pub taken : AreTaken (area_blocks shape.allowed) r.index.entries r.used

-- the storage opens at the text, which just its copies hold, and at its view, and the slots are those of a look
pub record IsFoundOn (image : Image) (shape : Shape) (r : OpeningPlan) : Type 0 where
  pub first : find (qualifies image shape) (fit_texts shape image) ≡ Some (r.seen, r.index)
  pub view : r.before ≡ view_of image shape (r.seen, r.index)
  pub opens : opened_of (store_at image shape) ≡ Some r.before
  pub copies : IsSeenOn image shape.place r.seen
  pub slots : IsSlotsOf image shape.place r.slots

-- the storage opens at a text that spells this index
pub record OpensBy (image : Image) (shape : Shape) (index : Index) : Type 0 where
  pub seen : Seen
  pub first : find (qualifies image shape) (fit_texts shape image) ≡ Some (seen, index)

-- the storage is in use as it is: every copy holds its text and no slot another, and no copy lacks an element that is
-- good
pub record LacksNothing (shape : Shape) (image : Image) : Type 0 where
  pub index : Index
  pub view : View
  pub in_use : IsInUse shape image index view
