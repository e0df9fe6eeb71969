-- A storage as it is configured, what an opening of it gives, and what a call on it leaves of the disk.
use Rattle.std.specs.Prelude.{◌≡◌, ℕ, List, Bool, false, IsTrue, Some}
use Rattle.per_base.specs.declared.elements.StoreKind.{StoreKind}
use Rattle.per_base.specs.declared.reports.Report.{Report}
use Rattle.per_base.specs.Maps.{Map, element_at}
use Rattle.disk_model.specs.Frame.{Spares, IsSettledOn}
use Rattle.disk_model.specs.Image.{Image}
use Rattle.disk_model.specs.Medium.{Medium, Quiet, EachCase, Elapses}
use Rattle.disk_model.specs.Place.{IsOutside}
use Rattle.index_text.specs.declared.entries.IndexEntry.{IndexEntry}
use Rattle.deployment_model.specs.Data.{StorageData}
use Rattle.element_state.specs.declared.shapes.Shape.{Shape}
use Rattle.element_state.specs.declared.shapes.View.{View}
use Rattle.element_state.specs.Changes.{item_at}
use Rattle.element_state.specs.Chosen.{opened_of}
use Rattle.element_state.specs.Clean.{IsClean}
use Rattle.element_state.specs.Kept.{KeptWhileMending}
use Rattle.element_state.specs.Reports.{reports}
use Rattle.element_state.specs.States.{State, store_at, mended_view}
use Rattle.element_state.specs.Written.{IsWithin, map_cost}
use Rattle.element_maps.specs.Sessions.{same_map, synchronised}

-- ---- how it is configured

-- the shape is that of a storage of this kind as it is configured: its name, `m` of `n` copies that must agree, on what
-- they must, and its greatest size in bytes
pub record IsConfigured (of : StoreKind) (config : StorageData) (shape : Shape) : Type 0 where
  pub of_kind : config.kind ≡ of
  pub kind : shape.kind ≡ of
  pub name : shape.name ≡ config.name
  pub m : shape.m ≡ config.m
  pub copies : shape.place.copies ≡ config.n
  pub scope : shape.scope ≡ config.scope
  pub allowed : shape.allowed ≡ config.maximum

-- ---- what an opening gives

-- where the storage is, what it shows, the map that is synchronised, and what is reported
pub record Opened : Type 0 where
  pub shape : Shape
  pub view : View
  pub synced : Map
  pub reports : List Report

-- What an opening gives, with a test of contents, on an image where the disk's bytes are modelled. An element on whose
-- bytes enough copies agree, but which fail the test, is reported as one that cannot be read, with the copies that
-- lacked it before the opening.
pub record IsOpened (told : Bool) (image : Image) (shape : Shape) (test : List ℕ → Bool) (given : Opened) : Type 0 where
  -- what the storage was seen as before the opening
  pub before : View
  pub seen : IsTrue told → opened_of (store_at image shape) ≡ Some before
  pub place : given.shape ≡ shape
  pub view : given.view ≡ mended_view shape before
  pub synced : given.synced ≡ synchronised test before
  pub reports : given.reports ≡ reports test shape before

-- ---- what a call leaves of the disk

-- However a call on a storage, on its way to the state `after`, ends: no file outside the place changes, at the end and
-- at any moment, and a stop at any moment leaves the storage as before or as after. It is said of openings too, which
-- may mend contents in place.
pub record IsStoring (told : Bool) (shape : Shape) (after : State) (old new : Medium) : Type 0 where
  pub elsewhere : IsTrue told → Spares (IsOutside shape.place) old.image new.image
  pub outside : IsTrue told → Quiet old → EachCase (IsSettledOn (IsOutside shape.place)
      old.image) old new
  pub any_moment : IsTrue told → KeptWhileMending shape after old new
  pub time : Elapses old new

-- Where a call has put a map in the place of the synchronised one, under an index text of this length: what differed is
-- durable, also on a disk that was not quiet before, in each copy only that and the index were written, and no call
-- failed.
pub record IsDurable (told : Bool) (shape : Shape) (synced next : Map) (index : ℕ) (old new : Medium) : Type 0 where
  pub durable : same_map synced next ≡ false → Quiet new
  pub quiet : Quiet old → Quiet new
  pub clean : IsTrue told → IsClean shape old.image → IsClean shape new.image
  pub written : IsWithin shape.place.copies (map_cost shape.kind synced next) index old.written new.written
  pub passes : new.faults ≡ old.faults

-- an element that both maps have alike keeps its entry: the same blocks, length, hash, info and generation of its last
-- change
abbrev pub KeepsEqual : (synced next : Map) → (old later : List IndexEntry) → Type 0
KeepsEqual synced next old later = (name : List ℕ) → element_at synced name ≡ element_at next name
    → item_at (λ (e : IndexEntry). e.name) name later ≡ item_at (λ (e : IndexEntry). e.name) name old
