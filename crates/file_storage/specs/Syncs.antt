-- Making the working files durable: what refuses it, and what it makes of the storage. `s` is the open storage, `old`
-- and `new` are the disk before and after it.
use Rattle.std.specs.Prelude.{◌≡◌, ℕ, List, length, Bool, false, not, ◌&&◌, Option, Some, None}
use Rattle.per_base.specs.declared.elements.Change.{Change}
use Rattle.per_base.specs.declared.elements.Element.{Element}
use Rattle.per_base.specs.declared.errors.Limit.TheVariants as limit
use Rattle.per_base.specs.declared.errors.PerError.{PerError}
use Rattle.per_base.specs.declared.errors.PerError.TheVariants.{IllegalWriteAccess, LimitReached, NotOpen}
use Rattle.per_base.specs.Refusals.{or_next}
use Rattle.disk_model.specs.Medium.{Medium}
use Rattle.file_core.specs.Places.{writes}
use Rattle.file_handles.specs.declared.handle.Handle.{Handle}
use Rattle.file_handles.specs.Opening.{busy, when}
use Rattle.file_handles.specs.Sessions.{lowest, open_at}
use Rattle.index_text.specs.Spelling.{index_text}
use Rattle.element_state.specs.declared.shapes.View.{View}
use Rattle.element_state.specs.States.{is_worn}
use Rattle.element_state.specs.Written.{IsWithin, map_cost}
use Rattle.element_store.specs.Committing.{index_in, index_length}
use Rattle.element_store.specs.Stores.{IsUsed, store_shape, view_in}
use Rattle.element_maps.specs.Sessions as maps
use Rattle.element_maps.specs.Storages.{IsDurable, KeepsEqual}
use Rattle.file_storage.specs.FileSessions.{FilesInUse, stored_in}
use Rattle.file_storage.specs.Walks.{walked}

-- whether the working files are those that are synchronised
abbrev pub is_synced : FilesInUse → Bool
is_synced s = maps.same_map (stored_in s.store) s.session.files

-- the changes that make the synchronised files into the working ones
abbrev pub due_changes : FilesInUse → List Change
due_changes s = walked s.session.files (stored_in s.store)

-- `LimitReached` where files differ and no generation is left for them: this number, which rises with each commit, is
-- the greatest of 64 bits
abbrev pub worn : FilesInUse → Option PerError
worn s = when (not (is_synced s) && is_worn (view_in s.store)) (LimitReached limit.Generations)

-- what refuses a sync through this handle: it is not open, or it only reads
abbrev pub no_writer : Option (Handle × Element) → Option PerError
no_writer None = Some NotOpen
no_writer (Some o) = when (not (writes o.0.cursor.kind)) IllegalWriteAccess

-- what refuses a sync by the handle of this number
abbrev pub sync_refused : FilesInUse → ℕ → Option PerError
sync_refused s number = or_next (no_writer (open_at s.session number)) (worn s)

-- what refuses to close the storage: the lowest open handle, or that no generation is left for files that differ
abbrev pub close_refused : FilesInUse → Option PerError
close_refused s = or_next (busy (lowest s.session.handles)) (worn s)

-- the view once the working files are durable: the old one where nothing differs
abbrev pub synced_view : FilesInUse → View
synced_view s = maps.view_once_synced (store_shape s.store) (view_in s.store) (stored_in s.store) s.session.files

-- at most this is written: in each copy the contents that differ, the next index with its head of 44 bytes, and 44
-- bytes that blank the old index
abbrev pub WritesAtMost : FilesInUse → (old new : Medium) → Type 0
WritesAtMost s old new = IsWithin (store_shape s.store).place.copies
    (map_cost (store_shape s.store).kind (stored_in s.store) s.session.files)
    (index_length (store_shape s.store).kind (synced_view s).entries) old.written new.written

-- the working files of `s` are durable in `later`, and all else of it stays; `told` says that the bytes of the disk
-- are modelled
pub record IsSynced (told : Bool) (s later : FilesInUse) (old new : Medium) : Type 0 where
  pub stored : stored_in later.store ≡ s.session.files
  pub view : view_in later.store ≡ synced_view s
  pub beside : later ≡ record s { store = later.store }
  pub shape : store_shape later.store ≡ store_shape s.store
  pub used : IsUsed told new.image later.store
  pub durable : IsDurable told (store_shape s.store) (stored_in s.store) s.session.files
      (length (index_text (index_in later.store))) old new
  -- its index: each file that does not differ as it was listed; where one does, in format 2, which has the generation
  -- of each last change, and as long as the entries of its view ask
  pub carried : KeepsEqual (stored_in s.store) s.session.files (index_in s.store).entries (index_in later.store).entries
  pub format : is_synced s ≡ false → (index_in later.store).format ≡ 2
  pub text : is_synced s ≡ false → length (index_text (index_in later.store))
      ≡ index_length (store_shape s.store).kind (view_in later.store).entries
