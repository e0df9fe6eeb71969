-- The refusals of an opening in their order, and what an opening makes. Of an opening, `name` is the name of the
-- file, `kind` whether it reads, writes or both, `mode` its flags: where the position starts, whether the file is
-- emptied, and whether each write goes to the end. `now` is the moment in seconds.
use Rattle.std.specs.Prelude.{ℕ, ◌+◌, [], List, length, Bool, false, cond, not, ◌&&◌, nat_le, nat_lt, Option, Some}
use Rattle.std.specs.Prelude.{None, Result, Ok}
use Rattle.per_base.specs.declared.elements.Cause.TheVariants.{Application}
use Rattle.per_base.specs.declared.elements.Element.{Element}
use Rattle.per_base.specs.declared.errors.Holder.TheVariants as holder
use Rattle.per_base.specs.declared.errors.Limit.TheVariants as limit
use Rattle.per_base.specs.declared.errors.PerError.{PerError}
use Rattle.per_base.specs.declared.errors.PerError.TheVariants.{InvalidOpenMode, IllegalWriteAccess, FileNotFound}
use Rattle.per_base.specs.declared.errors.PerError.TheVariants.{IntegrityCorrupted, ResourceBusy, LimitReached}
use Rattle.per_base.specs.declared.errors.PerError.TheVariants.{OutOfStorageSpace}
use Rattle.per_base.specs.declared.errors.Unit.TheVariants.{Part}
use Rattle.per_base.specs.declared.opening.OpenKind.{OpenKind}
use Rattle.per_base.specs.declared.opening.OpenMode.{OpenMode}
use Rattle.per_base.specs.Maps.{Map, element_at, has, with_element, size_of}
use Rattle.per_base.specs.Modes.{truncates}
use Rattle.per_base.specs.Refusals.{or_next, refused_by}
use Rattle.per_base.specs.Contents.{is_readable}
use Rattle.file_core.specs.Files.{file_of, opened_at, changed_to, too_long}
use Rattle.file_core.specs.Infos.{made}
use Rattle.file_core.specs.Places.{writes, is_bad_mode, opening_place}
use Rattle.file_handles.specs.declared.storage.Storage.{Storage}
use Rattle.file_handles.specs.Sessions.{Session, with_handle, free_number, blocking, room_for}

-- an error where the test holds
abbrev pub when : Bool → PerError → Option PerError
when test error = cond test (Some error) None

-- whether there is a file and it is unreadable
abbrev pub is_unreadable : Option Element → Bool
is_unreadable None = false
is_unreadable (Some file) = not (is_readable file.content)

-- `ResourceBusy` of the handle of this number, where there is one
abbrev pub busy : Option ℕ → Option PerError
busy None = None
busy (Some number) = Some (ResourceBusy (holder.Handle number))

-- `LimitReached` where there is no file of this name and there are 1,024, the most of a storage
abbrev pub too_many : Map → List ℕ → Option PerError
too_many files name = when (not (has files name) && nat_le 1024 (length files)) (LimitReached limit.Elements)

-- what refuses an opening, but the lack of space: the first that holds, of flags that contradict one another or the
-- kind; a writer in a read-only storage; a reader of a missing file; an unreadable file; a conflicting handle; 64
-- open handles, the most of a storage; and one file too many
abbrev pub can_open : Storage → Session → List ℕ → OpenKind → OpenMode → Option PerError
can_open storage s name kind mode =
    or_next (when (is_bad_mode kind mode) InvalidOpenMode)
    (or_next (when (writes kind && storage.read_only) IllegalWriteAccess)
    (or_next (when (not (writes kind) && not (has s.files name)) FileNotFound)
    (or_next (when (is_unreadable (element_at s.files name)) (IntegrityCorrupted (Part storage.name name)))
    (or_next (busy (blocking kind name s.handles))
    (or_next (when (nat_le 64 (length s.handles)) (LimitReached limit.Handles))
    (too_many s.files name))))))

-- the file as an opening leaves it, of the one that was there, if any: made empty where it was missing, emptied where
-- the flags say so, else with the moment of the opening; a read-only storage keeps its files as they are
abbrev pub file_opened : Bool → OpenMode → ℕ → Option Element → Element
file_opened read_only mode now None = file_of (Some (made now Application)) []
file_opened read_only mode now (Some file) =
    cond read_only file
    (cond (truncates mode) (changed_to [] now Application (opened_at now file)) (opened_at now file))

-- the number of the new handle, which is the lowest free one, and the session with the handle and with `file`, the
-- file as it is opened
abbrev pub with_opened : Session → List ℕ → OpenKind → OpenMode → Element → ℕ × Session
with_opened s name kind mode file = (
  free_number s.handles,
  record {
    files = with_element s.files name file;
    handles = with_handle s.handles (free_number s.handles)
        (record { name = name; cursor = opening_place kind mode file.len });
  },
)

-- `OutOfStorageSpace` where the file is missing and the storage would exceed its maximum with the name of the file in
-- addition
abbrev pub no_room_to_create : Storage → Map → List ℕ → Option PerError
no_room_to_create storage files name =
    when (not (has files name) && nat_lt storage.maximum (size_of files + length name))
    (OutOfStorageSpace (size_of files + length name) storage.maximum)

-- an opening of a file: the first refusal that holds, else the number of the new handle and the session in which the
-- file is opened
abbrev pub open_file : Storage → Session → List ℕ → OpenKind → OpenMode → ℕ → Result (ℕ × Session) PerError
open_file storage s name kind mode now =
    refused_by (can_open storage s name kind mode)
    (refused_by (no_room_to_create storage s.files name)
    (Ok (with_opened s name kind mode (file_opened storage.read_only mode now (element_at s.files name)))))

-- what refuses a content of `len` bytes under this name, if anything
abbrev pub would_fit : Storage → Map → List ℕ → ℕ → Option PerError
would_fit storage files name len = too_long (room_for files name storage.maximum) len
