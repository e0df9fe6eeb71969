-- A session of files: the working files by name, and the handles on them by number, each a finite map as a list of
-- pairs in order.
use Rattle.std.specs.Prelude.{◌≡◌, ℕ, ◌≤◌, ◌+◌, ◌-◌, List, [], ◌∷◌, length, Bool, false, cond, ◌&&◌, ◌||◌, ◌==◌, Option}
use Rattle.std.specs.Prelude.{Some, None, option_map, find, IsTrue, Result, Ok, Err}
use Rattle.std.specs.BTreeMap.{insert_entry, is_at}
use Rattle.std.specs.Map.{lookup, remove_entry}
use Rattle.std.specs.Ordering.{nat_cmp}
use Rattle.std.specs.Str.{bytes_eq}
use Rattle.per_base.specs.declared.elements.Element.{Element}
use Rattle.per_base.specs.declared.errors.PerError.{PerError}
use Rattle.per_base.specs.declared.opening.OpenKind.{OpenKind}
use Rattle.per_base.specs.Maps.{Map, element_at, with_element, size_of}
use Rattle.per_base.specs.Names.{name_cmp}
use Rattle.per_base.specs.Contents.{is_readable}
use Rattle.file_core.specs.declared.cursor.Cursor.{Cursor}
use Rattle.file_core.specs.declared.room.Room.{Room}
use Rattle.file_core.specs.Files.{IsFile}
use Rattle.file_core.specs.Places.{writes}
use Rattle.file_handles.specs.declared.handle.Handle.{Handle}

-- the open handles by number
abbrev pub Handles : Type 0
Handles = List (ℕ × Handle)

-- the working files by name, and the handles on them by number
pub record Session : Type 0 where
  pub files : Map
  pub handles : Handles

-- the handle of this number
abbrev pub handle_at : Handles → ℕ → Option Handle
handle_at handles number = lookup (is_at (nat_cmp number)) handles

-- the handles with this one at the number
abbrev pub with_handle : Handles → ℕ → Handle → Handles
with_handle handles number handle = insert_entry nat_cmp handles number handle

-- the handles with none at the number
abbrev pub without_handle : Handles → ℕ → Handles
without_handle handles number = remove_entry (is_at (nat_cmp number)) handles

-- the lowest number from this one on that no handle has, where no handle has a lower number
abbrev pub lowest_free_from : ℕ → Handles → ℕ
lowest_free_from number [] = number
lowest_free_from number (e ∷ es) = cond (number == e.0) (lowest_free_from (number + 1) es) number

-- the lowest number that no handle has, counted from 1
abbrev pub free_number : Handles → ℕ
free_number handles = lowest_free_from 1 handles

-- the lowest number of all handles, if there are any
abbrev pub lowest : Handles → Option ℕ
lowest [] = None
lowest (e ∷ es) = Some e.0

-- whether this handle conflicts with an opening of this kind of the file `name`: it is on the same file, and one of
-- the two writes
abbrev pub blocks : OpenKind → List ℕ → Handle → Bool
blocks kind name handle = bytes_eq handle.name name && (writes kind || writes handle.cursor.kind)

-- the lowest number of a handle that conflicts with an opening of this kind of the file `name`
abbrev pub blocking : OpenKind → List ℕ → Handles → Option ℕ
blocking kind name handles = option_map (λ e. e.0) (find (λ e. blocks kind name e.1) handles)

-- the handle with its file, where there is a file and it is readable
abbrev pub readable : Handle → Option Element → Option (Handle × Element)
readable handle None = None
readable handle (Some file) = cond (is_readable file.content) (Some (handle, file)) None

-- a handle, where there is one, with its file among these, where that is there and readable
abbrev pub with_file : Map → Option Handle → Option (Handle × Element)
with_file files None = None
with_file files (Some handle) = readable handle (element_at files handle.name)

-- there is a file, it is readable, and this position is in it or at its end
abbrev pub IsHeldAt : Option Element → ℕ → Type 0
IsHeldAt None position = ⊥
IsHeldAt (Some file) position = IsTrue (is_readable file.content) × (position ≤ file.len)

-- what stands there is a file, where anything does
abbrev pub IsFileAt : Option Element → Type 0
IsFileAt None = Unit {0}
IsFileAt (Some file) = IsFile file

-- of the maps `files` and `later`, all names but this one have the same file in both
abbrev pub SameBeside : Map → Map → List ℕ → Type 0
SameBeside files later name = (other : List ℕ) → is_at (name_cmp name) other ≡ false
    → element_at later other ≡ element_at files other

-- the handle of this number with its file
abbrev pub open_at : Session → ℕ → Option (Handle × Element)
open_at s number = with_file s.files (handle_at s.handles number)

-- the session with this cursor for the handle of this number
abbrev pub with_cursor : Session → ℕ → Handle → Cursor → Session
with_cursor s number handle cursor = record s {
  handles =
      with_handle s.handles number (record handle { cursor = cursor });
}

-- how many bytes all but the content of this name take in the storage, the name included; what is last given is the
-- file of this name, if there is one
abbrev pub others : Map → List ℕ → Option Element → ℕ
others files name None = size_of files + length name
others files name (Some file) = size_of files - file.len

-- the room for a content under this name, in a storage of at most `maximum` bytes
abbrev pub room_for : Map → List ℕ → ℕ → Room
room_for files name maximum = record { others = others files name (element_at files name); allowed = maximum }

-- the map with the file of this name as changed, beside the cursor of its handle; an error stays
abbrev pub with_changed : Map → List ℕ → Result (Cursor × Element) PerError → Result (Cursor × Map) PerError
with_changed files name (Ok new) = Ok (new.0, with_element files name new.1)
with_changed files name (Err error) = Err error
