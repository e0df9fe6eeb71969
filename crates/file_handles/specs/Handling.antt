-- The calls on a handle, each a function of the session `s` and the number of the handle; those that change a file
-- also of the moment `now` in seconds and of the storage. A call that moves the handle or changes its file gives the
-- session after it.
use Rattle.std.specs.Prelude.{ℕ, List, Bool, Option, Some, None, Result, Ok, Err, ℤ}
use Rattle.per_base.specs.declared.elements.Element.{Element}
use Rattle.per_base.specs.declared.errors.PerError.{PerError}
use Rattle.per_base.specs.declared.errors.PerError.TheVariants.{NotOpen}
use Rattle.per_base.specs.declared.opening.Origin.{Origin}
use Rattle.per_base.specs.Maps.{Map}
use Rattle.per_base.specs.Contents.{readable_bytes}
use Rattle.file_core.specs.declared.cursor.Cursor.{Cursor}
use Rattle.file_core.specs.Files as core
use Rattle.file_core.specs.Places as places
use Rattle.file_handles.specs.declared.handle.Handle.{Handle}
use Rattle.file_handles.specs.declared.storage.Storage.{Storage}
use Rattle.file_handles.specs.Sessions.{Session, open_at, with_cursor, with_handle, with_changed, without_handle}
use Rattle.file_handles.specs.Sessions.{room_for}

-- what a call gives for an open handle and its file, or `NotOpen` where there is none
abbrev pub on_open : {A : Type 0} → Option (Handle × Element) → (Handle → Element → Result A PerError)
    → Result A PerError
on_open None call = Err NotOpen
on_open (Some o) call = call o.0 o.1

-- what a call gives for the handle of this number and its file; `NotOpen` for a number that no handle has
abbrev pub at_handle : {A : Type 0} → Session → ℕ → (Handle → Element → Result A PerError) → Result A PerError
at_handle s number call = on_open (open_at s number) call

-- the answer of a call that moves, with the session in which the handle has moved; an error stays
abbrev pub moving : {A : Type 0} → Session → ℕ → Handle → Result (A × Cursor) PerError → Result (A × Session) PerError
moving s number handle (Ok answer) = Ok (answer.0, with_cursor s number handle answer.1)
moving s number handle (Err error) = Err error

-- the next byte of the handle's file; the position stays
abbrev pub peek_byte : Session → ℕ → Result ℕ PerError
peek_byte s number = at_handle s number (λ handle file. places.peek_byte handle.cursor (readable_bytes file.content))

-- the next byte, which the position passes
abbrev pub get_byte : Session → ℕ → Result (ℕ × Session) PerError
get_byte s number = at_handle s number (λ handle file.
    moving s number handle (places.get_byte handle.cursor (readable_bytes file.content)))

-- that many bytes from the position on, or the rest where fewer are left; the position passes them
abbrev pub read : Session → ℕ → ℕ → Result (List ℕ × Session) PerError
read s number count = at_handle s number (λ handle file.
    moving s number handle (places.read handle.cursor (readable_bytes file.content) count))

-- the bytes from the position on; the position is then at the end
abbrev pub read_all : Session → ℕ → Result (List ℕ × Session) PerError
read_all s number = at_handle s number (λ handle file.
    moving s number handle (places.read_all handle.cursor (readable_bytes file.content)))

-- the bytes from the position on before the next delimiter, or the rest; the position passes them and the delimiter
abbrev pub read_line : Session → ℕ → ℕ → Result (List ℕ × Session) PerError
read_line s number delimiter = at_handle s number (λ handle file.
    moving s number handle (places.read_line handle.cursor (readable_bytes file.content) delimiter))

-- the position at this offset in bytes from its origin, which the handle then has
abbrev pub move_position : Session → ℕ → Origin → ℤ → Result (ℕ × Session) PerError
move_position s number origin offset = at_handle s number
    (λ handle file. moving s number handle (places.move_position handle.cursor file.len origin offset))

-- the session in which the handle has this cursor; an error stays
abbrev pub moved_to : Session → ℕ → Handle → Result Cursor PerError → Result Session PerError
moved_to s number handle (Ok cursor) = Ok (with_cursor s number handle cursor)
moved_to s number handle (Err error) = Err error

-- the handle at this position, at most the size of its file
abbrev pub set_position : Session → ℕ → ℕ → Result Session PerError
set_position s number position = at_handle s number (λ handle file.
    moved_to s number handle (places.set_position handle.cursor file.len position))

-- the length of the handle's file in bytes
abbrev pub size : Session → ℕ → Result ℕ PerError
size s number = at_handle s number (λ handle file. Ok file.len)

-- the position of the handle in bytes from the beginning
abbrev pub position : Session → ℕ → Result ℕ PerError
position s number = at_handle s number (λ handle file. Ok handle.cursor.position)

-- whether nothing is left to read from the position of the handle on
abbrev pub is_eof : Session → ℕ → Result Bool PerError
is_eof s number = at_handle s number (λ handle file. Ok (places.is_eof handle.cursor (readable_bytes file.content)))

-- the session in which the handle has moved and these are the files; an error stays
abbrev pub changing : Session → ℕ → Handle → Result (Cursor × Map) PerError → Result Session PerError
changing s number handle (Ok new) = Ok (record {
  files = new.1;
  handles =
      with_handle s.handles number (record handle { cursor = new.0 });
})
changing s number handle (Err error) = Err error

-- a piece is written into the handle's file, from its position on, or with append from the end on
abbrev pub write : Storage → Session → ℕ → ℕ → List ℕ → Result Session PerError
write storage s now number piece = at_handle s number (λ handle file.
    changing s number handle (with_changed s.files handle.name
    (core.written handle.cursor file piece now (room_for s.files handle.name storage.maximum))))

-- the handle is open, and this piece written through it reaches past the end of its file
abbrev pub GrowsBy : Option (Handle × Element) → List ℕ → Type 0
GrowsBy None piece = ⊥
GrowsBy (Some o) piece = core.GrowsBy o.0.cursor o.1 piece

-- the handle's file is cut to its first `size` bytes
abbrev pub set_size : Session → ℕ → ℕ → ℕ → Result Session PerError
set_size s now number size = at_handle s number (λ handle file.
    changing s number handle (with_changed s.files handle.name (core.cut handle.cursor file size now)))

-- the session without the handle; its file stays
abbrev pub close : Session → ℕ → Result Session PerError
close s number = at_handle s number (λ handle file. Ok (record s { handles = without_handle s.handles number }))
