-- A file: an element with an info, whose length is that of its content; and what writing and cutting make of it.
use Rattle.std.specs.Prelude.{ℕ, ◌+◌, ◌<◌, ◌≤◌, List, length, take, not, cond, ◌==◌, nat_lt}
use Rattle.std.specs.Prelude.{Option, Some, None, IsSome, option_map, Result, Ok}
use Rattle.per_base.specs.declared.elements.Cause.{Cause}
use Rattle.per_base.specs.declared.elements.Cause.TheVariants.{Application}
use Rattle.per_base.specs.declared.elements.Content.{Content}
use Rattle.per_base.specs.declared.elements.Content.TheVariants.{Good, Bad}
use Rattle.per_base.specs.declared.elements.Element.{Element}
use Rattle.per_base.specs.declared.elements.FileInfo.{FileInfo}
use Rattle.per_base.specs.declared.errors.Limit.TheVariants.{FileBytes}
use Rattle.per_base.specs.declared.errors.PerError.{PerError}
use Rattle.per_base.specs.declared.errors.PerError.TheVariants.{IllegalWriteAccess, InvalidSize, LimitReached}
use Rattle.per_base.specs.declared.errors.PerError.TheVariants.{OutOfStorageSpace}
use Rattle.per_base.specs.Contents.{readable_bytes, is_readable, HasLength}
use Rattle.per_base.specs.Refusals.{refuse, refused_by}
use Rattle.file_core.specs.declared.cursor.Cursor.{Cursor}
use Rattle.file_core.specs.declared.room.Room.{Room}
use Rattle.file_core.specs.Infos.{info_changed, opened_info}
use Rattle.file_core.specs.Places.{writes, moved, write_place, overwritten, moved_within}

-- a content that is readable, or that is unreadable and has no salvage
abbrev pub NoSalvage : Content → Type 0
NoSalvage (Good bytes) = Unit {0}
NoSalvage (Bad None) = Unit {0}
NoSalvage (Bad (Some salvage)) = ⊥

-- an element that is a file: it has an info, and its length in bytes is that of its bytes or salvage, at most
-- 1,048,576
pub record IsFile (file : Element) : Type 0 where
  pub informed : IsSome file.info
  pub measured : HasLength file.content file.len
  pub small : file.len ≤ 1048576

-- the readable file with this info and these bytes
abbrev pub file_of : Option FileInfo → List ℕ → Element
file_of info bytes = record { info = info; len = length bytes; content = Good bytes }

-- the file with other bytes: its content was changed at the moment `now`, for this cause
abbrev pub changed_to : List ℕ → ℕ → Cause → Element → Element
changed_to bytes now cause file = file_of (option_map (info_changed now cause) file.info) bytes

-- the bytes of a content, where it can be read
abbrev pub good_bytes : Content → Option (List ℕ)
good_bytes (Good bytes) = Some bytes
good_bytes (Bad salvage) = None

-- the file once its bytes are taken out, where it can be read: it is unreadable then, of the same length
abbrev pub without_bytes : Element → Element
without_bytes file = cond (is_readable file.content) (record file { content = Bad None }) file

-- the file with these bytes as its content, where they are as many as its length says; else as it was
abbrev pub with_bytes : List ℕ → Element → Element
with_bytes bytes file = cond (length bytes == file.len) (record file { content = Good bytes }) file

-- the file as opened at the moment `now`
abbrev pub opened_at : ℕ → Element → Element
opened_at now file = record file { info = option_map (opened_info now) file.info }

-- the refusal of a content of `len` bytes, if any: `LimitReached` above 1,048,576, the most of a file; then
-- `OutOfStorageSpace` where all else of the storage (`others`) and it take more bytes than it is allowed
abbrev pub too_long : Room → ℕ → Option PerError
too_long room len =
    cond (nat_lt 1048576 len) (Some (LimitReached FileBytes))
    (cond (nat_lt room.allowed (room.others + len)) (Some (OutOfStorageSpace (room.others + len) room.allowed)) None)

-- this piece, written by the cursor into the file, reaches past the end of its content
abbrev pub GrowsBy : Cursor → Element → List ℕ → Type 0
GrowsBy cursor file piece = length (readable_bytes file.content) < write_place cursor
    (readable_bytes file.content) + length piece

-- the cursor and the file once a piece is written at the moment `now`: it overwrites and extends from the position of
-- writing on, and the cursor is then past it. An empty piece changes nothing; refused for a kind that only reads,
-- then where the content would be too long
abbrev pub written : Cursor → Element → List ℕ → ℕ → Room → Result (Cursor × Element) PerError
written cursor file piece now room =
    let bytes = readable_bytes file.content in
    let from = write_place cursor bytes in
    let after = overwritten from piece bytes in
    refuse (not (writes cursor.kind)) IllegalWriteAccess
    (cond (length piece == 0) (Ok (cursor, file))
    (refused_by (too_long room (length after)) (Ok (
      moved cursor (from + length piece),
      changed_to after now Application file,
    ))))

-- the cursor and the file once the content is cut to its first `size` bytes at the moment `now`: a position above
-- becomes the size. Refused for a kind that only reads, then with `InvalidSize` where the content is shorter
abbrev pub cut : Cursor → Element → ℕ → ℕ → Result (Cursor × Element) PerError
cut cursor file size now =
    refuse (not (writes cursor.kind)) IllegalWriteAccess
    (refuse (nat_lt (length (readable_bytes file.content)) size) InvalidSize
    (Ok (moved_within cursor size, changed_to (take size (readable_bytes file.content)) now Application file)))
