-- A whole content at once, through a handle that is closed again.
use Rattle.std.specs.Prelude.{◌≡◌, ℕ, List, [], length, Option, None, Some, Result, Ok, Err}
use Rattle.std.specs.List.Sorted.{IsStrictlySortedBy}
use Rattle.std.specs.Map.{keys_of}
use Rattle.per_base.specs.declared.elements.Element.{Element}
use Rattle.per_base.specs.declared.errors.PerError.{PerError}
use Rattle.per_base.specs.declared.opening.OpenKind.TheVariants.{Read, Write}
use Rattle.per_base.specs.Maps.{element_at}
use Rattle.per_base.specs.Names.{name_cmp}
use Rattle.per_base.specs.Modes.{plain, truncating}
use Rattle.per_base.specs.Contents.{readable_bytes}
use Rattle.per_base.specs.Refusals.{IsDue, refused_by}
use Rattle.file_handles.specs.declared.storage.Storage.{Storage}
use Rattle.file_handles.specs.Handling.{write}
use Rattle.file_handles.specs.Opening.{can_open, open_file, would_fit}
use Rattle.file_handles.specs.Sessions.{Session, without_handle}

-- what the next call gives for an answer; a refusal stays
abbrev pub and_then : {A B : Type 0} → Result A PerError → (A → Result B PerError) → Result B PerError
and_then (Ok answer) next = next answer
and_then (Err error) next = Err error

-- the session without the handle of this number
abbrev pub released : Session → ℕ → Session
released s number = record s { handles = without_handle s.handles number }

-- the bytes of a readable file; none where it is missing or unreadable
abbrev pub bytes_of_file : Option Element → List ℕ
bytes_of_file None = []
bytes_of_file (Some file) = readable_bytes file.content

-- the whole content of a file and the session after it, as a reader gets them that opens the file with no flag and
-- closes it again
abbrev pub cat : Storage → Session → List ℕ → ℕ → Result (List ℕ × Session) PerError
cat storage s name now = and_then (open_file storage s name Read plain now)
    (λ o. Ok (bytes_of_file (element_at o.1.files name), released o.1 o.0))

-- the session in which the content of a file is these bytes, as a writer puts them that opens the file with the flag
-- that truncates, writes and closes it again; whether it may be opened and whether they fit is asked first
abbrev pub put_whole : Storage → Session → List ℕ → List ℕ → ℕ → Result Session PerError
put_whole storage s name bytes now =
    refused_by (can_open storage s name Write truncating)
    (refused_by (would_fit storage s.files name (length bytes))
    (and_then (open_file storage s name Write truncating now)
    (λ o. and_then (write storage o.1 now o.0 bytes) (λ after. Ok (released after o.0)))))

-- ---- what was asked first is not refused midway

-- where a file may be opened for reading, its whole content is given and not refused midway
abbrev pub CatLaw : Type 0
CatLaw = (storage : Storage) (s : Session) (name : List ℕ) (now : ℕ) → can_open storage s name Read plain ≡ None
    → IsDue (cat storage s name now)

-- where a file may be opened for writing and the bytes fit, putting them is not refused midway
abbrev pub PutLaw : Type 0
PutLaw = (storage : Storage) (s : Session) (name bytes : List ℕ) (now : ℕ)
    → IsStrictlySortedBy name_cmp (keys_of s.files)
    → can_open storage s name Write truncating ≡ None → would_fit storage s.files name (length bytes) ≡ None
    → IsDue (put_whole storage s name bytes now)

-- after an opening for reading with no flag, the content of the file is as before
abbrev pub SameContentLaw : Type 0
SameContentLaw = (storage : Storage) (s : Session) (name : List ℕ) (now : ℕ) (opened : ℕ × Session)
    → open_file storage s name Read plain now ≡ Ok opened
    → bytes_of_file (element_at opened.1.files name) ≡ bytes_of_file (element_at s.files name)
