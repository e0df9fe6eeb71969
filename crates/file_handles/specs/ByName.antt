-- The calls by name, each a function of the session `s` (or of its files alone) and the name of a file; those that
-- change a file also of the storage, and of the moment `now` in seconds.
use Rattle.std.specs.Prelude.{ℕ, List, [], Option, Some, None, Result, Ok, Err}
use Rattle.per_base.specs.declared.elements.Cause.TheVariants.{Recovery, Reset}
use Rattle.per_base.specs.declared.elements.Content.{Content}
use Rattle.per_base.specs.declared.elements.Content.TheVariants.{Good, Bad}
use Rattle.per_base.specs.declared.elements.Element.{Element}
use Rattle.per_base.specs.declared.elements.FileInfo.{FileInfo}
use Rattle.per_base.specs.declared.errors.PerError.{PerError}
use Rattle.per_base.specs.declared.errors.PerError.TheVariants.{FileNotFound, IllegalWriteAccess}
use Rattle.per_base.specs.declared.opening.OpenKind.TheVariants.{Write}
use Rattle.per_base.specs.Maps.{Map, element_at, with_element, without}
use Rattle.per_base.specs.Refusals.{with_initial, refuse, refused_by}
use Rattle.file_core.specs.Files.{changed_to, file_of, too_long}
use Rattle.file_core.specs.Infos.{made}
use Rattle.file_handles.specs.declared.storage.Storage.{Storage}
use Rattle.file_handles.specs.Opening.{busy, too_many}
use Rattle.file_handles.specs.Sessions.{Session, blocking, room_for}

-- what a call gives for the file of a name, or `FileNotFound` where there is none
abbrev pub found : {A : Type 0} → Option Element → (Element → Result A PerError) → Result A PerError
found None call = Err FileNotFound
found (Some file) call = call file

-- the length of the file of this name in bytes, also of an unreadable one
abbrev pub current_file_size : Map → List ℕ → Result ℕ PerError
current_file_size files name = found (element_at files name) (λ file. Ok file.len)

-- the info of a file, which every file has; `FileNotFound` where there were none, which never comes
abbrev pub info_or : Option FileInfo → Result FileInfo PerError
info_or None = Err FileNotFound
info_or (Some info) = Ok info

-- the info of the file of this name, also of an unreadable one
abbrev pub file_info : Map → List ℕ → Result FileInfo PerError
file_info files name = found (element_at files name) (λ file. info_or file.info)

-- the refusals of each call that changes a file by its name, else what it makes of the file: the storage is
-- read-only; there is no such file; any handle is on it
abbrev pub unless_held : {A : Type 0} → Storage → Session → List ℕ → (Element → Result A PerError) → Result A PerError
unless_held storage s name call =
    refuse storage.read_only IllegalWriteAccess
    (found (element_at s.files name) (λ file. refused_by (busy (blocking Write name s.handles)) (call file)))

-- the session without the file of this name
abbrev pub delete_file : Storage → Session → List ℕ → Result Session PerError
delete_file storage s name = unless_held storage s name (λ file. Ok (record s { files = without s.files name }))

-- the session with this file under the name, where there is room for its content
abbrev pub with_content : Storage → Session → List ℕ → Element → Result Session PerError
with_content storage s name file =
    refused_by (too_long (room_for s.files name storage.maximum) file.len)
    (Ok (record s { files = with_element s.files name file }))

-- an unreadable content with a salvage
abbrev pub HasSalvage : Content → Type 0
HasSalvage (Good bytes) = ⊥
HasSalvage (Bad None) = ⊥
HasSalvage (Bad (Some salvage)) = Unit {0}

-- what there is of a content: its bytes, else its salvage, else none
abbrev pub saved_bytes : Content → List ℕ
saved_bytes (Good bytes) = bytes
saved_bytes (Bad None) = []
saved_bytes (Bad (Some salvage)) = salvage

-- the file with its salvage as its content, changed at the moment `now` by a recovery
abbrev pub salvaged : ℕ → Element → Element
salvaged now file = changed_to (saved_bytes file.content) now Recovery file

-- a recovery of a file of this content takes the initial content, which has to be copied: it is there, and the file
-- is unreadable without a salvage
abbrev pub TakesInitial : Option (List ℕ) → Content → Type 0
TakesInitial initial (Good bytes) = ⊥
TakesInitial initial (Bad (Some salvage)) = ⊥
TakesInitial None (Bad None) = ⊥
TakesInitial (Some bytes) (Bad None) = Unit {0}

-- the session once a file of this content is recovered: a readable one stays; an unreadable one becomes its salvage,
-- else its initial content, else it goes
abbrev pub recovered : Storage → Session → List ℕ → ℕ → Option (List ℕ) → Element → Content → Result Session PerError
recovered storage s name now initial file (Good bytes) = Ok s
recovered storage s name now initial file (Bad (Some salvage)) =
    Ok (record s { files = with_element s.files name (changed_to salvage now Recovery file) })
recovered storage s name now (Some bytes) file (Bad None) =
    with_content storage s name (changed_to bytes now Recovery file)
recovered storage s name now None file (Bad None) = Ok (record s { files = without s.files name })

-- recovering the file of this name, whose initial content in bytes is `initial`, if it has one
abbrev pub recover_file : Storage → Session → List ℕ → ℕ → Option (List ℕ) → Result Session PerError
recover_file storage s name now initial = unless_held storage s name
    (λ file. recovered storage s name now initial file file.content)

-- the file with its initial content: created where it is missing, else changed
abbrev pub reset : ℕ → List ℕ → Option Element → Element
reset now bytes None = file_of (Some (made now Reset)) bytes
reset now bytes (Some file) = changed_to bytes now Reset file

-- resetting the file of this name to its initial content `initial`; `InitValueNotAvailable` where it has none
abbrev pub reset_file : Storage → Session → List ℕ → ℕ → Option (List ℕ) → Result Session PerError
reset_file storage s name now initial =
    refuse storage.read_only IllegalWriteAccess
    (with_initial initial (λ bytes.
    refused_by (busy (blocking Write name s.handles))
    (refused_by (too_many s.files name)
    (with_content storage s name (reset now bytes (element_at s.files name))))))
