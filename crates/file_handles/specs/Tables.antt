-- What a table of files and handles shows, and what always holds of it.
use Rattle.std.specs.Prelude.{◌≡◌, ℕ, ◌≤◌, List, length, Some, IsTrue}
use Rattle.std.specs.List.Sorted.{IsStrictlySortedBy}
use Rattle.std.specs.Map.{keys_of}
use Rattle.std.specs.Ordering.{nat_cmp}
use Rattle.per_base.specs.Maps.{Map, element_at, size_of}
use Rattle.per_base.specs.Names.{name_cmp}
use Rattle.file_core.specs.Places.{writes}
use Rattle.file_handles.specs.declared.handle.Handle.{Handle}
use Rattle.file_handles.specs.declared.storage.Storage.{Storage}
use Rattle.file_handles.specs.Sessions.{Session, Handles, IsFileAt, IsHeldAt, handle_at}

-- what contracts see of a table: what is known of the storage, the files and handles, and the moment last given, in
-- seconds
pub record Table : Type 0 where
  pub storage : Storage
  pub session : Session
  pub moment : ℕ

-- each handle has its file, which is readable, and its position is in the file or at its end
abbrev pub Held : Map → Handles → Type 0
Held files handles = (number : ℕ) (handle : Handle) → handle_at handles number ≡ Some handle
    → IsHeldAt (element_at files handle.name) handle.cursor.position

-- a handle that writes is the only one on its file
abbrev pub Alone : Handles → Type 0
Alone handles = (number other : ℕ) (writer rival : Handle) → handle_at handles number ≡ Some writer
    → handle_at handles other ≡ Some rival → IsTrue (writes writer.cursor.kind) → rival.name ≡ writer.name
    → other ≡ number

-- the numbers of handles are from 1 to 64, the most that may be open
abbrev pub Numbered : Handles → Type 0
Numbered handles = (number : ℕ) (handle : Handle) → handle_at handles number ≡ Some handle
    → (1 ≤ number) × (number ≤ 64)

-- each element of a map is a file
abbrev pub AreFiles : Map → Type 0
AreFiles files = (name : List ℕ) → IsFileAt (element_at files name)

-- files and handles are in order and within their limits (1,024 files, 64 handles, 4,194,304 bytes), the files never
-- take more bytes than the storage is allowed, and the handles are sound
pub record IsTable (storage : Storage) (files : Map) (handles : Handles) : Type 0 where
  pub allowed : storage.maximum ≤ 4194304
  pub names : IsStrictlySortedBy name_cmp (keys_of files)
  pub numbers : IsStrictlySortedBy nat_cmp (keys_of handles)
  pub numbered : Numbered handles
  pub whole : AreFiles files
  pub few_files : length files ≤ 1024
  pub few_handles : length handles ≤ 64
  pub room : size_of files ≤ storage.maximum
  pub held : Held files handles
  pub alone : Alone handles
