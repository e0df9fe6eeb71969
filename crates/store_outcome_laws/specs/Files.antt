-- What no call on files leaves, beside the clause that excludes it.
use Rattle.std.specs.Prelude.{◌≡◌, ℕ, List, Some, Ok}
use Rattle.per_base.specs.declared.opening.OpenKind.TheVariants as kind
use Rattle.per_base.specs.declared.opening.OpenMode.{OpenMode}
use Rattle.file_handles.specs.declared.handle.Handle.{Handle}
use Rattle.file_handles.specs.declared.storage.Storage.{Storage}
use Rattle.file_handles.specs.Opening.{open_file}
use Rattle.file_handles.specs.Sessions.{Session, handle_at}
use Rattle.file_storage.specs.FileSessions.{FilesInUse}
use Rattle.file_storage.specs.Scopes.{without_open_handle}

-- a file is opened for writing beside a reader
abbrev pub WriterBesideReader : Type 0
WriterBesideReader = (storage : Storage) (before after : Session) (name : List ℕ) (mode : OpenMode)
    (now number opened : ℕ) (reader : Handle)
    → handle_at before.handles number ≡ Some reader → reader.name ≡ name
    → ¬ (open_file storage before name kind.Write mode now ≡ Ok (opened, after))

-- the drop of a scoped handle leaves the handle
abbrev pub HandleLeft : Type 0
HandleLeft = (before after : FilesInUse) (number : ℕ) (handle : Handle) → after ≡ without_open_handle before number
    → handle_at before.session.handles number ≡ Some handle
    → ¬ (after.session.handles ≡ before.session.handles)
