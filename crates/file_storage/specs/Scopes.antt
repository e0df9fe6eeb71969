-- A handle that is closed when it is dropped.
use Rattle.std.specs.Prelude.{ℕ}
use Rattle.file_handles.specs.Sessions.{without_handle}
use Rattle.file_storage.specs.FileSessions.{FilesInUse}

-- the open storage once the handle of this number is closed
abbrev pub without_open_handle : FilesInUse → ℕ → FilesInUse
without_open_handle s number = record s {
  session = record s.session
      { handles = without_handle s.session.handles number };
}
