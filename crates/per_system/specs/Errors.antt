-- What an error of the system says of a file.
use Rattle.std.specs.Prelude.{◌≡◌, ◌⊎◌, Some, pos}
use Rattle.std.specs.declared.io.Error.{Error}
use Rattle.std.specs.declared.io.ErrorKind.TheVariants.{Interrupted, OutOfMemory, PermissionDenied, ReadOnlyFilesystem}
use Rattle.std.specs.declared.io.ErrorKind.TheVariants.{InvalidInput}
use Rattle.std.specs.IoError.{error_kind, raw_os_error}

-- The call was interrupted, or not allowed, or the system lacks memory or descriptors (`ENFILE` is 23, `EMFILE` 24):
-- nothing is said of the file.
abbrev pub SaysNothing : Error → Type 0
SaysNothing error = (error_kind error ≡ Interrupted) ⊎ ((error_kind error ≡ OutOfMemory)
    ⊎ ((error_kind error ≡ PermissionDenied) ⊎ ((error_kind error ≡ ReadOnlyFilesystem)
    ⊎ ((raw_os_error error ≡ Some (pos 23)) ⊎ (raw_os_error error ≡ Some (pos 24))))))

-- a sync was asked of what takes none: nothing of it can be pending
abbrev pub HoldsNothingPending : Error → Type 0
HoldsNothingPending error = error_kind error ≡ InvalidInput
