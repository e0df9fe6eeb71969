-- The numbers of the errors.
use Rattle.std.specs.Prelude.{ℕ, Option, Some, None}
use Rattle.per_base.specs.declared.errors.PerError.{PerError}
use Rattle.per_base.specs.declared.errors.PerError.TheVariants.{StorageNotFound, KeyNotFound, IllegalWriteAccess}
use Rattle.per_base.specs.declared.errors.PerError.TheVariants.{PhysicalStorageFailure, IntegrityCorrupted}
use Rattle.per_base.specs.declared.errors.PerError.TheVariants.{DataTypeMismatch, InitValueNotAvailable, ResourceBusy}
use Rattle.per_base.specs.declared.errors.PerError.TheVariants.{OutOfStorageSpace, FileNotFound, InvalidPosition, IsEof}
use Rattle.per_base.specs.declared.errors.PerError.TheVariants.{InvalidOpenMode, InvalidSize, NotInstalled}
use Rattle.per_base.specs.declared.errors.PerError.TheVariants.{AlreadyInstalled, ManifestRejected, NoPreviousVersion}
use Rattle.per_base.specs.declared.errors.PerError.TheVariants.{NotOpen, LimitReached, IllegalReadAccess}
use Rattle.per_base.specs.declared.errors.PerError.TheVariants.{UpdateNotFinished, VersionNotNewer, BadName}
use Rattle.per_base.specs.declared.errors.PerError.TheVariants.{NoUpdateInProgress, ExportRejected, OutOfMemory}

-- the number of an error; OutOfMemory has none
abbrev pub error_number : PerError → Option ℕ
error_number StorageNotFound = Some 1
error_number KeyNotFound = Some 2
error_number IllegalWriteAccess = Some 3
error_number PhysicalStorageFailure = Some 4
error_number (IntegrityCorrupted unit) = Some 5
error_number (DataTypeMismatch stored asked) = Some 7
error_number InitValueNotAvailable = Some 8
error_number (ResourceBusy holder) = Some 9
error_number (OutOfStorageSpace needed allowed) = Some 10
error_number FileNotFound = Some 11
error_number InvalidPosition = Some 12
error_number IsEof = Some 13
error_number InvalidOpenMode = Some 14
error_number InvalidSize = Some 15
error_number NotInstalled = Some 20
error_number AlreadyInstalled = Some 21
error_number (ManifestRejected rule) = Some 22
error_number NoPreviousVersion = Some 23
error_number NotOpen = Some 24
error_number (LimitReached which) = Some 25
error_number IllegalReadAccess = Some 26
error_number (UpdateNotFinished previous) = Some 27
error_number (VersionNotNewer active offered) = Some 28
error_number BadName = Some 29
error_number NoUpdateInProgress = Some 30
error_number ExportRejected = Some 31
error_number OutOfMemory = None
