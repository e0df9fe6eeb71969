-- Every error but OutOfMemory has a number, and so a text.
use Rattle.std.proofs.Common.{◌≢◌, refl}
use Rattle.per_base.specs.declared.errors.PerError.{PerError}
use Rattle.per_base.specs.declared.errors.PerError.TheVariants.{StorageNotFound, KeyNotFound, IllegalWriteAccess}
use Rattle.per_base.specs.declared.errors.PerError.TheVariants.{PhysicalStorageFailure, IntegrityCorrupted}
use Rattle.per_base.specs.declared.errors.PerError.TheVariants.{DataTypeMismatch, InitValueNotAvailable, ResourceBusy}
use Rattle.per_base.specs.declared.errors.PerError.TheVariants.{OutOfStorageSpace, FileNotFound, InvalidPosition, IsEof}
use Rattle.per_base.specs.declared.errors.PerError.TheVariants.{InvalidOpenMode, InvalidSize, NotInstalled}
use Rattle.per_base.specs.declared.errors.PerError.TheVariants.{AlreadyInstalled, ManifestRejected, NoPreviousVersion}
use Rattle.per_base.specs.declared.errors.PerError.TheVariants.{NotOpen, LimitReached, IllegalReadAccess}
use Rattle.per_base.specs.declared.errors.PerError.TheVariants.{UpdateNotFinished, VersionNotNewer, BadName}
use Rattle.per_base.specs.declared.errors.PerError.TheVariants.{NoUpdateInProgress, ExportRejected, OutOfMemory}
use Rattle.command_text.specs.declared.replies.Answer.TheVariants as answer
use Rattle.command_text.specs.Replies.{HasText}

pub has_text : (e : PerError) → e ≢ OutOfMemory → HasText (answer.Error e)
has_text StorageNotFound other = refl
has_text KeyNotFound other = refl
has_text IllegalWriteAccess other = refl
has_text PhysicalStorageFailure other = refl
has_text (IntegrityCorrupted unit) other = refl
has_text (DataTypeMismatch stored asked) other = refl
has_text InitValueNotAvailable other = refl
has_text (ResourceBusy holder) other = refl
has_text (OutOfStorageSpace needed allowed) other = refl
has_text FileNotFound other = refl
has_text InvalidPosition other = refl
has_text IsEof other = refl
has_text InvalidOpenMode other = refl
has_text InvalidSize other = refl
has_text NotInstalled other = refl
has_text AlreadyInstalled other = refl
has_text (ManifestRejected rule) other = refl
has_text NoPreviousVersion other = refl
has_text NotOpen other = refl
has_text (LimitReached which) other = refl
has_text IllegalReadAccess other = refl
has_text (UpdateNotFinished previous) other = refl
has_text (VersionNotNewer active offered) other = refl
has_text BadName other = refl
has_text NoUpdateInProgress other = refl
has_text ExportRejected other = refl
has_text OutOfMemory other = absurd (other refl)
