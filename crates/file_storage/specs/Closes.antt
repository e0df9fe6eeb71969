-- What making the working files durable gives back.
use Rattle.std.specs.Prelude.{⊤}
use Rattle.per_base.specs.declared.errors.PerError.{PerError}
use Rattle.file_storage.specs.declared.syncing.Closed.{Closed}
use Rattle.file_storage.specs.declared.syncing.Closed.TheVariants.{Done, Refused}
use Rattle.file_storage.specs.FileSessions.{FilesInUse}

-- P holds where the storage was closed, and Q of the open storage and the error where that was refused
abbrev pub MatchClosed : Closed → Type 0 → (FilesInUse → PerError → Type 0) → Type 0
MatchClosed Done P Q = P
MatchClosed (Refused files error) P Q = Q files error

-- P holds where the storage was closed
abbrev pub OnDone : Closed → Type 0 → Type 0
OnDone closed P = MatchClosed closed P (λ files error. ⊤)
