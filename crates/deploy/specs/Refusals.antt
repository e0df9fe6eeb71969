-- Refusals that are answered at once.
use Rattle.std.specs.Prelude.{⊤}
use Rattle.per_base.specs.declared.errors.PerError.{PerError}
use Rattle.per_base.specs.declared.errors.PerError.TheVariants.{AlreadyInstalled, IntegrityCorrupted, NoPreviousVersion}
use Rattle.per_base.specs.declared.errors.PerError.TheVariants.{NotInstalled, UpdateNotFinished}
use Rattle.per_base.specs.declared.errors.Unit.TheVariants as unit

-- The root alone decides it, before all that allocates, and it carries no text. That no generation is left is none
-- of these: it is judged after a manifest, or after an open storage whose name is copied.
abbrev pub AllocatesNothing : PerError → Type 0
AllocatesNothing (IntegrityCorrupted unit.Root) = ⊤
AllocatesNothing NotInstalled = ⊤
AllocatesNothing AlreadyInstalled = ⊤
AllocatesNothing NoPreviousVersion = ⊤
AllocatesNothing (UpdateNotFinished previous) = ⊤
AllocatesNothing other = ⊥
