-- The error that a failure of a call below becomes.
use Rattle.per_base.specs.declared.errors.PerError.{PerError}
use Rattle.per_base.specs.declared.errors.PerError.TheVariants.{PhysicalStorageFailure, OutOfMemory}
use Rattle.deploy.specs.declared.errors.Stop.{Stop}
use Rattle.deploy.specs.declared.errors.Stop.TheVariants as stop

-- why a call below stopped, as an error of a storage
abbrev pub of_stop : Stop → PerError
of_stop stop.Device = PhysicalStorageFailure
of_stop stop.OutOfMemory = OutOfMemory
