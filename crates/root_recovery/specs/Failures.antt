-- The errors of a register, as reasons to stop. A corrupt text is never one: no call that is made here says it.
use Rattle.guarded_cell.specs.declared.errors.CellError.{CellError}
use Rattle.guarded_cell.specs.declared.errors.CellError.TheVariants as cell
use Rattle.root_recovery.specs.declared.errors.RecoveryError.{RecoveryError}
use Rattle.root_recovery.specs.declared.errors.RecoveryError.TheVariants.{Device, OutOfMemory}

-- `Corrupt`, which cannot come, is mapped to anything
abbrev pub of_cell : CellError → RecoveryError
of_cell cell.Device = Device
of_cell cell.Corrupt = OutOfMemory
of_cell cell.OutOfMemory = OutOfMemory
