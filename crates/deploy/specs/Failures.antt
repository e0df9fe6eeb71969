-- The errors of the crates below, as reasons to stop. A corrupt text is never one: the calls below that could say it
-- say that they do not.
use Rattle.per_base.specs.declared.faults.Fault.{Fault}
use Rattle.per_base.specs.declared.faults.Fault.TheVariants as fault
use Rattle.guarded_cell.specs.declared.cell.Cell.{Cell}
use Rattle.guarded_cell.specs.declared.errors.CellError.{CellError}
use Rattle.guarded_cell.specs.declared.errors.CellError.TheVariants as cell
use Rattle.element_state.specs.declared.errors.StoreError.{StoreError}
use Rattle.element_state.specs.declared.errors.StoreError.TheVariants as store
use Rattle.deploy.specs.declared.errors.Stop.{Stop}
use Rattle.deploy.specs.declared.errors.Stop.TheVariants.{Device, OutOfMemory}

-- an error of a register's call
abbrev pub of_cell : CellError → Stop
of_cell cell.Device = Device
of_cell cell.Corrupt = OutOfMemory
of_cell cell.OutOfMemory = OutOfMemory

-- an error of a storage's call
abbrev pub of_store : StoreError → Stop
of_store store.Device = Device
of_store store.Corrupt = OutOfMemory
of_store store.OutOfMemory = OutOfMemory

-- a failed write of a register
abbrev pub of_write : Fault Cell → Stop
of_write fault.Device = Device
of_write (fault.OutOfMemory same) = OutOfMemory
