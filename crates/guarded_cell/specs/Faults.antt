-- How the disk's count of faults goes with what a call says: it rises where the call says that the disk failed, and
-- stays where it says anything else.
use Rattle.std.specs.Prelude.{◌≡◌, OnOk, OnErr, IsErrOf, Result}
use Rattle.per_base.specs.Causes.{Rose}
use Rattle.disk_model.specs.Medium.{Medium}
use Rattle.disk_model.specs.declared.disk.DiskFailed.{DiskFailed}
use Rattle.guarded_cell.specs.declared.errors.CellError.{CellError}
use Rattle.guarded_cell.specs.declared.errors.CellError.TheVariants.{Device, OutOfMemory}

-- of a call that nothing but the disk can fail: the count rose where it failed, and stayed where it succeeded
pub record DiskFaults {T : Type 0} (result : Result T DiskFailed) (old new : Medium) : Type 0 where
  pub cause : OnErr result (Rose old.faults new.faults)
  pub passes : OnOk result (new.faults ≡ old.faults)

-- of a call for which memory may run out as well: the count rose where it says that the disk failed, and stayed where
-- it succeeded or memory ran out
pub record CellFaults {T : Type 0} (result : Result T CellError) (old new : Medium) : Type 0 where
  pub cause : IsErrOf result Device → Rose old.faults new.faults
  pub passes : OnOk result (new.faults ≡ old.faults)
  pub fed : IsErrOf result OutOfMemory → new.faults ≡ old.faults
