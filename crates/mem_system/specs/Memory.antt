-- A folder in memory: what it is as a system.
use Rattle.std.specs.Prelude.{◌≡◌, List, ◌++◌, ◌∷◌, []}
use Rattle.disk_model.specs.History.{image_of}
use Rattle.system_model.specs.SystemMedium.{SystemMedium}
use Rattle.mem_system.specs.declared.memory.MemSystem.{MemSystem}
use Rattle.mem_system.specs.declared.record.Call.{Call}
use Rattle.mem_system.specs.History.{folder_after}

-- what is said of a folder in memory as a system, by the files at which its record began and the calls since
abbrev pub mem_medium : MemSystem → SystemMedium
mem_medium system = folder_after (image_of system.start) system.history.items

-- the new system's record is of these calls, and began at the same files as that of the old one
pub record HasRecord (old new : MemSystem) (calls : List Call) : Type 0 where
  pub start_is : new.start ≡ old.start
  pub calls_are : new.history.items ≡ calls

-- the record is the same: nothing but counts changed
abbrev pub SameRecord : MemSystem → MemSystem → Type 0
SameRecord old new = HasRecord old new old.history.items

-- this call was added at the end of the record
abbrev pub AddsCall : Call → MemSystem → MemSystem → Type 0
AddsCall call old new = HasRecord old new (old.history.items ++ call ∷ [])
