-- What a call that failed leaves of what it was given.
use Rattle.std.specs.Prelude.{◌≡◌, ⊤}
use Rattle.per_base.specs.declared.faults.Fault.{Fault}
use Rattle.per_base.specs.declared.faults.Fault.TheVariants.{Device, OutOfMemory}

-- what was given to a call, how it failed, and P: where memory ran out, the very thing that was given comes back, and P
-- holds; of a failure of the device nothing is said
abbrev pub HandsBack : {T : Type 0} → T → Fault T → Type 0 → Type 0
HandsBack given Device P = ⊤
HandsBack given (OutOfMemory same) P = (same ≡ given) × P

-- the call failed because the device did, not because memory ran out
abbrev pub IsDeviceFault : {T : Type 0} → Fault T → Type 0
IsDeviceFault Device = ⊤
IsDeviceFault (OutOfMemory given) = ⊥
