-- When a call of an application may need memory. Every other call is answered also where no memory is left.
use Rattle.std.specs.Prelude.{◌⊎◌, ℕ, IsTrue}
use Rattle.per_base.specs.Refusals.{NeedsMemory}
use Rattle.command_text.specs.declared.calls.Call.{Call}
use Rattle.run_model.specs.Calls.{app_step}
use Rattle.run_model.specs.Steps.{reaches_device}
use Rattle.run_model.specs.Worlds.{Application}

-- the call gets past the refusals that are known without the device, and reads what is on it
abbrev pub NeedsReading : (app now : ℕ) → Call → (before : Application) → Type 0
NeedsReading app now c before = IsTrue (reaches_device app before now c)

-- its row is no refusal, or one that carries names or texts
abbrev pub RowNeedsMemory : (app now : ℕ) → Call → (before : Application) → Type 0
RowNeedsMemory app now c before = NeedsMemory (app_step app before now c)

-- memory may run out for a call that names a storage
abbrev pub CallNeedsMemory : (app now : ℕ) → Call → (before : Application) → Type 0
CallNeedsMemory app now c before = NeedsReading app now c before ⊎ RowNeedsMemory app now c before
