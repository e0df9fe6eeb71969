-- When a command of the runtime may need memory. Every other command is answered also where no memory is left.
use Rattle.std.specs.Prelude.{◌≡◌, ◌⊎◌, ℕ, true}
use Rattle.command_text.specs.declared.calls.Call.{Call}
use Rattle.command_text.specs.declared.calls.Event.{Event}
use Rattle.command_text.specs.declared.calls.Event.TheVariants as event
use Rattle.run_model.specs.Worlds.{Application, World, app_of, is_to_open}
use Rattle.per_runtime.specs.application.Needs.{MayStarve}

-- memory may run out for a call of this application: its root is to be opened first, or the call needs memory
abbrev pub OpensOrStarves : (app now : ℕ) → Call → (before : Application) → Type 0
OpensOrStarves app now c before = (is_to_open before.stage ≡ true) ⊎ MayStarve app now c before

-- memory may run out for a command; none is needed where the moment alone is set
abbrev pub CommandMayStarve : World → Event → Type 0
CommandMayStarve w (event.Now t) = ⊥
CommandMayStarve w (event.App app c) = OpensOrStarves app w.now c (app_of w app)
