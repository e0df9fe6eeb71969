-- When a line of the input may need memory.
use Rattle.std.specs.Prelude.{◌⊎◌, Bool, ℕ, List, None}
use Rattle.disk_model.specs.Image.{Image}
use Rattle.disk_model.specs.Medium.{Medium}
use Rattle.command_text.specs.declared.calls.Event.{Event}
use Rattle.command_text.specs.declared.lines.Line.TheVariants as line
use Rattle.command_text.specs.Grammar.{IsLine}
use Rattle.command_text.specs.Memory.{Allocates}
use Rattle.command_text.specs.declared.replies.Reply.{Reply}
use Rattle.run_model.specs.Converters.{Converters}
use Rattle.run_model.specs.Lines.{IsBad}
use Rattle.run_model.specs.Runtimes.{Memory, world_of, RuntimeAt}
use Rattle.per_runtime.specs.Needs.{CommandMayStarve}
use Rattle.per_run.specs.Steps.{IsLineAnswered}

-- memory may run out for this line: it has arguments, which are kept, or it is a command that may need memory
abbrev pub LineMayStarve : Image → Memory → (text : List ℕ) → Type 0
LineMayStarve image memory text = Allocates text
    ⊎ ((e : Event) × IsLine text (line.Event e) × CommandMayStarve (world_of image memory None) e)

-- memory may run out for the text of a reply: the command of the line is done, and this is its reply
abbrev pub ReplyMayStarve : (told : Bool) → Converters → (text : List ℕ) → (old new : RuntimeAt Medium) → Type 0
ReplyMayStarve told converters text old new = (reply : Reply) × IsLineAnswered told converters text old new reply

-- memory may run out for this line or for what is written of it: the line may need memory, or its command is done and
-- the reply's text needs it, or the line is outside the grammar, which is answered by a text too
abbrev pub HandlingMayStarve : (told : Bool) → Converters → (text : List ℕ) → (old new : RuntimeAt Medium) → Type 0
HandlingMayStarve told converters text old new = LineMayStarve old.disk.image old.memory text
    ⊎ (ReplyMayStarve told converters text old new ⊎ IsBad text)
