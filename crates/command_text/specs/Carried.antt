-- The bytes that an event carries.
use Rattle.std.specs.Prelude.{ℕ, List, Option, Some, None}
use Rattle.command_text.specs.declared.calls.Call.{Call}
use Rattle.command_text.specs.declared.calls.Call.TheVariants as call
use Rattle.command_text.specs.declared.calls.Event.{Event}
use Rattle.command_text.specs.declared.calls.Event.TheVariants as event

-- the bytes that a call writes by a handle, or makes the content of a file
abbrev pub call_bytes : Call → Option (List ℕ)
call_bytes (call.Write storage handle bytes) = Some bytes
call_bytes (call.Put storage name bytes) = Some bytes
call_bytes other = None

abbrev pub bytes_of : Event → Option (List ℕ)
bytes_of (event.Now moment) = None
bytes_of (event.App application c) = call_bytes c
