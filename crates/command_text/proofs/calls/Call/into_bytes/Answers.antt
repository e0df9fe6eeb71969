use Rattle.std.proofs.Common.{sym}
use Rattle.command_text.proofs.Carried.{no_bytes}
use Rattle.command_text.proofs.calls.Call.into_bytes.Goals as goal

pub returns : goal.returns
returns c = sym (no_bytes c.args.self c.in_default.not-Write c.in_default.not-Put)
