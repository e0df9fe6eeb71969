use Rattle.std.proofs.Common.{rules}
use Rattle.value_text.proofs.Printed.{plain_char}
use Rattle.value_text.proofs.printing.push_escaped_char.Goals as goal

pub returns : goal.returns
returns c = rw (plain_char c.args.c c.if-c-eq34.false c.if-c-eq92.false c.if-c-eq10.false) (search rules)
