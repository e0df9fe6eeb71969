-- No earlier call took a byte.
use Rattle.std.specs.Io.KnownBytes.{Keeps}
use Rattle.per_system.proofs.standard.write_once.Given as goal

abbrev pub invariant-loop : goal.invariant-loop
invariant-loop g l = Keeps (g.T.Write.contents l.initial.writer) (g.T.Write.contents l.writer)
