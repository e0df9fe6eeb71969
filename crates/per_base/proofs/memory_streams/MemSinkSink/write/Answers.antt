-- A write that the plan lets fail, and one for which memory ran out.
use Rattle.std.proofs.Common.{inl, inr, rules}
use Rattle.per_base.proofs.memory_streams.MemSinkSink.write.Goals as goal

pub returns-then-contains-clause-fails : goal.returns-then-contains-clause-fails
returns-then-contains-clause-fails c = inl (search rules)

pub returns-then-is_err-clause-fails : goal.returns-then-is_err-clause-fails
returns-then-is_err-clause-fails c = inr (search rules)
