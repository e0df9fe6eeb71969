use Rattle.std.proofs.Common.{◌≡◌, map}
use Rattle.kvs_store.specs.Judged.{shown_entry}
use Rattle.kvs_store.proofs.judging.judge_all.Given as goal

abbrev pub invariant-loop-entry : goal.invariant-loop-entry
invariant-loop-entry l = l.judged.items ≡ map (shown_entry l.session.visible) l.yielded
