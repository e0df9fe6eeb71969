use Rattle.std.proofs.Common.{◌≡◌, ◌≤◌, drop}
use Rattle.disk_model.specs.History.{image_of, torn_after}
use Rattle.disk_model.proofs.history.replay_torn.Given as goal

abbrev pub invariant-loop-call : goal.invariant-loop-call
invariant-loop-call l =
    (l.i ≤ l.call-index)
    × (torn_after l.pattern l.i (drop l.call-index l.calls) (image_of l.files)
    ≡ torn_after l.pattern 0 l.calls (image_of l.initial.files))
