use Rattle.std.proofs.Common.{◌≡◌, drop}
use Rattle.disk_model.specs.History.{image_of, image_after}
use Rattle.disk_model.proofs.history.replay.Given as goal

abbrev pub invariant-loop-call : goal.invariant-loop-call
invariant-loop-call l = image_after (drop l.call-index l.calls) (image_of l.files)
    ≡ image_after l.calls (image_of l.initial.files)
