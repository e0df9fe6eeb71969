use Rattle.std.proofs.Common.{◌≡◌, ◌∙◌}
use Rattle.disk_model.specs.History.{image_of, start_image}
use Rattle.disk_model.specs.Memory.{synced_image}
use Rattle.disk_model.proofs.Outcomes.{kept, lost, stable_image}
use Rattle.disk_model.proofs.memory.MemDisk.crash.Goals as goal

pub returns-then-keep-clause-bytes : goal.returns-then-keep-clause-bytes
returns-then-keep-clause-bytes c = rw c.if-keep.true c.holding.ensures.image

pub returns-then-keep-clause-outcome : goal.returns-then-keep-clause-outcome
returns-then-keep-clause-outcome c = kept c.args.self (image_of c.holding.result.files) c.holding.ensures.image

is_stable : (c : goal.After-drop-self-2) → image_of c.holding-2.result.files ≡ synced_image c.args.self
is_stable c = stable_image c.args.self.calls.items c.deref.result.now c.deref-2.result.now c.synced.result
    (start_image c.args.self.files c.args.self.start) (image_of c.begun-stable.result)
    (image_of c.holding-2.result.files)
    c.deref.ensures.value c.deref-2.ensures.value c.begun-stable.ensures c.synced.ensures.base
    (c.holding-2.ensures.image ∙ c.in_ok-replay.ensures)

pub returns-clause-bytes : goal.returns-clause-bytes
returns-clause-bytes c = rw c.if-keep.false (is_stable c)

pub returns-clause-outcome : goal.returns-clause-outcome
returns-clause-outcome c = lost c.args.self (image_of c.holding-2.result.files) (is_stable c)
