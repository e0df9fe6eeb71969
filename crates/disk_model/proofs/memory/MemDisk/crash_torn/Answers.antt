use Rattle.std.proofs.Common.{◌≡◌, ◌∙◌}
use Rattle.disk_model.specs.History.{image_of, start_image}
use Rattle.disk_model.specs.Memory.{synced_image, torn_image}
use Rattle.disk_model.proofs.Outcomes.{torn_outcome, torn_long, torn_is, stable_image}
use Rattle.disk_model.proofs.memory.MemDisk.crash_torn.Goals as goal

is_torn : (c : goal.After-drop-self-2) → image_of c.holding.result.files ≡ torn_image c.args.self c.args.pattern
is_torn c =
    let calls = c.args.self.calls.items in
    let stable : image_of c.replay.new.files ≡ synced_image c.args.self =
    stable_image calls c.deref-2.result.now c.deref.result.now c.synced-stable.result
    (start_image c.args.self.files c.args.self.start) (image_of c.begun-torn.result) (image_of c.replay.new.files)
    c.deref-2.ensures.value c.deref.ensures.value c.begun-torn.ensures c.synced-stable.ensures.base
    c.in_ok-replay.ensures in
    torn_is c.args.pattern calls c.deref.result.now c.deref-3.result.now c.synced-stable.result
    (image_of c.replay.new.files) (synced_image c.args.self) (image_of c.holding.result.files)
    c.deref.ensures.value c.deref-3.ensures.value stable c.synced-stable.ensures.pending
    (c.holding.ensures.image ∙ c.in_ok-replay_torn.ensures)

pub returns-clause-bytes : goal.returns-clause-bytes
returns-clause-bytes c = is_torn c

pub returns-clause-long : goal.returns-clause-long
returns-clause-long c = torn_long c.args.self c.args.pattern (image_of c.holding.result.files) (is_torn c)

pub returns-clause-outcome : goal.returns-clause-outcome
returns-clause-outcome c = torn_outcome c.args.self c.args.pattern (image_of c.holding.result.files) (is_torn c)
