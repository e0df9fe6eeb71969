use Rattle.std.proofs.Common.{◌∙◌, sym, true≢false}
use Rattle.per_runtime.specs.Sorting.{asked_call}
use Rattle.per_runtime.proofs.Handing.{device_is, there}
use Rattle.per_runtime.proofs.runtime.Runtime.call.Goals as goal
use Rattle.per_runtime.proofs.runtime.Runtime.call.Goals.{else-self-via-else-self}
use Rattle.per_runtime.proofs.runtime.Runtime.call.Goals.{else-self-via-then-self+else-calls_device}

pub calls_device-requires : goal.calls_device-requires
calls_device-requires g c = (c.requires.memory.apps.each c.args.app c.index.result.now
    (there c.args.self.now.apps.items c.args.app c.index.result.now c.requires.app c.requires.memory.apps.eight
    c.index.ensures)).1

pub end_doubt-requires-clause-device : goal.end_doubt-requires-clause-device
end_doubt-requires-clause-device g c = λ tells. device_is (g.D.Disk.medium c.args.disk.now).image
    c.args.self.now.apps.items c.args.app c.index.result.now (asked_call c.args.asked.now) _
    (there c.args.self.now.apps.items c.args.app c.index.result.now c.requires.app c.requires.memory.apps.eight
    c.index.ensures) (sym (c.if-calls_device.ensures tells))

pub hand-requires-clause-sure : goal.hand-requires-clause-sure
hand-requires-clause-sure g c = λ in_doubt tells. elim c.else-self.branch [
  | else-self-via-then-self+else-calls_device w ↦ device_is (g.D.Disk.medium c.args.disk.now).image
      c.args.self.now.apps.items c.args.app w.index.result.now (asked_call c.args.asked.now) _
      (there c.args.self.now.apps.items c.args.app w.index.result.now c.requires.app c.requires.memory.apps.eight
      w.index.ensures) (sym (w.if-calls_device.ensures tells))
  | else-self-via-else-self w ↦ absurd (true≢false (sym in_doubt ∙ w.if-self.false))
]
