use Rattle.std.proofs.Common.{◌≡◌, sym}
use Rattle.run_model.specs.Converters.{converters_of}
use Rattle.per_runtime.specs.Sorting.{asked_call}
use Rattle.per_runtime.proofs.Single.{promised}
use Rattle.per_runtime.proofs.calls.answer.Goals as goal

pub returns-else-is_marked : goal.returns-else-is_marked
returns-else-is_marked g c = promised g.D.Disk.told (converters_of c.args.migrations.now)
    c.args.now (asked_call c.args.asked.now) c.args.running.now c.call.new.self (c.call.new.disk ≡ c.args.disk.now)
    (g.D.Disk.medium c.args.disk.now) (g.D.Disk.medium c.call.new.disk) c.call.result
    (sym c.if-is_marked.ensures) c.call.ensures
