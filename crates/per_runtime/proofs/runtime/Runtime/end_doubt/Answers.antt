use Rattle.std.proofs.Common.{sym}
use Rattle.run_model.specs.Converters.{converters_of}
use Rattle.per_runtime.specs.Sorting.{asked_call}
use Rattle.per_runtime.proofs.Places.{on_err, on_ok}
use Rattle.per_runtime.proofs.Synced.{resumed, still_doubtful}
use Rattle.per_runtime.proofs.runtime.Runtime.end_doubt.Goals as goal

pub returns-then-is_err : goal.returns-then-is_err
returns-then-is_err g c =
    let is = sym c.if-is_err.ensures.value in
    rw c.refusal.ensures (still_doubtful (converters_of c.args.migrations.now)
    g.D.Disk.told c.args.app (asked_call c.args.asked.now) c.args.self.now
    (g.D.Disk.medium c.args.disk.now) (g.D.Disk.medium c.sync.new.self) c.requires.app c.requires.memory
    c.requires.device c.requires.doubt c.sync.ensures.writes_nothing c.sync.ensures.time
    _ c.running_is_application.ensures (on_err c.sync.result is c.sync.ensures.failed)
    (on_err c.sync.result is c.sync.ensures.cause))

pub returns : goal.returns
returns g c = resumed (converters_of c.args.migrations.now) g.D.Disk.told c.args.app
    (asked_call c.args.asked.now) c.args.self.now
    (g.D.Disk.medium c.args.disk.now) (g.D.Disk.medium c.sync.new.self) c.requires.app c.requires.memory
    c.requires.device c.requires.doubt c.sync.ensures.writes_nothing c.sync.ensures.time
    c.hand.new.self (g.D.Disk.medium c.hand.new.disk) (g.met.D.Disk.lawful c.sync.new.self)
    (on_ok c.sync.result (sym c.if-is_err.ensures.value) c.sync.ensures.quiet)
    (on_ok c.sync.result (sym c.if-is_err.ensures.value) c.sync.ensures.passes) _ _ c.hand.result c.hand.ensures
