use Rattle.std.proofs.Common.{◌≡◌, ◌<◌, Err, sym, ap, ◌∙◌, arith}
use Rattle.std.proofs.lemmas.Result.{err_from_is_err_and}
use Rattle.disk_model.specs.Laws.{elapses_on, rose_before}
use Rattle.deploy.specs.declared.errors.Stop.{Stop}
use Rattle.run_model.specs.Starting.{opened_keeps}
use Rattle.per_runtime.proofs.Begins.{all_begun, already_at, none_opened, once_at, one_opened, root_at, stopped_by}
use Rattle.per_runtime.proofs.Begins.{slots_at, some_written, stops_at, unsynced_keeps, unsynced_written, way_at}
use Rattle.per_runtime.proofs.Places.{on_err, on_ok}
use Rattle.per_runtime.proofs.starting.open_all.Goals as goal

pub returns-then-is_err : goal.returns-then-is_err
returns-then-is_err g c =
    let is = sym c.if-is_err.ensures.value in
    let old = g.D.Disk.medium c.args.disk.now in
    let new = g.D.Disk.medium c.sync.new.self in
    record {
      end = on_err c.sync.result is c.sync.ensures.cause;
      keeps = λ tells. unsynced_keeps old new (on_err c.sync.result is c.sync.ensures.failed);
      written = unsynced_written old new (on_err c.sync.result is c.sync.ensures.failed);
      time = c.sync.ensures.time;
    }

pub loop-app-init : goal.loop-app-init
loop-app-init g c = rw c.new-apps.ensures.items (none_opened c.applications_stand.ensures g.D.Disk.told
    (g.D.Disk.medium c.args.disk.now) (g.D.Disk.medium c.sync.new.self)
    (on_ok c.sync.result (sym c.if-is_err.ensures.value) c.sync.ensures.quiet) c.sync.ensures.writes_nothing
    c.sync.ensures.time (on_ok c.sync.result (sym c.if-is_err.ensures.value) c.sync.ensures.passes))

pub returns-in_err-running : goal.returns-in_err-running
returns-in_err-running g c =
    let p = err_from_is_err_and c.from_residual.result c.from_residual.ensures.1 in
    let it = c.loop-app.invariant in
    rw (p.1, p.2) (record {
      end = it.passes;
      keeps = λ tells. opened_keeps c.applications_stand.ensures c.loop-app.app (g.D.Disk.medium c.args.disk.now)
          (g.D.Disk.medium c.loop-app.disk) (omega arith) (it.opened tells);
      written = some_written _ _ _ c.loop-app.app (omega arith) it.written (omega arith);
      time = it.time;
    })

pub returns-in_err-open_root : goal.returns-in_err-open_root
returns-in_err-open_root g c =
    let p = err_from_is_err_and c.from_residual-in_err-open_root.result c.from_residual-in_err-open_root.ensures.1 in
    let it = c.loop-app.invariant in
    let lt : c.loop-app.app < 8 = omega arith in
    let old = g.D.Disk.medium c.args.disk.now in
    let now = g.D.Disk.medium c.loop-app.disk in
    let new = g.D.Disk.medium c.open_root.new.disk in
    let said = c.in_err-open_root.ensures in
    rw (p.1, p.2) (record {
      end = stopped_by g.D.Disk.told old new c.in_err-open_root.field-0.0
          (λ is. rose_before old.faults now.faults new.faults it.time.faults
          (said.cause (ap (λ (s : Stop). Err s) is)))
          (λ is. said.fed (ap (λ (s : Stop). Err s) is) ∙ it.passes);
      keeps = λ tells. stops_at c.applications_stand.ensures g.D.Disk.told c.loop-app.app old now new lt
          (g.met.D.Disk.lawful c.open_root.new.disk) (it.opened tells) said.time
          (way_at c.in_ok-running.running.app c.loop-app.app now new c.in_ok-running.ensures.app
          (said.on_the_way tells))
          (slots_at c.in_ok-running.running.app c.loop-app.app now new c.in_ok-running.ensures.app (said.slots tells))
          (once_at c.in_ok-running.running.app c.loop-app.app now new c.in_ok-running.ensures.app (said.once tells))
          (already_at c.in_ok-running.running.app c.loop-app.app now new c.in_ok-running.ensures.app
          (said.already tells));
      written = some_written _ _ _ c.loop-app.app lt it.written said.written;
      time = elapses_on it.time said.time;
    })

pub returns-in_err-push : goal.returns-in_err-push
returns-in_err-push g c =
    let p = err_from_is_err_and c.from_residual-in_err-push.result c.from_residual-in_err-push.ensures.1 in
    let it = c.loop-app.invariant in
    let lt : c.loop-app.app < 8 = omega arith in
    let old = g.D.Disk.medium c.args.disk.now in
    let now = g.D.Disk.medium c.loop-app.disk in
    let new = g.D.Disk.medium c.open_root.new.disk in
    let said = c.in_ok-open_root.ensures in
    rw (p.1, p.2) (record {
      end = said.passes ∙ it.passes;
      keeps = λ tells. stops_at c.applications_stand.ensures g.D.Disk.told c.loop-app.app old now new lt
          (g.met.D.Disk.lawful c.open_root.new.disk) (it.opened tells) said.time
          (way_at c.in_ok-running.running.app c.loop-app.app now new c.in_ok-running.ensures.app
          (said.on_the_way tells))
          (slots_at c.in_ok-running.running.app c.loop-app.app now new c.in_ok-running.ensures.app (said.slots tells))
          (once_at c.in_ok-running.running.app c.loop-app.app now new c.in_ok-running.ensures.app (said.once tells))
          (already_at c.in_ok-running.running.app c.loop-app.app now new c.in_ok-running.ensures.app
          (said.already tells));
      written = some_written _ _ _ c.loop-app.app lt it.written said.written;
      time = elapses_on it.time said.time;
    })

pub loop-app-preserved : goal.loop-app-preserved
loop-app-preserved g c =
    let it = c.loop-app.invariant in
    let lt : c.loop-app.app < 8 = omega arith in
    let now = g.D.Disk.medium c.loop-app.disk in
    let new = g.D.Disk.medium c.open_root.new.disk in
    let said = c.in_ok-open_root.ensures in
    rw c.in_ok-push.ensures.items (one_opened c.applications_stand.ensures c.running_stays.ensures g.D.Disk.told
    c.loop-app.app c.loop-app.apps.items c.open_root.new.self
    (g.D.Disk.medium c.args.disk.now) now new lt it (said.app ∙ c.in_ok-running.ensures.app) said.memory said.opened
    (λ tells. root_at c.in_ok-running.running.app c.loop-app.app now new c.in_ok-running.ensures.app (said.root tells))
    (λ tells. way_at c.in_ok-running.running.app c.loop-app.app now new c.in_ok-running.ensures.app
    (said.on_the_way tells)) said.quiet said.time said.passes said.written)

pub returns : goal.returns
returns g c =
    let it = c.loop-app.invariant in
    let all : c.loop-app.app ≡ 8 = omega arith in
    let old = g.D.Disk.medium c.args.disk.now in
    let now = g.D.Disk.medium c.loop-app.disk in
    all_begun c.applications_stand.ensures g.D.Disk.told c.loop-app.app c.loop-app.apps old now all it

pub open_root-requires-clause-memory : goal.open_root-requires-clause-memory
open_root-requires-clause-memory g c = c.in_ok-running.ensures.memory g.D.Disk.told
    (g.D.Disk.medium c.loop-app.disk).image
