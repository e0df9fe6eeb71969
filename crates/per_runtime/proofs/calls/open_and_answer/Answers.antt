use Rattle.std.proofs.Common.{◌≡◌, ◌∙◌, Err, ap, inl, refl}
use Rattle.std.proofs.lemmas.Result.{err_from_is_err_and}
use Rattle.disk_model.specs.Laws.{elapses_on}
use Rattle.deploy.specs.declared.errors.Stop.{Stop}
use Rattle.run_model.specs.Converters.{converters_of}
use Rattle.run_model.specs.Runtimes.{Running}
use Rattle.run_model.specs.Worlds.{is_to_open}
use Rattle.per_runtime.specs.Sorting.{asked_call}
use Rattle.per_runtime.proofs.Single.{marked_at, none_idle, none_written, not_in_use, opened_alone, opened_first}
use Rattle.per_runtime.proofs.Single.{opening_failed, promised, within_behind}
use Rattle.per_runtime.proofs.calls.open_and_answer.Goals as goal

pub returns-in_err-open_root : goal.returns-in_err-open_root
returns-in_err-open_root g c =
    let p = err_from_is_err_and c.from_residual.result c.from_residual.ensures.1 in
    let a = c.args.running.now in
    let said = c.in_err-open_root.ensures in
    let old = g.D.Disk.medium c.args.disk.now in
    let mid = g.D.Disk.medium c.open_root.new.disk in
    let closed = marked_at c.running_is_application.ensures g.D.Disk.told old.image a c.requires.marked
    c.requires.memory in
    rw (p.1, p.2) (record {
      end = opening_failed c.applications_stand.ensures.mend g.D.Disk.told (converters_of c.args.migrations.now)
          c.args.now (asked_call c.args.asked.now) a c.open_root.new.self old mid
          c.requires.marked said.app closed c.in_err-open_root.field-0.0 said.memory
          (said.failed c.in_err-open_root.field-0.0 refl) said.on_the_way
          (λ is. said.cause (ap (λ (s : Stop). Err s) is));
      needs = λ tells bad. inl (ap is_to_open c.requires.marked);
      fed = λ is. said.fed cc;
      idle = λ tells. none_idle c.applications_stand.ensures.mend g.D.Disk.told (converters_of c.args.migrations.now)
          c.args.now (asked_call c.args.asked.now) a c.open_root.new.self old mid
          c.requires.marked said.app closed _;
      place = λ tells opened. not_in_use c.applications_stand.ensures.mend g.D.Disk.told
          (converters_of c.args.migrations.now) c.args.now (asked_call c.args.asked.now) a c.open_root.new.self old mid
          c.requires.marked said.app closed opened;
      looks = λ plans opened. not_in_use c.applications_stand.ensures.mend g.D.Disk.told
          (converters_of c.args.migrations.now) c.args.now (asked_call c.args.asked.now) a c.open_root.new.self old mid
          c.requires.marked said.app closed opened;
      written = none_written c.applications_stand.ensures.mend g.D.Disk.told (converters_of c.args.migrations.now)
          c.args.now (asked_call c.args.asked.now) a c.open_root.new.self old mid
          c.requires.marked said.app closed mid;
      within = λ tells. opened_alone g.D.Disk.told (converters_of c.args.migrations.now)
          c.args.now (asked_call c.args.asked.now) a old mid c.requires.marked (said.slots tells) (said.once tells)
          (said.already tells);
      time = said.time;
    })

pub call-requires-clause-opened : goal.call-requires-clause-opened
call-requires-clause-opened g c = ap (λ (r : Running). is_to_open r.stage) c.in_ok-open_root.ensures.opened

pub returns : goal.returns
returns g c =
    let told = g.D.Disk.told in
    let converters = converters_of c.args.migrations.now in
    let a = c.args.running.now in
    let b = c.open_root.new.self in
    let said = c.in_ok-open_root.ensures in
    let old = g.D.Disk.medium c.args.disk.now in
    let mid = g.D.Disk.medium c.open_root.new.disk in
    let new = g.D.Disk.medium c.call.new.disk in
    let closed = marked_at c.running_is_application.ensures told old.image a c.requires.marked c.requires.memory in
    let then = promised told converters c.args.now (asked_call c.args.asked.now) b c.call.new.self
    (c.call.new.disk ≡ c.open_root.new.disk) mid new c.call.result
    (ap (λ (r : Running). is_to_open r.stage) said.opened) c.call.ensures in
    record {
      end = opened_first c.applications_stand.ensures.mend told converters c.args.now (asked_call c.args.asked.now) a b
          old mid
          c.requires.marked said.app closed said.opened said.quiet said.root c.call.new.self new then.time said.passes
          c.call.result said.time then.end;
      needs = λ tells bad. inl (ap is_to_open c.requires.marked);
      fed = λ bad. then.fed bad ∙ said.passes;
      idle = λ tells. none_idle c.applications_stand.ensures.mend told converters c.args.now (asked_call
          c.args.asked.now) a b old
          mid c.requires.marked said.app closed _;
      place = λ tells opened. not_in_use c.applications_stand.ensures.mend told converters c.args.now
          (asked_call c.args.asked.now) a b old mid c.requires.marked said.app closed opened;
      looks = λ plans opened. not_in_use c.applications_stand.ensures.mend told converters c.args.now
          (asked_call c.args.asked.now) a b old mid c.requires.marked said.app closed opened;
      written = none_written c.applications_stand.ensures.mend told converters c.args.now (asked_call c.args.asked.now)
          a b old mid
          c.requires.marked said.app closed new;
      within = within_behind c.applications_stand.ensures.mend told converters c.args.now (asked_call c.args.asked.now)
          a b old mid
          c.requires.marked said.app closed said.opened said.slots said.root new then.within;
      time = elapses_on said.time then.time;
    }
