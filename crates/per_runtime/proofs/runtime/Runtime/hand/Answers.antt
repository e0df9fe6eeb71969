use Rattle.std.proofs.Common.{Err, ap, refl, true≢false}
use Rattle.deploy.specs.declared.errors.Stop.{Stop}
use Rattle.run_model.specs.Converters.{converters_of}
use Rattle.per_runtime.specs.Sorting.{asked_call}
use Rattle.per_runtime.proofs.Handing.{answered_steps, answered_use, device_end, failed_steps, failed_use, left_alone}
use Rattle.per_runtime.proofs.Handing.{memory_end, starves_in, stopped_steps, there}
use Rattle.per_runtime.proofs.Single.{only_reads}
use Rattle.per_runtime.proofs.runtime.Runtime.hand.Goals as goal

pub answer-requires : goal.answer-requires
answer-requires g c =
    let r = c.args.self.now in
    record {
      memory = (c.requires.memory.apps.each c.args.app c.index_mut.result.now
          (there r.apps.items c.args.app c.index_mut.result.now c.requires.app c.requires.memory.apps.eight
          c.index_mut.ensures.value)).1;
    }

pub returns-in-Ok : goal.returns-in-Ok
returns-in-Ok g c =
    let r = c.args.self.now in
    let a = c.index_mut.result.now in
    let a' = c.answer.new.running in
    let converters = converters_of c.args.migrations.now in
    let told = g.D.Disk.told in
    let old = g.D.Disk.medium c.args.disk.now in
    let new = g.D.Disk.medium c.answer.new.disk in
    let reads = only_reads g.D.Disk.medium c.args.disk.now c.answer.new.disk told (g.met.D.Disk.lawful c.args.disk.now)
    in
    let here = there r.apps.items c.args.app a c.requires.app c.requires.memory.apps.eight c.index_mut.ensures.value in
    let is = c.in-Ok.ensures in
    record {
      end = record {
        memory = record {
          apps = answered_use c.applications_stand.ensures c.running_is_application.ensures c.running_stays.ensures
              converters told old new r.now c.args.app (asked_call c.args.asked.now) r.apps.items a a' r.in_doubt
              c.requires.app c.requires.memory.apps c.requires.memory.quiet here c.requires.sure _ reads _ is
              c.in-Ok.reply is.end;
          quiet = λ sure. is.end.quiet (c.requires.memory.quiet sure);
        };
        text = is.end.text;
        blamed = record {
          later = is.time.faults;
          cause = λ four. absurd (is.end.unfailed four);
          passes = λ other. is.end.passes;
        };
        stepped = λ tells doubt in_doubt. answered_steps c.applications_stand.ensures c.running_is_application.ensures
            c.running_stays.ensures converters told old new r.now c.args.app (asked_call c.args.asked.now) r.apps.items
            a a'
            r.in_doubt
            c.requires.app c.requires.memory.apps c.requires.memory.quiet here c.requires.sure _ reads _ is
            c.in-Ok.reply is.end tells doubt in_doubt;
      };
      needs = λ tells bad. absurd cc;
      fed = λ bad. absurd cc;
      idle = left_alone c.applications_stand.ensures c.running_is_application.ensures c.running_stays.ensures
          converters told old new r.now c.args.app (asked_call c.args.asked.now) r.apps.items a a' r.in_doubt
          c.requires.app c.requires.memory.apps c.requires.memory.quiet here c.requires.sure _ reads _ is;
      time = is.time;
    }

pub returns-in-Err-Device : goal.returns-in-Err-Device
returns-in-Err-Device g c =
    let r = c.args.self.now in
    let a = c.index_mut.result.now in
    let a' = c.answer.new.running in
    let converters = converters_of c.args.migrations.now in
    let told = g.D.Disk.told in
    let old = g.D.Disk.medium c.args.disk.now in
    let new = g.D.Disk.medium c.answer.new.disk in
    let reads = only_reads g.D.Disk.medium c.args.disk.now c.answer.new.disk told (g.met.D.Disk.lawful c.args.disk.now)
    in
    let here = there r.apps.items c.args.app a c.requires.app c.requires.memory.apps.eight c.index_mut.ensures.value in
    let is = c.in-Err-Device.ensures in
    let end = device_end _ _ _ c.in-Err-Device.field-0 c.in-Err-Device.field-0-is is.end in
    rw c.refusal.ensures (record {
      end = record {
        memory = record {
          apps = failed_use c.applications_stand.ensures c.running_is_application.ensures c.running_stays.ensures
              converters told old new r.now c.args.app (asked_call c.args.asked.now) r.apps.items a a' r.in_doubt
              c.requires.app c.requires.memory.apps c.requires.memory.quiet here c.requires.sure _ reads _ is end;
          quiet = λ sure. absurd (true≢false sure);
        };
        text = refl;
        blamed = record {
          later = is.time.faults;
          cause = λ four. end.cause;
          passes = λ other. absurd (other refl);
        };
        stepped = λ tells doubt in_doubt. failed_steps c.applications_stand.ensures c.running_is_application.ensures
            c.running_stays.ensures converters told old new r.now c.args.app (asked_call c.args.asked.now) r.apps.items
            a a'
            r.in_doubt
            c.requires.app c.requires.memory.apps c.requires.memory.quiet here c.requires.sure _ reads _ is end
            (g.met.D.Disk.lawful c.answer.new.disk) tells doubt in_doubt;
      };
      needs = λ tells bad. absurd cc;
      fed = λ bad. absurd cc;
      idle = left_alone c.applications_stand.ensures c.running_is_application.ensures c.running_stays.ensures
          converters told old new r.now c.args.app (asked_call c.args.asked.now) r.apps.items a a' r.in_doubt
          c.requires.app c.requires.memory.apps c.requires.memory.quiet here c.requires.sure _ reads _ is;
      time = is.time;
    })

pub returns-in-Err-OutOfMemory : goal.returns-in-Err-OutOfMemory
returns-in-Err-OutOfMemory g c =
    let r = c.args.self.now in
    let a = c.index_mut.result.now in
    let a' = c.answer.new.running in
    let converters = converters_of c.args.migrations.now in
    let told = g.D.Disk.told in
    let old = g.D.Disk.medium c.args.disk.now in
    let new = g.D.Disk.medium c.answer.new.disk in
    let reads = only_reads g.D.Disk.medium c.args.disk.now c.answer.new.disk told (g.met.D.Disk.lawful c.args.disk.now)
    in
    let here = there r.apps.items c.args.app a c.requires.app c.requires.memory.apps.eight c.index_mut.ensures.value in
    let is = c.in-Err-OutOfMemory.ensures in
    let end = memory_end _ _ _ c.in-Err-OutOfMemory.field-0 c.in-Err-OutOfMemory.field-0-is is.end in
    record {
      end = λ tells doubt in_doubt. stopped_steps c.applications_stand.ensures c.running_is_application.ensures
          c.running_stays.ensures converters told old new r.now c.args.app (asked_call c.args.asked.now) r.apps.items a
          a'
          r.in_doubt
          c.requires.app c.requires.memory.apps c.requires.memory.quiet here c.requires.sure _ reads _ is end tells
          doubt in_doubt;
      needs = λ tells bad. starves_in c.applications_stand.ensures c.running_is_application.ensures
          c.running_stays.ensures converters told old new r.now c.args.app (asked_call c.args.asked.now) r.apps.items a
          a'
          r.in_doubt
          c.requires.app c.requires.memory.apps c.requires.memory.quiet here c.requires.sure _ reads _ is
          (is.needs tells (ap (λ (x : Stop). Err x) c.in-Err-OutOfMemory.field-0-is));
      fed = λ bad. is.fed (ap (λ (x : Stop). Err x) c.in-Err-OutOfMemory.field-0-is);
      idle = left_alone c.applications_stand.ensures c.running_is_application.ensures c.running_stays.ensures
          converters told old new r.now c.args.app (asked_call c.args.asked.now) r.apps.items a a' r.in_doubt
          c.requires.app c.requires.memory.apps c.requires.memory.quiet here c.requires.sure _ reads _ is;
      time = is.time;
    }
