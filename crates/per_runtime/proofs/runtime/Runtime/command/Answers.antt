use Rattle.std.proofs.Common.{le_refl, refl, sym}
use Rattle.disk_model.specs.Laws.{elapses_none}
use Rattle.run_model.specs.Converters.{converters_of}
use Rattle.per_runtime.proofs.Lifted.{not_four, now_steps}
use Rattle.per_runtime.proofs.runtime.Runtime.command.Goals as goal

pub returns-in-Now : goal.returns-in-Now
returns-in-Now g c =
    let r = c.args.self.now in
    let m = g.D.Disk.medium c.args.disk.now in
    let lawful = g.met.D.Disk.lawful c.args.disk.now in
    rw (c.in-Now.is, c.answered.ensures) (record {
      end = record {
        memory = record { apps = c.requires.memory.apps; quiet = c.requires.memory.quiet };
        text = tt;
        blamed = record {
          later = le_refl m.faults;
          cause = λ four. absurd (not_four four);
          passes = λ other. refl;
        };
        stepped = λ tells doubt is. now_steps c.applications_stand.ensures c.running_is_application.ensures
            (converters_of c.args.migrations.now) g.D.Disk.told m
            r.now c.in-Now.moment r.apps.items r.in_doubt tells lawful c.requires.memory.apps c.requires.memory.quiet
            doubt is;
      };
      needs = λ tells bad. absurd cc;
      fed = λ bad. absurd cc;
      idle = λ tells none. refl;
      time = elapses_none lawful;
    })

pub returns-in-App : goal.returns-in-App
returns-in-App g c = rw (c.in-App.is, sym c.from.ensures, sym c.sort.ensures) c.call.ensures
