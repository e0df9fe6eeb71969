use Rattle.run_model.specs.Converters.{converters_of}
use Rattle.run_model.specs.RunLaws.{start_disk, starts_going}
use Rattle.run_model.proofs.laws.a_run_begins.Goals as goal

pub returns-clause-begins : goal.returns-clause-begins
returns-clause-begins g c memory time starts = starts_going (converters_of c.args.migrations.now) memory
    (g.D.Disk.medium c.args.old.now) (g.D.Disk.medium c.args.new.now) time starts

pub returns-clause-stops : goal.returns-clause-stops
returns-clause-stops g c how before after time open_end keeps =
    start_disk c.applications_stand.ensures (converters_of c.args.migrations.now) how
    before after g.D.Disk.told (g.D.Disk.medium c.args.old.now) (g.D.Disk.medium c.args.new.now)
    (g.met.D.Disk.lawful c.args.new.now) time open_end keeps
