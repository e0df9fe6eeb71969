use Rattle.run_model.specs.Converters.{converters_of}
use Rattle.run_model.specs.RunLaws.{steps_going}
use Rattle.run_model.proofs.laws.a_run_goes_on.Goals as goal

pub returns : goal.returns
returns g c tells turns e reply memory next doubt time going stepped =
    steps_going (converters_of c.args.migrations.now) turns e reply memory next
    doubt g.D.Disk.told (g.D.Disk.medium c.args.old.now) (g.D.Disk.medium c.args.now.now)
    (g.D.Disk.medium c.args.new.now) tells (g.met.D.Disk.lawful c.args.new.now) time going stepped
