use Rattle.run_model.specs.Converters.{converters_of}
use Rattle.run_model.specs.RunLaws.{ends_disk}
use Rattle.run_model.proofs.laws.a_run_ends.Goals as goal

pub returns : goal.returns
returns g c how lines all turns before after memory doubt started going =
    ends_disk c.applications_stand.ensures (converters_of c.args.migrations.now) how lines
    all turns before after memory doubt
    (g.D.Disk.medium c.args.old.now) (g.D.Disk.medium c.args.now.now) started going
