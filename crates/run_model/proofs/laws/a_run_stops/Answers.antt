use Rattle.run_model.specs.Converters.{converters_of}
use Rattle.run_model.specs.RunLaws.{stops_disk}
use Rattle.run_model.proofs.laws.a_run_stops.Goals as goal

pub returns : goal.returns
returns g c how lines all others text turns before after e memory doubt time started open_end wrote is_next spelled
    going stopped = stops_disk c.applications_stand.ensures (converters_of c.args.migrations.now) how lines all others
    text turns before after e memory doubt
    g.D.Disk.told (g.D.Disk.medium c.args.old.now) (g.D.Disk.medium c.args.now.now) (g.D.Disk.medium c.args.new.now)
    (g.met.D.Disk.lawful c.args.new.now) time started open_end wrote is_next spelled going stopped
