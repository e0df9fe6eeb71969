use Rattle.run_model.specs.KeepLaws.{after_root_keeps, after_sync_keeps, root_then}
use Rattle.run_model.proofs.laws.a_command_follows.Goals as goal

pub returns-clause-synced : goal.returns-clause-synced
returns-clause-synced g c app w w' d doubt time nothing quiet later keeps =
    after_sync_keeps app w w' d g.D.Disk.told (g.D.Disk.medium c.args.old.now)
    (g.D.Disk.medium c.args.now.now) (g.D.Disk.medium c.args.new.now) doubt (g.met.D.Disk.lawful c.args.now.now) time
    nothing quiet later keeps

pub returns-clause-root : goal.returns-clause-root
returns-clause-root g c app w v w' to_come calm calm' disk time later opens ready keeps calm'' =
    after_root_keeps c.applications_stand.ensures app w v w'
    (g.D.Disk.medium c.args.old.now) (g.D.Disk.medium c.args.now.now) (g.D.Disk.medium c.args.new.now) to_come calm
    calm' disk time later opens ready keeps calm''

pub returns-clause-moments : goal.returns-clause-moments
returns-clause-moments g c app before opened after to_come disk time later opens follows =
    root_then c.applications_stand.ensures app before opened after
    (g.D.Disk.medium c.args.old.now) (g.D.Disk.medium c.args.now.now) (g.D.Disk.medium c.args.new.now) to_come disk time
    later opens follows
