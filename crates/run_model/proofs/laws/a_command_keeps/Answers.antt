use Rattle.run_model.specs.KeepLaws.{call_fails, call_keeps, failed_call_keeps, failed_sync_keeps, idle_keeps}
use Rattle.run_model.specs.KeepLaws.{opens_on_the_way}
use Rattle.run_model.specs.Starting.{which}
use Rattle.run_model.proofs.laws.a_command_keeps.Goals as goal

pub returns-clause-idle : goal.returns-clause-idle
returns-clause-idle g c app w w' less is disks_same same =
    idle_keeps c.applications_stand.ensures app less w w' g.D.Disk.told (g.D.Disk.medium c.args.new.now)
    (g.met.D.Disk.lawful c.args.new.now) is disks_same same

pub returns-clause-failed_sync : goal.returns-clause-failed_sync
returns-clause-failed_sync g c app w d doubt reads = failed_sync_keeps app w d (g.D.Disk.medium c.args.old.now)
    (g.D.Disk.medium c.args.new.now) doubt reads

pub returns-clause-on_the_way : goal.returns-clause-on_the_way
returns-clause-on_the_way g c a app ds less is quiet clean opens =
    opens_on_the_way c.applications_stand.ensures a app less ds (g.D.Disk.medium c.args.old.now)
    (g.D.Disk.medium c.args.new.now) is quiet clean opens (which a app)

pub returns-clause-answered : goal.returns-clause-answered
returns-clause-answered g c a app w w' less calls same calm calm' clean is =
    call_keeps c.applications_stand.ensures a w w' (g.D.Disk.medium c.args.old.now)
    (g.D.Disk.medium c.args.new.now) calls same calm calm' clean app less is (which a app)

pub returns-clause-failed : goal.returns-clause-failed
returns-clause-failed g c a app w w' d less time calls same calm doubt before now left is =
    call_fails c.applications_stand.ensures a w w' d g.D.Disk.told
    (g.D.Disk.medium c.args.old.now) (g.D.Disk.medium c.args.new.now) (g.met.D.Disk.lawful c.args.new.now) time calls
    same calm doubt before now left app less is (which a app)

pub returns-clause-failure : goal.returns-clause-failure
returns-clause-failure g c app w w' d doubt before time is now left moments =
    failed_call_keeps c.applications_stand.ensures app w w' d g.D.Disk.told
    (g.D.Disk.medium c.args.old.now) (g.D.Disk.medium c.args.new.now) doubt before (g.met.D.Disk.lawful c.args.new.now)
    time is now left moments
