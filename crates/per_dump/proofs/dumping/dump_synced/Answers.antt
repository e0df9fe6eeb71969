use Rattle.std.proofs.Common.{sym, subst}
use Rattle.disk_model.specs.Image.{Image}
use Rattle.deploy_laws.specs.Apps.{says_at}
use Rattle.per_dump.specs.Dumps.{HoldsManifest, IsActive}
use Rattle.per_dump.proofs.Active.{absent_dumped, bad_dumped, is_active, is_held, is_said}
use Rattle.per_dump.proofs.dumping.dump_synced.Goals as goal

pub returns-in_default-clause-texts : goal.returns-in_default-clause-texts
returns-in_default-clause-texts g c = λ tells. bad_dumped (g.D.Disk.medium c.args.disk.now).image c.args.application
    c.in_ok-found.found (c.in_ok-found.ensures.says tells) c.in_default.is

pub returns-in-Absent-clause-texts : goal.returns-in-Absent-clause-texts
returns-in-Absent-clause-texts g c = λ tells. absent_dumped (g.D.Disk.medium c.args.disk.now).image c.args.application
    c.in_ok-found.found (c.in_ok-found.ensures.says tells) c.in-Some.versions c.in-Some.is c.in-Absent.is

pub dump_version-requires-clause-active : goal.dump_version-requires-clause-active
dump_version-requires-clause-active g c = λ tells. subst (λ (im : Image). IsActive (says_at im c.args.application)
    c.in-Installed.active) (sym c.in_ok-found.ensures.image)
    (is_active (g.D.Disk.medium c.args.disk.now).image c.args.application c.in_ok-found.found
    (c.in_ok-found.ensures.says tells) c.in-Some.versions c.in-Some.is _ c.in-Installed.active _ c.in-Installed.is)

pub dump_version-requires-clause-said : goal.dump_version-requires-clause-said
dump_version-requires-clause-said g c = is_said c.in_ok-found.found c.in-Some.versions _ c.in-Installed.active _
    c.in-Some.is c.in-Installed.is c.in_ok-found.ensures.versions

pub dump_version-requires-clause-held : goal.dump_version-requires-clause-held
dump_version-requires-clause-held g c = λ tells. subst (λ (im : Image). HoldsManifest im c.args.application
    c.in-Installed.active.text) (sym c.in_ok-found.ensures.image)
    (is_held (g.D.Disk.medium c.args.disk.now).image c.args.application c.in_ok-found.found c.in-Some.versions _
    c.in-Installed.active _ c.in-Some.is c.in-Installed.is (c.in_ok-found.ensures.held tells))
