use Rattle.std.proofs.Common.{subst}
use Rattle.disk_model.specs.Medium.{Elapses}
use Rattle.disk_model.specs.Laws.{elapses_on}
use Rattle.flash_disk.specs.FlashDiskMedium.{flash_disk_medium, disk_seen, ChangesNoPage}
use Rattle.flash_disk.proofs.Unchanged.{changes_then, looked, looked_by, view_of}
use Rattle.flash_disk.proofs.Times.{look_time}
use Rattle.flash_disk.proofs.calls.FlashDiskDisk.read.Goals as goal

pub returns-in_err-make_sure-clause-time : goal.returns-in_err-make_sure-clause-time
returns-in_err-make_sure-clause-time g c =
    let told = g.F.Flash.told in
    let m0 = g.F.Flash.medium c.self.inside.layer.flash in
    let m1 = g.F.Flash.medium c.make_sure.new.self.flash in
    let e = c.make_sure.ensures in
    subst (λ v. Elapses (disk_seen told g.F.Flash.medium v)
    (flash_disk_medium told m1 c.make_sure.new.self.own c.self.inside.written)) c.self.view_is
    (look_time told m0 m1 c.self.inside.layer.own c.make_sure.new.self.own c.self.inside.written
    c.self.inside.layer.state c.self.invariant.described e.accounts.time e.accounts.cause.later
    e.unchanged (λ t. e.during))

pub returns-clause-time : goal.returns-clause-time
returns-clause-time g c =
    let told = g.F.Flash.told in
    let m0 = g.F.Flash.medium c.self.inside.layer.flash in
    let m1 = g.F.Flash.medium c.make_sure.new.self.flash in
    let m2 = g.F.Flash.medium c.read_file.new.self.flash in
    let e = c.make_sure.ensures in
    let r = c.read_file.ensures.reads in
    subst (λ v. Elapses (disk_seen told g.F.Flash.medium v)
    (flash_disk_medium told m2 c.read_file.new.self.own c.self.inside.written)) c.self.view_is
    (elapses_on
    (look_time told m0 m1 c.self.inside.layer.own c.make_sure.new.self.own c.self.inside.written
    c.self.inside.layer.state c.self.invariant.described e.accounts.time e.accounts.cause.later
    e.unchanged (λ t. e.during))
    (look_time told m1 m2 c.make_sure.new.self.own c.read_file.new.self.own c.self.inside.written
    c.make_sure.new.self.state e.described r.only.looks.time r.accounts.cause.later r.only.looks.state r.only.looks.during))

pub returns-in_err-make_sure-clause-unchanged : goal.returns-in_err-make_sure-clause-unchanged
returns-in_err-make_sure-clause-unchanged g c =
    let told = g.F.Flash.told in
    let medium = g.F.Flash.medium in
    let layer = c.self.inside.layer in
    let written = c.self.inside.written in
    let e = c.make_sure.ensures in
    subst (λ v. ChangesNoPage told medium v (view_of c.make_sure.new.self written)) c.self.view_is
    (looked told medium written layer c.make_sure.new.self c.self.invariant.described e.accounts.time e.own e.sequence
    e.unchanged (λ t. e.during))

pub returns-clause-unchanged : goal.returns-clause-unchanged
returns-clause-unchanged g c =
    let told = g.F.Flash.told in
    let medium = g.F.Flash.medium in
    let layer = c.self.inside.layer in
    let written = c.self.inside.written in
    let e = c.make_sure.ensures in
    let r = c.read_file.ensures.reads in
    subst (λ v. ChangesNoPage told medium v (view_of c.read_file.new.self written)) c.self.view_is
    (changes_then told medium written layer c.make_sure.new.self c.read_file.new.self e.accounts.time
    r.only.looks.time
    (looked told medium written layer c.make_sure.new.self c.self.invariant.described e.accounts.time e.own e.sequence
    e.unchanged (λ t. e.during))
    (looked_by told medium written c.make_sure.new.self c.read_file.new.self e.described r))
