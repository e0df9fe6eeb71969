use Rattle.std.proofs.Common.{subst}
use Rattle.disk_model.specs.Medium.{Elapses}
use Rattle.flash_disk.specs.FlashDiskMedium.{flash_disk_medium, disk_seen, ChangesNoPage}
use Rattle.flash_disk.proofs.Unchanged.{looked, view_of}
use Rattle.flash_disk.proofs.Times.{look_time}
use Rattle.flash_disk.proofs.calls.FlashDiskDisk.size.Goals as goal

pub returns-in_err-make_sure-clause-time : goal.returns-in_err-make_sure-clause-time
returns-in_err-make_sure-clause-time g c =
    let told = g.F.Flash.told in
    let m0 = g.F.Flash.medium c.self.inside.layer.flash in
    let m1 = g.F.Flash.medium c.make_sure.new.self.flash in
    let e = c.make_sure.ensures in
    subst (λ v. Elapses (disk_seen told g.F.Flash.medium v)
    (flash_disk_medium told m1 c.make_sure.new.self.own c.self.inside.written)) c.self.view_is
    (look_time told m0 m1 c.self.inside.layer.own c.make_sure.new.self.own c.self.inside.written
    c.self.inside.layer.state c.self.invariant.described e.accounts.time e.accounts.cause.later
    e.unchanged (λ t. e.during))

pub returns-clause-time : goal.returns-clause-time
returns-clause-time g c =
    let told = g.F.Flash.told in
    let m0 = g.F.Flash.medium c.self.inside.layer.flash in
    let m1 = g.F.Flash.medium c.make_sure.new.self.flash in
    let e = c.make_sure.ensures in
    subst (λ v. Elapses (disk_seen told g.F.Flash.medium v)
    (flash_disk_medium told m1 c.make_sure.new.self.own c.self.inside.written)) c.self.view_is
    (look_time told m0 m1 c.self.inside.layer.own c.make_sure.new.self.own c.self.inside.written
    c.self.inside.layer.state c.self.invariant.described e.accounts.time e.accounts.cause.later
    e.unchanged (λ t. e.during))

pub returns-in_err-make_sure-clause-unchanged : goal.returns-in_err-make_sure-clause-unchanged
returns-in_err-make_sure-clause-unchanged g c =
    let told = g.F.Flash.told in
    let medium = g.F.Flash.medium in
    let layer = c.self.inside.layer in
    let written = c.self.inside.written in
    let e = c.make_sure.ensures in
    subst (λ v. ChangesNoPage told medium v (view_of c.make_sure.new.self written)) c.self.view_is
    (looked told medium written layer c.make_sure.new.self c.self.invariant.described e.accounts.time e.own e.sequence
    e.unchanged (λ t. e.during))

pub returns-clause-unchanged : goal.returns-clause-unchanged
returns-clause-unchanged g c =
    let told = g.F.Flash.told in
    let medium = g.F.Flash.medium in
    let layer = c.self.inside.layer in
    let written = c.self.inside.written in
    let e = c.make_sure.ensures in
    subst (λ v. ChangesNoPage told medium v (view_of c.make_sure.new.self written)) c.self.view_is
    (looked told medium written layer c.make_sure.new.self c.self.invariant.described e.accounts.time e.own e.sequence
    e.unchanged (λ t. e.during))
