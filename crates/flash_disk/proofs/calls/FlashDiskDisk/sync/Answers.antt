use Rattle.std.proofs.Common.{subst, arith, refl}
use Rattle.disk_model.specs.Medium.{Elapses}
use Rattle.flash_disk.specs.declared.layer.Layer.{Layer}
use Rattle.disk_model.specs.Laws.{elapses_on}
use Rattle.flash_disk.specs.FlashDiskMedium.{flash_disk_medium, disk_seen, ChangesNoPage}
use Rattle.flash_disk.proofs.Throughout.{settle_stays}
use Rattle.flash_disk.proofs.Unchanged.{changes_then, looked, settled, view_of}
use Rattle.flash_disk.proofs.Times.{look_time, settle_time}
use Rattle.flash_disk.proofs.calls.FlashDiskDisk.sync.Goals as goal

pub returns-in_err-make_sure-clause-time : goal.returns-in_err-make_sure-clause-time
returns-in_err-make_sure-clause-time g c =
    let told = g.F.Flash.told in
    let m0 = g.F.Flash.medium c.self.inside.layer.flash in
    let m1 = g.F.Flash.medium c.make_sure.new.self.flash in
    let e = c.make_sure.ensures in
    subst (λ v. Elapses (disk_seen told g.F.Flash.medium v)
    (flash_disk_medium told m1 c.make_sure.new.self.own c.self.inside.written)) c.self.view_is
    (look_time told m0 m1 c.self.inside.layer.own c.make_sure.new.self.own c.self.inside.written
    c.self.inside.layer.state c.self.invariant.described e.accounts.time e.accounts.cause.later
    e.unchanged (λ t. e.during))

pub returns-clause-time : goal.returns-clause-time
returns-clause-time g c =
    let told = g.F.Flash.told in
    let m0 = g.F.Flash.medium c.self.inside.layer.flash in
    let m1 = g.F.Flash.medium c.make_sure.new.self.flash in
    let m2 = g.F.Flash.medium c.settle.new.self in
    let own = c.make_sure.new.self.own in
    let e = c.make_sure.ensures in
    let n = c.settle.ensures in
    let later = n.time.faults in
    subst (λ v. Elapses (disk_seen told g.F.Flash.medium v) (flash_disk_medium told m2 own c.self.inside.written))
    c.self.view_is
    (elapses_on
    (look_time told m0 m1 c.self.inside.layer.own c.make_sure.new.self.own c.self.inside.written
    c.self.inside.layer.state c.self.invariant.described e.accounts.time e.accounts.cause.later
    e.unchanged (λ t. e.during))
    (settle_time told m1 m2 own own c.self.inside.written c.make_sure.new.self.state e.described (λ t. n.time)
    (omega (arith, later))
    (λ t. settle_stays m1 m2 c.settle.result (n.state t) (n.failed t)) n.during))

pub returns-in_err-make_sure-clause-unchanged : goal.returns-in_err-make_sure-clause-unchanged
returns-in_err-make_sure-clause-unchanged g c =
    let told = g.F.Flash.told in
    let medium = g.F.Flash.medium in
    let layer = c.self.inside.layer in
    let written = c.self.inside.written in
    let e = c.make_sure.ensures in
    subst (λ v. ChangesNoPage told medium v (view_of c.make_sure.new.self written)) c.self.view_is
    (looked told medium written layer c.make_sure.new.self c.self.invariant.described e.accounts.time e.own e.sequence
    e.unchanged (λ t. e.during))

pub returns-clause-unchanged : goal.returns-clause-unchanged
returns-clause-unchanged g c =
    let told = g.F.Flash.told in
    let medium = g.F.Flash.medium in
    let layer = c.self.inside.layer in
    let written = c.self.inside.written in
    let e = c.make_sure.ensures in
    let sure = c.make_sure.new.self in
    let n = c.settle.ensures in
    let last : Layer _ = record sure { flash = c.settle.new.self } in
    subst (λ v. ChangesNoPage told medium v (view_of last written)) c.self.view_is
    (changes_then told medium written layer sure last e.accounts.time (λ t. n.time)
    (looked told medium written layer c.make_sure.new.self c.self.invariant.described e.accounts.time e.own e.sequence
    e.unchanged (λ t. e.during))
    (settled told medium written sure last e.described (λ t. n.time) refl refl
    (λ t. settle_stays (medium sure.flash) (medium c.settle.new.self) c.settle.result (n.state t) (n.failed t))
    n.during))
