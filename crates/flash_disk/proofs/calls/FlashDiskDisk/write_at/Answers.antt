use Rattle.std.proofs.Common.{◌≡◌, Bool, ◌⊎◌, ◌<◌, ◌≤◌, ◌+◌, length, inl, inr, ⊎_elim, subst, ◌∙◌, le_refl, arith}
use Rattle.disk_model.specs.Case.{Follows, WriteCase, WriteOrNot}
use Rattle.disk_model.specs.Medium.{Medium, Elapses}
use Rattle.disk_model.specs.Laws.{elapses_on}
use Rattle.flash_model.specs.FlashMedium.{FlashMedium}
use Rattle.flash_disk.specs.FlashView.{FlashView}
use Rattle.flash_disk.specs.FlashDiskMedium.{flash_disk_medium}
use Rattle.flash_disk.specs.Throughout.{KeepsUsable, KeepsAgreed}
use Rattle.flash_disk.proofs.DiskCases.{disk_rests, disk_write_nothing}
use Rattle.flash_disk.proofs.DiskWrites.{write_during, write_now}
use Rattle.flash_disk.proofs.Throughout.{holds_usable, look_usable, rest_usable, write_usable, usable_then, look_agreed}
use Rattle.flash_disk.proofs.Throughout.{write_agreed, agreed_then}
use Rattle.flash_disk.proofs.Times.{look_time, write_time}
use Rattle.flash_disk.specs.OwnFaults.{FailsAlone, IsAllowed, EndsTooLate, WantsTooMany, TakesPages}
use Rattle.flash_disk.proofs.Failing.{fails_alone, allowed_before, takes_before, refused_before}
use Rattle.flash_disk.proofs.Accounting.{accounts_on}
use Rattle.std.specs.Int.{div_ceil}
use Rattle.flash_disk.specs.Apart.{copy_of}
use Rattle.flash_disk.specs.KeepsApart.{KeepsApart}
use Rattle.flash_disk.proofs.Holding.{none_apart, look_apart, apart_then}
use Rattle.flash_disk.proofs.Clearing.{cleared_empty}
use Rattle.flash_disk.proofs.calls.FlashDiskDisk.write_at.Goals as goal

abbrev medium_of : {F : Type 0} → Bool → (F → FlashMedium) → FlashView F → Medium
medium_of told medium v = flash_disk_medium told (medium v.flash) v.own v.written

pub returns-then-is_empty-clause-image : goal.returns-then-is_empty-clause-image
returns-then-is_empty-clause-image g c =
    let disk = medium_of g.F.Flash.told g.F.Flash.medium c.args.self.now in
    let none : length c.args.bytes.now ≡ 0 = grind arith in
    let rests = disk_rests g.F.Flash.told (g.F.Flash.medium c.args.self.now.flash) c.args.self.now.own
    c.args.self.now.own c.args.self.now.written (g.met.F.Flash.lawful c.args.self.now.flash) in
    λ t. (disk_write_nothing disk disk c.args.file c.args.at c.args.bytes.now none rests).0

pub returns-then-is_empty-clause-now : goal.returns-then-is_empty-clause-now
returns-then-is_empty-clause-now g c =
    let disk = medium_of g.F.Flash.told g.F.Flash.medium c.args.self.now in
    let none : length c.args.bytes.now ≡ 0 = grind arith in
    let rests = disk_rests g.F.Flash.told (g.F.Flash.medium c.args.self.now.flash) c.args.self.now.own
    c.args.self.now.own c.args.self.now.written (g.met.F.Flash.lawful c.args.self.now.flash) in
    (disk_write_nothing disk disk c.args.file c.args.at c.args.bytes.now none rests).1

pub returns-in_err-write_file-clause-during : goal.returns-in_err-write_file-clause-during
returns-in_err-write_file-clause-during g c =
    let m0 = g.F.Flash.medium c.self.inside.layer.flash in
    let m1 = g.F.Flash.medium c.make_sure.new.self.flash in
    let m2 = g.F.Flash.medium c.write_file.new.self.flash in
    let after = flash_disk_medium g.F.Flash.told m2 c.write_file.new.self.own c.self.inside.written in
    let seen = medium_of g.F.Flash.told g.F.Flash.medium in
    subst (λ v. Follows (WriteOrNot c.args.file c.args.at c.args.bytes.now) (seen v).now (after.since (seen v).moment))
    c.self.view_is
    (write_during g.F.Flash.told m0 m1 m2 c.self.inside.layer.own c.write_file.new.self.own c.self.inside.written
    c.self.inside.written c.args.file c.args.at c.args.bytes.now
    c.make_sure.ensures.unchanged c.make_sure.ensures.accounts.time c.write_file.ensures.accounts.time
    c.write_file.ensures.writes
    c.make_sure.ensures.during)

pub returns-clause-now : goal.returns-clause-now
returns-clause-now g c =
    let m0 = g.F.Flash.medium c.self.inside.layer.flash in
    let m1 = g.F.Flash.medium c.make_sure.new.self.flash in
    let m2 = g.F.Flash.medium c.write_file.new.self.flash in
    let after = flash_disk_medium g.F.Flash.told m2 c.write_file.new.self.own c.with_more-self-inside.result in
    let seen = medium_of g.F.Flash.told g.F.Flash.medium in
    subst (λ v. Follows (WriteCase c.args.file c.args.at c.args.bytes.now) (seen v).now after.now) c.self.view_is
    (write_now g.F.Flash.told m0 m1 m2 c.self.inside.layer.own c.write_file.new.self.own c.self.inside.written
    c.with_more-self-inside.result c.args.file c.args.at c.args.bytes.now
    c.make_sure.ensures.unchanged c.make_sure.ensures.accounts.time c.write_file.ensures.accounts.time
    c.write_file.ensures.writes
    c.in_ok-write_file.ensures.announced)

pub returns-clause-during : goal.returns-clause-during
returns-clause-during g c =
    let m0 = g.F.Flash.medium c.self.inside.layer.flash in
    let m1 = g.F.Flash.medium c.make_sure.new.self.flash in
    let m2 = g.F.Flash.medium c.write_file.new.self.flash in
    let after = flash_disk_medium g.F.Flash.told m2 c.write_file.new.self.own c.with_more-self-inside.result in
    let seen = medium_of g.F.Flash.told g.F.Flash.medium in
    subst (λ v. Follows (WriteOrNot c.args.file c.args.at c.args.bytes.now) (seen v).now (after.since (seen v).moment))
    c.self.view_is
    (write_during g.F.Flash.told m0 m1 m2 c.self.inside.layer.own c.write_file.new.self.own c.self.inside.written
    c.with_more-self-inside.result c.args.file c.args.at c.args.bytes.now
    c.make_sure.ensures.unchanged c.make_sure.ensures.accounts.time c.write_file.ensures.accounts.time
    c.write_file.ensures.writes
    c.make_sure.ensures.during)

pub returns-in_err-make_sure-clause-usable : goal.returns-in_err-make_sure-clause-usable
returns-in_err-make_sure-clause-usable g c told =
    let m0 = g.F.Flash.medium c.self.inside.layer.flash in
    let m1 = g.F.Flash.medium c.make_sure.new.self.flash in
    let e = c.make_sure.ensures in
    subst (λ v. KeepsUsable (g.F.Flash.medium v.flash) m1) c.self.view_is
    (look_usable m0 m1 (e.accounts.time told) (holds_usable m0 c.self.inside.layer.state (c.self.invariant.described told))
    (e.unchanged told) e.during)

pub returns-in_err-write_file-clause-usable : goal.returns-in_err-write_file-clause-usable
returns-in_err-write_file-clause-usable g c told =
    let m0 = g.F.Flash.medium c.self.inside.layer.flash in
    let m1 = g.F.Flash.medium c.make_sure.new.self.flash in
    let m2 = g.F.Flash.medium c.write_file.new.self.flash in
    let e = c.make_sure.ensures in
    let w = c.write_file.ensures in
    subst (λ v. KeepsUsable (g.F.Flash.medium v.flash) m2) c.self.view_is
    (usable_then m0 m1 m2 (e.accounts.time told) (w.accounts.time told)
    (look_usable m0 m1 (e.accounts.time told) (holds_usable m0 c.self.inside.layer.state (c.self.invariant.described told))
    (e.unchanged told) e.during)
    (write_usable m1 m2 (w.accounts.time told) (holds_usable m1 c.make_sure.new.self.state (e.described told)) c.args.file
    c.args.at
    c.args.bytes.now (w.writes told)))

pub returns-clause-usable : goal.returns-clause-usable
returns-clause-usable g c told =
    let m0 = g.F.Flash.medium c.self.inside.layer.flash in
    let m1 = g.F.Flash.medium c.make_sure.new.self.flash in
    let m2 = g.F.Flash.medium c.write_file.new.self.flash in
    let e = c.make_sure.ensures in
    let w = c.write_file.ensures in
    subst (λ v. KeepsUsable (g.F.Flash.medium v.flash) m2) c.self.view_is
    (usable_then m0 m1 m2 (e.accounts.time told) (w.accounts.time told)
    (look_usable m0 m1 (e.accounts.time told) (holds_usable m0 c.self.inside.layer.state (c.self.invariant.described told))
    (e.unchanged told) e.during)
    (write_usable m1 m2 (w.accounts.time told) (holds_usable m1 c.make_sure.new.self.state (e.described told)) c.args.file
    c.args.at
    c.args.bytes.now (w.writes told)))

pub returns-then-is_empty-clause-usable : goal.returns-then-is_empty-clause-usable
returns-then-is_empty-clause-usable g c told =
    let m = g.F.Flash.medium c.self.inside.layer.flash in
    subst (λ v. KeepsUsable (g.F.Flash.medium v.flash) (g.F.Flash.medium v.flash)) c.self.view_is
    (rest_usable g.F.Flash.told m (g.met.F.Flash.lawful c.self.inside.layer.flash)
    (holds_usable m c.self.inside.layer.state (c.self.invariant.described told)))

pub returns-in_err-write_file-clause-agreed : goal.returns-in_err-write_file-clause-agreed
returns-in_err-write_file-clause-agreed g c told =
    let m0 = g.F.Flash.medium c.self.inside.layer.flash in
    let m1 = g.F.Flash.medium c.make_sure.new.self.flash in
    let m2 = g.F.Flash.medium c.write_file.new.self.flash in
    let e = c.make_sure.ensures in
    let w = c.write_file.ensures in
    subst (λ v. KeepsAgreed (g.F.Flash.medium v.flash) m2) c.self.view_is
    (agreed_then m0 m1 m2 (e.accounts.time told) (w.accounts.time told)
    (look_agreed m0 m1 (e.unchanged told) e.during)
    (write_agreed m1 m2 c.args.file c.args.at c.args.bytes.now (w.writes told)))

pub returns-clause-agreed : goal.returns-clause-agreed
returns-clause-agreed g c told =
    let m0 = g.F.Flash.medium c.self.inside.layer.flash in
    let m1 = g.F.Flash.medium c.make_sure.new.self.flash in
    let m2 = g.F.Flash.medium c.write_file.new.self.flash in
    let e = c.make_sure.ensures in
    let w = c.write_file.ensures in
    subst (λ v. KeepsAgreed (g.F.Flash.medium v.flash) m2) c.self.view_is
    (agreed_then m0 m1 m2 (e.accounts.time told) (w.accounts.time told)
    (look_agreed m0 m1 (e.unchanged told) e.during)
    (write_agreed m1 m2 c.args.file c.args.at c.args.bytes.now (w.writes told)))

pub returns-in_err-write_file-clause-own : goal.returns-in_err-write_file-clause-own
returns-in_err-write_file-clause-own g c told =
    let m0 = g.F.Flash.medium c.self.inside.layer.flash in
    let m1 = g.F.Flash.medium c.make_sure.new.self.flash in
    let state = c.write_file.new.self.state in
    let own = c.write_file.new.self.own in
    let n = length c.args.bytes.now in
    let some : 0 < n = grind arith in
    let time = c.make_sure.ensures.accounts.time told in
    subst (λ v. (own ≡ v.own) ⊎ ((0 < n) × FailsAlone (g.F.Flash.medium v.flash) state.sequence c.args.file c.args.at
    n)) c.self.view_is
    (⊎_elim
    (λ same. inl (same ∙ c.make_sure.ensures.own))
    (λ why. inr (
      some,
      fails_alone m0 m1 c.make_sure.new.self.state state c.args.file c.args.at n (c.make_sure.ensures.unchanged told)
          time.blocks
          (c.in_ok-make_sure.ensures.stays.sound told) c.write_file.ensures.accounts.has_rivals why,
    ))
    (c.write_file.ensures.own told))

pub returns-in_err-make_sure-clause-time : goal.returns-in_err-make_sure-clause-time
returns-in_err-make_sure-clause-time g c =
    let told = g.F.Flash.told in
    let m0 = g.F.Flash.medium c.self.inside.layer.flash in
    let m1 = g.F.Flash.medium c.make_sure.new.self.flash in
    let e = c.make_sure.ensures in
    subst (λ v. Elapses (medium_of told g.F.Flash.medium v)
    (flash_disk_medium told m1 c.make_sure.new.self.own c.self.inside.written)) c.self.view_is
    (look_time told m0 m1 c.self.inside.layer.own c.make_sure.new.self.own c.self.inside.written
    c.self.inside.layer.state c.self.invariant.described e.accounts.time e.accounts.cause.later
    e.unchanged (λ t. e.during))

pub returns-in_err-write_file-clause-time : goal.returns-in_err-write_file-clause-time
returns-in_err-write_file-clause-time g c =
    let told = g.F.Flash.told in
    let m0 = g.F.Flash.medium c.self.inside.layer.flash in
    let m1 = g.F.Flash.medium c.make_sure.new.self.flash in
    let m2 = g.F.Flash.medium c.write_file.new.self.flash in
    let e = c.make_sure.ensures in
    let w = c.write_file.ensures in
    subst (λ v. Elapses (medium_of told g.F.Flash.medium v)
    (flash_disk_medium told m2 c.write_file.new.self.own c.self.inside.written)) c.self.view_is
    (elapses_on
    (look_time told m0 m1 c.self.inside.layer.own c.make_sure.new.self.own c.self.inside.written
    c.self.inside.layer.state c.self.invariant.described e.accounts.time e.accounts.cause.later
    e.unchanged (λ t. e.during))
    (write_time told m1 m2 c.make_sure.new.self.own c.write_file.new.self.own c.self.inside.written
    c.make_sure.new.self.state e.described w.accounts.time w.accounts.cause.later
    c.self.inside.written c.args.file c.args.at c.args.bytes.now (le_refl _) w.writes w.apart))

pub returns-clause-time : goal.returns-clause-time
returns-clause-time g c =
    let told = g.F.Flash.told in
    let m0 = g.F.Flash.medium c.self.inside.layer.flash in
    let m1 = g.F.Flash.medium c.make_sure.new.self.flash in
    let m2 = g.F.Flash.medium c.write_file.new.self.flash in
    let e = c.make_sure.ensures in
    let w = c.write_file.ensures in
    subst (λ v. Elapses (medium_of told g.F.Flash.medium v)
    (flash_disk_medium told m2 c.write_file.new.self.own c.with_more-self-inside.result)) c.self.view_is
    (elapses_on
    (look_time told m0 m1 c.self.inside.layer.own c.make_sure.new.self.own c.self.inside.written
    c.self.inside.layer.state c.self.invariant.described e.accounts.time e.accounts.cause.later
    e.unchanged (λ t. e.during))
    (write_time told m1 m2 c.make_sure.new.self.own c.write_file.new.self.own c.self.inside.written
    c.make_sure.new.self.state e.described w.accounts.time w.accounts.cause.later
    c.with_more-self-inside.result c.args.file c.args.at c.args.bytes.now
    (let sum = c.with_more-self-inside.ensures in omega (arith, sum)) w.writes w.apart))

pub returns-clause-kept : goal.returns-clause-kept
returns-clause-kept g c =
    let n = length c.args.bytes.now + div_ceil (c.args.at + length c.args.bytes.now) 256 in
    let on = accounts_on 0 n n (omega arith) c.in_ok-make_sure.ensures.accounts
    c.in_ok-write_file.ensures.accounts in
    subst (λ v. c.write_file.new.self.own ≡ v.own) c.self.view_is on.kept

pub returns-clause-passes : goal.returns-clause-passes
returns-clause-passes g c =
    let n = length c.args.bytes.now + div_ceil (c.args.at + length c.args.bytes.now) 256 in
    let on = accounts_on 0 n n (omega arith) c.in_ok-make_sure.ensures.accounts
    c.in_ok-write_file.ensures.accounts in
    subst (λ v. (g.F.Flash.medium c.write_file.new.self.flash).faults + c.write_file.new.self.own
    ≡ (g.F.Flash.medium v.flash).faults + v.own) c.self.view_is on.cause.passed

pub returns-clause-one : goal.returns-clause-one
returns-clause-one g c =
    let n = length c.args.bytes.now + div_ceil (c.args.at + length c.args.bytes.now) 256 in
    let on = accounts_on 0 n n (omega arith) c.in_ok-make_sure.ensures.accounts
    c.write_file.ensures.accounts in
    subst (λ v. c.write_file.new.self.own ≤ v.own + 1) c.self.view_is on.one

pub returns-clause-no_less : goal.returns-clause-no_less
returns-clause-no_less g c =
    let n = length c.args.bytes.now + div_ceil (c.args.at + length c.args.bytes.now) 256 in
    let on = accounts_on 0 n n (omega arith) c.in_ok-make_sure.ensures.accounts
    c.write_file.ensures.accounts in
    subst (λ v. v.own ≤ c.write_file.new.self.own) c.self.view_is on.no_less

pub returns-clause-later : goal.returns-clause-later
returns-clause-later g c =
    let n = length c.args.bytes.now + div_ceil (c.args.at + length c.args.bytes.now) 256 in
    let on = accounts_on 0 n n (omega arith) c.in_ok-make_sure.ensures.accounts
    c.write_file.ensures.accounts in
    subst (λ v. v.sequence ≤ c.write_file.new.self.state.sequence) c.self.view_is on.later

pub returns-clause-steps : goal.returns-clause-steps
returns-clause-steps g c =
    let n = length c.args.bytes.now + div_ceil (c.args.at + length c.args.bytes.now) 256 in
    let on = accounts_on 0 n n (omega arith) c.in_ok-make_sure.ensures.accounts
    c.write_file.ensures.accounts in
    subst (λ v. c.write_file.new.self.state.sequence ≤ v.sequence + length c.args.bytes.now
    + div_ceil (c.args.at + length c.args.bytes.now) 256) c.self.view_is
    (let steps = on.steps in omega (arith, steps))

pub returns-clause-refused : goal.returns-clause-refused
returns-clause-refused g c told =
    let m0 = g.F.Flash.medium c.self.inside.layer.flash in
    let m1 = g.F.Flash.medium c.make_sure.new.self.flash in
    let m2 = (g.F.Flash.medium c.write_file.new.self.flash) in
    let n = length c.args.bytes.now in
    subst (λ v. EndsTooLate c.args.at n ⊎ WantsTooMany (g.F.Flash.medium v.flash) c.args.file c.args.at n
    → m2.state ≡ (g.F.Flash.medium v.flash).state) c.self.view_is
    (refused_before m0 m1 (c.make_sure.ensures.unchanged told) (c.make_sure.ensures.accounts.time told).blocks m2
    c.args.file
    c.args.at n (c.write_file.ensures.refused told))

pub returns-in_err-write_file-clause-one : goal.returns-in_err-write_file-clause-one
returns-in_err-write_file-clause-one g c =
    let n = length c.args.bytes.now + div_ceil (c.args.at + length c.args.bytes.now) 256 in
    let on = accounts_on 0 n n (omega arith) c.in_ok-make_sure.ensures.accounts
    c.write_file.ensures.accounts in
    subst (λ v. c.write_file.new.self.own ≤ v.own + 1) c.self.view_is on.one

pub returns-in_err-write_file-clause-no_less : goal.returns-in_err-write_file-clause-no_less
returns-in_err-write_file-clause-no_less g c =
    let n = length c.args.bytes.now + div_ceil (c.args.at + length c.args.bytes.now) 256 in
    let on = accounts_on 0 n n (omega arith) c.in_ok-make_sure.ensures.accounts
    c.write_file.ensures.accounts in
    subst (λ v. v.own ≤ c.write_file.new.self.own) c.self.view_is on.no_less

pub returns-in_err-write_file-clause-later : goal.returns-in_err-write_file-clause-later
returns-in_err-write_file-clause-later g c =
    let n = length c.args.bytes.now + div_ceil (c.args.at + length c.args.bytes.now) 256 in
    let on = accounts_on 0 n n (omega arith) c.in_ok-make_sure.ensures.accounts
    c.write_file.ensures.accounts in
    subst (λ v. v.sequence ≤ c.write_file.new.self.state.sequence) c.self.view_is on.later

pub returns-in_err-write_file-clause-steps : goal.returns-in_err-write_file-clause-steps
returns-in_err-write_file-clause-steps g c =
    let n = length c.args.bytes.now + div_ceil (c.args.at + length c.args.bytes.now) 256 in
    let on = accounts_on 0 n n (omega arith) c.in_ok-make_sure.ensures.accounts
    c.write_file.ensures.accounts in
    subst (λ v. c.write_file.new.self.state.sequence ≤ v.sequence + length c.args.bytes.now
    + div_ceil (c.args.at + length c.args.bytes.now) 256) c.self.view_is
    (let steps = on.steps in omega (arith, steps))

pub returns-in_err-write_file-clause-refused : goal.returns-in_err-write_file-clause-refused
returns-in_err-write_file-clause-refused g c told =
    let m0 = g.F.Flash.medium c.self.inside.layer.flash in
    let m1 = g.F.Flash.medium c.make_sure.new.self.flash in
    let m2 = (g.F.Flash.medium c.write_file.new.self.flash) in
    let n = length c.args.bytes.now in
    subst (λ v. EndsTooLate c.args.at n ⊎ WantsTooMany (g.F.Flash.medium v.flash) c.args.file c.args.at n
    → m2.state ≡ (g.F.Flash.medium v.flash).state) c.self.view_is
    (refused_before m0 m1 (c.make_sure.ensures.unchanged told) (c.make_sure.ensures.accounts.time told).blocks m2
    c.args.file
    c.args.at n (c.write_file.ensures.refused told))

pub returns-clause-allowed : goal.returns-clause-allowed
returns-clause-allowed g c told some =
    let m0 = g.F.Flash.medium c.self.inside.layer.flash in
    let m1 = g.F.Flash.medium c.make_sure.new.self.flash in
    let n = length c.args.bytes.now in
    subst (λ v. IsAllowed (g.F.Flash.medium v.flash) c.args.file c.args.at n) c.self.view_is
    (allowed_before m0 m1 (c.make_sure.ensures.unchanged told) (c.make_sure.ensures.accounts.time told).blocks
    c.args.file
    c.args.at n (c.in_ok-write_file.ensures.allowed told))

pub returns-clause-takes : goal.returns-clause-takes
returns-clause-takes g c told =
    let m0 = g.F.Flash.medium c.self.inside.layer.flash in
    let m1 = g.F.Flash.medium c.make_sure.new.self.flash in
    let m2 = (g.F.Flash.medium c.write_file.new.self.flash) in
    let n = length c.args.bytes.now in
    subst (λ v. TakesPages (g.F.Flash.medium v.flash) m2 c.args.file c.args.at n) c.self.view_is
    (takes_before m0 m1 (c.make_sure.ensures.unchanged told) (c.make_sure.ensures.accounts.time told).blocks m2
    c.args.file
    c.args.at n (c.in_ok-write_file.ensures.takes told))

pub returns-then-is_empty-clause-apart : goal.returns-then-is_empty-clause-apart
returns-then-is_empty-clause-apart g c told =
    let m = g.F.Flash.medium c.self.inside.layer.flash in
    let copy = copy_of c.args.file in
    subst (λ v. KeepsApart copy (g.F.Flash.medium v.flash) (g.F.Flash.medium v.flash)) c.self.view_is
    (none_apart copy g.F.Flash.told m (g.met.F.Flash.lawful c.self.inside.layer.flash))

pub returns-in_err-make_sure-clause-apart : goal.returns-in_err-make_sure-clause-apart
returns-in_err-make_sure-clause-apart g c told =
    let m0 = g.F.Flash.medium c.self.inside.layer.flash in
    let m1 = g.F.Flash.medium c.make_sure.new.self.flash in
    let e = c.make_sure.ensures in
    let copy = copy_of c.args.file in
    subst (λ v. KeepsApart copy (g.F.Flash.medium v.flash) m1) c.self.view_is
    (look_apart copy m0 m1 (e.unchanged told) e.during)

pub returns-in_err-write_file-clause-apart : goal.returns-in_err-write_file-clause-apart
returns-in_err-write_file-clause-apart g c told =
    let m0 = g.F.Flash.medium c.self.inside.layer.flash in
    let m1 = g.F.Flash.medium c.make_sure.new.self.flash in
    let m2 = g.F.Flash.medium c.write_file.new.self.flash in
    let e = c.make_sure.ensures in
    let w = c.write_file.ensures in
    let copy = copy_of c.args.file in
    subst (λ v. KeepsApart copy (g.F.Flash.medium v.flash) m2) c.self.view_is
    (apart_then copy m0 m1 m2 (e.accounts.time told) (w.accounts.time told)
    (look_apart copy m0 m1 (e.unchanged told) e.during) (w.apart told))

pub returns-clause-apart : goal.returns-clause-apart
returns-clause-apart g c told =
    let m0 = g.F.Flash.medium c.self.inside.layer.flash in
    let m1 = g.F.Flash.medium c.make_sure.new.self.flash in
    let m2 = g.F.Flash.medium c.write_file.new.self.flash in
    let e = c.make_sure.ensures in
    let w = c.write_file.ensures in
    let copy = copy_of c.args.file in
    subst (λ v. KeepsApart copy (g.F.Flash.medium v.flash) m2) c.self.view_is
    (apart_then copy m0 m1 m2 (e.accounts.time told) (w.accounts.time told)
    (look_apart copy m0 m1 (e.unchanged told) e.during) (w.apart told))

pub returns-clause-empty : goal.returns-clause-empty
returns-clause-empty g c told some =
    let m2 = g.F.Flash.medium c.write_file.new.self.flash in
    let state = c.write_file.new.self.state in
    let described = c.write_file.ensures.described told in
    (state.spare, described.sound.within, cleared_empty m2 state described c.in_ok-write_file.ensures.cleared)
