use Rattle.std.proofs.Common.{◌≡◌, inl, ap, subst, ⊎_elim, arith}
use Rattle.flash_disk.specs.Newest.{IsUnusable}
use Rattle.flash_disk.specs.Standing.{StaysAgreed}
use Rattle.flash_disk.specs.Apart.{StandApart}
use Rattle.flash_disk.specs.Sound.{files_on}
use Rattle.flash_disk.specs.Kept.{in_ranges, kept_image}
use Rattle.flash_disk.specs.Forgetting.{GivesUp, MayGiveNothing}
use Rattle.flash_disk.proofs.Giving.{only_two, begins_again, gives_up, gives_up_then, gave_image, gave_agreed, gave_apart}
use Rattle.flash_disk.proofs.Giving.{gave_empty, unchanged}
use Rattle.flash_disk.proofs.disk.FlashDisk.forget.Goals as goal

pub returns-in_default-clause-gives_up : goal.returns-in_default-clause-gives_up
returns-in_default-clause-gives_up g c told =
    let m = g.F.Flash.medium c.self.inside.layer.flash in
    let mid = g.F.Flash.medium c.forget_all.new.self.flash in
    let kept = in_ranges c.args.kept.now in
    subst (λ v. GivesUp kept (g.F.Flash.medium v.flash) mid) c.self.view_is
    (gives_up kept m mid (c.forget_all.ensures.accounts.time told) (c.forget_all.ensures.does told))

pub returns-in-Ok-open-clause-gives_up : goal.returns-in-Ok-open-clause-gives_up
returns-in-Ok-open-clause-gives_up g c told =
    let m = g.F.Flash.medium c.self.inside.layer.flash in
    let mid = g.F.Flash.medium c.forget_all.new.self.flash in
    let now = g.F.Flash.medium c.in-Ok-open.disk.flash in
    let kept = in_ranges c.args.kept.now in
    let e = c.in-Ok-open.ensures in
    subst (λ v. GivesUp kept (g.F.Flash.medium v.flash) now) c.self.view_is
    (gives_up_then kept m mid now (c.in-Ok.ensures.accounts.time told) (c.in-Ok.ensures.does told) (e.opens.time told)
    (e.opens.during told) (e.pages told))

pub returns-in-Ok-open-clause-image : goal.returns-in-Ok-open-clause-image
returns-in-Ok-open-clause-image g c told is =
    let m = g.F.Flash.medium c.self.inside.layer.flash in
    let mid = g.F.Flash.medium c.forget_all.new.self.flash in
    let now = g.F.Flash.medium c.in-Ok-open.disk.flash in
    let kept = in_ranges c.args.kept.now in
    let a = c.in-Ok.ensures in
    let e = c.in-Ok-open.ensures in
    subst (λ v. files_on now ≡ kept_image kept (files_on (g.F.Flash.medium v.flash))) c.self.view_is
    (gave_image kept m mid now (a.accounts.time told) (a.does told) e.blocks (e.pages told) c.in-Ok.whole
    (a.whole told) (a.nothing told) is)

pub returns-in-Ok-open-clause-empty : goal.returns-in-Ok-open-clause-empty
returns-in-Ok-open-clause-empty g c told is =
    let m = g.F.Flash.medium c.self.inside.layer.flash in
    let mid = g.F.Flash.medium c.forget_all.new.self.flash in
    let now = g.F.Flash.medium c.in-Ok-open.disk.flash in
    let a = c.in-Ok.ensures in
    let e = c.in-Ok-open.ensures in
    gave_empty (in_ranges c.args.kept.now) m mid now (a.accounts.time told) (a.does told) e.blocks (e.pages told)
    (a.empty told is)

pub returns-in-Ok-open-clause-pages : goal.returns-in-Ok-open-clause-pages
returns-in-Ok-open-clause-pages g c told is =
    let m = g.F.Flash.medium c.self.inside.layer.flash in
    let mid = g.F.Flash.medium c.forget_all.new.self.flash in
    let now = g.F.Flash.medium c.in-Ok-open.disk.flash in
    let a = c.in-Ok.ensures in
    let e = c.in-Ok-open.ensures in
    subst (λ v. now.state.pages ≡ (g.F.Flash.medium v.flash).state.pages) c.self.view_is
    (unchanged (in_ranges c.args.kept.now) m mid now (a.accounts.time told) (a.does told) e.blocks (e.pages told)
    c.in-Ok.whole (a.whole told) (a.nothing told) is)

pub returns-in-Ok-open-clause-due : goal.returns-in-Ok-open-clause-due
returns-in-Ok-open-clause-due g c told is =
    subst (λ v. MayGiveNothing (in_ranges c.args.kept.now) (g.F.Flash.medium v.flash)) c.self.view_is
    (c.in-Ok.ensures.due told is)

pub returns-in-Ok-open-clause-agreed : goal.returns-in-Ok-open-clause-agreed
returns-in-Ok-open-clause-agreed g c told =
    let m = g.F.Flash.medium c.self.inside.layer.flash in
    let mid = g.F.Flash.medium c.forget_all.new.self.flash in
    let now = g.F.Flash.medium c.in-Ok-open.disk.flash in
    let a = c.in-Ok.ensures in
    let e = c.in-Ok-open.ensures in
    subst (λ v. StaysAgreed (g.F.Flash.medium v.flash) now.state.pages) c.self.view_is
    (gave_agreed (in_ranges c.args.kept.now) m mid now (a.accounts.time told) (a.does told) e.blocks (e.pages told)
    c.in-Ok.whole (a.whole told) (a.nothing told))

pub returns-in-Ok-open-clause-apart : goal.returns-in-Ok-open-clause-apart
returns-in-Ok-open-clause-apart g c told =
    let m = g.F.Flash.medium c.self.inside.layer.flash in
    let mid = g.F.Flash.medium c.forget_all.new.self.flash in
    let now = g.F.Flash.medium c.in-Ok-open.disk.flash in
    let a = c.in-Ok.ensures in
    let e = c.in-Ok-open.ensures in
    subst (λ v. StandApart (g.F.Flash.medium v.flash).state.pages (g.F.Flash.medium v.flash).blocks
    → StandApart now.state.pages now.blocks) c.self.view_is
    (gave_apart (in_ranges c.args.kept.now) m mid now (a.accounts.time told) (a.does told) e.blocks (e.pages told)
    c.in-Ok.whole (a.whole told) (a.nothing told))

pub returns-in-Ok-open-clause-begins : goal.returns-in-Ok-open-clause-begins
returns-in-Ok-open-clause-begins g c =
    let e = c.in-Ok-open.ensures in
    begins_again g.F.Flash.told (g.F.Flash.medium c.forget_all.new.self.flash)
    (g.F.Flash.medium c.in-Ok-open.disk.flash) c.in-Ok-open.disk.own c.in-Ok-open.disk.written e.pages e.blocks
    e.begins

pub returns-clause-error : goal.returns-clause-error
returns-clause-error g c told =
    let mid = g.F.Flash.medium c.forget_all.new.self.flash in
    let a = c.in-Ok.ensures in
    let e = c.in-Err.ensures in
    let counted = (c.self.invariant.described told).sound.counted in
    let some = counted.some in
    let few = counted.few in
    let blocks = (a.accounts.time told).blocks in
    let usable = (a.does told).now.usable in
    let fits = usable.fits in
    only_two c.in-Err.refused.error
    (λ is. ⊎_elim (λ less. omega (arith, less, some, blocks)) (λ more. omega (arith, more, few, blocks))
    (e.wrong_size.0 is))
    (λ is. ⊎_elim (λ more. omega (arith, more, fits)) (λ none. none usable.block usable.within usable.spare)
    (subst (IsUnusable mid.state.pages) blocks (e.unusable told is)))

pub returns-clause-gives_up : goal.returns-clause-gives_up
returns-clause-gives_up g c told =
    let m = g.F.Flash.medium c.self.inside.layer.flash in
    let mid = g.F.Flash.medium c.forget_all.new.self.flash in
    let now = g.F.Flash.medium c.in-Err.refused.flash in
    let kept = in_ranges c.args.kept.now in
    let e = c.in-Err.ensures.opens in
    subst (λ v. GivesUp kept (g.F.Flash.medium v.flash) now) c.self.view_is
    (gives_up_then kept m mid now (c.in-Ok.ensures.accounts.time told) (c.in-Ok.ensures.does told) (e.time told)
    (λ x past. inl (e.during told x past)) (ap (λ s. s.pages) (e.state told)))
