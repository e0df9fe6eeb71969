use Rattle.std.proofs.Common.{◌≡◌, ◌⊎◌, subst}
use Rattle.std.specs.Prelude.{IfOk, IsFalse}
use Rattle.flash_model.specs.State.{FlashState}
use Rattle.flash_disk.specs.Newest.{places}
use Rattle.flash_disk.specs.Standing.{HasRivals}
use Rattle.flash_disk.specs.Kept.{in_ranges}
use Rattle.flash_disk.specs.Forgetting.{Forgets, IsFullOfKept}
use Rattle.flash_disk.proofs.Stretches.{does_nothing}
use Rattle.flash_disk.proofs.Throughout.{holds_usable}
use Rattle.flash_disk.proofs.Emptying.{forgets_refl, forgets_after}
use Rattle.flash_disk.proofs.layer.Layer.forget_all.Goals as goal

pub returns-in_err-make_sure-clause-does : goal.returns-in_err-make_sure-clause-does
returns-in_err-make_sure-clause-does g c told =
    let m = g.F.Flash.medium c.args.self.now.flash in
    let look = g.F.Flash.medium c.make_sure.new.self.flash in
    let e = c.make_sure.ensures in
    let kept = in_ranges c.args.kept.now in
    does_nothing m look (Forgets kept m.blocks m.state.pages) (e.unchanged told) e.during
    (forgets_refl kept m.blocks m.state.pages (holds_usable m c.args.self.now.state (c.requires.described told)))

pub returns-clause-does : goal.returns-clause-does
returns-clause-does g c told =
    let m = g.F.Flash.medium c.args.self.now.flash in
    let look = g.F.Flash.medium c.make_sure.new.self.flash in
    let now = g.F.Flash.medium c.forget_others.new.self.flash in
    let e = c.make_sure.ensures in
    forgets_after (in_ranges c.args.kept.now) m look now (e.accounts.time told)
    (c.forget_others.ensures.accounts.time told) (e.unchanged told) e.during
    (holds_usable m c.args.self.now.state (c.requires.described told)) (c.forget_others.ensures.does told)

pub returns-clause-nothing : goal.returns-clause-nothing
returns-clause-nothing g c told =
    let now = g.F.Flash.medium c.forget_others.new.self.flash in
    subst (λ (z : FlashState). IfOk c.forget_others.result (λ whole. IsFalse whole → now.state.pages ≡ z.pages))
    (c.make_sure.ensures.unchanged told) (c.forget_others.ensures.nothing told)

pub returns-clause-due : goal.returns-clause-due
returns-clause-due g c told =
    let m = g.F.Flash.medium c.args.self.now.flash in
    let look = g.F.Flash.medium c.make_sure.new.self.flash in
    let kept = in_ranges c.args.kept.now in
    let e = c.make_sure.ensures in
    subst (λ (z : FlashState). IfOk c.forget_others.result (λ whole. IsFalse whole
    → HasRivals z.pages (places m.blocks) ⊎ IsFullOfKept kept z.pages m.blocks)) (e.unchanged told)
    (subst (λ k. IfOk c.forget_others.result (λ whole. IsFalse whole
    → HasRivals look.state.pages (places k) ⊎ IsFullOfKept kept look.state.pages k)) (e.accounts.time told).blocks
    (c.forget_others.ensures.due told))
