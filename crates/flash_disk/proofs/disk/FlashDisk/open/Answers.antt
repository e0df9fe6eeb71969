use Rattle.std.proofs.Common.{sym, ◌∙◌, subst, arith}
use Rattle.flash_disk.specs.Newest.{IsUsable, IsUnusable, SaysUsable}
use Rattle.flash_disk.specs.Sound.{Sound}
use Rattle.flash_disk.proofs.Opened.{holds_all, opens_usable, opens_agreed, begins, settled_is_quiet}
use Rattle.flash_disk.proofs.disk.FlashDisk.open.Goals as goal

pub returns-in-Ok-false-clause-unusable : goal.returns-in-Ok-false-clause-unusable
returns-in-Ok-false-clause-unusable g c told same =
    subst (IsUnusable (g.F.Flash.medium c.args.flash).state.pages) c.blocks-blocks.ensures
    (subst (SaysUsable (g.F.Flash.medium c.args.flash).state.pages c.blocks-blocks.result) c.in-Ok-false.field-0-test
    (c.in-Ok-false.ensures.usable told))

pub invariant_of-result : goal.invariant_of-result
invariant_of-result g c = record {
  described = λ told. holds_all (g.F.Flash.medium c.learn.new.self.flash) c.learn.new.self.state
      (g.F.Flash.medium c.args.flash).state.pages
      (subst (λ b. Sound (g.F.Flash.medium c.args.flash).state.pages b c.learn.new.self.state)
      (c.blocks-blocks.ensures ∙ sym c.in-Ok-true.ensures.blocks)
      (c.in-Ok-true.ensures.sound told c.in-Ok-true.field-0-test))
      (c.in-Ok-true.ensures.pages told) (c.in-Ok-true.ensures.sure c.in-Ok-true.field-0-test);
  counted = omega arith;
}

pub returns-in-Ok-true-clause-quiet : goal.returns-in-Ok-true-clause-quiet
returns-in-Ok-true-clause-quiet g c =
    settled_is_quiet g.F.Flash.told (g.F.Flash.medium c.learn.new.self.flash) c.learn.new.self.own 0
    (g.F.Flash.medium c.args.flash).state
    (λ told. c.in-Ok-true.ensures.settled told c.in-Ok-true.field-0-test)

pub returns-in-Ok-true-clause-throughout : goal.returns-in-Ok-true-clause-throughout
returns-in-Ok-true-clause-throughout g c told =
    let old = g.F.Flash.medium c.args.flash in
    let e = c.in-Ok-true.ensures in
    opens_usable g.F.Flash.told old (g.F.Flash.medium c.learn.new.self.flash) told (e.pages told) e.opens
    (subst (IsUsable old.state.pages) c.blocks-blocks.ensures
    (subst (SaysUsable old.state.pages c.blocks-blocks.result) c.in-Ok-true.field-0-test (e.usable told)))
    e.blocks

pub returns-in-Ok-true-clause-agreed : goal.returns-in-Ok-true-clause-agreed
returns-in-Ok-true-clause-agreed g c told =
    let e = c.in-Ok-true.ensures in
    opens_agreed g.F.Flash.told (g.F.Flash.medium c.args.flash) (g.F.Flash.medium c.learn.new.self.flash) told
    (e.pages told) e.opens

pub returns-in-Ok-true-clause-begins : goal.returns-in-Ok-true-clause-begins
returns-in-Ok-true-clause-begins g c =
    let old = g.F.Flash.medium c.args.flash in
    let e = c.in-Ok-true.ensures in
    let many = c.if-blocks-lt4.false in
    let few = c.if-blocks-gt4096.false in
    let blocks = c.blocks-blocks.ensures in
    begins g.F.Flash.told old (g.F.Flash.medium c.learn.new.self.flash) (g.met.F.Flash.lawful c.learn.new.self.flash)
    e.pages e.blocks c.learn.new.self.own
    (omega (arith, many, blocks)) (omega (arith, few, blocks))
    (λ told. subst (IsUsable old.state.pages) c.blocks-blocks.ensures
    (subst (SaysUsable old.state.pages c.blocks-blocks.result) c.in-Ok-true.field-0-test (e.usable told)))
