use Rattle.std.proofs.Common.{◌<◌, sym, subst, ◌∙◌, arith}
use Rattle.std.proofs.lemmas.Result.{on_ok_weaker}
use Rattle.flash_disk.specs.Does.{Does}
use Rattle.flash_disk.specs.Emptied.{IsEmptyBlock, Empties}
use Rattle.flash_disk.proofs.Stretches.{does_then}
use Rattle.flash_disk.proofs.Clearing.{look_empties, erase_empties, erased_empty}
use Rattle.flash_disk.proofs.Accounting.{accounts_on}
use Rattle.flash_disk.proofs.layer.Layer.empty_block.Goals as goal

pub returns-in_err-empty-clause-does : goal.returns-in_err-empty-clause-does
returns-in_err-empty-clause-does g c told =
    let e = c.is_empty_block.ensures.reads.only in
    look_empties (g.F.Flash.medium c.args.self.now.flash) (g.F.Flash.medium c.is_empty_block.new.self.flash)
    c.args.block (e.looks.state told) (e.looks.during told)

pub returns-then-empty-clause-does : goal.returns-then-empty-clause-does
returns-then-empty-clause-does g c told =
    let e = c.is_empty_block.ensures.reads.only in
    look_empties (g.F.Flash.medium c.args.self.now.flash) (g.F.Flash.medium c.is_empty_block.new.self.flash)
    c.args.block (e.looks.state told) (e.looks.during told)

pub returns-then-empty-clause-blank : goal.returns-then-empty-clause-blank
returns-then-empty-clause-blank g c told =
    subst (λ p. IsEmptyBlock p c.args.block) (sym (c.is_empty_block.ensures.reads.only.pages told))
    (c.in_ok-empty.ensures.empty told (c.requires told) c.if-empty.true)

pub erase_block-requires : goal.erase_block-requires
erase_block-requires g c told =
    subst (λ k. c.args.block < k) (sym c.is_empty_block.ensures.reads.only.blocks) (c.requires told)

pub returns-clause-does : goal.returns-clause-does
returns-clause-does g c told =
    let m = g.F.Flash.medium c.args.self.now.flash in
    let look = g.F.Flash.medium c.is_empty_block.new.self.flash in
    let now = g.F.Flash.medium c.erase_block.new.self.flash in
    let r = c.is_empty_block.ensures.reads in
    let e = c.erase_block.ensures in
    does_then m look now (Empties c.args.block m.state.pages) (r.accounts.time told) (e.accounts.time told)
    (look_empties m look c.args.block (r.only.looks.state told) (r.only.looks.during told))
    (subst (λ p. Does (Empties c.args.block p) look now) (r.only.pages told)
    (erase_empties look now c.args.block c.erase_block.result (e.done told) (e.failed told) (e.during told)))

pub returns-clause-blank : goal.returns-clause-blank
returns-clause-blank g c told = on_ok_weaker c.erase_block.result
    (erased_empty (g.F.Flash.medium c.is_empty_block.new.self.flash) (g.F.Flash.medium c.erase_block.new.self.flash)
    c.args.block) (c.erase_block.ensures.done told)

pub returns-clause-accounts : goal.returns-clause-accounts
returns-clause-accounts g c = accounts_on 0 0 0 (omega arith) c.in_ok-empty.ensures.reads.accounts
    c.erase_block.ensures.accounts

pub returns-clause-state : goal.returns-clause-state
returns-clause-state g c = c.erase_block.ensures.state ∙ c.is_empty_block.ensures.reads.state

pub returns-clause-own : goal.returns-clause-own
returns-clause-own g c told = c.erase_block.ensures.own told ∙ c.is_empty_block.ensures.reads.only.own
