use Rattle.std.proofs.Common.{◌≡◌, refl, sym, ap, subst, ◌∙◌, true≢false}
use Rattle.std.specs.Prelude.{true}
use Rattle.flash_disk.specs.declared.layer.LayerState.{LayerState}
use Rattle.flash_disk.proofs.Clearing.{look_empties}
use Rattle.flash_disk.proofs.Accounting.{accounts_fails, accounts_here}
use Rattle.flash_disk.proofs.layer.Layer.clear_spare.Goals as goal

pub returns-then-self-clause-does : goal.returns-then-self-clause-does
returns-then-self-clause-does g c told =
    let m = g.F.Flash.medium c.args.self.now.flash in
    look_empties m m c.args.self.now.state.spare refl
    (λ x past. (g.met.F.Flash.lawful c.args.self.now.flash).only_now x past)

pub returns-then-self-clause-blank : goal.returns-then-self-clause-blank
returns-then-self-clause-blank g c told cleared = (c.requires.ready.sound told).empty cleared

pub returns-in_err-empty_block-clause-blank : goal.returns-in_err-empty_block-clause-blank
returns-in_err-empty_block-clause-blank g c told cleared = absurd (true≢false (sym cleared
    ∙ (ap (λ (q : LayerState). q.cleared) c.empty_block.ensures.state ∙ c.if-self.false)))

pub returns-in_err-empty_block-clause-state : goal.returns-in_err-empty_block-clause-state
returns-in_err-empty_block-clause-state g c =
    let now = c.empty_block.new.self.state in
    subst (λ (q : LayerState). now ≡ record q { cleared = now.cleared }) c.empty_block.ensures.state refl

pub returns-in_err-empty_block-clause-accounts : goal.returns-in_err-empty_block-clause-accounts
returns-in_err-empty_block-clause-accounts g c = accounts_fails c.from_residual.result _ c.from_residual.ensures.1
    c.in_err-empty_block.ensures.accounts

pub returns-clause-state : goal.returns-clause-state
returns-clause-state g c =
    ap (λ (q : LayerState). let z : LayerState = record q { cleared = true } in z) c.empty_block.ensures.state

pub returns-clause-accounts : goal.returns-clause-accounts
returns-clause-accounts g c = accounts_here refl refl refl refl c.in_ok-empty_block.ensures.accounts

pub empty_block-requires : goal.empty_block-requires
empty_block-requires g c told = (c.requires.ready.sound told).within
