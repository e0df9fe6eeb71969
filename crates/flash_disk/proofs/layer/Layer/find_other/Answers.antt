use Rattle.std.proofs.Common.{◌≡◌, sym, subst, ⊎_elim, arith}
use Rattle.std.proofs.lemmas.Bool.{cases_lt}
use Rattle.flash_disk.specs.Kept.{in_ranges, HoldsKept}
use Rattle.flash_disk.proofs.Steps.{nothing_as, nothing_fails, nothing_then}
use Rattle.flash_disk.proofs.layer.Layer.find_other.Goals as goal

pub loop-block-preserved : goal.loop-block-preserved
loop-block-preserved g c =
    let i = c.loop-block.invariant in
    let e = c.in_ok-holds_other.ensures in
    let m = g.F.Flash.medium c.args.self.now.flash in
    let block = c.loop-block.block in
    let kept = in_ranges c.args.kept.now in
    let below_end = c.loop-block-test.true in
    let end = c.blocks-block-end.ensures in
    let seen = i.reads.only.blocks in record {
      reads = nothing_as (nothing_then i.reads e.reads) tt;
      kept = λ told b below. ⊎_elim
          (λ before. i.kept told b before)
          (λ past. (let last : b ≡ block = omega (arith, past, below) in
          subst (HoldsKept kept m.state.pages) (sym last)
          (subst (λ p. HoldsKept kept p block) (i.reads.only.pages told)
          (e.none told (omega (arith, below_end, end, seen)) c.if-branch.false))))
          (cases_lt b block);
    }

pub returns-in_err-holds_other-clause-reads : goal.returns-in_err-holds_other-clause-reads
returns-in_err-holds_other-clause-reads g c = nothing_fails c.from_residual.result _ c.from_residual.ensures.1
    (nothing_then c.loop-block.invariant.reads c.in_err-holds_other.ensures.reads)

pub returns-then-branch-clause-reads : goal.returns-then-branch-clause-reads
returns-then-branch-clause-reads g c =
    nothing_as (nothing_then c.loop-block.invariant.reads c.in_ok-holds_other.ensures.reads) tt

pub returns-clause-reads : goal.returns-clause-reads
returns-clause-reads g c = nothing_as c.loop-block.invariant.reads tt

pub returns-clause-none : goal.returns-clause-none
returns-clause-none g c told none block within =
    let past = c.loop-block-test.false in let end = c.blocks-block-end.ensures in
    c.loop-block.invariant.kept told block (omega (arith, past, end, within))
