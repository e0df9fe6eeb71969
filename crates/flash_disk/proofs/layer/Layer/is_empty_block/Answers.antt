use Rattle.std.proofs.Common.{◌≡◌, ◌<◌, ◌∙◌, ℕ, sym, ap, subst, ⊎_elim, arith}
use Rattle.std.proofs.lemmas.Bool.{cases_lt}
use Rattle.flash_model.specs.Pages.{blank_page}
use Rattle.flash_disk.proofs.Steps.{nothing_as, nothing_fails, nothing_then}
use Rattle.flash_disk.proofs.layer.Layer.is_empty_block.Goals as goal

pub loop-page-preserved : goal.loop-page-preserved
loop-page-preserved g c =
    let i = c.loop-page.invariant in
    let e = c.in_ok-read_page.ensures in
    let m = g.F.Flash.medium c.args.self.now.flash in
    let seen = g.F.Flash.medium c.loop-page.self.flash in
    let block = c.args.block in
    let at = c.loop-page.page in record {
      reads = nothing_as (nothing_then i.reads e.reads) tt;
      blank = λ told within p below. ⊎_elim
          (λ before. i.blank told within p before)
          (λ past. (let last : p ≡ at = omega (arith, past, below) in
          subst (λ (k : ℕ). m.state.pages block k ≡ blank_page) (sym last)
          (ap (λ pages. pages block at) (sym (i.reads.only.pages told))
          ∙ (sym (e.bytes told (subst (λ (k : ℕ). block < k) (sym i.reads.only.blocks) within) (omega arith))
          ∙ c.is_blank.ensures c.if-not-is_blank.false))))
          (cases_lt p at);
    }

pub returns-in_err-read_page-clause-reads : goal.returns-in_err-read_page-clause-reads
returns-in_err-read_page-clause-reads g c = nothing_fails c.from_residual.result _ c.from_residual.ensures.1
    (nothing_then c.loop-page.invariant.reads c.in_err-read_page.ensures.reads)

pub returns-then-not-is_blank-clause-reads : goal.returns-then-not-is_blank-clause-reads
returns-then-not-is_blank-clause-reads g c =
    nothing_as (nothing_then c.loop-page.invariant.reads c.in_ok-read_page.ensures.reads) tt

pub returns-clause-empty : goal.returns-clause-empty
returns-clause-empty g c told within empty p small =
    let past = c.loop-page-test.false in c.loop-page.invariant.blank told within p (omega (arith, past, small))
