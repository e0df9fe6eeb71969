use Rattle.std.proofs.Common.{◌≡◌, ◌<◌, ◌∙◌, ℕ, sym, ap, subst, ⊎_elim, arith, true}
use Rattle.std.proofs.lemmas.Bool.{cases_lt}
use Rattle.flash_record.specs.PageRecord.{record_in}
use Rattle.flash_disk.specs.Kept.{in_ranges, spares_record}
use Rattle.flash_disk.proofs.Hiding.{not_other, is_other}
use Rattle.flash_disk.proofs.Steps.{nothing_as, nothing_fails, nothing_then}
use Rattle.flash_disk.proofs.layer.Layer.holds_other.Goals as goal

pub loop-at-preserved : goal.loop-at-preserved
loop-at-preserved g c =
    let i = c.loop-at.invariant in
    let e = c.in_ok-read_page.ensures in
    let m = g.F.Flash.medium c.args.self.now.flash in
    let block = c.args.block in
    let at = c.loop-at.at in
    let kept = in_ranges c.args.kept.now in record {
      reads = nothing_as (nothing_then i.reads e.reads) tt;
      kept = λ told within p below. ⊎_elim
          (λ before. i.kept told within p before)
          (λ past. (let last : p ≡ at = omega (arith, past, below) in
          subst (λ (k : ℕ). spares_record kept (record_in (m.state.pages block k)) ≡ true) (sym last)
          (subst (λ b. spares_record kept (record_in b) ≡ true)
          (e.bytes told (subst (λ (k : ℕ). block < k) (sym i.reads.only.blocks) within) (omega arith)
          ∙ ap (λ pages. pages block at) (i.reads.only.pages told))
          (not_other (spares_record kept (record_in c.read_page.new.out)) c.is_of_other.result c.is_of_other.ensures
          c.if-is_of_other.false))))
          (cases_lt p at);
    }

pub returns-in_err-read_page-clause-reads : goal.returns-in_err-read_page-clause-reads
returns-in_err-read_page-clause-reads g c = nothing_fails c.from_residual.result _ c.from_residual.ensures.1
    (nothing_then c.loop-at.invariant.reads c.in_err-read_page.ensures.reads)

pub returns-then-is_of_other-clause-reads : goal.returns-then-is_of_other-clause-reads
returns-then-is_of_other-clause-reads g c =
    nothing_as (nothing_then c.loop-at.invariant.reads c.in_ok-read_page.ensures.reads) tt

pub returns-then-is_of_other-clause-some : goal.returns-then-is_of_other-clause-some
returns-then-is_of_other-clause-some g c told within some holds =
    let i = c.loop-at.invariant in
    let e = c.in_ok-read_page.ensures in
    let at = c.loop-at.at in
    let block = c.args.block in
    let kept = in_ranges c.args.kept.now in
    is_other (spares_record kept (record_in c.read_page.new.out)) c.is_of_other.result c.is_of_other.ensures
    c.if-is_of_other.true
    (subst (λ b. spares_record kept (record_in b) ≡ true)
    (sym (e.bytes told (subst (λ (k : ℕ). block < k) (sym i.reads.only.blocks) within) (omega arith)
    ∙ ap (λ pages. pages block at) (i.reads.only.pages told)))
    (holds at (omega arith)))

pub returns-clause-none : goal.returns-clause-none
returns-clause-none g c told within none p small =
    let past = c.loop-at-test.false in c.loop-at.invariant.kept told within p (omega (arith, past, small))
