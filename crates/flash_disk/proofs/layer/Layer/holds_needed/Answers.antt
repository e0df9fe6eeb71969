use Rattle.std.proofs.Common.{◌≡◌, ◌<◌, ◌∙◌, ℕ, sym, ap, subst, arith}
use Rattle.std.specs.Prelude.{Some}
use Rattle.flash_disk.specs.declared.layer.LayerState.{LayerState}
use Rattle.flash_disk.specs.Known.{known, page_of}
use Rattle.flash_disk.specs.Kept.{in_ranges}
use Rattle.flash_disk.specs.Forgetting.{NeedsBlock}
use Rattle.flash_disk.proofs.Emptying.{leaves_more}
use Rattle.flash_disk.proofs.Losing.{none_there}
use Rattle.flash_disk.proofs.Needing.{found_needs}
use Rattle.flash_disk.proofs.Steps.{nothing_as, nothing_fails, nothing_then}
use Rattle.flash_disk.proofs.layer.Layer.holds_needed.Goals as goal

pub loop-at-preserved : goal.loop-at-preserved
loop-at-preserved g c =
    let i = c.loop-at.invariant in
    let e = c.in_ok-read_page.ensures in
    let m = g.F.Flash.medium c.args.self.now.flash in
    let block = c.args.block in
    let at = c.loop-at.at in
    let table = c.args.self.now.state.table in
    let same = ap (λ (s : LayerState). s.table) (e.reads.state ∙ i.reads.state) in record {
      reads = nothing_as (nothing_then i.reads e.reads) tt;
      out = λ told within led. leaves_more (in_ranges c.args.kept.now) m.blocks m.state.pages table led block at
          (omega arith) c.read_page.new.out
          (e.bytes told (subst (λ (k : ℕ). block < k) (sym i.reads.only.blocks) within) (omega arith)
          ∙ ap (λ pages. pages block at) (i.reads.only.pages told))
          (i.out told within led) c.needed_in.result (none_there c.needed_in.result c.is_some.ensures c.if-is_some.false)
          (λ r f is own knows at_block at_page. c.needed_in.ensures.found r f is own
          (subst (λ t. known t (page_of r) ≡ Some f) (sym same) knows) at_block at_page);
    }

pub returns-in_err-read_page-clause-reads : goal.returns-in_err-read_page-clause-reads
returns-in_err-read_page-clause-reads g c = nothing_fails c.from_residual.result _ c.from_residual.ensures.1
    (nothing_then c.loop-at.invariant.reads c.in_err-read_page.ensures.reads)

pub returns-then-is_some-clause-reads : goal.returns-then-is_some-clause-reads
returns-then-is_some-clause-reads g c =
    nothing_as (nothing_then c.loop-at.invariant.reads c.in_ok-read_page.ensures.reads) tt

pub returns-then-is_some-clause-some : goal.returns-then-is_some-clause-some
returns-then-is_some-clause-some g c needed =
    let kept = in_ranges c.args.kept.now in
    let n = c.needed_in.ensures in
    subst (λ (s : LayerState). NeedsBlock kept s.table c.args.block)
    (c.in_ok-read_page.ensures.reads.state ∙ c.loop-at.invariant.reads.state)
    (found_needs kept c.read_page.new.self.state.table c.args.block c.needed_in.result c.is_some.result
    c.is_some.ensures c.if-is_some.true n.known n.kept n.block)

pub returns-clause-none : goal.returns-clause-none
returns-clause-none g c told within led none key e own is at_block =
    let past = c.loop-at-test.false in
    let le = c.loop-at.invariant.out told within led key e own is at_block in omega (arith, past, le)
