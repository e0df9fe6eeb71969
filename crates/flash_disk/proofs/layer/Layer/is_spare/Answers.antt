use Rattle.std.proofs.Common.{◌+◌, ◌*◌, refl, ap, arith}
use Rattle.flash_disk.specs.declared.layer.LayerState.{LayerState}
use Rattle.flash_disk.specs.Newest.{NeedsPlace, places}
use Rattle.flash_disk.proofs.Usable.{known_there, not_needed, one_more, spare_block}
use Rattle.flash_disk.proofs.Steps.{nothing_as, nothing_fails, nothing_then}
use Rattle.flash_disk.proofs.layer.Layer.is_spare.Goals as goal

pub returns-clause-spare : goal.returns-clause-spare
returns-clause-spare g c told learnt = let i = c.loop-page.invariant in let past = c.loop-page-test.false in (
  (λ yes. spare_block (g.F.Flash.medium c.args.self.now.flash).state.pages
      (places (g.F.Flash.medium c.args.self.now.flash).blocks) c.args.block
      (λ p small. i.unneeded told learnt p (omega (arith, past, small)))),
  (λ spare. refl),
)

pub loop-page-preserved : goal.loop-page-preserved
loop-page-preserved g c =
    let i = c.loop-page.invariant in
    let e = c.in_ok-is_needed.ensures in
    let m = g.F.Flash.medium c.args.self.now.flash in
    let seen = g.F.Flash.medium c.loop-page.self.flash in
    let same = i.reads.only.pages in
    let blocks = i.reads.only.blocks in
    let table = ap (λ (s : LayerState). s.table) i.reads.state in record {
      reads = nothing_as (nothing_then i.reads e.reads) tt;
      unneeded = λ told learnt. one_more (λ p. NeedsPlace m.state.pages (places m.blocks) (64 * c.args.block + p))
          c.loop-page.page (i.unneeded told learnt)
          (not_needed m.state.pages seen.state.pages (same told) m.blocks seen.blocks blocks
          c.args.self.now.state.table c.loop-page.self.state.table table (64 * c.args.block + c.loop-page.page)
          c.in_ok-is_needed.field-0 c.if-branch.false
          (e.needed told (known_there m.state.pages seen.state.pages (same told) m.blocks seen.blocks blocks
          c.args.self.now.state.table c.loop-page.self.state.table table learnt)));
    }

pub returns-in_err-is_needed-clause-reads : goal.returns-in_err-is_needed-clause-reads
returns-in_err-is_needed-clause-reads g c = nothing_fails c.from_residual.result _ c.from_residual.ensures.1
    (nothing_then c.loop-page.invariant.reads c.in_err-is_needed.ensures.reads)

pub returns-then-branch-clause-reads : goal.returns-then-branch-clause-reads
returns-then-branch-clause-reads g c =
    nothing_as (nothing_then c.loop-page.invariant.reads c.in_ok-is_needed.ensures.reads) tt
