use Rattle.std.proofs.Common.{◌≡◌, ◌+◌, ◌-◌, ◌/◌, ◌%◌, ◌<◌, get_or, ap, subst, ◌∙◌, refl, ⊎_elim, arith}
use Rattle.std.proofs.lemmas.Bool.{cases_lt}
use Rattle.flash_model.specs.State.{FlashState}
use Rattle.flash_disk.specs.declared.layer.LayerState.{LayerState}
use Rattle.flash_disk.specs.Newest.{places}
use Rattle.flash_disk.specs.FlashFiles.{file_byte}
use Rattle.flash_disk.proofs.Reading.{knows_there, content_here, page_more}
use Rattle.flash_disk.proofs.Steps.{nothing_as, nothing_fails, nothing_none, nothing_then}
use Rattle.flash_disk.proofs.layer.Layer.read_pages.Goals as goal

pub loop-done-init : goal.loop-done-init
loop-done-init g c =
    let m = g.F.Flash.medium c.args.self.now.flash in
    let lawful = g.met.F.Flash.lawful c.args.self.now.flash in record {
      within = omega arith;
      reads = nothing_none 0 c.args.self.now lawful;
      read = λ told knows fits k below. absurd (omega arith);
    }

pub loop-done-preserved : goal.loop-done-preserved
loop-done-preserved g c =
    let i = c.loop-done.invariant in
    let e = c.in_ok-content.ensures in
    let first = g.F.Flash.medium c.args.self.now.flash in
    let mid = g.F.Flash.medium c.loop-done.self.flash in
    let last = g.F.Flash.medium c.content.new.self.flash in
    let pages = first.state.pages in
    let seen = mid.state.pages in
    let file = c.args.file in
    let done = c.loop-done.done in
    let start = c.args.at + done in
    let from = start % 256 in record {
      within = omega arith;
      reads = nothing_as (nothing_then i.reads e.reads) tt;
      read = λ told knows fits k below. ⊎_elim
          (λ early. c.copy_part.ensures.before k early ∙ i.read told knows (omega (arith, fits)) k early)
          (λ late. let j = k - done in
          let same : seen ≡ pages = ap (λ (s : FlashState). s.pages) (i.reads.only.looks.state told) in
          let table = ap (λ (s : LayerState). s.table) i.reads.state in
          let at : done + j ≡ k = omega (arith, late) in
          let inside : j < c.min-count.result = omega (arith, late, below) in
          let there : start + j ≡ c.args.at + k = omega (arith, late) in
          let byte = c.copy_part.ensures.inside j inside in
          let is = content_here pages seen same first.blocks mid.blocks i.reads.only.blocks
          (record { file = file; page = start / 256 }) c.in_ok-content.content
          (e.bytes told (knows_there pages seen same first.blocks mid.blocks i.reads.only.blocks
          c.args.self.now.state.table
          c.loop-done.self.state.table table knows)) in
          let more = page_more pages (places first.blocks) file start from j c.in_ok-content.content refl
          (omega (arith, inside)) (omega (arith, fits, inside)) is in
          subst (λ q. get_or c.copy_part.new.out q 0 ≡ file_byte pages (places first.blocks) file (c.args.at + k)) at
          (byte ∙ (more ∙ ap (file_byte pages (places first.blocks) file) there)))
          (cases_lt k done);
    }

pub returns-in_err-content-clause-reads : goal.returns-in_err-content-clause-reads
returns-in_err-content-clause-reads g c = nothing_fails c.from_residual.result _ c.from_residual.ensures.1
    (nothing_then c.loop-done.invariant.reads c.in_err-content.ensures.reads)
