use Rattle.std.proofs.Common.{◌≡◌, ◌∙◌, sym, ap, subst, ⊎_elim, arith}
use Rattle.std.proofs.lemmas.Bool.{cases_lt}
use Rattle.flash_disk.specs.declared.layer.LayerState.{LayerState}
use Rattle.flash_disk.specs.Kept.{in_ranges}
use Rattle.flash_disk.specs.Newest.{places}
use Rattle.flash_disk.specs.Forgetting.{LeadsKept, LeavesKept, NeedsBlock}
use Rattle.flash_disk.proofs.Steps.{nothing_as, nothing_fails, nothing_then}
use Rattle.flash_disk.proofs.layer.Layer.find_free.Goals as goal
use Rattle.flash_disk.proofs.layer.Layer.find_free.Goals.{else-not-needed-via-then-not-needed+else-block-self}
use Rattle.flash_disk.proofs.layer.Layer.find_free.Goals.{else-not-needed-via-else-not-needed}

pub loop-block-preserved : goal.loop-block-preserved
loop-block-preserved g c =
    let i = c.loop-block.invariant in
    let block = c.loop-block.block in
    let kept = in_ranges c.args.kept.now in
    let s = c.args.self.now.state in record {
      reads = nothing_as (nothing_then i.reads c.in_ok-needed.ensures.reads) tt;
      needed = λ b below apart. ⊎_elim
          (λ before. i.needed b before apart)
          (λ past. (let last : b ≡ block = omega (arith, past, below) in
          elim c.else-not-needed.branch [
            | else-not-needed-via-then-not-needed+else-block-self w ↦ absurd (apart (last
                ∙ (w.if-block-self.false ∙ ap (λ (q : LayerState). q.spare)
                (c.in_ok-needed.ensures.reads.state ∙ i.reads.state))))
            | else-not-needed-via-else-not-needed w ↦ subst (NeedsBlock kept s.table) (sym last)
                (subst (λ (q : LayerState). NeedsBlock kept q.table block) i.reads.state
                (c.in_ok-needed.ensures.some w.if-not-needed.false))
          ]))
          (cases_lt b block);
    }

pub returns-in_err-needed-clause-reads : goal.returns-in_err-needed-clause-reads
returns-in_err-needed-clause-reads g c = nothing_fails c.from_residual.result _ c.from_residual.ensures.1
    (nothing_then c.loop-block.invariant.reads c.in_err-needed.ensures.reads)

pub returns-then-block-self-clause-reads : goal.returns-then-block-self-clause-reads
returns-then-block-self-clause-reads g c =
    nothing_as (nothing_then c.loop-block.invariant.reads c.in_ok-needed.ensures.reads) tt

pub returns-clause-reads : goal.returns-clause-reads
returns-clause-reads g c = nothing_as c.loop-block.invariant.reads tt

pub returns-then-block-self-clause-free : goal.returns-then-block-self-clause-free
returns-then-block-self-clause-free g c told led =
    let m = g.F.Flash.medium c.args.self.now.flash in
    let seen = g.F.Flash.medium c.loop-block.self.flash in
    let i = c.loop-block.invariant.reads in
    let n = c.in_ok-needed.ensures in
    let s = c.args.self.now.state in
    let kept = in_ranges c.args.kept.now in
    let block = c.loop-block.block in
    let below = c.loop-block-test.true in
    let end = c.blocks-block-end.ensures in
    let same = i.only.blocks in
    let differs = c.if-block-self.true in
    let spare = ap (λ (q : LayerState). q.spare) (n.reads.state ∙ i.state) in
    let led_seen : LeadsKept kept seen.state.pages (places seen.blocks) c.loop-block.self.state.table =
    subst (λ p. LeadsKept kept p (places seen.blocks) c.loop-block.self.state.table) (sym (i.only.pages told))
    (subst (λ k. LeadsKept kept m.state.pages (places k) c.loop-block.self.state.table) (sym same)
    (subst (λ (q : LayerState). LeadsKept kept m.state.pages (places m.blocks) q.table) (sym i.state) led)) in
    record {
      within = omega (arith, below, end, same);
      apart = λ here. omega (arith, differs, spare, here);
      out = subst (λ (q : LayerState). LeavesKept kept q.table block 64) i.state
          (n.none told (omega (arith, below, end, same)) led_seen c.if-not-needed.true);
    }

pub returns-clause-full : goal.returns-clause-full
returns-clause-full g c none block within apart =
    let past = c.loop-block-test.false in
    let end = c.blocks-block-end.ensures in
    c.loop-block.invariant.needed block (omega (arith, past, end, within)) apart
