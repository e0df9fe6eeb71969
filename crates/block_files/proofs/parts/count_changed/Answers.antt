use Rattle.std.proofs.Common.{arith, sym, ◌∙◌, ◌≡◌, true, false}
use Rattle.block_files.specs.Parts.{is_changed}
use Rattle.block_files.specs.lemmas.PartLemmas.{changed_to-le, changed_more, changed_same}
use Rattle.block_files.proofs.parts.count_changed.Goals as goal
use Rattle.block_files.proofs.parts.count_changed.Goals.{then-differs, else-differs}

pub overflow_add-count : goal.overflow_add-count
overflow_add-count c =
    omega (arith, c.loop-i.invariant, changed_to-le c.args.bytes.now c.args.was.now c.loop-i.i)

pub loop-i-preserved : goal.loop-i-preserved
loop-i-preserved c = elim c.if-differs.branch [
  | then-differs w ↦ (
      let differ : is_changed c.args.bytes.now c.args.was.now c.loop-i.i ≡ true =
      sym c.differs.ensures ∙ w.if-differs.true in
      omega (arith, w.count-is, c.loop-i.invariant, changed_more c.args.bytes.now c.args.was.now c.loop-i.i differ))
  | else-differs w ↦ (
      let same : is_changed c.args.bytes.now c.args.was.now c.loop-i.i ≡ false =
      sym c.differs.ensures ∙ w.if-differs.false in
      omega (arith, w.count-is, c.loop-i.invariant, changed_same c.args.bytes.now c.args.was.now c.loop-i.i same))
]
