use Rattle.std.proofs.Common.{◌≡◌, ◌+◌, List, ℕ, refl, sym, ap, ◌∙◌, subst, true, false, length, arith}
use Rattle.per_base.specs.Contents.{blocks_for}
use Rattle.block_files.specs.Parts.{is_changed}
use Rattle.block_files.specs.lemmas.PartLemmas.{changed_at, changed_to-le}
use Rattle.block_files.specs.lemmas.Sharing.{IsMerging, merging_fresh, merging_old, same_inside}
use Rattle.block_files.proofs.choosing.merge.Goals as goal
use Rattle.block_files.proofs.choosing.merge.Goals.{then-differs+in_ok-push, else-differs+in_ok-push-2}

pub offset_bounds-fresh-next : goal.offset_bounds-fresh-next
offset_bounds-fresh-next c =
    omega (arith, c.loop-i.invariant.next_is, changed_to-le c.args.bytes.now c.args.old_bytes.now c.loop-i.i)

pub bounds-fresh-next : goal.bounds-fresh-next
bounds-fresh-next c =
    let differ : is_changed c.args.bytes.now c.args.old_bytes.now c.loop-i.i ≡ true =
    sym c.differs.ensures ∙ c.if-differs.true in
    omega (
      arith,
      c.requires.enough,
      c.loop-i.invariant.next_is,
      changed_at c.args.bytes.now c.args.old_bytes.now c.loop-i.i (blocks_for (length c.args.bytes.now)) (omega arith)
          differ,
    )

pub overflow_add-next : goal.overflow_add-next
overflow_add-next c =
    omega (arith, c.loop-i.invariant.next_is, changed_to-le c.args.bytes.now c.args.old_bytes.now c.loop-i.i)

pub bounds-old_blocks-i : goal.bounds-old_blocks-i
bounds-old_blocks-i c =
    let same : is_changed c.args.bytes.now c.args.old_bytes.now c.loop-i.i ≡ false =
    sym c.differs.ensures ∙ c.if-differs.false in
    omega (
      arith,
      c.requires.room,
      same_inside c.args.bytes.now c.args.old_bytes.now c.loop-i.i 0 same (omega arith)
          (omega arith),
    )

pub loop-i-preserved : goal.loop-i-preserved
loop-i-preserved c =
    let bytes = c.args.bytes.now in
    let was = c.args.old_bytes.now in
    let old = c.args.old_blocks.now in
    let fresh = c.args.fresh.now in
    let is_at = λ (next : ℕ) (items : List ℕ). IsMerging bytes was old fresh (c.loop-i.i + 1) next items in
    elim c.if-differs.branch [
      | then-differs+in_ok-push w ↦ (
          let differ : is_changed bytes was c.loop-i.i ≡ true = sym c.differs.ensures ∙ w.if-differs.true in
          let items = w.in_ok-push.ensures.items in
          subst (λ (n : ℕ). is_at n c.if-differs.blocks.items) (sym w.next-is)
          (subst (is_at (c.loop-i.next + 1)) (sym (ap (λ v. v.items) w.blocks-is ∙ items))
          (merging_fresh bytes was old fresh c.loop-i.i c.loop-i.next _ c.loop-i.blocks.items differ refl
          c.loop-i.invariant)))
      | else-differs+in_ok-push-2 w ↦ (
          let same : is_changed bytes was c.loop-i.i ≡ false = sym c.differs.ensures ∙ w.if-differs.false in
          let items = w.in_ok-push-2.ensures.items in
          subst (λ (n : ℕ). is_at n c.if-differs.blocks.items) (sym w.next-is)
          (subst (is_at c.loop-i.next) (sym (ap (λ v. v.items) w.blocks-is ∙ items))
          (merging_old bytes was old fresh c.loop-i.i c.loop-i.next _ c.loop-i.blocks.items same refl
          c.loop-i.invariant)))
    ]
