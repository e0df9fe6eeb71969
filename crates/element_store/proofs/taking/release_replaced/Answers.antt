use Rattle.std.proofs.Common.{◌<◌, ◌≡◌, ℕ, List, length, ◌∙◌, sym, subst, arith}
use Rattle.std.specs.Prelude.{not, ◌&&◌, ◌||◌}
use Rattle.std.specs.List.{All}
use Rattle.std.proofs.lemmas.List.{take_all}
use Rattle.disk_model.specs.Orders.{named_in}
use Rattle.block_files.specs.BlockSets.{contains, IsAdded}
use Rattle.index_text.specs.declared.entries.IndexEntry.{IndexEntry}
use Rattle.index_text.specs.Rules.{blocks_of}
use Rattle.element_store.specs.Taking.{Loses}
use Rattle.element_store.proofs.Taken.{entry_below}
use Rattle.element_store.proofs.Released.{entry_lost, entry_gained, gained_none, released}
use Rattle.element_store.proofs.taking.release_replaced.Goals as goal

pub release-requires : goal.release-requires
release-requires c =
    let all = entry_below c.args.earlier.now c.loop-entry.entry-index c.entry-item.result (length c.args.taken.now)
    c.requires.earlier (omega arith) c.entry-item.is in
    let long = c.loop-entry.invariant.1 in
    subst (λ (bs : List ℕ). All (λ b. b < length c.loop-entry.taken) bs) (sym c.as_slice.ensures)
    (λ k d less. let small = all k d less in omega (arith, small, long))

pub take-requires : goal.take-requires
take-requires c =
    let all = entry_below c.args.later.now c.loop-entry-2.entry-index c.entry-item-in-loop-entry-2.result
    (length c.args.taken.now) c.requires.later (omega arith) c.entry-item-in-loop-entry-2.is in
    let long = c.loop-entry-2.invariant.1 in
    subst (λ (bs : List ℕ). All (λ b. b < length c.loop-entry-2.taken) bs) (sym c.as_slice-in-loop-entry-2.ensures)
    (λ k d less. let small = all k d less in omega (arith, small, long))

pub loop-entry-preserved : goal.loop-entry-preserved
loop-entry-preserved c = (
  entry_lost c.args.earlier.now c.loop-entry.entry-index c.entry-item.result c.args.taken.now c.loop-entry.taken
      c.release.new.taken (omega arith) c.entry-item.is
      (subst (λ (bs : List ℕ). Loses bs c.loop-entry.taken c.release.new.taken) c.as_slice.ensures
      c.release.ensures.lost) c.loop-entry.invariant.0,
  c.release.ensures.capacity ∙ c.loop-entry.invariant.1,
)

pub loop-entry-2-preserved : goal.loop-entry-2-preserved
loop-entry-2-preserved c = (
  entry_gained c.args.later.now c.loop-entry-2.entry-index c.entry-item-in-loop-entry-2.result
      (λ b. contains c.args.taken.now b && not (named_in (blocks_of c.args.earlier.now) b)) c.loop-entry-2.taken
      c.take.new.taken (omega arith) c.entry-item-in-loop-entry-2.is
      (subst (λ (bs : List ℕ). IsAdded bs c.loop-entry-2.taken c.take.new.taken) c.as_slice-in-loop-entry-2.ensures
      c.take.ensures) c.loop-entry-2.invariant.0,
  c.take.ensures.capacity ∙ c.loop-entry-2.invariant.1,
)

pub loop-entry-2-init : goal.loop-entry-2-init
loop-entry-2-init c = (
  λ b. subst (λ (es : List IndexEntry). contains c.loop-entry.taken b
      ≡ (contains c.args.taken.now b && not (named_in (blocks_of es) b)))
      (take_all c.loop-entry.entry-index c.args.earlier.now (omega arith)) (c.loop-entry.invariant.0 b)
      ∙ gained_none (contains c.args.taken.now b && not (named_in (blocks_of c.args.earlier.now) b)),
  c.loop-entry.invariant.1,
)

pub returns : goal.returns
returns c = released c.args.earlier.now c.args.later.now c.args.taken.now c.loop-entry-2.taken c.requires.either
    c.loop-entry-2.invariant.1
    (subst (λ (es : List IndexEntry). (b : ℕ) → contains c.loop-entry-2.taken b
    ≡ ((contains c.args.taken.now b && not (named_in (blocks_of c.args.earlier.now) b))
    || named_in (blocks_of es) b))
    (take_all c.loop-entry-2.entry-index c.args.later.now (omega arith)) c.loop-entry-2.invariant.0)
