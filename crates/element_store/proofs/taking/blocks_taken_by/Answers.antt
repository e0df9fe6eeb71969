use Rattle.std.proofs.Common.{◌<◌, ℕ, List, length, sym, subst, arith}
use Rattle.std.specs.Prelude.{replicate, false}
use Rattle.std.specs.List.{All}
use Rattle.std.proofs.lemmas.List.{take_all, length-replicate}
use Rattle.block_files.specs.BlockSets.{IsAdded}
use Rattle.index_text.specs.declared.entries.IndexEntry.{IndexEntry}
use Rattle.index_text.specs.Rules.{blocks_of}
use Rattle.element_store.proofs.Taken.{entry_added, entry_below, taken_by}
use Rattle.element_store.proofs.taking.blocks_taken_by.Goals as goal

pub take-requires : goal.take-requires
take-requires c =
    let all = entry_below c.args.entries.now c.loop-entry.entry-index c.entry-item.result c.args.capacity c.requires
    (omega arith) c.entry-item.is in
    let long = c.loop-entry.invariant.capacity in
    let full = length-replicate c.args.capacity false in
    subst (λ (bs : List ℕ). All (λ b. b < length c.loop-entry.taken) bs) (sym c.as_slice.ensures)
    (λ k d less. let small = all k d less in omega (arith, small, long, full))

pub loop-entry-preserved : goal.loop-entry-preserved
loop-entry-preserved c = entry_added c.args.entries.now c.loop-entry.entry-index c.entry-item.result
    (replicate c.args.capacity false) c.loop-entry.taken c.take.new.taken
    (omega arith) c.entry-item.is c.loop-entry.invariant
    (subst (λ (bs : List ℕ). IsAdded bs c.loop-entry.taken c.take.new.taken) c.as_slice.ensures c.take.ensures)

pub returns : goal.returns
returns c = taken_by c.args.capacity c.args.entries.now c.loop-entry.taken
    (subst (λ (es : List IndexEntry). IsAdded (blocks_of es) (replicate c.args.capacity false) c.loop-entry.taken)
    (take_all c.loop-entry.entry-index c.args.entries.now (omega arith)) c.loop-entry.invariant)
