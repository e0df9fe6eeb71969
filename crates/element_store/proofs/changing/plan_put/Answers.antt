use Rattle.std.proofs.Common.{ℕ, ◌∷◌, ◌++◌, List, [], length, sym, ap, subst, ◌∙◌, arith}
use Rattle.per_base.specs.declared.elements.Change.TheVariants.{Put}
use Rattle.per_base.specs.Contents.{blocks_for}
use Rattle.block_files.specs.BlockSets.{AreDistinct, IsAdded, SharesBlocks}
use Rattle.index_text.specs.declared.entries.IndexEntry.{IndexEntry}
use Rattle.element_state.specs.Changes.{insert_item, without_item, entry_name}
use Rattle.element_state.specs.States.{fresh_entry, fresh_element}
use Rattle.element_store.specs.declared.jobs.Job.{Job}
use Rattle.element_store.specs.Changing.{named_by, IsPlanned, KeepsOthers, IsGrownBy}
use Rattle.element_store.proofs.Traced.{put_others, put_grown}
use Rattle.element_store.proofs.Earlier.{changed_at_most}
use Rattle.element_store.proofs.PlanSteps.{added_keeps}
use Rattle.element_store.proofs.Put.{earlier_room, earlier_distinct, standing_keeps, planned_put}
use Rattle.element_store.proofs.changing.plan_put.Goals as goal

pub reserve_hashed-requires-clause-room : goal.reserve_hashed-requires-clause-room
reserve_hashed-requires-clause-room c = earlier_room c.args.standing.kind c.args.used.now c.args.standing.index.now
    c.args.standing.entries.now c.requires.standing
    c.args.fresh.now.name c.earlier_content-earlier.result.bytes.now c.earlier_content-earlier.result.blocks.now
    c.earlier_content-earlier.ensures

pub reserve_hashed-requires-clause-distinct : goal.reserve_hashed-requires-clause-distinct
reserve_hashed-requires-clause-distinct c = earlier_distinct c.args.standing.kind c.args.used.now
    c.args.standing.index.now c.args.standing.entries.now c.requires.standing
    c.args.fresh.now.name c.earlier_content-earlier.result.bytes.now c.earlier_content-earlier.result.blocks.now
    c.earlier_content-earlier.ensures

pub reserve_hashed-requires-clause-free : goal.reserve_hashed-requires-clause-free
reserve_hashed-requires-clause-free c =
    let most = changed_at_most c.as_slice-bytes.result.now c.earlier_content-earlier.result.bytes.now
    (blocks_for (length c.as_slice-bytes.result.now)) in
    let l = ap length c.as_slice-bytes.ensures in
    let free = c.requires.free in
    omega (arith, most, l, free)

pub returns-clause-planned : goal.returns-clause-planned
returns-clause-planned c = λ start elements p. (
    let job : Job = record {
      blocks = c.in_ok-blocks.blocks;
      bytes = c.as_slice-bytes.result;
      was =
          c.earlier_content-earlier.result.bytes;
    } in
    let same = sym c.in_ok-blocks.ensures in
    let shared = subst (λ (bs : List ℕ). SharesBlocks c.as_slice-bytes.result.now
    c.earlier_content-earlier.result.bytes.now c.earlier_content-earlier.result.blocks.now c.args.used.now bs)
    same c.in_ok-blob.ensures.shared in
    let distinct = subst AreDistinct same c.in_ok-blob.ensures.distinct in
    let added = subst (λ (bs : List ℕ). IsAdded bs c.args.used.now c.reserve_hashed.new.used) same
    c.in_ok-blob.ensures.used in
    subst (λ (js : List Job). IsPlanned c.args.standing.kind c.args.standing.index.now c.args.standing.entries.now start
    c.reserve_hashed.new.used c.put_in.new.items.items
    (insert_item entry_name (fresh_entry c.args.standing.generation (fresh_element c.args.fresh.now))
    (without_item entry_name c.args.fresh.now.name elements)) js) (sym c.in_ok-push.ensures.items)
    (subst (λ (es : List IndexEntry). IsPlanned c.args.standing.kind c.args.standing.index.now
    c.args.standing.entries.now start c.reserve_hashed.new.used es
    (insert_item entry_name (fresh_entry c.args.standing.generation (fresh_element c.args.fresh.now))
    (without_item entry_name c.args.fresh.now.name elements)) (c.args.plan.now.jobs.items ++ job ∷ []))
    (sym c.put_in.ensures.items)
    (planned_put c.args.standing.kind c.args.standing.index.now c.args.standing.entries.now start c.args.used.now
    c.reserve_hashed.new.used c.args.plan.now.entries.items elements c.args.plan.now.jobs.items
    c.args.standing.generation c.args.fresh.now c.in_ok-entry.entry job c.earlier_content-earlier.result.blocks.now
    c.requires.standing c.requires.fresh c.in_ok-entry.ensures.made c.earlier_content-earlier.ensures shared distinct
    added
    (c.in_ok-entry.ensures.in_place ∙ same) c.as_slice-bytes.ensures p)))

pub returns-clause-standing : goal.returns-clause-standing
returns-clause-standing c = standing_keeps c.args.standing.kind c.args.used.now c.reserve_hashed.new.used
    c.args.standing.index.now c.args.standing.entries.now
    (added_keeps c.in_ok-blob.blob.blocks c.args.used.now c.reserve_hashed.new.used c.in_ok-blob.ensures.used)
    c.requires.standing

pub returns-clause-others : goal.returns-clause-others
returns-clause-others c = subst (λ (es : List IndexEntry).
    KeepsOthers (Put c.args.fresh.now ∷ []) c.args.plan.now.entries.items es) (sym c.put_in.ensures.items)
    (put_others (Put c.args.fresh.now) c.in_ok-entry.entry c.args.plan.now.entries.items
    c.in_ok-entry.ensures.made.name)

pub returns-clause-grown : goal.returns-clause-grown
returns-clause-grown c = subst (λ (es : List IndexEntry). IsGrownBy es c.args.used.now c.reserve_hashed.new.used)
    (sym c.put_in.ensures.items)
    (put_grown c.in_ok-entry.entry (without_item named_by c.in_ok-entry.entry.name c.args.plan.now.entries.items)
    c.in_ok-blob.blob.blocks c.args.used.now c.reserve_hashed.new.used
    c.in_ok-entry.ensures.in_place c.in_ok-blob.ensures.used)
