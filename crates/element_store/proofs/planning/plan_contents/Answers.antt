use Rattle.std.proofs.Common.{◌≡◌, ℕ, ◌+◌, List, [], ◌∷◌, ◌++◌, take, refl, sym, ap, ◌∙◌, subst, arith}
use Rattle.block_files.specs.BlockSets.{AreFree, IsAdded}
use Rattle.index_text.specs.declared.entries.IndexEntry.{IndexEntry}
use Rattle.per_base.specs.declared.elements.Fresh.{Fresh}
use Rattle.element_store.specs.declared.jobs.Job.{Job}
use Rattle.element_store.specs.Plans.{IsPlanOf}
use Rattle.element_store.proofs.PlanSteps.{plan_push}
use Rattle.std.proofs.lemmas.List.{take_more}
use Rattle.element_store.proofs.planning.plan_contents.Goals as goal

pub loop-fresh-preserved : goal.loop-fresh-preserved
loop-fresh-preserved c =
    let blocks_is = c.in_ok-entry.ensures.in_place in
    let free : AreFree c.loop-fresh.used c.in_ok-entry.entry.blocks =
    subst (λ (bs : List ℕ). AreFree c.loop-fresh.used bs) (sym blocks_is) c.in_ok-blob.ensures.free in
    let added : IsAdded c.in_ok-entry.entry.blocks c.loop-fresh.used c.reserve_blob.new.used =
    subst (λ (bs : List ℕ). IsAdded bs c.loop-fresh.used c.reserve_blob.new.used) (sym blocks_is)
    c.in_ok-blob.ensures.used in
    let more : take (c.loop-fresh.fresh-index + 1) c.args.contents.now
    ≡ take c.loop-fresh.fresh-index c.args.contents.now ++ c.fresh-item.result ∷ [] =
    take_more c.args.contents.now c.loop-fresh.fresh-index c.fresh-item.result (omega arith)
    ∙ ap (λ (f : Fresh). take c.loop-fresh.fresh-index c.args.contents.now ++ f ∷ []) (sym c.fresh-item.is) in
    let P : List Fresh → Type 0 = λ fs. IsPlanOf c.args.generation fs c.args.used.now c.reserve_blob.new.used
    c.push.new.self.items c.push-in-loop-fresh.new.self.items in
    let Q : List IndexEntry → Type 0 = λ es. IsPlanOf c.args.generation
    (take c.loop-fresh.fresh-index c.args.contents.now ++ c.fresh-item.result ∷ []) c.args.used.now
    c.reserve_blob.new.used es c.push-in-loop-fresh.new.self.items in
    let R : List Job → Type 0 = λ js. IsPlanOf c.args.generation
    (take c.loop-fresh.fresh-index c.args.contents.now ++ c.fresh-item.result ∷ []) c.args.used.now
    c.reserve_blob.new.used (c.loop-fresh.entries.items ++ c.in_ok-entry.entry ∷ []) js in
    subst P (sym more) (subst Q (sym c.in_ok-push.ensures.items) (subst R (sym c.in_ok-push-2.ensures.items)
    (plan_push c.args.generation (take c.loop-fresh.fresh-index c.args.contents.now) c.args.used.now c.loop-fresh.used
    c.reserve_blob.new.used
    c.loop-fresh.entries.items c.loop-fresh.jobs.items c.fresh-item.result c.in_ok-entry.entry _
    c.in_ok-entry.ensures.made free added (c.in_ok-blocks.ensures ∙ sym blocks_is) c.as_slice-bytes.ensures refl
    c.loop-fresh.invariant)))
