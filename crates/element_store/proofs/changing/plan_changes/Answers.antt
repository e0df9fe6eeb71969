use Rattle.std.proofs.Common.{◌≡◌, ℕ, ◌+◌, ◌≤◌, List, [], ◌∷◌, ◌++◌, take, get_or, refl, sym, ap, subst, ◌∙◌, inl}
use Rattle.std.proofs.Common.{arith}
use Rattle.std.specs.Prelude.{sum_by}
use Rattle.std.proofs.lemmas.List.{take_more}
use Rattle.index_text.specs.declared.entries.IndexEntry.{IndexEntry}
use Rattle.per_base.specs.declared.elements.Entry.{Entry}
use Rattle.per_base.specs.declared.elements.Change.{Change}
use Rattle.element_state.specs.Changes.{after_change, after_changes}
use Rattle.element_state.specs.Written.{change_cost}
use Rattle.element_store.specs.declared.jobs.Job.{Job}
use Rattle.element_store.specs.Jobs.{jobs_cost}
use Rattle.element_store.specs.Changing.{change_blocks, IsPlanned, IsTraced}
use Rattle.block_files.specs.declared.hashing.Hashed.{Hashed}
use Rattle.element_store.specs.Hashing.{IsHashedAs}
use Rattle.element_store.proofs.Places.{sum_push, sum_take, fold_push, zip_at, zip_length}
use Rattle.element_store.proofs.Changed.{planned_start}
use Rattle.element_store.proofs.Traced.{traced_more, names_apart}
use Rattle.element_store.proofs.changing.plan_changes.Goals as goal

pub loop-i-init : goal.loop-i-init
loop-i-init c =
    let index = c.args.standing.index.now in
    let views = c.args.standing.entries.now in
    let start = planned_start c.args.standing.kind index views c.args.used.now c.requires.standing in
    let one = subst (λ (js : List Job). IsPlanned c.args.standing.kind index views c.args.used.now c.args.used.now index
    views js) (sym c.new-jobs.ensures.items) start in
    let two = subst (λ (es : List IndexEntry). IsPlanned c.args.standing.kind index views c.args.used.now
    c.args.used.now es views c.new-jobs.result.items) (sym c.in_ok-entries.ensures.copies) one in
    let cost : jobs_cost c.new-jobs.result.items ≤ 0 = subst (λ (js : List Job). jobs_cost js ≤ 0)
    (sym c.new-jobs.ensures.items) (omega arith) in
    let room = c.in_ok-entries.ensures.room in
    let traced : IsTraced index c.args.used.now c.args.used.now [] index =
    record { others = λ name apart. refl; grown = λ b is. inl is } in
    let same : IsTraced index c.args.used.now c.args.used.now [] c.in_ok-entries.entries.items =
    subst (λ (es : List IndexEntry). IsTraced index c.args.used.now c.args.used.now [] es)
    (sym c.in_ok-entries.ensures.copies) traced in
    (two, c.requires.standing, omega arith, cost, same, omega (arith, room))

more : (changes : List Change) (i : ℕ) (change : Change) → take (i + 1) changes ≡ take i changes ++ change ∷ []
    → (f : Change → ℕ) → sum_by f (take (i + 1) changes) ≡ sum_by f (take i changes) + f change
more changes i change is f = ap (sum_by f) is ∙ sum_push f (take i changes) change

pub plan_change-requires-clause-free : goal.plan_change-requires-clause-free
plan_change-requires-clause-free c =
    let is = take_more c.args.changes.now c.loop-i.i c.index-changes-i.result (omega arith)
    ∙ ap (λ (x : Change). take c.loop-i.i c.args.changes.now ++ x ∷ []) (sym c.index-changes-i.is) in
    let next = more c.args.changes.now c.loop-i.i c.index-changes-i.result is change_blocks in
    let all = sum_take change_blocks (c.loop-i.i + 1) c.args.changes.now in
    let free = c.requires.free in
    let left = c.loop-i.invariant.2 in
    omega (arith, next, all, free, left)

pub loop-i-preserved : goal.loop-i-preserved
loop-i-preserved c =
    let kind = c.args.standing.kind in
    let index = c.args.standing.index.now in
    let views = c.args.standing.entries.now in
    let generation = c.args.standing.generation in
    let before = take c.loop-i.i c.args.changes.now in
    let is = take_more c.args.changes.now c.loop-i.i c.index-changes-i.result (omega arith)
    ∙ ap (λ (x : Change). take c.loop-i.i c.args.changes.now ++ x ∷ []) (sym c.index-changes-i.is) in
    let after : after_changes generation views (take (c.loop-i.i + 1) c.args.changes.now)
    ≡ after_change generation (after_changes generation views before) c.index-changes-i.result =
    ap (after_changes generation views) is
    ∙ fold_push (after_change generation) views before c.index-changes-i.result in
    let planned = c.in_ok-plan_change.ensures.planned c.args.used.now (after_changes generation views before)
    c.loop-i.invariant.0 in
    let blocks = more c.args.changes.now c.loop-i.i c.index-changes-i.result is change_blocks in
    let costs = more c.args.changes.now c.loop-i.i c.index-changes-i.result is (change_cost kind views) in
    let free = c.in_ok-plan_change.ensures.free in
    let cost = c.in_ok-plan_change.ensures.cost in
    let capacity = c.in_ok-plan_change.ensures.capacity in
    let one_more = c.in_ok-plan_change.ensures.one_more in
    let left = c.loop-i.invariant.2 in
    let spent = c.loop-i.invariant.3 in
    let apart = names_apart c.args.changes.now c.loop-i.i c.index-changes-i.result c.requires.apart
    (omega arith) c.index-changes-i.is in
    let traced = traced_more index c.loop-i.plan.entries.items c.plan_change.new.plan.entries.items c.args.used.now
    c.loop-i.used c.plan_change.new.used before c.index-changes-i.result
    apart c.loop-i.invariant.0.ascend c.loop-i.invariant.0.taken c.loop-i.invariant.4
    c.in_ok-plan_change.ensures.others c.in_ok-plan_change.ensures.grown in
    let room = c.loop-i.invariant.5 in (
      subst (λ (fs : List Entry). IsPlanned kind index views c.args.used.now c.plan_change.new.used
          c.plan_change.new.plan.entries.items fs c.plan_change.new.plan.jobs.items) (sym after) planned,
      c.in_ok-plan_change.ensures.standing,
      omega (arith, blocks, free, left),
      omega (arith, costs, cost, spent),
      subst (λ (done : List Change). IsTraced index c.args.used.now c.plan_change.new.used done
          c.plan_change.new.plan.entries.items) (sym is) traced,
      omega (arith, capacity, one_more, room),
    )

pub bounds-hashed-i : goal.bounds-hashed-i
bounds-hashed-i c =
    let long = zip_length IsHashedAs c.args.changes.now c.args.hashed.now c.requires.hashed in
    omega (arith, long)

pub plan_change-requires-clause-hashed : goal.plan_change-requires-clause-hashed
plan_change-requires-clause-hashed c =
    let at = zip_at IsHashedAs c.args.changes.now c.args.hashed.now c.loop-i.i c.index-changes-i.result
    c.index-hashed-i.result c.requires.hashed (omega arith) in
    subst (λ (one : Hashed). IsHashedAs c.index-changes-i.result one) (sym c.index-hashed-i.is)
    (subst (λ (change : Change). IsHashedAs change
    (get_or c.args.hashed.now c.loop-i.i c.index-hashed-i.result)) (sym c.index-changes-i.is) at)
