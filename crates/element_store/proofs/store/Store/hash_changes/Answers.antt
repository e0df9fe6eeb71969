use Rattle.std.proofs.Common.{◌≡◌, ◌+◌, ◌++◌, ◌∷◌, [], List, take, get_or, sym, ap, subst, ◌∙◌, arith}
use Rattle.std.specs.List.{AllZip}
use Rattle.std.proofs.lemmas.List.{take_more}
use Rattle.per_base.specs.declared.elements.Change.{Change}
use Rattle.block_files.specs.declared.hashing.Hashed.{Hashed}
use Rattle.element_store.specs.Hashing.{IsHashedAs}
use Rattle.element_store.proofs.PlanSteps.{zip_push}
use Rattle.element_store.proofs.store.Store.hash_changes.Goals as goal

pub loop-change-preserved : goal.loop-change-preserved
loop-change-preserved c =
    let i = c.loop-change.change-index in
    let changes = c.args.changes.now in
    let more = take_more changes i c.change-item.result (omega arith)
    ∙ ap (λ (x : Change). take i changes ++ x ∷ []) (sym c.change-item.is) in
    subst (λ (hs : List Hashed). AllZip IsHashedAs (take (i + 1) changes) hs) (sym c.in_ok-push.ensures.items)
    (subst (λ (cs : List Change). AllZip IsHashedAs cs (c.loop-change.hashed.items ++ c.hash_change.result ∷ []))
    (sym more) (zip_push IsHashedAs (take i changes) c.loop-change.hashed.items c.change-item.result
    c.hash_change.result c.loop-change.invariant c.hash_change.ensures))
