use Rattle.std.proofs.Common.{◌≡◌, ℕ, List, ◌∷◌, sym, ap, ◌∙◌, subst}
use Rattle.std.specs.List.{AllByRecursion}
use Rattle.serde_json.specs.View.{members_view, view}
use Rattle.serde_json.proofs.Views.{Entry}
use Rattle.dump_text.specs.declared.dumps.DumpedStorage.{DumpedStorage}
use Rattle.dump_text.specs.Dumps.{HasExport, dumped_storage_in}
use Rattle.dump_text.specs.Elements.{read_members}
use Rattle.dump_text.specs.Views.{FailsToRead}
use Rattle.dump_text.proofs.Containers.{after, after_all, after_fails, after_more, all_push}
use Rattle.dump_text.proofs.reading.storages_in.Goals as goal

pub loop-name-preserved : goal.loop-name-preserved
loop-name-preserved c =
    let known = c.loop-name.found.items in
    let e : Entry = (c.in-Some.name.now, c.in-Some.storage.now) in
    let left = c.next.new.self in
    let steps : c.loop-name.name-iterator ≡ e ∷ left = c.in-Some.ensures.steps in
    let read = ap (λ (name : List ℕ). dumped_storage_in name (view c.in-Some.storage.now))
    (sym c.as_str-name.ensures.value) ∙ c.in-Ok.ensures.read in (
      subst (λ (xs : List DumpedStorage). AllByRecursion HasExport xs) (sym c.in_ok-push-in-Ok.ensures.items)
          (all_push HasExport known c.in-Ok.storage c.loop-name.invariant.0 c.in-Ok.ensures.exported),
      subst (λ (xs : List DumpedStorage). after xs (read_members dumped_storage_in (members_view left))
          ≡ read_members dumped_storage_in (members_view c.args.storages.now.entries))
          (sym c.in_ok-push-in-Ok.ensures.items)
          (sym (after_more dumped_storage_in known e left c.in-Ok.storage read)
          ∙ ap (λ (es : List Entry). after known (read_members dumped_storage_in (members_view es))) (sym steps)
          ∙ c.loop-name.invariant.1),
    )

pub returns-in-Err-clause-read : goal.returns-in-Err-clause-read
returns-in-Err-clause-read c =
    let known = c.loop-name.found.items in
    let e : Entry = (c.in-Some.name.now, c.in-Some.storage.now) in
    let left = c.next.new.self in
    let steps : c.loop-name.name-iterator ≡ e ∷ left = c.in-Some.ensures.steps in
    after_fails dumped_storage_in known e left c.in-Err.error c.within.result
    (read_members dumped_storage_in (members_view c.args.storages.now.entries)) c.within.ensures
    (subst (λ (name : List ℕ). FailsToRead c.in-Err.error (dumped_storage_in name (view c.in-Some.storage.now)))
    c.as_str-name.ensures.value c.in-Err.ensures.read)
    (ap (λ (es : List Entry). after known (read_members dumped_storage_in (members_view es))) (sym steps)
    ∙ c.loop-name.invariant.1)

pub returns-clause-read : goal.returns-clause-read
returns-clause-read c =
    let known = c.loop-name.found.items in
    after_all dumped_storage_in known (read_members dumped_storage_in (members_view c.args.storages.now.entries))
    (ap (λ (es : List Entry). after known (read_members dumped_storage_in (members_view es)))
    (sym c.in-None.ensures.steps.0) ∙ c.loop-name.invariant.1)
