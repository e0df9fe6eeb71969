use Rattle.std.proofs.Common.{◌≡◌, ℕ, List, [], ◌∷◌, map, sym, ap, ◌∙◌, subst}
use Rattle.std.specs.List.{AllByRecursion}
use Rattle.std.proofs.lemmas.List.{map-append}
use Rattle.serde_json.specs.View.{members_view, view}
use Rattle.serde_json.proofs.Views.{Entry}
use Rattle.dump_text.specs.declared.dumps.DumpedApplication.{DumpedApplication}
use Rattle.dump_text.specs.Dumps.{ApplicationData, IsDumped, application_data, dumped_application_in}
use Rattle.dump_text.specs.Elements.{read_members}
use Rattle.dump_text.specs.Views.{FailsToRead}
use Rattle.dump_text.proofs.Containers.{after, after_all, after_fails, after_more, all_push}
use Rattle.dump_text.proofs.reading.applications_in.Goals as goal

pub loop-number-preserved : goal.loop-number-preserved
loop-number-preserved c =
    let one = dumped_application_in in
    let known = c.loop-number.found.items in
    let x = c.in-Ok.application in
    let e : Entry = (c.in-Some.number.now, c.in-Some.value.now) in
    let left = c.next.new.self in
    let steps : c.loop-number.number-iterator ≡ e ∷ left = c.in-Some.ensures.steps in
    let read = ap (λ (name : List ℕ). one name (view c.in-Some.value.now)) (sym c.as_str-number.ensures.value)
    ∙ c.in-Ok.ensures.read in (
      subst (λ (xs : List DumpedApplication). AllByRecursion IsDumped xs) (sym c.in_ok-push-in-Ok.ensures.items)
          (all_push IsDumped known x c.loop-number.invariant.0 c.in-Ok.ensures.dumped),
      subst (λ (xs : List DumpedApplication). after (map application_data xs) (read_members one (members_view left))
          ≡ read_members one (members_view c.args.applications.now.entries)) (sym c.in_ok-push-in-Ok.ensures.items)
          (ap (λ (ks : List ApplicationData). after ks (read_members one (members_view left)))
          (map-append application_data known (x ∷ []))
          ∙ sym (after_more one (map application_data known) e left (application_data x) read)
          ∙ ap (λ (es : List Entry). after (map application_data known) (read_members one (members_view es))) (sym steps)
          ∙ c.loop-number.invariant.1),
    )

pub returns-in-Err-clause-read : goal.returns-in-Err-clause-read
returns-in-Err-clause-read c =
    let one = dumped_application_in in
    let known = map application_data c.loop-number.found.items in
    let e : Entry = (c.in-Some.number.now, c.in-Some.value.now) in
    let left = c.next.new.self in
    let steps : c.loop-number.number-iterator ≡ e ∷ left = c.in-Some.ensures.steps in
    after_fails one known e left c.in-Err.error c.within.result
    (read_members one (members_view c.args.applications.now.entries)) c.within.ensures
    (subst (λ (name : List ℕ). FailsToRead c.in-Err.error (one name (view c.in-Some.value.now)))
    c.as_str-number.ensures.value c.in-Err.ensures.read)
    (ap (λ (es : List Entry). after known (read_members one (members_view es))) (sym steps)
    ∙ c.loop-number.invariant.1)

pub returns-clause-read : goal.returns-clause-read
returns-clause-read c =
    let one = dumped_application_in in
    let known = map application_data c.loop-number.found.items in
    after_all one known (read_members one (members_view c.args.applications.now.entries))
    (ap (λ (es : List Entry). after known (read_members one (members_view es))) (sym c.in-None.ensures.steps.0)
    ∙ c.loop-number.invariant.1)
