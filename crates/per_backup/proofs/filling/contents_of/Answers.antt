use Rattle.std.proofs.Common.{◌≡◌, ◌<◌, ◌≤◌, ◌∙◌, List, [], None, Ok, Err, ap, sym, subst}
use Rattle.std.specs.Prelude.{sum_by}
use Rattle.per_base.specs.declared.elements.Fresh.{Fresh}
use Rattle.per_base.specs.declared.errors.PerError.TheVariants as error
use Rattle.index_text.specs.Contents.{AreContents, fresh_size}
use Rattle.deployment_model.specs.Data.{storage_data}
use Rattle.element_state.specs.States.{State, Corrupt, fresh_map, fresh_state}
use Rattle.deploy_rows.specs.Recovering.{if_contents_fit}
use Rattle.deploy.specs.Recovered.{AreElements}
use Rattle.per_backup.specs.Backups.{importing}
use Rattle.per_backup.proofs.Filled.{are_contents, it_fits, too_large}
use Rattle.per_backup.proofs.Lists.{err_so, ok_so}
use Rattle.per_backup.proofs.filling.contents_of.Goals as goal

pub returns-in-Err-clause-refused : goal.returns-in-Err-clause-refused
returns-in-Err-clause-refused c = err_so c.in_ok-contents.field-0 c.in-Err.error
    (λ e. (state : State) → importing (storage_data c.args.config.now) state c.args.text.now ≡ Err e) c.in-Err.is
    c.in_ok-contents.ensures.refused (Corrupt None [])

pub returns-then-needed-config-clause-refused : goal.returns-then-needed-config-clause-refused
returns-then-needed-config-clause-refused c =
    let s = storage_data c.args.config.now in
    let needed = c.size_of-needed.ensures ∙ ap (λ (fs : List Fresh). sum_by fresh_size fs) c.as_slice.ensures.value in
    too_large s c.args.text.now c.in-Ok.contents.items
    (ok_so c.in_ok-contents.field-0 c.in-Ok.contents (λ fs. (state : State)
    → importing s state c.args.text.now ≡ if_contents_fit s state fs.items) c.in-Ok.is c.in_ok-contents.ensures.row)
    (subst (λ n. c.args.config.now.maximum < n) needed c.if-needed-config.true)
    ∙ ap (λ n. Err (error.OutOfStorageSpace n c.args.config.now.maximum)) (sym needed)

pub returns-clause-state : goal.returns-clause-state
returns-clause-state c =
    let s = storage_data c.args.config.now in
    let needed = c.size_of-needed.ensures ∙ ap (λ (fs : List Fresh). sum_by fresh_size fs) c.as_slice.ensures.value in
    it_fits s c.args.text.now c.in-Ok.contents.items
    (ok_so c.in_ok-contents.field-0 c.in-Ok.contents (λ fs. (state : State)
    → importing s state c.args.text.now ≡ if_contents_fit s state fs.items) c.in-Ok.is c.in_ok-contents.ensures.row)
    (subst (λ n. n ≤ c.args.config.now.maximum) needed c.if-needed-config.false)
    ∙ ap (λ (fs : List Fresh). Ok (fresh_state 1 (fresh_map fs))) (sym c.new.ensures)

pub returns-clause-fit : goal.returns-clause-fit
returns-clause-fit c =
    let needed = c.size_of-needed.ensures ∙ ap (λ (fs : List Fresh). sum_by fresh_size fs) c.as_slice.ensures.value in
    subst (λ (fs : List Fresh). AreContents c.args.config.now.kind c.args.config.now.maximum fs) (sym c.new.ensures)
    (are_contents (storage_data c.args.config.now) c.in-Ok.contents.items
    (ok_so c.in_ok-contents.field-0 c.in-Ok.contents (λ fs. AreElements c.args.config.now.kind fs.items) c.in-Ok.is
    c.in_ok-contents.ensures.elements)
    (subst (λ n. n ≤ c.args.config.now.maximum) needed c.if-needed-config.false))
