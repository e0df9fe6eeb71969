use Rattle.std.proofs.Common.{◌≤◌, ◌<◌, sym, ap, subst, ◌∙◌, inl, inr, ⊎_elim}
use Rattle.std.specs.Prelude.{List, Result, sum_by}
use Rattle.std.proofs.lemmas.Option.{none-some}
use Rattle.std.proofs.lemmas.Result.{IfOk-weaker, on_ok_weaker}
use Rattle.per_base.specs.Causes.{Rose}
use Rattle.per_base.specs.declared.elements.Fresh.{Fresh}
use Rattle.per_base.specs.declared.errors.PerError.{PerError}
use Rattle.per_base.specs.declared.errors.PerError.TheVariants as error
use Rattle.disk_model.specs.Image.{Image}
use Rattle.disk_model.specs.Laws.{elapses_on}
use Rattle.disk_model.specs.Place.{IsOutside}
use Rattle.index_text.specs.Contents.{fresh_size}
use Rattle.deployment_model.specs.Data.{storage_data}
use Rattle.element_state.specs.Clean.{IsClean}
use Rattle.element_state.specs.Kept.{KeptThroughout}
use Rattle.element_state.specs.States.{State, salvage_of, store_at}
use Rattle.deploy_rows.specs.Recovering.{after_state, recovered_contents, recovering}
use Rattle.deploy.proofs.Recoveries.{answers_large, answers_row, at_shape, elements_within, look_kept, look_leaves}
use Rattle.deploy.proofs.Recoveries.{looked_within, nothing_changes, rebuilt_as, rebuilt_within, recovery_row}
use Rattle.deploy.proofs.Recoveries.{then_kept, then_leaves, too_large}
use Rattle.deploy.proofs.recovering.recover_storage.Goals as goal

pub returns-in_err-view-clause-outside : goal.returns-in_err-view-clause-outside
returns-in_err-view-clause-outside g c = look_leaves (g.D.Disk.medium c.args.disk.now)
    (g.D.Disk.medium c.salvage.new.disk) c.in_err-view.ensures.image c.in_err-view.ensures.idle g.D.Disk.told
    (IsOutside c.args.shape.now.place)

pub returns-in_err-view-clause-any_moment : goal.returns-in_err-view-clause-any_moment
returns-in_err-view-clause-any_moment g c = λ tells. look_kept (g.D.Disk.medium c.args.disk.now)
    (g.D.Disk.medium c.salvage.new.disk) c.in_err-view.ensures.image c.in_err-view.ensures.idle
    c.untouched_is_kept.ensures.untouched c.args.shape.now c.requires.shape
    (after_state (store_at (g.D.Disk.medium c.args.disk.now).image c.args.shape.now)
    (recovering (storage_data c.args.config.now) c.args.now
    (store_at (g.D.Disk.medium c.args.disk.now).image c.args.shape.now)))

pub returns-in_err-contents-clause-outside : goal.returns-in_err-contents-clause-outside
returns-in_err-contents-clause-outside g c = look_leaves (g.D.Disk.medium c.args.disk.now)
    (g.D.Disk.medium c.salvage.new.disk) c.in_ok-view.ensures.image c.in_ok-view.ensures.idle g.D.Disk.told
    (IsOutside c.args.shape.now.place)

pub returns-in_err-contents-clause-any_moment : goal.returns-in_err-contents-clause-any_moment
returns-in_err-contents-clause-any_moment g c = λ tells.
    look_kept (g.D.Disk.medium c.args.disk.now) (g.D.Disk.medium c.salvage.new.disk) c.in_ok-view.ensures.image
    c.in_ok-view.ensures.idle c.untouched_is_kept.ensures.untouched c.args.shape.now c.requires.shape
    (after_state (store_at (g.D.Disk.medium c.args.disk.now).image c.args.shape.now)
    (recovering (storage_data c.args.config.now) c.args.now
    (store_at (g.D.Disk.medium c.args.disk.now).image c.args.shape.now)))

-- what does not fit

pub returns-then-needed-config-clause-refused : goal.returns-then-needed-config-clause-refused
returns-then-needed-config-clause-refused g c =
    answers_large (recovering (storage_data c.args.config.now) c.args.now) c.in_ok-view.view g.D.Disk.told
    (store_at (g.D.Disk.medium c.args.disk.now).image c.args.shape.now) c.in_ok-view.ensures.view
    (error.OutOfStorageSpace (sum_by fresh_size c.in_ok-contents.contents.items) c.args.config.now.maximum)
    (too_large (storage_data c.args.config.now) c.args.now c.in_ok-view.view c.in_ok-contents.contents.items
    c.in_ok-contents.ensures.contents (subst (λ n. c.args.config.now.maximum < n)
    (c.size_of-needed.ensures ∙ ap (λ (fs : List Fresh). sum_by fresh_size fs) c.as_slice.ensures.value)
    c.if-needed-config.true)) (error.OutOfStorageSpace c.size_of-needed.result c.args.config.now.maximum)
    (ap (λ n. error.OutOfStorageSpace n c.args.config.now.maximum)
    (sym (c.size_of-needed.ensures ∙ ap (λ (fs : List Fresh). sum_by fresh_size fs) c.as_slice.ensures.value)))

pub returns-then-needed-config-clause-state : goal.returns-then-needed-config-clause-state
returns-then-needed-config-clause-state g c = λ tells.
    ap (λ (im : Image). store_at im c.args.shape.now) c.in_ok-view.ensures.image
    ∙ sym (ap (λ (r : Result State PerError). after_state
    (store_at (g.D.Disk.medium c.args.disk.now).image c.args.shape.now) r)
    ((too_large (storage_data c.args.config.now) c.args.now c.in_ok-view.view c.in_ok-contents.contents.items
    c.in_ok-contents.ensures.contents (subst (λ n. c.args.config.now.maximum < n)
    (c.size_of-needed.ensures ∙ ap (λ (fs : List Fresh). sum_by fresh_size fs) c.as_slice.ensures.value)
    c.if-needed-config.true)) (store_at (g.D.Disk.medium c.args.disk.now).image c.args.shape.now)
    (c.in_ok-view.ensures.view tells)))

pub returns-then-needed-config-clause-clean : goal.returns-then-needed-config-clause-clean
returns-then-needed-config-clause-clean g c = λ tells.
    ⊎_elim (λ none. absurd (none-some _ (sym none))) (λ was.
    subst (λ (im : Image). IsClean c.args.shape.now im) (sym c.in_ok-view.ensures.image) was)

pub returns-then-needed-config-clause-outside : goal.returns-then-needed-config-clause-outside
returns-then-needed-config-clause-outside g c = look_leaves (g.D.Disk.medium c.args.disk.now)
    (g.D.Disk.medium c.salvage.new.disk) c.in_ok-view.ensures.image c.in_ok-view.ensures.idle g.D.Disk.told
    (IsOutside c.args.shape.now.place)

pub returns-then-needed-config-clause-any_moment : goal.returns-then-needed-config-clause-any_moment
returns-then-needed-config-clause-any_moment g c = λ tells.
    look_kept (g.D.Disk.medium c.args.disk.now) (g.D.Disk.medium c.salvage.new.disk) c.in_ok-view.ensures.image
    c.in_ok-view.ensures.idle c.untouched_is_kept.ensures.untouched c.args.shape.now c.requires.shape
    (after_state (store_at (g.D.Disk.medium c.args.disk.now).image c.args.shape.now)
    (recovering (storage_data c.args.config.now) c.args.now
    (store_at (g.D.Disk.medium c.args.disk.now).image c.args.shape.now)))

-- where it is rebuilt

pub rebuild_over-requires-clause-contents : goal.rebuild_over-requires-clause-contents
rebuild_over-requires-clause-contents g c =
    at_shape c.args.shape.now (storage_data c.args.config.now) c.in_ok-contents.contents.items c.requires.configured
    (elements_within c.args.config.now.kind c.args.config.now.maximum c.in_ok-contents.contents.items
    (c.in_ok-contents.ensures.limits c.args.shape.now c.requires.configured.kind c.in_ok-view.ensures.read)
    (subst (λ n. n ≤ c.args.config.now.maximum) (c.size_of-needed.ensures
    ∙ ap (λ (fs : List Fresh). sum_by fresh_size fs) c.as_slice.ensures.value) c.if-needed-config.false))

pub rebuild_over-requires-clause-read : goal.rebuild_over-requires-clause-read
rebuild_over-requires-clause-read g c = λ tells. c.in_ok-view.ensures.view tells
    ∙ ap (λ (im : Image). salvage_of (store_at im c.args.shape.now)) (sym c.in_ok-view.ensures.image)

pub returns-clause-refused : goal.returns-clause-refused
returns-clause-refused g c = IfOk-weaker c.rebuild_over.result _ _
    (answers_row (recovering (storage_data c.args.config.now) c.args.now) c.in_ok-view.view g.D.Disk.told
    (store_at (g.D.Disk.medium c.args.disk.now).image c.args.shape.now) c.in_ok-view.ensures.view
    c.in_ok-contents.contents.items (recovery_row (storage_data c.args.config.now) c.args.now c.in_ok-view.view
    c.in_ok-contents.contents.items c.in_ok-contents.ensures.contents
    (subst (λ n. n ≤ c.args.config.now.maximum) (c.size_of-needed.ensures
    ∙ ap (λ (fs : List Fresh). sum_by fresh_size fs) c.as_slice.ensures.value) c.if-needed-config.false)))
    c.rebuild_over.ensures.refused

pub returns-clause-state : goal.returns-clause-state
returns-clause-state g c = λ tells. on_ok_weaker c.rebuild_over.result
    (λ is. is ∙ (rebuilt_as (recovering (storage_data c.args.config.now) c.args.now) c.in_ok-view.view
    c.in_ok-contents.contents.items (recovery_row (storage_data c.args.config.now) c.args.now c.in_ok-view.view
    c.in_ok-contents.contents.items c.in_ok-contents.ensures.contents
    (subst (λ n. n ≤ c.args.config.now.maximum) (c.size_of-needed.ensures
    ∙ ap (λ (fs : List Fresh). sum_by fresh_size fs) c.as_slice.ensures.value) c.if-needed-config.false))
    (g.D.Disk.medium c.args.disk.now).image (g.D.Disk.medium c.salvage.new.disk).image c.args.shape.now
    c.in_ok-view.ensures.image (c.in_ok-view.ensures.view tells))) (c.rebuild_over.ensures.state tells)

pub returns-clause-unchanged : goal.returns-clause-unchanged
returns-clause-unchanged g c = IfOk-weaker c.rebuild_over.result _ _
    (λ refused same some. let nothing = nothing_changes (g.D.Disk.medium c.args.disk.now)
    (g.D.Disk.medium c.salvage.new.disk) (g.D.Disk.medium c.rebuild_over.new.disk)
    c.in_ok-view.ensures.image c.in_ok-view.ensures.written c.in_ok-view.ensures.idle (ap g.D.Disk.medium (same some))
    in (nothing.image, nothing.written))
    c.rebuild_over.ensures.untouched

pub returns-clause-clean : goal.returns-clause-clean
returns-clause-clean g c = λ tells. IfOk-weaker c.rebuild_over.result _ _
    (λ refused clean was. clean (⊎_elim (λ none. inl none)
    (λ there. inr (subst (λ (im : Image). IsClean c.args.shape.now im) (sym c.in_ok-view.ensures.image) there))
    was))
    (c.rebuild_over.ensures.clean tells)

pub returns-clause-quiet : goal.returns-clause-quiet
returns-clause-quiet g c = c.rebuild_over.ensures.quiet c.in_ok-view.ensures.quiet

pub returns-clause-cause : goal.returns-clause-cause
returns-clause-cause g c = λ failed. subst (λ n. Rose n (g.D.Disk.medium c.rebuild_over.new.disk).faults)
    c.in_ok-view.ensures.passes (c.rebuild_over.ensures.cause failed)

pub returns-clause-passes : goal.returns-clause-passes
returns-clause-passes g c = on_ok_weaker c.rebuild_over.result (λ passes. passes ∙ c.in_ok-view.ensures.passes)
    c.rebuild_over.ensures.passes

pub returns-clause-fed : goal.returns-clause-fed
returns-clause-fed g c = λ failed. c.rebuild_over.ensures.fed failed ∙ c.in_ok-view.ensures.passes

pub returns-clause-outside : goal.returns-clause-outside
returns-clause-outside g c = then_leaves (g.D.Disk.medium c.args.disk.now) (g.D.Disk.medium c.salvage.new.disk)
    c.in_ok-view.ensures.image c.in_ok-view.ensures.idle (g.D.Disk.medium c.rebuild_over.new.disk)
    c.in_ok-view.ensures.time c.rebuild_over.ensures.time g.D.Disk.told
    (IsOutside c.args.shape.now.place) c.rebuild_over.ensures.outside

pub returns-clause-any_moment : goal.returns-clause-any_moment
returns-clause-any_moment g c = λ tells. then_kept (g.D.Disk.medium c.args.disk.now)
    (g.D.Disk.medium c.salvage.new.disk) c.in_ok-view.ensures.image c.in_ok-view.ensures.idle
    (g.D.Disk.medium c.rebuild_over.new.disk) c.in_ok-view.ensures.time c.rebuild_over.ensures.time
    c.untouched_is_kept.ensures.untouched c.args.shape.now c.requires.shape
    (after_state (store_at (g.D.Disk.medium c.args.disk.now).image c.args.shape.now)
    (recovering (storage_data c.args.config.now) c.args.now
    (store_at (g.D.Disk.medium c.args.disk.now).image c.args.shape.now)))
    (subst (λ (s : State). KeptThroughout c.args.shape.now s (g.D.Disk.medium c.salvage.new.disk)
    (g.D.Disk.medium c.rebuild_over.new.disk)) (rebuilt_as
    (recovering (storage_data c.args.config.now) c.args.now) c.in_ok-view.view c.in_ok-contents.contents.items
    (recovery_row (storage_data c.args.config.now) c.args.now c.in_ok-view.view c.in_ok-contents.contents.items
    c.in_ok-contents.ensures.contents (subst (λ n. n ≤ c.args.config.now.maximum)
    (c.size_of-needed.ensures ∙ ap (λ (fs : List Fresh). sum_by fresh_size fs) c.as_slice.ensures.value)
    c.if-needed-config.false)) (g.D.Disk.medium c.args.disk.now).image
    (g.D.Disk.medium c.salvage.new.disk).image c.args.shape.now c.in_ok-view.ensures.image
    (c.in_ok-view.ensures.view tells)) (c.rebuild_over.ensures.any_moment tells))

pub returns-clause-time : goal.returns-clause-time
returns-clause-time g c = elapses_on c.in_ok-view.ensures.time c.rebuild_over.ensures.time

pub returns-in_err-view-clause-written : goal.returns-in_err-view-clause-written
returns-in_err-view-clause-written g c = λ tells. looked_within _ _ _ c.in_err-view.ensures.written

pub returns-in_err-contents-clause-written : goal.returns-in_err-contents-clause-written
returns-in_err-contents-clause-written g c = λ tells. looked_within _ _ _ c.in_ok-view.ensures.written

pub returns-then-needed-config-clause-written : goal.returns-then-needed-config-clause-written
returns-then-needed-config-clause-written g c = λ tells. looked_within _ _ _ c.in_ok-view.ensures.written

pub returns-clause-written : goal.returns-clause-written
returns-clause-written g c = λ tells. rebuilt_within c.args.shape.now (storage_data c.args.config.now)
    c.in_ok-contents.contents.items _ (g.D.Disk.medium c.args.disk.now).written
    (g.D.Disk.medium c.salvage.new.disk).written (g.D.Disk.medium c.rebuild_over.new.disk).written
    c.requires.configured
    (c.in_ok-contents.ensures.contents ∙ ap (recovered_contents (storage_data c.args.config.now) c.args.now)
    (c.in_ok-view.ensures.view tells)) c.in_ok-view.ensures.written c.rebuild_over.ensures.written
