use denote.Ref.{Bor}
use Rattle.std.proofs.Common.{ℕ, List, ◌∷◌, inl, inr, refl, ap, sym, subst, ◌∙◌}
use Rattle.std.specs.Prelude.{Ok, option_map}
use Rattle.per_base.specs.Causes.{Rose}
use Rattle.per_base.specs.declared.names.Name.{Name}
use Rattle.disk_model.specs.Laws.{elapses_on}
use Rattle.migrate_fns.specs.Stored.{answers_of, rules_of}
use Rattle.deploy_laws.specs.Apps.{IsCleanApp}
use Rattle.disk_model.specs.Image.{Image}
use Rattle.deploy.specs.declared.roots.Root.{Root}
use Rattle.deploy.specs.Roots.{RootAt, root_texts}
use Rattle.deploy.specs.Building.{staged_progress, staged_root}
use Rattle.deploy.proofs.MadePlaces.{led_places, led_written}
use Rattle.deploy.proofs.OneUpdate.{begins_ready, clause_from, clause_of, is_refused, leads_led, leads_nowhere}
use Rattle.deploy.proofs.OneUpdate.{leaves_led, leaves_read, never, never_ok, none_ok, not_ok, of_app, over_root}
use Rattle.deploy.proofs.OneUpdate.{root_refused, same_error}
use Rattle.deploy.proofs.OneUpdate.{same_refused, staged_at, updated_not, updated_so, was_offered}
use Rattle.deploy.proofs.RootLast.{led_last}
use Rattle.deploy.proofs.updating_whole.update.Goals as goal

-- ---- it does not begin

pub returns-in_err-begun-clause-outside : goal.returns-in_err-begun-clause-outside
returns-in_err-begun-clause-outside g c = leaves_read g.D.Disk.told _ (g.D.Disk.medium c.args.disk.now)
    (g.D.Disk.medium c.begin_update.new.disk) c.in_err-begun.ensures.idle c.in_err-begun.ensures.image

pub returns-in_err-begun-clause-any_moment : goal.returns-in_err-begun-clause-any_moment
returns-in_err-begun-clause-any_moment g c = λ tells. leads_nowhere (rules_of c.args.migrations.now)
    (answers_of c.args.migrations.now) c.args.now (option_map (λ (n : Bor Name). n.now) c.args.busy) c.args.manifest.now
    c.args.app
    _ (g.D.Disk.medium c.args.disk.now) (g.D.Disk.medium c.begin_update.new.disk) c.in_err-begun.ensures.image
    (c.in_err-begun.ensures.any_moment tells)

pub returns-in_err-begun-clause-root : goal.returns-in_err-begun-clause-root
returns-in_err-begun-clause-root g c = none_ok c.from_residual.result c.in_err-begun.field-0.0 c.from_residual.ensures.1
    _

pub returns-in_err-begun-clause-updates : goal.returns-in_err-begun-clause-updates
returns-in_err-begun-clause-updates g c = none_ok c.from_residual.result c.in_err-begun.field-0.0
    c.from_residual.ensures.1 _

pub returns-in_err-begun-clause-text : goal.returns-in_err-begun-clause-text
returns-in_err-begun-clause-text g c = none_ok c.from_residual.result c.in_err-begun.field-0.0 c.from_residual.ensures.1
    _

pub returns-in_err-begun-clause-clean : goal.returns-in_err-begun-clause-clean
returns-in_err-begun-clause-clean g c = λ tells clean.
    not_ok c.from_residual.result c.in_err-begun.field-0.0 c.from_residual.ensures.1 _

pub returns-in_err-begun-clause-quiet : goal.returns-in_err-begun-clause-quiet
returns-in_err-begun-clause-quiet g c = λ quiet. not_ok c.from_residual.result c.in_err-begun.field-0.0
    c.from_residual.ensures.1 _

pub returns-in_err-begun-clause-unchanged : goal.returns-in_err-begun-clause-unchanged
returns-in_err-begun-clause-unchanged g c = none_ok c.from_residual.result c.in_err-begun.field-0.0
    c.from_residual.ensures.1 _

pub returns-in_err-begun-clause-early : goal.returns-in_err-begun-clause-early
returns-in_err-begun-clause-early g c = c.in_err-begun.ensures.early

pub returns-in_err-begun-clause-due : goal.returns-in_err-begun-clause-due
returns-in_err-begun-clause-due g c = λ e refusal at_once. let ok =
    c.in_err-begun.ensures.due e refusal at_once in absurd cc

pub returns-in_err-begun-clause-cause : goal.returns-in_err-begun-clause-cause
returns-in_err-begun-clause-cause g c = λ err. c.in_err-begun.ensures.cause
    (same_error c.from_residual.result c.in_err-begun.field-0.0 c.from_residual.ensures.1 _ err)

pub returns-in_err-begun-clause-device_only : goal.returns-in_err-begun-clause-device_only
returns-in_err-begun-clause-device_only g c = λ err. c.in_err-begun.ensures.device_only
    (same_error c.from_residual.result c.in_err-begun.field-0.0 c.from_residual.ensures.1 _ err)

pub returns-in_err-begun-clause-passes : goal.returns-in_err-begun-clause-passes
returns-in_err-begun-clause-passes g c = not_ok c.from_residual.result c.in_err-begun.field-0.0
    c.from_residual.ensures.1 _

pub returns-in_err-begun-clause-fed : goal.returns-in_err-begun-clause-fed
returns-in_err-begun-clause-fed g c = λ err. c.in_err-begun.ensures.fed
    (same_error c.from_residual.result c.in_err-begun.field-0.0 c.from_residual.ensures.1 _ err)

pub returns-in_err-begun-clause-time : goal.returns-in_err-begun-clause-time
returns-in_err-begun-clause-time g c = c.in_err-begun.ensures.time

-- ---- it is refused

pub returns-in-Refused-clause-root : goal.returns-in-Refused-clause-root
returns-in-Refused-clause-root g c = root_refused (rules_of c.args.migrations.now) (answers_of c.args.migrations.now)
    c.args.now (option_map (λ (n : Bor Name). n.now) c.args.busy) c.args.manifest.now c.args.app
    g.D.Disk.told (g.D.Disk.medium c.args.disk.now) (g.D.Disk.medium c.begin_update.new.disk) c.args.root
    c.in_ok-begun.begun c.in_ok-begun.ensures.begins c.in_ok-begun.ensures.staged c.in_ok-begun.ensures.image
    c.in-Refused.same c.in-Refused.refused c.in-Refused.is c.refuses.result c.refuses.ensures

pub returns-in-Refused-clause-updates : goal.returns-in-Refused-clause-updates
returns-in-Refused-clause-updates g c = updated_not (rules_of c.args.migrations.now) (answers_of c.args.migrations.now)
    c.args.now (option_map (λ (n : Bor Name). n.now) c.args.busy) c.args.manifest.now c.args.app
    g.D.Disk.told (g.D.Disk.medium c.args.disk.now) (g.D.Disk.medium c.begin_update.new.disk) c.args.root
    c.in_ok-begun.begun c.in_ok-begun.ensures.begins c.in_ok-begun.ensures.staged c.in_ok-begun.ensures.image
    c.in-Refused.same c.in-Refused.refused c.in-Refused.is c.refuses.result c.refuses.ensures

pub returns-in-Refused-clause-text : goal.returns-in-Refused-clause-text
returns-in-Refused-clause-text g c = λ none. absurd (is_refused (rules_of c.args.migrations.now)
    (answers_of c.args.migrations.now) c.args.now (option_map (λ (n : Bor Name). n.now) c.args.busy)
    c.args.manifest.now c.args.app
    g.D.Disk.told (g.D.Disk.medium c.args.disk.now) (g.D.Disk.medium c.begin_update.new.disk) c.args.root
    c.in_ok-begun.begun c.in_ok-begun.ensures.begins c.in_ok-begun.ensures.staged c.in_ok-begun.ensures.image
    c.in-Refused.same c.in-Refused.refused c.in-Refused.is c.refuses.result c.refuses.ensures none)

pub returns-in-Refused-clause-unchanged : goal.returns-in-Refused-clause-unchanged
returns-in-Refused-clause-unchanged g c = λ some. (
  c.in_ok-begun.ensures.image,
  c.in_ok-begun.ensures.written,
  same_refused (rules_of c.args.migrations.now) (answers_of c.args.migrations.now) c.args.now
      (option_map (λ (n : Bor Name). n.now) c.args.busy) c.args.manifest.now c.args.app
      g.D.Disk.told (g.D.Disk.medium c.args.disk.now) (g.D.Disk.medium c.begin_update.new.disk) c.args.root
      c.in_ok-begun.begun c.in_ok-begun.ensures.begins c.in_ok-begun.ensures.staged c.in_ok-begun.ensures.image
      c.in-Refused.same c.in-Refused.refused c.in-Refused.is c.refuses.result c.refuses.ensures,
)

pub returns-in-Refused-clause-outside : goal.returns-in-Refused-clause-outside
returns-in-Refused-clause-outside g c = leaves_read g.D.Disk.told _ (g.D.Disk.medium c.args.disk.now)
    (g.D.Disk.medium c.begin_update.new.disk) c.in_ok-begun.ensures.idle c.in_ok-begun.ensures.image

pub returns-in-Refused-clause-any_moment : goal.returns-in-Refused-clause-any_moment
returns-in-Refused-clause-any_moment g c = λ tells. leads_nowhere (rules_of c.args.migrations.now)
    (answers_of c.args.migrations.now) c.args.now (option_map (λ (n : Bor Name). n.now) c.args.busy) c.args.manifest.now
    c.args.app
    _ (g.D.Disk.medium c.args.disk.now) (g.D.Disk.medium c.begin_update.new.disk) c.in_ok-begun.ensures.image
    (c.in_ok-begun.ensures.any_moment tells)

pub returns-in-Refused-clause-clean : goal.returns-in-Refused-clause-clean
returns-in-Refused-clause-clean g c = λ tells clean. subst (λ (i : Image). IsCleanApp c.args.app i)
    (sym c.in_ok-begun.ensures.image) clean

pub returns-in-Refused-clause-quiet : goal.returns-in-Refused-clause-quiet
returns-in-Refused-clause-quiet g c = λ quiet. (c.in_ok-begun.ensures.idle quiet).quiet

pub returns-in-Refused-clause-early : goal.returns-in-Refused-clause-early
returns-in-Refused-clause-early g c = c.in_ok-begun.ensures.early

pub returns-in-Refused-clause-due : goal.returns-in-Refused-clause-due
returns-in-Refused-clause-due g c = λ e refusal none. refl

pub returns-in-Refused-clause-cause : goal.returns-in-Refused-clause-cause
returns-in-Refused-clause-cause g c = λ err. absurd cc

pub returns-in-Refused-clause-device_only : goal.returns-in-Refused-clause-device_only
returns-in-Refused-clause-device_only g c = λ err. absurd cc

pub returns-in-Refused-clause-passes : goal.returns-in-Refused-clause-passes
returns-in-Refused-clause-passes g c = c.in_ok-begun.ensures.passes

pub returns-in-Refused-clause-fed : goal.returns-in-Refused-clause-fed
returns-in-Refused-clause-fed g c = λ err. absurd cc

pub returns-in-Refused-clause-time : goal.returns-in-Refused-clause-time
returns-in-Refused-clause-time g c = c.in_ok-begun.ensures.time

-- ---- it is committed

pub commit_update-requires : goal.commit_update-requires
commit_update-requires g c = record {
  staged = staged_at (rules_of c.args.migrations.now) (answers_of c.args.migrations.now) c.args.now
      (option_map (λ (n : Bor Name). n.now) c.args.busy) c.args.manifest.now c.args.app
      g.D.Disk.told (g.D.Disk.medium c.args.disk.now) (g.D.Disk.medium c.begin_update.new.disk) c.args.root
      c.in_ok-begun.begun c.in_ok-begun.ensures.begins c.in_ok-begun.ensures.staged c.in_ok-begun.ensures.image
      c.in-Ready.staged c.in-Ready.is;
}

pub returns-in_err-next-in-Ready-clause-early : goal.returns-in_err-next-in-Ready-clause-early
returns-in_err-next-in-Ready-clause-early g c = λ e refusal.
    absurd (never _ e (was_offered (rules_of c.args.migrations.now) (answers_of c.args.migrations.now) c.args.now
    (option_map (λ (n : Bor Name). n.now) c.args.busy) c.args.manifest.now c.args.app
    g.D.Disk.told (g.D.Disk.medium c.args.disk.now) (g.D.Disk.medium c.begin_update.new.disk) c.args.root
    c.in_ok-begun.begun c.in_ok-begun.ensures.begins c.in_ok-begun.ensures.staged c.in_ok-begun.ensures.image
    c.in-Ready.staged c.in-Ready.is) refusal)

pub returns-in_err-next-in-Ready-clause-outside : goal.returns-in_err-next-in-Ready-clause-outside
returns-in_err-next-in-Ready-clause-outside g c = leaves_led (rules_of c.args.migrations.now)
    (answers_of c.args.migrations.now) c.args.now (option_map (λ (n : Bor Name). n.now) c.args.busy) c.args.manifest.now
    c.args.app
    g.D.Disk.told (g.D.Disk.medium c.args.disk.now) (g.D.Disk.medium c.begin_update.new.disk) c.args.root
    c.in_ok-begun.begun c.in_ok-begun.ensures.begins c.in_ok-begun.ensures.staged c.in_ok-begun.ensures.image
    c.in-Ready.staged c.in-Ready.is
    (g.D.Disk.medium c.commit_update.new.disk) c.in_ok-begun.ensures.time c.in_err-next-in-Ready.ensures.time
    c.in_ok-begun.ensures.idle c.in_err-next-in-Ready.ensures.outside

pub returns-in_err-next-in-Ready-clause-any_moment : goal.returns-in_err-next-in-Ready-clause-any_moment
returns-in_err-next-in-Ready-clause-any_moment g c = λ tells.
    leads_led (rules_of c.args.migrations.now) (answers_of c.args.migrations.now) c.args.now
    (option_map (λ (n : Bor Name). n.now) c.args.busy) c.args.manifest.now c.args.app
    g.D.Disk.told (g.D.Disk.medium c.args.disk.now) (g.D.Disk.medium c.begin_update.new.disk) c.args.root
    c.in_ok-begun.begun c.in_ok-begun.ensures.begins c.in_ok-begun.ensures.staged c.in_ok-begun.ensures.image
    c.in-Ready.staged c.in-Ready.is
    (g.D.Disk.medium c.commit_update.new.disk) c.in_ok-begun.ensures.time c.in_err-next-in-Ready.ensures.time
    c.in_ok-begun.ensures.idle
    c.roots_in_use.ensures.app c.rows_lead_on.ensures.update c.untouched_stands.ensures.still c.requires.app
    c.requires.root tells (c.in_err-next-in-Ready.ensures.any_moment tells)
    _ (never_ok _ _ c.from_residual-in_err-next-in-Ready.ensures.0)

pub returns-in_err-next-in-Ready-clause-device_only : goal.returns-in_err-next-in-Ready-clause-device_only
returns-in_err-next-in-Ready-clause-device_only g c = λ err.
    was_offered (rules_of c.args.migrations.now) (answers_of c.args.migrations.now) c.args.now
    (option_map (λ (n : Bor Name). n.now) c.args.busy) c.args.manifest.now c.args.app
    g.D.Disk.told (g.D.Disk.medium c.args.disk.now) (g.D.Disk.medium c.begin_update.new.disk) c.args.root
    c.in_ok-begun.begun c.in_ok-begun.ensures.begins c.in_ok-begun.ensures.staged c.in_ok-begun.ensures.image
    c.in-Ready.staged c.in-Ready.is

pub returns-in_ok-next-in-Ready-clause-early : goal.returns-in_ok-next-in-Ready-clause-early
returns-in_ok-next-in-Ready-clause-early g c = λ e refusal.
    absurd (never _ e (was_offered (rules_of c.args.migrations.now) (answers_of c.args.migrations.now) c.args.now
    (option_map (λ (n : Bor Name). n.now) c.args.busy) c.args.manifest.now c.args.app
    g.D.Disk.told (g.D.Disk.medium c.args.disk.now) (g.D.Disk.medium c.begin_update.new.disk) c.args.root
    c.in_ok-begun.begun c.in_ok-begun.ensures.begins c.in_ok-begun.ensures.staged c.in_ok-begun.ensures.image
    c.in-Ready.staged c.in-Ready.is) refusal)

pub returns-in_ok-next-in-Ready-clause-outside : goal.returns-in_ok-next-in-Ready-clause-outside
returns-in_ok-next-in-Ready-clause-outside g c = leaves_led (rules_of c.args.migrations.now)
    (answers_of c.args.migrations.now) c.args.now (option_map (λ (n : Bor Name). n.now) c.args.busy) c.args.manifest.now
    c.args.app
    g.D.Disk.told (g.D.Disk.medium c.args.disk.now) (g.D.Disk.medium c.begin_update.new.disk) c.args.root
    c.in_ok-begun.begun c.in_ok-begun.ensures.begins c.in_ok-begun.ensures.staged c.in_ok-begun.ensures.image
    c.in-Ready.staged c.in-Ready.is
    (g.D.Disk.medium c.commit_update.new.disk) c.in_ok-begun.ensures.time c.in_ok-next-in-Ready.ensures.time
    c.in_ok-begun.ensures.idle c.in_ok-next-in-Ready.ensures.outside

pub returns-in_ok-next-in-Ready-clause-any_moment : goal.returns-in_ok-next-in-Ready-clause-any_moment
returns-in_ok-next-in-Ready-clause-any_moment g c = λ tells.
    leads_led (rules_of c.args.migrations.now) (answers_of c.args.migrations.now) c.args.now
    (option_map (λ (n : Bor Name). n.now) c.args.busy) c.args.manifest.now c.args.app
    g.D.Disk.told (g.D.Disk.medium c.args.disk.now) (g.D.Disk.medium c.begin_update.new.disk) c.args.root
    c.in_ok-begun.begun c.in_ok-begun.ensures.begins c.in_ok-begun.ensures.staged c.in_ok-begun.ensures.image
    c.in-Ready.staged c.in-Ready.is
    (g.D.Disk.medium c.commit_update.new.disk) c.in_ok-begun.ensures.time c.in_ok-next-in-Ready.ensures.time
    c.in_ok-begun.ensures.idle
    c.roots_in_use.ensures.app c.rows_lead_on.ensures.update c.untouched_stands.ensures.still c.requires.app
    c.requires.root tells (c.in_ok-next-in-Ready.ensures.any_moment tells)
    _ (c.in_ok-next-in-Ready.ensures.app tells)

pub returns-in_ok-next-in-Ready-clause-root : goal.returns-in_ok-next-in-Ready-clause-root
returns-in_ok-next-in-Ready-clause-root g c = clause_of (rules_of c.args.migrations.now)
    (answers_of c.args.migrations.now) c.args.now (option_map (λ (n : Bor Name). n.now) c.args.busy) c.args.manifest.now
    c.args.app
    g.D.Disk.told (g.D.Disk.medium c.args.disk.now) (g.D.Disk.medium c.begin_update.new.disk) c.args.root
    c.in_ok-begun.begun c.in_ok-begun.ensures.begins c.in_ok-begun.ensures.staged c.in_ok-begun.ensures.image
    c.in-Ready.staged c.in-Ready.is (g.D.Disk.medium c.commit_update.new.disk)
    (λ (n : ℕ). RootAt g.D.Disk.told (g.D.Disk.medium c.commit_update.new.disk).image n c.in_ok-next-in-Ready.next)
    c.in_ok-next-in-Ready.ensures.root

pub returns-in_ok-next-in-Ready-clause-updates : goal.returns-in_ok-next-in-Ready-clause-updates
returns-in_ok-next-in-Ready-clause-updates g c = updated_so (rules_of c.args.migrations.now)
    (answers_of c.args.migrations.now) c.args.now (option_map (λ (n : Bor Name). n.now) c.args.busy) c.args.manifest.now
    c.args.app
    g.D.Disk.told (g.D.Disk.medium c.args.disk.now) (g.D.Disk.medium c.begin_update.new.disk) c.args.root
    c.in_ok-begun.begun c.in_ok-begun.ensures.begins c.in_ok-begun.ensures.staged c.in_ok-begun.ensures.image
    c.in-Ready.staged c.in-Ready.is
    (g.D.Disk.medium c.commit_update.new.disk) c.in_ok-next-in-Ready.next c.in_ok-next-in-Ready.ensures.says
    c.in_ok-next-in-Ready.ensures.app

pub returns-in_ok-next-in-Ready-clause-text : goal.returns-in_ok-next-in-Ready-clause-text
returns-in_ok-next-in-Ready-clause-text g c = λ none. c.in_ok-next-in-Ready.ensures.text
    ∙ ap (λ (t : List ℕ). t ∷ root_texts (staged_root c.in-Ready.staged))
    (c.in_ok-begun.ensures.text c.in-Ready.staged (ap Ok c.in-Ready.is))
    ∙ ap (λ (r : Root). c.args.manifest.now ∷ root_texts r)
    (over_root (rules_of c.args.migrations.now) (answers_of c.args.migrations.now) c.args.now
    (option_map (λ (n : Bor Name). n.now) c.args.busy) c.args.manifest.now c.args.app
    g.D.Disk.told (g.D.Disk.medium c.args.disk.now) (g.D.Disk.medium c.begin_update.new.disk) c.args.root
    c.in_ok-begun.begun c.in_ok-begun.ensures.begins c.in_ok-begun.ensures.staged c.in_ok-begun.ensures.image
    c.in-Ready.staged c.in-Ready.is)

pub returns-in_ok-next-in-Ready-clause-clean : goal.returns-in_ok-next-in-Ready-clause-clean
returns-in_ok-next-in-Ready-clause-clean g c = λ tells clean.
    clause_of (rules_of c.args.migrations.now) (answers_of c.args.migrations.now) c.args.now
    (option_map (λ (n : Bor Name). n.now) c.args.busy) c.args.manifest.now c.args.app
    g.D.Disk.told (g.D.Disk.medium c.args.disk.now) (g.D.Disk.medium c.begin_update.new.disk) c.args.root
    c.in_ok-begun.begun c.in_ok-begun.ensures.begins c.in_ok-begun.ensures.staged c.in_ok-begun.ensures.image
    c.in-Ready.staged c.in-Ready.is (g.D.Disk.medium c.commit_update.new.disk)
    (λ (n : ℕ). IsCleanApp n (g.D.Disk.medium c.commit_update.new.disk).image)
    (c.in_ok-next-in-Ready.ensures.clean tells (clause_from (rules_of c.args.migrations.now)
    (answers_of c.args.migrations.now) c.args.now (option_map (λ (n : Bor Name). n.now) c.args.busy)
    c.args.manifest.now c.args.app
    g.D.Disk.told (g.D.Disk.medium c.args.disk.now) (g.D.Disk.medium c.begin_update.new.disk) c.args.root
    c.in_ok-begun.begun c.in_ok-begun.ensures.begins c.in_ok-begun.ensures.staged c.in_ok-begun.ensures.image
    c.in-Ready.staged c.in-Ready.is (λ (n : ℕ). IsCleanApp n (g.D.Disk.medium c.begin_update.new.disk).image)
    (subst (λ (i : Image). IsCleanApp c.args.app i) (sym c.in_ok-begun.ensures.image) clean)))

pub returns-in_err-next-in-Ready-clause-root : goal.returns-in_err-next-in-Ready-clause-root
returns-in_err-next-in-Ready-clause-root g c = none_ok c.from_residual-in_err-next-in-Ready.result
    c.in_err-next-in-Ready.field-0.0 c.from_residual-in_err-next-in-Ready.ensures.1 _

pub returns-in_err-next-in-Ready-clause-updates : goal.returns-in_err-next-in-Ready-clause-updates
returns-in_err-next-in-Ready-clause-updates g c = none_ok c.from_residual-in_err-next-in-Ready.result
    c.in_err-next-in-Ready.field-0.0 c.from_residual-in_err-next-in-Ready.ensures.1 _

pub returns-in_err-next-in-Ready-clause-text : goal.returns-in_err-next-in-Ready-clause-text
returns-in_err-next-in-Ready-clause-text g c = none_ok c.from_residual-in_err-next-in-Ready.result
    c.in_err-next-in-Ready.field-0.0 c.from_residual-in_err-next-in-Ready.ensures.1 _

pub returns-in_err-next-in-Ready-clause-clean : goal.returns-in_err-next-in-Ready-clause-clean
returns-in_err-next-in-Ready-clause-clean g c = λ tells clean.
    not_ok c.from_residual-in_err-next-in-Ready.result c.in_err-next-in-Ready.field-0.0
    c.from_residual-in_err-next-in-Ready.ensures.1 _

pub returns-in_err-next-in-Ready-clause-quiet : goal.returns-in_err-next-in-Ready-clause-quiet
returns-in_err-next-in-Ready-clause-quiet g c = λ quiet.
    not_ok c.from_residual-in_err-next-in-Ready.result c.in_err-next-in-Ready.field-0.0
    c.from_residual-in_err-next-in-Ready.ensures.1 _

pub returns-in_err-next-in-Ready-clause-unchanged : goal.returns-in_err-next-in-Ready-clause-unchanged
returns-in_err-next-in-Ready-clause-unchanged g c = none_ok c.from_residual-in_err-next-in-Ready.result
    c.in_err-next-in-Ready.field-0.0 c.from_residual-in_err-next-in-Ready.ensures.1 _

pub returns-in_err-next-in-Ready-clause-due : goal.returns-in_err-next-in-Ready-clause-due
returns-in_err-next-in-Ready-clause-due g c = λ e refusal none.
    absurd (never _ e (was_offered (rules_of c.args.migrations.now) (answers_of c.args.migrations.now) c.args.now
    (option_map (λ (n : Bor Name). n.now) c.args.busy) c.args.manifest.now c.args.app
    g.D.Disk.told (g.D.Disk.medium c.args.disk.now) (g.D.Disk.medium c.begin_update.new.disk) c.args.root
    c.in_ok-begun.begun c.in_ok-begun.ensures.begins c.in_ok-begun.ensures.staged c.in_ok-begun.ensures.image
    c.in-Ready.staged c.in-Ready.is) refusal)

pub returns-in_err-next-in-Ready-clause-cause : goal.returns-in_err-next-in-Ready-clause-cause
returns-in_err-next-in-Ready-clause-cause g c = λ err.
    subst (λ (n : ℕ). Rose n (g.D.Disk.medium c.commit_update.new.disk).faults) c.in_ok-begun.ensures.passes
    (c.in_err-next-in-Ready.ensures.cause (same_error c.from_residual-in_err-next-in-Ready.result
    c.in_err-next-in-Ready.field-0.0 c.from_residual-in_err-next-in-Ready.ensures.1 _ err))

pub returns-in_err-next-in-Ready-clause-passes : goal.returns-in_err-next-in-Ready-clause-passes
returns-in_err-next-in-Ready-clause-passes g c = not_ok c.from_residual-in_err-next-in-Ready.result
    c.in_err-next-in-Ready.field-0.0 c.from_residual-in_err-next-in-Ready.ensures.1 _

pub returns-in_err-next-in-Ready-clause-fed : goal.returns-in_err-next-in-Ready-clause-fed
returns-in_err-next-in-Ready-clause-fed g c = λ err. c.in_err-next-in-Ready.ensures.fed
    (same_error c.from_residual-in_err-next-in-Ready.result c.in_err-next-in-Ready.field-0.0
    c.from_residual-in_err-next-in-Ready.ensures.1 _ err) ∙ c.in_ok-begun.ensures.passes

pub returns-in_err-next-in-Ready-clause-time : goal.returns-in_err-next-in-Ready-clause-time
returns-in_err-next-in-Ready-clause-time g c = elapses_on c.in_ok-begun.ensures.time c.in_err-next-in-Ready.ensures.time

pub returns-in_ok-next-in-Ready-clause-quiet : goal.returns-in_ok-next-in-Ready-clause-quiet
returns-in_ok-next-in-Ready-clause-quiet g c = λ quiet. c.in_ok-next-in-Ready.ensures.quiet

pub returns-in_ok-next-in-Ready-clause-unchanged : goal.returns-in_ok-next-in-Ready-clause-unchanged
returns-in_ok-next-in-Ready-clause-unchanged g c = λ some. absurd (some refl)

pub returns-in_ok-next-in-Ready-clause-due : goal.returns-in_ok-next-in-Ready-clause-due
returns-in_ok-next-in-Ready-clause-due g c = λ e refusal none. refl

pub returns-in_ok-next-in-Ready-clause-cause : goal.returns-in_ok-next-in-Ready-clause-cause
returns-in_ok-next-in-Ready-clause-cause g c = λ err. absurd cc

pub returns-in_ok-next-in-Ready-clause-device_only : goal.returns-in_ok-next-in-Ready-clause-device_only
returns-in_ok-next-in-Ready-clause-device_only g c = λ err. absurd cc

pub returns-in_ok-next-in-Ready-clause-passes : goal.returns-in_ok-next-in-Ready-clause-passes
returns-in_ok-next-in-Ready-clause-passes g c = c.in_ok-next-in-Ready.ensures.passes ∙ c.in_ok-begun.ensures.passes

pub returns-in_ok-next-in-Ready-clause-fed : goal.returns-in_ok-next-in-Ready-clause-fed
returns-in_ok-next-in-Ready-clause-fed g c = λ err. absurd cc

pub returns-in_ok-next-in-Ready-clause-time : goal.returns-in_ok-next-in-Ready-clause-time
returns-in_ok-next-in-Ready-clause-time g c = elapses_on c.in_ok-begun.ensures.time c.in_ok-next-in-Ready.ensures.time

pub returns-in_err-begun-clause-places : goal.returns-in_err-begun-clause-places
returns-in_err-begun-clause-places g c = leaves_read g.D.Disk.told _ (g.D.Disk.medium c.args.disk.now)
    (g.D.Disk.medium c.begin_update.new.disk) c.in_err-begun.ensures.idle c.in_err-begun.ensures.image

pub returns-in_err-begun-clause-written : goal.returns-in_err-begun-clause-written
returns-in_err-begun-clause-written g c = inl c.in_err-begun.ensures.written

pub returns-in-Refused-clause-places : goal.returns-in-Refused-clause-places
returns-in-Refused-clause-places g c = leaves_read g.D.Disk.told _ (g.D.Disk.medium c.args.disk.now)
    (g.D.Disk.medium c.begin_update.new.disk) c.in_ok-begun.ensures.idle c.in_ok-begun.ensures.image

pub returns-in-Refused-clause-written : goal.returns-in-Refused-clause-written
returns-in-Refused-clause-written g c = inl c.in_ok-begun.ensures.written

pub returns-in_err-next-in-Ready-clause-places : goal.returns-in_err-next-in-Ready-clause-places
returns-in_err-next-in-Ready-clause-places g c =
    let same_app = of_app (rules_of c.args.migrations.now) (answers_of c.args.migrations.now) c.args.now
    (option_map (λ (n : Bor Name). n.now) c.args.busy) c.args.manifest.now c.args.app
    g.D.Disk.told (g.D.Disk.medium c.args.disk.now) (g.D.Disk.medium c.begin_update.new.disk) c.args.root
    c.in_ok-begun.begun c.in_ok-begun.ensures.begins c.in_ok-begun.ensures.staged c.in_ok-begun.ensures.image
    c.in-Ready.staged c.in-Ready.is in
    let over = over_root (rules_of c.args.migrations.now) (answers_of c.args.migrations.now) c.args.now
    (option_map (λ (n : Bor Name). n.now) c.args.busy) c.args.manifest.now c.args.app
    g.D.Disk.told (g.D.Disk.medium c.args.disk.now) (g.D.Disk.medium c.begin_update.new.disk) c.args.root
    c.in_ok-begun.begun c.in_ok-begun.ensures.begins c.in_ok-begun.ensures.staged c.in_ok-begun.ensures.image
    c.in-Ready.staged c.in-Ready.is in
    let at = staged_at (rules_of c.args.migrations.now) (answers_of c.args.migrations.now) c.args.now
    (option_map (λ (n : Bor Name). n.now) c.args.busy) c.args.manifest.now c.args.app
    g.D.Disk.told (g.D.Disk.medium c.args.disk.now) (g.D.Disk.medium c.begin_update.new.disk) c.args.root
    c.in_ok-begun.begun c.in_ok-begun.ensures.begins c.in_ok-begun.ensures.staged c.in_ok-begun.ensures.image
    c.in-Ready.staged c.in-Ready.is in
    led_places g.D.Disk.told c.args.app c.args.root c.args.manifest.now c.in-Ready.staged
    (g.D.Disk.medium c.args.disk.now) (g.D.Disk.medium c.begin_update.new.disk)
    (g.D.Disk.medium c.commit_update.new.disk) same_app over
    (c.in_ok-begun.ensures.text c.in-Ready.staged (ap Ok c.in-Ready.is)) at.memory.offers
    c.in_ok-begun.ensures.time c.in_err-next-in-Ready.ensures.time c.in_ok-begun.ensures.idle
    c.in_ok-begun.ensures.image c.in_err-next-in-Ready.ensures.places

pub returns-in_err-next-in-Ready-clause-written : goal.returns-in_err-next-in-Ready-clause-written
returns-in_err-next-in-Ready-clause-written g c =
    let over = over_root (rules_of c.args.migrations.now) (answers_of c.args.migrations.now) c.args.now
    (option_map (λ (n : Bor Name). n.now) c.args.busy) c.args.manifest.now c.args.app
    g.D.Disk.told (g.D.Disk.medium c.args.disk.now) (g.D.Disk.medium c.begin_update.new.disk) c.args.root
    c.in_ok-begun.begun c.in_ok-begun.ensures.begins c.in_ok-begun.ensures.staged c.in_ok-begun.ensures.image
    c.in-Ready.staged c.in-Ready.is in
    let ready = begins_ready (rules_of c.args.migrations.now) (answers_of c.args.migrations.now) c.args.now
    (option_map (λ (n : Bor Name). n.now) c.args.busy) c.args.manifest.now c.args.app
    g.D.Disk.told (g.D.Disk.medium c.args.disk.now) (g.D.Disk.medium c.begin_update.new.disk) c.args.root
    c.in_ok-begun.begun c.in_ok-begun.ensures.begins c.in_ok-begun.ensures.staged c.in_ok-begun.ensures.image
    c.in-Ready.staged c.in-Ready.is in
    let text = c.in_ok-begun.ensures.text c.in-Ready.staged (ap Ok c.in-Ready.is) in
    inr (
      c.in_ok-begun.ensures.begins.0,
      staged_progress c.in-Ready.staged,
      c.in_ok-begun.ensures.begins.1,
      ready,
      led_written (staged_progress c.in-Ready.staged).deployment.storages (staged_progress c.in-Ready.staged).contents
          c.in-Ready.staged.built _ (c.args.manifest.now ∷ root_texts c.args.root) _ _ _
          (ap (λ (t : List ℕ). t ∷ root_texts (staged_root c.in-Ready.staged)) text
          ∙ ap (λ (r : Root). c.args.manifest.now ∷ root_texts r) over)
          c.in_ok-begun.ensures.written c.in_err-next-in-Ready.ensures.written,
    )

pub returns-in_ok-next-in-Ready-clause-places : goal.returns-in_ok-next-in-Ready-clause-places
returns-in_ok-next-in-Ready-clause-places g c =
    let same_app = of_app (rules_of c.args.migrations.now) (answers_of c.args.migrations.now) c.args.now
    (option_map (λ (n : Bor Name). n.now) c.args.busy) c.args.manifest.now c.args.app
    g.D.Disk.told (g.D.Disk.medium c.args.disk.now) (g.D.Disk.medium c.begin_update.new.disk) c.args.root
    c.in_ok-begun.begun c.in_ok-begun.ensures.begins c.in_ok-begun.ensures.staged c.in_ok-begun.ensures.image
    c.in-Ready.staged c.in-Ready.is in
    let over = over_root (rules_of c.args.migrations.now) (answers_of c.args.migrations.now) c.args.now
    (option_map (λ (n : Bor Name). n.now) c.args.busy) c.args.manifest.now c.args.app
    g.D.Disk.told (g.D.Disk.medium c.args.disk.now) (g.D.Disk.medium c.begin_update.new.disk) c.args.root
    c.in_ok-begun.begun c.in_ok-begun.ensures.begins c.in_ok-begun.ensures.staged c.in_ok-begun.ensures.image
    c.in-Ready.staged c.in-Ready.is in
    let at = staged_at (rules_of c.args.migrations.now) (answers_of c.args.migrations.now) c.args.now
    (option_map (λ (n : Bor Name). n.now) c.args.busy) c.args.manifest.now c.args.app
    g.D.Disk.told (g.D.Disk.medium c.args.disk.now) (g.D.Disk.medium c.begin_update.new.disk) c.args.root
    c.in_ok-begun.begun c.in_ok-begun.ensures.begins c.in_ok-begun.ensures.staged c.in_ok-begun.ensures.image
    c.in-Ready.staged c.in-Ready.is in
    led_places g.D.Disk.told c.args.app c.args.root c.args.manifest.now c.in-Ready.staged
    (g.D.Disk.medium c.args.disk.now) (g.D.Disk.medium c.begin_update.new.disk)
    (g.D.Disk.medium c.commit_update.new.disk) same_app over
    (c.in_ok-begun.ensures.text c.in-Ready.staged (ap Ok c.in-Ready.is)) at.memory.offers
    c.in_ok-begun.ensures.time c.in_ok-next-in-Ready.ensures.time c.in_ok-begun.ensures.idle
    c.in_ok-begun.ensures.image c.in_ok-next-in-Ready.ensures.places

pub returns-in_ok-next-in-Ready-clause-written : goal.returns-in_ok-next-in-Ready-clause-written
returns-in_ok-next-in-Ready-clause-written g c =
    let over = over_root (rules_of c.args.migrations.now) (answers_of c.args.migrations.now) c.args.now
    (option_map (λ (n : Bor Name). n.now) c.args.busy) c.args.manifest.now c.args.app
    g.D.Disk.told (g.D.Disk.medium c.args.disk.now) (g.D.Disk.medium c.begin_update.new.disk) c.args.root
    c.in_ok-begun.begun c.in_ok-begun.ensures.begins c.in_ok-begun.ensures.staged c.in_ok-begun.ensures.image
    c.in-Ready.staged c.in-Ready.is in
    let ready = begins_ready (rules_of c.args.migrations.now) (answers_of c.args.migrations.now) c.args.now
    (option_map (λ (n : Bor Name). n.now) c.args.busy) c.args.manifest.now c.args.app
    g.D.Disk.told (g.D.Disk.medium c.args.disk.now) (g.D.Disk.medium c.begin_update.new.disk) c.args.root
    c.in_ok-begun.begun c.in_ok-begun.ensures.begins c.in_ok-begun.ensures.staged c.in_ok-begun.ensures.image
    c.in-Ready.staged c.in-Ready.is in
    let text = c.in_ok-begun.ensures.text c.in-Ready.staged (ap Ok c.in-Ready.is) in
    inr (
      c.in_ok-begun.ensures.begins.0,
      staged_progress c.in-Ready.staged,
      c.in_ok-begun.ensures.begins.1,
      ready,
      led_written (staged_progress c.in-Ready.staged).deployment.storages (staged_progress c.in-Ready.staged).contents
          c.in-Ready.staged.built _ (c.args.manifest.now ∷ root_texts c.args.root) _ _ _
          (ap (λ (t : List ℕ). t ∷ root_texts (staged_root c.in-Ready.staged)) text
          ∙ ap (λ (r : Root). c.args.manifest.now ∷ root_texts r) over)
          c.in_ok-begun.ensures.written c.in_ok-next-in-Ready.ensures.written,
    )

pub returns-in_err-begun-clause-last : goal.returns-in_err-begun-clause-last
returns-in_err-begun-clause-last g c = inl (record {
  image = c.in_err-begun.ensures.image;
  written = c.in_err-begun.ensures.written;
  idle = c.in_err-begun.ensures.idle;
})

pub returns-in-Refused-clause-last : goal.returns-in-Refused-clause-last
returns-in-Refused-clause-last g c = inl (record {
  image = c.in_ok-begun.ensures.image;
  written = c.in_ok-begun.ensures.written;
  idle = c.in_ok-begun.ensures.idle;
})

pub returns-in_err-next-in-Ready-clause-last : goal.returns-in_err-next-in-Ready-clause-last
returns-in_err-next-in-Ready-clause-last g c =
    let same_app = of_app (rules_of c.args.migrations.now) (answers_of c.args.migrations.now) c.args.now
    (option_map (λ (n : Bor Name). n.now) c.args.busy) c.args.manifest.now c.args.app
    g.D.Disk.told (g.D.Disk.medium c.args.disk.now) (g.D.Disk.medium c.begin_update.new.disk) c.args.root
    c.in_ok-begun.begun c.in_ok-begun.ensures.begins c.in_ok-begun.ensures.staged c.in_ok-begun.ensures.image
    c.in-Ready.staged c.in-Ready.is in
    let over = over_root (rules_of c.args.migrations.now) (answers_of c.args.migrations.now) c.args.now
    (option_map (λ (n : Bor Name). n.now) c.args.busy) c.args.manifest.now c.args.app
    g.D.Disk.told (g.D.Disk.medium c.args.disk.now) (g.D.Disk.medium c.begin_update.new.disk) c.args.root
    c.in_ok-begun.begun c.in_ok-begun.ensures.begins c.in_ok-begun.ensures.staged c.in_ok-begun.ensures.image
    c.in-Ready.staged c.in-Ready.is in
    let at = staged_at (rules_of c.args.migrations.now) (answers_of c.args.migrations.now) c.args.now
    (option_map (λ (n : Bor Name). n.now) c.args.busy) c.args.manifest.now c.args.app
    g.D.Disk.told (g.D.Disk.medium c.args.disk.now) (g.D.Disk.medium c.begin_update.new.disk) c.args.root
    c.in_ok-begun.begun c.in_ok-begun.ensures.begins c.in_ok-begun.ensures.staged c.in_ok-begun.ensures.image
    c.in-Ready.staged c.in-Ready.is in
    let ready = begins_ready (rules_of c.args.migrations.now) (answers_of c.args.migrations.now) c.args.now
    (option_map (λ (n : Bor Name). n.now) c.args.busy) c.args.manifest.now c.args.app
    g.D.Disk.told (g.D.Disk.medium c.args.disk.now) (g.D.Disk.medium c.begin_update.new.disk) c.args.root
    c.in_ok-begun.begun c.in_ok-begun.ensures.begins c.in_ok-begun.ensures.staged c.in_ok-begun.ensures.image
    c.in-Ready.staged c.in-Ready.is in
    inr (
      staged_progress c.in-Ready.staged,
      (c.in_ok-begun.ensures.begins.0, c.in_ok-begun.ensures.begins.1, ready),
      led_last g.D.Disk.medium g.D.Disk.told c.args.app c.args.root c.args.manifest.now c.in-Ready.staged
          c.args.disk.now c.begin_update.new.disk c.commit_update.new.disk same_app over
          (c.in_ok-begun.ensures.text c.in-Ready.staged (ap Ok c.in-Ready.is)) at.memory.offers
          c.in_ok-begun.ensures.time c.in_ok-begun.ensures.idle c.in_ok-begun.ensures.image
          c.in_ok-begun.ensures.written c.in_err-next-in-Ready.ensures.last,
    )

pub returns-in_ok-next-in-Ready-clause-last : goal.returns-in_ok-next-in-Ready-clause-last
returns-in_ok-next-in-Ready-clause-last g c =
    let same_app = of_app (rules_of c.args.migrations.now) (answers_of c.args.migrations.now) c.args.now
    (option_map (λ (n : Bor Name). n.now) c.args.busy) c.args.manifest.now c.args.app
    g.D.Disk.told (g.D.Disk.medium c.args.disk.now) (g.D.Disk.medium c.begin_update.new.disk) c.args.root
    c.in_ok-begun.begun c.in_ok-begun.ensures.begins c.in_ok-begun.ensures.staged c.in_ok-begun.ensures.image
    c.in-Ready.staged c.in-Ready.is in
    let over = over_root (rules_of c.args.migrations.now) (answers_of c.args.migrations.now) c.args.now
    (option_map (λ (n : Bor Name). n.now) c.args.busy) c.args.manifest.now c.args.app
    g.D.Disk.told (g.D.Disk.medium c.args.disk.now) (g.D.Disk.medium c.begin_update.new.disk) c.args.root
    c.in_ok-begun.begun c.in_ok-begun.ensures.begins c.in_ok-begun.ensures.staged c.in_ok-begun.ensures.image
    c.in-Ready.staged c.in-Ready.is in
    let at = staged_at (rules_of c.args.migrations.now) (answers_of c.args.migrations.now) c.args.now
    (option_map (λ (n : Bor Name). n.now) c.args.busy) c.args.manifest.now c.args.app
    g.D.Disk.told (g.D.Disk.medium c.args.disk.now) (g.D.Disk.medium c.begin_update.new.disk) c.args.root
    c.in_ok-begun.begun c.in_ok-begun.ensures.begins c.in_ok-begun.ensures.staged c.in_ok-begun.ensures.image
    c.in-Ready.staged c.in-Ready.is in
    let ready = begins_ready (rules_of c.args.migrations.now) (answers_of c.args.migrations.now) c.args.now
    (option_map (λ (n : Bor Name). n.now) c.args.busy) c.args.manifest.now c.args.app
    g.D.Disk.told (g.D.Disk.medium c.args.disk.now) (g.D.Disk.medium c.begin_update.new.disk) c.args.root
    c.in_ok-begun.begun c.in_ok-begun.ensures.begins c.in_ok-begun.ensures.staged c.in_ok-begun.ensures.image
    c.in-Ready.staged c.in-Ready.is in
    inr (
      staged_progress c.in-Ready.staged,
      (c.in_ok-begun.ensures.begins.0, c.in_ok-begun.ensures.begins.1, ready),
      led_last g.D.Disk.medium g.D.Disk.told c.args.app c.args.root c.args.manifest.now c.in-Ready.staged
          c.args.disk.now c.begin_update.new.disk c.commit_update.new.disk same_app over
          (c.in_ok-begun.ensures.text c.in-Ready.staged (ap Ok c.in-Ready.is)) at.memory.offers
          c.in_ok-begun.ensures.time c.in_ok-begun.ensures.idle c.in_ok-begun.ensures.image
          c.in_ok-begun.ensures.written c.in_ok-next-in-Ready.ensures.last,
    )
