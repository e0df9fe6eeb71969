use Rattle.std.proofs.Common.{sym, ◌∙◌, subst, arith}
use Rattle.std.specs.Prelude.{Ok, Err, map}
use Rattle.deployment_model.specs.Data.{deployment_data, storage_data}
use Rattle.update_plan.specs.Plans.{PlansAll, stored_for}
use Rattle.per_base.specs.declared.errors.PerError.{PerError}
use Rattle.migrate_fns.specs.Stored.{answers_of, rules_of}
use Rattle.deploy_rows.specs.Rows.{BeginsWith}
use Rattle.deploy.specs.Beginning.{offer_of}
use Rattle.deploy.proofs.Begun.{states_read}
use Rattle.deploy.proofs.Offers.{begins_ready, begins_refused, begins_worn}
use Rattle.deploy.proofs.updating.begin_with.Goals as goal

pub returns-in-Ok-clause-begins : goal.returns-in-Ok-clause-begins
returns-in-Ok-clause-begins g c = (
  c.in_ok-stored.ensures.read.states,
  (states_read c.one_root.ensures.again c.roots_say.ensures.alone g.D.Disk.told (g.D.Disk.medium c.args.disk.now).image
      c.args.app c.args.root c.in_ok-stored.stored c.requires.root c.requires.alone c.in_ok-stored.ensures.read),
  subst (λ (e : PerError). BeginsWith (rules_of c.args.migrations.now) (answers_of c.args.migrations.now) c.args.now
      c.in_ok-stored.ensures.read.states (Ok (offer_of c.args.root c.args.version)) (Err e)) (sym c.worn_out.ensures)
      (begins_worn (rules_of c.args.migrations.now) (answers_of c.args.migrations.now) c.args.now
      (offer_of c.args.root c.args.version) c.in_ok-stored.stored c.in_ok-stored.ensures.read.states
      c.in_ok-stored.ensures.read.stored c.in-Ok.field-0.items c.in-Ok.ensures.plan (omega arith)),
)

pub returns-in-Ok-2-clause-begins : goal.returns-in-Ok-2-clause-begins
returns-in-Ok-2-clause-begins g c = (
  c.in_ok-stored.ensures.read.states,
  (states_read c.one_root.ensures.again c.roots_say.ensures.alone g.D.Disk.told (g.D.Disk.medium c.args.disk.now).image
      c.args.app c.args.root c.in_ok-stored.stored c.requires.root c.requires.alone c.in_ok-stored.ensures.read),
  begins_ready (rules_of c.args.migrations.now) (answers_of c.args.migrations.now) c.args.now
      (offer_of c.args.root c.args.version) c.in_ok-stored.stored c.in_ok-stored.ensures.read.states
      c.in_ok-stored.ensures.read.stored c.in-Ok.field-0.items c.in-Ok.ensures.plan (omega arith),
)

pub returns-in_ok-refused-in-Err-clause-begins : goal.returns-in_ok-refused-in-Err-clause-begins
returns-in_ok-refused-in-Err-clause-begins g c = (
  c.in_ok-stored.ensures.read.states,
  (states_read c.one_root.ensures.again c.roots_say.ensures.alone g.D.Disk.told (g.D.Disk.medium c.args.disk.now).image
      c.args.app c.args.root c.in_ok-stored.stored c.requires.root c.requires.alone c.in_ok-stored.ensures.read),
  begins_refused (rules_of c.args.migrations.now) (answers_of c.args.migrations.now) c.args.now
      (offer_of c.args.root c.args.version) c.in_ok-stored.stored c.in_ok-stored.ensures.read.states
      c.in_ok-stored.ensures.read.stored c.in_ok-refused-in-Err.refused
      (subst (λ (e : PerError). PlansAll (rules_of c.args.migrations.now) (answers_of c.args.migrations.now) c.args.now
      (stored_for (deployment_data c.args.root.active.deployment) c.in_ok-stored.stored)
      (map storage_data c.args.version.deployment.storages) (Err e)) (sym c.in_ok-refused-in-Err.ensures.refused)
      (c.in-Err.ensures.plan (λ is. c.in_ok-refused-in-Err.ensures.fed (c.in_ok-refused-in-Err.ensures.refused ∙ is)))),
)
