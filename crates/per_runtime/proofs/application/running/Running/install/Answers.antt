use Rattle.std.proofs.Common.{◌≡◌, ◌≤◌, ◌<◌, ap, refl, sym, subst, arith}
use Rattle.deploy.specs.Clauses.{IsBesideNext}
use Rattle.deploy.specs.Refusals.{AllocatesNothing}
use Rattle.deploy.specs.Roots.{RootAt}
use Rattle.deploy_laws.specs.Apps.{IsCleanApp, app_at}
use Rattle.deploy_rows.specs.Rows.{after, installing}
use Rattle.command_text.specs.declared.calls.Call.TheVariants as call
use Rattle.per_runtime.specs.declared.application.running.Running.{Running}
use Rattle.run_model.specs.Converters.{converters_of}
use Rattle.run_model.specs.Turns.{bytes_now}
use Rattle.run_model.specs.Worlds.{application_at}
use Rattle.run_model.specs.Writes.{IsCallWithin}
use Rattle.per_runtime.specs.storages.Slots.{resting_with}
use Rattle.per_runtime.proofs.application_lemmas.Ended.{clean_less, resting_in, word_promises}
use Rattle.per_runtime.proofs.application_lemmas.Frames.{beside_next, calls_to}
use Rattle.per_runtime.proofs.application_lemmas.Kept.{install_kept}
use Rattle.per_runtime.proofs.application_lemmas.Rowed.{Made}
use Rattle.per_runtime.proofs.application_lemmas.Steps.{install_refused, not_updating}
use Rattle.per_runtime.proofs.application_lemmas.Within.{install_within}
use Rattle.per_runtime.proofs.application_lemmas.Words.{install_word}
use Rattle.per_runtime.proofs.application.running.Running.install.Goals as goal

pub returns-in-Updating : goal.returns-in-Updating
returns-in-Updating g c = install_refused g.D.Disk.told (converters_of c.args.migrations.now) c.args.now
    c.args.manifest.now c.args.self.now (g.D.Disk.medium c.args.disk.now)
    (g.met.D.Disk.lawful c.args.disk.now) c.untouched_stands.ensures.untouched (c.args.disk.now ≡ c.args.disk.now)
    refl
    c.requires.memory c.roots_in_use.ensures.app c.in-Updating.field-0 c.in-Updating.is c.refusal.result
    c.refusal.ensures

pub install-made-requires : goal.install-made-requires
install-made-requires g c =
    let resting = resting_in g.D.Disk.told (g.D.Disk.medium c.args.disk.now).image c.args.self.now
    c.take_root-root.result c.requires.memory (not_updating c.args.self.now.stage c.requires.opened
    c.in_default.not-Updating) c.take_root-root.ensures.root in
    let back = sym (ap (λ (x : Running). x.app) c.take_root-root.ensures.left) in
    record {
      app = subst (λ n. n < 8) back resting.below;
      root = subst (λ n. RootAt g.D.Disk.told (g.D.Disk.medium c.args.disk.now).image n c.take_root-root.result) back
          resting.root_at;
    }

pub returns : goal.returns
returns g c =
    let told = g.D.Disk.told in
    let s = c.args.self.now in
    let taken = c.take_root-root.new.self in
    let root = c.take_root-root.result in
    let old = g.D.Disk.medium c.args.disk.now in
    let new = g.D.Disk.medium c.install-made.new.disk in
    let made = c.install-made.result in
    let row = installing c.args.now c.args.manifest.now in
    let back = sym (ap (λ (x : Running). x.app) c.take_root-root.ensures.left) in
    let resting = resting_in told old.image s root c.requires.memory
    (not_updating c.args.self.now.stage c.requires.opened
    c.in_default.not-Updating) c.take_root-root.ensures.root in
    word_promises told (converters_of c.args.migrations.now) c.args.now
    (call.Install c.args.manifest.now) s taken root old new (c.install-made.new.disk ≡ c.args.disk.now)
    (λ same. (ap (λ d. (g.D.Disk.medium d).image) same, ap (λ d. (g.D.Disk.medium d).written) same))
    c.requires.memory (not_updating c.args.self.now.stage c.requires.opened c.in_default.not-Updating)
    c.take_root-root.ensures.root c.take_root-root.ensures.left
    c.roots_in_use.ensures.app row AllocatesNothing
    (install_word told (converters_of c.args.migrations.now) s.app c.args.now old.image
    s.slots c.args.manifest.now (c.rows_read_the_root.ensures.install c.args.now c.args.manifest.now)
    c.rows_lead_on.ensures.install)
    (λ tells. subst (λ n. IsCallWithin (converters_of c.args.migrations.now)
    (application_at n c.args.now (resting_with old.image s.app s.slots)) (call.Install c.args.manifest.now)
    (bytes_now old) (bytes_now new))
    (ap (λ (x : Running). x.app) c.take_root-root.ensures.left)
    (install_within told (converters_of c.args.migrations.now) taken.app c.args.now
    (resting_with old.image s.app s.slots) old new tells c.args.manifest.now c.install-made.ensures.written
    c.install-made.ensures.places))
    made
    (subst (λ n. Made told row AllocatesNothing n root (c.install-made.new.disk ≡ c.args.disk.now) old new made)
    (ap (λ (x : Running). x.app) c.take_root-root.ensures.left) (record {
      root_at = c.install-made.ensures.root;
      refused = c.install-made.ensures.refused;
      leads = c.install-made.ensures.app;
      clean = λ tells. clean_less (IsCleanApp taken.app old.image) (IsCleanApp taken.app new.image) made
          (c.install-made.ensures.clean tells);
      quiet = c.install-made.ensures.quiet;
      unchanged = c.install-made.ensures.unchanged;
      cause = c.install-made.ensures.cause;
      fed = c.install-made.ensures.fed;
      passes = c.install-made.ensures.passes;
      device_only = c.install-made.ensures.device_only;
      due = c.install-made.ensures.due;
      calls = λ tells. calls_to told taken.app (after (app_at old.image taken.app) (row (app_at old.image taken.app)))
          (IsBesideNext taken.app 0) old new tells (λ f is.
          beside_next taken.app 0 f (subst (λ n. n < 8) back resting.below) (let low : 0 ≤ 1 = omega arith in low) is)
          c.install-made.ensures.outside
          (c.install-made.ensures.any_moment tells);
      time = c.install-made.ensures.time;
    }))
    (install_kept told s.app old.image new.image root s.slots resting c.args.now c.args.manifest.now made
    c.install-made.ensures.refused)
    c.conclude.new.self c.conclude.result c.conclude.ensures
