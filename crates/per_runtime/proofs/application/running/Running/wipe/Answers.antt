use Rattle.std.proofs.Common.{◌≡◌, ◌<◌, None, ap, refl, sym, subst}
use Rattle.std.specs.Prelude.{option_map}
use Rattle.per_base.specs.declared.errors.PerError.{PerError}
use Rattle.deploy.specs.Clauses.{IsNoRootSlot}
use Rattle.deploy.specs.Roots.{RootAt}
use Rattle.deploy_laws.specs.Apps.{IsCleanApp, app_at}
use Rattle.deploy_rows.specs.Rows.{after, wiping}
use Rattle.command_text.specs.declared.calls.Call.TheVariants as call
use Rattle.run_model.specs.Converters.{converters_of}
use Rattle.run_model.specs.Turns.{bytes_now}
use Rattle.run_model.specs.Worlds.{application_at}
use Rattle.run_model.specs.Writes.{IsCallWithin}
use Rattle.per_runtime.specs.storages.Slots.{resting_with}
use Rattle.per_runtime.specs.declared.application.running.Running.{Running}
use Rattle.per_runtime.proofs.application_lemmas.Early.{unnamed, wipe_starves}
use Rattle.per_runtime.proofs.application_lemmas.Ended.{busy_here, busy_least, clean_less, resting_in, starved}
use Rattle.per_runtime.proofs.application_lemmas.Ended.{starved_promises, word_promises}
use Rattle.per_runtime.proofs.application_lemmas.Frames.{calls_to, no_root}
use Rattle.per_runtime.proofs.application_lemmas.Kept.{wipe_kept}
use Rattle.per_runtime.proofs.application_lemmas.Rowed.{Made}
use Rattle.per_runtime.proofs.application_lemmas.Steps.{says_in_use}
use Rattle.per_runtime.proofs.application_lemmas.Within.{wipe_within}
use Rattle.per_runtime.proofs.application_lemmas.Words.{wipe_word}
use Rattle.per_runtime.proofs.application.running.Running.wipe.Goals as goal

pub wipe-made-requires : goal.wipe-made-requires
wipe-made-requires g c =
    let resting = resting_in g.D.Disk.told (g.D.Disk.medium c.args.disk.now).image c.args.self.now
    c.take_root-root.result c.requires.memory c.requires.rests c.take_root-root.ensures.root in
    let back = sym (ap (λ (x : Running). x.app) c.take_root-root.ensures.left) in
    record {
      app = subst (λ n. n < 8) back resting.below;
      root = subst (λ n. RootAt g.D.Disk.told (g.D.Disk.medium c.args.disk.now).image n c.take_root-root.result) back
          resting.root_at;
    }

pub returns-in_err-busy : goal.returns-in_err-busy
returns-in_err-busy g c = λ now.
    let told = g.D.Disk.told in
    let s = c.args.self.now in
    let taken = c.take_root-root.new.self in
    let root = c.take_root-root.result in
    let old = g.D.Disk.medium c.args.disk.now in
    let resting = resting_in told old.image s root c.requires.memory c.requires.rests c.take_root-root.ensures.root in
    starved_promises told (converters_of c.args.migrations.now) now call.Wipe s old
    (g.met.D.Disk.lawful c.args.disk.now) c.untouched_stands.ensures.untouched (c.args.disk.now ≡ c.args.disk.now)
    refl
    c.requires.memory
    (wipe_starves told s taken root old now resting c.requires.rests c.roots_in_use.ensures.app
    c.take_root-root.ensures.left c.in_err-busy.ensures.memory)
    taken (ap (λ (x : Running). x.app) c.take_root-root.ensures.left) c.from_residual.result
    (starved c.from_residual.result c.from_residual.ensures.1)

pub returns : goal.returns
returns g c = λ now.
    let told = g.D.Disk.told in
    let s = c.args.self.now in
    let taken = c.take_root-root.new.self in
    let root = c.take_root-root.result in
    let old = g.D.Disk.medium c.args.disk.now in
    let new = g.D.Disk.medium c.wipe-made.new.disk in
    let made = c.wipe-made.result in
    let busy = option_map (λ n. n.now) c.as_ref.result in
    let row = wiping busy in
    let Due : PerError → Type 0 = λ e. busy ≡ None in
    let resting = resting_in told old.image s root c.requires.memory c.requires.rests c.take_root-root.ensures.root in
    let back = sym (ap (λ (x : Running). x.app) c.take_root-root.ensures.left) in
    let busy_is = busy_here s taken root c.as_ref.result c.in_ok-busy.busy c.take_root-root.ensures.left
    c.as_ref.ensures.value c.in_ok-busy.ensures.busy in
    word_promises told (converters_of c.args.migrations.now) now call.Wipe s taken root
    old new (c.wipe-made.new.disk ≡ c.args.disk.now)
    (λ same. (ap (λ d. (g.D.Disk.medium d).image) same, ap (λ d. (g.D.Disk.medium d).written) same))
    c.requires.memory c.requires.rests c.take_root-root.ensures.root c.take_root-root.ensures.left
    c.roots_in_use.ensures.app row Due
    (wipe_word told (converters_of c.args.migrations.now) s.app now old.image s.slots busy
    (busy_least told old.image s.app root s.slots c.roots_in_use.ensures.app resting busy busy_is)
    (c.rows_read_the_root.ensures.wipe busy) c.rows_lead_on.ensures.wipe)
    (λ tells. subst (λ n. IsCallWithin (converters_of c.args.migrations.now)
    (application_at n now (resting_with old.image s.app s.slots)) call.Wipe (bytes_now old) (bytes_now new))
    (ap (λ (x : Running). x.app) c.take_root-root.ensures.left)
    (wipe_within told (converters_of c.args.migrations.now) taken.app now
    (resting_with old.image s.app s.slots) old new tells root
    (says_in_use c.roots_in_use.ensures.app told old.image s.app root resting.root_at tells)
    c.wipe-made.ensures.written c.wipe-made.ensures.at_most c.wipe-made.ensures.outside))
    made
    (subst (λ n. Made told row Due n root (c.wipe-made.new.disk ≡ c.args.disk.now) old new made)
    (ap (λ (x : Running). x.app) c.take_root-root.ensures.left) (record {
      root_at = c.wipe-made.ensures.root;
      refused = c.wipe-made.ensures.refused;
      leads = c.wipe-made.ensures.app;
      clean = λ tells. clean_less (IsCleanApp taken.app old.image) (IsCleanApp taken.app new.image) made
          (c.wipe-made.ensures.clean tells);
      quiet = c.wipe-made.ensures.quiet;
      unchanged = c.wipe-made.ensures.unchanged;
      cause = c.wipe-made.ensures.cause;
      fed = λ bad. ap (λ d. (g.D.Disk.medium d).faults) (c.wipe-made.ensures.memory bad);
      passes = c.wipe-made.ensures.passes;
      device_only = c.wipe-made.ensures.device_only;
      due = λ e is none. c.wipe-made.ensures.due e is (unnamed c.as_ref.result none);
      calls = λ tells. calls_to told taken.app (after (app_at old.image taken.app) (row (app_at old.image taken.app)))
          (IsNoRootSlot taken.app) old new tells (λ f is. no_root taken.app f (subst (λ n. n < 8) back resting.below)
          is) c.wipe-made.ensures.outside
          (c.wipe-made.ensures.any_moment tells);
      time = c.wipe-made.ensures.time;
    }))
    (wipe_kept told s.app old.image new.image root s.slots resting busy busy_is made c.wipe-made.ensures.refused)
    c.conclude.new.self c.conclude.result c.conclude.ensures
