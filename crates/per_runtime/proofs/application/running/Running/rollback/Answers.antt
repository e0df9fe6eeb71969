use Rattle.std.proofs.Common.{◌≡◌, ◌⊎◌, ◌∙◌, None, ap, refl, sym}
use Rattle.std.specs.Prelude.{option_map}
use Rattle.deploy.specs.Clauses.{IsNoRootSlot}
use Rattle.deploy.specs.Refusals.{AllocatesNothing}
use Rattle.per_base.specs.declared.errors.PerError.{PerError}
use Rattle.deploy.specs.Roots.{root_says}
use Rattle.deploy_laws.specs.Apps.{IsCleanApp, app_at}
use Rattle.deploy_rows.specs.Rows.{after, rolling_back}
use Rattle.command_text.specs.declared.calls.Call.TheVariants as call
use Rattle.run_model.specs.Converters.{converters_of}
use Rattle.per_runtime.specs.storages.Slots.{resting_with}
use Rattle.per_runtime.specs.declared.application.running.Running.{Running}
use Rattle.per_runtime.specs.application.Needs.{no_way_back}
use Rattle.per_runtime.specs.application.Stages.{stage_root}
use Rattle.per_runtime.proofs.application_lemmas.Early.{back_plain, back_row, back_starves, early_promises, or_unnamed}
use Rattle.per_runtime.proofs.application_lemmas.Ended.{busy_here, busy_least, on_clean, resting_in, starved}
use Rattle.per_runtime.proofs.application_lemmas.Ended.{starved_promises}
use Rattle.per_runtime.proofs.application_lemmas.Ended.{word_promises}
use Rattle.per_runtime.proofs.application_lemmas.Frames.{calls_to, no_root}
use Rattle.per_runtime.proofs.application_lemmas.Kept.{rollback_kept}
use Rattle.per_runtime.proofs.application_lemmas.Within.{rollback_within}
use Rattle.per_runtime.proofs.application_lemmas.Words.{rollback_word}
use Rattle.per_runtime.proofs.application.running.Running.rollback.Goals as goal

pub rollback-made-requires : goal.rollback-made-requires
rollback-made-requires g c =
    let resting = resting_in g.D.Disk.told (g.D.Disk.medium c.args.disk.now).image c.args.self.now
    c.take_root-root.result c.requires.memory c.requires.rests c.take_root-root.ensures.root in
    record { root = (c.args.self.now.app, resting.below, resting.root_at) }

-- ---- its root refuses it

pub returns-in-Some : goal.returns-in-Some
returns-in-Some g c = λ now.
    let s = c.args.self.now in
    let refused = sym c.no_way_back.ensures ∙ c.in-Some.is in
    early_promises g.D.Disk.told (converters_of c.args.migrations.now) now call.Rollback s
    (g.D.Disk.medium c.args.disk.now) (g.met.D.Disk.lawful c.args.disk.now) c.untouched_stands.ensures.untouched
    (c.args.disk.now ≡ c.args.disk.now) refl c.requires.memory c.requires.rests c.roots_in_use.ensures.app no_way_back
    c.in-Some.error (back_plain (root_says (stage_root s.stage)) c.in-Some.error refused) refused
    (λ r rests is. back_row (converters_of c.args.migrations.now) s.app now r rests
    c.in-Some.error is) c.refusal.result c.refusal.ensures

-- ---- it goes on

pub returns-in_err-busy : goal.returns-in_err-busy
returns-in_err-busy g c = λ now.
    let told = g.D.Disk.told in
    let s = c.args.self.now in
    let taken = c.take_root-root.new.self in
    let root = c.take_root-root.result in
    let old = g.D.Disk.medium c.args.disk.now in
    let resting = resting_in told old.image s root c.requires.memory c.requires.rests c.take_root-root.ensures.root in
    starved_promises told (converters_of c.args.migrations.now) now call.Rollback s old
    (g.met.D.Disk.lawful c.args.disk.now) c.untouched_stands.ensures.untouched (c.args.disk.now ≡ c.args.disk.now) refl
    c.requires.memory
    (back_starves told s taken root old now resting c.requires.rests c.roots_in_use.ensures.app
    c.take_root-root.ensures.left c.in_err-busy.ensures.memory c.no_way_back.result c.take_root-root.ensures.root
    c.no_way_back.ensures c.in_default.not-Some)
    taken (ap (λ (x : Running). x.app) c.take_root-root.ensures.left) c.from_residual.result
    (starved c.from_residual.result c.from_residual.ensures.1)

pub returns : goal.returns
returns g c = λ now.
    let told = g.D.Disk.told in
    let s = c.args.self.now in
    let taken = c.take_root-root.new.self in
    let root = c.take_root-root.result in
    let old = g.D.Disk.medium c.args.disk.now in
    let new = g.D.Disk.medium c.rollback-made.new.disk in
    let made = c.rollback-made.result in
    let busy = option_map (λ n. n.now) c.as_ref.result in
    let row = rolling_back busy in
    let Due : PerError → Type 0 = λ e. AllocatesNothing e ⊎ (busy ≡ None) in
    let resting = resting_in told old.image s root c.requires.memory c.requires.rests c.take_root-root.ensures.root in
    let busy_is = busy_here s taken root c.as_ref.result c.in_ok-busy.busy c.take_root-root.ensures.left
    c.as_ref.ensures.value c.in_ok-busy.ensures.busy in
    word_promises told (converters_of c.args.migrations.now) now call.Rollback s taken
    root old new (c.rollback-made.new.disk ≡ c.args.disk.now)
    (λ same. (ap (λ d. (g.D.Disk.medium d).image) same, ap (λ d. (g.D.Disk.medium d).written) same))
    c.requires.memory c.requires.rests c.take_root-root.ensures.root c.take_root-root.ensures.left
    c.roots_in_use.ensures.app row Due
    (rollback_word told (converters_of c.args.migrations.now) s.app now old.image s.slots
    busy (busy_least told old.image s.app root s.slots c.roots_in_use.ensures.app resting busy busy_is)
    (c.rows_read_the_root.ensures.rollback busy) c.rows_lead_on.ensures.rollback)
    (λ tells. rollback_within told (converters_of c.args.migrations.now) s.app now
    (resting_with old.image s.app s.slots) old new tells root
    (c.roots_in_use.ensures.manifests old.image s.app root resting.root_at.memory (resting.root_at.disk tells))
    (c.rollback-made.ensures.outside s.app resting.below resting.root_at) c.rollback-made.ensures.written)
    made
    (record {
      root_at = c.rollback-made.ensures.root s.app resting.below resting.root_at;
      refused = c.rollback-made.ensures.refused;
      leads = λ tells. c.rollback-made.ensures.app tells s.app resting.below resting.root_at;
      clean = λ tells. on_clean (IsCleanApp s.app old.image) (IsCleanApp s.app new.image) made
          (c.rollback-made.ensures.clean tells s.app resting.below resting.root_at);
      quiet = c.rollback-made.ensures.quiet;
      unchanged = c.rollback-made.ensures.unchanged;
      cause = c.rollback-made.ensures.cause;
      fed = λ bad. ap (λ d. (g.D.Disk.medium d).faults) (c.rollback-made.ensures.memory bad);
      passes = c.rollback-made.ensures.passes;
      device_only = c.rollback-made.ensures.device_only;
      due = λ e is early. c.rollback-made.ensures.due e is (or_unnamed c.as_ref.result early);
      calls = λ tells. calls_to told s.app (after (app_at old.image s.app) (row (app_at old.image s.app)))
          (IsNoRootSlot s.app) old new tells (λ f is. no_root s.app f resting.below is)
          (c.rollback-made.ensures.outside s.app resting.below resting.root_at)
          (c.rollback-made.ensures.any_moment tells s.app resting.below resting.root_at);
      time = c.rollback-made.ensures.time;
    })
    (rollback_kept told s.app old.image new.image root s.slots resting busy busy_is made
    c.rollback-made.ensures.refused)
    c.conclude.new.self c.conclude.result c.conclude.ensures
