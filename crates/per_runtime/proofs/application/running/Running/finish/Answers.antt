use Rattle.std.proofs.Common.{◌≡◌, ap}
use Rattle.std.specs.Prelude.{⊤}
use Rattle.deploy.specs.Clauses.{IsNoRootSlot}
use Rattle.deploy_laws.specs.Apps.{IsCleanApp}
use Rattle.deploy_rows.specs.Rows.{after, finishing}
use Rattle.deploy_laws.specs.Apps.{app_at}
use Rattle.command_text.specs.declared.calls.Call.TheVariants as call
use Rattle.run_model.specs.Converters.{converters_of}
use Rattle.per_runtime.specs.storages.Slots.{resting_with}
use Rattle.per_runtime.proofs.application_lemmas.Ended.{on_clean, resting_in, word_promises}
use Rattle.per_runtime.proofs.application_lemmas.Frames.{calls_to, no_root}
use Rattle.per_runtime.proofs.application_lemmas.Kept.{finish_kept}
use Rattle.per_runtime.proofs.application_lemmas.Within.{finish_within}
use Rattle.per_runtime.proofs.application_lemmas.Words.{finish_word}
use Rattle.per_runtime.proofs.application.running.Running.finish.Goals as goal

pub finish-made-requires : goal.finish-made-requires
finish-made-requires g c =
    let resting = resting_in g.D.Disk.told (g.D.Disk.medium c.args.disk.now).image c.args.self.now
    c.take_root-root.result c.requires.memory c.requires.rests c.take_root-root.ensures.root in
    record { root = (c.args.self.now.app, resting.below, resting.root_at) }

pub returns : goal.returns
returns g c = λ now.
    let told = g.D.Disk.told in
    let s = c.args.self.now in
    let root = c.take_root-root.result in
    let old = g.D.Disk.medium c.args.disk.now in
    let new = g.D.Disk.medium c.finish-made.new.disk in
    let made = c.finish-made.result in
    let resting = resting_in told old.image s root c.requires.memory c.requires.rests c.take_root-root.ensures.root in
    let outside = c.finish-made.ensures.outside s.app resting.below resting.root_at in
    word_promises told (converters_of c.args.migrations.now) now call.Finish s
    c.take_root-root.new.self root old new (c.finish-made.new.disk ≡ c.args.disk.now)
    (λ same. (ap (λ d. (g.D.Disk.medium d).image) same, ap (λ d. (g.D.Disk.medium d).written) same))
    c.requires.memory c.requires.rests c.take_root-root.ensures.root c.take_root-root.ensures.left
    c.roots_in_use.ensures.app finishing (λ e. ⊤)
    (finish_word told (converters_of c.args.migrations.now) s.app now old.image s.slots
    c.rows_read_the_root.ensures.finish c.rows_lead_on.ensures.finish)
    (λ tells. finish_within told (converters_of c.args.migrations.now) s.app now
    (resting_with old.image s.app s.slots) old new tells root
    (c.roots_in_use.ensures.manifests old.image s.app root resting.root_at.memory (resting.root_at.disk tells))
    outside c.finish-made.ensures.written)
    made
    (record {
      root_at = c.finish-made.ensures.root s.app resting.below resting.root_at;
      refused = c.finish-made.ensures.refused;
      leads = λ tells. c.finish-made.ensures.app tells s.app resting.below resting.root_at;
      clean = λ tells. on_clean (IsCleanApp s.app old.image) (IsCleanApp s.app new.image) made
          (c.finish-made.ensures.clean tells s.app resting.below resting.root_at);
      quiet = c.finish-made.ensures.quiet;
      unchanged = c.finish-made.ensures.unchanged;
      cause = c.finish-made.ensures.cause;
      fed = λ bad. ap (λ d. (g.D.Disk.medium d).faults) (c.finish-made.ensures.memory bad);
      passes = c.finish-made.ensures.passes;
      device_only = c.finish-made.ensures.device_only;
      due = λ e is none. c.finish-made.ensures.due e is;
      calls = λ tells. calls_to told s.app (after (app_at old.image s.app) (finishing (app_at old.image s.app)))
          (IsNoRootSlot s.app) old new tells (λ f is. no_root s.app f resting.below is) outside
          (c.finish-made.ensures.any_moment tells s.app resting.below resting.root_at);
      time = c.finish-made.ensures.time;
    })
    (finish_kept told s.app old.image new.image root s.slots resting c.places_stand_apart.ensures.frame
    c.files_lie_apart.ensures.storage outside.at_the_end made c.finish-made.ensures.refused
    c.finish-made.ensures.says)
    c.conclude.new.self c.conclude.result c.conclude.ensures
