use Rattle.std.proofs.Common.{◌≡◌, [], ◌∷◌, ℕ, List, refl, subst, take}
use Rattle.disk_model.specs.Laws.{elapses_none}
use Rattle.deploy_laws.specs.Apps.{app_at}
use Rattle.deploy_rows.specs.Rows.{after, finishing}
use Rattle.deploy.specs.declared.roots.Outcome.{Outcome}
use Rattle.deploy.specs.Clauses.{IsNoRootSlot}
use Rattle.deploy.specs.Leaving.{lone_says}
use Rattle.deploy.specs.Roots.{root_texts}
use Rattle.deploy.specs.Written.{WritesRoot}
use Rattle.deploy.proofs.RootLens.{none_written}
use Rattle.deploy.proofs.RowsInUse.{led_answers, led_app, led_ok, led_says, led_stands, led_text, led_unchanged}
use Rattle.deploy.proofs.RowsInUse.{next_clean, not_refused, refused_answers, refused_app, refused_root, refused_says}
use Rattle.deploy.proofs.RowsInUse.{refused_text}
use Rattle.deploy.proofs.Still.{later_after, still_leaves, still_stands}
use Rattle.deploy.proofs.leaving.finish.Goals as goal

pub without_previous-requires : goal.without_previous-requires
without_previous-requires g c = (c.requires.root.0, c.requires.root.2.memory)

-- ---- the row refuses

pub returns-in-Err-clause-root : goal.returns-in-Err-clause-root
returns-in-Err-clause-root g c = λ app lt at. refused_root finishing c.args.root c.in-Err.refused
    c.in-Err.ensures.refused g.D.Disk.told (g.D.Disk.medium c.args.disk.now).image app at

pub returns-in-Err-clause-refused : goal.returns-in-Err-clause-refused
returns-in-Err-clause-refused g c = refused_answers finishing c.args.root c.in-Err.refused c.in-Err.ensures.refused

pub returns-in-Err-clause-due : goal.returns-in-Err-clause-due
returns-in-Err-clause-due g c = λ e is. refl

pub returns-in-Err-clause-says : goal.returns-in-Err-clause-says
returns-in-Err-clause-says g c = refused_says finishing c.args.root c.in-Err.refused c.in-Err.ensures.refused

pub returns-in-Err-clause-text : goal.returns-in-Err-clause-text
returns-in-Err-clause-text g c = refused_text finishing c.args.root c.in-Err.refused c.in-Err.ensures.refused
    (take 1 (root_texts c.args.root))

pub returns-in-Err-clause-app : goal.returns-in-Err-clause-app
returns-in-Err-clause-app g c = λ tells app lt at. refused_app finishing c.args.root c.in-Err.refused
    c.in-Err.ensures.refused
    c.rows_read_the_root.ensures.finish c.one_root.ensures.again c.roots_say.ensures.alone g.D.Disk.told
    (g.D.Disk.medium c.args.disk.now).image app at tells

pub returns-in-Err-clause-clean : goal.returns-in-Err-clause-clean
returns-in-Err-clause-clean g c = λ tells app lt at clean. clean

pub returns-in-Err-clause-quiet : goal.returns-in-Err-clause-quiet
returns-in-Err-clause-quiet g c = λ quiet. quiet

pub returns-in-Err-clause-unchanged : goal.returns-in-Err-clause-unchanged
returns-in-Err-clause-unchanged g c = λ some. (refl, c.in-Err.ensures.refused.same)

pub returns-in-Err-clause-early : goal.returns-in-Err-clause-early
returns-in-Err-clause-early g c = λ e is. refl

pub returns-in-Err-clause-cause : goal.returns-in-Err-clause-cause
returns-in-Err-clause-cause g c = λ err. absurd cc

pub returns-in-Err-clause-device_only : goal.returns-in-Err-clause-device_only
returns-in-Err-clause-device_only g c = λ err. absurd cc

pub returns-in-Err-clause-memory : goal.returns-in-Err-clause-memory
returns-in-Err-clause-memory g c = λ err. absurd cc

pub returns-in-Err-clause-passes : goal.returns-in-Err-clause-passes
returns-in-Err-clause-passes g c = refl

pub returns-in-Err-clause-outside : goal.returns-in-Err-clause-outside
returns-in-Err-clause-outside g c = λ app lt at. still_leaves g.D.Disk.told (g.D.Disk.medium c.args.disk.now)
    (g.met.D.Disk.lawful c.args.disk.now) (IsNoRootSlot app)

pub returns-in-Err-clause-any_moment : goal.returns-in-Err-clause-any_moment
returns-in-Err-clause-any_moment g c = λ tells app lt at.
    still_stands g.D.Disk.told (g.D.Disk.medium c.args.disk.now) (g.met.D.Disk.lawful c.args.disk.now)
    c.untouched_stands.ensures.still app lt
    (after (app_at (g.D.Disk.medium c.args.disk.now).image app)
    (finishing (app_at (g.D.Disk.medium c.args.disk.now).image app)))
    (later_after finishing c.rows_lead_on.ensures.finish (app_at (g.D.Disk.medium c.args.disk.now).image app))

pub returns-in-Err-clause-time : goal.returns-in-Err-clause-time
returns-in-Err-clause-time g c = elapses_none (g.met.D.Disk.lawful c.args.disk.now)

-- ---- the root is written

pub write-requires-clause-version : goal.write-requires-clause-version
write-requires-clause-version g c = c.in-Ok.ensures.lone.kept

pub write-requires-clause-bank : goal.write-requires-clause-bank
write-requires-clause-bank g c = c.in-Ok.ensures.lone.in_bank

pub write-requires-clause-generation : goal.write-requires-clause-generation
write-requires-clause-generation g c = c.in-Ok.ensures.lone.register.left

pub write-requires-clause-held : goal.write-requires-clause-held
write-requires-clause-held g c = λ tells. let at = c.requires.root in
    c.in-Ok.ensures.lone.register.held (g.D.Disk.medium c.args.disk.now).image at.0 (at.2.disk tells)

pub returns-in-Ok-clause-root : goal.returns-in-Ok-clause-root
returns-in-Ok-clause-root g c = λ app lt at. c.write.ensures.root app
    (c.in-Ok.ensures.lone.register.of_root app at.memory)

pub returns-in-Ok-clause-refused : goal.returns-in-Ok-clause-refused
returns-in-Ok-clause-refused g c = led_answers finishing (c.rows_read_the_root.ensures.finish)
    (c.rows_read_the_root.ensures.finished) c.args.root (lone_says c.in-Ok.lone) c.in-Ok.ensures.lone.leads
    c.write.result c.write.ensures.done

pub returns-in-Ok-clause-due : goal.returns-in-Ok-clause-due
returns-in-Ok-clause-due g c = λ e err. absurd (not_refused finishing (c.rows_read_the_root.ensures.finish)
    (c.rows_read_the_root.ensures.finished) c.args.root (lone_says c.in-Ok.lone) c.in-Ok.ensures.lone.leads e err)

pub returns-in-Ok-clause-says : goal.returns-in-Ok-clause-says
returns-in-Ok-clause-says g c = led_says finishing (c.rows_read_the_root.ensures.finish)
    (c.rows_read_the_root.ensures.finished) c.args.root (lone_says c.in-Ok.lone) c.in-Ok.ensures.lone.leads
    c.write.result c.write.ensures.says

pub returns-in-Ok-clause-text : goal.returns-in-Ok-clause-text
returns-in-Ok-clause-text g c = led_text c.write.result (c.in-Ok.lone.version.text ∷ [])
    (take 1 (root_texts c.args.root))
    c.write.ensures.text c.in-Ok.ensures.text

pub returns-in-Ok-clause-app : goal.returns-in-Ok-clause-app
returns-in-Ok-clause-app g c = λ tells app lt at. led_app finishing (c.rows_read_the_root.ensures.finish)
    (c.rows_read_the_root.ensures.finished) c.args.root (lone_says c.in-Ok.lone) c.in-Ok.ensures.lone.leads
    c.one_root.ensures.again c.roots_say.ensures.alone g.D.Disk.told (g.D.Disk.medium c.args.disk.now).image app at
    tells
    c.write.result (g.D.Disk.medium c.write.new.disk).image
    (c.write.ensures.app tells app lt (c.in-Ok.ensures.lone.register.of_root app at.memory))

pub returns-in-Ok-clause-clean : goal.returns-in-Ok-clause-clean
returns-in-Ok-clause-clean g c = λ tells app lt at clean.
    c.write.ensures.clean tells app lt (c.in-Ok.ensures.lone.register.of_root app at.memory)
    (next_clean finishing (c.rows_read_the_root.ensures.finish) (c.rows_read_the_root.ensures.finished) c.args.root
    (lone_says c.in-Ok.lone) c.in-Ok.ensures.lone.leads
    c.one_root.ensures.again c.roots_say.ensures.alone g.D.Disk.told (g.D.Disk.medium c.args.disk.now).image app at
    tells clean)

pub returns-in-Ok-clause-quiet : goal.returns-in-Ok-clause-quiet
returns-in-Ok-clause-quiet g c = λ quiet. c.write.ensures.quiet

pub returns-in-Ok-clause-unchanged : goal.returns-in-Ok-clause-unchanged
returns-in-Ok-clause-unchanged g c = led_unchanged finishing c.rows_read_the_root.ensures.finish
    c.rows_read_the_root.ensures.finished c.args.root (lone_says c.in-Ok.lone) c.in-Ok.ensures.lone.leads c.write.result
    (λ (o : Outcome). (c.write.new.disk ≡ c.args.disk.now) × (o.root ≡ c.args.root)) c.write.ensures.done

pub returns-in-Ok-clause-early : goal.returns-in-Ok-clause-early
returns-in-Ok-clause-early g c = λ e err. absurd (not_refused finishing (c.rows_read_the_root.ensures.finish)
    (c.rows_read_the_root.ensures.finished) c.args.root (lone_says c.in-Ok.lone) c.in-Ok.ensures.lone.leads e err)

pub returns-in-Ok-clause-cause : goal.returns-in-Ok-clause-cause
returns-in-Ok-clause-cause g c = c.write.ensures.cause

pub returns-in-Ok-clause-device_only : goal.returns-in-Ok-clause-device_only
returns-in-Ok-clause-device_only g c = λ failed. led_ok finishing (c.rows_read_the_root.ensures.finish)
    (c.rows_read_the_root.ensures.finished) c.args.root (lone_says c.in-Ok.lone) c.in-Ok.ensures.lone.leads

pub returns-in-Ok-clause-memory : goal.returns-in-Ok-clause-memory
returns-in-Ok-clause-memory g c = c.write.ensures.memory

pub returns-in-Ok-clause-passes : goal.returns-in-Ok-clause-passes
returns-in-Ok-clause-passes g c = c.write.ensures.passes

pub returns-in-Ok-clause-outside : goal.returns-in-Ok-clause-outside
returns-in-Ok-clause-outside g c = λ app lt at. c.write.ensures.outside app lt
    (c.in-Ok.ensures.lone.register.of_root app at.memory)

pub returns-in-Ok-clause-any_moment : goal.returns-in-Ok-clause-any_moment
returns-in-Ok-clause-any_moment g c = λ tells app lt at.
    led_stands finishing (c.rows_read_the_root.ensures.finish) (c.rows_read_the_root.ensures.finished) c.args.root
    (lone_says c.in-Ok.lone) c.in-Ok.ensures.lone.leads
    c.one_root.ensures.again c.roots_say.ensures.alone g.D.Disk.told app (g.D.Disk.medium c.args.disk.now)
    (g.D.Disk.medium c.write.new.disk) at tells
    (c.write.ensures.any_moment tells app lt (c.in-Ok.ensures.lone.register.of_root app at.memory))

pub returns-in-Ok-clause-time : goal.returns-in-Ok-clause-time
returns-in-Ok-clause-time g c = c.write.ensures.time

pub returns-in-Ok-clause-written : goal.returns-in-Ok-clause-written
returns-in-Ok-clause-written g c = subst (λ (ms : List (List ℕ)).
    WritesRoot ms (g.D.Disk.medium c.args.disk.now) (g.D.Disk.medium c.write.new.disk)) c.in-Ok.ensures.text
    (c.write.ensures.written c.requires.root.0
    (c.in-Ok.ensures.lone.register.of_root c.requires.root.0 c.requires.root.2.memory))

pub returns-in-Err-clause-written : goal.returns-in-Err-clause-written
returns-in-Err-clause-written g c = none_written _ _
