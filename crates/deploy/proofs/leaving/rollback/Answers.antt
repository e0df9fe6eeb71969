use Rattle.std.proofs.Common.{◌≡◌, [], ◌∷◌, ℕ, List, drop, option_map, refl, subst}
use Rattle.disk_model.specs.Laws.{elapses_none}
use Rattle.deploy_laws.specs.Apps.{app_at}
use Rattle.deploy_rows.specs.Rows.{after, rolling_back}
use Rattle.deploy.specs.declared.roots.Outcome.{Outcome}
use Rattle.deploy.specs.declared.leaving.Lone.{Lone}
use Rattle.deploy.specs.Clauses.{IsNoRootSlot}
use Rattle.deploy.specs.Leaving.{IsLone, IsRootRefused, lone_says}
use Rattle.deploy.specs.Roots.{root_texts}
use Rattle.deploy.specs.Written.{WritesRoot}
use Rattle.deploy.proofs.RootLens.{none_written}
use Rattle.deploy.proofs.RowsInUse.{err_of, led_answers, led_app, led_ok, led_says, led_stands, led_text, led_unchanged}
use Rattle.deploy.proofs.RowsInUse.{next_clean, not_refused, ok_of, refused_answers, refused_app, refused_root}
use Rattle.deploy.proofs.RowsInUse.{refused_says, refused_text}
use Rattle.deploy.proofs.Still.{later_after, still_leaves, still_stands}
use Rattle.deploy.proofs.leaving.rollback.Goals as goal

pub with_previous-requires : goal.with_previous-requires
with_previous-requires g c = (c.requires.root.0, c.requires.root.2.memory)

-- ---- no memory

pub returns-in_err-lone-clause-due : goal.returns-in_err-lone-clause-due
returns-in_err-lone-clause-due g c = λ e refusal either. let ok =
    c.in_err-lone.ensures.due e refusal either in absurd cc

pub returns-in_err-lone-clause-outside : goal.returns-in_err-lone-clause-outside
returns-in_err-lone-clause-outside g c = λ app lt at. still_leaves g.D.Disk.told (g.D.Disk.medium c.args.disk.now)
    (g.met.D.Disk.lawful c.args.disk.now) (IsNoRootSlot app)

pub returns-in_err-lone-clause-any_moment : goal.returns-in_err-lone-clause-any_moment
returns-in_err-lone-clause-any_moment g c = λ tells app lt at.
    still_stands g.D.Disk.told (g.D.Disk.medium c.args.disk.now) (g.met.D.Disk.lawful c.args.disk.now)
    c.untouched_stands.ensures.still app lt
    (after (app_at (g.D.Disk.medium c.args.disk.now).image app)
    (rolling_back (option_map (λ n. n.now) c.args.busy) (app_at (g.D.Disk.medium c.args.disk.now).image app)))
    (later_after (rolling_back (option_map (λ n. n.now) c.args.busy))
    (c.rows_lead_on.ensures.rollback (option_map (λ n. n.now) c.args.busy))
    (app_at (g.D.Disk.medium c.args.disk.now).image app))

pub returns-in_err-lone-clause-time : goal.returns-in_err-lone-clause-time
returns-in_err-lone-clause-time g c = elapses_none (g.met.D.Disk.lawful c.args.disk.now)

-- ---- the row refuses

pub returns-in-Err-clause-root : goal.returns-in-Err-clause-root
returns-in-Err-clause-root g c =
    let refused = err_of (IsRootRefused (rolling_back (option_map (λ n. n.now) c.args.busy)) c.args.root)
    c.in_ok-lone.field-0 c.in-Err.refused c.in-Err.is c.in_ok-lone.ensures.refused in
    λ app lt at. refused_root (rolling_back (option_map (λ n. n.now) c.args.busy)) c.args.root c.in-Err.refused refused
    g.D.Disk.told (g.D.Disk.medium c.args.disk.now).image app at

pub returns-in-Err-clause-refused : goal.returns-in-Err-clause-refused
returns-in-Err-clause-refused g c =
    let refused = err_of (IsRootRefused (rolling_back (option_map (λ n. n.now) c.args.busy)) c.args.root)
    c.in_ok-lone.field-0 c.in-Err.refused c.in-Err.is c.in_ok-lone.ensures.refused in
    refused_answers (rolling_back (option_map (λ n. n.now) c.args.busy)) c.args.root c.in-Err.refused refused

pub returns-in-Err-clause-says : goal.returns-in-Err-clause-says
returns-in-Err-clause-says g c =
    let refused = err_of (IsRootRefused (rolling_back (option_map (λ n. n.now) c.args.busy)) c.args.root)
    c.in_ok-lone.field-0 c.in-Err.refused c.in-Err.is c.in_ok-lone.ensures.refused in
    refused_says (rolling_back (option_map (λ n. n.now) c.args.busy)) c.args.root c.in-Err.refused refused

pub returns-in-Err-clause-text : goal.returns-in-Err-clause-text
returns-in-Err-clause-text g c =
    let refused = err_of (IsRootRefused (rolling_back (option_map (λ n. n.now) c.args.busy)) c.args.root)
    c.in_ok-lone.field-0 c.in-Err.refused c.in-Err.is c.in_ok-lone.ensures.refused in
    refused_text (rolling_back (option_map (λ n. n.now) c.args.busy)) c.args.root c.in-Err.refused refused
    (drop 1 (root_texts c.args.root))

pub returns-in-Err-clause-app : goal.returns-in-Err-clause-app
returns-in-Err-clause-app g c =
    let refused = err_of (IsRootRefused (rolling_back (option_map (λ n. n.now) c.args.busy)) c.args.root)
    c.in_ok-lone.field-0 c.in-Err.refused c.in-Err.is c.in_ok-lone.ensures.refused in
    λ tells app lt at. refused_app (rolling_back (option_map (λ n. n.now) c.args.busy)) c.args.root c.in-Err.refused
    refused (c.rows_read_the_root.ensures.rollback (option_map (λ n. n.now) c.args.busy)) c.one_root.ensures.again
    c.roots_say.ensures.alone g.D.Disk.told (g.D.Disk.medium c.args.disk.now).image app at tells

pub returns-in-Err-clause-unchanged : goal.returns-in-Err-clause-unchanged
returns-in-Err-clause-unchanged g c =
    let refused = err_of (IsRootRefused (rolling_back (option_map (λ n. n.now) c.args.busy)) c.args.root)
    c.in_ok-lone.field-0 c.in-Err.refused c.in-Err.is c.in_ok-lone.ensures.refused in
    λ some. (refl, refused.same)

pub returns-in-Err-clause-outside : goal.returns-in-Err-clause-outside
returns-in-Err-clause-outside g c = λ app lt at. still_leaves g.D.Disk.told (g.D.Disk.medium c.args.disk.now)
    (g.met.D.Disk.lawful c.args.disk.now) (IsNoRootSlot app)

pub returns-in-Err-clause-any_moment : goal.returns-in-Err-clause-any_moment
returns-in-Err-clause-any_moment g c = λ tells app lt at.
    still_stands g.D.Disk.told (g.D.Disk.medium c.args.disk.now) (g.met.D.Disk.lawful c.args.disk.now)
    c.untouched_stands.ensures.still app lt
    (after (app_at (g.D.Disk.medium c.args.disk.now).image app)
    (rolling_back (option_map (λ n. n.now) c.args.busy) (app_at (g.D.Disk.medium c.args.disk.now).image app)))
    (later_after (rolling_back (option_map (λ n. n.now) c.args.busy))
    (c.rows_lead_on.ensures.rollback (option_map (λ n. n.now) c.args.busy))
    (app_at (g.D.Disk.medium c.args.disk.now).image app))

pub returns-in-Err-clause-time : goal.returns-in-Err-clause-time
returns-in-Err-clause-time g c = elapses_none (g.met.D.Disk.lawful c.args.disk.now)

-- ---- the root is written

pub write-requires-clause-version : goal.write-requires-clause-version
write-requires-clause-version g c =
    let lone = ok_of (IsLone (rolling_back (option_map (λ n. n.now) c.args.busy)) c.args.root) c.in_ok-lone.field-0
    c.in-Ok.lone c.in-Ok.is c.in_ok-lone.ensures.lone in
    lone.kept

pub write-requires-clause-bank : goal.write-requires-clause-bank
write-requires-clause-bank g c =
    let lone = ok_of (IsLone (rolling_back (option_map (λ n. n.now) c.args.busy)) c.args.root) c.in_ok-lone.field-0
    c.in-Ok.lone c.in-Ok.is c.in_ok-lone.ensures.lone in
    lone.in_bank

pub write-requires-clause-generation : goal.write-requires-clause-generation
write-requires-clause-generation g c =
    let lone = ok_of (IsLone (rolling_back (option_map (λ n. n.now) c.args.busy)) c.args.root) c.in_ok-lone.field-0
    c.in-Ok.lone c.in-Ok.is c.in_ok-lone.ensures.lone in
    lone.register.left

pub write-requires-clause-held : goal.write-requires-clause-held
write-requires-clause-held g c =
    let lone = ok_of (IsLone (rolling_back (option_map (λ n. n.now) c.args.busy)) c.args.root) c.in_ok-lone.field-0
    c.in-Ok.lone c.in-Ok.is c.in_ok-lone.ensures.lone in
    let at = c.requires.root in
    λ tells. lone.register.held (g.D.Disk.medium c.args.disk.now).image at.0 (at.2.disk tells)

pub returns-in-Ok-clause-root : goal.returns-in-Ok-clause-root
returns-in-Ok-clause-root g c =
    let lone = ok_of (IsLone (rolling_back (option_map (λ n. n.now) c.args.busy)) c.args.root) c.in_ok-lone.field-0
    c.in-Ok.lone c.in-Ok.is c.in_ok-lone.ensures.lone in
    λ app lt at. c.write.ensures.root app (lone.register.of_root app at.memory)

pub returns-in-Ok-clause-refused : goal.returns-in-Ok-clause-refused
returns-in-Ok-clause-refused g c =
    let lone = ok_of (IsLone (rolling_back (option_map (λ n. n.now) c.args.busy)) c.args.root) c.in_ok-lone.field-0
    c.in-Ok.lone c.in-Ok.is c.in_ok-lone.ensures.lone in
    led_answers (rolling_back (option_map (λ n. n.now) c.args.busy))
    (c.rows_read_the_root.ensures.rollback (option_map (λ n. n.now) c.args.busy))
    (c.rows_read_the_root.ensures.rolled_back (option_map (λ n. n.now) c.args.busy)) c.args.root
    (lone_says c.in-Ok.lone) lone.leads c.write.result c.write.ensures.done

pub returns-in-Ok-clause-says : goal.returns-in-Ok-clause-says
returns-in-Ok-clause-says g c =
    let lone = ok_of (IsLone (rolling_back (option_map (λ n. n.now) c.args.busy)) c.args.root) c.in_ok-lone.field-0
    c.in-Ok.lone c.in-Ok.is c.in_ok-lone.ensures.lone in
    led_says (rolling_back (option_map (λ n. n.now) c.args.busy))
    (c.rows_read_the_root.ensures.rollback (option_map (λ n. n.now) c.args.busy))
    (c.rows_read_the_root.ensures.rolled_back (option_map (λ n. n.now) c.args.busy)) c.args.root
    (lone_says c.in-Ok.lone) lone.leads c.write.result c.write.ensures.says

pub returns-in-Ok-clause-text : goal.returns-in-Ok-clause-text
returns-in-Ok-clause-text g c =
    let texts = drop 1 (root_texts c.args.root) in
    let previous = ok_of (λ (l : Lone). l.version.text ∷ [] ≡ texts) c.in_ok-lone.field-0 c.in-Ok.lone c.in-Ok.is
    c.in_ok-lone.ensures.text in
    led_text c.write.result (c.in-Ok.lone.version.text ∷ []) texts c.write.ensures.text previous

pub returns-in-Ok-clause-app : goal.returns-in-Ok-clause-app
returns-in-Ok-clause-app g c =
    let lone = ok_of (IsLone (rolling_back (option_map (λ n. n.now) c.args.busy)) c.args.root) c.in_ok-lone.field-0
    c.in-Ok.lone c.in-Ok.is c.in_ok-lone.ensures.lone in
    λ tells app lt at. led_app (rolling_back (option_map (λ n. n.now) c.args.busy))
    (c.rows_read_the_root.ensures.rollback (option_map (λ n. n.now) c.args.busy))
    (c.rows_read_the_root.ensures.rolled_back (option_map (λ n. n.now) c.args.busy)) c.args.root
    (lone_says c.in-Ok.lone) lone.leads
    c.one_root.ensures.again c.roots_say.ensures.alone g.D.Disk.told (g.D.Disk.medium c.args.disk.now).image app at
    tells
    c.write.result (g.D.Disk.medium c.write.new.disk).image
    (c.write.ensures.app tells app lt (lone.register.of_root app at.memory))

pub returns-in-Ok-clause-clean : goal.returns-in-Ok-clause-clean
returns-in-Ok-clause-clean g c =
    let lone = ok_of (IsLone (rolling_back (option_map (λ n. n.now) c.args.busy)) c.args.root) c.in_ok-lone.field-0
    c.in-Ok.lone c.in-Ok.is c.in_ok-lone.ensures.lone in
    λ tells app lt at clean. c.write.ensures.clean tells app lt (lone.register.of_root app at.memory)
    (next_clean (rolling_back (option_map (λ n. n.now) c.args.busy))
    (c.rows_read_the_root.ensures.rollback (option_map (λ n. n.now) c.args.busy))
    (c.rows_read_the_root.ensures.rolled_back (option_map (λ n. n.now) c.args.busy)) c.args.root
    (lone_says c.in-Ok.lone) lone.leads
    c.one_root.ensures.again c.roots_say.ensures.alone g.D.Disk.told (g.D.Disk.medium c.args.disk.now).image app at
    tells clean)

pub returns-in-Ok-clause-quiet : goal.returns-in-Ok-clause-quiet
returns-in-Ok-clause-quiet g c = λ quiet. c.write.ensures.quiet

pub returns-in-Ok-clause-unchanged : goal.returns-in-Ok-clause-unchanged
returns-in-Ok-clause-unchanged g c =
    let lone = ok_of (IsLone (rolling_back (option_map (λ n. n.now) c.args.busy)) c.args.root) c.in_ok-lone.field-0
    c.in-Ok.lone c.in-Ok.is c.in_ok-lone.ensures.lone in
    led_unchanged (rolling_back (option_map (λ n. n.now) c.args.busy))
    (c.rows_read_the_root.ensures.rollback (option_map (λ n. n.now) c.args.busy))
    (c.rows_read_the_root.ensures.rolled_back (option_map (λ n. n.now) c.args.busy)) c.args.root
    (lone_says c.in-Ok.lone) lone.leads c.write.result
    (λ (o : Outcome). (c.write.new.disk ≡ c.args.disk.now) × (o.root ≡ c.args.root)) c.write.ensures.done

pub returns-in-Ok-clause-early : goal.returns-in-Ok-clause-early
returns-in-Ok-clause-early g c =
    let lone = ok_of (IsLone (rolling_back (option_map (λ n. n.now) c.args.busy)) c.args.root) c.in_ok-lone.field-0
    c.in-Ok.lone c.in-Ok.is c.in_ok-lone.ensures.lone in
    λ e err. absurd (not_refused (rolling_back (option_map (λ n. n.now) c.args.busy))
    (c.rows_read_the_root.ensures.rollback (option_map (λ n. n.now) c.args.busy))
    (c.rows_read_the_root.ensures.rolled_back (option_map (λ n. n.now) c.args.busy)) c.args.root
    (lone_says c.in-Ok.lone) lone.leads e err)

pub returns-in-Ok-clause-cause : goal.returns-in-Ok-clause-cause
returns-in-Ok-clause-cause g c = c.write.ensures.cause

pub returns-in-Ok-clause-device_only : goal.returns-in-Ok-clause-device_only
returns-in-Ok-clause-device_only g c =
    let lone = ok_of (IsLone (rolling_back (option_map (λ n. n.now) c.args.busy)) c.args.root) c.in_ok-lone.field-0
    c.in-Ok.lone c.in-Ok.is c.in_ok-lone.ensures.lone in
    λ failed. led_ok (rolling_back (option_map (λ n. n.now) c.args.busy))
    (c.rows_read_the_root.ensures.rollback (option_map (λ n. n.now) c.args.busy))
    (c.rows_read_the_root.ensures.rolled_back (option_map (λ n. n.now) c.args.busy)) c.args.root
    (lone_says c.in-Ok.lone) lone.leads

pub returns-in-Ok-clause-memory : goal.returns-in-Ok-clause-memory
returns-in-Ok-clause-memory g c = c.write.ensures.memory

pub returns-in-Ok-clause-passes : goal.returns-in-Ok-clause-passes
returns-in-Ok-clause-passes g c = c.write.ensures.passes

pub returns-in-Ok-clause-outside : goal.returns-in-Ok-clause-outside
returns-in-Ok-clause-outside g c =
    let lone = ok_of (IsLone (rolling_back (option_map (λ n. n.now) c.args.busy)) c.args.root) c.in_ok-lone.field-0
    c.in-Ok.lone c.in-Ok.is c.in_ok-lone.ensures.lone in
    λ app lt at. c.write.ensures.outside app lt (lone.register.of_root app at.memory)

pub returns-in-Ok-clause-any_moment : goal.returns-in-Ok-clause-any_moment
returns-in-Ok-clause-any_moment g c =
    let lone = ok_of (IsLone (rolling_back (option_map (λ n. n.now) c.args.busy)) c.args.root) c.in_ok-lone.field-0
    c.in-Ok.lone c.in-Ok.is c.in_ok-lone.ensures.lone in
    λ tells app lt at. led_stands (rolling_back (option_map (λ n. n.now) c.args.busy))
    (c.rows_read_the_root.ensures.rollback (option_map (λ n. n.now) c.args.busy))
    (c.rows_read_the_root.ensures.rolled_back (option_map (λ n. n.now) c.args.busy)) c.args.root
    (lone_says c.in-Ok.lone) lone.leads
    c.one_root.ensures.again c.roots_say.ensures.alone g.D.Disk.told app (g.D.Disk.medium c.args.disk.now)
    (g.D.Disk.medium c.write.new.disk) at tells
    (c.write.ensures.any_moment tells app lt (lone.register.of_root app at.memory))

pub returns-in-Ok-clause-time : goal.returns-in-Ok-clause-time
returns-in-Ok-clause-time g c = c.write.ensures.time

pub returns-in-Ok-clause-written : goal.returns-in-Ok-clause-written
returns-in-Ok-clause-written g c =
    let texts = drop 1 (root_texts c.args.root) in
    let previous = ok_of (λ (l : Lone). l.version.text ∷ [] ≡ texts) c.in_ok-lone.field-0 c.in-Ok.lone c.in-Ok.is
    c.in_ok-lone.ensures.text in
    let lone = ok_of (IsLone (rolling_back (option_map (λ n. n.now) c.args.busy)) c.args.root) c.in_ok-lone.field-0
    c.in-Ok.lone c.in-Ok.is c.in_ok-lone.ensures.lone in
    subst (λ (ms : List (List ℕ)). WritesRoot ms (g.D.Disk.medium c.args.disk.now) (g.D.Disk.medium c.write.new.disk))
    previous
    (c.write.ensures.written c.requires.root.0 (lone.register.of_root c.requires.root.0 c.requires.root.2.memory))

pub returns-in-Err-clause-written : goal.returns-in-Err-clause-written
returns-in-Err-clause-written g c = none_written _ _

pub returns-in_err-lone-clause-written : goal.returns-in_err-lone-clause-written
returns-in_err-lone-clause-written g c = none_written _ _
