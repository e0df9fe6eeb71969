use Rattle.std.proofs.Common.{◌≡◌, ◌⊎◌, None, ⊎_elim, option_map, refl}
use Rattle.disk_model.specs.Laws.{elapses_none}
use Rattle.deploy_laws.specs.Apps.{IsCleanApp, app_at}
use Rattle.deploy_rows.specs.Rows.{after, wiping}
use Rattle.deploy.specs.declared.roots.Outcome.{Outcome}
use Rattle.deploy.specs.Clauses.{IsNoRootSlot}
use Rattle.deploy.specs.Leaving.{IsEmptied, IsRootRefused, empty_says}
use Rattle.deploy.proofs.RootLens.{bad_alone, none_written}
use Rattle.deploy.proofs.RowsInUse.{err_of, if_ok, led_answers, led_app, led_ok, led_says, led_stands, led_unchanged}
use Rattle.deploy.proofs.RowsInUse.{not_refused, ok_of, refused_answers, refused_app, refused_root, refused_says}
use Rattle.deploy.proofs.RowsInUse.{refused_some, register_at}
use Rattle.deploy.proofs.Still.{later_after, still_leaves, still_stands}
use Rattle.deploy.proofs.wiping.wipe.Goals as goal

-- ---- no memory

pub returns-in_err-register-clause-outside : goal.returns-in_err-register-clause-outside
returns-in_err-register-clause-outside g c = still_leaves g.D.Disk.told (g.D.Disk.medium c.args.disk.now)
    (g.met.D.Disk.lawful c.args.disk.now) (IsNoRootSlot c.args.app)

pub returns-in_err-register-clause-any_moment : goal.returns-in_err-register-clause-any_moment
returns-in_err-register-clause-any_moment g c = λ tells.
    still_stands g.D.Disk.told (g.D.Disk.medium c.args.disk.now) (g.met.D.Disk.lawful c.args.disk.now)
    c.untouched_stands.ensures.still c.args.app c.requires.app
    (after (app_at (g.D.Disk.medium c.args.disk.now).image c.args.app)
    (wiping (option_map (λ n. n.now) c.args.busy) (app_at (g.D.Disk.medium c.args.disk.now).image c.args.app)))
    (later_after (wiping (option_map (λ n. n.now) c.args.busy))
    (c.rows_lead_on.ensures.wipe (option_map (λ n. n.now) c.args.busy))
    (app_at (g.D.Disk.medium c.args.disk.now).image c.args.app))

pub returns-in_err-register-clause-time : goal.returns-in_err-register-clause-time
returns-in_err-register-clause-time g c = elapses_none (g.met.D.Disk.lawful c.args.disk.now)

-- ---- the row refuses

pub returns-in-Err-clause-root : goal.returns-in-Err-clause-root
returns-in-Err-clause-root g c =
    let refused = err_of (IsRootRefused (wiping (option_map (λ n. n.now) c.args.busy)) c.args.root)
    c.in_ok-register.field-0
    c.in-Err.refused c.in-Err.is c.in_ok-register.ensures.refused in
    refused_root (wiping (option_map (λ n. n.now) c.args.busy)) c.args.root c.in-Err.refused refused g.D.Disk.told
    (g.D.Disk.medium c.args.disk.now).image c.args.app c.requires.root

pub returns-in-Err-clause-refused : goal.returns-in-Err-clause-refused
returns-in-Err-clause-refused g c =
    let refused = err_of (IsRootRefused (wiping (option_map (λ n. n.now) c.args.busy)) c.args.root)
    c.in_ok-register.field-0
    c.in-Err.refused c.in-Err.is c.in_ok-register.ensures.refused in
    refused_answers (wiping (option_map (λ n. n.now) c.args.busy)) c.args.root c.in-Err.refused refused

pub returns-in-Err-clause-says : goal.returns-in-Err-clause-says
returns-in-Err-clause-says g c =
    let refused = err_of (IsRootRefused (wiping (option_map (λ n. n.now) c.args.busy)) c.args.root)
    c.in_ok-register.field-0
    c.in-Err.refused c.in-Err.is c.in_ok-register.ensures.refused in
    refused_says (wiping (option_map (λ n. n.now) c.args.busy)) c.args.root c.in-Err.refused refused

pub returns-in-Err-clause-app : goal.returns-in-Err-clause-app
returns-in-Err-clause-app g c =
    let refused = err_of (IsRootRefused (wiping (option_map (λ n. n.now) c.args.busy)) c.args.root)
    c.in_ok-register.field-0
    c.in-Err.refused c.in-Err.is c.in_ok-register.ensures.refused in
    λ tells. refused_app (wiping (option_map (λ n. n.now) c.args.busy)) c.args.root c.in-Err.refused refused
    (c.rows_read_the_root.ensures.wipe (option_map (λ n. n.now) c.args.busy)) c.one_root.ensures.again
    c.roots_say.ensures.alone g.D.Disk.told (g.D.Disk.medium c.args.disk.now).image c.args.app c.requires.root tells

pub returns-in-Err-clause-clean : goal.returns-in-Err-clause-clean
returns-in-Err-clause-clean g c =
    let refused = err_of (IsRootRefused (wiping (option_map (λ n. n.now) c.args.busy)) c.args.root)
    c.in_ok-register.field-0
    c.in-Err.refused c.in-Err.is c.in_ok-register.ensures.refused in
    λ tells either. ⊎_elim (λ none. absurd (refused_some (wiping (option_map (λ n. n.now) c.args.busy)) c.args.root
    c.in-Err.refused refused none)) (λ clean. clean) either

pub returns-in-Err-clause-unchanged : goal.returns-in-Err-clause-unchanged
returns-in-Err-clause-unchanged g c =
    let refused = err_of (IsRootRefused (wiping (option_map (λ n. n.now) c.args.busy)) c.args.root)
    c.in_ok-register.field-0
    c.in-Err.refused c.in-Err.is c.in_ok-register.ensures.refused in
    λ some. (refl, refused.same)

pub returns-in-Err-clause-outside : goal.returns-in-Err-clause-outside
returns-in-Err-clause-outside g c = still_leaves g.D.Disk.told (g.D.Disk.medium c.args.disk.now)
    (g.met.D.Disk.lawful c.args.disk.now) (IsNoRootSlot c.args.app)

pub returns-in-Err-clause-any_moment : goal.returns-in-Err-clause-any_moment
returns-in-Err-clause-any_moment g c = λ tells. still_stands g.D.Disk.told (g.D.Disk.medium c.args.disk.now)
    (g.met.D.Disk.lawful c.args.disk.now) c.untouched_stands.ensures.still c.args.app c.requires.app
    (after (app_at (g.D.Disk.medium c.args.disk.now).image c.args.app)
    (wiping (option_map (λ n. n.now) c.args.busy) (app_at (g.D.Disk.medium c.args.disk.now).image c.args.app)))
    (later_after (wiping (option_map (λ n. n.now) c.args.busy))
    (c.rows_lead_on.ensures.wipe (option_map (λ n. n.now) c.args.busy))
    (app_at (g.D.Disk.medium c.args.disk.now).image c.args.app))

pub returns-in-Err-clause-time : goal.returns-in-Err-clause-time
returns-in-Err-clause-time g c = elapses_none (g.met.D.Disk.lawful c.args.disk.now)

-- ---- the root is written

pub empty-requires-clause-register : goal.empty-requires-clause-register
empty-requires-clause-register g c =
    let emptied = ok_of (IsEmptied (wiping (option_map (λ n. n.now) c.args.busy)) c.args.root) c.in_ok-register.field-0
    c.in-Ok.register c.in-Ok.is c.in_ok-register.ensures.emptied in
    register_at c.one_root.ensures.again c.roots_say.ensures.alone g.D.Disk.told (g.D.Disk.medium c.args.disk.now).image
    c.args.app c.args.root c.in-Ok.register c.requires.root emptied.register

pub returns-in-Ok-clause-root : goal.returns-in-Ok-clause-root
returns-in-Ok-clause-root g c = c.empty.ensures.root

pub returns-in-Ok-clause-refused : goal.returns-in-Ok-clause-refused
returns-in-Ok-clause-refused g c =
    let emptied = ok_of (IsEmptied (wiping (option_map (λ n. n.now) c.args.busy)) c.args.root) c.in_ok-register.field-0
    c.in-Ok.register c.in-Ok.is c.in_ok-register.ensures.emptied in
    led_answers (wiping (option_map (λ n. n.now) c.args.busy))
    (c.rows_read_the_root.ensures.wipe (option_map (λ n. n.now) c.args.busy))
    (c.rows_read_the_root.ensures.wiped (option_map (λ n. n.now) c.args.busy)) c.args.root
    (empty_says c.in-Ok.register) emptied.leads c.empty.result c.empty.ensures.done

pub returns-in-Ok-clause-says : goal.returns-in-Ok-clause-says
returns-in-Ok-clause-says g c =
    let emptied = ok_of (IsEmptied (wiping (option_map (λ n. n.now) c.args.busy)) c.args.root) c.in_ok-register.field-0
    c.in-Ok.register c.in-Ok.is c.in_ok-register.ensures.emptied in
    led_says (wiping (option_map (λ n. n.now) c.args.busy))
    (c.rows_read_the_root.ensures.wipe (option_map (λ n. n.now) c.args.busy))
    (c.rows_read_the_root.ensures.wiped (option_map (λ n. n.now) c.args.busy)) c.args.root
    (empty_says c.in-Ok.register) emptied.leads c.empty.result c.empty.ensures.says

pub returns-in-Ok-clause-app : goal.returns-in-Ok-clause-app
returns-in-Ok-clause-app g c =
    let emptied = ok_of (IsEmptied (wiping (option_map (λ n. n.now) c.args.busy)) c.args.root) c.in_ok-register.field-0
    c.in-Ok.register c.in-Ok.is c.in_ok-register.ensures.emptied in
    λ tells. led_app (wiping (option_map (λ n. n.now) c.args.busy))
    (c.rows_read_the_root.ensures.wipe (option_map (λ n. n.now) c.args.busy))
    (c.rows_read_the_root.ensures.wiped (option_map (λ n. n.now) c.args.busy)) c.args.root
    (empty_says c.in-Ok.register) emptied.leads
    c.one_root.ensures.again c.roots_say.ensures.alone g.D.Disk.told (g.D.Disk.medium c.args.disk.now).image c.args.app
    c.requires.root tells
    c.empty.result (g.D.Disk.medium c.empty.new.disk).image (c.empty.ensures.app tells)

pub returns-in-Ok-clause-clean : goal.returns-in-Ok-clause-clean
returns-in-Ok-clause-clean g c = λ tells. if_ok (λ (o : Outcome).
    IsCleanApp c.args.app (g.D.Disk.medium c.empty.new.disk).image)
    (λ (o : Outcome). (o.refused ≡ None) ⊎ IsCleanApp c.args.app (g.D.Disk.medium c.args.disk.now).image
    → IsCleanApp c.args.app (g.D.Disk.medium c.empty.new.disk).image)
    c.empty.result (λ o clean either. clean) (c.empty.ensures.clean tells)

pub returns-in-Ok-clause-quiet : goal.returns-in-Ok-clause-quiet
returns-in-Ok-clause-quiet g c = λ quiet. c.empty.ensures.quiet

pub returns-in-Ok-clause-unchanged : goal.returns-in-Ok-clause-unchanged
returns-in-Ok-clause-unchanged g c =
    let emptied = ok_of (IsEmptied (wiping (option_map (λ n. n.now) c.args.busy)) c.args.root) c.in_ok-register.field-0
    c.in-Ok.register c.in-Ok.is c.in_ok-register.ensures.emptied in
    led_unchanged (wiping (option_map (λ n. n.now) c.args.busy))
    (c.rows_read_the_root.ensures.wipe (option_map (λ n. n.now) c.args.busy))
    (c.rows_read_the_root.ensures.wiped (option_map (λ n. n.now) c.args.busy)) c.args.root
    (empty_says c.in-Ok.register) emptied.leads c.empty.result
    (λ (o : Outcome). (c.empty.new.disk ≡ c.args.disk.now) × (o.root ≡ c.args.root)) c.empty.ensures.done

pub returns-in-Ok-clause-early : goal.returns-in-Ok-clause-early
returns-in-Ok-clause-early g c =
    let emptied = ok_of (IsEmptied (wiping (option_map (λ n. n.now) c.args.busy)) c.args.root) c.in_ok-register.field-0
    c.in-Ok.register c.in-Ok.is c.in_ok-register.ensures.emptied in
    λ e err. absurd (not_refused (wiping (option_map (λ n. n.now) c.args.busy))
    (c.rows_read_the_root.ensures.wipe (option_map (λ n. n.now) c.args.busy))
    (c.rows_read_the_root.ensures.wiped (option_map (λ n. n.now) c.args.busy)) c.args.root
    (empty_says c.in-Ok.register) emptied.leads e err)

pub returns-in-Ok-clause-cause : goal.returns-in-Ok-clause-cause
returns-in-Ok-clause-cause g c = c.empty.ensures.cause

pub returns-in-Ok-clause-device_only : goal.returns-in-Ok-clause-device_only
returns-in-Ok-clause-device_only g c =
    let emptied = ok_of (IsEmptied (wiping (option_map (λ n. n.now) c.args.busy)) c.args.root) c.in_ok-register.field-0
    c.in-Ok.register c.in-Ok.is c.in_ok-register.ensures.emptied in
    λ failed. led_ok (wiping (option_map (λ n. n.now) c.args.busy))
    (c.rows_read_the_root.ensures.wipe (option_map (λ n. n.now) c.args.busy))
    (c.rows_read_the_root.ensures.wiped (option_map (λ n. n.now) c.args.busy)) c.args.root
    (empty_says c.in-Ok.register) emptied.leads

pub returns-in-Ok-clause-memory : goal.returns-in-Ok-clause-memory
returns-in-Ok-clause-memory g c = c.empty.ensures.memory

pub returns-in-Ok-clause-passes : goal.returns-in-Ok-clause-passes
returns-in-Ok-clause-passes g c = c.empty.ensures.passes

pub returns-in-Ok-clause-outside : goal.returns-in-Ok-clause-outside
returns-in-Ok-clause-outside g c = c.empty.ensures.outside

pub returns-in-Ok-clause-any_moment : goal.returns-in-Ok-clause-any_moment
returns-in-Ok-clause-any_moment g c =
    let emptied = ok_of (IsEmptied (wiping (option_map (λ n. n.now) c.args.busy)) c.args.root) c.in_ok-register.field-0
    c.in-Ok.register c.in-Ok.is c.in_ok-register.ensures.emptied in
    λ tells. led_stands (wiping (option_map (λ n. n.now) c.args.busy))
    (c.rows_read_the_root.ensures.wipe (option_map (λ n. n.now) c.args.busy))
    (c.rows_read_the_root.ensures.wiped (option_map (λ n. n.now) c.args.busy)) c.args.root
    (empty_says c.in-Ok.register) emptied.leads
    c.one_root.ensures.again c.roots_say.ensures.alone g.D.Disk.told c.args.app (g.D.Disk.medium c.args.disk.now)
    (g.D.Disk.medium c.empty.new.disk) c.requires.root tells
    (λ were. c.empty.ensures.any_moment tells)

pub returns-in-Ok-clause-time : goal.returns-in-Ok-clause-time
returns-in-Ok-clause-time g c = c.empty.ensures.time

pub returns-in_err-register-clause-written : goal.returns-in_err-register-clause-written
returns-in_err-register-clause-written g c = λ good. none_written _ _

pub returns-in_err-register-clause-at_most : goal.returns-in_err-register-clause-at_most
returns-in_err-register-clause-at_most g c = none_written _ _

pub returns-in-Err-clause-written : goal.returns-in-Err-clause-written
returns-in-Err-clause-written g c = λ good. none_written _ _

pub returns-in-Err-clause-at_most : goal.returns-in-Err-clause-at_most
returns-in-Err-clause-at_most g c = none_written _ _

pub returns-in-Ok-clause-written : goal.returns-in-Ok-clause-written
returns-in-Ok-clause-written g c =
    let emptied = ok_of (IsEmptied (wiping (option_map (λ n. n.now) c.args.busy)) c.args.root) c.in_ok-register.field-0
    c.in-Ok.register c.in-Ok.is c.in_ok-register.ensures.emptied in
    λ good. c.empty.ensures.written (λ none. good (bad_alone c.args.root c.in-Ok.register emptied.register none))

pub returns-in-Ok-clause-at_most : goal.returns-in-Ok-clause-at_most
returns-in-Ok-clause-at_most g c = c.empty.ensures.at_most
