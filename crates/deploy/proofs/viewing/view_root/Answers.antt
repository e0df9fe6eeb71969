use Rattle.std.proofs.Common.{Some, sym, ap, ◌∙◌, subst}
use Rattle.root_text.specs.Views.{root_said}
use Rattle.deploy_laws.specs.Apps.{says_by}
use Rattle.deploy.specs.Views.{RootSeen, ShowsVersions}
use Rattle.deploy.proofs.Found.{app_lacks, bad_seen, found_says, found_stands, is_first, is_spelled, no_first}
use Rattle.deploy.proofs.Found.{none_says, others, root_is_seen, shows_versions, texts_at}
use Rattle.deploy.proofs.viewing.view_root.Goals as goal

pub returns-in_default-clause-view : goal.returns-in_default-clause-view
returns-in_default-clause-view g c = λ tells.
    let old = (g.D.Disk.medium c.args.disk.now).image in
    bad_seen old c.args.app (none_says c.held_is_lawful.ensures.among old c.args.app
    (no_first (texts_at old c.args.app) c.in_ok-standing.field-0 c.in_default.is
    (c.in_ok-standing.ensures.among tells)))

pub returns-clause-view : goal.returns-clause-view
returns-clause-view g c = λ tells.
    let old = (g.D.Disk.medium c.args.disk.now).image in
    let s = c.in-Some.standing in
    let first = is_first (texts_at old c.args.app) c.in_ok-standing.field-0 s c.in-Some.is
    (c.in_ok-standing.ensures.among tells) in
    let says = found_says c.held_is_lawful.ensures.among old c.args.app s first in
    c.of.ensures s.seen.generation
    ∙ root_is_seen old c.args.app (says_by s.seen.generation (Some (root_said s.says))) c.in_ok-lacking.lacking
    s.sole says
    (c.in_ok-lacking.ensures ∙ ap others c.as_slice.ensures
    ∙ sym (app_lacks c.held_is_lawful.ensures.standing old c.args.app s.seen
    (found_stands c.held_is_lawful.ensures.among old c.args.app s first) (root_said s.says) says))
    first.sole

pub returns-clause-versions : goal.returns-clause-versions
returns-clause-versions g c =
    let s = c.in-Some.standing in
    let spelled = is_spelled c.in_ok-standing.field-0 s c.in-Some.is c.in_ok-standing.ensures.spelled in
    subst (λ (seen : RootSeen). ShowsVersions seen) (sym (c.of.ensures s.seen.generation))
    (shows_versions c.said_is_kept.ensures.keeps (root_said s.says) spelled.rules s.seen.generation
    c.in_ok-lacking.lacking s.sole)
