use Rattle.std.proofs.Common.{refl, sym}
use Rattle.deploy.proofs.Found.{found_says, found_stands, is_first, is_spelled, no_first, none_says, texts_at}
use Rattle.deploy.proofs.viewing.view_versions.Goals as goal

pub returns-in_default-clause-says : goal.returns-in_default-clause-says
returns-in_default-clause-says g c = λ tells.
    let old = (g.D.Disk.medium c.args.disk.now).image in
    sym (none_says c.held_is_lawful.ensures.among old c.args.app
    (no_first (texts_at old c.args.app) c.in_ok-standing.field-0 c.in_default.is
    (c.in_ok-standing.ensures.among tells)))

pub returns-clause-says : goal.returns-clause-says
returns-clause-says g c = λ tells.
    let old = (g.D.Disk.medium c.args.disk.now).image in
    let s = c.in-Some.standing in
    let first = is_first (texts_at old c.args.app) c.in_ok-standing.field-0 s c.in-Some.is
    (c.in_ok-standing.ensures.among tells) in
    sym (found_says c.held_is_lawful.ensures.among old c.args.app s first)

pub returns-clause-versions : goal.returns-clause-versions
returns-clause-versions g c = (is_spelled c.in_ok-standing.field-0 c.in-Some.standing c.in-Some.is
    c.in_ok-standing.ensures.spelled).rules

pub returns-clause-held : goal.returns-clause-held
returns-clause-held g c = λ tells.
    let old = (g.D.Disk.medium c.args.disk.now).image in
    let s = c.in-Some.standing in
    let first = is_first (texts_at old c.args.app) c.in_ok-standing.field-0 s c.in-Some.is
    (c.in_ok-standing.ensures.among tells) in
    let spelled = is_spelled c.in_ok-standing.field-0 s c.in-Some.is c.in_ok-standing.ensures.spelled in record {
      seen = s.seen;
      stands = found_stands c.held_is_lawful.ensures.among old c.args.app s first;
      generation = refl;
      text = spelled.spelled;
    }
