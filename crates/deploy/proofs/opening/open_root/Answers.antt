use Rattle.std.proofs.Common.{sym, ◌∙◌, subst, arith}
use Rattle.disk_model.specs.Image.{Image}
use Rattle.guarded_cell.specs.Seens.{IsSeenOn}
use Rattle.guarded_cell.specs.Slots.{IsSlotsOf}
use Rattle.deploy_laws.specs.Apps.{says_at}
use Rattle.deploy_laws.specs.Places.{root_place}
use Rattle.root_text.specs.Views.{root_said}
use Rattle.deploy.specs.Clauses.{IsNoRootSlot}
use Rattle.deploy.proofs.Already.{already_then, found_alone}
use Rattle.deploy.proofs.Found.{found_says, found_stands, is_first, is_marked, is_spelled, no_first, none_says}
use Rattle.deploy.proofs.Found.{texts_at}
use Rattle.deploy.proofs.Manifests.{bad_keeps, found_keeps, once_written}
use Rattle.deploy.proofs.Opened.{bad_at, bad_reopened, brought_app, brought_clean, brought_leaves, brought_stands}
use Rattle.deploy.proofs.Opened.{found_none, look_leaves, look_stands, not_bad, still_clean}
use Rattle.deploy.proofs.RootLens.{same_most, then_most}
use Rattle.deploy.proofs.opening.open_root.Goals as goal

-- ---- the look failed

pub returns-in_err-standing-clause-outside : goal.returns-in_err-standing-clause-outside
returns-in_err-standing-clause-outside g c = look_leaves g.D.Disk.told (IsNoRootSlot c.args.app)
    (g.D.Disk.medium c.args.disk.now) (g.D.Disk.medium c.find_standing.new.disk)
    c.find_standing.ensures.image c.find_standing.ensures.idle

pub returns-in_err-standing-clause-any_moment : goal.returns-in_err-standing-clause-any_moment
returns-in_err-standing-clause-any_moment g c = λ tells.
    look_stands c.untouched_stands.ensures.still c.args.app c.requires
    (g.D.Disk.medium c.args.disk.now) (g.D.Disk.medium c.find_standing.new.disk) c.find_standing.ensures.idle

pub returns-in_err-standing-clause-already : goal.returns-in_err-standing-clause-already
returns-in_err-standing-clause-already g c = λ tells n t alone.
    (c.find_standing.ensures.image, c.find_standing.ensures.written)

pub returns-in_err-standing-clause-bad : goal.returns-in_err-standing-clause-bad
returns-in_err-standing-clause-bad g c = λ tells none. (c.find_standing.ensures.image, c.find_standing.ensures.written)

-- ---- no root stands

pub returns-in_default-clause-already : goal.returns-in_default-clause-already
returns-in_default-clause-already g c = λ tells n t alone.
    (c.find_standing.ensures.image, c.find_standing.ensures.written)

pub returns-in_default-clause-bad : goal.returns-in_default-clause-bad
returns-in_default-clause-bad g c = λ tells none. (c.find_standing.ensures.image, c.find_standing.ensures.written)

pub returns-in_default-clause-outside : goal.returns-in_default-clause-outside
returns-in_default-clause-outside g c = look_leaves g.D.Disk.told (IsNoRootSlot c.args.app)
    (g.D.Disk.medium c.args.disk.now) (g.D.Disk.medium c.find_standing.new.disk)
    c.find_standing.ensures.image c.find_standing.ensures.idle

pub returns-in_default-clause-any_moment : goal.returns-in_default-clause-any_moment
returns-in_default-clause-any_moment g c = λ tells. look_stands c.untouched_stands.ensures.still c.args.app c.requires
    (g.D.Disk.medium c.args.disk.now) (g.D.Disk.medium c.find_standing.new.disk) c.find_standing.ensures.idle

pub returns-in_default-clause-root : goal.returns-in_default-clause-root
returns-in_default-clause-root g c =
    let old = (g.D.Disk.medium c.args.disk.now).image in
    bad_at g.D.Disk.told old (g.D.Disk.medium c.find_standing.new.disk).image c.args.app c.find_standing.ensures.image
    (λ tells. none_says c.held_is_lawful.ensures.among old c.args.app
    (no_first (texts_at old c.args.app) c.in_ok-standing.field-0 c.in_default.is
    (c.in_ok-standing.ensures.among tells)))

pub returns-in_default-clause-says : goal.returns-in_default-clause-says
returns-in_default-clause-says g c = λ tells.
    let old = (g.D.Disk.medium c.args.disk.now).image in
    sym (none_says c.held_is_lawful.ensures.among old c.args.app
    (no_first (texts_at old c.args.app) c.in_ok-standing.field-0 c.in_default.is
    (c.in_ok-standing.ensures.among tells)))

pub returns-in_default-clause-app : goal.returns-in_default-clause-app
returns-in_default-clause-app g c = λ tells.
    let old = (g.D.Disk.medium c.args.disk.now).image in
    bad_reopened old (g.D.Disk.medium c.find_standing.new.disk).image c.args.app c.find_standing.ensures.image
    (none_says c.held_is_lawful.ensures.among old c.args.app
    (no_first (texts_at old c.args.app) c.in_ok-standing.field-0 c.in_default.is
    (c.in_ok-standing.ensures.among tells)))

pub returns-in_default-clause-clean : goal.returns-in_default-clause-clean
returns-in_default-clause-clean g c = λ tells.
    still_clean (g.D.Disk.medium c.args.disk.now).image (g.D.Disk.medium c.find_standing.new.disk).image c.args.app
    c.find_standing.ensures.image

-- ---- a root stands

pub bring_to-requires-clause-spelled : goal.bring_to-requires-clause-spelled
bring_to-requires-clause-spelled g c = is_spelled c.in_ok-standing.field-0 c.in-Some.standing c.in-Some.is
    c.in_ok-standing.ensures.spelled

pub bring_to-requires-clause-seen : goal.bring_to-requires-clause-seen
bring_to-requires-clause-seen g c = λ tells.
    let old = (g.D.Disk.medium c.args.disk.now).image in
    let s = c.in-Some.standing in
    let first = is_first (texts_at old c.args.app) c.in_ok-standing.field-0 s c.in-Some.is
    (c.in_ok-standing.ensures.among tells) in
    subst (λ (image : Image). IsSeenOn image (root_place c.args.app) s.seen)
    (sym c.find_standing.ensures.image)
    ((c.held_is_lawful.ensures.standing old (root_place c.args.app) 2 (omega arith)).copies_are s.seen
    (found_stands c.held_is_lawful.ensures.among old c.args.app s first))

pub bring_to-requires-clause-slots : goal.bring_to-requires-clause-slots
bring_to-requires-clause-slots g c = λ tells.
    let old = (g.D.Disk.medium c.args.disk.now).image in
    let s = c.in-Some.standing in
    subst (λ (image : Image). IsSlotsOf image (root_place c.args.app) s.slots)
    (sym c.find_standing.ensures.image)
    (is_marked (λ s. IsSlotsOf old (root_place c.args.app) s.slots) c.in_ok-standing.field-0 s c.in-Some.is
    (c.in_ok-standing.ensures.slots tells))

pub returns-in_err-root-clause-already : goal.returns-in_err-root-clause-already
returns-in_err-root-clause-already g c = λ tells n t alone.
    let old = g.D.Disk.medium c.args.disk.now in
    let s = c.in-Some.standing in
    let first = is_first (texts_at old.image c.args.app) c.in_ok-standing.field-0 s c.in-Some.is
    (c.in_ok-standing.ensures.among tells) in
    already_then old (g.D.Disk.medium c.find_standing.new.disk) (g.D.Disk.medium c.bring_to.new.disk) c.args.app
    s.seen.generation s.seen.text
    c.find_standing.ensures.image c.find_standing.ensures.written (c.bring_to.ensures.already tells)
    (found_alone c.held_is_lawful.ensures.alone old.image c.args.app n t s first alone)

pub returns-in_err-root-clause-bad : goal.returns-in_err-root-clause-bad
returns-in_err-root-clause-bad g c = λ tells none.
    let old = g.D.Disk.medium c.args.disk.now in
    let s = c.in-Some.standing in
    let first = is_first (texts_at old.image c.args.app) c.in_ok-standing.field-0 s c.in-Some.is
    (c.in_ok-standing.ensures.among tells) in
    absurd (found_none (says_at old.image c.args.app) s.seen.generation (root_said s.says)
    (found_says c.held_is_lawful.ensures.among old.image c.args.app s first) none)

pub returns-in_err-root-clause-outside : goal.returns-in_err-root-clause-outside
returns-in_err-root-clause-outside g c = brought_leaves c.args.app c.requires g.D.Disk.told c.in-Some.standing.seen
    (g.D.Disk.medium c.args.disk.now) (g.D.Disk.medium c.find_standing.new.disk) (g.D.Disk.medium c.bring_to.new.disk)
    c.find_standing.ensures.image c.find_standing.ensures.idle c.find_standing.ensures.time c.bring_to.ensures.time
    c.bring_to.ensures.any_moment
    c.bring_to.ensures.elsewhere

pub returns-in_err-root-clause-any_moment : goal.returns-in_err-root-clause-any_moment
returns-in_err-root-clause-any_moment g c = λ tells.
    let old = g.D.Disk.medium c.args.disk.now in
    let first = is_first (texts_at old.image c.args.app) c.in_ok-standing.field-0 c.in-Some.standing c.in-Some.is
    (c.in_ok-standing.ensures.among tells) in
    brought_stands c.args.app c.requires g.D.Disk.told c.in-Some.standing.seen
    old (g.D.Disk.medium c.find_standing.new.disk) (g.D.Disk.medium c.bring_to.new.disk)
    c.find_standing.ensures.image c.find_standing.ensures.idle c.find_standing.ensures.time c.bring_to.ensures.time
    c.bring_to.ensures.any_moment
    c.untouched_stands.ensures.still c.deploying_stands.ensures.opening tells
    (found_stands c.held_is_lawful.ensures.among old.image c.args.app c.in-Some.standing first)

pub returns-clause-already : goal.returns-clause-already
returns-clause-already g c = λ tells n t alone.
    let old = g.D.Disk.medium c.args.disk.now in
    let s = c.in-Some.standing in
    let first = is_first (texts_at old.image c.args.app) c.in_ok-standing.field-0 s c.in-Some.is
    (c.in_ok-standing.ensures.among tells) in
    already_then old (g.D.Disk.medium c.find_standing.new.disk) (g.D.Disk.medium c.bring_to.new.disk) c.args.app
    s.seen.generation s.seen.text
    c.find_standing.ensures.image c.find_standing.ensures.written (c.bring_to.ensures.already tells)
    (found_alone c.held_is_lawful.ensures.alone old.image c.args.app n t s first alone)

pub returns-clause-bad : goal.returns-clause-bad
returns-clause-bad g c = λ tells none.
    let old = g.D.Disk.medium c.args.disk.now in
    let s = c.in-Some.standing in
    let first = is_first (texts_at old.image c.args.app) c.in_ok-standing.field-0 s c.in-Some.is
    (c.in_ok-standing.ensures.among tells) in
    absurd (found_none (says_at old.image c.args.app) s.seen.generation (root_said s.says)
    (found_says c.held_is_lawful.ensures.among old.image c.args.app s first) none)

pub returns-clause-outside : goal.returns-clause-outside
returns-clause-outside g c = brought_leaves c.args.app c.requires g.D.Disk.told c.in-Some.standing.seen
    (g.D.Disk.medium c.args.disk.now) (g.D.Disk.medium c.find_standing.new.disk) (g.D.Disk.medium c.bring_to.new.disk)
    c.find_standing.ensures.image c.find_standing.ensures.idle c.find_standing.ensures.time c.bring_to.ensures.time
    c.bring_to.ensures.any_moment
    c.bring_to.ensures.elsewhere

pub returns-clause-any_moment : goal.returns-clause-any_moment
returns-clause-any_moment g c = λ tells.
    let old = g.D.Disk.medium c.args.disk.now in
    let first = is_first (texts_at old.image c.args.app) c.in_ok-standing.field-0 c.in-Some.standing c.in-Some.is
    (c.in_ok-standing.ensures.among tells) in
    brought_stands c.args.app c.requires g.D.Disk.told c.in-Some.standing.seen
    old (g.D.Disk.medium c.find_standing.new.disk) (g.D.Disk.medium c.bring_to.new.disk)
    c.find_standing.ensures.image c.find_standing.ensures.idle c.find_standing.ensures.time c.bring_to.ensures.time
    c.bring_to.ensures.any_moment
    c.untouched_stands.ensures.still c.deploying_stands.ensures.opening tells
    (found_stands c.held_is_lawful.ensures.among old.image c.args.app c.in-Some.standing first)

pub returns-clause-says : goal.returns-clause-says
returns-clause-says g c = λ tells.
    let old = g.D.Disk.medium c.args.disk.now in
    let first = is_first (texts_at old.image c.args.app) c.in_ok-standing.field-0 c.in-Some.standing c.in-Some.is
    (c.in_ok-standing.ensures.among tells) in
    c.in_ok-root.ensures.says ∙ sym (found_says c.held_is_lawful.ensures.among old.image c.args.app c.in-Some.standing
    first)

pub returns-clause-app : goal.returns-clause-app
returns-clause-app g c = λ tells.
    let old = g.D.Disk.medium c.args.disk.now in
    let first = is_first (texts_at old.image c.args.app) c.in_ok-standing.field-0 c.in-Some.standing c.in-Some.is
    (c.in_ok-standing.ensures.among tells) in
    let spelled = is_spelled c.in_ok-standing.field-0 c.in-Some.standing c.in-Some.is c.in_ok-standing.ensures.spelled
    in
    brought_app c.one_root.ensures.again c.roots_say.ensures.alone c.roots_say.ensures.versions
    c.files_lie_apart.ensures.slots c.others_stand.ensures.root c.roots_say.ensures.clean
    c.args.app c.in-Some.standing.seen.generation (root_said c.in-Some.standing.says)
    old.image (g.D.Disk.medium c.find_standing.new.disk).image (g.D.Disk.medium c.bring_to.new.disk).image c.requires
    spelled.rules c.find_standing.ensures.image
    (c.bring_to.ensures.elsewhere tells) (c.in_ok-root.ensures.alone tells)
    (found_says c.held_is_lawful.ensures.among old.image c.args.app c.in-Some.standing first)

pub returns-clause-clean : goal.returns-clause-clean
returns-clause-clean g c = λ tells.
    let old = g.D.Disk.medium c.args.disk.now in
    let first = is_first (texts_at old.image c.args.app) c.in_ok-standing.field-0 c.in-Some.standing c.in-Some.is
    (c.in_ok-standing.ensures.among tells) in
    let spelled = is_spelled c.in_ok-standing.field-0 c.in-Some.standing c.in-Some.is c.in_ok-standing.ensures.spelled
    in
    brought_clean c.one_root.ensures.again c.roots_say.ensures.alone c.roots_say.ensures.versions
    c.files_lie_apart.ensures.slots c.others_stand.ensures.root c.roots_say.ensures.clean
    c.args.app c.in-Some.standing.seen.generation (root_said c.in-Some.standing.says)
    old.image (g.D.Disk.medium c.find_standing.new.disk).image (g.D.Disk.medium c.bring_to.new.disk).image c.requires
    spelled.rules c.find_standing.ensures.image
    (c.bring_to.ensures.elsewhere tells) (c.in_ok-root.ensures.alone tells)
    (found_says c.held_is_lawful.ensures.among old.image c.args.app c.in-Some.standing first)

pub returns-clause-untouched : goal.returns-clause-untouched
returns-clause-untouched g c = λ is_bad.
    absurd (not_bad c.in_ok-root.root c.in-Some.standing.seen.generation (root_said c.in-Some.standing.says)
    c.in_ok-root.ensures.says is_bad)

-- ---- what is written

pub returns-in_err-standing-clause-at_most : goal.returns-in_err-standing-clause-at_most
returns-in_err-standing-clause-at_most g c = same_most _ _ _ c.find_standing.ensures.written

pub returns-in_default-clause-written : goal.returns-in_default-clause-written
returns-in_default-clause-written g c = same_most _ _ _ c.find_standing.ensures.written

pub returns-in_default-clause-at_most : goal.returns-in_default-clause-at_most
returns-in_default-clause-at_most g c = same_most _ _ _ c.find_standing.ensures.written

pub returns-in_err-root-clause-at_most : goal.returns-in_err-root-clause-at_most
returns-in_err-root-clause-at_most g c = then_most _ _ _ _ c.find_standing.ensures.written c.bring_to.ensures.at_most

pub returns-clause-at_most : goal.returns-clause-at_most
returns-clause-at_most g c = then_most _ _ _ _ c.find_standing.ensures.written c.bring_to.ensures.at_most

pub returns-clause-written : goal.returns-clause-written
returns-clause-written g c = then_most _ _ _ _ c.find_standing.ensures.written c.in_ok-root.ensures.written

pub returns-in_err-standing-clause-once : goal.returns-in_err-standing-clause-once
returns-in_err-standing-clause-once g c = λ tells. same_most _ _ _ c.find_standing.ensures.written

pub returns-in_default-clause-once : goal.returns-in_default-clause-once
returns-in_default-clause-once g c = λ tells. same_most _ _ _ c.find_standing.ensures.written

pub returns-in_err-root-clause-once : goal.returns-in_err-root-clause-once
returns-in_err-root-clause-once g c = λ tells.
    let old = g.D.Disk.medium c.args.disk.now in
    let first = is_first (texts_at old.image c.args.app) c.in_ok-standing.field-0 c.in-Some.standing c.in-Some.is
    (c.in_ok-standing.ensures.among tells) in
    once_written _ _ _ old.image c.args.app _ c.find_standing.ensures.written
    (found_keeps c.held_is_lawful.ensures.among old.image c.args.app c.in-Some.standing first)
    c.bring_to.ensures.once

pub returns-clause-once : goal.returns-clause-once
returns-clause-once g c = λ tells.
    let old = g.D.Disk.medium c.args.disk.now in
    let first = is_first (texts_at old.image c.args.app) c.in_ok-standing.field-0 c.in-Some.standing c.in-Some.is
    (c.in_ok-standing.ensures.among tells) in
    once_written _ _ _ old.image c.args.app _ c.find_standing.ensures.written
    (found_keeps c.held_is_lawful.ensures.among old.image c.args.app c.in-Some.standing first)
    c.bring_to.ensures.once

pub returns-in_default-clause-manifests : goal.returns-in_default-clause-manifests
returns-in_default-clause-manifests g c = λ tells.
    let old = (g.D.Disk.medium c.args.disk.now).image in
    sym (bad_keeps old c.args.app (none_says c.held_is_lawful.ensures.among old c.args.app
    (no_first (texts_at old c.args.app) c.in_ok-standing.field-0 c.in_default.is
    (c.in_ok-standing.ensures.among tells))))

pub returns-clause-manifests : goal.returns-clause-manifests
returns-clause-manifests g c = λ tells.
    let old = g.D.Disk.medium c.args.disk.now in
    let first = is_first (texts_at old.image c.args.app) c.in_ok-standing.field-0 c.in-Some.standing c.in-Some.is
    (c.in_ok-standing.ensures.among tells) in
    c.in_ok-root.ensures.texts
    ∙ sym (found_keeps c.held_is_lawful.ensures.among old.image c.args.app c.in-Some.standing first)
