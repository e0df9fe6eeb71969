use Rattle.std.proofs.Common.{ℕ, List, find, sym, ap, ◌∙◌, subst}
use Rattle.disk_model.specs.Image.{Image}
use Rattle.guarded_cell.specs.Register.{IsAlone}
use Rattle.guarded_cell.specs.Seens.{IsSealable, IsSeenOn}
use Rattle.root_text.specs.Views.{root_said}
use Rattle.deploy_laws.specs.Places.{root_place}
use Rattle.root_recovery.specs.Choices.{IsChoice}
use Rattle.root_recovery.specs.Clauses.{IsRecovered}
use Rattle.root_recovery.specs.declared.choosing.Choice.TheVariants.{Reads, NoneLeft, Takes}
use Rattle.root_recovery.specs.Recoveries.{RootRow, is_root_text, none_left, reads, takes}
use Rattle.root_recovery.proofs.Afterwards.{look_keeps, refused_ends, taken_ends, taken_keeps}
use Rattle.root_recovery.proofs.Chosen.{after_by, choice_at, left_row, row_none, row_reads, row_takes, says_nothing}
use Rattle.root_recovery.proofs.Finding.{find_first, first_is}
use Rattle.root_recovery.proofs.Lefts.{copies_are, holder}
use Rattle.root_recovery.proofs.recovering.recover_synced.Goals as goal

-- ---- nothing was written

pub returns-in_err-seens-clause-keeps : goal.returns-in_err-seens-clause-keeps
returns-in_err-seens-clause-keeps g c = λ tells. look_keeps c.args.app c.requires c.untouched_stands.ensures.still
    c.held_is_lawful.ensures.held (g.D.Disk.medium c.args.disk.now) (g.D.Disk.medium c.look.new.disk)
    c.look.ensures.image c.look.ensures.idle

pub returns-in_err-choose-clause-keeps : goal.returns-in_err-choose-clause-keeps
returns-in_err-choose-clause-keeps g c = λ tells. look_keeps c.args.app c.requires c.untouched_stands.ensures.still
    c.held_is_lawful.ensures.held (g.D.Disk.medium c.args.disk.now) (g.D.Disk.medium c.look.new.disk)
    c.look.ensures.image c.look.ensures.idle

-- ---- the root reads

pub returns-in-Reads-clause-ended : goal.returns-in-Reads-clause-ended
returns-in-Reads-clause-ended g c = λ tells.
    let old = (g.D.Disk.medium c.args.disk.now).image in
    refused_ends c.args.app reads old (g.D.Disk.medium c.look.new.disk).image tt
    (row_reads c.held_is_lawful.ensures.among old c.args.app
    (choice_at c.root_place.result c.args.app old c.in_ok-seens.field-0.seens.items c.deref.result.now
    c.in_ok-choose.field-0 Reads c.root_place.ensures (c.in_ok-seens.ensures.held tells) c.deref.ensures.value
    c.in-Reads.is c.in_ok-choose.ensures.choice)) c.look.ensures.image

pub returns-in-Reads-clause-keeps : goal.returns-in-Reads-clause-keeps
returns-in-Reads-clause-keeps g c = λ tells. look_keeps c.args.app c.requires c.untouched_stands.ensures.still
    c.held_is_lawful.ensures.held (g.D.Disk.medium c.args.disk.now) (g.D.Disk.medium c.look.new.disk)
    c.look.ensures.image c.look.ensures.idle

-- ---- nothing is left

pub returns-in-NoneLeft-clause-ended : goal.returns-in-NoneLeft-clause-ended
returns-in-NoneLeft-clause-ended g c = λ tells.
    let old = (g.D.Disk.medium c.args.disk.now).image in
    let none = choice_at c.root_place.result c.args.app old c.in_ok-seens.field-0.seens.items c.deref.result.now
    c.in_ok-choose.field-0 NoneLeft c.root_place.ensures (c.in_ok-seens.ensures.held tells) c.deref.ensures.value
    c.in-NoneLeft.is c.in_ok-choose.ensures.choice in
    refused_ends c.args.app none_left old (g.D.Disk.medium c.look.new.disk).image tt
    (row_none c.held_is_lawful.ensures.among old c.args.app none.0 none.1) c.look.ensures.image

pub returns-in-NoneLeft-clause-keeps : goal.returns-in-NoneLeft-clause-keeps
returns-in-NoneLeft-clause-keeps g c = λ tells. look_keeps c.args.app c.requires c.untouched_stands.ensures.still
    c.held_is_lawful.ensures.held (g.D.Disk.medium c.args.disk.now) (g.D.Disk.medium c.look.new.disk)
    c.look.ensures.image c.look.ensures.idle

-- ---- a root is taken

pub bring-requires-clause-sealable : goal.bring-requires-clause-sealable
bring-requires-clause-sealable g c =
    let chosen = subst (IsChoice c.deref.result.now) c.in-Takes.is c.in_ok-choose.ensures.choice in
    first_is is_root_text IsSealable c.in_ok-seens.field-0.seens.items c.in-Takes.seen.now
    (find_first is_root_text c.in_ok-seens.field-0.seens.items c.in-Takes.seen.now
    (ap (find is_root_text) (sym c.deref.ensures.value) ∙ chosen.first)) c.in_ok-seens.ensures.sealable

pub bring-requires-clause-seen : goal.bring-requires-clause-seen
bring-requires-clause-seen g c = λ tells.
    let old = (g.D.Disk.medium c.args.disk.now).image in
    let left = choice_at c.root_place.result c.args.app old c.in_ok-seens.field-0.seens.items c.deref.result.now
    c.in_ok-choose.field-0 (Takes c.in-Takes.seen c.in-Takes.recovered) c.root_place.ensures
    (c.in_ok-seens.ensures.held tells) c.deref.ensures.value c.in-Takes.is c.in_ok-choose.ensures.choice in
    subst (λ (i : Image). IsSeenOn i (root_place c.args.app) c.in-Takes.seen.now) (sym c.look.ensures.image)
    (copies_are c.held_is_lawful.ensures.held old c.args.app c.in-Takes.seen.now left.first)

pub returns-in_err-bring-in-Takes-clause-keeps : goal.returns-in_err-bring-in-Takes-clause-keeps
returns-in_err-bring-in-Takes-clause-keeps g c = λ tells.
    let old = (g.D.Disk.medium c.args.disk.now).image in
    let left = choice_at c.root_place.result c.args.app old c.in_ok-seens.field-0.seens.items c.deref.result.now
    c.in_ok-choose.field-0 (Takes c.in-Takes.seen c.in-Takes.recovered) c.root_place.ensures
    (c.in_ok-seens.ensures.held tells) c.deref.ensures.value c.in-Takes.is c.in_ok-choose.ensures.choice in
    let seen = c.in-Takes.seen.now in
    let root = root_said c.in-Takes.recovered.says in
    taken_keeps c.args.app c.requires g.D.Disk.told seen.generation seen.text (g.D.Disk.medium c.args.disk.now)
    (g.D.Disk.medium c.look.new.disk) (g.D.Disk.medium c.bring.new.disk) c.look.ensures.image c.look.ensures.idle
    c.look.ensures.time c.bring.ensures.time tells (c.bring.ensures.elsewhere tells) c.bring.ensures.any_moment
    c.roots_stay.ensures.covered c.untouched_is_kept.ensures.untouched c.roots_say.ensures.versions
    c.files_lie_apart.ensures.storage c.untouched_stands.ensures.still c.held_is_lawful.ensures.held
    (says_nothing c.held_is_lawful.ensures.among old c.args.app left.unread)
    (holder c.held_is_lawful.ensures.held old c.args.app seen left.first) root left.read.said
    (after_by old c.args.app (takes seen.generation root seen.copies)
    (row_takes c.held_is_lawful.ensures.among old c.args.app left.unread seen root left.first left.read.said))

pub returns-clause-ended : goal.returns-clause-ended
returns-clause-ended g c = λ tells.
    let old = (g.D.Disk.medium c.args.disk.now).image in
    let new = (g.D.Disk.medium c.bring.new.disk).image in
    let left = choice_at c.root_place.result c.args.app old c.in_ok-seens.field-0.seens.items c.deref.result.now
    c.in_ok-choose.field-0 (Takes c.in-Takes.seen c.in-Takes.recovered) c.root_place.ensures
    (c.in_ok-seens.ensures.held tells) c.deref.ensures.value c.in-Takes.is c.in_ok-choose.ensures.choice in
    let seen = c.in-Takes.seen.now in
    let root = root_said c.in-Takes.recovered.says in
    subst (λ (row : RootRow). IsRecovered c.args.app row old new)
    (left_row c.held_is_lawful.ensures.among old c.args.app left.unread seen c.in-Takes.recovered left)
    (taken_ends c.one_root.ensures.again c.roots_say.ensures.alone c.roots_say.ensures.versions
    c.files_lie_apart.ensures.slots c.others_stand.ensures.root c.roots_say.ensures.clean c.args.app seen.generation
    root seen.copies old (g.D.Disk.medium c.look.new.disk).image new c.requires left.read.rules
    (row_takes c.held_is_lawful.ensures.among old c.args.app left.unread seen root left.first left.read.said)
    c.look.ensures.image (c.bring.ensures.elsewhere tells)
    (subst (λ (t : List ℕ). IsAlone new (root_place c.args.app) seen.generation t) left.read.spelled
    (c.in_ok-bring-in-Takes.ensures.alone tells)))

pub returns-clause-keeps : goal.returns-clause-keeps
returns-clause-keeps g c = λ tells.
    let old = (g.D.Disk.medium c.args.disk.now).image in
    let left = choice_at c.root_place.result c.args.app old c.in_ok-seens.field-0.seens.items c.deref.result.now
    c.in_ok-choose.field-0 (Takes c.in-Takes.seen c.in-Takes.recovered) c.root_place.ensures
    (c.in_ok-seens.ensures.held tells) c.deref.ensures.value c.in-Takes.is c.in_ok-choose.ensures.choice in
    let seen = c.in-Takes.seen.now in
    let root = root_said c.in-Takes.recovered.says in
    taken_keeps c.args.app c.requires g.D.Disk.told seen.generation seen.text (g.D.Disk.medium c.args.disk.now)
    (g.D.Disk.medium c.look.new.disk) (g.D.Disk.medium c.bring.new.disk) c.look.ensures.image c.look.ensures.idle
    c.look.ensures.time c.bring.ensures.time tells (c.bring.ensures.elsewhere tells) c.bring.ensures.any_moment
    c.roots_stay.ensures.covered c.untouched_is_kept.ensures.untouched c.roots_say.ensures.versions
    c.files_lie_apart.ensures.storage c.untouched_stands.ensures.still c.held_is_lawful.ensures.held
    (says_nothing c.held_is_lawful.ensures.among old c.args.app left.unread)
    (holder c.held_is_lawful.ensures.held old c.args.app seen left.first) root left.read.said
    (after_by old c.args.app (takes seen.generation root seen.copies)
    (row_takes c.held_is_lawful.ensures.among old c.args.app left.unread seen root left.first left.read.said))
