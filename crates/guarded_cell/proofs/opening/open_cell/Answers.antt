use Rattle.std.proofs.Common.{◌∙◌, Bool, length, nat_le, sym, subst}
use Rattle.disk_model.specs.Image.{Image}
use Rattle.guarded_cell.specs.declared.looking.Seen.{Seen}
use Rattle.guarded_cell.specs.Held.{standing}
use Rattle.guarded_cell.specs.lemmas.HeldLaws.{standing_copies}
use Rattle.guarded_cell.specs.Seens.{IsSealable, IsSeenOn}
use Rattle.guarded_cell.proofs.Changing.{opens_idle, opens_later}
use Rattle.guarded_cell.proofs.Seeing.{standing_is, found_all}
use Rattle.guarded_cell.proofs.Opened.{stands_as}
use Rattle.guarded_cell.proofs.opening.open_cell.Goals as goal

pub returns-in_err-seens-clause-opens : goal.returns-in_err-seens-clause-opens
returns-in_err-seens-clause-opens g c =
    opens_idle c.look.ensures.time c.look.ensures.image c.look.ensures.written c.look.ensures.idle

pub open_at-requires-clause-sealable : goal.open_at-requires-clause-sealable
open_at-requires-clause-sealable g c =
    let enough : Seen → Bool = λ seen. nat_le c.args.m (length seen.copies) in
    found_all IsSealable enough c.in_ok-seens.field-0.seens.items c.in-Some.seen
    (sym c.standing_among.ensures ∙ c.in-Some.is) c.in_ok-seens.ensures.sealable

pub open_at-requires-clause-seen : goal.open_at-requires-clause-seen
open_at-requires-clause-seen g c = λ tells.
    let image = (g.D.Disk.medium c.args.disk.now).image in
    let stands = standing_is image c.args.place c.args.m c.in_ok-seens.field-0.seens.items
    c.standing_among.result (c.in_ok-seens.ensures.held tells) c.standing_among.ensures ∙ c.in-Some.is in
    subst (λ (now : Image). IsSeenOn now c.args.place c.in-Some.seen)
    (sym c.look.ensures.image)
    (standing_copies image c.args.place c.args.m c.in-Some.seen stands).0

pub returns-in-None-clause-corrupt : goal.returns-in-None-clause-corrupt
returns-in-None-clause-corrupt g c = λ tells corrupt.
    standing_is (g.D.Disk.medium c.args.disk.now).image c.args.place c.args.m
    c.in_ok-seens.field-0.seens.items c.standing_among.result
    (c.in_ok-seens.ensures.held tells) c.standing_among.ensures ∙ c.in-None.is

pub returns-in-None-clause-opens : goal.returns-in-None-clause-opens
returns-in-None-clause-opens g c =
    opens_idle c.look.ensures.time c.look.ensures.image c.look.ensures.written c.look.ensures.idle

pub returns-in_ok-opened-in-Some-clause-stands : goal.returns-in_ok-opened-in-Some-clause-stands
returns-in_ok-opened-in-Some-clause-stands g c = λ tells.
    let image = (g.D.Disk.medium c.args.disk.now).image in
    let stands = standing_is image c.args.place c.args.m c.in_ok-seens.field-0.seens.items
    c.standing_among.result
    (c.in_ok-seens.ensures.held tells) c.standing_among.ensures ∙ c.in-Some.is in
    stands_as (standing image c.args.place c.args.m) c.in-Some.seen
    c.in_ok-opened-in-Some.opened.cell.generation c.in_ok-opened-in-Some.opened.text
    stands c.in_ok-opened-in-Some.ensures.cell.counts c.in_ok-opened-in-Some.ensures.text

pub returns-in_err-opened-in-Some-clause-opens : goal.returns-in_err-opened-in-Some-clause-opens
returns-in_err-opened-in-Some-clause-opens g c =
    let enough : Seen → Bool = λ seen. nat_le c.args.m (length seen.copies) in
    let sealable = found_all IsSealable enough c.in_ok-seens.field-0.seens.items c.in-Some.seen
    (sym c.standing_among.ensures ∙ c.in-Some.is) c.in_ok-seens.ensures.sealable in
    opens_later c.look.ensures.time c.look.ensures.image c.look.ensures.written c.look.ensures.idle sealable
    (λ tells. standing_is (g.D.Disk.medium c.args.disk.now).image c.args.place c.args.m
    c.in_ok-seens.field-0.seens.items c.standing_among.result (c.in_ok-seens.ensures.held tells)
    c.standing_among.ensures
    ∙ c.in-Some.is)
    c.open_at.ensures.brings

pub returns-in_ok-opened-in-Some-clause-opens : goal.returns-in_ok-opened-in-Some-clause-opens
returns-in_ok-opened-in-Some-clause-opens g c =
    let enough : Seen → Bool = λ seen. nat_le c.args.m (length seen.copies) in
    let sealable = found_all IsSealable enough c.in_ok-seens.field-0.seens.items c.in-Some.seen
    (sym c.standing_among.ensures ∙ c.in-Some.is) c.in_ok-seens.ensures.sealable in
    opens_later c.look.ensures.time c.look.ensures.image c.look.ensures.written c.look.ensures.idle sealable
    (λ tells. standing_is (g.D.Disk.medium c.args.disk.now).image c.args.place c.args.m
    c.in_ok-seens.field-0.seens.items c.standing_among.result (c.in_ok-seens.ensures.held tells)
    c.standing_among.ensures
    ∙ c.in-Some.is)
    c.open_at.ensures.brings
