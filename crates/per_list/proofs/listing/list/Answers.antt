-- The disk is synchronised, and then listed; where the sync fails nothing is looked at.
use Rattle.std.proofs.Common.{◌∙◌, inl, sym}
use Rattle.disk_model.specs.Laws.{elapses_on, rose_before}
use Rattle.per_list.specs.Listings.{listing_text}
use Rattle.per_list.proofs.Looks.{each_on_image, on_err, on_ok, passes_on, seen_behind}
use Rattle.per_list.proofs.listing.list.Goals as goal

pub returns-then-is_err-clause-during : goal.returns-then-is_err-clause-during
returns-then-is_err-clause-during g c = λ x s.
    let reads = on_err c.sync.result (sym c.if-is_err.ensures.value) c.sync.ensures.failed in inl (reads.during x s)

pub returns-then-is_err-clause-image : goal.returns-then-is_err-clause-image
returns-then-is_err-clause-image g c = c.sync.ensures.writes_nothing.image

pub returns-then-is_err-clause-written : goal.returns-then-is_err-clause-written
returns-then-is_err-clause-written g c = c.sync.ensures.writes_nothing.written

pub returns-then-is_err-clause-cause : goal.returns-then-is_err-clause-cause
returns-then-is_err-clause-cause g c = λ failed.
    on_err c.sync.result (sym c.if-is_err.ensures.value) c.sync.ensures.cause

pub returns-clause-text : goal.returns-clause-text
returns-clause-text g c = λ tells. each_on_image (listing_text c.args.form) (λ text. text.items)
    (g.D.Disk.medium c.args.disk.now).image (g.D.Disk.medium c.sync.new.self).image c.list_all.result
    c.sync.ensures.writes_nothing.image (c.list_all.ensures.text tells)

pub returns-clause-image : goal.returns-clause-image
returns-clause-image g c = c.list_all.ensures.image ∙ c.sync.ensures.writes_nothing.image

pub returns-clause-written : goal.returns-clause-written
returns-clause-written g c = c.list_all.ensures.written ∙ c.sync.ensures.writes_nothing.written

pub returns-clause-during : goal.returns-clause-during
returns-clause-during g c = seen_behind c.sync.ensures.time c.sync.ensures.writes_nothing
    (on_ok c.sync.result (sym c.if-is_err.ensures.value) c.sync.ensures.quiet) c.list_all.ensures.time
    c.list_all.ensures.idle

pub returns-clause-cause : goal.returns-clause-cause
returns-clause-cause g c = λ failed. rose_before _ _ _ c.sync.ensures.time.faults (c.list_all.ensures.cause failed)

pub returns-clause-passes : goal.returns-clause-passes
returns-clause-passes g c = passes_on c.list_all.result _ _ _
    (on_ok c.sync.result (sym c.if-is_err.ensures.value) c.sync.ensures.passes) c.list_all.ensures.passes

pub returns-clause-fed : goal.returns-clause-fed
returns-clause-fed g c = λ starved. c.list_all.ensures.fed starved
    ∙ on_ok c.sync.result (sym c.if-is_err.ensures.value) c.sync.ensures.passes

pub returns-clause-time : goal.returns-clause-time
returns-clause-time g c = elapses_on c.sync.ensures.time c.list_all.ensures.time
