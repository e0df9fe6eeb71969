use Rattle.std.specs.Prelude.{IfSome}
use Rattle.flash_disk.specs.Counted.{IsCountedTable}
use Rattle.std.proofs.Common.{◌≡◌, ◌<◌, ◌+◌, ◌*◌, refl, sym, ap, ◌∙◌, subst}
use Rattle.flash_record.specs.PageRecord.{record_in}
use Rattle.flash_disk.specs.Newest.{record_at, places}
use Rattle.flash_disk.specs.Learnt.{IsLeaving}
use Rattle.flash_disk.proofs.Learning.{record_at_place}
use Rattle.flash_disk.proofs.Leaving.{nothing_found, elsewhere_found, no_twin_found, twin_found, places_differ}
use Rattle.flash_disk.proofs.Leaving.{places_same}
use Rattle.flash_disk.proofs.Entries.{bounds_then}
use Rattle.flash_disk.proofs.Steps.{only_as, only_here, step_as, step_fails, step_of}
use Rattle.flash_disk.proofs.layer.Layer.leave_page.Goals as goal

pub returns-in_default-clause-left : goal.returns-in_default-clause-left
returns-in_default-clause-left g c told within small spare leaving =
    let pages = (g.F.Flash.medium c.args.self.now.flash).state.pages in
    let n = places (g.F.Flash.medium c.args.self.now.flash).blocks in
    let block = c.args.place.block in
    let p = c.args.place.page in
    let table = c.read_page.new.self.state.table in
    let still : IsLeaving pages n block p table = subst (IsLeaving pages n block p)
    (ap (λ s. s.table) (sym c.in_ok-read_page.ensures.reads.state)) leaving in
    let there : record_in c.read_page.new.out ≡ record_at pages (64 * block + p) =
    ap record_in (c.in_ok-read_page.ensures.bytes told within small) ∙ sym (record_at_place pages block p small) in
    nothing_found pages n block p table still spare small (record_in c.read_page.new.out) there c.newest_in.result
    c.newest_in.ensures.found c.in_default.is

pub returns-then-ne-clause-left : goal.returns-then-ne-clause-left
returns-then-ne-clause-left g c told within small spare leaving =
    let pages = (g.F.Flash.medium c.args.self.now.flash).state.pages in
    let n = places (g.F.Flash.medium c.args.self.now.flash).blocks in
    let block = c.args.place.block in
    let p = c.args.place.page in
    let table = c.read_page.new.self.state.table in
    let still : IsLeaving pages n block p table = subst (IsLeaving pages n block p)
    (ap (λ s. s.table) (sym c.in_ok-read_page.ensures.reads.state)) leaving in
    let there : record_in c.read_page.new.out ≡ record_at pages (64 * block + p) =
    ap record_in (c.in_ok-read_page.ensures.bytes told within small) ∙ sym (record_at_place pages block p small) in
    elsewhere_found pages n block p table still spare small (record_in c.read_page.new.out) there c.newest_in.result
    c.newest_in.ensures.found
    c.in-Some.key c.in-Some.old c.in-Some.is
    (places_differ c.in-Some.old.place.block block c.in-Some.old.place.page p c.ne.result c.ne.ensures c.if-ne.true)

pub returns-in_default-twin-clause-left : goal.returns-in_default-twin-clause-left
returns-in_default-twin-clause-left g c told within small spare leaving =
    let pages = (g.F.Flash.medium c.args.self.now.flash).state.pages in
    let n = places (g.F.Flash.medium c.args.self.now.flash).blocks in
    let block = c.args.place.block in
    let p = c.args.place.page in
    let table = c.read_page.new.self.state.table in
    let still : IsLeaving pages n block p table = subst (IsLeaving pages n block p)
    (ap (λ s. s.table) (sym c.in_ok-read_page.ensures.reads.state)) leaving in
    let there : record_in c.read_page.new.out ≡ record_at pages (64 * block + p) =
    ap record_in (c.in_ok-read_page.ensures.bytes told within small) ∙ sym (record_at_place pages block p small) in
    no_twin_found pages n block p table still spare small (record_in c.read_page.new.out) there c.newest_in.result
    c.newest_in.ensures.found
    c.in-Some.key c.in-Some.old c.in-Some.is c.in_default-twin.is

pub returns-clause-left : goal.returns-clause-left
returns-clause-left g c told within small spare leaving =
    let pages = (g.F.Flash.medium c.args.self.now.flash).state.pages in
    let n = places (g.F.Flash.medium c.args.self.now.flash).blocks in
    let block = c.args.place.block in
    let p = c.args.place.page in
    let table = c.read_page.new.self.state.table in
    let still : IsLeaving pages n block p table = subst (IsLeaving pages n block p)
    (ap (λ s. s.table) (sym c.in_ok-read_page.ensures.reads.state)) leaving in
    let there : record_in c.read_page.new.out ≡ record_at pages (64 * block + p) =
    ap record_in (c.in_ok-read_page.ensures.bytes told within small) ∙ sym (record_at_place pages block p small) in
    let same = places_same c.in-Some.old.place.block block c.in-Some.old.place.page p c.ne.result c.ne.ensures
    c.if-ne.false in
    twin_found pages n block p table still spare small (record_in c.read_page.new.out) there c.newest_in.result
    c.newest_in.ensures.found
    c.in-Some.key c.in-Some.old c.in-Some.is c.in-Some.ensures.known same.0 same.1 c.in-Some-twin.twin c.in-Some-twin.is
    c.put.new.self c.put.result
    c.put.ensures.full c.put.ensures.put

pub returns-in_default-clause-step : goal.returns-in_default-clause-step
returns-in_default-clause-step g c =
    step_as (step_of c.in_ok-read_page.ensures.reads refl refl refl refl refl refl) tt

pub returns-then-ne-clause-step : goal.returns-then-ne-clause-step
returns-then-ne-clause-step g c =
    step_as (step_of c.in_ok-read_page.ensures.reads refl refl refl refl refl refl) tt

pub returns-in_default-twin-clause-step : goal.returns-in_default-twin-clause-step
returns-in_default-twin-clause-step g c =
    step_as (step_of c.in_ok-read_page.ensures.reads refl refl refl refl refl refl) tt

pub returns-in_err-read_page-clause-step : goal.returns-in_err-read_page-clause-step
returns-in_err-read_page-clause-step g c = step_fails c.from_residual.result _ c.from_residual.ensures.1
    (step_of c.in_err-read_page.ensures.reads refl refl refl refl refl refl)

pub returns-clause-step : goal.returns-clause-step
returns-clause-step g c =
    let blocks = (g.F.Flash.medium c.args.self.now.flash).blocks in
    let read = c.in_ok-read_page.ensures.reads in
    let step = step_of {now = c.read_page.new.self} read refl refl refl refl refl refl in record {
      only = only_as (only_here refl refl read.only) tt;
      fill = step.fill;
      bounds = bounds_then step.bounds c.put.ensures.bounds;
      counted = λ counted. let start = subst (IsCountedTable blocks) (sym (ap (λ s. s.table) read.state)) counted in
          let inside = start.inside c.in-Some.key c.in-Some.old c.in-Some.ensures.known in
          let twin = subst (λ t. IfSome t (λ q. q.block < blocks)) c.in-Some-twin.is inside.twin in
          c.put.ensures.counted blocks start (record { place = twin; twin = inside.twin });
    }
