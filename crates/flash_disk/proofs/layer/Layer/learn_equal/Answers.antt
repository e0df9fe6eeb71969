use Rattle.std.proofs.Common.{◌≡◌, ap, refl, sym, subst, ◌∙◌, ⊎_elim, arith, ◌<◌, Some}
use Rattle.std.specs.Prelude.{IfSome}
use Rattle.flash_disk.specs.Counted.{IsCountedTable}
use Rattle.flash_record.specs.PageRecord.{record_in}
use Rattle.flash_record.specs.Stated.{stated}
use Rattle.flash_disk.specs.Newest.{record_at}
use Rattle.flash_disk.specs.Known.{known, page_of}
use Rattle.flash_disk.specs.Learnt.{number}
use Rattle.flash_disk.proofs.Learning.{record_at_place, put_learns, equal, old_block, old_small}
use Rattle.flash_disk.proofs.Entries.{bounds_then}
use Rattle.flash_disk.proofs.Steps.{only_as, only_here, step_fails, step_of}
use Rattle.flash_disk.proofs.layer.Layer.learn_equal.Goals as goal

pub returns-clause-learns : goal.returns-clause-learns
returns-clause-learns g c told learnt here =
    let pages = (g.F.Flash.medium c.args.self.now.flash).state.pages in
    let n = number c.args.place in
    let r = stated c.args.found in
    let old = c.args.self.now.state.table in
    let e = c.args.old in
    let is : known old (page_of r) ≡ Some e = ap (known old) (sym c.requires.key) ∙ c.requires.old in
    let block = old_block pages n r here old e learnt is c.args.place refl c.requires.page c.requires.sequence in
    let within : e.place.block < (g.F.Flash.medium c.args.self.now.flash).blocks =
    (let lt = c.requires.block in omega (arith, block, lt)) in
    let small = old_small pages n r here old e learnt is in
    let first : record_in c.read_page.new.out ≡ record_at pages (number e.place) =
    ap record_in (c.in_ok-read_page.ensures.bytes told within small)
    ∙ sym (record_at_place pages e.place.block e.place.page small) in
    put_learns pages n r here old c.read_page.new.self.state.table c.put.new.self c.args.key
    (record e { twin = c.twin_at.result; rivalled = c.is_rivalled.result }) c.put.result
    (ap (λ s. s.table) c.in_ok-read_page.ensures.reads.state) c.requires.key learnt
    (equal pages n r here old e learnt is c.args.place refl c.requires.page c.requires.sequence
    (record_in c.read_page.new.out) first c.twin_at.result c.is_rivalled.result c.twin_at.ensures.at
    c.is_rivalled.ensures)
    c.put.ensures.full c.put.ensures.put

pub returns-in_err-read_page-clause-step : goal.returns-in_err-read_page-clause-step
returns-in_err-read_page-clause-step g c = step_fails c.from_residual.result _ c.from_residual.ensures.1
    (step_of c.in_err-read_page.ensures.reads refl refl refl refl refl refl)

pub returns-clause-step : goal.returns-clause-step
returns-clause-step g c =
    let blocks = (g.F.Flash.medium c.args.self.now.flash).blocks in
    let read = c.in_ok-read_page.ensures.reads in
    let table = ap (λ s. s.table) read.state in
    let step = step_of {now = c.read_page.new.self} read refl refl refl refl refl refl in record {
      only = only_as (only_here refl refl read.only) tt;
      fill = step.fill;
      bounds = bounds_then step.bounds c.put.ensures.bounds;
      counted = λ counted. let inside = counted.inside c.args.key c.args.old c.requires.old in
          c.put.ensures.counted blocks (subst (IsCountedTable blocks) (sym table) counted) (record {
            place = inside.place;
            twin = ⊎_elim
                (λ was. subst (λ t. IfSome t (λ q. q.block < blocks)) (sym was) inside.twin)
                (λ here. subst (λ t. IfSome t (λ q. q.block < blocks)) (sym here) c.requires.block)
                c.twin_at.ensures.one;
          });
    }
