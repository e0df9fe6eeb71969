use Rattle.std.proofs.Common.{◌≡◌, ap, sym, ◌∙◌, Some, None, arith, true≢false, eq-eqb}
use Rattle.std.proofs.lemmas.Bool.{eqb-true}
use Rattle.flash_record.specs.PageRecord.{record_in}
use Rattle.flash_record.specs.Stated.{stated}
use Rattle.flash_disk.specs.Newest.{record_at, places}
use Rattle.flash_disk.specs.Known.{known, page_of}
use Rattle.flash_disk.specs.Learnt.{number}
use Rattle.flash_disk.proofs.Learning.{record_at_place}
use Rattle.flash_disk.proofs.Usable.{none_needed, unknown_needed, is_needed, needed_place, needed_alone, small}
use Rattle.flash_disk.proofs.Usable.{some_not_none, not_some}
use Rattle.flash_disk.proofs.layer.Layer.is_needed.Goals as goal

pub returns-in_default-clause-needed : goal.returns-in_default-clause-needed
returns-in_default-clause-needed g c told learnt =
    let pages = (g.F.Flash.medium c.args.self.now.flash).state.pages in
    let n = places (g.F.Flash.medium c.args.self.now.flash).blocks in
    let i = number c.args.place in
    let read : record_at pages i ≡ record_in c.read_page.new.out =
    record_at_place pages c.args.place.block c.args.place.page c.requires.page
    ∙ ap record_in (sym (c.in_ok-read_page.ensures.bytes told c.requires.block c.requires.page)) in (
      λ no. absurd (true≢false (sym no)),
      λ needs. absurd
          (none_needed pages n i (read ∙ c.in_default.ensures.record) needs),
    )

pub returns-in_default-find-clause-needed : goal.returns-in_default-find-clause-needed
returns-in_default-find-clause-needed g c told learnt =
    let pages = (g.F.Flash.medium c.args.self.now.flash).state.pages in
    let n = places (g.F.Flash.medium c.args.self.now.flash).blocks in
    let i = number c.args.place in
    let read : record_at pages i ≡ record_in c.read_page.new.out =
    record_at_place pages c.args.place.block c.args.place.page c.requires.page
    ∙ ap record_in (sym (c.in_ok-read_page.ensures.bytes told c.requires.block c.requires.page)) in
    let r = stated c.in-Some.record in
    let here : record_at pages i ≡ Some r = read ∙ c.in-Some.ensures.record in
    let old = c.args.self.now.state.table in
    let none : known old (page_of r) ≡ None = ap (λ t. known t (page_of r))
    (sym (ap (λ s. s.table) c.in_ok-read_page.ensures.reads.state)) ∙ (sym c.find.ensures ∙ c.in_default-find.is) in
    (λ no. absurd (true≢false (sym no)), λ needs. absurd (unknown_needed pages n i r here old learnt none needs))

pub returns-then-is_some-clause-needed : goal.returns-then-is_some-clause-needed
returns-then-is_some-clause-needed g c told learnt =
    let pages = (g.F.Flash.medium c.args.self.now.flash).state.pages in
    let n = places (g.F.Flash.medium c.args.self.now.flash).blocks in
    let i = number c.args.place in
    let read : record_at pages i ≡ record_in c.read_page.new.out =
    record_at_place pages c.args.place.block c.args.place.page c.requires.page
    ∙ ap record_in (sym (c.in_ok-read_page.ensures.bytes told c.requires.block c.requires.page)) in
    let r = stated c.in-Some.record in
    let here : record_at pages i ≡ Some r = read ∙ c.in-Some.ensures.record in
    let old = c.args.self.now.state.table in
    let e = c.in-Some-find.newest in
    let is : known old (page_of r) ≡ Some e = ap (λ t. known t (page_of r))
    (sym (ap (λ s. s.table) c.in_ok-read_page.ensures.reads.state)) ∙ (sym c.find.ensures ∙ c.in-Some-find.is) in (
      λ no. absurd (true≢false (sym no)),
      λ needs. absurd
          (some_not_none e.twin (sym c.is_some.ensures ∙ c.if-is_some.true)
          (needed_alone pages n i r here old e learnt is needs)),
    )

pub returns-then-newest-place-clause-needed : goal.returns-then-newest-place-clause-needed
returns-then-newest-place-clause-needed g c told learnt =
    let pages = (g.F.Flash.medium c.args.self.now.flash).state.pages in
    let n = places (g.F.Flash.medium c.args.self.now.flash).blocks in
    let i = number c.args.place in
    let read : record_at pages i ≡ record_in c.read_page.new.out =
    record_at_place pages c.args.place.block c.args.place.page c.requires.page
    ∙ ap record_in (sym (c.in_ok-read_page.ensures.bytes told c.requires.block c.requires.page)) in
    let r = stated c.in-Some.record in
    let here : record_at pages i ≡ Some r = read ∙ c.in-Some.ensures.record in
    let old = c.args.self.now.state.table in
    let e = c.in-Some-find.newest in
    let is : known old (page_of r) ≡ Some e = ap (λ t. known t (page_of r))
    (sym (ap (λ s. s.table) c.in_ok-read_page.ensures.reads.state)) ∙ (sym c.find.ensures ∙ c.in-Some-find.is) in
    let page_small = small pages n i r here old e learnt is in
    let own_small = c.requires.page in
    let block = c.if-newest-place.true in (
      λ same. is_needed pages n i r here old e learnt is (not_some e.twin (sym c.is_some.ensures ∙ c.if-is_some.false))
          (let page = eqb-true e.place.page c.args.place.page same in omega (arith, page, block)),
      λ needs. eq-eqb e.place.page c.args.place.page (let at =
          needed_place pages n i r here old e learnt is needs in omega (arith, at, page_small, own_small)),
    )

pub returns-else-newest-place-clause-needed : goal.returns-else-newest-place-clause-needed
returns-else-newest-place-clause-needed g c told learnt =
    let pages = (g.F.Flash.medium c.args.self.now.flash).state.pages in
    let n = places (g.F.Flash.medium c.args.self.now.flash).blocks in
    let i = number c.args.place in
    let read : record_at pages i ≡ record_in c.read_page.new.out =
    record_at_place pages c.args.place.block c.args.place.page c.requires.page
    ∙ ap record_in (sym (c.in_ok-read_page.ensures.bytes told c.requires.block c.requires.page)) in
    let r = stated c.in-Some.record in
    let here : record_at pages i ≡ Some r = read ∙ c.in-Some.ensures.record in
    let old = c.args.self.now.state.table in
    let e = c.in-Some-find.newest in
    let is : known old (page_of r) ≡ Some e = ap (λ t. known t (page_of r))
    (sym (ap (λ s. s.table) c.in_ok-read_page.ensures.reads.state)) ∙ (sym c.find.ensures ∙ c.in-Some-find.is) in
    let page_small = small pages n i r here old e learnt is in
    let own_small = c.requires.page in (
      λ same. absurd (c.if-newest-place.false (eqb-true e.place.block c.args.place.block same)),
      λ needs. eq-eqb e.place.block c.args.place.block (let at =
          needed_place pages n i r here old e learnt is needs in omega (arith, at, page_small, own_small)),
    )
