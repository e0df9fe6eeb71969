use Rattle.std.specs.Prelude.{IfOk, max}
use Rattle.std.proofs.Common.{◌≡◌, ◌+◌, ap, refl, sym, ◌∙◌, subst, Some}
use Rattle.flash_record.specs.PageRecord.{record_in}
use Rattle.flash_record.specs.Stated.{stated}
use Rattle.flash_disk.specs.Newest.{record_at}
use Rattle.flash_disk.specs.Learnt.{number, HasLearnt, LearnsNext, IsTop}
use Rattle.flash_disk.proofs.Learning.{record_at_place}
use Rattle.flash_disk.proofs.Steps.{step_as, step_fails, step_of, step_then}
use Rattle.flash_disk.proofs.Topmost.{next_top, on_ok}
use Rattle.flash_disk.proofs.layer.Layer.learn_page.Goals as goal

pub returns-clause-learns : goal.returns-clause-learns
returns-clause-learns g c told learnt =
    let e = c.in_ok-read_page.ensures in
    let pages = (g.F.Flash.medium c.args.self.now.flash).state.pages in
    let seen = (g.F.Flash.medium c.read_page.new.self.flash).state.pages in
    let n = number c.args.place in
    let r = stated c.in-Some.record in
    let here : record_at pages n ≡ Some r = record_at_place pages c.args.place.block c.args.place.page c.requires.page
    ∙ (ap record_in (sym (e.bytes told c.requires.block c.requires.page)) ∙ c.in-Some.ensures.record) in
    let was = c.read_page.new.self.state.table in
    let table = c.learn_record.new.self.state.table in
    let same = ap (λ s. s.table) e.reads.state in
    subst (λ t. IfOk c.learn_record.result (LearnsNext pages (n + 1) t table)) same
    (subst (λ q. IfOk c.learn_record.result (LearnsNext q (n + 1) was table)) (e.reads.only.pages told)
    (c.learn_record.ensures.learns told
    (subst (λ q. HasLearnt q n was) (sym (e.reads.only.pages told)) (subst (HasLearnt pages n) (sym same) learnt))
    (subst (λ q. record_at q n ≡ Some r) (sym (e.reads.only.pages told)) here)))

pub returns-clause-tops : goal.returns-clause-tops
returns-clause-tops g c told top =
    let pages = (g.F.Flash.medium c.args.self.now.flash).state.pages in
    let n = number c.args.place in
    let r = stated c.in-Some.record in
    let here : record_at pages n ≡ Some r = record_at_place pages c.args.place.block c.args.place.page c.requires.page
    ∙ (ap record_in (sym (c.in_ok-read_page.ensures.bytes told c.requires.block c.requires.page))
    ∙ c.in-Some.ensures.record) in
    on_ok c.learn_record.result (subst (IsTop pages (n + 1)) (sym c.learn_record.ensures.sequence)
    (next_top pages n c.args.self.now.state.sequence top r here c.max-self.result
    (c.max-self.ensures ∙ ap (λ s. max s.sequence r.sequence) c.in_ok-read_page.ensures.reads.state)))

pub returns-in_default-clause-step : goal.returns-in_default-clause-step
returns-in_default-clause-step g c =
    step_as (step_of c.in_ok-read_page.ensures.reads refl refl refl refl refl refl) tt

pub returns-in_err-read_page-clause-step : goal.returns-in_err-read_page-clause-step
returns-in_err-read_page-clause-step g c = step_fails c.from_residual.result _ c.from_residual.ensures.1
    (step_of c.in_err-read_page.ensures.reads refl refl refl refl refl refl)

pub returns-clause-step : goal.returns-clause-step
returns-clause-step g c = step_then (step_of c.in_ok-read_page.ensures.reads refl refl refl refl refl refl)
    c.learn_record.ensures.step
