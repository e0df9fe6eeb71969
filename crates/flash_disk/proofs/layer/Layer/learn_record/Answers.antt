use Rattle.std.specs.Prelude.{IfSome}
use Rattle.std.proofs.Common.{◌≡◌, ◌<◌, ap, refl, sym, ◌∙◌, subst, add-one, Some, None}
use Rattle.flash_record.specs.Stated.{stated}
use Rattle.flash_disk.specs.Known.{known, page_of}
use Rattle.flash_disk.specs.Learnt.{number}
use Rattle.flash_disk.proofs.Learning.{put_learns, older, first, newer_one}
use Rattle.flash_disk.proofs.Steps.{only_here, only_none, step_none}
use Rattle.flash_disk.proofs.layer.Layer.learn_record.Goals as goal

pub returns-in_default-clause-learns : goal.returns-in_default-clause-learns
returns-in_default-clause-learns g c told learnt here =
    let pages = (g.F.Flash.medium c.args.self.now.flash).state.pages in
    let n = number c.args.place in
    let r = stated c.args.found in
    let old = c.args.self.now.state.table in
    let none : known old (page_of r) ≡ None = sym c.find.ensures ∙ c.in_default.is in
    let entry = c.newest_at.ensures in
    put_learns pages n r here old old c.put.new.self (page_of r) c.newest_at.result c.put.result refl refl learnt
    (first pages n r here old c.newest_at.result learnt none (
      ap number entry.place,
      rw entry.place c.requires.page,
      entry.sequence,
      entry.len,
      entry.twin,
      entry.filled c.requires.long,
      entry.page,
      entry.no_rivals,
    ))
    c.put.ensures.full c.put.ensures.put

pub returns-then-old-found-clause-learns : goal.returns-then-old-found-clause-learns
returns-then-old-found-clause-learns g c told learnt here =
    let pages = (g.F.Flash.medium c.args.self.now.flash).state.pages in
    let n = number c.args.place in
    let r = stated c.args.found in
    let old = c.args.self.now.state.table in
    let is : known old (page_of r) ≡ Some c.in-Some.old = sym c.find.ensures ∙ c.in-Some.is in
    let entry = c.newest_at-then-old-found.ensures in
    put_learns pages n r here old old c.put-then-old-found.new.self (page_of r) c.newest_at-then-old-found.result
    c.put-then-old-found.result refl refl learnt
    (newer_one pages n r here old c.in-Some.old learnt is c.newest_at-then-old-found.result (
      ap number entry.place,
      rw entry.place c.requires.page,
      entry.sequence,
      entry.len,
      entry.twin,
      entry.filled c.requires.long,
      entry.page,
      entry.no_rivals,
    ) c.if-old-found.true)
    c.put-then-old-found.ensures.full c.put-then-old-found.ensures.put

pub returns-then-old-found-2-clause-learns : goal.returns-then-old-found-2-clause-learns
returns-then-old-found-2-clause-learns g c told learnt here =
    let pages = (g.F.Flash.medium c.args.self.now.flash).state.pages in
    let n = number c.args.place in
    let r = stated c.args.found in
    let old = c.args.self.now.state.table in
    let is : known old (page_of r) ≡ Some c.in-Some.old = sym c.find.ensures ∙ c.in-Some.is in
    rw (add-one n) (older pages n r here old c.in-Some.old learnt is c.if-old-found-2.true)

pub returns-in_default-clause-step : goal.returns-in_default-clause-step
returns-in_default-clause-step g c =
    let blocks = (g.F.Flash.medium c.args.self.now.flash).blocks in
    let e = c.newest_at.ensures in record {
      only = only_here refl refl (only_none _ c.args.self.now (g.met.F.Flash.lawful c.args.self.now.flash));
      fill = (refl, refl, refl);
      bounds = c.put.ensures.bounds;
      counted = λ counted. c.put.ensures.counted blocks counted (record {
        place = subst (λ p. p.block < blocks) (sym e.place) c.requires.block;
        twin = subst (λ t. IfSome t (λ q. q.block < blocks)) (sym e.twin) tt;
      });
    }

pub returns-then-old-found-clause-step : goal.returns-then-old-found-clause-step
returns-then-old-found-clause-step g c =
    let blocks = (g.F.Flash.medium c.args.self.now.flash).blocks in
    let e = c.newest_at-then-old-found.ensures in record {
      only = only_here refl refl (only_none _ c.args.self.now (g.met.F.Flash.lawful c.args.self.now.flash));
      fill = (refl, refl, refl);
      bounds = c.put-then-old-found.ensures.bounds;
      counted = λ counted. c.put-then-old-found.ensures.counted blocks counted (record {
        place = subst (λ p. p.block < blocks) (sym e.place) c.requires.block;
        twin = subst (λ t. IfSome t (λ q. q.block < blocks)) (sym e.twin) tt;
      });
    }

pub returns-then-old-found-2-clause-step : goal.returns-then-old-found-2-clause-step
returns-then-old-found-2-clause-step g c = step_none _ c.args.self.now (g.met.F.Flash.lawful c.args.self.now.flash)
