use Rattle.std.specs.Prelude.{vec_capacity}
use Rattle.flash_disk.specs.Counted.{IsCountedTable}
use Rattle.std.proofs.Common.{◌≡◌, ◌<◌, ◌≤◌, true, false, sym, ap, inl, inr, ◌∙◌, subst, arith, refl}
use Rattle.std.specs.HashMap.{spare}
use Rattle.flash_disk.specs.Newest.{FindsSpare, IsSpare, places}
use Rattle.flash_disk.specs.Known.{limit_of, page_len, len_in}
use Rattle.flash_disk.specs.Learnt.{HasLearnt, LearnsAll, IsLeaving, IsTop}
use Rattle.flash_disk.proofs.Usable.{usable}
use Rattle.flash_disk.proofs.Leaving.{starts_leaving, leaves_there}
use Rattle.flash_disk.proofs.Opened.{opened}
use Rattle.flash_disk.proofs.Topmost.{top_of_none}
use Rattle.flash_disk.proofs.Looking.{looks_then, looks_open, settle_opens}
use Rattle.flash_disk.proofs.Moving.{on_err}
use Rattle.flash_disk.proofs.layer.Layer.learn.Goals as goal

pub returns-in-Ok-clause-usable : goal.returns-in-Ok-clause-usable
returns-in-Ok-clause-usable g c told =
    let pages = (g.F.Flash.medium c.args.self.now.flash).state.pages in
    let e = c.in_ok-learn_blocks.ensures in
    let first = c.learn_blocks.new.self.state.table in
    let found = c.find_spare.new.self.state.spare in
    let learnt : HasLearnt pages (places c.args.blocks) first =
    subst (LearnsAll pages (places c.args.blocks) (limit_of c.args.self.now.state.table) first) c.if-not-branch.false
    (e.learns told) in
    let finds = c.in_ok-find_spare.ensures.spare told (subst (λ q. HasLearnt q (places c.args.blocks) first)
    (sym (e.step.only.pages told)) learnt) in
    usable pages c.args.blocks first found (e.step.bounds.limit ∙ c.requires.limit) learnt
    (subst (λ q. FindsSpare q c.args.blocks found true) (e.step.only.pages told)
    (subst (FindsSpare (g.F.Flash.medium c.learn_blocks.new.self.flash).state.pages c.args.blocks found)
    c.if-not-branch-2.false finds))

pub returns-then-not-branch-2-clause-usable : goal.returns-then-not-branch-2-clause-usable
returns-then-not-branch-2-clause-usable g c told =
    let pages = (g.F.Flash.medium c.args.self.now.flash).state.pages in
    let e = c.in_ok-learn_blocks.ensures in
    let first = c.learn_blocks.new.self.state.table in
    let found = c.find_spare.new.self.state.spare in
    let learnt : HasLearnt pages (places c.args.blocks) first =
    subst (LearnsAll pages (places c.args.blocks) (limit_of c.args.self.now.state.table) first) c.if-not-branch.false
    (e.learns told) in
    let finds = c.in_ok-find_spare.ensures.spare told (subst (λ q. HasLearnt q (places c.args.blocks) first)
    (sym (e.step.only.pages told)) learnt) in
    inr (subst (λ q. FindsSpare q c.args.blocks found false) (e.step.only.pages told)
    (subst (FindsSpare (g.F.Flash.medium c.learn_blocks.new.self.flash).state.pages c.args.blocks found)
    c.if-not-branch-2.true finds))

pub returns-in-Ok-clause-sound : goal.returns-in-Ok-clause-sound
returns-in-Ok-clause-sound g c told usable_now =
    let pages = (g.F.Flash.medium c.args.self.now.flash).state.pages in
    let blocks = c.args.blocks in
    let n = places c.args.blocks in
    let e = c.in_ok-learn_blocks.ensures in
    let f = c.in_ok-find_spare.ensures in
    let l = c.in_ok-leave_spare.ensures in
    let first = c.learn_blocks.new.self.state.table in
    let second = c.find_spare.new.self.state.table in
    let left = c.leave_spare.new.self.state.table in
    let found = c.find_spare.new.self.state.spare in
    let learnt : HasLearnt pages n first = subst (LearnsAll pages n (limit_of c.args.self.now.state.table) first)
    c.if-not-branch.false (e.learns told) in
    let finds : (found < blocks) × IsSpare pages n found = subst (λ q. FindsSpare q blocks found true)
    (e.step.only.pages told)
    (subst (FindsSpare (g.F.Flash.medium c.learn_blocks.new.self.flash).state.pages blocks found)
    c.if-not-branch-2.false
    (f.spare told (subst (λ q. HasLearnt q n first) (sym (e.step.only.pages told)) learnt))) in
    let seen = (g.F.Flash.medium c.find_spare.new.self.flash).state.pages in
    let all = (g.F.Flash.medium c.find_spare.new.self.flash).blocks in
    let all_is : all ≡ blocks = f.step.only.blocks ∙ (e.step.only.blocks ∙ sym c.requires.blocks) in
    let start : IsLeaving pages n found 0 second = subst (IsLeaving pages n found 0) (sym f.table)
    (starts_leaving pages n found first learnt) in
    let leaving : IsLeaving pages n found 64 left = leaves_there pages seen
    (f.step.only.pages told ∙ e.step.only.pages told) blocks all
    all_is found 0 64 second left
    (l.left told (subst (λ b. found < b) (sym all_is) finds.0)) finds.1 start in
    let lens : left.lens ≡ c.args.self.now.state.table.lens = l.step.bounds.lens ∙
    (ap (λ t. t.lens) f.table ∙ e.step.bounds.lens) in
    let limit : limit_of left ≡ limit_of c.args.self.now.state.table = l.step.bounds.limit ∙
    (ap limit_of f.table ∙ e.step.bounds.limit) in
    let room : limit_of left ≤ spare left.lens = subst (λ m. limit_of left ≤ spare m) (sym lens)
    (let enough = c.requires.empty.len_room in omega (arith, limit, enough)) in
    let top : IsTop pages n c.learn_blocks.new.self.state.sequence =
    e.tops told (top_of_none pages c.args.self.now.state.sequence c.requires.sequence) c.if-not-branch.false in
    opened pages blocks _ left (subst (λ b. IsLeaving pages n b 64 left) (sym l.spare) leaving)
    (record {
      records = c.measure.ensures.records;
      limit = c.measure.ensures.limit;
      lens = c.measure.ensures.lens;
      measured = c.measure.ensures.measured;
      spare = c.measure.ensures.spare;
      ends = c.stray_end-self.ensures;
      no_rivals = c.has_rivals-self.ensures.no_rivals;
      rivals = c.has_rivals-self.ensures.rivals;
      full = l.step.fill.0 ∙ (f.step.fill.0 ∙ (e.step.fill.0 ∙ c.requires.full));
      uncleared = refl;
    })
    (limit ∙ c.requires.limit) room (λ file. ap (λ m. len_in m file) lens ∙ c.requires.empty.lens file)
    (subst (λ b. b < blocks) (sym l.spare) finds.0)
    (subst (IsSpare pages n) (sym l.spare) finds.1)
    (subst (IsTop pages n) (sym (l.sequence ∙ f.sequence)) top).most
    (c.measure.ensures.counted blocks
    (let first_counted : IsCountedTable blocks first = subst (λ b. IsCountedTable b first) (sym c.requires.blocks)
    (e.step.counted (subst (λ b. IsCountedTable b c.args.self.now.state.table) c.requires.blocks c.requires.counted)) in
    subst (λ b. IsCountedTable b left) all_is (l.step.counted (subst (λ b. IsCountedTable b second) (sym all_is)
    (subst (IsCountedTable blocks) (sym f.table) first_counted)))))
    (let same : vec_capacity c.leave_spare.new.self.state.moved ≡ vec_capacity c.args.self.now.state.moved =
    ap (λ q. vec_capacity q) (l.step.fill.2 ∙ (f.step.fill.2 ∙ e.step.fill.2)) in
    let enough = c.requires.moved in omega (arith, same, enough))
    (l.len ∙ (ap page_len f.table ∙ learnt.count))

pub returns-in_err-learn_blocks-clause-opens : goal.returns-in_err-learn_blocks-clause-opens
returns-in_err-learn_blocks-clause-opens g c =
    looks_open g.F.Flash.told (g.F.Flash.medium c.args.self.now.flash) (g.F.Flash.medium c.learn_blocks.new.self.flash)
    c.learn_blocks.ensures.step.only.looks

pub returns-then-not-branch-clause-opens : goal.returns-then-not-branch-clause-opens
returns-then-not-branch-clause-opens g c =
    looks_open g.F.Flash.told (g.F.Flash.medium c.args.self.now.flash) (g.F.Flash.medium c.learn_blocks.new.self.flash)
    c.learn_blocks.ensures.step.only.looks

pub returns-in_err-find_spare-clause-opens : goal.returns-in_err-find_spare-clause-opens
returns-in_err-find_spare-clause-opens g c =
    looks_open g.F.Flash.told (g.F.Flash.medium c.args.self.now.flash) (g.F.Flash.medium c.find_spare.new.self.flash)
    (looks_then g.F.Flash.told (g.F.Flash.medium c.args.self.now.flash) (g.F.Flash.medium c.learn_blocks.new.self.flash)
    (g.F.Flash.medium c.find_spare.new.self.flash) c.learn_blocks.ensures.step.only.looks
    c.find_spare.ensures.step.only.looks)

pub returns-then-not-branch-2-clause-opens : goal.returns-then-not-branch-2-clause-opens
returns-then-not-branch-2-clause-opens g c =
    looks_open g.F.Flash.told (g.F.Flash.medium c.args.self.now.flash) (g.F.Flash.medium c.find_spare.new.self.flash)
    (looks_then g.F.Flash.told (g.F.Flash.medium c.args.self.now.flash) (g.F.Flash.medium c.learn_blocks.new.self.flash)
    (g.F.Flash.medium c.find_spare.new.self.flash) c.learn_blocks.ensures.step.only.looks
    c.find_spare.ensures.step.only.looks)

pub returns-in_err-leave_spare-clause-opens : goal.returns-in_err-leave_spare-clause-opens
returns-in_err-leave_spare-clause-opens g c =
    looks_open g.F.Flash.told (g.F.Flash.medium c.args.self.now.flash) (g.F.Flash.medium c.leave_spare.new.self.flash)
    (looks_then g.F.Flash.told (g.F.Flash.medium c.args.self.now.flash) (g.F.Flash.medium c.find_spare.new.self.flash)
    (g.F.Flash.medium c.leave_spare.new.self.flash) (looks_then g.F.Flash.told
    (g.F.Flash.medium c.args.self.now.flash) (g.F.Flash.medium c.learn_blocks.new.self.flash)
    (g.F.Flash.medium c.find_spare.new.self.flash) c.learn_blocks.ensures.step.only.looks
    c.find_spare.ensures.step.only.looks)
    c.leave_spare.ensures.step.only.looks)

pub returns-then-not-branch-2-clause-unusable : goal.returns-then-not-branch-2-clause-unusable
returns-then-not-branch-2-clause-unusable g c =
    λ unusable. looks_then g.F.Flash.told (g.F.Flash.medium c.args.self.now.flash)
    (g.F.Flash.medium c.learn_blocks.new.self.flash) (g.F.Flash.medium c.find_spare.new.self.flash)
    c.learn_blocks.ensures.step.only.looks c.find_spare.ensures.step.only.looks

pub returns-in-Ok-clause-opens : goal.returns-in-Ok-clause-opens
returns-in-Ok-clause-opens g c =
    settle_opens g.F.Flash.told (g.F.Flash.medium c.args.self.now.flash) (g.F.Flash.medium c.leave_spare.new.self.flash)
    (g.F.Flash.medium c.settle.new.self)
    (looks_then g.F.Flash.told (g.F.Flash.medium c.args.self.now.flash) (g.F.Flash.medium c.find_spare.new.self.flash)
    (g.F.Flash.medium c.leave_spare.new.self.flash) (looks_then g.F.Flash.told
    (g.F.Flash.medium c.args.self.now.flash) (g.F.Flash.medium c.learn_blocks.new.self.flash)
    (g.F.Flash.medium c.find_spare.new.self.flash) c.learn_blocks.ensures.step.only.looks
    c.find_spare.ensures.step.only.looks)
    c.leave_spare.ensures.step.only.looks)
    c.settle.ensures.time c.settle.ensures.during (λ told. inl (c.in-Ok.ensures.state told))

pub returns-in-Err-clause-opens : goal.returns-in-Err-clause-opens
returns-in-Err-clause-opens g c =
    settle_opens g.F.Flash.told (g.F.Flash.medium c.args.self.now.flash) (g.F.Flash.medium c.leave_spare.new.self.flash)
    (g.F.Flash.medium c.settle.new.self)
    (looks_then g.F.Flash.told (g.F.Flash.medium c.args.self.now.flash) (g.F.Flash.medium c.find_spare.new.self.flash)
    (g.F.Flash.medium c.leave_spare.new.self.flash) (looks_then g.F.Flash.told
    (g.F.Flash.medium c.args.self.now.flash) (g.F.Flash.medium c.learn_blocks.new.self.flash)
    (g.F.Flash.medium c.find_spare.new.self.flash) c.learn_blocks.ensures.step.only.looks
    c.find_spare.ensures.step.only.looks)
    c.leave_spare.ensures.step.only.looks)
    c.settle.ensures.time c.settle.ensures.during (λ told. inr (c.in-Err.ensures.failed told))

pub returns-in_err-find_spare-clause-failed : goal.returns-in_err-find_spare-clause-failed
returns-in_err-find_spare-clause-failed g c =
    on_err c.from_residual-in_err-find_spare.result
    (looks_then g.F.Flash.told (g.F.Flash.medium c.args.self.now.flash) (g.F.Flash.medium c.learn_blocks.new.self.flash)
    (g.F.Flash.medium c.find_spare.new.self.flash) c.learn_blocks.ensures.step.only.looks
    c.find_spare.ensures.step.only.looks)

pub returns-in_err-leave_spare-clause-failed : goal.returns-in_err-leave_spare-clause-failed
returns-in_err-leave_spare-clause-failed g c =
    on_err c.from_residual-in_err-leave_spare.result
    (looks_then g.F.Flash.told (g.F.Flash.medium c.args.self.now.flash) (g.F.Flash.medium c.find_spare.new.self.flash)
    (g.F.Flash.medium c.leave_spare.new.self.flash) (looks_then g.F.Flash.told
    (g.F.Flash.medium c.args.self.now.flash) (g.F.Flash.medium c.learn_blocks.new.self.flash)
    (g.F.Flash.medium c.find_spare.new.self.flash) c.learn_blocks.ensures.step.only.looks
    c.find_spare.ensures.step.only.looks)
    c.leave_spare.ensures.step.only.looks)
