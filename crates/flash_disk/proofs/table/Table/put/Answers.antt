use Rattle.std.proofs.Common.{◌≡◌, ◌-◌, ℕ, refl, sym, ap, subst, ◌∙◌, arith}
use Rattle.std.specs.List.{sum_by}
use Rattle.std.specs.HashMap.{values}
use Rattle.std.specs.Prelude.{Some}
use Rattle.flash_disk.specs.Known.{known, load_known}
use Rattle.flash_disk.specs.Counted.{had_in, leads_into, entries_in}
use Rattle.flash_disk.proofs.Counting.{Recounts, recounts_refl, same_counted, put_counted, put_no_more, fewer_by}
use Rattle.flash_disk.proofs.Counting.{none_fewer}
use Rattle.flash_disk.proofs.table.Table.put.Goals as goal
use Rattle.flash_disk.proofs.table.Table.put.Goals.{in-Some, in_default}

pub returns-then-not-store-clause-counted : goal.returns-then-not-store-clause-counted
returns-then-not-store-clause-counted c blocks counted inside =
    let e = c.if-not-store.ensures in
    same_counted blocks c.args.self.now c.store.new.self counted (c.store.ensures.same c.if-not-store.true)
    c.store.ensures.bounds.limit
    (c.store.ensures.entries c.if-not-store.true) c.store.ensures.load c.store.ensures.bounds.blocks

pub returns-clause-counted : goal.returns-clause-counted
returns-clause-counted c blocks counted inside =
    let e = c.store.ensures in
    let old = c.args.self.now in
    let mid = c.store.new.self in
    let less = c.match-old.self in
    let m = c.count_more.ensures in
    let parts : Recounts mid less × ((block : ℕ) → load_known less block
    ≡ load_known mid block - had_in block (known old c.args.key)) =
    elim c.match-old.branch [
      | in-Some w ↦
          let f = w.count_less.ensures in
          let is : known old c.args.key ≡ Some w.in-Some.old = sym c.find-old.ensures ∙ w.in-Some.is in (
            subst (Recounts mid) (sym w.self-is) (record {
              newest = f.newest;
              blocks = f.bounds.blocks;
              loads =
                  f.loads;
              limit = f.bounds.limit;
            }),
            fewer_by blocks old mid less c.args.key w.in-Some.old is
                (λ within block. ap (λ t. load_known t block) w.self-is ∙ f.counts within block) counted e.load,
          )
      | in_default w ↦ (
        subst (Recounts mid) (sym w.self-is) (recounts_refl mid),
        none_fewer old mid less c.args.key (sym c.find-old.ensures ∙ w.in_default.is) w.self-is,
      )
    ] in
    put_counted blocks old mid less c.count_more.new.self c.args.key c.args.new counted inside
    (e.put c.if-not-store.false) e.bounds.limit (e.counts c.if-not-store.false) e.load e.bounds.blocks
    parts.0 parts.1 (record { newest = m.newest; blocks = m.bounds.blocks; loads = m.loads; limit = m.bounds.limit })
    m.counts

pub returns-then-not-store-clause-no_more : goal.returns-then-not-store-clause-no_more
returns-then-not-store-clause-no_more c block apart =
    let same = c.store.ensures.entries c.if-not-store.true block in omega (arith, same)

pub returns-clause-counts : goal.returns-clause-counts
returns-clause-counts c done block =
    let mid = c.store.new.self in
    let less = c.match-old.self in
    let fewer : less.newest ≡ mid.newest = elim c.match-old.branch [
      | in-Some w ↦ ap (λ t. t.newest) w.self-is ∙ w.count_less.ensures.newest
      | in_default w ↦ ap (λ t. t.newest) w.self-is
    ] in
    let same : entries_in c.count_more.new.self block ≡ entries_in mid block =
    ap (λ m. sum_by (leads_into block) (values m)) (c.count_more.ensures.newest ∙ fewer) in
    let sum = c.store.ensures.counts c.if-not-store.false block in
    omega (arith, same, sum)

pub returns-clause-no_more : goal.returns-clause-no_more
returns-clause-no_more c block apart = put_no_more c.args.self.now c.count_more.new.self c.args.key c.args.new block
    apart (returns-clause-counts c refl block)
