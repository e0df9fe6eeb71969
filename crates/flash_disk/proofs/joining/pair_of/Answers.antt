use Rattle.std.proofs.Common.{◌+◌, inl, inr, ⊎_elim, arith}
use Rattle.flash_disk.specs.Apart.{copy_of}
use Rattle.flash_disk.specs.Known.{load_known}
use Rattle.flash_disk.proofs.Marking.{unmarked}
use Rattle.flash_disk.proofs.Pairs.{is_pair, no_pair}
use Rattle.flash_disk.proofs.joining.pair_of.Goals as goal

pub returns-then-first-spare-clause-none : goal.returns-then-first-spare-clause-none
returns-then-first-spare-clause-none c few none =
    let one = c.lightest_own-first in
    let two = c.lightest_own-second in
    let m = c.mark.ensures in
    no_pair c.args.table.now c.args.spare (copy_of c.args.file) c.mark_foreign.new.foreign c.mark.new.foreign one.result
    two.result m.len m.here m.others one.ensures.own two.ensures.own
    (λ block below only. c.mark_foreign.ensures.foreign block only (unmarked 4096 block (omega (arith, below, few))))
    one.ensures.lightest two.ensures.lightest (⊎_elim inl (λ second. inr (inl second.1)) c.then-first-spare.either)

pub returns-then-load_of-ge-BLOCK_PAGES-clause-none : goal.returns-then-load_of-ge-BLOCK_PAGES-clause-none
returns-then-load_of-ge-BLOCK_PAGES-clause-none c few none =
    let one = c.lightest_own-first in
    let two = c.lightest_own-second in
    let m = c.mark.ensures in
    let a = c.load_of.ensures in
    let b = c.load_of-2.ensures in
    let many = c.if-load_of-ge-BLOCK_PAGES.true in
    no_pair c.args.table.now c.args.spare (copy_of c.args.file) c.mark_foreign.new.foreign c.mark.new.foreign one.result
    two.result m.len m.here m.others one.ensures.own two.ensures.own
    (λ block below only. c.mark_foreign.ensures.foreign block only (unmarked 4096 block (omega (arith, below, few))))
    one.ensures.lightest two.ensures.lightest (inr (inr (omega (arith, a, b, many))))

pub returns-clause-pair : goal.returns-clause-pair
returns-clause-pair c =
    let one = c.lightest_own-first in
    let two = c.lightest_own-second in
    let m = c.mark.ensures in
    let a = c.load_of.ensures in
    let b = c.load_of-2.ensures in
    let few = c.if-load_of-ge-BLOCK_PAGES.false in
    is_pair c.args.table.now c.args.spare (copy_of c.args.file) c.mark_foreign.new.foreign c.mark.new.foreign one.result
    two.result m.len m.here m.others one.ensures.own two.ensures.own c.mark_foreign.ensures.own
    c.if-first-spare.false c.if-second-spare.false (omega (arith, a, b, few))
