use Rattle.std.proofs.Common.{⊎_elim, arith}
use Rattle.flash_disk.proofs.Marking.{unmarked}
use Rattle.flash_disk.proofs.streams.Streams.lightest.Goals as goal

pub returns-then-leaves_little-clause-none : goal.returns-then-leaves_little-clause-none
returns-then-leaves_little-clause-none c many few same block below apart only =
    let heavy = c.leaves_little.ensures c.if-leaves_little.true in
    ⊎_elim
    (λ full. omega (arith, full))
    (λ lighter. let le = lighter.1 in omega (arith, le, heavy))
    (c.lightest_own-own.ensures.lightest block below apart
    (c.mark_foreign.ensures.foreign block only (unmarked 4096 block (omega (arith, below, few)))))

pub returns-clause-none : goal.returns-clause-none
returns-clause-none c many few same block below apart only =
    ⊎_elim
    (λ full. omega (arith, full))
    (λ lighter. absurd (lighter.0 same))
    (c.lightest_own-own.ensures.lightest block below apart
    (c.mark_foreign.ensures.foreign block only (unmarked 4096 block (omega (arith, below, few)))))

pub returns-clause-lightest : goal.returns-clause-lightest
returns-clause-lightest c few other block below apart only =
    ⊎_elim
    (λ heavy. (let own = c.lightest_own-own.ensures.own other in let light = own.2 in omega (arith, heavy, light)))
    (λ lighter. lighter.1)
    (c.lightest_own-own.ensures.lightest block below apart
    (c.mark_foreign.ensures.foreign block only (unmarked 4096 block (omega (arith, below, few)))))
