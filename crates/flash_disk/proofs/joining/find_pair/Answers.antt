use Rattle.std.proofs.Common.{◌≡◌, ◌+◌, ◌*◌, ◌/◌, ◌%◌, sym, subst, ⊎_elim, arith}
use Rattle.std.specs.Prelude.{IfSome}
use Rattle.std.proofs.lemmas.Bool.{cases_eq}
use Rattle.flash_disk.specs.LedApart.{IsPair, HasNoPair}
use Rattle.flash_disk.proofs.joining.find_pair.Goals as goal

pub loop-copy-preserved : goal.loop-copy-preserved
loop-copy-preserved c =
    let table = c.args.table.now in
    let spare = c.args.spare in
    let i = c.loop-copy.invariant in
    let e = c.lighter_pair-best.ensures in
    let p = c.pair_of.ensures in (
      ⊎_elim
          (λ same. subst (λ o. IfSome o (λ pair. IsPair table spare pair.0 pair.1)) (sym same) i.0)
          (λ other. subst (λ o. IfSome o (λ pair. IsPair table spare pair.0 pair.1)) (sym other) p.pair)
          e.either,
      (λ few none copy below. ⊎_elim
          (λ last. subst (HasNoPair table spare) (let is : (4 * c.loop-copy.copy) / 4 % 8 ≡ copy = omega (
            arith,
            last,
            below,
            c.loop-copy-test.true,
          ) in is) (p.none few (e.none none).1))
          (λ before. i.1 few (e.none none).0 copy (omega (arith, below, before)))
          (cases_eq copy c.loop-copy.copy)),
    )

pub returns-clause-none : goal.returns-clause-none
returns-clause-none c many few none copy below =
    c.loop-copy.invariant.1 few none copy (omega (arith, below, c.loop-copy-test.false))
