-- Its pages fit, and one of its blocks is spare.
use Rattle.std.proofs.Common.{⊎_elim, arith}
use Rattle.flash_disk.proofs.laws.usable_flashes_are_taken.Goals as goal

pub returns : goal.returns
returns c pages blocks usable unusable =
    let fits = usable.fits in
    ⊎_elim (λ many. omega (arith, fits, many)) (λ none. none usable.block usable.within usable.spare) unusable
