use Rattle.std.proofs.Common.{subst}
use Rattle.flash_disk.specs.Apart.{IsApart}
use Rattle.flash_disk.proofs.disk.FlashDisk.keeps_copies_apart.Goals as goal

pub returns : goal.returns
returns g c told apart =
    subst (λ v. IsApart (g.F.Flash.medium v.flash).state.pages (g.F.Flash.medium v.flash).blocks) c.self.view_is
    (c.is_apart.ensures told (c.self.invariant.described told) apart)
