-- What is read after a loss of pages of one block at any moment since one.
use Rattle.std.specs.Prelude.{◌⊎◌, ℕ}
use Rattle.flash_model.specs.FlashMedium.{FlashMedium}
use Rattle.flash_model.specs.Pages.{IsPlain, Pages}
use Rattle.flash_model.specs.State.{FlashCase}
use Rattle.flash_disk.specs.Apart.{LosesPages}
use Rattle.flash_disk.specs.FlashFiles.{flash_files}
use Rattle.flash_disk.specs.KeepsApart.{LackedRoom}
use Rattle.loss_laws.specs.ReadsOn.{AppsReadOn}

-- whatever pages of one block are lost of these the applications read on, or at some moment there was no room for a
-- copy that was written
abbrev pub ReadOnAfterLoss : FlashMedium → ℕ → Pages → Type 0
ReadOnAfterLoss m t pages = (block : ℕ) (new : Pages) → LosesPages block pages new
    → AppsReadOn (flash_files pages m.blocks) (flash_files new m.blocks) ⊎ LackedRoom m t

-- so it is with what a flash holds now, and with what a crash at any moment since this one leaves, if no page passes
-- its hash by chance
pub record ReadOnSince (m : FlashMedium) (t : ℕ) : Type 0 where
  pub now : ReadOnAfterLoss m t m.state.pages
  pub during : (c : FlashCase) → m.since t c → IsPlain c.before c.whole c.left → ReadOnAfterLoss m t c.left
