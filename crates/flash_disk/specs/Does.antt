-- What a stretch of calls does to a flash: what a crash leaves at any moment of it, and what the pages are at its end.
use Rattle.std.specs.Prelude.{◌≡◌}
use Rattle.flash_model.specs.Pages.{Pages, IsPlain}
use Rattle.flash_model.specs.State.{FlashState, FlashCase}
use Rattle.flash_model.specs.FlashMedium.{FlashMedium}

-- a crash that leaves what was settled and announced as it was, and, if no page passes its hash by chance, such pages
pub record LeavesPages (P : Pages → Type 0) (s : FlashState) (c : FlashCase) : Type 0 where
  pub settled : c.settled ≡ s.settled
  pub announced : c.announced ≡ s.announced
  pub left : IsPlain c.before c.whole c.left → P c.left

-- calls at whose end, and at any moment of which, P holds of the pages; nothing is settled or announced
pub record Does (P : Pages → Type 0) (old new : FlashMedium) : Type 0 where
  pub settled : new.state.settled ≡ old.state.settled
  pub announced : new.state.announced ≡ old.state.announced
  pub during : (c : FlashCase) → new.since old.moment c → LeavesPages P old.state c
  pub now : P new.state.pages
