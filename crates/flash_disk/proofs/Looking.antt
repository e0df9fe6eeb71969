-- Stretches of calls that only look are one such stretch.
use Rattle.std.proofs.Common.{◌≡◌, ◌⊎◌, Bool, inl, inr, ⊎_elim, refl, subst, ◌∙◌}
use Rattle.std.specs.Prelude.{IsTrue}
use Rattle.flash_model.specs.State.{IsStill, settle_pages}
use Rattle.flash_model.specs.FlashMedium.{FlashMedium, IsLawfulFlash, FlashElapses, EachFlashCase}
use Rattle.flash_disk.specs.Looks.{LeavesFlashAlone, OpensFlash}
use Rattle.flash_disk.proofs.Stretches.{elapses_refl, elapses_then, each_then, still_refl, still_then}

pub looks_none : (told : Bool) (m : FlashMedium) → IsLawfulFlash told m → LeavesFlashAlone told m m
looks_none told m lawful = record {
  state = λ t. refl;
  time = λ t. elapses_refl told m lawful t;
  during = λ t. still_refl told m lawful;
}

pub looks_then : (told : Bool) (a b c : FlashMedium) → LeavesFlashAlone told a b → LeavesFlashAlone told b c
    → LeavesFlashAlone told a c
looks_then told a b c first second = record {
  state = λ t. second.state t ∙ first.state t;
  time = λ t. elapses_then a b c (first.time t) (second.time t);
  during = λ t. still_then a b c (first.time t) (second.time t) (first.state t) (first.during t) (second.during t);
}

-- ---- the opening

pub looks_open : (told : Bool) (a b : FlashMedium) → LeavesFlashAlone told a b → OpensFlash told a b
looks_open told a b looks = record { time = looks.time; during = λ t c past. inl (looks.during t c past) }

-- a flash that was looked at and is settled, or fails to
pub settle_opens : (told : Bool) (a b c : FlashMedium) → LeavesFlashAlone told a b → FlashElapses b c
    → EachFlashCase (λ x. IsStill b.state x ⊎ IsStill c.state x) b c
    → (IsTrue told → (c.state ≡ settle_pages b.state) ⊎ (c.state ≡ b.state)) → OpensFlash told a c
settle_opens told a b c looks time cases state = record {
  time = λ t. elapses_then a b c (looks.time t) time;
  during = λ t. each_then a b c (λ x. IsStill a.state x ⊎ IsStill (settle_pages a.state) x) (looks.time t) time
      (λ x past. inl (looks.during t x past))
      (λ x past. ⊎_elim
      (λ was. inl (subst (λ s. IsStill s x) (looks.state t) was))
      (λ is. ⊎_elim
      (λ settled. inr (subst (λ s. IsStill (settle_pages s) x) (looks.state t) (subst (λ s. IsStill s x) settled is)))
      (λ same. inl (subst (λ s. IsStill s x) (same ∙ looks.state t) is))
      (state t))
      (cases x past));
}
