-- Stretches of calls of a flash, one after the other: time goes on, and what holds in each of them holds in all.
use Rattle.std.proofs.Common.{◌≡◌, ◌⊎◌, ℕ, Bool, List, Result, Ok, Err, OnOk, OnErr, sym, refl, ap, ◌∙◌, subst, inl}
use Rattle.std.proofs.Common.{inr, ⊎_elim, le_trans, le_refl}
use Rattle.std.specs.Prelude.{IsTrue}
use Rattle.flash_model.specs.Pages.{Pages, program_page, erase_block, TornPage, TornBlock, IsPlain}
use Rattle.flash_model.specs.State.{FlashCase, IsStill, IsCutShort, IsLeftBy, ProgramCase, EraseCase, FailsToProgram}
use Rattle.flash_model.specs.State.{FailsToErase, programmed, erased}
use Rattle.flash_model.specs.FlashMedium.{FlashMedium, IsLawfulFlash, FlashElapses, EachFlashCase}
use Rattle.flash_disk.specs.Does.{LeavesPages, Does}

-- no call at all: what a flash whose pages are modelled has at this moment counts
pub elapses_refl : (told : Bool) (m : FlashMedium) → IsLawfulFlash told m → IsTrue told → FlashElapses m m
elapses_refl told m lawful tells = record {
  later = le_refl _;
  nothing_else = λ t c le past. inl past;
  keeps = λ t c le past. past;
  adds = λ t c le past. lawful.counts_now tells t c le (lawful.only_now c past);
  faults = le_refl _;
  blocks = refl;
}

-- and it only looks
pub still_refl : (told : Bool) (m : FlashMedium) → IsLawfulFlash told m → EachFlashCase (IsStill m.state) m m
still_refl told m lawful c past = lawful.only_now c past

module _ (a b c : FlashMedium) where
  -- two stretches are one
  pub elapses_then : FlashElapses a b → FlashElapses b c → FlashElapses a c
  elapses_then first second = record {
    later = le_trans first.later second.later;
    nothing_else = λ t x le past. ⊎_elim
        (λ before. ⊎_elim (λ old. inl old) (λ since. inr (second.keeps a.moment x first.later since))
        (first.nothing_else t x le before))
        (λ since. inr (second.adds a.moment x first.later since))
        (second.nothing_else t x (le_trans le first.later) past);
    keeps = λ t x le past. second.keeps t x (le_trans le first.later) (first.keeps t x le past);
    adds = λ t x le past. ⊎_elim
        (λ before. second.keeps t x (le_trans le first.later) (first.adds t x le before))
        (λ since. second.adds t x (le_trans le first.later) since)
        (second.nothing_else a.moment x first.later past);
    faults = le_trans first.faults second.faults;
    blocks = second.blocks ∙ first.blocks;
  }

  -- what each crash of two stretches leaves, each crash of both leaves
  pub each_then : (P : FlashCase → Type 0) → FlashElapses a b → FlashElapses b c → EachFlashCase P a b
      → EachFlashCase P b c → EachFlashCase P a c
  each_then P first second early late x past = ⊎_elim (early x) (late x)
      (second.nothing_else a.moment x first.later past)

  -- two stretches that only look
  pub still_then : FlashElapses a b → FlashElapses b c → b.state ≡ a.state → EachFlashCase (IsStill a.state) a b
      → EachFlashCase (IsStill b.state) b c
      → EachFlashCase (IsStill a.state) a c
  still_then first second same early late =
      each_then (IsStill a.state) first second early (λ x past. subst (λ s. IsStill s x) same (late x past))

  -- what holds all through two stretches holds all through both
  pub does_then : (P : Pages → Type 0) → FlashElapses a b → FlashElapses b c → Does P a b → Does P b c → Does P a c
  does_then P first second early late = record {
    settled = late.settled ∙ early.settled;
    announced = late.announced ∙ early.announced;
    during = each_then (LeavesPages P a.state) first second early.during
        (λ x past. let leaves = late.during x past in
        record {
          settled = leaves.settled ∙ early.settled;
          announced = leaves.announced ∙ early.announced;
          left =
              leaves.left;
        });
    now = late.now;
  }

module _ (old new : FlashMedium) where
  -- and so does all that follows from it
  pub does_weaken : (P Q : Pages → Type 0) → ((pages : Pages) → P pages → Q pages) → Does P old new → Does Q old new
  does_weaken P Q more does = record {
    settled = does.settled;
    announced = does.announced;
    during = λ x past. let leaves = does.during x past in
        record {
          settled = leaves.settled;
          announced = leaves.announced;
          left =
              λ plain. more x.left (leaves.left plain);
        };
    now = more new.state.pages does.now;
  }

  -- what holds at the start holds all through a stretch that only looks
  pub does_nothing : (P : Pages → Type 0) → new.state ≡ old.state → EachFlashCase (IsStill old.state) old new
      → P old.state.pages → Does P old new
  does_nothing P same still holds = record {
    settled = ap (λ s. s.settled) same;
    announced = ap (λ s. s.announced) same;
    during = λ x past. let is = still x past in
        record { settled = is.settled; announced = is.announced; left = λ plain. subst P (sym is.left) holds };
    now = subst (λ s. P s.pages) (sym same) holds;
  }

  -- a call that failed to change what was settled or announced only looked
  pub failed_looks : new.state ≡ old.state → EachFlashCase (λ c. IsStill old.state c ⊎ IsStill new.state c) old new
      → EachFlashCase (IsStill old.state) old new
  failed_looks same cases x past = ⊎_elim (λ is. is) (λ is. subst (λ s. IsStill s x) same is) (cases x past)

  -- a call that changes pages: what holds before it, after it, and of all that is torn by it
  module _ (P : Pages → Type 0) (done : Pages) (Tears : Pages → Pages → Type 0) where
    abbrev Cases : FlashCase → Type 0
    Cases x = IsStill old.state x ⊎ (IsStill new.state x ⊎ IsCutShort done Tears old.state x)

    abbrev Torn : Type 0
    Torn = (left : Pages) → Tears old.state.pages left → IsPlain old.state.pages done left → P left

    cut_does : new.state.settled ≡ old.state.settled → new.state.announced ≡ old.state.announced → P new.state.pages
        → EachFlashCase Cases old new
        → P old.state.pages → Torn → Does P old new
    cut_does settled announced after cases before torn = record {
      settled = settled;
      announced = announced;
      during = λ x past. ⊎_elim
          (λ is. record {
            settled = is.settled;
            announced = is.announced;
            left =
                λ plain. subst P (sym is.left) before;
          })
          (λ late. ⊎_elim
          (λ is. record {
            settled = is.settled ∙ settled;
            announced = is.announced ∙ announced;
            left =
                λ plain. subst P (sym is.left) after;
          })
          (λ cut. record {
            settled = cut.settled;
            announced = cut.announced;
            left = λ plain. torn x.left cut.left (subst (λ p. IsPlain p done x.left) cut.before
                (subst (λ p. IsPlain x.before p x.left) cut.whole plain));
          })
          late)
          (cases x past);
      now = after;
    }

    ends : {T E : Type 0} (result : Result T E) → OnOk result (new.state ≡ record old.state { pages = done })
        → OnErr result (IsLeftBy done Tears old.state new.state)
        → EachFlashCase Cases old new → P old.state.pages → P done → Torn → Does P old new
    ends (Ok x) state failed cases before after torn =
        cut_does (ap (λ s. s.settled) state) (ap (λ s. s.announced) state) (subst (λ s. P s.pages) (sym state) after)
        cases before torn
    ends (Err e) state failed cases before after torn =
        cut_does failed.settled failed.announced (torn new.state.pages failed.torn failed.plain) cases before torn

  -- a page is programmed, or that failed
  pub program_does : {T E : Type 0} (P : Pages → Type 0) (block page : ℕ) (bytes : List ℕ) (result : Result T E)
      → OnOk result (new.state ≡ programmed old.state block page bytes)
      → OnErr result (FailsToProgram block page bytes old.state new.state)
      → EachFlashCase (λ c. IsStill old.state c ⊎ (IsStill new.state c ⊎ ProgramCase block page bytes old.state c)) old
      new
      → P old.state.pages → P (program_page old.state.pages block page bytes)
      → ((left : Pages) → TornPage block page old.state.pages left
      → IsPlain old.state.pages (program_page old.state.pages block page bytes) left → P left)
      → Does P old new
  program_does P block page bytes result = ends P (program_page old.state.pages block page bytes) (TornPage block page)
      result

  -- a block is erased, or that failed
  pub erase_does : {T E : Type 0} (P : Pages → Type 0) (block : ℕ) (result : Result T E)
      → OnOk result (new.state ≡ erased old.state block)
      → OnErr result (FailsToErase block old.state new.state)
      → EachFlashCase (λ c. IsStill old.state c ⊎ (IsStill new.state c ⊎ EraseCase block old.state c)) old new
      → P old.state.pages → P (erase_block old.state.pages block)
      → ((left : Pages) → TornBlock block old.state.pages left
      → IsPlain old.state.pages (erase_block old.state.pages block) left → P left)
      → Does P old new
  erase_does P block result = ends P (erase_block old.state.pages block) (TornBlock block) result
