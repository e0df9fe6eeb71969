-- That a flash can be opened at every moment, and that no rivals come: what is kept says so of a flash, and calls that
-- look or write leave it so.
use Rattle.std.proofs.Common.{◌≡◌, ◌⊎◌, ℕ, ◌+◌, ◌<◌, ◌≤◌, Bool, List, Result, Ok, Err, OnOk, OnErr, cond, sym, refl, ap}
use Rattle.std.proofs.Common.{subst, ◌∙◌, ⊎_elim, arith, true≢false}
use Rattle.std.specs.Prelude.{Option, Some, None, IsSome, is_none}
use Rattle.flash_model.specs.Pages.{Pages}
use Rattle.flash_model.specs.State.{IsStill, settle_pages}
use Rattle.flash_model.specs.FlashMedium.{FlashMedium, IsLawfulFlash, FlashElapses, EachFlashCase}
use Rattle.flash_record.specs.PageRecord.{PageRecord}
use Rattle.flash_disk.specs.declared.table.Newest.{Newest}
use Rattle.flash_disk.specs.declared.table.FlashPage.{FlashPage}
use Rattle.flash_disk.specs.declared.layer.LayerState.{LayerState}
use Rattle.flash_disk.specs.Newest.{record_at, newest, places, page_count, page_limit, IsSpare, IsUsable}
use Rattle.flash_disk.specs.Known.{page_of, known, page_len, limit_of}
use Rattle.flash_disk.specs.Learnt.{number}
use Rattle.flash_disk.specs.Sound.{Sound, Pends, PendsAt, IsDescribedBy, Enters}
use Rattle.flash_disk.specs.Throughout.{KeepsUsable, KeepsAgreed, UsableSince, AgreedSince}
use Rattle.flash_disk.specs.Standing.{IsAgreed, StaysAgreed}
use Rattle.flash_disk.specs.Writes.{WritesInto}
use Rattle.flash_disk.proofs.Growing.{adds_is_spare}
use Rattle.flash_disk.proofs.PageCount.{led_none, count_adds}
use Rattle.flash_disk.proofs.Sparing.{number_block}
use Rattle.flash_disk.proofs.Standing.{HasSameRecords, records_count, records_spare}
use Rattle.flash_disk.proofs.Tearing.{torn_same, torn_page}

-- ---- what is kept

-- a page that has an entry, or room for one, is one of the pages for which there is room
one_more : (entry : Option Newest) (len limit : ℕ) → len ≤ limit → IsSome entry ⊎ (len < limit)
    → len + cond (is_none entry) 1 0 ≤ limit
one_more None len limit fits place = ⊎_elim (λ some. absurd (true≢false (sym some))) (λ room. omega (arith, room)) place
one_more (Some e) len limit fits place = omega (arith, fits)

module _ (sure pages : Pages) (blocks : ℕ) (s : LayerState) (sound : Sound sure blocks s) where
  sure_fits : page_count sure (places blocks) ≤ page_limit blocks
  sure_fits = let count = sound.count in let fits = sound.counted.fits in let limit =
      sound.limit in omega (arith, count, fits, limit)

  with_spare : (p : Pages) → page_count p (places blocks) ≤ page_limit blocks → IsSpare p (places blocks) s.spare
      → IsUsable p blocks
  with_spare p fits spare = record { fits = fits; block = s.spare; within = sound.within; spare = spare }

  same_usable : HasSameRecords sure pages → IsUsable pages blocks
  same_usable same = with_spare pages
      (let count = records_count sure pages same (places blocks) in let fits = sure_fits in omega (arith, count, fits))
      (records_spare sure pages same (places blocks) s.spare sound.is_spare)

  -- a record that came to be in a page has an entry, or room for one
  added_fits : (place : FlashPage) (r : PageRecord) → Enters sure pages blocks s place r
      → page_count pages (places blocks) ≤ page_limit blocks
  added_fits place r enters =
      let count = count_adds sure pages (places blocks) place r enters.adds in
      let entry = known s.table (page_of r) in
      let more : page_len s.table + cond (is_none entry) 1 0 ≤ limit_of s.table =
      one_more entry (page_len s.table) (limit_of s.table) sound.counted.fits enters.fits.place in
      let none : is_none entry ≡ is_none (newest sure r.file r.page (places blocks)) =
      led_none sure (places blocks) entry (newest sure r.file r.page (places blocks)) (sound.knows.led.says (page_of r))
      in
      let known_count = sound.count in
      let limit = sound.limit in
      let most : page_len s.table + cond (is_none (newest sure r.file r.page (places blocks))) 1 0 ≤ limit_of s.table =
      subst (λ b. page_len s.table + cond b 1 0 ≤ limit_of s.table) none more in
      omega (arith, count, most, known_count, limit)

  -- whatever a page in doubt holds
  pending_usable : (place : FlashPage) → Pends sure pages blocks s place → (o : Option PageRecord)
      → record_at pages (number place) ≡ o → IsUsable pages blocks
  pending_usable place pends None none = same_usable
      (torn_same sure pages (number place) (record_at pages (number place)) pends.nothing
      (torn_page sure place.block place.page pages pends.elsewhere) none)
  pending_usable place pends (Some r) some = with_spare pages (added_fits place r (pends.may_enter r some))
      (adds_is_spare sure pages (places blocks) place r (pends.may_enter r some).adds s.spare sound.is_spare
      (λ same. pends.apart (sym (number_block place pends.small) ∙ same)))

  kept_usable : (unsure : Option FlashPage) → PendsAt sure pages blocks s unsure → IsUsable pages blocks
  kept_usable None same = subst (λ p. IsUsable p blocks) (sym same) (with_spare sure sure_fits sound.is_spare)
  kept_usable (Some place) pends = pending_usable place pends (record_at pages (number place)) refl

pub holds_usable : (m : FlashMedium) (s : LayerState) → IsDescribedBy m s → IsUsable m.state.pages m.blocks
holds_usable m s described = kept_usable described.sure m.state.pages m.blocks s described.sound s.unsure described.pends

-- ---- calls

-- a settle changes no page
pub settle_stays : {T E : Type 0} (a b : FlashMedium) (result : Result T E)
    → OnOk result (b.state ≡ settle_pages a.state) → OnErr result (b.state ≡ a.state)
    → b.state.pages ≡ a.state.pages
settle_stays a b (Ok x) settled failed = ap (λ s. s.pages) settled
settle_stays a b (Err e) settled failed = ap (λ s. s.pages) failed

module _ (a b : FlashMedium) (elapses : FlashElapses a b) (usable : IsUsable a.state.pages a.blocks) where
  still_usable : (pages : Pages) → pages ≡ a.state.pages → IsUsable pages a.blocks
  still_usable pages same = subst (λ p. IsUsable p a.blocks) (sym same) usable

  -- calls that change no page
  pub settle_usable : b.state.pages ≡ a.state.pages → EachFlashCase (λ c. IsStill a.state c ⊎ IsStill b.state c) a b
      → KeepsUsable a b
  settle_usable pages cases = record {
    blocks = elapses.blocks;
    now = still_usable b.state.pages pages;
    during = λ c past plain. still_usable c.left (⊎_elim (λ still. still.left) (λ still. still.left ∙ pages)
        (cases c past));
  }

  -- calls that only look
  pub look_usable : b.state ≡ a.state → EachFlashCase (IsStill a.state) a b → KeepsUsable a b
  look_usable state looks = record {
    blocks = elapses.blocks;
    now = still_usable b.state.pages (ap (λ s. s.pages) state);
    during = λ c past plain. still_usable c.left (looks c past).left;
  }

  -- a write
  pub write_usable : (file at : ℕ) (bytes : List ℕ) → WritesInto file at bytes a b → KeepsUsable a b
  write_usable file at bytes writes = record {
    blocks = elapses.blocks;
    now = ⊎_elim
        (λ same. still_usable b.state.pages (ap (λ s. s.pages) same))
        (λ wrote. wrote.2.usable)
        writes.now;
    during = λ c past plain. ⊎_elim
        (λ still. still_usable c.left still.left)
        (λ leaves. (leaves.left plain).usable)
        (writes.during c past);
  }

-- no call at all
pub rest_usable : (told : Bool) (m : FlashMedium) → IsLawfulFlash told m → IsUsable m.state.pages m.blocks
    → KeepsUsable m m
rest_usable told m lawful usable = record {
  blocks = refl;
  now = usable;
  during = λ c past plain. subst (λ p. IsUsable p m.blocks) (sym (lawful.only_now c past).left) usable;
}

-- one stretch after the other
pub usable_then : (a b c : FlashMedium) → FlashElapses a b → FlashElapses b c → KeepsUsable a b → KeepsUsable b c
    → KeepsUsable a c
usable_then a b c first second early late = record {
  blocks = late.blocks ∙ early.blocks;
  now = subst (IsUsable c.state.pages) early.blocks late.now;
  during = λ x past plain. ⊎_elim
      (λ before. early.during x before plain)
      (λ since. subst (IsUsable x.left) early.blocks (late.during x since plain))
      (second.nothing_else a.moment x first.later past);
}

-- what could be opened since a moment can be so after calls that leave what can be opened
pub usable_since : (a b : FlashMedium) → FlashElapses a b → KeepsUsable a b → (t : ℕ) → t ≤ a.moment → UsableSince a t
    → UsableSince b t
usable_since a b time kept t le was = record {
  many = subst (λ (n : ℕ). 4 ≤ n) (sym time.blocks) was.many;
  few = subst (λ (n : ℕ). n ≤ 4096) (sym time.blocks) was.few;
  now = subst (IsUsable b.state.pages) (sym time.blocks) kept.now;
  during = λ c past plain. subst (IsUsable c.left) (sym time.blocks)
      (⊎_elim (λ before. was.during c before plain) (λ since. kept.during c since plain)
      (time.nothing_else t c le past));
}

-- ---- rivals

stays_agreed : (a : FlashMedium) (pages : Pages) → pages ≡ a.state.pages → StaysAgreed a pages
stays_agreed a pages same agreed = subst (λ p. IsAgreed p (places a.blocks)) (sym same) agreed

module _ (a b : FlashMedium) where
  -- calls that only look
  pub look_agreed : b.state ≡ a.state → EachFlashCase (IsStill a.state) a b → KeepsAgreed a b
  look_agreed state looks = record {
    now = stays_agreed a b.state.pages (ap (λ s. s.pages) state);
    during = λ c past plain. stays_agreed a c.left (looks c past).left;
  }

  -- calls that change no page
  pub settle_agreed : b.state.pages ≡ a.state.pages → EachFlashCase (λ c. IsStill a.state c ⊎ IsStill b.state c) a b
      → KeepsAgreed a b
  settle_agreed pages cases = record {
    now = stays_agreed a b.state.pages pages;
    during = λ c past plain. stays_agreed a c.left (⊎_elim (λ still. still.left) (λ still. still.left ∙ pages)
        (cases c past));
  }

  -- a write
  pub write_agreed : (file at : ℕ) (bytes : List ℕ) → WritesInto file at bytes a b → KeepsAgreed a b
  write_agreed file at bytes writes = record {
    now = ⊎_elim
        (λ same. stays_agreed a b.state.pages (ap (λ s. s.pages) same))
        (λ wrote. wrote.2.agreed)
        writes.now;
    during = λ c past plain. ⊎_elim
        (λ still. stays_agreed a c.left still.left)
        (λ leaves. (leaves.left plain).agreed)
        (writes.during c past);
  }

-- one stretch after the other
module _ (a b c : FlashMedium) (first : FlashElapses a b) (second : FlashElapses b c) (early : KeepsAgreed a b)
    (late : KeepsAgreed b c) where
  agreed_by : (pages : Pages) → StaysAgreed b pages → StaysAgreed a pages
  agreed_by pages stays agreed = subst (λ k. IsAgreed pages (places k)) first.blocks
      (stays (subst (λ k. IsAgreed b.state.pages (places k)) (sym first.blocks) (early.now agreed)))

  pub agreed_then : KeepsAgreed a c
  agreed_then = record {
    now = agreed_by c.state.pages late.now;
    during = λ x past plain. ⊎_elim
        (λ before. early.during x before plain)
        (λ since. agreed_by x.left (late.during x since plain))
        (second.nothing_else a.moment x first.later past);
  }

-- what had no rivals since a moment has none after calls that bring none
pub agreed_since : (a b : FlashMedium) → FlashElapses a b → KeepsAgreed a b → (t : ℕ) → t ≤ a.moment → AgreedSince a t
    → AgreedSince b t
agreed_since a b time kept t le was = record {
  now = here b.state.pages (kept.now was.now);
  during = λ c past plain. here c.left (⊎_elim (λ before. was.during c before plain)
      (λ since. kept.during c since plain was.now) (time.nothing_else t c le past));
}
  where
    here : (pages : Pages) → IsAgreed pages (places a.blocks) → IsAgreed pages (places b.blocks)
    here pages agreed = subst (λ k. IsAgreed pages (places k)) (sym time.blocks) agreed
