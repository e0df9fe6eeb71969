-- What is kept fits the pages once the flash was opened.
use Rattle.std.proofs.Common.{◌≡◌, ℕ, ◌+◌, ◌<◌, ◌≤◌, sym, ap, subst, ◌∙◌, ⊎_elim, arith, true≢false}
use Rattle.std.specs.Prelude.{Bool, Some, None, IsTrue, IsFalse, vec_capacity}
use Rattle.std.specs.HashMap.{get, hash_map_len, spare}
use Rattle.flash_model.specs.Pages.{Pages}
use Rattle.flash_disk.specs.declared.table.FilePage.{FilePage}
use Rattle.flash_disk.specs.declared.table.Newest.{Newest}
use Rattle.flash_disk.specs.declared.table.Table.{Table}
use Rattle.flash_disk.specs.declared.layer.LayerState.{LayerState}
use Rattle.flash_disk.specs.Newest.{places, page_count, page_limit, IsSpare, IsUsable}
use Rattle.flash_disk.specs.Known.{same_page, known, page_len, limit_of, len_known, HasLen, IsFilledUpTo, IsLongest}
use Rattle.flash_disk.specs.Counted.{IsCountedTable}
use Rattle.flash_disk.specs.Learnt.{IsLed, IsLeaving, KnowsLengths, Tops}
use Rattle.flash_disk.specs.Sound.{Sound, PendsAt, IsDescribedBy}
use Rattle.flash_disk.specs.Standing.{IsAgreed}
use Rattle.flash_disk.specs.Throughout.{KeepsUsable, KeepsAgreed}
use Rattle.flash_disk.specs.Looks.{OpensFlash}
use Rattle.flash_disk.proofs.FlashFilesLaws.{one_len}
use Rattle.disk_model.specs.Medium.{Quiet}
use Rattle.flash_model.specs.State.{FlashState, FlashCase, settle_pages}
use Rattle.flash_model.specs.FlashMedium.{FlashMedium, IsLawfulFlash}
use Rattle.flash_disk.specs.FlashFiles.{flash_files}
use Rattle.flash_disk.specs.FlashDiskMedium.{put_announced, files_told, flash_disk_medium, IsJustOpened}
use Rattle.flash_disk.specs.FlashDiskLaws.{opens_now, agrees_now, apart_now}
use Rattle.flash_disk.specs.Apart.{StandApart}
use Rattle.flash_disk.proofs.DiskCases.{told_files}
use Rattle.flash_disk.proofs.Leading.{measured}
use Rattle.flash_disk.proofs.Leaving.{leads_at_last, left_out, agreed_at_last, rivals_at_last, strayless_at_last}

-- what came of a table when the lengths were taken from it, and what it then said
pub record Measures (left : Table) (s : LayerState) : Type 0 where
  pub records : s.table.newest ≡ left.newest
  pub limit : limit_of s.table ≡ limit_of left
  pub lens : page_len left ≤ spare left.lens → ((file : ℕ) → len_known left file ≡ 0) → (file : ℕ)
      → IsLongest left.newest file (len_known s.table file)
  pub measured : page_len left ≤ spare left.lens → (key : FilePage) (e : Newest) → known left key ≡ Some e
      → HasLen s.table key.file
  pub spare : spare left.lens ≤ spare s.table.lens + page_len left
  pub ends : (key : FilePage) (e : Newest) → known s.table key ≡ Some e → IsFilledUpTo s.table.lens key e s.stray_end
  pub no_rivals : IsFalse s.has_rivals → (key : FilePage) (e : Newest) → known s.table key ≡ Some e → IsFalse e.rivalled
  pub rivals : IsTrue s.has_rivals → (key : FilePage) × (e : Newest) × (known s.table key ≡ Some e) × IsTrue e.rivalled
  pub full : s.fill ≡ 64
  pub uncleared : IsFalse s.cleared

module _ (pages : Pages) (blocks : ℕ) (s : LayerState) (left : Table)
    (leaving : IsLeaving pages (places blocks) s.spare 64 left) (measures : Measures left s)
    (limit : limit_of left ≡ page_limit blocks) (room : limit_of left ≤ spare left.lens)
    (empty : (file : ℕ) → len_known left file ≡ 0) where
  led : IsLed pages (places blocks) left
  led = leads_at_last pages (places blocks) s.spare left leaving

  knows : KnowsLengths pages (places blocks) s.table
  knows = measured pages (places blocks) left s.table led measures.records measures.limit
      (measures.lens (let fits = led.fits in omega (arith, fits, room)) empty)

  -- what the table has for a page now, it had before
  there : (key : FilePage) (e : Newest) → known left key ≡ Some e → known s.table key ≡ Some e
  there key e is = ap (λ m. get same_page m key) measures.records ∙ is

  -- and what it had, it has
  before : (key : FilePage) (e : Newest) → known s.table key ≡ Some e → known left key ≡ Some e
  before key e is = ap (λ m. get same_page m key) (sym measures.records) ∙ is

  pub opened : s.spare < blocks → IsSpare pages (places blocks) s.spare → Tops pages (places blocks) s.sequence
      → IsCountedTable blocks s.table → 64 ≤ vec_capacity s.moved
      → page_len left ≡ page_count pages (places blocks) → Sound pages blocks s
  opened within is_spare tops counted memory count = record {
    knows = knows;
    tops = tops;
    strays = strayless_at_last pages (places blocks) s.spare left leaving (len_known s.table)
        (λ file. one_len pages (places blocks) file (len_known s.table file) (knows.lens file)) s.stray_end
        (λ key e is. measures.ends key e (there key e is));
    limit = measures.limit ∙ limit;
    files =
        (let same : page_len s.table ≡ page_len left = ap (λ m. hash_map_len m) measures.records in
        let more = measures.spare in let is = measures.limit in omega (arith, same, more, is, room));
    measured = λ key e is. measures.measured (let fits = led.fits in omega (arith, fits, room)) key e (before key e is);
    counted = counted;
    count = ap (λ m. hash_map_len m) measures.records ∙ count;
    memory = memory;
    within = within;
    is_spare = is_spare;
    agreed = λ no_rivals. agreed_at_last pages (places blocks) s.spare left leaving
        (λ key e is. measures.no_rivals no_rivals key e (there key e is));
    rivals = λ so. let some = measures.rivals so in rivals_at_last pages (places blocks) s.spare left leaving some.0
        some.1 (before some.0 some.1 some.2) some.3;
    apart = λ no_rivals key e is. left_out pages (places blocks) s.spare left leaving key e (before key e is);
    fresh = λ less. (let full = measures.full in absurd (omega (arith, less, full)));
    empty = λ cleared. absurd (true≢false (sym cleared ∙ measures.uncleared));
  }

-- what is kept fits all pages
pub holds_all : (m : FlashMedium) (s : LayerState) (pages : Pages) → Sound pages m.blocks s → m.state.pages ≡ pages
    → s.unsure ≡ None → IsDescribedBy m s
holds_all m s pages sound same sure = record {
  sure = pages;
  sound = sound;
  pends = subst (PendsAt pages m.state.pages m.blocks s) (sym sure) same;
}

-- the opening changes no page, and leaves what there was at every moment of it
module _ (told : Bool) (old new : FlashMedium) (t : IsTrue told) (pages : new.state.pages ≡ old.state.pages)
    (opens : OpensFlash told old new) where
  left_same : (c : FlashCase) → new.since old.moment c → c.left ≡ old.state.pages
  left_same c past = ⊎_elim (λ still. still.left) (λ settled. settled.left) (opens.during t c past)

  -- so a usable flash stays usable
  pub opens_usable : IsUsable old.state.pages old.blocks → new.blocks ≡ old.blocks → KeepsUsable old new
  opens_usable usable blocks = record {
    blocks = blocks;
    now = subst (λ p. IsUsable p old.blocks) (sym pages) usable;
    during = λ c past plain. subst (λ p. IsUsable p old.blocks) (sym (left_same c past)) usable;
  }

  -- and no rivals come
  pub opens_agreed : KeepsAgreed old new
  opens_agreed = record {
    now = λ agreed. subst (λ p. IsAgreed p (places old.blocks)) (sym pages) agreed;
    during = λ c past plain agreed. subst (λ p. IsAgreed p (places old.blocks)) (sym (left_same c past)) agreed;
  }

-- and the disk begins with it
module _ (told : Bool) (old new : FlashMedium) (lawful : IsLawfulFlash told new)
    (pages : IsTrue told → new.state.pages ≡ old.state.pages)
    (blocks : new.blocks ≡ old.blocks) where
  still_so : (P : Pages → ℕ → Type 0) → (IsTrue told → P old.state.pages old.blocks) → IsTrue told
      → P new.state.pages new.blocks
  still_so P holds t = subst (λ b. P new.state.pages b) (sym blocks)
      (subst (λ p. P p old.blocks) (sym (pages t)) (holds t))

  pub begins : (own : ℕ) → 4 ≤ old.blocks → old.blocks ≤ 4096 → (IsTrue told → IsUsable old.state.pages old.blocks)
      → IsJustOpened told old (flash_disk_medium told new own 0)
  begins own many few usable = record {
    opens = opens_now told new own 0 lawful (subst (λ (n : ℕ). 4 ≤ n) (sym blocks) many)
        (subst (λ (n : ℕ). n ≤ 4096) (sym blocks) few) (still_so IsUsable usable);
    agrees = λ agreed. agrees_now told new own 0 lawful (still_so (λ p b. IsAgreed p (places b)) agreed);
    apart = λ enough stand. apart_now told new own 0 lawful (subst (λ (n : ℕ). 16 ≤ n) (sym blocks) enough)
        (still_so StandApart stand);
  }

-- a flash that was settled makes a disk on which nothing is pending
pub settled_is_quiet : (told : Bool) (m : FlashMedium) (own written : ℕ) (s : FlashState)
    → (IsTrue told → m.state ≡ settle_pages s)
    → Quiet (flash_disk_medium told m own written)
settled_is_quiet told m own written s state c now =
    let t = now.0 in
    let image = told_files told m t in
    let base : flash_files m.state.settled m.blocks ≡ files_told told m =
    ap (λ q. flash_files q m.blocks) (ap (λ q. q.settled) (state t) ∙ sym (ap (λ q. q.pages) (state t))) ∙ sym image in
    record {
      base = ap (λ d. d.base) now.1 ∙ base;
      full = ap (λ d. d.full) now.1 ∙ (ap (put_announced (flash_files m.state.settled m.blocks))
          (ap (λ q. q.announced) (state t)) ∙ base);
      left = ap (λ d. d.left) now.1 ∙ sym image;
    }
