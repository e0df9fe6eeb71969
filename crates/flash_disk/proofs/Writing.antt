-- Writes into files, page by page: what each step finds, and what the steps make of the files together.
use Rattle.std.proofs.Common.{◌≡◌, ◌⊎◌, ℕ, ◌+◌, ◌-◌, ◌*◌, ◌/◌, ◌%◌, ◌<◌, ◌≤◌, Bool, true, false, List, Result, Ok, Err}
use Rattle.std.proofs.Common.{OnOk, OnErr}
use Rattle.std.proofs.Common.{length, take, drop, max, get_or, cond, sym, refl, ap, ◌∙◌, subst, inl, inr, ⊎_elim, arith}
use Rattle.std.proofs.Common.{eq-eqb, true≢false}
use Rattle.std.specs.Prelude.{min, is_err, IsTrue, IsSome, Option, Some, None, nat_eq, ◌&&◌}
use Rattle.std.proofs.lemmas.Bool.{cases_lt, cases_eq, ne_eqb, and_from, and_left, and_right, lt-ltb, le-ltb}
use Rattle.std.proofs.lemmas.List.{get_or_past}
use Rattle.disk_model.specs.Image.{Image, TornImage, put_image}
use Rattle.flash_model.specs.Pages.{Pages}
use Rattle.flash_model.specs.State.{FlashState, IsStill, announce_write}
use Rattle.flash_model.specs.FlashMedium.{FlashMedium, IsLawfulFlash, FlashElapses, EachFlashCase}
use Rattle.flash_disk.specs.declared.layer.LayerState.{LayerState}
use Rattle.flash_disk.specs.declared.table.FilePage.{FilePage}
use Rattle.flash_disk.specs.declared.table.Newest.{Newest}
use Rattle.flash_disk.specs.Newest.{Placed, newest, places, IsUsable}
use Rattle.flash_disk.specs.Known.{known, len_known}
use Rattle.flash_disk.specs.FlashFiles.{byte_in, file_byte, file_len, flash_files}
use Rattle.flash_disk.proofs.FlashFilesLaws.{length-flash_files, byte-flash_files}
use Rattle.flash_disk.specs.Learnt.{LedOf, IsContent, HasPlace}
use Rattle.flash_disk.specs.Does.{Does}
use Rattle.flash_disk.specs.PutPart.{PutPart, PutOrNot}
use Rattle.flash_disk.specs.Standing.{IsAgreed, IsStrayless, StaysAgreed, DenotesFiles}
use Rattle.flash_disk.specs.Sound.{files_on, IsSoundLayer, Sound, MayBeAdded, IsDescribedBy, PendsAt, FitsIn, LeavesPut}
use Rattle.flash_disk.specs.Sound.{ShowsZeros}
use Rattle.flash_disk.specs.Sound.{ShowsPage, WipesPage}
use Rattle.flash_disk.specs.Looks.{still_case}
use Rattle.flash_disk.specs.Writes.{LeavesTorn, with_write, WritesInto}
use Rattle.flash_disk.proofs.Entering.{sound_usable}
use Rattle.flash_disk.proofs.Reading.{len_is}
use Rattle.flash_disk.proofs.Parts.{PartSoFar, narrower, same_part, part_from_nothing, part_more, part_all, whole_part}
use Rattle.flash_disk.proofs.Parts.{torn_in_more, torn_refl}
use Rattle.flash_disk.proofs.Stretches.{does_nothing, does_weaken, does_then}

pub on_ok_both : {T E P Q R : Type 0} (r : Result T E) → (P → Q → R) → OnOk r P → OnOk r Q → OnOk r R
on_ok_both (Ok x) from p q = from p q
on_ok_both (Err e) from p q = q

pub no_error : {T E P : Type 0} (r : Result T E) → is_err r ≡ false → OnOk r P → P
no_error (Ok x) none p = p
no_error (Err e) none p = absurd (true≢false none)

pub is_error : {T E P : Type 0} (r : Result T E) → is_err r ≡ true → OnErr r P → P
is_error (Ok x) some p = absurd (true≢false (sym some))
is_error (Err e) some p = p

-- a write that was not announced
pub none_written : (a b : FlashMedium) (file at : ℕ) (bytes : List ℕ) → b.state ≡ a.state
    → EachFlashCase (IsStill a.state) a b → WritesInto file at bytes a b
none_written a b file at bytes same looks = record {
  now = inl same;
  during = λ c past. inl (looks c past);
  first = inl (record { now = ap (λ (s : FlashState). s.pages) same; during = λ c past. (looks c past).left });
}

pub fault_written : {F : Type 0} (told : Bool) (medium : F → FlashMedium) (a b : F) → b ≡ a
    → IsLawfulFlash told (medium a) → (file at : ℕ) (bytes : List ℕ) → WritesInto file at bytes (medium a) (medium b)
fault_written told medium a b same lawful file at bytes =
    subst (λ f. WritesInto file at bytes (medium a) (medium f)) (sym same)
    (none_written (medium a) (medium a) file at bytes refl (λ c past. lawful.only_now c past))

-- ---- what a sound layer has

module _ (m : FlashMedium) (s : LayerState) (sound : IsSoundLayer m s) where
  pub usable_now : IsUsable m.state.pages m.blocks
  usable_now = sound_usable m.state.pages m.blocks s sound

  pub holds_sound : s.unsure ≡ None → IsDescribedBy m s
  holds_sound sure = record {
    sure = m.state.pages;
    sound = sound;
    pends =
        subst (PendsAt m.state.pages m.state.pages m.blocks s) (sym sure) refl;
  }

  -- no part was put yet
  pub leaves_nothing : (file at : ℕ) (bytes : List ℕ) (len : ℕ) → LeavesPut file at bytes len m m.state.pages
  leaves_nothing file at bytes len = record { put = inl refl; usable = usable_now; agreed = λ agreed. agreed }

-- no call at all
pub does_none : (told : Bool) (m : FlashMedium) → IsLawfulFlash told m → (P : Pages → Type 0) → P m.state.pages
    → Does P m m
does_none told m lawful P holds = does_nothing m m P refl (λ x past. lawful.only_now x past) holds

-- ---- what is said of a later flash, said of an earlier one

module _ (a b : FlashMedium) (blocks : b.blocks ≡ a.blocks) (agreed : StaysAgreed a b.state.pages) (pages : Pages) where
  usable_before : IsUsable pages b.blocks → IsUsable pages a.blocks
  usable_before usable = subst (IsUsable pages) blocks usable

  agreed_before : StaysAgreed b pages → StaysAgreed a pages
  agreed_before stays here = subst (λ k. IsAgreed pages (places k)) blocks
      (stays (subst (λ k. IsAgreed b.state.pages (places k)) (sym blocks) (agreed here)))

  module _ (files : files_on b ≡ files_on a) where
    put_before : (file at : ℕ) (bytes : List ℕ) (len : ℕ) → LeavesPut file at bytes len b pages
        → LeavesPut file at bytes len a pages
    put_before file at bytes len leaves = record {
      put = subst (λ f. PutOrNot file at bytes len f (flash_files pages a.blocks)) files
          (subst (λ k. PutOrNot file at bytes len (files_on b) (flash_files pages k)) blocks leaves.put);
      usable = usable_before leaves.usable;
      agreed = agreed_before leaves.agreed;
    }

    torn_before : (file at n : ℕ) → LeavesTorn file at n b pages → LeavesTorn file at n a pages
    torn_before file at n leaves = record {
      torn = subst (λ f. TornImage file at n f (flash_files pages a.blocks)) files
          (subst (λ k. TornImage file at n (files_on b) (flash_files pages k)) blocks leaves.torn);
      usable = usable_before leaves.usable;
      agreed = agreed_before leaves.agreed;
    }

    stands_before : DenotesFiles b pages → DenotesFiles a pages
    stands_before stands = record {
      files_are = subst (λ k. flash_files pages k ≡ files_on b) blocks stands.files_are ∙ files;
      usable = usable_before stands.usable;
      agreed = agreed_before stands.agreed;
    }

-- ---- a stretch that only looks

module _ (a b : FlashMedium) (state : b.state ≡ a.state) (blocks : b.blocks ≡ a.blocks) where
  pub pages_seen : b.state.pages ≡ a.state.pages
  pages_seen = ap (λ (t : FlashState). t.pages) state

  pub files_seen : files_on b ≡ files_on a
  files_seen = ap (λ (t : FlashState). flash_files t.pages b.blocks) state
      ∙ ap (λ k. flash_files a.state.pages k) blocks

  pub fits_seen : (s t : LayerState) → t ≡ s → (file page len : ℕ) (bytes : List ℕ) → FitsIn a s file page len bytes
      → FitsIn b t file page len bytes
  fits_seen s t known file page len bytes fits = subst (λ (q : FlashState). MayBeAdded q.pages b.blocks t file page len
      bytes)
      (sym state)
      (subst (λ k. MayBeAdded a.state.pages k t file page len bytes) (sym blocks)
      (subst (λ u. MayBeAdded a.state.pages a.blocks u file page len bytes) (sym known) fits))

  byte_seen : (file i : ℕ) → file_byte b.state.pages (places b.blocks) file i
      ≡ file_byte a.state.pages (places a.blocks) file i
  byte_seen file i = ap (λ p. file_byte p (places b.blocks) file i) pages_seen
      ∙ ap (λ k. file_byte a.state.pages (places k) file i) blocks

  pub shown_seen : (d : FlashMedium) (file page : ℕ) (bytes : List ℕ) → ShowsPage b d file page bytes
      → ShowsPage a d file page bytes
  shown_seen d file page bytes shown = λ f i. shown f i
      ∙ ap (λ z. cond (nat_eq f file && nat_eq (i / 256) page) (get_or bytes (i % 256) 0) z) (byte_seen f i)

  agreed_seen : StaysAgreed a b.state.pages
  agreed_seen here = subst (λ p. IsAgreed p (places a.blocks)) (sym pages_seen) here

  -- and then a call that writes a part, of which less is said of the flash before the look
  pub does_after_look : (Q : FlashMedium → Pages → Type 0) (file at : ℕ) (bytes : List ℕ) (len : ℕ) (c : FlashMedium)
      → ((pages : Pages) → LeavesPut file at bytes len a pages → Q a pages)
      → Q a a.state.pages → FlashElapses a b → FlashElapses b c → EachFlashCase (IsStill a.state) a b
      → Does (LeavesPut file at bytes len b) b c → Does (Q a) a c
  does_after_look Q file at bytes len c more holds first second still does =
      does_then a b c (Q a) first second (does_nothing a b (Q a) state still holds)
      (does_weaken b c (LeavesPut file at bytes len b) (Q a)
      (λ pages leaves. more pages (put_before a b blocks agreed_seen pages files_seen file at bytes len leaves)) does)

-- ---- one page

-- a page of the file as it is
module _ (a : FlashMedium) (file page : ℕ) (was : List ℕ)
    (is : IsContent a.state.pages (places a.blocks) (record { file = file; page = page }) was) where
  pub content_byte : (j : ℕ) → j < 256 → get_or was j 0 ≡ get_or (files_on a file) (256 * page + j) 0
  content_byte j small = ⊎_elim
      (λ within. is j small
      ∙ (ap (λ b. cond b (file_byte a.state.pages (places a.blocks) file (256 * page + j)) 0)
      (lt-ltb (256 * page + j) (file_len a.state.pages (places a.blocks) file) within)
      ∙ sym (byte-flash_files a.state.pages a.blocks file (256 * page + j) within)))
      (λ past. is j small
      ∙ (ap (λ b. cond b (file_byte a.state.pages (places a.blocks) file (256 * page + j)) 0)
      (le-ltb (256 * page + j) (file_len a.state.pages (places a.blocks) file) past)
      ∙ sym (get_or_past (files_on a file) (256 * page + j) 0
      (let long = length-flash_files a.state.pages a.blocks file in omega (arith, long, past)))))
      (cases_lt (256 * page + j) (file_len a.state.pages (places a.blocks) file))

  -- with these bytes in it from a place on
  module _ (from len : ℕ) (bytes content : List ℕ)
      (here : (j : ℕ) → j < length bytes → get_or content (from + j) 0 ≡ get_or bytes (0 + j) 0)
      (before : (k : ℕ) → k < from → get_or content k 0 ≡ get_or was k 0)
      (after : (k : ℕ) → from + length bytes ≤ k → get_or content k 0 ≡ get_or was k 0) where
    -- it may be added
    pub page_fits : (s : LayerState) → HasPlace s.table (record { file = file; page = page })
        → 256 * page + from + length bytes ≤ len
        → length (files_on a file) ≤ len → ShowsZeros a file len → FitsIn a s file page len content
    page_fits s place end no_shorter grows = let long = length-flash_files a.state.pages a.blocks file in record {
      place = place;
      no_shorter = omega (arith, long, no_shorter);
      zeros = λ j small past. after j (omega (arith, end, past))
          ∙ (content_byte j small ∙ get_or_past (files_on a file) (256 * page + j) 0 (omega (arith, no_shorter, past)));
      grows = λ i past inside apart. grows i past inside;
    }

    -- what adding it makes of the files is what the bytes alone make of them
    pub page_narrower : (next : Image) → length content ≡ 256 → from + length bytes ≤ 256
        → PutPart file (256 * page) content len (files_on a) next
        → PutPart file (256 * page + from) bytes len (files_on a) next
    page_narrower next full within = narrower file page from content bytes len (files_on a) next full within
        (λ j inside. here j inside ∙ ap (λ k. get_or bytes k 0) (let e : 0 + j ≡ j = omega arith in e))
        (λ j small out. ⊎_elim (before j) (after j) out ∙ content_byte j small)

    pub leaves_narrower : length content ≡ 256 → from + length bytes ≤ 256 → (pages : Pages)
        → LeavesPut file (256 * page) content len a pages → LeavesPut file (256 * page + from) bytes len a pages
    leaves_narrower full within pages leaves = record {
      put = ⊎_elim (λ same. inl same) (λ done. inr (page_narrower (flash_files pages a.blocks) full within done))
          leaves.put;
      usable = leaves.usable;
      agreed = leaves.agreed;
    }

-- ---- bytes past the end of a file

module _ (pages : Pages) (n : ℕ) where
  byte_none : (k : Option Newest) (best : Option Placed) → k ≡ None → LedOf pages n k best → (j : ℕ)
      → byte_in best j ≡ 0
  byte_none k None none led j = refl
  byte_none k (Some x) none led j = absurd (subst (λ z. LedOf pages n z (Some x)) none led)

  byte_unfilled : (e : Newest) (best : Option Placed) → LedOf pages n (Some e) best → (j : ℕ) → e.filled ≤ j
      → byte_in best j ≡ 0
  byte_unfilled e None led j past = absurd led
  byte_unfilled e (Some x) led j past = led.leads.filled j past

-- the bytes of a page end within the file
unfilled : (page filled len i : ℕ) → (0 < filled → 256 * page + filled ≤ len) → len ≤ i → i / 256 ≡ page
    → filled ≤ i % 256
unfilled page filled len i end past here = ⊎_elim
    (λ some. let fits = end some in omega (arith, fits, past, here))
    (λ none. omega (arith, none))
    (cases_lt 0 filled)

-- the files stand as they are
pub stands : (m : FlashMedium) (s : LayerState) → IsSoundLayer m s → DenotesFiles m m.state.pages
stands m s sound = record { files_are = refl; usable = usable_now m s sound; agreed = λ agreed. agreed }

module _ (a : FlashMedium) (s : LayerState) (sound : IsSoundLayer a s) (file page len : ℕ)
    (len_known_is : len ≡ len_known s.table file) where
  pub long_as : file_len a.state.pages (places a.blocks) file ≡ len
  long_as = sym (len_known_is ∙ len_is a.state.pages (places a.blocks) s.table sound.knows file)

  abbrev key : FilePage
  key = record { file = file; page = page }

  led : LedOf a.state.pages (places a.blocks) (known s.table key) (newest a.state.pages file page (places a.blocks))
  led = sound.knows.led.says key

  byte_here : (i : ℕ) → i / 256 ≡ page → byte_in (newest a.state.pages file page (places a.blocks)) (i % 256) ≡ 0
      → file_byte a.state.pages (places a.blocks) file i ≡ 0
  byte_here i here zero = ap (λ p. byte_in (newest a.state.pages file p (places a.blocks)) (i % 256)) here ∙ zero

  wipes_nothing : ((i : ℕ) → i / 256 ≡ page → file_len a.state.pages (places a.blocks) file ≤ i
      → file_byte a.state.pages (places a.blocks) file i ≡ 0) → WipesPage a a file page
  wipes_nothing zero = record { len = λ f. refl; wiped = zero; kept = λ f i apart. refl }

  -- a page without a record has nothing to wipe
  pub wiped_none : known s.table key ≡ None → WipesPage a a file page
  wiped_none none = wipes_nothing (λ i here past. byte_here i here
      (byte_none a.state.pages (places a.blocks) (known s.table key) (newest a.state.pages file page (places a.blocks))
      none led (i % 256)))

  -- nor has one whose bytes end within the file
  pub wiped_within : (e : Newest) → known s.table key ≡ Some e → (0 < e.filled → 256 * page + e.filled ≤ len)
      → WipesPage a a file page
  wiped_within e known_is end = wipes_nothing (λ i here past. byte_here i here
      (byte_unfilled a.state.pages (places a.blocks) e (newest a.state.pages file page (places a.blocks))
      (subst (λ k. LedOf a.state.pages (places a.blocks) k (newest a.state.pages file page (places a.blocks))) known_is
      led) (i % 256)
      (unfilled page e.filled len i end (let long = long_as in omega (arith, long, past)) here)))

  module _ (was : List ℕ) (is : IsContent a.state.pages (places a.blocks) (record { file = file; page = page }) was)
    where
      zero_past : (j : ℕ) → j < 256 → len ≤ 256 * page + j → get_or was j 0 ≡ 0
      zero_past j small past = content_byte a file page was is j small
          ∙ get_or_past (files_on a file) (256 * page + j) 0
          (let long = length-flash_files a.state.pages a.blocks file in let own =
          long_as in omega (arith, long, own, past))

      -- the page as it is shown may be added
      pub stray_fits : (e : Newest) → known s.table key ≡ Some e → FitsIn a s file page len was
      stray_fits e known_is = record {
        place = inl (subst (λ k. IsSome k) (sym known_is) refl);
        no_shorter = (let long = long_as in omega (arith, long));
        zeros = zero_past;
        grows = λ i past inside apart. absurd (let long = long_as in omega (arith, long, past, inside));
      }

      -- which leaves the files as they are
      same_files : (next : Image) → length was ≡ 256 → PutPart file (256 * page) was len (files_on a) next
          → next ≡ files_on a
      same_files next full part = same_part file (256 * page) was len (files_on a) next part
          (let long = length-flash_files a.state.pages a.blocks file in let own = long_as in omega (arith, long, own))
          (λ j inside below. content_byte a file page was is j (omega (arith, inside, full)))

      pub stands_still : length was ≡ 256 → (pages : Pages) → LeavesPut file (256 * page) was len a pages
          → DenotesFiles a pages
      stands_still full pages leaves = record {
        files_are = ⊎_elim (λ same. same) (λ done. same_files (flash_files pages a.blocks) full done) leaves.put;
        usable = leaves.usable;
        agreed = leaves.agreed;
      }

      -- and wipes what is past the end
      pub wiped_by : (d : FlashMedium) → length was ≡ 256 → PutPart file (256 * page) was len (files_on a) (files_on d)
          → ShowsPage a d file page was
          → WipesPage a d file page
      wiped_by d full part shown =
          let same : files_on d ≡ files_on a = same_files (files_on d) full part in record {
            len = λ f. sym (length-flash_files d.state.pages d.blocks f)
                ∙ (ap (λ (i : Image). length (i f)) same ∙ length-flash_files a.state.pages a.blocks f);
            wiped = λ i here past. shown file i
                ∙ (ap (λ b. cond b (get_or was (i % 256) 0) (file_byte a.state.pages (places a.blocks) file i))
                (and_from (nat_eq file file) (nat_eq (i / 256) page) (eq-eqb file file refl)
                (eq-eqb (i / 256) page here))
                ∙ zero_past (i % 256) (omega arith) (let long = long_as in omega (arith, long, past, here)));
            kept = λ f i apart. shown f i
                ∙ ap (λ b. cond b (get_or was (i % 256) 0) (file_byte a.state.pages (places a.blocks) f i))
                (⊎_elim
                (λ other. and_left (nat_eq f file) (nat_eq (i / 256) page) (ne_eqb f file other))
                (λ other. and_right (nat_eq f file) (nat_eq (i / 256) page) (ne_eqb (i / 256) page other))
                apart);
          }

-- ---- pages wiped one after the other

-- the files stand as they stood
module _ (a b : FlashMedium) (time : FlashElapses a b) where
  pub files_stand : DenotesFiles a b.state.pages → files_on b ≡ files_on a
  files_stand stands = ap (λ k. flash_files b.state.pages k) time.blocks ∙ stands.files_are

  pub stands_then : (d : FlashMedium) → FlashElapses b d → Does (DenotesFiles a) a b → Does (DenotesFiles b) b d
      → Does (DenotesFiles a) a d
  stands_then d second early late = does_then a b d (DenotesFiles a) time second early
      (does_weaken b d (DenotesFiles b) (DenotesFiles a) (λ pages.
      stands_before a b time.blocks early.now.agreed pages (files_stand early.now)) late)

-- up to this page no byte past the end of the file shows, and none of any file from a byte on
pub record Wiped (a b : FlashMedium) (file page from : ℕ) : Type 0 where
  pub len : (f : ℕ) → file_len b.state.pages (places b.blocks) f ≡ file_len a.state.pages (places a.blocks) f
  pub strayless : IsStrayless b.state.pages (places b.blocks) from
  pub zeros : (i : ℕ) → file_len a.state.pages (places a.blocks) file ≤ i → i < 256 * page
      → file_byte b.state.pages (places b.blocks) file i ≡ 0

pub wiped_start : (a : FlashMedium) (s : LayerState) → IsSoundLayer a s → (file page : ℕ)
    → 256 * page ≤ len_known s.table file → Wiped a a file page s.stray_end
wiped_start a s sound file page early = record {
  len = λ f. refl;
  strayless = sound.strays;
  zeros = λ i past inside. absurd (let long = len_is a.state.pages (places a.blocks) s.table sound.knows file in
      omega (arith, long, past, inside, early));
}

module _ (a b : FlashMedium) (file page from : ℕ) (before : Wiped a b file page from) where
  pub wiped_more : (d : FlashMedium) → WipesPage b d file page → Wiped a d file (page + 1) from
  wiped_more d wipes = record {
    len = λ f. wipes.len f ∙ before.len f;
    strayless = λ f i past from_there. (let same = wipes.len f in
        let was : file_len b.state.pages (places b.blocks) f ≤ i = omega (arith, past, same) in ⊎_elim
        (λ of_file. ⊎_elim
        (λ here. subst (λ q. file_byte d.state.pages (places d.blocks) q i ≡ 0) (sym of_file)
        (wipes.wiped i here (subst (λ q. file_len b.state.pages (places b.blocks) q ≤ i) of_file was)))
        (λ apart. wipes.kept f i (inr apart) ∙ before.strayless f i was from_there)
        (cases_eq (i / 256) page))
        (λ other. wipes.kept f i (inl other) ∙ before.strayless f i was from_there)
        (cases_eq f file));
    zeros = λ i past inside. (let same = before.len file in ⊎_elim
        (λ here. wipes.wiped i here (omega (arith, past, same)))
        (λ apart. wipes.kept file i (inr apart) ∙ before.zeros i past (omega (arith, inside, apart)))
        (cases_eq (i / 256) page));
  }

-- nothing to wipe: the bytes that may show end within the file
pub wiped_nowhere : (a : FlashMedium) (s : LayerState) → IsSoundLayer a s → (file until : ℕ)
    → min s.stray_end until ≤ len_known s.table file → ShowsZeros a file until
wiped_nowhere a s sound file until within = λ i past inside.
    sound.strays file i past (let long = len_is a.state.pages (places a.blocks) s.table sound.knows file in
    omega (arith, long, past, inside, within))

-- the table says how long the file is, after this as before
pub len_still : (a b : FlashMedium) (s t : LayerState) → IsSoundLayer a s → IsSoundLayer b t → (file : ℕ)
    → file_len b.state.pages (places b.blocks) file ≡ file_len a.state.pages (places a.blocks) file
    → len_known s.table file ≡ len_known t.table file
len_still a b s t sound_a sound_b file same =
    len_is a.state.pages (places a.blocks) s.table sound_a.knows file
    ∙ (sym same ∙ sym (len_is b.state.pages (places b.blocks) t.table sound_b.knows file))

-- ---- bytes written page by page

-- The first bytes of a write are done: the files have them, and the file is as long as it will be once the first was
-- written. From there to the end that it will have nothing shows.
pub record WroteSoFar (a b : FlashMedium) (file at : ℕ) (bytes : List ℕ) (len done : ℕ) : Type 0 where
  pub part : PartSoFar file at bytes len done (files_on a) (files_on b)
  pub no_shorter : length (files_on b file) ≤ len
  pub grows : ShowsZeros b file len

pub wrote_nothing : (a : FlashMedium) (file at : ℕ) (bytes : List ℕ) (len : ℕ) → length (files_on a file) ≤ len
    → ShowsZeros a file len
    → WroteSoFar a a file at bytes len 0
wrote_nothing a file at bytes len no_shorter grows = record {
  part =
      part_from_nothing file at bytes len (files_on a);
  no_shorter = no_shorter;
  grows = grows;
}

module _ (a b : FlashMedium) (file at : ℕ) (bytes : List ℕ) (len done : ℕ)
    (before : WroteSoFar a b file at bytes len done) where
  -- the next bytes are written
  pub wrote_more : (count : ℕ) (d : FlashMedium) → done ≤ length bytes
      → PutPart file (at + done) (take count (drop done bytes)) len (files_on b) (files_on d)
      → WroteSoFar a d file at bytes len (done + count)
  wrote_more count d within put = let long = put.long in record {
    part = inr (part_more file at bytes len (files_on a) done count (files_on b) (files_on d) within before.part put);
    no_shorter = omega (arith, long);
    grows = λ i past inside. absurd (let as_long = length-flash_files d.state.pages d.blocks file in
        omega (arith, long, as_long, past, inside));
  }

  -- in their midst the write is one that was cut short
  pub leaves_torn : (count : ℕ) → done + count ≤ length bytes → 0 < length bytes
      → len ≤ max (length (files_on a file)) (at + length bytes) → b.blocks ≡ a.blocks
      → StaysAgreed a b.state.pages → (pages : Pages) → LeavesPut file (at + done) (take count (drop done bytes)) len b
      pages
      → LeavesTorn file at (length bytes) a pages
  leaves_torn count within some reach blocks agreed pages leaves = record {
    torn = subst (λ k. TornImage file at (length bytes) (files_on a) (flash_files pages k)) blocks
        (torn_in_more file at bytes len (files_on a) done count (files_on b) (flash_files pages b.blocks) within some
        reach before.part leaves.put);
    usable = usable_before a b blocks agreed pages leaves.usable;
    agreed = agreed_before a b blocks agreed pages leaves.agreed;
  }

  -- all bytes were written
  pub wrote_all : length bytes ≡ done → 0 < length bytes → len ≡ max (length (files_on a file)) (at + length bytes)
      → files_on b ≡ put_image (files_on a) file at bytes
  wrote_all all some reach = whole_part file at bytes len (files_on a) (files_on b) some reach
      (part_all file at bytes len (files_on a) (files_on b) some
      (subst (λ k. PartSoFar file at bytes len k (files_on a) (files_on b)) (sym all) before.part))

  -- until they are written
  pub torn_then : (count : ℕ) (d : FlashMedium) → done + count ≤ length bytes → 0 < length bytes
      → len ≡ max (length (files_on a file)) (at + length bytes)
      → FlashElapses a b → FlashElapses b d → Does (LeavesTorn file at (length bytes) a) a b
      → Does (LeavesPut file (at + done) (take count (drop done bytes)) len b) b d
      → Does (LeavesTorn file at (length bytes) a) a d
  torn_then count d within some reach first second early late =
      does_then a b d (LeavesTorn file at (length bytes) a) first second early
      (does_weaken b d (LeavesPut file (at + done) (take count (drop done bytes)) len b)
      (LeavesTorn file at (length bytes) a)
      (leaves_torn count within some (omega (arith, reach)) first.blocks early.now.agreed) late)

-- the place of a byte in its page, and how many bytes are taken from a place
pub moved_there : (P : ℕ → ℕ → Type 0) (start done count : ℕ)
    → P (256 * (start / 256) + start % 256) (done + count - done) → P start count
moved_there P start done count holds =
    let place : 256 * (start / 256) + start % 256 ≡ start = omega arith in
    let many : done + count - done ≡ count = omega arith in
    subst (λ k. P start k) many (subst (λ k. P k (done + count - done)) place holds)

-- no byte was written yet
pub torn_nothing : (m : FlashMedium) (s : LayerState) → IsSoundLayer m s → (file at n : ℕ)
    → LeavesTorn file at n m m.state.pages
torn_nothing m s sound file at n = record {
  torn = torn_refl file at n (files_on m);
  usable =
      usable_now m s sound;
  agreed = λ agreed. agreed;
}

-- ---- a write as a whole

module _ (file at : ℕ) (bytes : List ℕ) where
  module _ (b c : FlashMedium) (time : FlashElapses b c) (wipes : Does (DenotesFiles b) b c) where
    stands_torn : (pages : Pages) → DenotesFiles b pages → LeavesTorn file at (length bytes) b pages
    stands_torn pages stands = record {
      torn = subst (TornImage file at (length bytes) (files_on b)) (sym stands.files_are)
          (torn_refl file at (length bytes) (files_on b));
      usable = stands.usable;
      agreed = stands.agreed;
    }

    -- bytes past the end of the file were wiped
    pub wipes_torn : Does (LeavesTorn file at (length bytes) b) b c
    wipes_torn = does_weaken b c (DenotesFiles b) (LeavesTorn file at (length bytes) b) stands_torn wipes

    -- and then the bytes were written
    pub wipes_then : (d : FlashMedium) → FlashElapses c d → Does (LeavesTorn file at (length bytes) c) c d
        → Does (LeavesTorn file at (length bytes) b) b d
    wipes_then d second writes = does_then b c d (LeavesTorn file at (length bytes) b) time second wipes_torn
        (does_weaken c d (LeavesTorn file at (length bytes) c) (LeavesTorn file at (length bytes) b)
        (λ pages. torn_before b c time.blocks wipes.now.agreed pages (files_stand b c time wipes.now) file at
        (length bytes)) writes)

    -- the file is as long as the table said
    pub len_wiped : (s : LayerState) → IsSoundLayer b s → length (files_on c file) ≡ len_known s.table file
    len_wiped s sound = ap (λ (f : Image). length (f file)) (files_stand b c time wipes.now)
        ∙ (length-flash_files b.state.pages b.blocks file ∙ sym
        (len_is b.state.pages (places b.blocks) s.table sound.knows file))

    -- nothing shows up to the end that it will have
    pub grows_wiped : (s : LayerState) → IsSoundLayer b s → (end len : ℕ) → len ≡ max (len_known s.table file) end
        → ShowsZeros c file end → ShowsZeros c file len
    grows_wiped s sound end len is zeros = λ i past inside. zeros i past
        (let known_is = len_wiped s sound in let long = length-flash_files c.state.pages c.blocks file in
        omega (arith, is, past, inside, known_is, long))

  module _ (a b : FlashMedium) (state : b.state ≡ announce_write a.state file at bytes) (time : FlashElapses a b) where
    pages_announced : b.state.pages ≡ a.state.pages
    pages_announced = ap (λ (t : FlashState). t.pages) state

    -- the announcement changes no page
    pub sound_announced : (s : LayerState) → IsSoundLayer a s → IsSoundLayer b s
    sound_announced s sound = subst (λ p. Sound p b.blocks s) (sym pages_announced)
        (subst (λ k. Sound a.state.pages k s) (sym time.blocks) sound)

    pub files_announced : files_on b ≡ files_on a
    files_announced = ap (λ p. flash_files p b.blocks) pages_announced
        ∙ ap (λ k. flash_files a.state.pages k) time.blocks

    torn_announced : (pages : Pages) → LeavesTorn file at (length bytes) b pages
        → LeavesTorn file at (length bytes) a pages
    torn_announced pages = torn_before a b time.blocks (λ agreed.
        subst (λ p. IsAgreed p (places a.blocks)) (sym pages_announced) agreed) pages
        files_announced file at (length bytes)

    settled_announced : b.state.settled ≡ a.state.settled
    settled_announced = ap (λ (t : FlashState). t.settled) state

    with_announced : b.state.announced ≡ with_write a.state file at bytes
    with_announced = ap (λ (t : FlashState). t.announced) state

    -- and what comes after it is the write
    pub writes_into : (told : Bool) → IsTrue told → IsLawfulFlash told b → (s : LayerState) → IsSoundLayer a s
        → EachFlashCase (λ x. IsStill a.state x ⊎ IsStill b.state x) a b
        → (d : FlashMedium) → FlashElapses b d → Does (LeavesTorn file at (length bytes) b) b d
        → WritesInto file at bytes a d
    writes_into told tells lawful s sound cases d second does = record {
      now = inr (
        does.settled ∙ settled_announced,
        does.announced ∙ with_announced,
        torn_announced d.state.pages does.now,
      );
      during = λ x past. ⊎_elim
          (λ early. ⊎_elim
          (λ is. inl is)
          (λ is. inr (record {
            settled = is.settled ∙ settled_announced;
            announced = is.announced ∙ with_announced;
            left = λ plain. subst (LeavesTorn file at (length bytes) a) (sym (is.left ∙ pages_announced))
                (torn_nothing a s sound file at (length bytes));
          }))
          (cases x early))
          (λ late. (let leaves = does.during x late in inr (record {
            settled = leaves.settled ∙ settled_announced;
            announced = leaves.announced ∙ with_announced;
            left = λ plain. torn_announced x.left (leaves.left plain);
          })))
          (second.nothing_else a.moment x time.later past);
      first = inr (second.keeps a.moment (still_case (announce_write a.state file at bytes)) time.later
          (lawful.counts_now tells a.moment (still_case (announce_write a.state file at bytes)) time.later
          (subst (λ z. IsStill z (still_case (announce_write a.state file at bytes))) (sym state)
          (record { before = refl; whole = refl; left = refl; settled = refl; announced = refl }))));
    }
