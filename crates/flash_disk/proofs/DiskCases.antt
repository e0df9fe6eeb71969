-- What a disk over a flash says of crashes, from what the flash says of them.
use Rattle.std.proofs.Common.{◌≡◌, ℕ, ◌+◌, ◌≤◌, Bool, true, false, cond, List, [], ◌∷◌, ◌++◌, length, sym, refl, ap}
use Rattle.std.proofs.Common.{◌∙◌, subst, inl, inr, ⊎_elim, le_refl}
use Rattle.std.specs.Prelude.{IsTrue}
use Rattle.std.proofs.Math.Path.{fun_ext}
use Rattle.std.proofs.lemmas.Bool.{cases_eq}
use Rattle.disk_model.specs.Image.{Image, put_image, TornImage}
use Rattle.disk_model.specs.Case.{Case, WriteCase, WriteOrNot, Follows}
use Rattle.disk_model.specs.Medium.{Medium, Grows, Elapses, OnlyReads}
use Rattle.disk_model.specs.Written.{put_none, put_image_here, put_image_elsewhere}
use Rattle.flash_model.specs.State.{Announced, FlashCase, IsStill}
use Rattle.flash_model.specs.FlashMedium.{FlashMedium, IsLawfulFlash, FlashElapses, EachFlashCase}
use Rattle.flash_disk.specs.FlashFiles.{flash_files}
use Rattle.flash_disk.specs.FlashDiskMedium.{put_announced, disk_case, IsCaseOf, files_told}
use Rattle.flash_disk.specs.FlashDiskMedium.{flash_disk_medium}
use Rattle.flash_disk.specs.FlashDiskLaws.{told_moment, same_case}
pub use Rattle.flash_disk.specs.FlashDiskLaws.{told_files, disk_is_lawful}
use Rattle.flash_disk.specs.Throughout.{KeepsUsable, KeepsAgreed}
use Rattle.flash_disk.proofs.Parts.{torn_refl}
use Rattle.flash_disk.specs.KeepsApart.{ApartSince}
use Rattle.flash_disk.specs.Looks.{still_case}
use Rattle.flash_disk.proofs.Throughout.{usable_since, agreed_since}

-- the same pages, the same files
same_files : (told : Bool) (m m' : FlashMedium) → (IsTrue told → m'.state.pages ≡ m.state.pages)
    → (IsTrue told → m'.blocks ≡ m.blocks) → files_told told m' ≡ files_told told m
same_files true m m' pages blocks = λ i. flash_files (pages refl i) (blocks refl i)
same_files false m m' pages blocks = refl

module _ (told : Bool) (m m' : FlashMedium) (own own' written written' : ℕ) where
  abbrev start : Medium
  start = flash_disk_medium told m own written

  abbrev end : Medium
  end = flash_disk_medium told m' own' written'

  -- the flash's cases since its moment
  abbrev Since : (FlashCase → Type 0) → Type 0
  Since P = IsTrue told → EachFlashCase P m m'

  le_of : (t : ℕ) → IsTrue told → t ≤ start.moment → t ≤ m.moment
  le_of t tells le = subst (λ k. t ≤ k) (told_moment told m.moment tells) le

  case_since : (c : Case) → end.since start.moment c → (f : FlashCase) × m'.since m.moment f × IsCaseOf m'.blocks f c
  case_since c past = (past.1.0, subst (λ k. m'.since k past.1.0) (told_moment told m.moment past.0) past.1.1, past.1.2)

  -- what reads gave at a moment is of one before the call, or of one since its start
  files_since : (time : IsTrue told → FlashElapses m m') → Grows start.moment start.gave end.gave
  files_since time = record {
    nothing_else = λ t c le past.
        let on = time past.0 in
        ⊎_elim
        (λ before. inl (
          past.0,
          (
            past.1.0,
            before,
            subst (λ n. c ≡ disk_case n (still_case past.1.0)) on.blocks
                past.1.2,
          ),
        ))
        (λ since. inr (
          past.0,
          (
            past.1.0,
            subst (λ k. m'.since k (still_case past.1.0))
                (sym (told_moment told m.moment past.0)) since,
            past.1.2,
          ),
        ))
        (on.nothing_else t (still_case past.1.0) (le_of t past.0 le) past.1.1);
    keeps = λ t c le past.
        let on = time past.0 in (
          past.0,
          (
            past.1.0,
            on.keeps t (still_case past.1.0) (le_of t past.0 le) past.1.1,
            subst (λ n. c ≡ disk_case n (still_case past.1.0)) (sym on.blocks) past.1.2,
          ),
        );
    adds = λ t c le past.
        let on = time past.0 in (
          past.0,
          (
            past.1.0,
            on.adds t (still_case past.1.0) (le_of t past.0 le)
                (subst (λ k. m'.since k (still_case past.1.0)) (told_moment told m.moment past.0) past.1.1),
            past.1.2,
          ),
        );
  }

  -- time goes on as it does for the flash
  pub disk_elapses : (IsTrue told → FlashElapses m m') → m.faults + own ≤ m'.faults + own' → written ≤ written'
      → (IsTrue told → KeepsUsable m m') → (IsTrue told → KeepsAgreed m m')
      → (IsTrue told → (t : ℕ) → t ≤ m.moment → ApartSince m t → ApartSince m' t) → Elapses start end
  disk_elapses time faults more usable agreed apart = record {
    later = later told time;
    nothing_else = λ t c le past.
        let on = time past.0 in
        ⊎_elim
        (λ before. inl (
          past.0,
          (
            past.1.0,
            before,
            (
              past.1.2.0,
              subst (λ n. c ≡ disk_case n past.1.0) on.blocks past.1.2.1,
            ),
          ),
        ))
        (λ since. inr (
          past.0,
          (
            past.1.0,
            subst (λ k. m'.since k past.1.0) (sym (told_moment told m.moment past.0))
                since,
            past.1.2,
          ),
        ))
        (on.nothing_else t past.1.0 (le_of t past.0 le) past.1.1);
    keeps = λ t c le past.
        let on = time past.0 in (
          past.0,
          (
            past.1.0,
            on.keeps t past.1.0 (le_of t past.0 le) past.1.1,
            (past.1.2.0, subst (λ n. c ≡ disk_case n past.1.0) (sym on.blocks) past.1.2.1),
          ),
        );
    adds = λ t c le past.
        let on = time past.0 in
        let f = case_since c past in
        (past.0, (f.0, on.adds t f.0 (le_of t past.0 le) f.1, f.2));
    gave = files_since time;
    opens = λ t le was tells. usable_since m m' (time tells) (usable tells) t (le_of t tells le) (was tells);
    agrees = λ t le was tells. agreed_since m m' (time tells) (agreed tells) t (le_of t tells le) (was tells);
    apart = λ t le was tells. apart tells t (le_of t tells le) (was tells);
    faults = faults;
    written = more;
  }
    where
      later : (b : Bool) → (IsTrue b → FlashElapses m m') → cond b m.moment 0 ≤ cond b m'.moment 0
      later true on = (on refl).later
      later false on = le_refl 0

  -- calls that only look
  pub disk_reads : (IsTrue told → m'.state ≡ m.state) → (IsTrue told → m'.blocks ≡ m.blocks) → Since (IsStill m.state)
      → written' ≡ written → OnlyReads start end
  disk_reads state blocks still wrote = record {
    image = same_files told m m' (λ t. ap (λ s. s.pages) (state t)) blocks;
    now = λ c now. (now.0, now.1 ∙ λ i. disk_case (blocks now.0 i) (still_case (state now.0 i)));
    during = λ c past.
        let f = case_since c past in
        (past.0, f.2.1 ∙ same_case m.state m.blocks m'.blocks f.0 (blocks past.0) (still past.0 f.0 f.1));
    written = wrote;
  }

-- no call at all
pub disk_rests : (told : Bool) (m : FlashMedium) (own own' written : ℕ) → IsLawfulFlash told m
    → OnlyReads (flash_disk_medium told m own written) (flash_disk_medium told m own' written)
disk_rests told m own own' written lawful =
    disk_reads told m m own own' written written (λ t. refl) (λ t. refl) (λ t f since. lawful.only_now f since) refl

-- ---- writes

-- a write that failed before it was announced, or as it was
pub disk_write_refused : (old new : Medium) (file at : ℕ) (bytes : List ℕ) → OnlyReads old new
    → TornImage file at (length bytes) old.image new.image
    × Follows (WriteOrNot file at bytes) old.now (new.since old.moment)
disk_write_refused old new file at bytes reads = (
  subst (TornImage file at (length bytes) old.image) (sym reads.image) (torn_refl file at (length bytes) old.image),
  λ c past. (c, reads.during c past, inr refl),
)

-- a write of no bytes leaves the files
pub put_nothing : (image : Image) (file at : ℕ) (bytes : List ℕ) → length bytes ≡ 0
    → put_image image file at bytes ≡ image
put_nothing image file at bytes none = fun_ext λ f. ⊎_elim
    (λ e. subst (λ q. put_image image file at bytes q ≡ image q) (sym e)
    (put_image_here image file at bytes ∙ put_none (image file) at bytes none))
    (λ other. put_image_elsewhere image file at bytes f other)
    (cases_eq f file)

-- and leaves the cases
pub disk_write_nothing : (old new : Medium) (file at : ℕ) (bytes : List ℕ) → length bytes ≡ 0 → OnlyReads old new
    → (new.image ≡ put_image old.image file at bytes) × Follows (WriteCase file at bytes) old.now new.now
    × Follows (WriteOrNot file at bytes) old.now (new.since old.moment)
disk_write_nothing old new file at bytes none reads = (
  reads.image ∙ sym (put_nothing old.image file at bytes none),
  (λ c now. (
    c,
    reads.now c now,
    record {
      base = refl;
      full = sym (put_nothing c.full file at bytes none);
      left =
          torn_refl file at (length bytes) c.left;
    },
  )),
  (disk_write_refused old new file at bytes reads).1,
)

pub put_after : (image : Image) (ws : List Announced) (w : Announced)
    → put_announced image (ws ++ w ∷ []) ≡ put_image (put_announced image ws) w.file w.at w.bytes
put_after image [] w = refl
put_after image (v ∷ ws) w = put_after (put_image image v.file v.at v.bytes) ws w
