-- What a loss of pages leaves of a page of a file, and so of its bytes and of its length.
use Rattle.std.proofs.Common.{◌≡◌, ◌⊎◌, ℕ, ◌/◌, ◌%◌, ◌≤◌, map, true, refl, sym, ap, subst, ◌∙◌, inl, inr, ⊎_elim}
use Rattle.std.proofs.Common.{arith, true≢false}
use Rattle.std.specs.Prelude.{Bool, false, Option, Some, None, nat_eq, slice_index}
use Rattle.std.specs.List.{range_with_len}
use Rattle.std.proofs.Math.Path.{fun_ext}
use Rattle.std.proofs.lemmas.Bool.{cases_lt, eqb-true, false_from_ne_true}
use Rattle.std.proofs.lemmas.Option.{same_Some, none-some}
use Rattle.flash_model.specs.Pages.{Pages}
use Rattle.flash_record.specs.PageRecord.{PageRecord, record_in}
use Rattle.flash_disk.specs.Apart.{copy_of, CostsOneCopy, StandApart}
use Rattle.flash_disk.specs.Emptied.{LosesAnyPages}
use Rattle.flash_disk.specs.FlashFiles.{record_byte, byte_in, file_byte, file_len, flash_files, IsFileLen}
use Rattle.flash_disk.specs.Newest.{Placed, record_at, is_of, newest, places, IsNewest, IsNewestOf}
use Rattle.flash_disk.specs.Standing.{said, IsAgreed}
use Rattle.flash_laws.specs.Lost.{SparesFile, LeavesFileWhole, IsNoNewer, IsPageLeft, IsOlderByte, IsKeptByte, IsKeptLength}
use Rattle.flash_laws.specs.Lost.{AgreeThroughout, ArePure, LosesOfCopies}
use Rattle.flash_laws.proofs.Newest.{newest_is}
use Rattle.flash_laws.proofs.Lengths.{both_parts, file_len_is, one_len}

-- ---- files of which the same is said

said_some : (best : Option Placed) (r : PageRecord) → said best ≡ Some r
    → (x : Placed) × (best ≡ Some x) × (x.says ≡ r)
said_some None r is = absurd (none-some r is)
said_some (Some x) r is = (x, refl, same_Some x.says r is)

said_byte : (best : Option Placed) (i : ℕ) → byte_in best i ≡ record_byte (said best) i
said_byte None i = refl
said_byte (Some x) i = refl

module _ (old new : Pages) (n file : ℕ)
    (alike : (page : ℕ) → said (newest new file page n) ≡ said (newest old file page n)) where
  same_byte : (i : ℕ) → file_byte new n file i ≡ file_byte old n file i
  same_byte i = said_byte (newest new file (i / 256) n) (i % 256)
      ∙ (ap (λ o. record_byte o (i % 256)) (alike (i / 256))
      ∙ sym (said_byte (newest old file (i / 256) n) (i % 256)))

  keeps_len : (len : ℕ) → IsFileLen old n file len → IsFileLen new n file len
  keeps_len len is = record {
    most = λ page x found.
        let before = said_some (newest old file page n) x.says (sym (alike page) ∙ ap said found) in
        subst (λ (q : PageRecord). q.len ≤ len) before.2 (is.most page before.0 before.1);
    one = ⊎_elim
        (λ none. inl none)
        (λ some.
        let after = said_some (newest new file some.0 n) some.1.says (alike some.0 ∙ ap said some.2) in
        inr (some.0, after.0, after.1, some.3 ∙ ap (λ q. q.len) (sym after.2)))
        is.one;
  }

  same_len : file_len new n file ≡ file_len old n file
  same_len = sym (one_len new n file (file_len old n file) (keeps_len (file_len old n file) (file_len_is old n file)))

same_file : (old new : Pages) (blocks file : ℕ)
    → ((page : ℕ) → said (newest new file page (places blocks)) ≡ said (newest old file page (places blocks)))
    → flash_files new blocks file ≡ flash_files old blocks file
unfolding flash_files
same_file old new blocks file alike =
    let n = places blocks in
    ap (λ b. map b (range_with_len 0 (file_len new n file)))
    (fun_ext (λ i. same_byte old new n file alike i))
    ∙ ap (λ l. map (file_byte old n file) (range_with_len 0 l)) (same_len old new n file alike)

-- ---- a page

module _ (pages : Pages) (file page n : ℕ) where
  -- a page has one newest record
  one_newest : (x y : Placed) → IsNewest pages file page n x → IsNewest pages file page n y → x ≡ y
  one_newest x y is_x is_y =
      let low : x.place ≤ y.place = ⊎_elim
      (λ less. absurd (
      let lt = is_x.first y.place y.says less is_y.there is_y.of_page in
      let le = is_y.most x.place x.says is_x.within is_x.there is_x.of_page in
      omega (arith, lt, le)))
      (λ no. no) (cases_lt y.place x.place) in
      let high : y.place ≤ x.place = ⊎_elim
      (λ less. absurd (
      let lt = is_y.first x.place x.says less is_x.there is_x.of_page in
      let le = is_x.most y.place y.says is_y.within is_y.there is_y.of_page in
      omega (arith, lt, le)))
      (λ no. no) (cases_lt x.place y.place) in
      let place : x.place ≡ y.place = omega (arith, low, high) in
      let says : x.says ≡ y.says = same_Some x.says y.says
      (sym is_x.there ∙ (ap (record_at pages) place ∙ is_y.there)) in
      λ j. record { place = place j; says = says j }

  found : (x : Placed) → newest pages file page n ≡ Some x → IsNewest pages file page n x
  found x is = subst (IsNewestOf pages file page n) is (newest_is pages file page n)

module _ (old new : Pages) (loses : LosesAnyPages old new) where
  -- a record that is there was there
  was_there : (j : ℕ) (q : PageRecord) → record_at new j ≡ Some q → record_at old j ≡ Some q
  was_there j q there = ⊎_elim
      (λ same. sym (ap record_in same) ∙ there)
      (λ lost. absurd (none-some q (sym lost ∙ there)))
      (loses (j / 64) (j % 64))

  there_or_lost : (j : ℕ) (q : PageRecord) → record_at old j ≡ Some q
      → (record_at new j ≡ Some q) ⊎ (record_at new j ≡ None)
  there_or_lost j q there = ⊎_elim (λ same. inl (ap record_in same ∙ there)) inr (loses (j / 64) (j % 64))

  module _ (n file page : ℕ) where
    still_newest : (x : Placed) → IsNewest old file page n x → record_at new x.place ≡ Some x.says
        → IsNewest new file page n x
    still_newest x is there = record {
      of_page = is.of_page;
      within = is.within;
      there = there;
      most = λ j r inside at of_page. is.most j r inside (was_there j r at) of_page;
      first = λ j r before at of_page. is.first j r before (was_there j r at) of_page;
    }

    no_newer : (x y : Placed) → IsNewest old file page n x → IsNewest new file page n y
        → IsNoNewer old n file page x y.says
    no_newer x y is_x is_y = record {
      place = y.place;
      within = is_y.within;
      there = was_there y.place y.says is_y.there;
      of_page = is_y.of_page;
      number = is_x.most y.place y.says is_y.within (was_there y.place y.says is_y.there) is_y.of_page;
    }

    by_both : (was is : Option Placed) → IsNewestOf old file page n was → IsNewestOf new file page n is
        → IsPageLeft old new n file page was is
    by_both None None none is_new = refl
    by_both None (Some y) none is_y = absurd
        (none y.place y.says is_y.within (was_there y.place y.says is_y.there) is_y.of_page)
    by_both (Some x) None is_x none = ⊎_elim
        (λ there. absurd (none x.place x.says is_x.within there is_x.of_page))
        (λ lost. lost)
        (there_or_lost x.place x.says is_x.there)
    by_both (Some x) (Some y) is_x is_y = ⊎_elim
        (λ there. inl (one_newest new file page n y x is_y (still_newest x is_x there)))
        (λ lost. inr (lost, no_newer x y is_x is_y))
        (there_or_lost x.place x.says is_x.there)

    pub left : IsPageLeft old new n file page (newest old file page n) (newest new file page n)
    left = by_both (newest old file page n) (newest new file page n) (newest_is old file page n)
        (newest_is new file page n)

    -- ---- its bytes

    byte_by : (at : ℕ) (was is : Option Placed) → newest old file page n ≡ was → IsPageLeft old new n file page was is
        → (byte_in is at ≡ byte_in was at) ⊎ IsOlderByte old new n file page at (byte_in is at)
    byte_by at None is e stays = inl (ap (λ o. byte_in o at) stays)
    byte_by at (Some x) None e lost = inr (record { counted = x; counted_is = e; lost = lost; is = inl refl })
    byte_by at (Some x) (Some y) e stays = ⊎_elim
        (λ same. inl (ap (λ (z : Placed). slice_index z.says.bytes at) same))
        (λ older. inr (record {
          counted = x;
          counted_is = e;
          lost = older.0;
          is = inr (y.says, older.1, refl);
        }))
        stays

    byte_left : (at : ℕ) → (byte_in (newest new file page n) at ≡ byte_in (newest old file page n) at)
        ⊎ IsOlderByte old new n file page at (byte_in (newest new file page n) at)
    byte_left at = byte_by at (newest old file page n) (newest new file page n) refl left

    -- ---- its length

    counted_by : (y : Placed) → IsNewest new file page n y → (was : Option Placed) → newest old file page n ≡ was
        → IsNewestOf old file page n was
        → (x : Placed) × (newest old file page n ≡ Some x) × IsNoNewer old n file page x y.says
    counted_by y is_y None e none = absurd
        (none y.place y.says is_y.within (was_there y.place y.says is_y.there) is_y.of_page)
    counted_by y is_y (Some x) e is_x = (x, e, no_newer x y is_x is_y)

  pub kept_byte : (n file i : ℕ) → IsKeptByte old new n file i
  kept_byte n file i = byte_left n file (i / 256) (i % 256)

  pub kept_length : (n file : ℕ) → IsKeptLength old new n file
  kept_length n file = ⊎_elim
      (λ none. inl none)
      (λ some.
      let before = counted_by n file some.0 some.1 (found new file some.0 n some.1 some.2)
      (newest old file some.0 n) refl (newest_is old file some.0 n) in
      inr (some.0, before.0, some.1.says, before.1, before.2, some.3))
      (file_len_is new n file).one

  -- ---- a file that nothing was lost of

  module _ (n file page : ℕ) (x : Placed) (is : IsNewest new file page n x) where
    is_said : (best : Option Placed) → IsNewestOf new file page n best → said best ≡ Some x.says
    is_said None none = absurd (none x.place x.says is.within is.there is.of_page)
    is_said (Some y) is_y = ap (λ (z : Placed). Some z.says) (one_newest new file page n y x is_y is)

  spared_said : (n file : ℕ) → SparesFile old new n file → (page : ℕ) → (was : Option Placed)
      → newest old file page n ≡ was → IsPageLeft old new n file page was (newest new file page n)
      → said (newest new file page n) ≡ said was
  spared_said n file spares page None e stays = ap said stays
  spared_said n file spares page (Some x) e stays = is_said n file page x
      (still_newest n file page x (found old file page n x e) (spares page x e)) (newest new file page n)
      (newest_is new file page n)

  pub spared_file : (blocks file : ℕ) → SparesFile old new (places blocks) file
      → flash_files new blocks file ≡ flash_files old blocks file
  spared_file blocks file spares =
      let n = places blocks in
      same_file old new blocks file
      (λ page. spared_said n file spares page (newest old file page n) refl (left n file page))

  -- where the records agree an equal one is as good
  module _ (n file : ℕ) (agreed : IsAgreed old n) (leaves : LeavesFileWhole old new n file) where
    by_equal : (page : ℕ) (x : Placed) → newest old file page n ≡ Some x → (best : Option Placed)
        → IsNewestOf new file page n best → said best ≡ Some x.says
    by_equal page x e None none =
        let at = leaves page x e in
        absurd (none at.0 x.says at.1 at.2 (found old file page n x e).of_page)
    by_equal page x e (Some y) is_y =
        let at = leaves page x e in
        let is_x = found old file page n x e in
        let was = was_there y.place y.says is_y.there in
        let low = is_x.most y.place y.says is_y.within was is_y.of_page in
        let high = is_y.most at.0 x.says at.1 at.2 is_x.of_page in
        let same : y.says.sequence ≡ x.says.sequence = omega (arith, low, high) in
        ap Some (agreed file page x e y.place y.says is_y.within was is_y.of_page same)

    equal_said : (page : ℕ) (was : Option Placed) → newest old file page n ≡ was
        → IsPageLeft old new n file page was (newest new file page n) → said (newest new file page n) ≡ said was
    equal_said page None e stays = ap said stays
    equal_said page (Some x) e stays = by_equal page x e (newest new file page n) (newest_is new file page n)

  pub left_file : (blocks file : ℕ) → IsAgreed old (places blocks) → LeavesFileWhole old new (places blocks) file
      → flash_files new blocks file ≡ flash_files old blocks file
  left_file blocks file agreed leaves =
      let n = places blocks in
      same_file old new blocks file
      (λ page. equal_said n file agreed leaves page (newest old file page n) refl (left n file page))

-- ---- losses in blocks of some copies

module _ (lost : ℕ → Bool) (old new : Pages) (blocks : ℕ) (loses : LosesOfCopies lost (places blocks) old new) where
  any_pages : LosesAnyPages old new
  any_pages b p = ⊎_elim inl (λ gone. inr gone.0) (loses b p)

  spares_others : (file : ℕ) → lost (copy_of file) ≡ false → SparesFile old new (places blocks) file
  spares_others file other page x e =
      let is = found old file page (places blocks) x e in
      ⊎_elim
      (λ same. ap record_in same ∙ is.there)
      (λ gone. absurd (true≢false (sym gone.3 ∙ ap lost (sym (gone.2 file page x e x.place is.within refl is.there))
      ∙ other)))
      (loses (x.place / 64) (x.place % 64))

  pub others_stay : (file : ℕ) → lost (copy_of file) ≡ false → flash_files new blocks file ≡ flash_files old blocks file
  others_stay file other = spared_file old new any_pages blocks file (spares_others file other)

pub one_stays : (copy : ℕ) (old new : Pages) (blocks : ℕ)
    → LosesOfCopies (λ own. nat_eq own copy) (places blocks) old new → CostsOneCopy copy blocks old new
one_stays copy old new blocks loses file other = others_stay (λ own. nat_eq own copy) old new blocks loses file
    (false_from_ne_true (nat_eq (copy_of file) copy) (λ same. other (eqb-true (copy_of file) copy same)))

-- ---- blocks of one copy throughout

module _ (old new : Pages) (loses : LosesAnyPages old new) (n : ℕ) where
  pub stays_pure : ArePure old n → ArePure new n
  stays_pure pure block = let own = pure block in
      (own.0, λ j r inside here there. own.1 j r inside here (was_there old new loses j r there))

  pub stays_agreed : AgreeThroughout old n → AgreeThroughout new n
  stays_agreed agree i j q r low high at_i at_j = agree i j q r low high (was_there old new loses i q at_i)
      (was_there old new loses j r at_j)

is_of_page : (file page : ℕ) (r : PageRecord) → is_of file page r ≡ true → (r.file ≡ file) × (r.page ≡ page)
is_of_page file page r is = let parts = both_parts (nat_eq r.file file) (nat_eq r.page page) is in
    (eqb-true r.file file parts.0, eqb-true r.page page parts.1)

pub pure_stands : (pages : Pages) (blocks : ℕ) → ArePure pages (places blocks) → StandApart pages blocks
pure_stands pages blocks pure block = let own = pure block in (
  own.0,
  λ file page x e j inside here there.
      let is = found pages file page (places blocks) x e in
      ap copy_of (sym (is_of_page file page x.says is.of_page).0) ∙ own.1 j x.says inside here there,
)

pub throughout_agrees : (pages : Pages) (n : ℕ) → AgreeThroughout pages n → IsAgreed pages n
throughout_agrees pages n agree file page x e j q inside there of_page same =
    let is = found pages file page n x e in
    let own = is_of_page file page x.says is.of_page in
    let its = is_of_page file page q of_page in
    agree j x.place q x.says inside is.within there is.there (its.0 ∙ sym own.0) (its.1 ∙ sym own.1) same
