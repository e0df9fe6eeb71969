-- The loss of pages of a block costs the files of one copy.
use Rattle.std.proofs.Common.{◌≡◌, ◌≢◌, ◌⊎◌, ℕ, ◌/◌, ◌%◌, map, refl, sym, ap, subst, ◌∙◌, inl}
use Rattle.std.proofs.Common.{⊎_elim, arith, true≢false}
use Rattle.std.specs.Prelude.{Option, Some, None, Bool, false, is_some}
use Rattle.std.specs.List.{range_with_len}
use Rattle.std.proofs.Math.Path.{fun_ext}
use Rattle.std.proofs.lemmas.Option.{none-some}
use Rattle.std.proofs.lemmas.Bool.{cases_eq}
use Rattle.flash_model.specs.Pages.{Pages}
use Rattle.flash_record.specs.PageRecord.{PageRecord, record_in}
use Rattle.flash_disk.specs.Newest.{Placed, record_at, newest, places, IsNewest, IsNewestOf, IsUsable}
use Rattle.flash_disk.specs.FlashFiles.{file_byte, file_len, flash_files}
use Rattle.flash_disk.specs.Standing.{said, IsAgreed}
use Rattle.flash_disk.specs.declared.table.FilePage.{FilePage}
use Rattle.flash_disk.specs.declared.table.Table.{Table}
use Rattle.flash_disk.specs.Learnt.{number, IsLed}
use Rattle.flash_disk.specs.Apart.{copy_of, IsOfCopy, IsApart, LosesPages, CostsOneCopy}
use Rattle.flash_disk.specs.Emptied.{HasEmptyBlock, LosesAnyPages}
use Rattle.flash_disk.specs.LedApart.{IsLedApart}
use Rattle.flash_disk.proofs.Entering.{entry_of}
use Rattle.flash_disk.proofs.NewestLaws.{newest_is}
use Rattle.flash_disk.proofs.PageCount.{count_loses}
use Rattle.flash_disk.proofs.Clearing.{empty_none}
use Rattle.flash_disk.proofs.Standing.{IsSaid, FileSaysAlike, is_newest_of, newest_said, file_said_byte, file_said_len}

module _ (old new : Pages) (n block copy : ℕ) (agreed : IsAgreed old n) (of_copy : IsOfCopy old n block copy)
    (loses : LosesPages block old new) where
  -- a record that is there was there
  was_there : (j : ℕ) (q : PageRecord) → record_at new j ≡ Some q → record_at old j ≡ Some q
  was_there j q there = ⊎_elim
      (λ here. ⊎_elim
      (λ same. sym (subst (λ b. record_in (new b (j % 64)) ≡ record_in (old b (j % 64))) (sym here) (ap record_in same))
      ∙ there)
      (λ lost. absurd (none-some q (sym (subst (λ b. record_in (new b (j % 64)) ≡ None) (sym here) lost) ∙ there)))
      (loses.here (j % 64)))
      (λ apart. sym (ap record_in (loses.elsewhere (j / 64) (j % 64) apart)) ∙ there)
      (cases_eq (j / 64) block)

  module _ (file page : ℕ) (other : copy_of file ≢ copy) where
    none_came : IsNewestOf old file page n None → (best : Option Placed) → IsNewestOf new file page n best
        → said best ≡ None
    none_came none None is = refl
    none_came none (Some x) is = absurd
        (none x.place x.says is.within (was_there x.place x.says is.there) is.of_page)

    still_said : (x : Placed) → newest old file page n ≡ Some x → IsNewest old file page n x
        → IsSaid new file page n x.says
    still_said x found is = let left = of_copy file page x found other in record {
      of_page = is.of_page;
      place = left.0;
      within = left.1;
      there = ap record_in (loses.elsewhere (left.0 / 64) (left.0 % 64) left.2) ∙ left.3;
      most = λ j q inside there of_page. is.most j q inside (was_there j q there) of_page;
      one = λ j q inside there of_page same. agreed file page x found j q inside (was_there j q there) of_page same;
    }

    by_best : (best : Option Placed) → newest old file page n ≡ best → IsNewestOf old file page n best
        → said (newest new file page n) ≡ said best
    by_best None found is = none_came is (newest new file page n) (newest_is new file page n)
    by_best (Some x) found is = newest_said new file page n x.says (still_said x found is)

    -- the newest record of a page of another copy says what it said
    same_said : said (newest new file page n) ≡ said (newest old file page n)
    same_said = by_best (newest old file page n) refl (newest_is old file page n)

-- the files of the other copies are as they were
pub costs_one_copy : (old new : Pages) (blocks block copy : ℕ) → IsAgreed old (places blocks)
    → IsOfCopy old (places blocks) block copy → LosesPages block old new → CostsOneCopy copy blocks old new
unfolding flash_files
costs_one_copy old new blocks block copy agreed of_copy loses file other =
    let n = places blocks in
    let alike : FileSaysAlike old new n file = (λ page. same_said old new n block copy agreed of_copy loses file page
    other) in
    ap (λ b. map b (range_with_len 0 (file_len new n file)))
    (fun_ext (λ i. file_said_byte old new n file alike i))
    ∙ ap (λ l. map (file_byte old n file) (range_with_len 0 l)) (file_said_len old new n file alike)

-- where the table leads for each block to records of one copy, each block is of one
pub led_apart : (pages : Pages) (blocks : ℕ) (table : Table) → IsLed pages (places blocks) table → IsLedApart table
    → IsApart pages blocks
led_apart pages blocks table led owns block = (
  owns.0 block,
  λ file page x is other.
      let key : FilePage = record { file = file; page = page } in
      let found = entry_of pages (places blocks) table led key x is in
      let small = found.2.leads.small in (
        number found.0.place,
        found.2.within,
        (λ same. other (sym (owns.1 key found.0 found.1)
            ∙ ap owns.0 (let e : found.0.place.block ≡ block = omega (arith, same, small) in e))),
        found.2.leads.there,
      ),
)

-- what is not there is nothing
pub none_there : {T : Type 0} (o : Option T) {b : Bool} → b ≡ is_some o → b ≡ false → o ≡ None
none_there None is none = refl
none_there (Some x) is none = absurd (true≢false (sym is ∙ none))

-- ---- and leaves the flash usable

module _ (old new : Pages) (loses : LosesAnyPages old new) where
  -- a record that is there was there
  still_there : (j : ℕ) (q : PageRecord) → record_at new j ≡ Some q → record_at old j ≡ Some q
  still_there j q there = ⊎_elim
      (λ same. sym (ap record_in same) ∙ there)
      (λ lost. absurd (none-some q (sym lost ∙ there)))
      (loses (j / 64) (j % 64))

  -- an empty block is spare, whatever was lost
  pub stays_usable : (blocks : ℕ) → IsUsable old blocks → HasEmptyBlock old blocks → IsUsable new blocks
  stays_usable blocks usable empty = record {
    fits = (let before = usable.fits in let less = count_loses old new (places blocks) still_there in
        omega (arith, before, less));
    block = empty.0;
    within = empty.1;
    spare = λ x needed at.
        let is = is_newest_of new x.says.file x.says.page (places blocks) x needed.newest_is in
        none-some x.says (sym (empty_none old empty.0 empty.2 x.place at) ∙ still_there x.place x.says is.there);
  }

-- a loss in one block is one
pub loses_any : (old new : Pages) (block : ℕ) → LosesPages block old new → LosesAnyPages old new
loses_any old new block loses b p = ⊎_elim
    (λ here. subst (λ k. (new k p ≡ old k p) ⊎ (record_in (new k p) ≡ None)) (sym here) (loses.here p))
    (λ apart. inl (loses.elsewhere b p apart))
    (cases_eq b block)
