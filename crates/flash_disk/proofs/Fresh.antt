-- That a blank flash can be opened and has no rivals, and that records that agree are no rivals.
use Rattle.std.proofs.Common.{◌≡◌, ℕ, zero, suc, ◌+◌, ◌/◌, ◌%◌, ◌<◌, ◌≤◌, refl, sym, ap, ◌∙◌, arith, true≢false}
use Rattle.std.specs.Prelude.{Bool, true, false, None, nat_eq, ◌&&◌}
use Rattle.std.proofs.lemmas.Bool.{eqb-true}
use Rattle.std.proofs.lemmas.Option.{none-some}
use Rattle.flash_model.specs.Pages.{Pages}
use Rattle.flash_record.specs.PageRecord.{record_in}
use Rattle.flash_record.specs.Blank.{blank_is_none}
use Rattle.flash_disk.specs.Newest.{record_at, with_record, newest, opens_page, page_count, places, is_of, IsUsable}
use Rattle.flash_disk.specs.Standing.{IsAgreed, HasRivals, IsRivalled}
use Rattle.flash_disk.specs.Fresh.{IsBlankFlash}
use Rattle.flash_disk.specs.Apart.{StandApart}
use Rattle.flash_disk.proofs.Standing.{is_newest_of}

module _ (pages : Pages) (blocks : ℕ) (blank : IsBlankFlash pages blocks) where
  none_there : (i : ℕ) → i < places blocks → record_at pages i ≡ None
  none_there i within = ap record_in (blank (i / 64) (i % 64) (omega arith) (omega arith)) ∙ blank_is_none

  no_newest : (file page n : ℕ) → n ≤ places blocks → newest pages file page n ≡ None
  no_newest file page zero le = refl
  no_newest file page (suc n) le =
      ap (λ o. with_record file page n o (newest pages file page n)) (none_there n (omega arith))
      ∙ no_newest file page n (omega arith)

  no_pages : (n : ℕ) → n ≤ places blocks → page_count pages n ≡ 0
  no_pages zero le = refl
  no_pages (suc n) le =
      let rest = no_pages n (omega arith) in
      let none : page_count pages n + 0 ≡ 0 = omega (arith, rest) in
      ap (λ o. page_count pages n + opens_page pages n o) (none_there n (omega arith)) ∙ none

  pub blank_is_usable : 0 < blocks → IsUsable pages blocks
  blank_is_usable some = record {
    fits = (let none = no_pages (places blocks) (omega arith) in omega (arith, none));
    block = 0;
    within = some;
    spare = λ x needed _. none-some x (sym (no_newest x.says.file x.says.page (places blocks) (omega arith))
        ∙ needed.newest_is);
  }

  pub blank_is_agreed : IsAgreed pages (places blocks)
  blank_is_agreed file page x found = absurd (none-some x
      (sym (no_newest file page (places blocks) (omega arith)) ∙ found))

  pub blank_stands_apart : StandApart pages blocks
  blank_stands_apart block = (
    0,
    λ file page x found j inside at there. absurd (none-some x
        (sym (no_newest file page (places blocks) (omega arith)) ∙ found)),
  )

module _ (pages : Pages) (n : ℕ) where
  is_of_both : (a b : Bool) → (a && b) ≡ true → (a ≡ true) × (b ≡ true)
  is_of_both true true e = (refl, refl)
  is_of_both true false e = absurd (true≢false (sym e))
  is_of_both false b e = absurd (true≢false (sym e))

  pub agreed_has_no_rivals : IsAgreed pages n → HasRivals pages n → ⊥
  agreed_has_no_rivals agreed rivals =
      let file = rivals.0 in
      let page = rivals.1 in
      let x = rivals.2 in
      let found = rivals.3 in
      let rival : IsRivalled pages n x = rivals.4 in
      let is = is_newest_of pages file page n x found in
      let parts = is_of_both (nat_eq x.says.file file) (nat_eq x.says.page page) is.of_page in
      let same_file = eqb-true x.says.file file parts.0 in
      let same_page = eqb-true x.says.page page parts.1 in
      let of_page : is_of file page rival.says ≡ true =
      ap (λ f. is_of f page rival.says) (sym same_file) ∙ (ap (λ p. is_of x.says.file p rival.says) (sym same_page)
      ∙ rival.of_page) in
      rival.differs (agreed file page x found rival.place rival.says rival.within rival.there of_page rival.number)
