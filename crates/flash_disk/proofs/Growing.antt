-- What a record that was added makes of the files: its page has its bytes, and its file the length that it says.
use Rattle.std.proofs.Common.{◌≡◌, ◌≢◌, ◌⊎◌, ℕ, ◌+◌, ◌-◌, ◌*◌, ◌/◌, ◌%◌, ◌<◌, ◌≤◌, map, length, get_or, true, false}
use Rattle.std.proofs.Common.{cond, refl, sym, ap, subst, ◌∙◌, inl, inr, ⊎_elim, arith, true≢false, eq-eqb}
use Rattle.std.specs.Prelude.{Some, nat_eq, nat_le, nat_lt, ◌&&◌}
use Rattle.std.specs.List.{range_with_len}
use Rattle.std.proofs.Math.Path.{fun_ext}
use Rattle.std.proofs.lemmas.Bool.{cases_lt, cases_eq, cases_Bool, eqb-true, ne_eqb, and_parts, and_from, and_left}
use Rattle.std.proofs.lemmas.Bool.{and_right, le-leb, lt-leb, lt-ltb, le-ltb}
use Rattle.std.proofs.lemmas.Option.{same_Some}
use Rattle.std.proofs.lemmas.List.{get_or_past}
use Rattle.flash_model.specs.Pages.{Pages}
use Rattle.flash_record.specs.PageRecord.{PageRecord}
use Rattle.flash_disk.specs.declared.table.FlashPage.{FlashPage}
use Rattle.flash_disk.specs.Newest.{is_of, newest, places, IsSpare}
use Rattle.flash_disk.specs.FlashFiles.{byte_in, file_byte, file_len, flash_files}
use Rattle.flash_disk.proofs.FlashFilesLaws.{file_len_is, one_len, length-flash_files, byte-flash_files}
use Rattle.flash_disk.specs.Learnt.{number, AddsRecord}
use Rattle.flash_disk.specs.Standing.{IsAgreed, IsStrayless, MayGrow}
use Rattle.flash_disk.specs.PutPart.{in_range, PutPart, PutOrNot}
use Rattle.flash_disk.proofs.Programming.{placed, still, either, newest_here, newest_elsewhere}
use Rattle.flash_disk.proofs.Standing.{HasSameRecords, records_files}
use Rattle.flash_disk.proofs.Sparing.{LiesElsewhere, spare_of}

-- the page of a record is one page
is_of_parts : (file page : ℕ) (r : PageRecord) → is_of file page r ≡ true → (r.file ≡ file) × (r.page ≡ page)
is_of_parts file page r is = let parts = and_parts (nat_eq r.file file) (nat_eq r.page page) is in
    (eqb-true r.file file parts.0, eqb-true r.page page parts.1)

-- another file, or another page, is not that of the record
other_page : (file page : ℕ) (r : PageRecord) → (file ≡ r.file → page ≡ r.page → ⊥) → is_of file page r ≡ false
other_page file page r other = ⊎_elim
    (λ is. let parts = is_of_parts file page r is in absurd (other (sym parts.0) (sym parts.1)))
    (λ is. is)
    (cases_Bool (is_of file page r))

module _ (old new : Pages) (n : ℕ) (place : FlashPage) (r : PageRecord) (adds : AddsRecord old new n place r) where
  -- the newest record of a page is the one that was added, or the one that it was
  pub by_page : (file page : ℕ) → ((file ≡ r.file) × (page ≡ r.page)
      × (newest new file page n ≡ Some (placed old new n place r adds)))
      ⊎ ((is_of file page r ≡ false) × (newest new file page n ≡ newest old file page n))
  by_page file page = ⊎_elim
      (λ is. let parts = is_of_parts file page r is in inl (
        sym parts.0,
        sym parts.1,
        subst (λ f. newest new f page n ≡ Some (placed old new n place r adds)) parts.0
            (subst (λ p. newest new r.file p n ≡ Some (placed old new n place r adds)) parts.1
            (newest_here old new n place r adds)),
      ))
      (λ other. inr (other, newest_elsewhere old new n place r adds file page other))
      (cases_Bool (is_of file page r))

  -- the records are still agreed
  pub adds_agreed : IsAgreed old n → IsAgreed new n
  adds_agreed agreed = λ file page x found j q inside there of_page same. ⊎_elim
      (λ own. (let is : placed old new n place r adds ≡ x =
      same_Some (placed old new n place r adds) x (sym own.2 ∙ found) in
      let says : r ≡ x.says = ap (λ z. z.says) is in ⊎_elim
      (λ here. here.1 ∙ says)
      (λ was. (let less = adds.newer j q inside was in let e : r.sequence ≡ x.says.sequence =
      ap (λ z. z.sequence) says in absurd (omega (arith, less, same, e))))
      (either old new n place r adds j q there)))
      (λ elsewhere. ⊎_elim
      (λ here. absurd (true≢false (sym of_page ∙ (ap (is_of file page) here.1 ∙ elsewhere.0))))
      (λ was. agreed file page x (sym elsewhere.1 ∙ found) j q inside was of_page same)
      (either old new n place r adds j q there))
      (by_page file page)

  -- its file is as long as it says
  pub adds_len : file_len old n r.file ≤ r.len → file_len new n r.file ≡ r.len
  adds_len no_shorter = sym (one_len new n r.file r.len (record {
    most = λ page x found. ⊎_elim
        (λ own. (let is : placed old new n place r adds ≡ x =
        same_Some (placed old new n place r adds) x (sym own.2 ∙ found) in
        let e : r.len ≡ x.says.len = ap (λ z. z.says.len) is in omega (arith, e)))
        (λ elsewhere. (let is_len = file_len_is old n r.file in
        let le = is_len.most page x (sym elsewhere.1 ∙ found) in omega (arith, le, no_shorter)))
        (by_page r.file page);
    one = inr (r.page, placed old new n place r adds, newest_here old new n place r adds, refl);
  }))

  -- another file keeps its newest records
  other_newest : (file : ℕ) → file ≢ r.file → (page : ℕ) → newest new file page n ≡ newest old file page n
  other_newest file other page = newest_elsewhere old new n place r adds file page
      (other_page file page r (λ same here. other same))

  -- another file is as long as it was
  pub adds_other_len : (file : ℕ) → file ≢ r.file → file_len new n file ≡ file_len old n file
  adds_other_len file other = sym (one_len new n file (file_len old n file)
      (let is_len = file_len_is old n file in record {
        most = λ page x found. is_len.most page x (sym (other_newest file other page) ∙ found);
        one = ⊎_elim
            (λ none. inl none)
            (λ some. inr (some.0, some.1, other_newest file other some.0 ∙ some.2, some.3))
            is_len.one;
      }))

  -- another file has the bytes that it had
  pub adds_other_byte : (file : ℕ) → file ≢ r.file → (i : ℕ) → file_byte new n file i ≡ file_byte old n file i
  adds_other_byte file other i = ap (λ b. byte_in b (i % 256)) (other_newest file other (i / 256))

  -- so has another page of its file
  pub adds_apart_byte : (file i : ℕ) → i / 256 ≢ r.page → file_byte new n file i ≡ file_byte old n file i
  adds_apart_byte file i apart = ap (λ b. byte_in b (i % 256))
      (newest_elsewhere old new n place r adds file (i / 256) (other_page file (i / 256) r (λ same here. apart here)))

  -- its page has its bytes
  pub adds_own_byte : (i : ℕ) → i / 256 ≡ r.page → file_byte new n r.file i ≡ get_or r.bytes (i % 256) 0
  adds_own_byte i here = ap (λ b. byte_in b (i % 256)) (subst
      (λ p. newest new r.file p n ≡ Some (placed old new n place r adds)) (sym here)
      (newest_here old new n place r adds))

  -- each byte of each file
  pub adds_byte : (file i : ℕ) → file_byte new n file i
      ≡ cond (nat_eq file r.file && nat_eq (i / 256) r.page) (get_or r.bytes (i % 256) 0) (file_byte old n file i)
  adds_byte file i = ⊎_elim
      (λ of_file. ⊎_elim
      (λ here. subst (λ f. file_byte new n f i ≡ get_or r.bytes (i % 256) 0) (sym of_file) (adds_own_byte i here)
      ∙ ap (λ b. cond b (get_or r.bytes (i % 256) 0) (file_byte old n file i))
      (sym (and_from (nat_eq file r.file) (nat_eq (i / 256) r.page) (eq-eqb file r.file of_file)
      (eq-eqb (i / 256) r.page here))))
      (λ apart. adds_apart_byte file i apart
      ∙ ap (λ b. cond b (get_or r.bytes (i % 256) 0) (file_byte old n file i))
      (sym (and_right (nat_eq file r.file) (nat_eq (i / 256) r.page) (ne_eqb (i / 256) r.page apart))))
      (cases_eq (i / 256) r.page))
      (λ other. adds_other_byte file other i
      ∙ ap (λ b. cond b (get_or r.bytes (i % 256) 0) (file_byte old n file i))
      (sym (and_left (nat_eq file r.file) (nat_eq (i / 256) r.page) (ne_eqb file r.file other))))
      (cases_eq file r.file)

  -- no byte past the end of a file came to show, if none of the record is past the length that it says
  pub adds_strayless : file_len old n r.file ≤ r.len → (from : ℕ) → IsStrayless old n from
      → ((j : ℕ) → j < 256 → r.len ≤ 256 * r.page + j → get_or r.bytes j 0 ≡ 0) → IsStrayless new n from
  adds_strayless no_shorter from strayless zeros = λ file i past from_there. ⊎_elim
      (λ of_file. (let long = adds_len no_shorter in
      let own_past : file_len new n r.file ≤ i = subst (λ f. file_len new n f ≤ i) of_file past in
      subst (λ f. file_byte new n f i ≡ 0) (sym of_file) (⊎_elim
      (λ here. adds_own_byte i here ∙ zeros (i % 256) (omega arith) (omega (arith, own_past, long, here)))
      (λ apart. adds_apart_byte r.file i apart ∙ strayless r.file i (omega (arith, own_past, long, no_shorter))
      from_there)
      (cases_eq (i / 256) r.page))))
      (λ other. adds_other_byte file other i ∙ strayless file i
      (let same = adds_other_len file other in omega (arith, past, same)) from_there)
      (cases_eq file r.file)

  -- where each newest record is outside a block, and so does this one
  pub adds_elsewhere : (block : ℕ) → LiesElsewhere old n block → number place / 64 ≢ block → LiesElsewhere new n block
  adds_elsewhere block elsewhere apart = λ file page x found. ⊎_elim
      (λ own. (let is : placed old new n place r adds ≡ x =
      same_Some (placed old new n place r adds) x (sym own.2 ∙ found) in
      (number place, adds.within, apart, adds.here ∙ ap (λ z. Some z.says) is)))
      (λ other. (let was = elsewhere file page x (sym other.1 ∙ found) in
      (was.0, was.1, was.2, still old new n place r adds was.0 x.says was.3)))
      (by_page file page)

  -- that block is spare
  pub adds_spare : (block : ℕ) → LiesElsewhere old n block → number place / 64 ≢ block → IsSpare new n block
  adds_spare block elsewhere apart = spare_of new n block (adds_elsewhere block elsewhere apart)

  -- a spare block in which it is not is still spare
  pub adds_is_spare : (block : ℕ) → IsSpare old n block → number place / 64 ≢ block → IsSpare new n block
  adds_is_spare block spare apart = λ x needed at. ⊎_elim
      (λ own. (let is : placed old new n place r adds ≡ x =
      same_Some (placed old new n place r adds) x (sym own.2 ∙ needed.newest_is) in
      apart (ap (λ z. z.place / 64) is ∙ at)))
      (λ other. spare x (record {
        newest_is = sym other.1 ∙ needed.newest_is;
        alone = λ j copy. needed.alone j (record {
          within = copy.within;
          apart = copy.apart;
          same =
              still old new n place r adds j x.says copy.same;
        });
      }) at)
      (by_page x.says.file x.says.page)

-- whether a byte is in a page
in_page : (page i : ℕ) → i / 256 ≡ page → in_range (256 * page) 256 i ≡ true
in_page page i here = and_from (nat_le (256 * page) i) (nat_lt i (256 * page + 256))
    (le-leb (256 * page) i (omega (arith, here))) (lt-ltb i (256 * page + 256) (omega (arith, here)))

out_of_page : (page i : ℕ) → i / 256 ≢ page → in_range (256 * page) 256 i ≡ false
out_of_page page i apart = ⊎_elim
    (λ before. and_left (nat_le (256 * page) i) (nat_lt i (256 * page + 256)) (lt-leb (256 * page) i before))
    (λ after. and_right (nat_le (256 * page) i) (nat_lt i (256 * page + 256)) (le-ltb i (256 * page + 256) (⊎_elim
    (λ inside. absurd (apart (let e : i / 256 ≡ page = omega (arith, inside, after) in e)))
    (λ beyond. beyond)
    (cases_lt i (256 * page + 256)))))
    (cases_lt i (256 * page))

module _ (old new : Pages) (blocks : ℕ) (place : FlashPage) (r : PageRecord)
    (adds : AddsRecord old new (places blocks) place r)
    (no_shorter : file_len old (places blocks) r.file ≤ r.len) where
  long_is : length (flash_files new blocks r.file) ≡ r.len
  long_is = length-flash_files new blocks r.file ∙ adds_len old new (places blocks) place r adds no_shorter

  other_file : (file : ℕ) → file ≢ r.file → flash_files new blocks file ≡ flash_files old blocks file
  unfolding flash_files
  other_file file other =
      ap (λ b. map b (range_with_len 0 (file_len new (places blocks) file)))
      (fun_ext (λ i. adds_other_byte old new (places blocks) place r adds file other i))
      ∙ ap (λ l. map (file_byte old (places blocks) file) (range_with_len 0 l))
      (adds_other_len old new (places blocks) place r adds file other)

  -- past the old end no byte shows outside the page
  was_byte : MayGrow old (places blocks) r.file r.page r.len → (i : ℕ) → i < r.len → i / 256 ≢ r.page
      → file_byte old (places blocks) r.file i ≡ get_or (flash_files old blocks r.file) i 0
  was_byte may i inside apart = ⊎_elim
      (λ within. sym (byte-flash_files old blocks r.file i within))
      (λ past. may i past inside apart
      ∙ sym (get_or_past (flash_files old blocks r.file) i 0
      (let long = length-flash_files old blocks r.file in omega (arith, long, past))))
      (cases_lt i (file_len old (places blocks) r.file))

  byte_is : MayGrow old (places blocks) r.file r.page r.len → (i : ℕ) → i < r.len
      → file_byte new (places blocks) r.file i
      ≡ cond (in_range (256 * r.page) 256 i) (get_or r.bytes (i - 256 * r.page) 0)
      (get_or (flash_files old blocks r.file) i 0)
  byte_is may i inside = ⊎_elim
      (λ here. adds_own_byte old new (places blocks) place r adds i here
      ∙ (ap (λ k. get_or r.bytes k 0) (let e : i % 256 ≡ i - 256 * r.page = omega (arith, here) in e)
      ∙ ap (λ b. cond b (get_or r.bytes (i - 256 * r.page) 0) (get_or (flash_files old blocks r.file) i 0))
      (sym (in_page r.page i here))))
      (λ apart. adds_apart_byte old new (places blocks) place r adds r.file i apart
      ∙ (was_byte may i inside apart
      ∙ ap (λ b. cond b (get_or r.bytes (i - 256 * r.page) 0) (get_or (flash_files old blocks r.file) i 0))
      (sym (out_of_page r.page i apart))))
      (cases_eq (i / 256) r.page)

  -- the bytes of the record were put into its file
  pub adds_put : MayGrow old (places blocks) r.file r.page r.len → length r.bytes ≡ 256
      → PutPart r.file (256 * r.page) r.bytes r.len (flash_files old blocks) (flash_files new blocks)
  adds_put may full = record {
    others = other_file;
    long = long_is;
    no_shorter = (let long = length-flash_files old blocks r.file in omega (arith, long, no_shorter));
    bytes_are = λ i inside. byte-flash_files new blocks r.file i
        (let long = adds_len old new (places blocks) place r adds no_shorter in omega (arith, long, inside))
        ∙ subst (λ m. file_byte new (places blocks) r.file i
        ≡ cond (in_range (256 * r.page) m i) (get_or r.bytes (i - 256 * r.page) 0)
        (get_or (flash_files old blocks r.file) i 0)) (sym full) (byte_is may i inside);
  }

-- the record was added, or no record changed: its bytes were put into its file, or no file changed
pub grown_put : (old left : Pages) (blocks : ℕ) (place : FlashPage) (r : PageRecord)
    → HasSameRecords old left ⊎ AddsRecord old left (places blocks) place r
    → file_len old (places blocks) r.file ≤ r.len → MayGrow old (places blocks) r.file r.page r.len
    → length r.bytes ≡ 256
    → PutOrNot r.file (256 * r.page) r.bytes r.len (flash_files old blocks) (flash_files left blocks)
grown_put old left blocks place r grows no_shorter may full = ⊎_elim
    (λ same. inl (records_files old left same blocks))
    (λ adds. inr (adds_put old left blocks place r adds no_shorter may full))
    grows
