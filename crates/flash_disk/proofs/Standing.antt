-- What stays where no record came and of each newest one an equal one is left: what the newest records say, and so the
-- files.
use Rattle.std.proofs.Common.{◌≡◌, ℕ, ◌/◌, ◌%◌, ◌<◌, ◌≤◌, zero, suc, map, get_or, true, refl, sym, ap, subst, ◌∙◌, inl}
use Rattle.std.proofs.Common.{inr, ⊎_elim, arith}
use Rattle.std.specs.Prelude.{Option, Some, None, is_none, cond}
use Rattle.std.specs.List.{range_with_len}
use Rattle.std.proofs.Math.Path.{fun_ext}
use Rattle.std.proofs.lemmas.Option.{same_Some, none-some}
use Rattle.flash_model.specs.Pages.{Pages}
use Rattle.flash_record.specs.PageRecord.{PageRecord}
use Rattle.flash_disk.specs.Newest.{Placed, record_at, is_of, with_record, newest, opens_page, page_count, places}
use Rattle.flash_disk.specs.Newest.{IsNewest, IsNewestOf, IsSpare}
use Rattle.flash_disk.proofs.NewestLaws.{newest_is}
use Rattle.flash_disk.specs.FlashFiles.{record_byte, byte_in, file_byte, file_len, flash_files, IsFileLen}
use Rattle.flash_disk.proofs.FlashFilesLaws.{file_len_is, one_len}
use Rattle.flash_disk.specs.declared.table.FilePage.{FilePage}
use Rattle.flash_disk.specs.declared.table.Newest.{Newest}
use Rattle.flash_disk.specs.declared.table.Table.{Table}
use Rattle.flash_disk.specs.Known.{known, len_known}
use Rattle.flash_disk.specs.Learnt.{number, LedOf, IsLed, KnowsLengths, Tops}
use Rattle.flash_disk.specs.Standing.{said, IsAgreed, KeepsRecords, IsStrayless, MayGrow}

-- a page of which something is said has a newest record, which says it
pub said_some : (best : Option Placed) (r : PageRecord) → said best ≡ Some r
    → (x : Placed) × (best ≡ Some x) × (x.says ≡ r)
said_some None r is = absurd (none-some r is)
said_some (Some x) r is = (x, refl, same_Some x.says r is)

-- a byte of a page is that of what is said of it
pub said_byte : (best : Option Placed) (i : ℕ) → byte_in best i ≡ record_byte (said best) i
said_byte None i = refl
said_byte (Some x) i = refl

-- what makes a record that of which the newest one of a page says the same: none has a greater number, and one with its
-- number is equal
pub record IsSaid (pages : Pages) (file page n : ℕ) (r : PageRecord) : Type 0 where
  pub of_page : is_of file page r ≡ true
  pub place : ℕ
  pub within : place < n
  pub there : record_at pages place ≡ Some r
  pub most : (j : ℕ) (q : PageRecord) → j < n → record_at pages j ≡ Some q → is_of file page q ≡ true
      → q.sequence ≤ r.sequence
  pub one : (j : ℕ) (q : PageRecord) → j < n → record_at pages j ≡ Some q → is_of file page q ≡ true
      → q.sequence ≡ r.sequence → q ≡ r

module _ (pages : Pages) (file page n : ℕ) where
  said_by : (r : PageRecord) → IsSaid pages file page n r → (best : Option Placed) → IsNewestOf pages file page n best
      → said best ≡ Some r
  said_by r is None none = absurd (none is.place r is.within is.there is.of_page)
  said_by r is (Some x) is_newest =
      let less = is_newest.most is.place r is.within is.there is.of_page in
      let more = is.most x.place x.says is_newest.within is_newest.there is_newest.of_page in
      let same : x.says.sequence ≡ r.sequence = omega (arith, less, more) in
      ap Some (is.one x.place x.says is_newest.within is_newest.there is_newest.of_page same)

  -- such a record is what the newest one says
  pub newest_said : (r : PageRecord) → IsSaid pages file page n r → said (newest pages file page n) ≡ Some r
  newest_said r is = said_by r is (newest pages file page n) (newest_is pages file page n)

  -- the newest record of a page, as such
  pub is_newest_of : (x : Placed) → newest pages file page n ≡ Some x → IsNewest pages file page n x
  is_newest_of x is = subst (IsNewestOf pages file page n) is (newest_is pages file page n)

-- the newest records of each page of a file say the same
abbrev pub FileSaysAlike : (old new : Pages) → (n file : ℕ) → Type 0
FileSaysAlike old new n file = (page : ℕ) → said (newest new file page n) ≡ said (newest old file page n)

module _ (old new : Pages) (n file : ℕ) (alike : FileSaysAlike old new n file) where
  -- each byte of it is the same
  pub file_said_byte : (i : ℕ) → file_byte new n file i ≡ file_byte old n file i
  file_said_byte i = said_byte (newest new file (i / 256) n) (i % 256)
      ∙ (ap (λ o. record_byte o (i % 256)) (alike (i / 256))
      ∙ sym (said_byte (newest old file (i / 256) n) (i % 256)))

  -- a newest record says what one did before
  file_said_before : (page : ℕ) (x : Placed) → newest new file page n ≡ Some x
      → (y : Placed) × (newest old file page n ≡ Some y) × (y.says ≡ x.says)
  file_said_before page x is = said_some (newest old file page n) x.says (sym (alike page) ∙ ap said is)

  -- what a newest record said one says now
  file_said_after : (page : ℕ) (x : Placed) → newest old file page n ≡ Some x
      → (y : Placed) × (newest new file page n ≡ Some y) × (y.says ≡ x.says)
  file_said_after page x is = said_some (newest new file page n) x.says (alike page ∙ ap said is)

  -- if it had some length it still has it
  pub file_keeps_len : (len : ℕ) → IsFileLen old n file len → IsFileLen new n file len
  file_keeps_len len is = record {
    most = λ page x found. let before = file_said_before page x found in
        subst (λ (q : PageRecord). q.len ≤ len) before.2 (is.most page before.0 before.1);
    one = ⊎_elim
        (λ none. inl none)
        (λ some. let after = file_said_after some.0 some.1 some.2 in
        inr (some.0, after.0, after.1, some.3 ∙ ap (λ q. q.len) (sym after.2)))
        is.one;
  }

  -- it is as long
  pub file_said_len : file_len new n file ≡ file_len old n file
  file_said_len = sym (one_len new n file (file_len old n file)
      (file_keeps_len (file_len old n file) (file_len_is old n file)))

-- the newest records of each page say the same
abbrev pub SaysAlike : (old new : Pages) → ℕ → Type 0
SaysAlike old new n = (file : ℕ) → FileSaysAlike old new n file

module _ (old new : Pages) (n : ℕ) (alike : SaysAlike old new n) where
  -- each byte is the same
  pub same_said_byte : (file i : ℕ) → file_byte new n file i ≡ file_byte old n file i
  same_said_byte file = file_said_byte old new n file (alike file)

  -- a newest record says what one did before
  pub said_before : (file page : ℕ) (x : Placed) → newest new file page n ≡ Some x
      → (y : Placed) × (newest old file page n ≡ Some y) × (y.says ≡ x.says)
  said_before file = file_said_before old new n file (alike file)

  -- what a newest record said one says now
  pub said_after : (file page : ℕ) (x : Placed) → newest old file page n ≡ Some x
      → (y : Placed) × (newest new file page n ≡ Some y) × (y.says ≡ x.says)
  said_after file = file_said_after old new n file (alike file)

  -- a file of some length still has it
  pub same_file_len : (file len : ℕ) → IsFileLen old n file len → IsFileLen new n file len
  same_file_len file = file_keeps_len old new n file (alike file)

  -- each file is as long
  pub same_said_len : (file : ℕ) → file_len new n file ≡ file_len old n file
  same_said_len file = file_said_len old new n file (alike file)

  -- no byte past the end of a file came to show
  pub same_said_strayless : (from : ℕ) → IsStrayless old n from → IsStrayless new n from
  same_said_strayless from strayless = λ file i past from_there. let same = same_said_len file in
      same_said_byte file i ∙ strayless file i (omega (arith, past, same)) from_there

  -- a file that might grow still may
  pub same_said_may_grow : (file page len : ℕ) → MayGrow old n file page len → MayGrow new n file page len
  same_said_may_grow file page len may = λ i past inside apart. let same = same_said_len file in
      same_said_byte file i ∙ may i (omega (arith, past, same)) inside apart

-- the files are the same
pub same_said_files : (old new : Pages) (blocks : ℕ) → SaysAlike old new (places blocks)
    → flash_files new blocks ≡ flash_files old blocks
unfolding flash_files
same_said_files old new blocks alike = fun_ext (λ file.
    ap (λ b. map b (range_with_len 0 (file_len new (places blocks) file)))
    (fun_ext (λ i. same_said_byte old new (places blocks) alike file i))
    ∙ ap (λ l. map (file_byte old (places blocks) file) (range_with_len 0 l))
    (same_said_len old new (places blocks) alike file))

module _ (old new : Pages) (n : ℕ) where
  module _ (agreed : IsAgreed old n) (keeps : KeepsRecords old new n) where
    nothing_came : (file page : ℕ) → IsNewestOf old file page n None → (best : Option Placed)
        → IsNewestOf new file page n best → said best ≡ None
    nothing_came file page none None is = refl
    nothing_came file page none (Some x) is =
        let was = keeps.only x.place x.says is.within is.there in absurd (none was.0 x.says was.1 was.2 is.of_page)

    still_said : (file page : ℕ) (x : Placed) → newest old file page n ≡ Some x → IsNewest old file page n x
        → IsSaid new file page n x.says
    still_said file page x found is = let left = keeps.stays file page x found in record {
      of_page = is.of_page;
      place = left.0;
      within = left.1;
      there = left.2;
      most = λ j q inside there of_page. (let was = keeps.only j q inside there in is.most was.0 q was.1 was.2 of_page);
      one = λ j q inside there of_page same. (let was = keeps.only j q inside there in
          agreed file page x found was.0 q was.1 was.2 of_page same);
    }

    kept_by : (file page : ℕ) (best : Option Placed) → newest old file page n ≡ best → IsNewestOf old file page n best
        → said (newest new file page n) ≡ said best
    kept_by file page None found is = nothing_came file page is (newest new file page n) (newest_is new file page n)
    kept_by file page (Some x) found is = newest_said new file page n x.says (still_said file page x found is)

    -- the newest records say what they said
    pub keeps_said : (file page : ℕ) → said (newest new file page n) ≡ said (newest old file page n)
    keeps_said file page = kept_by file page (newest old file page n) refl (newest_is old file page n)

    -- the records are still agreed
    pub keeps_agreed : IsAgreed new n
    keeps_agreed = λ file page x found j q inside there of_page same.
        let before = said_before old new n keeps_said file page x found in
        let was = keeps.only j q inside there in
        agreed file page before.0 before.1 was.0 q was.1 was.2 of_page (same ∙ ap (λ z. z.sequence) (sym before.2))
        ∙ before.2

    -- each byte is the same
    pub keeps_byte : (file i : ℕ) → file_byte new n file i ≡ file_byte old n file i
    keeps_byte = same_said_byte old new n keeps_said

    -- each file is as long
    pub keeps_len : (file : ℕ) → file_len new n file ≡ file_len old n file
    keeps_len = same_said_len old new n keeps_said

    -- no byte past the end of a file came to show
    pub keeps_strayless : (from : ℕ) → IsStrayless old n from → IsStrayless new n from
    keeps_strayless = same_said_strayless old new n keeps_said

    -- a file that might grow still may
    pub keeps_may_grow : (file page len : ℕ) → MayGrow old n file page len → MayGrow new n file page len
    keeps_may_grow = same_said_may_grow old new n keeps_said

    -- a file of some length still has it
    pub keeps_file_len : (file len : ℕ) → IsFileLen old n file len → IsFileLen new n file len
    keeps_file_len = same_file_len old new n keeps_said

    module _ (table : Table)
        (there : (key : FilePage) (entry : Newest) → known table key ≡ Some entry
        → record_at new (number entry.place) ≡ record_at old (number entry.place)) where
      led_over : (key : FilePage) (e : Option Newest) → known table key ≡ e → (before after : Option Placed)
          → said after ≡ said before → LedOf old n e before → LedOf new n e after
      led_over key None is None None alike led = led
      led_over key None is None (Some y) alike led = absurd (none-some y.says (sym alike))
      led_over key None is (Some x) after alike led = absurd led
      led_over key (Some e) is None after alike led = absurd led
      led_over key (Some e) is (Some x) None alike led = absurd (none-some x.says alike)
      led_over key (Some e) is (Some x) (Some y) alike led = let says : x.says ≡ y.says =
          same_Some x.says y.says (sym alike) in record {
            within = led.within;
            leads = record {
              small = led.leads.small;
              there = there key e is ∙ (led.leads.there ∙ ap Some says);
              sequence = led.leads.sequence ∙ ap (λ q. q.sequence) says;
              len = led.leads.len ∙ ap (λ q. q.len) says;
              filled = subst (λ (q : PageRecord). (j : ℕ) → e.filled ≤ j → get_or q.bytes j 0 ≡ 0) says
                  led.leads.filled;
            };
          }

      -- a table whose records stand where they stood still leads to the newest records
      pub keeps_led : IsLed old n table → IsLed new n table
      keeps_led led = record {
        says = λ key. led_over key (known table key) refl (newest old key.file key.page n)
            (newest new key.file key.page n) (keeps_said key.file key.page) (led.says key);
        room = led.room;
        fits = led.fits;
      }

      -- and knows how long each file is
      pub keeps_known : KnowsLengths old n table → KnowsLengths new n table
      keeps_known knows = record {
        led = keeps_led knows.led;
        lens =
            λ file. keeps_file_len file (len_known table file) (knows.lens file);
      }

    -- what is kept after this is kept
    pub keeps_then : (after : Pages) → KeepsRecords new after n → KeepsRecords old after n
    keeps_then after then = record {
      only = λ j q inside there. (let was = then.only j q inside there in keeps.only was.0 q was.1 was.2);
      stays = λ file page x found.
          (let now = said_after old new n keeps_said file page x found in
          let left = then.stays file page now.0 now.1 in (left.0, left.1, left.2 ∙ ap Some now.2));
    }

  -- no record has a greater number
  pub keeps_tops : KeepsRecords old new n → (top : ℕ) → Tops old n top → Tops new n top
  keeps_tops keeps top tops = λ j q inside there. (let was = keeps.only j q inside there in tops was.0 q was.1 was.2)

  -- the same records in the same places
  pub same_records_keep : ((j : ℕ) → j < n → record_at new j ≡ record_at old j) → KeepsRecords old new n
  same_records_keep same = record {
    only = λ j q inside there. (j, inside, sym (same j inside) ∙ there);
    stays = λ file page x found. (let is = is_newest_of old file page n x found in
        (x.place, is.within, same x.place is.within ∙ is.there));
  }

-- nothing changed
pub keeps_refl : (pages : Pages) (n : ℕ) → KeepsRecords pages pages n
keeps_refl pages n = same_records_keep pages pages n (λ j inside. refl)

-- the files are the same
pub keeps_files : (old new : Pages) (blocks : ℕ) → IsAgreed old (places blocks) → KeepsRecords old new (places blocks)
    → flash_files new blocks ≡ flash_files old blocks
keeps_files old new blocks agreed keeps = same_said_files old new blocks
    (keeps_said old new (places blocks) agreed keeps)

-- ---- no record changed

-- each place has the record that it had
abbrev pub HasSameRecords : (old new : Pages) → Type 0
HasSameRecords old new = (j : ℕ) → record_at new j ≡ record_at old j

module _ (old new : Pages) (same : HasSameRecords old new) where
  -- each page has the newest record that it had
  pub records_newest : (file page n : ℕ) → newest new file page n ≡ newest old file page n
  records_newest file page zero = refl
  records_newest file page (suc n) = ap (λ o. with_record file page n o (newest new file page n)) (same n)
      ∙ ap (with_record file page n (record_at old n)) (records_newest file page n)

  -- which says the same
  pub records_alike : (n : ℕ) → SaysAlike old new n
  records_alike n file page = ap said (records_newest file page n)

  opens_alike : (n : ℕ) (o : Option PageRecord) → opens_page new n o ≡ opens_page old n o
  opens_alike n None = refl
  opens_alike n (Some r) = ap (λ b. cond (is_none b) 1 0) (records_newest r.file r.page n)

  -- as many pages have a record
  pub records_count : (n : ℕ) → page_count new n ≡ page_count old n
  records_count zero = refl
  records_count (suc n) =
      let before = records_count n in
      let opens : opens_page new n (record_at new n) ≡ opens_page old n (record_at old n) =
      ap (opens_page new n) (same n) ∙ opens_alike n (record_at old n) in
      omega (arith, before, opens)

  -- the files are the same
  pub records_files : (blocks : ℕ) → flash_files new blocks ≡ flash_files old blocks
  records_files blocks = same_said_files old new blocks (records_alike (places blocks))

  module _ (n : ℕ) where
    -- what there was is kept
    pub records_keep : KeepsRecords old new n
    records_keep = same_records_keep old new n (λ j inside. same j)

    -- the records are still agreed
    pub records_agreed : IsAgreed old n → IsAgreed new n
    records_agreed agreed = λ file page x found j q inside there of_page.
        agreed file page x (sym (records_newest file page n) ∙ found) j q inside (sym (same j) ∙ there) of_page

    -- no record has a greater number
    pub records_tops : (top : ℕ) → Tops old n top → Tops new n top
    records_tops = keeps_tops old new n records_keep

    -- a spare block is still spare
    pub records_spare : (block : ℕ) → IsSpare old n block → IsSpare new n block
    records_spare block spare = λ x needed. spare x (record {
      newest_is = sym (records_newest x.says.file x.says.page n) ∙ needed.newest_is;
      alone = λ j copy. needed.alone j (record { within = copy.within; apart = copy.apart; same = same j ∙ copy.same });
    })

    led_alike : (e : Option Newest) (best : Option Placed) → LedOf old n e best → LedOf new n e best
    led_alike None None led = led
    led_alike None (Some x) led = led
    led_alike (Some e) None led = led
    led_alike (Some e) (Some x) led = record {
      within = led.within;
      leads = record {
        small = led.leads.small;
        there = same (number e.place) ∙ led.leads.there;
        sequence = led.leads.sequence;
        len = led.leads.len;
        filled = led.leads.filled;
      };
    }

    -- the table still leads to the newest records
    pub records_led : (table : Table) → IsLed old n table → IsLed new n table
    records_led table led = record {
      says = λ key. subst (LedOf new n (known table key)) (sym (records_newest key.file key.page n))
          (led_alike (known table key) (newest old key.file key.page n) (led.says key));
      room = led.room;
      fits = led.fits;
    }

    -- and knows how long each file is
    pub records_known : (table : Table) → KnowsLengths old n table → KnowsLengths new n table
    records_known table knows = record {
      led = records_led table knows.led;
      lens = λ file. same_file_len old new n (records_alike n) file (len_known table file) (knows.lens file);
    }
