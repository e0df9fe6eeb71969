-- A flash as it is without the records of the files that are given up: what counts of the others is what counted.
use Rattle.std.proofs.Common.{◌≡◌, ℕ, zero, suc, ◌/◌, ◌%◌, ◌<◌, ◌≤◌, Bool, true, false, cond, List, [], map}
use Rattle.std.proofs.Common.{refl, sym, ap, subst, ◌∙◌, inl, inr, ⊎_elim, arith, true≢false}
use Rattle.std.specs.Prelude.{Option, Some, None, nat_eq, not}
use Rattle.std.specs.List.{range_with_len}
use Rattle.std.proofs.Math.Path.{fun_ext}
use Rattle.std.proofs.lemmas.Bool.{cases_Bool, and_parts, eqb-true}
use Rattle.std.proofs.lemmas.Option.{same_Some, none-some}
use Rattle.flash_model.specs.Pages.{Pages, blank_page}
use Rattle.flash_record.specs.PageRecord.{PageRecord, record_in}
use Rattle.flash_record.specs.Blank.{blank_is_none}
use Rattle.flash_disk.specs.Newest.{Placed, record_at, is_of, newer, with_record, newest, places}
use Rattle.flash_disk.specs.FlashFiles.{file_byte, file_len, flash_files}
use Rattle.flash_disk.specs.Standing.{said, IsAgreed, KeepsRecords}
use Rattle.flash_disk.specs.declared.table.Newest.{Newest}
use Rattle.flash_disk.specs.declared.table.Table.{Table}
use Rattle.flash_disk.specs.Known.{known}
use Rattle.flash_disk.specs.Learnt.{number, LedOf, IsLed}
use Rattle.flash_disk.specs.Apart.{HoldsOneCopy, StandApart}
use Rattle.flash_disk.specs.Kept.{spares_record, only_kept, HoldsKept}
use Rattle.flash_disk.specs.Forgetting.{LeadsKept}
use Rattle.flash_disk.proofs.FlashFilesLaws.{one_len}
use Rattle.flash_disk.proofs.Standing.{FileSaysAlike, is_newest_of, file_said_byte, file_said_len, keeps_said}
use Rattle.flash_disk.proofs.Tearing.{IsTorn}

-- a file whose newest records say the same is the same
pub alike_file : (old new : Pages) (blocks file : ℕ) → FileSaysAlike old new (places blocks) file
    → flash_files new blocks file ≡ flash_files old blocks file
unfolding flash_files
alike_file old new blocks file alike =
    let n = places blocks in
    ap (λ b. map b (range_with_len 0 (file_len new n file))) (fun_ext (λ i. file_said_byte old new n file alike i))
    ∙ ap (λ l. map (file_byte old n file) (range_with_len 0 l)) (file_said_len old new n file alike)

-- a file of which no page has a record is empty
pub nothing_in_file : (pages : Pages) (blocks file : ℕ) → ((page : ℕ) → newest pages file page (places blocks) ≡ None)
    → flash_files pages blocks file ≡ []
unfolding flash_files
nothing_in_file pages blocks file none =
    let n = places blocks in
    let len : 0 ≡ file_len pages n file = one_len pages n file 0 (record {
      most = λ page x found. absurd (none-some x (sym (none page) ∙ found));
      one = inl refl;
    }) in
    ap (λ l. map (file_byte pages n file) (range_with_len 0 l)) (sym len)

-- a page that is said to be a record of another file is one, and one that is not is none
pub not_other : (spares other : Bool) → other ≡ not spares → other ≡ false → spares ≡ true
not_other true other is none = refl
not_other false other is none = absurd (true≢false (sym is ∙ none))

pub is_other : (spares other : Bool) → other ≡ not spares → other ≡ true → spares ≡ true → ⊥
is_other spares other is some spared = true≢false (sym some ∙ (is ∙ ap not spared))

-- the file of a newest record
pub newest_file : (pages : Pages) (file page n : ℕ) (x : Placed) → newest pages file page n ≡ Some x
    → x.says.file ≡ file
newest_file pages file page n x found =
    let is = is_newest_of pages file page n x found in
    eqb-true x.says.file file (and_parts (nat_eq x.says.file file) (nat_eq x.says.page page) is.of_page).0

module _ (kept : ℕ → Bool) where
  -- what is left of a record
  abbrev pub visible : Option PageRecord → Option PageRecord
  visible None = None
  visible (Some r) = cond (kept r.file) (Some r) None

  seen_by : (r q : PageRecord) (b : Bool) → kept r.file ≡ b → cond b (Some r) None ≡ Some q
      → (Some r ≡ Some q) × (kept q.file ≡ true)
  seen_by r q true is shows = (shows, ap (λ (z : PageRecord). kept z.file) (sym (same_Some r q shows)) ∙ is)
  seen_by r q false is shows = absurd (none-some q shows)

  -- what is left of it is the record, and its file is kept
  pub seen : (o : Option PageRecord) (q : PageRecord) → visible o ≡ Some q → (o ≡ Some q) × (kept q.file ≡ true)
  seen None q shows = absurd (none-some q shows)
  seen (Some r) q shows = seen_by r q (kept r.file) refl shows

  -- a record of a file that is kept is left
  pub shown : (o : Option PageRecord) (q : PageRecord) → o ≡ Some q → kept q.file ≡ true → visible o ≡ Some q
  shown o q is kept_q = ap visible is ∙ ap (λ b. cond b (Some q) None) kept_q

  page_by : (bytes : List ℕ) (r : PageRecord) → record_in bytes ≡ Some r → (b : Bool)
      → record_in (cond b bytes blank_page) ≡ cond b (Some r) None
  page_by bytes r is true = is
  page_by bytes r is false = blank_is_none

  hidden_page : (bytes : List ℕ) (o : Option PageRecord) → record_in bytes ≡ o
      → record_in (cond (spares_record kept o) bytes blank_page) ≡ visible o
  hidden_page bytes None is = is
  hidden_page bytes (Some r) is = page_by bytes r is (kept r.file)

  -- the record in a place
  pub hidden_at : (pages : Pages) (j : ℕ) → record_at (only_kept kept pages) j ≡ visible (record_at pages j)
  hidden_at pages j = hidden_page (pages (j / 64) (j % 64)) (record_at pages j) refl

  pub hidden_seen : (pages : Pages) (j : ℕ) (q : PageRecord) → record_at (only_kept kept pages) j ≡ Some q
      → (record_at pages j ≡ Some q) × (kept q.file ≡ true)
  hidden_seen pages j q there = seen (record_at pages j) q (sym (hidden_at pages j) ∙ there)

  pub hidden_shown : (pages : Pages) (j : ℕ) (q : PageRecord) → record_at pages j ≡ Some q → kept q.file ≡ true
      → record_at (only_kept kept pages) j ≡ Some q
  hidden_shown pages j q there kept_q = hidden_at pages j ∙ shown (record_at pages j) q there kept_q

  -- places with the same record have the same without the others
  pub hidden_same : (old new : Pages) (j : ℕ) → record_at new j ≡ record_at old j
      → record_at (only_kept kept new) j ≡ record_at (only_kept kept old) j
  hidden_same old new j same = hidden_at new j ∙ (ap visible same ∙ sym (hidden_at old j))

  -- ---- the newest records

  module _ (pages : Pages) (file page : ℕ) where
    not_of : (r : PageRecord) (b : Bool) → is_of file page r ≡ b → (kept r.file ≡ kept file → ⊥) → b ≡ false
    not_of r true is differ = absurd (differ (ap kept
        (eqb-true r.file file (and_parts (nat_eq r.file file) (nat_eq r.page page) is).0)))
    not_of r false is differ = refl

    abbrev taken : ℕ → PageRecord → Option Placed → Option Placed
    taken n r best = newer best (record { place = n; says = r })

    passes : (n : ℕ) (r : PageRecord) (best : Option Placed) → (kept r.file ≡ kept file → ⊥)
        → with_record file page n (Some r) best ≡ best
    passes n r best differ = ap (λ b. cond b (taken n r best) best) (not_of r (is_of file page r) refl differ)

    kept_by : kept file ≡ true → (n : ℕ) (r : PageRecord) (best : Option Placed) (b : Bool) → kept r.file ≡ b
        → with_record file page n (cond b (Some r) None) best ≡ with_record file page n (Some r) best
    kept_by is n r best true kept_r = refl
    kept_by is n r best false kept_r =
        sym (passes n r best (λ same. true≢false (sym is ∙ (sym same ∙ kept_r))))

    kept_step : kept file ≡ true → (n : ℕ) (o : Option PageRecord) (best : Option Placed)
        → with_record file page n (visible o) best ≡ with_record file page n o best
    kept_step is n None best = refl
    kept_step is n (Some r) best = kept_by is n r best (kept r.file) refl

    -- of a file that is kept, what it was
    pub kept_newest : kept file ≡ true → (n : ℕ) → newest (only_kept kept pages) file page n ≡ newest pages file page n
    kept_newest is zero = refl
    kept_newest is (suc n) =
        ap (λ o. with_record file page n o (newest (only_kept kept pages) file page n)) (hidden_at pages n)
        ∙ (ap (with_record file page n (visible (record_at pages n))) (kept_newest is n)
        ∙ kept_step is n (record_at pages n) (newest pages file page n))

    other_by : kept file ≡ false → (n : ℕ) (r : PageRecord) (b : Bool) → kept r.file ≡ b
        → with_record file page n (cond b (Some r) None) None ≡ None
    other_by is n r true kept_r = passes n r None (λ same. true≢false (sym kept_r ∙ (same ∙ is)))
    other_by is n r false kept_r = refl

    other_step : kept file ≡ false → (n : ℕ) (o : Option PageRecord) → with_record file page n (visible o) None ≡ None
    other_step is n None = refl
    other_step is n (Some r) = other_by is n r (kept r.file) refl

    -- of every other, none
    pub other_newest : kept file ≡ false → (n : ℕ) → newest (only_kept kept pages) file page n ≡ None
    other_newest is zero = refl
    other_newest is (suc n) =
        ap (λ o. with_record file page n o (newest (only_kept kept pages) file page n)) (hidden_at pages n)
        ∙ (ap (with_record file page n (visible (record_at pages n))) (other_newest is n)
        ∙ other_step is n (record_at pages n))

    -- so the file of one is kept
    pub newest_kept : (n : ℕ) (x : Placed) → newest (only_kept kept pages) file page n ≡ Some x → kept file ≡ true
    newest_kept n x found = ⊎_elim
        (λ is. is)
        (λ other. absurd (none-some x (sym (other_newest other n) ∙ found)))
        (cases_Bool (kept file))

  -- ---- files

  -- ---- pages that change

  module _ (old new : Pages) (n : ℕ) where
    -- what was kept of all is kept of these
    pub hidden_keeps : KeepsRecords old new n → KeepsRecords (only_kept kept old) (only_kept kept new) n
    hidden_keeps keeps = record {
      only = λ j q inside there.
          let now = hidden_seen new j q there in
          let was = keeps.only j q inside now.0 in
          (was.0, was.1, hidden_shown old was.0 q was.2 now.1);
      stays = λ file page x found.
          let is = newest_kept old file page n x found in
          let left = keeps.stays file page x (sym (kept_newest old file page is n) ∙ found) in
          let own : kept x.says.file ≡ true = ap kept (newest_file (only_kept kept old) file page n x found) ∙ is in
          (left.0, left.1, hidden_shown new left.0 x.says left.2 own);
    }

    -- a file that is kept says what it said
    pub kept_said : IsAgreed (only_kept kept old) n → KeepsRecords (only_kept kept old) (only_kept kept new) n
        → (file : ℕ) → kept file ≡ true → FileSaysAlike old new n file
    kept_said agreed keeps file is page =
        ap said (sym (kept_newest new file page is n))
        ∙ (keeps_said (only_kept kept old) (only_kept kept new) n agreed keeps file page
        ∙ ap said (kept_newest old file page is n))

    -- a record came to a place, or was to come
    pub hidden_torn : (i : ℕ) (r : PageRecord) → kept r.file ≡ true → IsTorn old new i (Some r)
        → IsTorn (only_kept kept old) (only_kept kept new) i (Some r)
    hidden_torn i r is torn = record {
      elsewhere = λ j apart. hidden_same old new j (torn.elsewhere j apart);
      here = ⊎_elim
          (λ none. inl (hidden_at new i ∙ ap visible none))
          (λ here. inr (hidden_shown new i r here is))
          torn.here;
    }

  -- records that agree still do
  pub hidden_agreed : (pages : Pages) (n : ℕ) → IsAgreed pages n → IsAgreed (only_kept kept pages) n
  hidden_agreed pages n agreed file page x found j q inside there of_page same =
      let own = newest_kept pages file page n x found in
      agreed file page x (sym (kept_newest pages file page own n) ∙ found) j q inside (hidden_seen pages j q there).0
      of_page same

  -- blocks that held one copy still do
  pub hidden_holds : (pages : Pages) (n block copy : ℕ) → HoldsOneCopy pages n block copy
      → HoldsOneCopy (only_kept kept pages) n block copy
  hidden_holds pages n block copy only file page x found j inside at there =
      let own = newest_kept pages file page n x found in
      only file page x (sym (kept_newest pages file page own n) ∙ found) j inside at
      (hidden_seen pages j x.says there).0

  pub hidden_stand : (pages : Pages) (blocks : ℕ) → StandApart pages blocks → StandApart (only_kept kept pages) blocks
  hidden_stand pages blocks stand block = let own = stand block in
      (own.0, hidden_holds pages (places blocks) block own.0 own.1)

  -- a table that leads to the newest records leads to those of the files that are kept
  led_by : (pages : Pages) (n : ℕ) (file page : ℕ) → kept file ≡ true → (e : Option Newest) (best : Option Placed)
      → newest pages file page n ≡ best → LedOf pages n e best → LedOf (only_kept kept pages) n e best
  led_by pages n file page own None None found led = led
  led_by pages n file page own None (Some x) found led = led
  led_by pages n file page own (Some e) None found led = led
  led_by pages n file page own (Some e) (Some x) found led = record {
    within = led.within;
    leads = record {
      small = led.leads.small;
      there = hidden_shown pages (number e.place) x.says led.leads.there
          (ap kept (newest_file pages file page n x found) ∙ own);
      sequence = led.leads.sequence;
      len = led.leads.len;
      filled = led.leads.filled;
    };
  }

  pub hidden_led : (pages : Pages) (n : ℕ) (table : Table) → IsLed pages n table → LeadsKept kept pages n table
  hidden_led pages n table led key own =
      subst (LedOf (only_kept kept pages) n (known table key)) (sym (kept_newest pages key.file key.page own n))
      (led_by pages n key.file key.page own (known table key) (newest pages key.file key.page n) refl (led.says key))

  -- where no record is of another file all records show
  module _ (pages : Pages) (blocks : ℕ) (holds : (block : ℕ) → block < blocks → HoldsKept kept pages block) where
    all_by : (o : Option PageRecord) → spares_record kept o ≡ true → visible o ≡ o
    all_by None is = refl
    all_by (Some r) is = ap (λ b. cond b (Some r) None) is

    pub all_shown : (j : ℕ) → j < places blocks → record_at (only_kept kept pages) j ≡ record_at pages j
    all_shown j inside = hidden_at pages j ∙ all_by (record_at pages j)
        (holds (j / 64) (omega (arith, inside)) (j % 64) (omega arith))

    all_newest_below : (file page n : ℕ) → n ≤ places blocks
        → newest (only_kept kept pages) file page n ≡ newest pages file page n
    all_newest_below file page zero le = refl
    all_newest_below file page (suc n) le =
        ap (λ o. with_record file page n o (newest (only_kept kept pages) file page n))
        (all_shown n (omega (arith, le)))
        ∙ ap (with_record file page n (record_at pages n)) (all_newest_below file page n (omega (arith, le)))

    pub all_newest : (file page : ℕ)
        → newest (only_kept kept pages) file page (places blocks) ≡ newest pages file page (places blocks)
    all_newest file page = all_newest_below file page (places blocks) (omega arith)

    -- so all agree where those that show do
    pub all_agreed : IsAgreed (only_kept kept pages) (places blocks) → IsAgreed pages (places blocks)
    all_agreed agreed file page x found j q inside there of_page same =
        agreed file page x (all_newest file page ∙ found) j q inside (all_shown j inside ∙ there) of_page same

    -- and stand apart
    pub all_stand : StandApart (only_kept kept pages) blocks → StandApart pages blocks
    all_stand stand block = let own = stand block in (
      own.0,
      λ file page x found j inside at there. own.1 file page x (all_newest file page ∙ found) j inside at
          (all_shown j inside ∙ there),
    )

    -- each other file is empty
    pub others_empty : (file : ℕ) → kept file ≡ false → flash_files pages blocks file ≡ []
    others_empty file other = nothing_in_file pages blocks file
        (λ page. sym (all_newest file page) ∙ other_newest pages file page other (places blocks))
