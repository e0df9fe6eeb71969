-- What the table leads to is what the files of the flash hold.
use Rattle.std.proofs.Common.{◌≡◌, ℕ, ◌+◌, ◌-◌, ◌*◌, ◌/◌, ◌%◌, ◌<◌, ◌≤◌, List, ◌++◌, length, take, drop, get_or, min}
use Rattle.std.proofs.Common.{replicate, Bool, true, false, cond, refl, sym, ap, subst, ◌∙◌, ⊎_elim, arith}
use Rattle.std.specs.Prelude.{Option, Some, None, nat_lt}
use Rattle.std.proofs.lemmas.Bool.{cases_lt, lt-ltb, le-ltb}
use Rattle.std.proofs.lemmas.List.{ext_get_or, length-append, length-drop, length-take-le, length-replicate}
use Rattle.std.proofs.lemmas.List.{get_or_append_left, get_or-take, get_or-drop, get_or-replicate, get_or_past}
use Rattle.flash_model.specs.Pages.{Pages}
use Rattle.flash_record.specs.PageRecord.{record_in}
use Rattle.flash_disk.specs.declared.table.FilePage.{FilePage}
use Rattle.flash_disk.specs.declared.table.Newest.{Newest}
use Rattle.flash_disk.specs.declared.table.Table.{Table}
use Rattle.flash_disk.specs.Newest.{Placed, record_at, newest, places}
use Rattle.flash_disk.specs.FlashFiles.{record_byte, byte_in, file_byte, file_len, flash_files}
use Rattle.flash_disk.proofs.FlashFilesLaws.{one_len, length-flash_files, byte-flash_files}
use Rattle.flash_disk.specs.Known.{known, len_known}
use Rattle.flash_disk.specs.Learnt.{number, LedOf, KnowsLengths, IsContent}
use Rattle.flash_disk.proofs.Learning.{record_at_place}

-- the same test, before and after both sides grow
same_test : (j len start : ℕ) → nat_lt j (len - start) ≡ nat_lt (start + j) len
same_test j len start = ⊎_elim
    (λ less. let a = lt-ltb j (len - start) less in let b = lt-ltb (start + j) len (omega arith) in a ∙ sym b)
    (λ more. let a = le-ltb j (len - start) more in let b = le-ltb (start + j) len (omega arith) in a ∙ sym b)
    (cases_lt j (len - start))

same_zeros : (b : Bool) → cond {A = ℕ} b 0 0 ≡ 0
same_zeros true = refl
same_zeros false = refl

module _ (pages : Pages) (n : ℕ) (table : Table) (knows : KnowsLengths pages n table) where
  pub len_is : (file : ℕ) → len_known table file ≡ file_len pages n file
  len_is file = one_len pages n file (len_known table file) (knows.lens file)

  module _ (key : FilePage) where
    byte_of : (j : ℕ) → j < 256 → file_byte pages n key.file (256 * key.page + j)
        ≡ byte_in (newest pages key.file key.page n) j
    byte_of j small = let p : (256 * key.page + j) / 256 ≡ key.page =
        omega arith in let q : (256 * key.page + j) % 256 ≡ j = omega arith in rw (p, q) refl

    none_by : (k : Option Newest) (b : Option Placed) → k ≡ None → LedOf pages n k b → (j : ℕ) → byte_in b j ≡ 0
    none_by k None none says j = refl
    none_by k (Some x) none says j = absurd (subst (λ z. LedOf pages n z (Some x)) none says)

    -- a page without a record is zeros
    pub no_content : (bytes : List ℕ) → known table key ≡ None → ((j : ℕ) → j < 256 → get_or bytes j 0 ≡ 0)
        → IsContent pages n key bytes
    no_content bytes none zeros = λ j small. zeros j small ∙ sym
        (ap (λ b. cond (nat_lt (256 * key.page + j) (file_len pages n key.file)) b 0)
        (byte_of j small ∙ none_by (known table key) (newest pages key.file key.page n) none (knows.led.says key) j)
        ∙ same_zeros (nat_lt (256 * key.page + j) (file_len pages n key.file)))

    module _ (e : Newest) (known_is : known table key ≡ Some e) where
      says : LedOf pages n (Some e) (newest pages key.file key.page n)
      says = subst (λ k. LedOf pages n k (newest pages key.file key.page n)) known_is (knows.led.says key)

      small_by : (b : Option Placed) → LedOf pages n (Some e) b → (e.place.page < 64) × (number e.place < n)
      small_by None led = absurd led
      small_by (Some x) led = (led.leads.small, led.within)

      pub is_there : (e.place.page < 64) × (number e.place < n)
      is_there = small_by (newest pages key.file key.page n) says

      byte_by : (b : Option Placed) → LedOf pages n (Some e) b → (j : ℕ)
          → record_byte (record_at pages (number e.place)) j ≡ byte_in b j
      byte_by None led j = absurd led
      byte_by (Some x) led j = ap (λ r. record_byte r j) led.leads.there

      -- a page whose record was read
      pub content : (page bytes : List ℕ) → page ≡ pages e.place.block e.place.page
          → ((j : ℕ) → j < 256 → get_or bytes j 0 ≡ cond (nat_lt j (len_known table key.file - 256 * key.page))
          (record_byte (record_in page) j) 0)
          → IsContent pages n key bytes
      content page bytes read cuts = λ j small.
          let test : nat_lt j (len_known table key.file - 256 * key.page)
          ≡ nat_lt (256 * key.page + j) (file_len pages n key.file) =
          ap (λ l. nat_lt j (l - 256 * key.page)) (len_is key.file)
          ∙ same_test j (file_len pages n key.file) (256 * key.page) in
          let byte : record_byte (record_in page) j ≡ file_byte pages n key.file (256 * key.page + j) =
          ap (λ p. record_byte (record_in p) j) read
          ∙ (ap (λ r. record_byte r j) (sym (record_at_place pages e.place.block e.place.page is_there.0))
          ∙ (byte_by (newest pages key.file key.page n) says j ∙ sym (byte_of j small))) in
          cuts j small ∙ (ap (λ b. cond b (record_byte (record_in page) j) 0) test
          ∙ ap (λ v. cond (nat_lt (256 * key.page + j) (file_len pages n key.file)) v 0) byte)

-- one page more was read: bytes of the page in which byte `start` is
pub page_more : (pages : Pages) (n file start from j : ℕ) (content : List ℕ) → from ≡ start % 256 → from + j < 256
    → start + j < file_len pages n file
    → IsContent pages n (record { file = file; page = start / 256 }) content
    → get_or content (from + j) 0 ≡ file_byte pages n file (start + j)
page_more pages n file start from j content from_is small within is =
    let at : 256 * (start / 256) + (from + j) ≡ start + j = omega (arith, from_is) in
    is (from + j) small ∙ (ap (λ i. cond (nat_lt i (file_len pages n file)) (file_byte pages n file i) 0) at
    ∙ ap (λ b. cond b (file_byte pages n file (start + j)) 0) (lt-ltb (start + j) (file_len pages n file) within))

-- as many bytes as there are, each that of the file
pub all_read : (pages : Pages) (blocks file at count : ℕ) (part rest : List ℕ) → length part ≡ count
    → at + count ≤ file_len pages (places blocks) file
    → ((k : ℕ) → k < count → get_or part k 0 ≡ file_byte pages (places blocks) file (at + k))
    → take count (part ++ rest) ≡ take count (drop at (flash_files pages blocks file))
all_read pages blocks file at count part rest long fits same =
    let files = flash_files pages blocks file in
    let enough : at + count ≤ length files = omega (arith, fits, length-flash_files pages blocks file) in
    let a : length (take count (part ++ rest)) ≡ count =
    length-take-le count (part ++ rest) (omega (arith, long, length-append part rest)) in
    let b : length (take count (drop at files)) ≡ count =
    length-take-le count (drop at files) (omega (arith, enough, length-drop at files)) in
    ext_get_or 0 (take count (part ++ rest)) (take count (drop at files)) (a ∙ sym b) (λ i within.
    let inside : i < count = omega (arith, within, a) in
    get_or-take count (part ++ rest) i 0 inside
    ∙ (get_or_append_left part rest 0 i (omega (arith, inside, long))
    ∙ (same i inside
    ∙ (sym (byte-flash_files pages blocks file (at + i) (omega (arith, fits, inside)))
    ∙ (sym (get_or-drop at files i 0) ∙ sym (get_or-take count (drop at files) i 0 inside))))))

pub nothing_taken : (count : ℕ) (xs ys : List ℕ) → count ≡ 0 → take count xs ≡ take count ys
nothing_taken count xs ys none = rw none refl

pub zero_bytes : (j : ℕ) → get_or {A = ℕ} (replicate 256 0) j 0 ≡ 0
zero_bytes j = ⊎_elim
    (λ inside. get_or-replicate 256 j 0 0 inside)
    (λ past. get_or_past (replicate 256 0) j 0 (omega (arith, length-replicate {A = ℕ} 256 0)))
    (cases_lt j 256)

-- a page was cut at a place in it
pub cut_is : (content old bytes : List ℕ) (within count : ℕ) → ((j : ℕ) → get_or old j 0 ≡ 0) → count ≡ min within 256
    → ((j : ℕ) → j < count → get_or content (0 + j) 0 ≡ get_or bytes (0 + j) 0)
    → ((k : ℕ) → 0 + count ≤ k → get_or content k 0 ≡ get_or old k 0)
    → (j : ℕ) → j < 256 → get_or content j 0 ≡ cond (nat_lt j within) (get_or bytes j 0) 0
cut_is content old bytes within count zero_is count_is inside after j small = ⊎_elim
    (λ less. let e : 0 + j ≡ j = omega arith in
    let byte : get_or content j 0 ≡ get_or bytes j 0 = subst (λ k. get_or content k 0 ≡ get_or bytes k 0) e
    (inside j (omega (arith, count_is, less, small))) in
    byte ∙ ap (λ b. cond b (get_or bytes j 0) 0) (sym (lt-ltb j within less)))
    (λ more. after j (omega (arith, count_is, more)) ∙ (zero_is j
    ∙ ap (λ b. cond b (get_or bytes j 0) 0) (sym (le-ltb j within more))))
    (cases_lt j within)

-- what a call that saw the same flash and table says
module _ (pages seen : Pages) (same : seen ≡ pages) (b b' : ℕ) (blocks_same : b' ≡ b) where
  pub knows_there : (t t' : Table) → t' ≡ t → KnowsLengths pages (places b) t → KnowsLengths seen (places b') t'
  knows_there t t' table_same knows = subst (λ q. KnowsLengths q (places b') t') (sym same)
      (subst (λ k. KnowsLengths pages (places k) t') (sym blocks_same)
      (subst (KnowsLengths pages (places b)) (sym table_same) knows))

  pub content_here : (key : FilePage) (bytes : List ℕ) → IsContent seen (places b') key bytes
      → IsContent pages (places b) key bytes
  content_here key bytes is = subst (λ k. IsContent pages (places k) key bytes) blocks_same
      (subst (λ q. IsContent q (places b') key bytes) same is)
