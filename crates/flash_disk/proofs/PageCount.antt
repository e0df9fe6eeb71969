-- How many pages have a record, and what records that come or go make of it.
use Rattle.std.proofs.Common.{◌≡◌, ℕ, zero, suc, ◌+◌, ◌<◌, ◌≤◌, Bool, true, false, cond, List, [], ◌∷◌, length, refl}
use Rattle.std.proofs.Common.{sym, ap, subst, ◌∙◌, arith}
use Rattle.std.specs.Prelude.{Option, Some, None, is_some, is_none, nat_lt, ◌||◌}
use Rattle.std.specs.Bool.{Decides}
use Rattle.std.specs.Cmp.{IsEquivalence, decided}
use Rattle.std.specs.List.{AllByRecursion, IsDistinct, list_any}
use Rattle.std.specs.Set.{is_member}
use Rattle.std.proofs.lemmas.Bool.{true≢false}
use Rattle.std.proofs.lemmas.Map.Keys.{IsDistinct-cons}
use Rattle.std.proofs.lemmas.Map.Made.{length-from_same_keys, length-le_from_is_member}
use Rattle.flash_model.specs.Pages.{Pages}
use Rattle.flash_record.specs.PageRecord.{PageRecord}
use Rattle.flash_disk.specs.declared.table.FilePage.{FilePage}
use Rattle.flash_disk.specs.declared.table.Newest.{Newest}
use Rattle.flash_disk.specs.declared.table.FlashPage.{FlashPage}
use Rattle.flash_disk.specs.declared.table.Table.{Table}
use Rattle.flash_disk.specs.Newest.{Placed, record_at, is_of, newer, with_record, newest, opens_page, page_count}
use Rattle.flash_disk.specs.Newest.{IsNewestOf}
use Rattle.flash_disk.proofs.NewestLaws.{newest_is}
use Rattle.flash_disk.specs.Known.{same_page, page_of, known}
use Rattle.flash_disk.specs.Learnt.{LedOf, IsLed, AddsRecord}
use Rattle.flash_disk.specs.Standing.{KeepsRecords}
use Rattle.flash_disk.specs.Counted.{missing}
use Rattle.flash_disk.specs.OwnFaults.{unrecorded}
use Rattle.flash_disk.proofs.Learning.{same_page_is, same_page_refl}
use Rattle.flash_disk.proofs.Programming.{placed, newest_here, newest_elsewhere}

page_decides : (a b : FilePage) → Decides (same_page a b) (a ≡ b)
page_decides a b = (same_page_is a b, λ is. subst (λ k. same_page a k ≡ true) is (same_page_refl a))

pub page_laws : IsEquivalence same_page
page_laws = decided same_page page_decides

-- ---- the pages that have a record

abbrev with_opened : Pages → ℕ → Option PageRecord → List FilePage → List FilePage
with_opened pages n None opened = opened
with_opened pages n (Some r) opened = cond (is_none (newest pages r.file r.page n)) (page_of r ∷ opened) opened

-- in the first n places
abbrev opened_pages : Pages → ℕ → List FilePage
opened_pages pages zero = []
opened_pages pages (suc n) = with_opened pages n (record_at pages n) (opened_pages pages n)

abbrev HasPages : (count : ℕ) (best : FilePage → Option Placed) → List FilePage → Type 0
HasPages count best opened = (length opened ≡ count) × IsDistinct same_page opened
    × ((key : FilePage) → is_member same_page opened key ≡ is_some (best key))

some_either : (b : Bool) (x y : Placed) → is_some (cond b (Some x) (Some y)) ≡ true
some_either true x y = refl
some_either false x y = refl

newer_some : (best : Option Placed) (x : Placed) → is_some (newer best x) ≡ true
newer_some None x = refl
newer_some (Some y) x = some_either (nat_lt y.says.sequence x.says.sequence) x y

some_not : (best : Option Placed) (b : Bool) → is_none best ≡ b → is_some best ≡ cond b false true
some_not None true is = refl
some_not None false is = absurd (true≢false is)
some_not (Some x) true is = absurd (true≢false (sym is))
some_not (Some x) false is = refl

first_apart : (key k : FilePage) (ks : List FilePage) (b : Bool) → same_page key k ≡ b
    → (list_any (same_page key) ks ≡ false → AllByRecursion (λ k. same_page key k ≡ false) ks)
    → (b || list_any (same_page key) ks) ≡ false → (same_page key k ≡ false)
    × AllByRecursion (λ k. same_page key k ≡ false) ks
first_apart key k ks true is rest none = absurd (true≢false none)
first_apart key k ks false is rest none = (is, rest none)

all_apart : (key : FilePage) (opened : List FilePage) → list_any (same_page key) opened ≡ false
    → AllByRecursion (λ k. same_page key k ≡ false) opened
all_apart key [] none = tt
all_apart key (k ∷ ks) none = first_apart key k ks (same_page key k) refl (all_apart key ks) none

module _ (pages : Pages) (n count : ℕ) (opened : List FilePage)
    (has : HasPages count (λ key. newest pages key.file key.page n) opened) where
  module _ (r : PageRecord) where
    abbrev here : Placed
    here = record { place = n; says = r }

    abbrev own : FilePage
    own = page_of r

    abbrev old : FilePage → Option Placed
    old key = newest pages key.file key.page n

    new_page : (key : FilePage) (b : Bool) → same_page own key ≡ b
        → (b || list_any (same_page key) opened) ≡ is_some (cond b (newer (old key) here) (old key))
    new_page key true is = sym (newer_some (old key) here)
    new_page key false is = has.2 key

    known_page : is_some (old own) ≡ true → (key : FilePage) (b : Bool) → same_page own key ≡ b
        → list_any (same_page key) opened ≡ is_some (cond b (newer (old key) here) (old key))
    known_page some key true is = has.2 key ∙ (subst (λ k. is_some (old k) ≡ true) (same_page_is own key is) some
        ∙ sym (newer_some (old key) here))
    known_page some key false is = has.2 key

    one_record : (b : Bool) → is_none (old own) ≡ b
        → HasPages (count + cond b 1 0) (λ key. cond (is_of key.file key.page r) (newer (old key) here) (old key))
        (cond b (own ∷ opened) opened)
    one_record true is = (
      (let long = has.0 in omega (arith, long)),
      IsDistinct-cons same_page own opened (all_apart own opened (has.2 own ∙ some_not (old own) true is)) has.1,
      λ key. ap (λ b. b || list_any (same_page key) opened) (page_laws.symm key own)
          ∙ new_page key (same_page own key) refl,
    )
    one_record false is = (
      (let long = has.0 in omega (arith, long)),
      has.1,
      λ key. known_page (some_not (old own) false is) key (same_page own key) refl,
    )

  -- one place more
  opened_next : (o : Option PageRecord) → HasPages (count + opens_page pages n o)
      (λ key. with_record key.file key.page n o (newest pages key.file key.page n)) (with_opened pages n o opened)
  opened_next None = ((let long = has.0 in omega (arith, long)), has.1, has.2)
  opened_next (Some r) = one_record r (is_none (newest pages r.file r.page n)) refl

none_distinct : IsDistinct same_page []
unfolding IsDistinct
none_distinct = tt

opened_is : (pages : Pages) (n : ℕ) → HasPages (page_count pages n) (λ key. newest pages key.file key.page n)
    (opened_pages pages n)
opened_is pages zero = (refl, none_distinct, λ key. refl)
opened_is pages (suc n) = opened_next pages n (page_count pages n) (opened_pages pages n) (opened_is pages n)
    (record_at pages n)

-- ---- pages that change

same_some : (a b : Option Placed) → is_none a ≡ is_none b → is_some a ≡ is_some b
same_some None None same = refl
same_some None (Some y) same = absurd (true≢false same)
same_some (Some x) None same = absurd (true≢false (sym same))
same_some (Some x) (Some y) same = refl

-- of two lists of pages that have a record, with the same pages, one is as long as the other
same_pages : (count count' : ℕ) (best best' : FilePage → Option Placed) (opened opened' : List FilePage)
    → HasPages count best opened → HasPages count' best' opened'
    → ((key : FilePage) → is_some (best key) ≡ is_some (best' key)) → count ≡ count'
same_pages count count' best best' opened opened' has has' same =
    sym has.0 ∙ (length-from_same_keys page_laws opened opened' has.1 has'.1
    (λ key. has.2 key ∙ (same key ∙ sym (has'.2 key))) ∙ has'.0)

-- the pages of one are pages of the other
fewer_pages : (count count' : ℕ) (best best' : FilePage → Option Placed) (opened opened' : List FilePage)
    → HasPages count best opened → HasPages count' best' opened'
    → ((key : FilePage) → is_some (best key) ≡ true → is_some (best' key) ≡ true) → count ≤ count'
fewer_pages count count' best best' opened opened' has has' some =
    let less = length-le_from_is_member page_laws opened opened' has.1
    (λ key is. has'.2 key ∙ some key (sym (has.2 key) ∙ is)) in
    let long = has.0 in let long' = has'.0 in omega (arith, less, long, long')

-- no page came or went
count_same : (old new : Pages) (n : ℕ) → ((file page : ℕ)
    → is_none (newest new file page n) ≡ is_none (newest old file page n)) → page_count new n ≡ page_count old n
count_same old new n same = same_pages (page_count new n) (page_count old n) (λ key. newest new key.file key.page n)
    (λ key. newest old key.file key.page n)
    (opened_pages new n) (opened_pages old n) (opened_is new n) (opened_is old n)
    (λ key. same_some (newest new key.file key.page n) (newest old key.file key.page n) (same key.file key.page))

module _ (old new : Pages) (n : ℕ) (place : FlashPage) (r : PageRecord) (adds : AddsRecord old new n place r) where
  added_page : (key : FilePage) (b : Bool) → is_of key.file key.page r ≡ b
      → is_some (newest new key.file key.page n) ≡ is_some
      (cond b (newer (newest old key.file key.page n) (record { place = n; says = r }))
      (newest old key.file key.page n))
  added_page key true is =
      let key_is : page_of r ≡ key = same_page_is (page_of r) key is in
      ap is_some (subst (λ (k : FilePage). newest new k.file k.page n ≡ Some (placed old new n place r adds)) key_is
      (newest_here old new n place r adds))
      ∙ sym (newer_some (newest old key.file key.page n) (record { place = n; says = r }))
  added_page key false is = ap is_some (newest_elsewhere old new n place r adds key.file key.page is)

  -- a record was added
  pub count_adds : page_count new n ≡ page_count old n + cond (is_none (newest old r.file r.page n)) 1 0
  count_adds =
      let b = is_none (newest old r.file r.page n) in
      same_pages (page_count new n) (page_count old n + cond b 1 0) (λ key. newest new key.file key.page n)
      (λ key. cond (is_of key.file key.page r) (newer (newest old key.file key.page n) (record { place = n; says = r }))
      (newest old key.file key.page n))
      (opened_pages new n) (cond b (page_of r ∷ opened_pages old n) (opened_pages old n))
      (opened_is new n) (one_record old n (page_count old n) (opened_pages old n) (opened_is old n) r b refl)
      (λ key. added_page key (is_of key.file key.page r) refl)

module _ (old new : Pages) (n : ℕ) (keeps : KeepsRecords old new n) where
  kept_page : (file page : ℕ) (was is : Option Placed) → newest old file page n ≡ was → IsNewestOf old file page n was
      → IsNewestOf new file page n is → is_none is ≡ is_none was
  kept_page file page None None found before after = refl
  kept_page file page None (Some x) found before after =
      let there = keeps.only x.place x.says after.within after.there in
      absurd (before there.0 x.says there.1 there.2 after.of_page)
  kept_page file page (Some x) None found before after =
      let left = keeps.stays file page x found in
      absurd (after left.0 x.says left.1 left.2 before.of_page)
  kept_page file page (Some x) (Some y) found before after = refl

  -- of each newest record one is left
  pub count_keeps : page_count new n ≡ page_count old n
  count_keeps = count_same old new n (λ file page. kept_page file page (newest old file page n) (newest new file page n)
      refl
      (newest_is old file page n) (newest_is new file page n))

module _ (old new : Pages) (n : ℕ)
    (were : (j : ℕ) (q : PageRecord) → record_at new j ≡ Some q → record_at old j ≡ Some q) where
  page_was : (file page : ℕ) (was is : Option Placed) → IsNewestOf old file page n was → IsNewestOf new file page n is
      → is_some is ≡ true → is_some was ≡ true
  page_was file page None None before after some = some
  page_was file page None (Some x) before after some =
      absurd (before x.place x.says after.within (were x.place x.says after.there) after.of_page)
  page_was file page (Some x) is before after some = refl

  -- records were lost, and none came
  pub count_loses : page_count new n ≤ page_count old n
  count_loses = fewer_pages (page_count new n) (page_count old n) (λ key. newest new key.file key.page n)
      (λ key. newest old key.file key.page n) (opened_pages new n) (opened_pages old n) (opened_is new n)
      (opened_is old n)
      (λ key. page_was key.file key.page (newest old key.file key.page n) (newest new key.file key.page n)
      (newest_is old key.file key.page n) (newest_is new key.file key.page n))

module _ (old new : Pages) (n : ℕ) (came : (j : ℕ) (q : PageRecord) → j < n → record_at new j ≡ Some q
    → (k : ℕ) × (k < n) × (record_at old k ≡ Some q)) where
  page_came : (file page : ℕ) (was is : Option Placed) → IsNewestOf old file page n was → IsNewestOf new file page n is
      → is_some is ≡ true → is_some was ≡ true
  page_came file page None None before after some = some
  page_came file page None (Some x) before after some =
      let there = came x.place x.says after.within after.there in
      absurd (before there.0 x.says there.1 there.2 after.of_page)
  page_came file page (Some x) is before after some = refl

  -- each record was there, if in another place
  pub count_came : page_count new n ≤ page_count old n
  count_came = fewer_pages (page_count new n) (page_count old n) (λ key. newest new key.file key.page n)
      (λ key. newest old key.file key.page n) (opened_pages new n) (opened_pages old n) (opened_is new n)
      (opened_is old n)
      (λ key. page_came key.file key.page (newest old key.file key.page n) (newest new key.file key.page n)
      (newest_is old key.file key.page n) (newest_is new key.file key.page n))

-- ---- the entries of a table

pub led_none : (pages : Pages) (n : ℕ) (entry : Option Newest) (best : Option Placed) → LedOf pages n entry best
    → is_none entry ≡ is_none best
led_none pages n None None led = refl
led_none pages n None (Some x) led = absurd led
led_none pages n (Some e) None led = absurd led
led_none pages n (Some e) (Some x) led = refl

-- as many pages of a file have no entry as have no record
pub missing_is : (pages : Pages) (n : ℕ) (table : Table) → IsLed pages n table → (file from k : ℕ)
    → missing table file from k ≡ unrecorded pages n file from k
missing_is pages n table led file from zero = refl
missing_is pages n table led file from (suc k) =
    let key : FilePage = record { file = file; page = from + k } in
    ap (λ m. m + cond (is_none (known table key)) 1 0) (missing_is pages n table led file from k)
    ∙ ap (λ b. unrecorded pages n file from k + cond b 1 0)
    (led_none pages n (known table key) (newest pages file (from + k) n) (led.says key))
