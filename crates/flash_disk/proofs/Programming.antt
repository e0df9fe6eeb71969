-- What a newer record makes of the newest records, once it is programmed where no record was.
use Rattle.std.proofs.Common.{◌≡◌, ◌⊎◌, ℕ, ◌<◌, ◌≤◌, Bool, true, false, cond, refl, sym, ap, subst, ◌∙◌, inl, inr}
use Rattle.std.proofs.Common.{⊎_elim, arith, true≢false, eq-eqb}
use Rattle.std.specs.Prelude.{Option, Some, None, slice_index}
use Rattle.std.proofs.lemmas.Bool.{cases_lt, cases_eq}
use Rattle.std.proofs.lemmas.Option.{same_Some, none-some}
use Rattle.flash_model.specs.Pages.{Pages}
use Rattle.flash_record.specs.PageRecord.{PageRecord}
use Rattle.flash_disk.specs.Newest.{Placed, record_at, is_of, newest, IsNewest, IsNewestOf}
use Rattle.flash_disk.proofs.NewestLaws.{newest_is}
use Rattle.flash_disk.specs.declared.table.FilePage.{FilePage}
use Rattle.flash_disk.specs.declared.table.FlashPage.{FlashPage}
use Rattle.flash_disk.specs.declared.table.Newest.{Newest}
use Rattle.flash_disk.specs.declared.table.Table.{Table}
use Rattle.flash_disk.specs.Known.{same_page, page_of, known, limit_of, SetsEntry}
use Rattle.flash_disk.specs.Learnt.{number, Led, LedOf, IsLed, AddsRecord}
use Rattle.flash_disk.proofs.Learning.{same_page_is}
use Rattle.flash_disk.proofs.Leading.{same_newest}

module _ (pages : Pages) (file page n : ℕ) where
  same_place : (x y : Placed) → IsNewest pages file page n x → IsNewest pages file page n y → x.place < y.place → ⊥
  same_place x y is_x is_y before =
      let less = is_y.first x.place x.says before is_x.there is_x.of_page in
      let most = is_x.most y.place y.says is_y.within is_y.there is_y.of_page in omega (arith, less, most)

  same_placed : (x y : Placed) → IsNewest pages file page n x → IsNewest pages file page n y → x ≡ y
  same_placed x y is_x is_y =
      let place : x.place ≡ y.place = ⊎_elim
      (λ before. absurd (same_place x y is_x is_y before))
      (λ late. ⊎_elim (λ after. absurd (same_place y x is_y is_x after))
      (λ early. let e : x.place ≡ y.place = omega arith in e) (cases_lt y.place x.place))
      (cases_lt x.place y.place) in
      let says : x.says ≡ y.says = same_Some x.says y.says (sym is_x.there ∙ (ap (record_at pages) place ∙ is_y.there))
      in
      ap (λ p. let z : Placed = record { place = p; says = x.says } in z) place
      ∙ ap (λ q. let z : Placed = record { place = y.place; says = q } in z) says

  -- a page has one newest record
  pub one_newest : (a b : Option Placed) → IsNewestOf pages file page n a → IsNewestOf pages file page n b → a ≡ b
  one_newest None None is_a is_b = refl
  one_newest None (Some y) is_a is_b = absurd (is_a y.place y.says is_b.within is_b.there is_b.of_page)
  one_newest (Some x) None is_a is_b = absurd (is_b x.place x.says is_a.within is_a.there is_a.of_page)
  one_newest (Some x) (Some y) is_a is_b = ap Some (same_placed x y is_a is_b)

module _ (old new : Pages) (n : ℕ) (place : FlashPage) (r : PageRecord) (adds : AddsRecord old new n place r) where
  abbrev pub placed : Placed
  placed = record { place = number place; says = r }

  -- where a record was it is still
  pub still : (j : ℕ) (q : PageRecord) → record_at old j ≡ Some q → record_at new j ≡ Some q
  still j q there = adds.elsewhere j (λ same. none-some q
      (sym adds.nothing ∙ subst (λ k. record_at old k ≡ Some q) same there)) ∙ there

  -- a record is the one that was added, or was there
  pub either : (j : ℕ) (q : PageRecord) → record_at new j ≡ Some q
      → ((j ≡ number place) × (q ≡ r)) ⊎ (record_at old j ≡ Some q)
  either j q there = ⊎_elim
      (λ same. inl (same, same_Some q r (sym (subst (λ k. record_at new k ≡ Some q) same there) ∙ adds.here)))
      (λ apart. inr (sym (adds.elsewhere j apart) ∙ there))
      (cases_eq j (number place))

  own_page : is_of r.file r.page r ≡ true
  own_page = rw (eq-eqb r.file r.file refl, eq-eqb r.page r.page refl) refl

  -- it is the newest of its page
  pub newest_here : newest new r.file r.page n ≡ Some placed
  newest_here = one_newest new r.file r.page n (newest new r.file r.page n) (Some placed)
      (newest_is new r.file r.page n) (record {
        of_page = own_page;
        within = adds.within;
        there = adds.here;
        most = λ j q inside there of_page. ⊎_elim
            (λ own. (let e : q.sequence ≡ r.sequence = ap (λ z. z.sequence) own.1 in omega (arith, e)))
            (λ was. (let less = adds.newer j q inside was in omega (arith, less)))
            (either j q there);
        first = λ j q before there of_page. ⊎_elim
            (λ own. (let e = own.0 in absurd (omega (arith, e, before))))
            (λ was. (let within = adds.within in adds.newer j q (omega (arith, before, within)) was))
            (either j q there);
      })

  kept : (file page : ℕ) → is_of file page r ≡ false → (best : Option Placed) → IsNewestOf old file page n best
      → IsNewestOf new file page n best
  kept file page other None none = λ j q inside there of_page. ⊎_elim
      (λ own. true≢false (sym of_page ∙ (ap (is_of file page) own.1 ∙ other)))
      (λ was. none j q inside was of_page)
      (either j q there)
  kept file page other (Some x) is_newest = record {
    of_page = is_newest.of_page;
    within = is_newest.within;
    there = still x.place x.says is_newest.there;
    most = λ j q inside there of_page. ⊎_elim
        (λ own. absurd (true≢false (sym of_page ∙ (ap (is_of file page) own.1 ∙ other))))
        (λ was. is_newest.most j q inside was of_page)
        (either j q there);
    first = λ j q before there of_page. ⊎_elim
        (λ own. absurd (true≢false (sym of_page ∙ (ap (is_of file page) own.1 ∙ other))))
        (λ was. is_newest.first j q before was of_page)
        (either j q there);
  }

  -- every other page keeps its newest record
  pub newest_elsewhere : (file page : ℕ) → is_of file page r ≡ false → newest new file page n ≡ newest old file page n
  newest_elsewhere file page other = one_newest new file page n (newest new file page n) (newest old file page n)
      (newest_is new file page n)
      (kept file page other (newest old file page n) (newest_is old file page n))

  led_kept : (file page : ℕ) (e : Option Newest) (best : Option Placed) → IsNewestOf old file page n best
      → LedOf old n e best → LedOf new n e best
  led_kept file page None None is led = led
  led_kept file page None (Some x) is led = led
  led_kept file page (Some e) None is led = led
  led_kept file page (Some e) (Some x) is led = record {
    within = led.within;
    leads = record {
      small = led.leads.small;
      there = still (number e.place) x.says led.leads.there;
      sequence = led.leads.sequence;
      len = led.leads.len;
      filled = led.leads.filled;
    };
  }

  -- the entry of the record itself
  abbrev pub IsItsEntry : Newest → Type 0
  IsItsEntry e = (e.place ≡ place) × (e.sequence ≡ r.sequence) × (e.len ≡ r.len)
      × ((j : ℕ) → e.filled ≤ j → slice_index r.bytes j ≡ 0)

  led_here : (e : Newest) → IsItsEntry e → Led new n e placed
  led_here e (at, sequence, len, filled) = record {
    within = subst (λ p. number p < n) (sym at) adds.within;
    leads = record {
      small = subst (λ (p : FlashPage). p.page < 64) (sym at) adds.small;
      there = ap (λ p. record_at new (number p)) at ∙ adds.here;
      sequence = sequence;
      len = len;
      filled = filled;
    };
  }

  by_key : (table : Table) (e : Newest) → IsItsEntry e → IsLed old n table → (key : FilePage) (b : Bool)
      → same_page (page_of r) key ≡ b
      → LedOf new n (cond b (Some e) (known table key)) (newest new key.file key.page n)
  by_key table e is led key true same = subst (λ k. LedOf new n (Some e) (newest new k.file k.page n))
      (same_page_is (page_of r) key same)
      (subst (LedOf new n (Some e)) (sym newest_here) (led_here e is))
  by_key table e is led key false other = subst (LedOf new n (known table key))
      (sym (newest_elsewhere key.file key.page other))
      (led_kept key.file key.page (known table key) (newest old key.file key.page n) (newest_is old key.file key.page n)
      (led.says key))

  -- the table leads to it once its entry is put in
  pub added : (table after : Table) (e : Newest) → IsItsEntry e → IsLed old n table
      → SetsEntry table after (page_of r) e
      → IsLed new n after
  added table after e is led puts = record {
    says = λ key. subst (λ k. LedOf new n k (newest new key.file key.page n)) (sym (puts.known_is key))
        (by_key table e is led key (same_page (page_of r) key) refl);
    room = puts.room led.room;
    fits = puts.fits led.fits;
  }

  -- the lengths of files matter to no entry
  pub same_led : (table after : Table) → after.newest ≡ table.newest → limit_of after ≡ limit_of table
      → IsLed new n table → IsLed new n after
  same_led table after same limit led = same_newest new n table after led same limit
