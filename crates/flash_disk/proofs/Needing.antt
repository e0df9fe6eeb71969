-- No file is given up where each block but one has the record that counts of a page of a file that is kept.
use Rattle.std.proofs.Common.{◌≡◌, ◌≢◌, ◌∙◌, ◌/◌, ◌<◌, ℕ, Bool, true, refl, sym, ap, subst, true≢false}
use Rattle.std.specs.Prelude.{Option, Some, None, IfSome, is_some}
use Rattle.flash_model.specs.Pages.{Pages}
use Rattle.flash_disk.specs.declared.table.FilePage.{FilePage}
use Rattle.flash_disk.specs.declared.table.Newest.{Newest}
use Rattle.flash_disk.specs.declared.table.Table.{Table}
use Rattle.flash_disk.specs.Newest.{Placed, record_at, newest, places}
use Rattle.flash_disk.specs.Known.{known}
use Rattle.flash_disk.specs.Learnt.{number, IsLed, LedOf}
use Rattle.flash_disk.specs.Forgetting.{CountsInBlock, IsFullOfKept, NeedsBlock}
use Rattle.flash_disk.proofs.Sparing.{number_block}

-- a block in which such a record was found is needed
pub found_needs : (kept : ℕ → Bool) (table : Table) (block : ℕ) (o : Option (FilePage × Newest)) (b : Bool)
    → b ≡ is_some o → b ≡ true → IfSome o (λ f. known table f.0 ≡ Some f.1) → IfSome o (λ f. kept f.0.file ≡ true)
    → IfSome o (λ f. f.1.place.block ≡ block) → NeedsBlock kept table block
found_needs kept table block None b is some knows own here = absurd (true≢false (sym some ∙ is))
found_needs kept table block (Some f) b is some knows own here = (f.0, f.1, own, knows, here)

abbrev place_of : Option Newest → ℕ
place_of None = 0
place_of (Some e) = number e.place

module _ (kept : ℕ → Bool) (pages : Pages) (blocks : ℕ) (table : Table) (led : IsLed pages (places blocks) table) where
  abbrev counting : (file page : ℕ) → ℕ
  counting file page = place_of (known table (record { file = file; page = page }))

  led_to : (key : FilePage) (e : Newest) (o : Option Placed) → newest pages key.file key.page (places blocks) ≡ o
      → LedOf pages (places blocks) (Some e) o
      → (x : Placed) × (newest pages key.file key.page (places blocks) ≡ Some x) × (e.place.page < 64)
      × (record_at pages (number e.place) ≡ Some x.says)
  led_to key e None is says = absurd says
  led_to key e (Some x) is says = (x, is, says.leads.small, says.leads.there)

  counts_in : (block : ℕ) → NeedsBlock kept table block → CountsInBlock kept pages blocks counting block
  counts_in block needs =
      let key = needs.0 in
      let e = needs.1 in
      let known_is : known table key ≡ Some e = needs.3 in
      let x = led_to key e (newest pages key.file key.page (places blocks)) refl
      (subst (λ k. LedOf pages (places blocks) k (newest pages key.file key.page (places blocks))) known_is
      (led.says key)) in
      let same : counting key.file key.page ≡ number e.place = ap place_of known_is in record {
        file = key.file;
        page = key.page;
        best = x.0;
        own = needs.2;
        newest_is = x.1;
        there = subst (λ p. record_at pages p ≡ Some x.0.says) (sym same) x.3;
        here = ap (λ p. p / 64) same ∙ (number_block e.place x.2 ∙ needs.4);
      }

  pub full_of_kept : (spare : ℕ) → ((block : ℕ) → block < blocks → block ≢ spare → NeedsBlock kept table block)
      → IsFullOfKept kept pages blocks
  full_of_kept spare needs = record {
    counting = counting;
    spare = spare;
    full = λ block within apart. counts_in block (needs block within apart);
  }
