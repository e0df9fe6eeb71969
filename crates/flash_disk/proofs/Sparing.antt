-- A block is spare where each newest record, or an equal one, also is in another block.
use Rattle.std.proofs.Common.{◌≡◌, ◌≢◌, ℕ, ◌/◌, ◌+◌, ◌*◌, ◌<◌, refl, sym, ap, subst, ◌∙◌, arith}
use Rattle.std.specs.Prelude.{Option, Some, None}
use Rattle.flash_model.specs.Pages.{Pages}
use Rattle.flash_record.specs.PageRecord.{PageRecord}
use Rattle.flash_disk.specs.Newest.{Placed, record_at, newest, IsSpare}
use Rattle.flash_disk.specs.declared.table.FilePage.{FilePage}
use Rattle.flash_disk.specs.declared.table.Newest.{Newest}
use Rattle.flash_disk.specs.declared.table.FlashPage.{FlashPage}
use Rattle.flash_disk.specs.declared.table.Table.{Table}
use Rattle.flash_disk.specs.Known.{known}
use Rattle.flash_disk.specs.Learnt.{number, LedOf, IsLed}
use Rattle.flash_disk.specs.Sound.{LeavesOut}
use Rattle.flash_disk.specs.Standing.{IsAgreed, KeepsRecords}
use Rattle.flash_disk.proofs.Standing.{said_before, keeps_said}

-- each newest record, or an equal one, is outside the block
abbrev pub LiesElsewhere : Pages → (n block : ℕ) → Type 0
LiesElsewhere pages n block = (file page : ℕ) (x : Placed) → newest pages file page n ≡ Some x
    → (k : ℕ) × (k < n) × (k / 64 ≢ block) × (record_at pages k ≡ Some x.says)

-- such a block is spare
pub spare_of : (pages : Pages) (n block : ℕ) → LiesElsewhere pages n block → IsSpare pages n block
spare_of pages n block elsewhere x needed at =
    let copy = elsewhere x.says.file x.says.page x needed.newest_is in
    needed.alone copy.0 (record { within = copy.1; apart = λ same. copy.2 (same ∙ at); same = copy.3 })

-- each newest record still is outside the block, if what is outside it stays
pub elsewhere_kept : (old new : Pages) (n block : ℕ) → IsAgreed old n → KeepsRecords old new n
    → LiesElsewhere old n block
    → ((j : ℕ) (q : PageRecord) → j / 64 ≢ block → record_at old j ≡ Some q → record_at new j ≡ Some q)
    → LiesElsewhere new n block
elsewhere_kept old new n block agreed keeps elsewhere stays file page x found =
    let before = said_before old new n (keeps_said old new n agreed keeps) file page x found in
    let copy = elsewhere file page before.0 before.1 in
    (copy.0, copy.1, copy.2, stays copy.0 before.0.says copy.2 copy.3 ∙ ap Some before.2)

-- the block of a place
pub number_block : (place : FlashPage) → place.page < 64 → number place / 64 ≡ place.block
number_block place small = let e : (64 * place.block + place.page) / 64 ≡ place.block = omega (arith, small) in e

module _ (pages : Pages) (n : ℕ) (table : Table) (led : IsLed pages n table) where
  led_by : (file page : ℕ) (x : Placed) (k : Option Newest) → known table (record { file = file; page = page }) ≡ k
      → LedOf pages n k (Some x)
      → (e : Newest) × (known table (record { file = file; page = page }) ≡ Some e) × (e.place.page < 64)
      × (number e.place < n) × (record_at pages (number e.place) ≡ Some x.says)
  led_by file page x None is says = absurd says
  led_by file page x (Some e) is says = (e, is, says.leads.small, says.within, says.leads.there)

  -- where the table has no entry that leads into a block each newest record, or an equal one, is outside it
  pub led_elsewhere : (block : ℕ) → LeavesOut table block → LiesElsewhere pages n block
  led_elsewhere block leaves file page x found =
      let key : FilePage = record { file = file; page = page } in
      let entry = led_by file page x (known table key) refl
      (subst (LedOf pages n (known table key)) found (led.says key)) in (
        number entry.0.place,
        entry.3,
        (λ here. leaves key entry.0 entry.1
            (sym (number_block entry.0.place entry.2) ∙ here)),
        entry.4,
      )
