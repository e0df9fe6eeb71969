-- Where a call fails though its flash does not. A page of a file has 256 bytes.
use Rattle.std.specs.Prelude.{◌≡◌, ◌⊎◌, ℕ, zero, suc, ◌+◌, ◌-◌, ◌/◌, ◌<◌, ◌≤◌, is_none, IsTrue, if◌then◌else◌}
use Rattle.std.specs.Int.{div_ceil}
use Rattle.flash_model.specs.Pages.{Pages}
use Rattle.flash_model.specs.FlashMedium.{FlashMedium}
use Rattle.flash_disk.specs.declared.layer.LayerState.{LayerState}
use Rattle.flash_disk.specs.Newest.{newest, places, page_count, page_limit}
use Rattle.flash_disk.specs.Standing.{IsAgreed, HasRivals}

-- how many of k pages of a file from one on have no record in the first n places
abbrev pub unrecorded : Pages → (n file from k : ℕ) → ℕ
unrecorded pages n file from zero = 0
unrecorded pages n file from (suc k) = unrecorded pages n file from k
    + (if is_none (newest pages file (from + k) n) then 1 else 0)

-- a write of n bytes would end past the end of the greatest file, which has 2^40 bytes
abbrev pub EndsTooLate : (at n : ℕ) → Type 0
EndsTooLate at n = 1099511627776 < at + n

-- after it there would be more pages than all blocks but two have room for
abbrev pub WantsTooMany : FlashMedium → (file at n : ℕ) → Type 0
WantsTooMany m file at n = page_limit m.blocks < page_count m.state.pages (places m.blocks)
    + unrecorded m.state.pages (places m.blocks) file (at / 256) (div_ceil (at + n) 256 - at / 256)

-- a write of n bytes ends within the greatest file, of 2^40 bytes, has room for its pages, and finds no rivals
pub record IsAllowed (m : FlashMedium) (file at n : ℕ) : Type 0 where
  pub ends : at + n ≤ 1099511627776
  pub fits : page_count m.state.pages (places m.blocks)
      + unrecorded m.state.pages (places m.blocks) file (at / 256) (div_ceil (at + n) 256 - at / 256)
      ≤ page_limit m.blocks
  pub agreed : IsAgreed m.state.pages (places m.blocks)

-- it adds no more pages than it lacks
abbrev pub TakesPages : FlashMedium → FlashMedium → (file at n : ℕ) → Type 0
TakesPages old new file at n = page_count new.state.pages (places new.blocks)
    ≤ page_count old.state.pages (places old.blocks)
    + unrecorded old.state.pages (places old.blocks) file (at / 256) (div_ceil (at + n) 256 - at / 256)

-- no record can be added: the greatest number, 2^64 - 1, was used, or two records of a page that have its greatest
-- number differ
abbrev pub StopsAdding : LayerState → Type 0
StopsAdding s = (s.sequence ≡ 18446744073709551615) ⊎ IsTrue s.has_rivals

-- a write of n bytes into a file fails though the flash does not, where this is the greatest number used by its end: it
-- ends too late, wants too many pages, no number is left after 2^64 - 1, or there are rivals
abbrev pub FailsAlone : FlashMedium → (sequence file at n : ℕ) → Type 0
FailsAlone m sequence file at n = EndsTooLate at n ⊎ (WantsTooMany m file at n
    ⊎ ((sequence ≡ 18446744073709551615) ⊎ HasRivals m.state.pages (places m.blocks)))
