-- What a flash in memory says of each moment, by its record of calls.
use Rattle.std.specs.Prelude.{◌⊎◌, ℕ, zero, suc, ◌+◌, ◌*◌, List, [], ◌∷◌, length, nat_lt, slice_index_or, if◌then◌else◌}
use Rattle.flash_model.specs.declared.record.FlashCall.{FlashCall}
use Rattle.flash_model.specs.declared.record.FlashCall.TheVariants.{Announce, Settle, Read, Program, Erase}
use Rattle.flash_model.specs.Pages.{Pages, blank_page}
use Rattle.flash_model.specs.State.{FlashState, FlashCase, IsStill, ProgramCase, EraseCase, announce_write}
use Rattle.flash_model.specs.State.{settle_pages, programmed, erased}
use Rattle.flash_model.specs.FlashMedium.{FlashMedium}

-- the pages that are one after the other in a list, 64 for each block: page p of block b. What is no page of the list
-- reads as a blank one.
abbrev pub pages_of : List (List ℕ) → Pages
pages_of items b p = if nat_lt p 64 then slice_index_or items (64 * b + p) blank_page else blank_page

-- a flash that was just made: all pages are blank, and nothing is announced
abbrev pub blank_state : FlashState
blank_state = record { pages = λ b p. blank_page; settled = λ b p. blank_page; announced = [] }

-- what a call that succeeded makes of a flash
abbrev pub state_after_call : FlashCall → FlashState → FlashState
state_after_call (Announce file at bytes) s = announce_write s file at bytes.items
state_after_call Settle s = settle_pages s
state_after_call Read s = s
state_after_call (Program block page bytes) s = programmed s block page bytes.items
state_after_call (Erase block) s = erased s block

-- what calls, the first of the list first, make of a flash
abbrev pub state_after : List FlashCall → FlashState → FlashState
state_after [] s = s
state_after (call ∷ calls) s = state_after calls (state_after_call call s)

-- c is what a crash in the middle of a call on the flash s may leave, apart from s as it was and as it becomes
abbrev pub call_case : FlashCall → FlashState → FlashCase → Type 0
call_case (Announce file at bytes) s c = ⊥
call_case Settle s c = ⊥
call_case Read s c = ⊥
call_case (Program block page bytes) s c = ProgramCase block page bytes.items s c
call_case (Erase block) s c = EraseCase block s c

-- c is what a crash after at least t of the calls, made on the flash s, might have left
abbrev pub past_case : List FlashCall → FlashState → ℕ → FlashCase → Type 0
past_case [] s zero c = IsStill s c
past_case [] s (suc t) c = ⊥
past_case (call ∷ calls) s zero c = IsStill s c ⊎ (call_case call s c
    ⊎ past_case calls (state_after_call call s) zero c)
past_case (call ∷ calls) s (suc t) c = past_case calls (state_after_call call s) t c

-- a flash with this record of calls, made when all was blank: its clock counts them
abbrev pub recorded : (blocks : ℕ) → List FlashCall → (faults : ℕ) → FlashMedium
recorded blocks calls faults = record {
  blocks = blocks;
  state = state_after calls blank_state;
  moment = length calls;
  since = past_case calls blank_state;
  faults = faults;
}

-- a call that changes no page
abbrev pub IsNoChange : FlashCall → Type 0
IsNoChange (Announce file at bytes) = Unit {0}
IsNoChange Settle = Unit {0}
IsNoChange Read = Unit {0}
IsNoChange (Program block page bytes) = ⊥
IsNoChange (Erase block) = ⊥
