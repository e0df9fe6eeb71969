-- That a record of calls meets the laws of a flash.
use Rattle.std.specs.Prelude.{ℕ, zero, suc, ◌≤◌, List, [], ◌∷◌, length, true}
use Rattle.std.proofs.Common.{inr, arith}
use Rattle.flash_model.specs.declared.record.FlashCall.{FlashCall}
use Rattle.flash_model.specs.State.{FlashState, FlashCase, IsStill}
use Rattle.flash_model.specs.FlashMedium.{IsLawfulFlash}
use Rattle.flash_model.specs.History.{blank_state, state_after, state_after_call, past_case, recorded}

-- what the flash holds after all calls counts among what a crash might have left since t of them
pub counts_now : (calls : List FlashCall) (s : FlashState) (t : ℕ) (c : FlashCase) → t ≤ length calls
    → IsStill (state_after calls s) c
    → past_case calls s t c
counts_now [] s zero c le still = still
counts_now [] s (suc t) c le still = absurd (omega arith)
counts_now (call ∷ calls) s zero c le still = inr (inr
    (counts_now calls (state_after_call call s) zero c (omega arith) still))
counts_now (call ∷ calls) s (suc t) c le still = counts_now calls (state_after_call call s) t c (omega arith) still

-- since all of the calls a crash leaves what the flash holds, and nothing else
pub only_now : (calls : List FlashCall) (s : FlashState) (c : FlashCase) → past_case calls s (length calls) c
    → IsStill (state_after calls s) c
only_now [] s c past = past
only_now (call ∷ calls) s c past = only_now calls (state_after_call call s) c past

-- so a flash with any record of calls is lawful
pub record_is_lawful : (blocks : ℕ) (calls : List FlashCall) (faults : ℕ)
    → IsLawfulFlash true (recorded blocks calls faults)
record_is_lawful blocks calls faults = record {
  counts_now =
      λ told t c le still. counts_now calls blank_state t c le still;
  only_now =
      λ c past. only_now calls blank_state c past;
}
