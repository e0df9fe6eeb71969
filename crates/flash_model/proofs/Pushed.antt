-- One call more in the record of a flash in memory.
use Rattle.std.proofs.Common.{◌≡◌, ◌⊎◌, ℕ, zero, suc, ◌≤◌, List, [], ◌∷◌, ◌++◌, length, refl, inl, inr, ⊎_elim, arith}
use Rattle.std.proofs.lemmas.List.{length-append}
use Rattle.flash_model.specs.declared.record.FlashCall.{FlashCall}
use Rattle.flash_model.specs.State.{FlashState, FlashCase, IsStill}
use Rattle.flash_model.specs.FlashMedium.{FlashElapses}
use Rattle.flash_model.specs.History.{blank_state, state_after, state_after_call, call_case, past_case, recorded}

pub state_after-append : (calls : List FlashCall) (call : FlashCall) (s : FlashState)
    → state_after (calls ++ call ∷ []) s ≡ state_after_call call (state_after calls s)
state_after-append [] call s = refl
state_after-append (x ∷ calls) call s = state_after-append calls call (state_after_call x s)

-- a case since t is one of before, or one since the call began
pub nothing_else : (calls : List FlashCall) (call : FlashCall) (s : FlashState) (t : ℕ) (c : FlashCase)
    → t ≤ length calls
    → past_case (calls ++ call ∷ []) s t c → past_case calls s t c ⊎ past_case (calls ++ call ∷ []) s (length calls) c
nothing_else [] call s zero c le past = inr past
nothing_else [] call s (suc t) c le past = absurd (omega arith)
nothing_else (x ∷ calls) call s zero c le (inl still) = inl (inl still)
nothing_else (x ∷ calls) call s zero c le (inr (inl within)) = inl (inr (inl within))
nothing_else (x ∷ calls) call s zero c le (inr (inr past)) = ⊎_elim
    (λ was. inl (inr (inr was)))
    (λ new. inr new)
    (nothing_else calls call (state_after_call x s) zero c (omega arith) past)
nothing_else (x ∷ calls) call s (suc t) c le past = nothing_else calls call (state_after_call x s) t c (omega arith)
    past

-- a case of an earlier moment stays one
pub keeps : (calls : List FlashCall) (call : FlashCall) (s : FlashState) (t : ℕ) (c : FlashCase) → t ≤ length calls
    → past_case calls s t c → past_case (calls ++ call ∷ []) s t c
keeps [] call s zero c le past = inl past
keeps [] call s (suc t) c le past = absurd past
keeps (x ∷ calls) call s zero c le (inl still) = inl still
keeps (x ∷ calls) call s zero c le (inr (inl within)) = inr (inl within)
keeps (x ∷ calls) call s zero c le (inr (inr past)) = inr
    (inr (keeps calls call (state_after_call x s) zero c (omega arith) past))
keeps (x ∷ calls) call s (suc t) c le past = keeps calls call (state_after_call x s) t c (omega arith) past

-- a case since the call began is one since t
pub adds : (calls : List FlashCall) (call : FlashCall) (s : FlashState) (t : ℕ) (c : FlashCase) → t ≤ length calls
    → past_case (calls ++ call ∷ []) s (length calls) c → past_case (calls ++ call ∷ []) s t c
adds [] call s zero c le past = past
adds [] call s (suc t) c le past = absurd (omega arith)
adds (x ∷ calls) call s zero c le past = inr (inr (adds calls call (state_after_call x s) zero c (omega arith) past))
adds (x ∷ calls) call s (suc t) c le past = adds calls call (state_after_call x s) t c (omega arith) past

-- a case since the call began is one of before, of after, or of the middle of the call
pub during : (calls : List FlashCall) (call : FlashCall) (s : FlashState) (c : FlashCase)
    → past_case (calls ++ call ∷ []) s (length calls) c
    → IsStill (state_after calls s) c ⊎ (call_case call (state_after calls s) c
    ⊎ IsStill (state_after_call call (state_after calls s)) c)
during [] call s c past = past
during (x ∷ calls) call s c past = during calls call (state_after_call x s) c past

-- each case of the middle of the call is one since it began
pub within : (calls : List FlashCall) (call : FlashCall) (s : FlashState) (c : FlashCase)
    → call_case call (state_after calls s) c → past_case (calls ++ call ∷ []) s (length calls) c
within [] call s c case = inr (inl case)
within (x ∷ calls) call s c case = within calls call (state_after_call x s) c case

pub pushed : (blocks : ℕ) (calls : List FlashCall) (call : FlashCall) (faults faults' : ℕ) → faults ≤ faults'
    → FlashElapses (recorded blocks calls faults) (recorded blocks (calls ++ call ∷ []) faults')
pushed blocks calls call faults faults' more = record {
  later = omega (arith, length-append calls (call ∷ []));
  nothing_else = λ t c le past. nothing_else calls call blank_state t c le past;
  keeps = λ t c le past. keeps calls call blank_state t c le past;
  adds = λ t c le past. adds calls call blank_state t c le past;
  faults = more;
  blocks = refl;
}
