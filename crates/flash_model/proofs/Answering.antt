-- How the parts of a call of a flash in memory make a call.
use Rattle.std.proofs.Common.{◌≡◌, ◌⊎◌, ℕ, ◌≤◌, Bool, true, false, List, [], ◌∷◌, ◌++◌, length, refl, sym, ap, ◌∙◌}
use Rattle.std.proofs.Common.{subst, inl, le_refl, le_trans, le_of_eq, true≢false, if◌then◌else◌}
use Rattle.std.specs.Prelude.{Result, Ok, Err, OnErr}
use Rattle.flash_model.specs.declared.memory.MemFlash.{MemFlash}
use Rattle.flash_model.specs.declared.record.FlashCall.{FlashCall}
use Rattle.disk_model.specs.Orders.{names, stops, fault_count}
use Rattle.disk_model.specs.lemmas.Answering.{fails_as_planned, fails_by_memory}
use Rattle.per_base.specs.Causes.{raised}
use Rattle.flash_model.specs.Pages.{Pages}
use Rattle.flash_model.specs.State.{FlashState, FlashCase, IsStill, IsLeftBy}
use Rattle.flash_model.specs.FlashMedium.{FlashMedium, FlashElapses, EachFlashCase}
use Rattle.flash_model.specs.History.{blank_state, state_after, state_after_call, call_case, past_case, recorded}
use Rattle.flash_model.specs.History.{IsNoChange}
use Rattle.flash_model.specs.declared.record.FlashCall.TheVariants.{Announce, Settle, Read, Program, Erase}
use Rattle.flash_model.specs.HistoryLaws.{counts_now, only_now}
use Rattle.flash_model.specs.Memory.{mem_flash, IsUnchanged, AnswersAsPlanned, Fails, Shows, SameRecord}
use Rattle.flash_model.specs.Memory.{Begins}
use Rattle.flash_model.specs.Memory.{RunsOut, Succeeds}
use Rattle.flash_model.proofs.Pushed.{state_after-append, during, within, pushed}

-- what a flash shows is all that it is as a flash
pub shown : (flash : MemFlash) (blocks : ℕ) (calls : List FlashCall) → Shows flash blocks calls
    → (P : FlashMedium → Type 0) → P (recorded blocks calls (fault_count flash.orders)) → P (mem_flash flash)
shown flash blocks calls shows P p =
    let p1 = subst (λ b. P (recorded b calls (fault_count flash.orders))) (sym shows.blocks_are) p in
    subst (λ cs. P (recorded flash.blocks cs (fault_count flash.orders))) (sym shows.calls_are) p1

pub on_err : {T E : Type 0} (r : Result T E) (P : Type 0) → P → OnErr r P
on_err (Ok x) P p = tt
on_err (Err e) P p = p

-- a flash that differs from another in its counts and orders alone, after a fault
pub failed : (old new : MemFlash) → SameRecord old new → (mem_flash old).faults ≤ (mem_flash new).faults
    → (mem_flash new).faults ≡ raised (mem_flash old).faults → AnswersAsPlanned old new true → Fails old new
failed old new same later rose answers =
    let calls = old.calls.items in
    record {
      unchanged = shown new old.blocks calls same (λ m. IsUnchanged (mem_flash old) m)
          (record { blocks = refl; state = refl; moment = refl; since = λ t c. (λ x. x, λ x. x) });
      still = shown new old.blocks calls same (λ m. EachFlashCase (IsStill (mem_flash old).state) (mem_flash old) m)
          (λ c past. only_now calls blank_state c past);
      time = shown new old.blocks calls same (λ m. FlashElapses (mem_flash old) m) (record {
        later = le_refl _;
        nothing_else = λ t c le past. inl past;
        keeps = λ t c le past. past;
        adds = λ t c le past. earlier calls blank_state t c le past;
        faults = later;
        blocks = refl;
      });
      cause = le_of_eq (sym rose);
      answers = answers;
    }
  where
    earlier : (calls : List FlashCall) (s : FlashState) (t : ℕ) (c : FlashCase) → t ≤ length calls
        → past_case calls s (length calls) c → past_case calls s t c
    earlier calls s t c le past = counts_now calls s t c le (only_now calls s c past)

-- the plan or the stop makes a call fail
pub begin_failed : (old new : MemFlash) → Begins old new true → SameRecord old new → Fails old new
begin_failed old new begins same = failed old new same begins.later (begins.fails refl)
    (fails_as_planned old.orders new.orders begins)

-- OutOfMemory makes a call fail
pub want_failed : (old mid new : MemFlash) → Begins old mid false → SameRecord old mid → RunsOut mid new
    → SameRecord mid new → Fails old new
want_failed old mid new begins first wants next =
    failed old new
    (record { blocks_are = next.blocks_are ∙ first.blocks_are; calls_are = next.calls_are ∙ first.calls_are })
    (le_trans begins.later wants.later) (wants.faults ∙ ap raised (begins.passes refl))
    (fails_by_memory old.orders mid.orders new.orders begins wants)

-- a call that succeeds
pub record Done (call : FlashCall) (old new : MemFlash) : Type 0 where
  pub state : (mem_flash new).state ≡ state_after_call call (mem_flash old).state
  pub during : EachFlashCase (λ c. IsStill (mem_flash old).state c
      ⊎ (call_case call (mem_flash old).state c ⊎ IsStill (state_after_call call (mem_flash old).state) c))
      (mem_flash old) (mem_flash new)
  pub within : (c : FlashCase) → call_case call (mem_flash old).state c → (mem_flash new).since (mem_flash old).moment c
  pub time : FlashElapses (mem_flash old) (mem_flash new)

pub call_done : (old new : MemFlash) (call : FlashCall) → (mem_flash old).faults ≤ (mem_flash new).faults
    → Shows new old.blocks (old.calls.items ++ call ∷ []) → Done call old new
call_done old new call more shows =
    let calls = old.calls.items in
    let at_new : (P : FlashMedium → Type 0) → P (recorded old.blocks (calls ++ call ∷ []) (fault_count new.orders))
    → P (mem_flash new) =
    shown new old.blocks (calls ++ call ∷ []) shows in
    record {
      state = at_new (λ m. m.state ≡ state_after_call call (mem_flash old).state)
          (state_after-append calls call blank_state);
      during = at_new (λ m. EachFlashCase (λ c. IsStill (mem_flash old).state c
          ⊎ (call_case call (mem_flash old).state c ⊎ IsStill (state_after_call call (mem_flash old).state) c))
          (mem_flash old) m)
          (λ c past. during calls call blank_state c past);
      within = at_new (λ m. (c : FlashCase) → call_case call (mem_flash old).state c → m.since (mem_flash old).moment c)
          (λ c case. within calls call blank_state c case);
      time = at_new (λ m. FlashElapses (mem_flash old) m)
          (pushed old.blocks calls call (fault_count old.orders) (fault_count new.orders) more);
    }

-- a record after some steps is what it was at first with one call more
pub shows_on : (old mid new : MemFlash) (call : FlashCall) → SameRecord old mid
    → Shows new mid.blocks (mid.calls.items ++ call ∷ [])
    → Shows new old.blocks (old.calls.items ++ call ∷ [])
shows_on old mid new call first next = record {
  blocks_are = next.blocks_are ∙ first.blocks_are;
  calls_are = next.calls_are ∙ ap (λ cs. cs ++ call ∷ []) first.calls_are;
}

-- a failed call that changed nothing left what a crash in it may leave
pub left_alone : (done : Pages) (Tears : Pages → Pages → Type 0) (old new : FlashState) → Tears old.pages old.pages
    → new ≡ old → IsLeftBy done Tears old new
left_alone done Tears old new torn same = subst (λ s. IsLeftBy done Tears old s) (sym same)
    (record { torn = torn; plain = λ b p g body v. inl v; settled = refl; announced = refl })

-- OutOfMemory in the rest of a call makes it fail
pub want_after : (old mid next new : MemFlash) → Begins old mid false → SameRecord old mid → SameRecord mid next
    → Succeeds mid next
    → SameRecord next new → RunsOut next new → Fails old new
want_after old mid next new begins first second succeeds third wants = want_failed old mid new begins first
    (record {
      later = le_trans (le_of_eq (sym succeeds.counts.faults)) wants.later;
      faults = wants.faults ∙ ap raised succeeds.counts.faults;
      starved = wants.starved ∙ ap raised succeeds.counts.starved;
      planned = λ k. wants.planned k ∙ ap (λ orders. names orders k) succeeds.orders;
      stopped = λ k. wants.stopped k ∙ ap (λ orders. stops orders k) succeeds.orders;
    })
    (record { blocks_are = third.blocks_are ∙ second.blocks_are; calls_are = third.calls_are ∙ second.calls_are })

-- the rest of a call succeeds
pub done_after : (old mid new : MemFlash) (call : FlashCall) → Begins old mid false → SameRecord old mid
    → Succeeds mid new
    → Shows new mid.blocks (mid.calls.items ++ call ∷ []) → Done call old new
done_after old mid new call begins first succeeds shows =
    call_done old new call (le_trans begins.later (le_of_eq (sym succeeds.counts.faults)))
    (shows_on old mid new call first shows)

-- a call that changes no page leaves them as they are
pub note_tied : (calls calls' : List FlashCall) (call : FlashCall) (ok : Bool) (pages : Pages) → IsNoChange call
    → calls' ≡ (if ok then calls ++ call ∷ [] else calls) → pages ≡ (state_after calls blank_state).pages
    → pages ≡ (state_after calls' blank_state).pages
note_tied calls calls' call false pages free is tied = tied ∙ sym (ap (λ cs. (state_after cs blank_state).pages) is)
note_tied calls calls' call true pages free is tied =
    tied ∙ sym (ap (λ cs. (state_after cs blank_state).pages) is
    ∙ ap (λ s. s.pages) (state_after-append calls call blank_state)
    ∙ same call (state_after calls blank_state) free)
  where
    same : (call : FlashCall) (s : FlashState) → IsNoChange call → (state_after_call call s).pages ≡ s.pages
    same (Announce file at bytes) s free = refl
    same Settle s free = refl
    same Read s free = refl
    same (Program block page bytes) s free = absurd free
    same (Erase block) s free = absurd free

-- a call that changes pages changes them so
pub change_tied : (calls calls' : List FlashCall) (call : FlashCall) (pages pages' : Pages)
    → calls' ≡ calls ++ call ∷ []
    → (state_after_call call (state_after calls blank_state)).pages ≡ pages'
    → pages' ≡ (state_after calls' blank_state).pages
change_tied calls calls' call pages pages' is changed =
    sym (ap (λ cs. (state_after cs blank_state).pages) is
    ∙ ap (λ s. s.pages) (state_after-append calls call blank_state) ∙ changed)
