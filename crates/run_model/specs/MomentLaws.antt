-- Why a run keeps each application at every moment: each moment is one of the start, of one command, or of what was
-- before.
use Rattle.std.specs.Prelude.{◌≡◌, ◌⊎◌, ℕ, List, [], ◌∷◌, ◌++◌, Option, Some, None}
use Rattle.std.proofs.Common.{refl, sym, subst, inl, inr, ⊎_elim}
use Rattle.disk_model.specs.Case.{Case}
use Rattle.disk_model.specs.Laws.{cases_on}
use Rattle.disk_model.specs.Medium.{Medium, Elapses, Quiet, EachCase}
use Rattle.run_model.specs.Worlds.{Disks, Doubt, World, disks}
use Rattle.run_model.specs.Moments.{Between, InDoubt, AtMoment, IsMomentOf, IsPast, IsInDoubt, IsReady}
use Rattle.run_model.specs.Moments.{KeepsApplication, OrBefore}
use Rattle.run_model.specs.Moments.{StepKeeps, StopKeeps, Stayed, IsSoundDoubt, AreSoundDoubts, IsDecided, AreDecided}
use Rattle.run_model.specs.Moments.{last_of}

-- ---- one world after another

pub last_is : (w : World) (worlds : List World) (v : World) → last_of w (worlds ++ v ∷ []) ≡ v
last_is w [] v = refl
last_is w (u ∷ us) v = last_is u us v

pub sound_front : (app : ℕ) (worlds : List World) (v : World) → AreSoundDoubts app (worlds ++ v ∷ [])
    → AreSoundDoubts app worlds
sound_front app [] v all = tt
sound_front app (u ∷ us) v all = (all.0, sound_front app us v all.1)

sound_end : (app : ℕ) (worlds : List World) (v : World) → AreSoundDoubts app (worlds ++ v ∷ [])
    → IsSoundDoubt app v.doubt
sound_end app [] v all = all.0
sound_end app (u ∷ us) v all = sound_end app us v all.1

no_doubt : (app : ℕ) (w : World) (c : Case) → w.doubt ≡ None → InDoubt app w.doubt c → ⊥
no_doubt app w c none d = subst (λ x. InDoubt app x c) none d

at_doubt : (app : ℕ) (before after : Disks) (doubt : Option Doubt) (c : Case) → InDoubt app doubt c
    → AtMoment app before after doubt c
at_doubt app before after None c b = absurd b
at_doubt app before after (Some d) c b = b

decided_of : (app : ℕ) (w : World) (worlds : List World) → IsDecided app w.doubt → AreDecided app worlds
    → IsDecided app (last_of w worlds).doubt
decided_of app w [] is all = is
decided_of app w (u ∷ us) is all = decided_of app u us all.0 all.1

decided_end : (app : ℕ) (worlds : List World) (v : World) → AreDecided app worlds → IsDecided app v.doubt
    → AreDecided app (worlds ++ v ∷ [])
decided_end app [] v all is = (is, tt)
decided_end app (u ∷ us) v all is = (all.0, decided_end app us v all.1 is)

-- a doubt that is new has a case of now, which is between its two sides; one that stays was decided before
decided_new : (app : ℕ) (last doubt : Option Doubt) (was now : Case → Type 0) → IsDecided app last
    → ((d : Doubt) → doubt ≡ Some d → (last ≡ Some d) ⊎ now d.case)
    → (IsInDoubt doubt → (c : Case) → now c → ((doubt ≡ last) × was c) ⊎ InDoubt app doubt c) → IsDecided app doubt
decided_new app last None was now is new calm = tt
decided_new app last (Some d) was now is new calm = ⊎_elim
    (λ same. subst (λ x. IsDecided app x) same is)
    (λ at. ⊎_elim (λ both. subst (λ x. IsDecided app x) (sym both.0) is) (λ b. b) (calm tt d.case at))
    (new d refl)

-- ---- moments of worlds

-- what was past stays past
past_before : (app : ℕ) (w : World) (worlds : List World) (v : World) (c : Case) → IsPast app w worlds c
    → IsPast app w (worlds ++ v ∷ []) c
past_before app w [] v c p = absurd p
past_before app w (u ∷ us) v c (inl p) = inl p
past_before app w (u ∷ us) v c (inr p) = inr (past_before app u us v c p)

-- a moment of the last command
past_last : (app : ℕ) (w : World) (worlds : List World) (v : World) (c : Case)
    → AtMoment app (disks (last_of w worlds)) (disks v) v.doubt c
    → IsPast app w (worlds ++ v ∷ []) c
past_last app w [] v c p = inl p
past_last app w (u ∷ us) v c p = inr (past_last app u us v c p)

-- the doubt of the last world is one of the worlds that are past, or that of the first
past_doubt : (app : ℕ) (w : World) (worlds : List World) (c : Case) → InDoubt app (last_of w worlds).doubt c
    → InDoubt app w.doubt c ⊎ IsPast app w worlds c
past_doubt app w [] c d = inl d
past_doubt app w (u ∷ us) c d = inr (⊎_elim (λ x. inl (at_doubt app (disks w) (disks u) u.doubt c x)) (λ p. inr p)
    (past_doubt app u us c d))

-- what is past is a moment of the run, whatever is in progress
past_is : (app : ℕ) (w : World) (worlds : List World) (next : Disks) (c : Case) → IsPast app w worlds c
    → IsMomentOf app w worlds next c
past_is app w [] next c p = absurd p
past_is app w (u ∷ us) next c (inl a) = inl a
past_is app w (u ∷ us) next c (inr p) = inr (past_is app u us next c p)

-- and so is a moment of what is in progress
progress_is : (app : ℕ) (w : World) (worlds : List World) (next : Disks) (c : Case)
    → Between app (disks (last_of w worlds)) next c ⊎ InDoubt app (last_of w worlds).doubt c
    → IsMomentOf app w worlds next c
progress_is app w [] next c m = m
progress_is app w (u ∷ us) next c m = inr (progress_is app u us next c m)

-- ---- the laws

-- the start, which leads to a world without a doubt
pub start_stays : (app : ℕ) (entry w : World) (old new : Medium) → w.doubt ≡ None
    → EachCase (OrBefore old (Between app (disks entry) (disks w))) old new
    → IsReady app w new → Stayed app entry w [] old new
start_stays app entry w old new none moments ready = record {
  any_moment = λ c s. ⊎_elim (λ before. inl before) (λ b. inr (inl b)) (moments c s);
  ready = ready;
  calm = λ some c at. absurd (subst (λ d. IsInDoubt d) none some);
  decided = tt;
}

-- one command more
pub step_stays : (app : ℕ) (entry w : World) (worlds : List World) (v : World) (old now new : Medium) → w.doubt ≡ None
    → Elapses old now → Elapses now new
    → (v.doubt ≡ None → Quiet new) → ((d : Doubt) → v.doubt ≡ Some d
    → ((last_of w worlds).doubt ≡ Some d) ⊎ new.now d.case)
    → AreSoundDoubts app (worlds ++ v ∷ []) → StepKeeps app (last_of w worlds) v now new
    → Stayed app entry w worlds old now
    → Stayed app entry w (worlds ++ v ∷ []) old new
step_stays app entry w worlds v old now new none time later quiet fresh sound keeps stayed =
    let kept : KeepsApplication app (last_of w worlds) v now new = keeps stayed.ready in
    let end : IsSoundDoubt app v.doubt = sound_end app worlds v sound in
    record {
      any_moment = λ c s. ⊎_elim
          (λ was. ⊎_elim (λ before. inl before)
          (λ m. inr (⊎_elim (λ b. inl b) (λ p. inr (past_before app w worlds v c p)) m)) (stayed.any_moment c was))
          (λ at. inr (⊎_elim
          (λ d. inr (past_before app w worlds v c (⊎_elim (λ x. absurd (no_doubt app w c none x)) (λ p. p)
          (past_doubt app w worlds c (stayed.calm d.0 c d.1)))))
          (λ m. inr (past_last app w worlds v c m))
          (kept.any_moment c at)))
          (cases_on time later c s);
      ready = subst (λ x. IsReady app x new) (sym (last_is w worlds v))
          (record { clean = kept.clean end; quiet = quiet });
      calm = subst (λ x. IsInDoubt x.doubt → (c : Case) → new.now c → InDoubt app x.doubt c) (sym (last_is w worlds v))
          (λ some c at. ⊎_elim
          (λ same. subst (λ d. InDoubt app d c) (sym same.0)
          (stayed.calm (subst (λ d. IsInDoubt d) same.0 some) c same.1))
          (λ d. d)
          (kept.calm some c at));
      decided = decided_end app worlds v stayed.decided
          (decided_new app (last_of w worlds).doubt v.doubt now.now new.now
          (decided_of app w worlds (subst (λ d. IsDecided app d) (sym none) tt) stayed.decided) fresh kept.calm);
    }

-- no command in progress at the end
pub end_stays : (app : ℕ) (entry w : World) (worlds : List World) (next : Disks) (old new : Medium)
    → Stayed app entry w worlds old new
    → EachCase (OrBefore old (λ c. Between app (disks entry) (disks w) c ⊎ IsMomentOf app w worlds next c)) old new
end_stays app entry w worlds next old new stayed c s = ⊎_elim (λ before. inl before)
    (λ m. inr (⊎_elim (λ b. inl b) (λ p. inr (past_is app w worlds next c p)) m)) (stayed.any_moment c s)

-- a command in progress at the end
pub stop_stays : (app : ℕ) (entry w : World) (worlds : List World) (next : Disks) (old now new : Medium)
    → Elapses old now → Elapses now new
    → StopKeeps app (last_of w worlds) next now new → Stayed app entry w worlds old now
    → EachCase (OrBefore old (λ c. Between app (disks entry) (disks w) c ⊎ IsMomentOf app w worlds next c)) old new
stop_stays app entry w worlds next old now new time later keeps stayed c s = ⊎_elim
    (λ was. end_stays app entry w worlds next old now stayed c was)
    (λ at. inr (inr (progress_is app w worlds next c (⊎_elim (λ d. inr (stayed.calm d.0 c d.1)) (λ b. inl b)
    (keeps stayed.ready c at)))))
    (cases_on time later c s)
