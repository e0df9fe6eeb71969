-- Steps of a layer one after the other.
use Rattle.std.proofs.Common.{◌≡◌, ◌≤◌, ℕ, ◌+◌, Bool, Result, Ok, Err, inl, inr, ⊎_elim, refl, sym, subst, ap, ◌∙◌}
use Rattle.std.proofs.Common.{le_refl, arith}
use Rattle.std.specs.Prelude.{IsErrAnd}
use Rattle.per_base.specs.Causes.{CountsFaults}
use Rattle.flash_model.specs.FlashMedium.{FlashMedium, IsLawfulFlash}
use Rattle.flash_disk.specs.declared.layer.Layer.{Layer}
use Rattle.flash_disk.specs.declared.layer.LayerState.{LayerState}
use Rattle.flash_disk.specs.Counted.{IsCountedTable}
use Rattle.flash_disk.specs.Looks.{LeavesFlashAlone}
use Rattle.flash_disk.specs.Accounts.{Accounts}
use Rattle.flash_disk.specs.Steps.{OnlyLooks, LearnsNothing, IsOpeningStep, IsSure, StaysSound, AddsRecords}
use Rattle.flash_disk.proofs.Entering.{sound_holds}
use Rattle.flash_disk.proofs.Looking.{looks_none, looks_then}
use Rattle.flash_disk.proofs.Entries.{bounds_same, bounds_then}
use Rattle.flash_disk.proofs.Accounting.{causes_on, accounts_fails, accounts_on}
use Rattle.flash_disk.proofs.Topmost.{on_ok}

-- both succeed, or both fail
abbrev pub EndsAlike : {T U D E : Type 0} → Result T E → Result U D → Type 0
EndsAlike (Ok x) (Ok y) = Unit {0}
EndsAlike (Ok x) (Err y) = ⊥
EndsAlike (Err x) (Ok y) = ⊥
EndsAlike (Err x) (Err y) = Unit {0}

causes_as : {T U D E : Type 0} (r : Result T E) (q : Result U D) (a b : ℕ) → EndsAlike r q → CountsFaults a b r
    → CountsFaults a b q
causes_as (Ok x) (Ok y) a b alike is = record { later = is.later; failed = tt; passed = is.passed }
causes_as (Ok x) (Err y) a b alike is = absurd alike
causes_as (Err x) (Ok y) a b alike is = absurd alike
causes_as (Err x) (Err y) a b alike is = record { later = is.later; failed = is.failed; passed = tt }

-- with as many faults of its own
causes_with : {T E : Type 0} (r : Result T E) (a b own own' : ℕ) → own' ≡ own → CountsFaults a b r
    → CountsFaults (a + own) (b + own') r
causes_with (Ok x) a b own own' same is = record {
  later = (let later = is.later in omega (arith, same, later));
  failed = tt;
  passed = (let passed : b ≡ a = is.passed in omega (arith, same, passed));
}
causes_with (Err x) a b own own' same is = record {
  later = (let later = is.later in omega (arith, same, later));
  failed = (let rose = is.failed in omega (arith, same, rose));
  passed = tt;
}

module _ {F : Type 0} {told : Bool} {medium : F → FlashMedium} where
  -- ---- steps that only look

  pub only_none : {T E : Type 0} (x : T) (l : Layer F) → IsLawfulFlash told (medium l.flash)
      → OnlyLooks {E = E} told medium l l (Ok x)
  only_none x l lawful = record {
    looks = looks_none told (medium l.flash) lawful;
    pages = λ t. refl;
    blocks = refl;
    flash = record { later = le_refl _; failed = tt; passed = refl };
    own = refl;
  }

  -- what is known may change afterwards
  pub only_here : {T E : Type 0} {a b now : Layer F} {r : Result T E} → now.flash ≡ b.flash → now.own ≡ b.own
      → OnlyLooks told medium a b r → OnlyLooks told medium a now r
  only_here {T} {E} {a} {b} {now} {r} flash own is = record {
    looks = subst (λ f. LeavesFlashAlone told (medium a.flash) (medium f)) (sym flash) is.looks;
    pages = λ t. ap (λ f. (medium f).state.pages) flash ∙ is.pages t;
    blocks = ap (λ f. (medium f).blocks) flash ∙ is.blocks;
    flash = subst (λ f. CountsFaults (medium a.flash).faults (medium f).faults r) (sym flash) is.flash;
    own = own ∙ is.own;
  }

  pub only_as : {T U D E : Type 0} {a b : Layer F} {r : Result T E} {q : Result U D} → OnlyLooks told medium a b r
      → EndsAlike r q → OnlyLooks told medium a b q
  only_as {T} {U} {D} {E} {a} {b} {r} {q} is alike = record {
    looks = is.looks;
    pages = is.pages;
    blocks = is.blocks;
    flash = causes_as r q (medium a.flash).faults (medium b.flash).faults alike is.flash;
    own = is.own;
  }

  pub only_then : {T U D E : Type 0} {x : U} {a b c : Layer F} {r : Result T E}
      → OnlyLooks {E = D} told medium a b (Ok x) → OnlyLooks told medium b c r → OnlyLooks told medium a c r
  only_then {T} {U} {D} {E} {x} {a} {b} {c} {r} first second = record {
    looks = looks_then told (medium a.flash) (medium b.flash) (medium c.flash) first.looks second.looks;
    pages = λ t. second.pages t ∙ first.pages t;
    blocks = second.blocks ∙ first.blocks;
    flash = causes_on (medium a.flash).faults (medium b.flash).faults (medium c.flash).faults r first.flash.passed
        second.flash;
    own = second.own ∙ first.own;
  }

  -- ---- steps that learn nothing

  pub nothing_of : {T E : Type 0} {a b : Layer F} {r : Result T E} → OnlyLooks told medium a b r → b.state ≡ a.state
      → LearnsNothing told medium a b r
  nothing_of {T} {E} {a} {b} {r} only state =
      let sequence : b.state.sequence ≡ a.state.sequence = ap (λ (s : LayerState). s.sequence) state in
      let own = only.own in
      record {
        only = only;
        state = state;
        accounts = record {
          time = only.looks.time;
          cause = causes_with r (medium a.flash).faults (medium b.flash).faults a.own b.own own only.flash;
          kept = on_ok r own;
          one = omega (arith, own);
          no_less = omega (arith, own);
          later = omega (arith, sequence);
          steps = omega (arith, sequence);
          has_rivals = ap (λ (s : LayerState). s.has_rivals) state;
        };
      }

  pub nothing_none : {T E : Type 0} (x : T) (l : Layer F) → IsLawfulFlash told (medium l.flash)
      → LearnsNothing {E = E} told medium l l (Ok x)
  nothing_none x l lawful = nothing_of (only_none x l lawful) refl

  pub nothing_as : {T U D E : Type 0} {a b : Layer F} {r : Result T E} {q : Result U D}
      → LearnsNothing told medium a b r → EndsAlike r q → LearnsNothing told medium a b q
  nothing_as is alike = nothing_of (only_as is.only alike) is.state

  -- an error is handed on
  pub nothing_fails : {T U D E : Type 0} {x : E} {a b : Layer F} (r : Result U D) (Q : D → Type 0)
      → IsErrAnd r Q → LearnsNothing {T = T} told medium a b (Err x) → LearnsNothing told medium a b r
  nothing_fails (Ok y) Q fails is = absurd fails
  nothing_fails (Err y) Q fails is = nothing_as is tt

  pub nothing_then : {T U D E : Type 0} {x : U} {a b c : Layer F} {r : Result T E}
      → LearnsNothing {E = D} told medium a b (Ok x) → LearnsNothing told medium b c r
      → LearnsNothing told medium a c r
  nothing_then first second = nothing_of (only_then first.only second.only) (second.state ∙ first.state)

  -- ---- steps of an opening

  -- a step that learns nothing, after which neither the table nor what is being filled changed
  pub step_of : {T E : Type 0} {a b now : Layer F} {r : Result T E} → LearnsNothing told medium a b r
      → now.flash ≡ b.flash → now.own ≡ b.own → now.state.fill ≡ b.state.fill → now.state.unsure ≡ b.state.unsure
      → now.state.moved ≡ b.state.moved → now.state.table ≡ b.state.table → IsOpeningStep told medium a now r
  step_of {T} {E} {a} {b} {now} {r} is flash own fill unsure moved table =
      let same = table ∙ ap (λ (s : LayerState). s.table) is.state in
      record {
        only = only_here flash own is.only;
        fill = (
          fill ∙ ap (λ (s : LayerState). s.fill) is.state,
          unsure ∙ ap (λ (s : LayerState). s.unsure) is.state,
          moved ∙ ap (λ (s : LayerState). s.moved) is.state,
        );
        bounds = bounds_same same;
        counted = subst (IsCountedTable (medium a.flash).blocks) (sym same);
      }

  pub step_none : {T E : Type 0} (x : T) (l : Layer F) → IsLawfulFlash told (medium l.flash)
      → IsOpeningStep {E = E} told medium l l (Ok x)
  step_none x l lawful = step_of (nothing_none x l lawful) refl refl refl refl refl refl

  pub step_as : {T U D E : Type 0} {a b : Layer F} {r : Result T E} {q : Result U D}
      → IsOpeningStep told medium a b r → EndsAlike r q → IsOpeningStep told medium a b q
  step_as is alike = record {
    only = only_as is.only alike;
    fill = is.fill;
    bounds = is.bounds;
    counted = is.counted;
  }

  pub step_then : {T U D E : Type 0} {x : U} {a b c : Layer F} {r : Result T E}
      → IsOpeningStep {E = D} told medium a b (Ok x) → IsOpeningStep told medium b c r
      → IsOpeningStep told medium a c r
  step_then {T} {U} {D} {E} {x} {a} {b} {c} {r} first second =
      let blocks = first.only.blocks in
      record {
        only = only_then first.only second.only;
        fill = (
          second.fill.0 ∙ first.fill.0,
          second.fill.1 ∙ first.fill.1,
          second.fill.2 ∙ first.fill.2,
        );
        bounds = bounds_then first.bounds second.bounds;
        counted = λ start. subst (λ k. IsCountedTable k c.state.table) blocks
            (second.counted (subst (λ k. IsCountedTable k b.state.table) (sym blocks) (first.counted start)));
      }

  pub step_fails : {T U D E : Type 0} {x : E} {a b : Layer F} (r : Result U D) (Q : D → Type 0)
      → IsErrAnd r Q → IsOpeningStep {T = T} told medium a b (Err x) → IsOpeningStep told medium a b r
  step_fails (Ok y) Q fails is = absurd fails
  step_fails (Err y) Q fails is = step_as is tt

  -- ---- steps that add records

  pub sure_fails : {T E : Type 0} {b : Layer F} (r : Result T E) (Q : E → Type 0) → IsErrAnd r Q
      → IsSure told medium b → StaysSound told medium b r
  sure_fails (Ok y) Q fails is = absurd fails
  sure_fails {T} {E} {b} (Err y) Q fails is = record {
    sure = tt;
    sound = λ t. tt;
    failed = λ t. sound_holds (medium b.flash) b.state (is.sound t) is.sure;
  }

  pub adds_then : {T U D E : Type 0} {x : U} {a b c : Layer F} {r : Result T E} (m n k : ℕ) → m + n ≤ k
      → Accounts {E = D} told medium m a b (Ok x) → AddsRecords told medium n b c r → AddsRecords told medium k a c r
  adds_then m n k few first second = record {
    stays = second.stays;
    accounts = accounts_on m n k few first second.accounts;
    own = λ t. ⊎_elim (λ same. inl (same ∙ first.kept)) inr (second.own t);
  }

  pub adds_fail : {T U D E : Type 0} {x : E} {n : ℕ} {a b : Layer F} (r : Result U D) (Q : D → Type 0)
      → IsErrAnd r Q → AddsRecords {T = T} told medium n a b (Err x) → AddsRecords told medium n a b r
  adds_fail (Ok y) Q fails is = absurd fails
  adds_fail (Err y) Q fails is = record {
    stays = record { sure = tt; sound = λ t. tt; failed = is.stays.failed };
    accounts = accounts_fails (Err y) Q fails is.accounts;
    own = is.own;
  }

-- ---- in loops

abbrev pub LookedOn : {F : Type 0} → Bool → (F → FlashMedium) → Layer F → Layer F → Type 0
LookedOn told medium old new = LearnsNothing {T = ℕ} {E = ℕ} told medium old new (Ok 0)

abbrev pub SteppedOn : {F : Type 0} → Bool → (F → FlashMedium) → Layer F → Layer F → Type 0
SteppedOn told medium old new = IsOpeningStep {T = ℕ} {E = ℕ} told medium old new (Ok 0)
