-- Accounts of calls one after the other.
use Rattle.std.proofs.Common.{◌≡◌, ℕ, ◌+◌, ◌≤◌, Bool, Result, Ok, Err, OnOk, refl, sym, ap, ◌∙◌, subst, le_refl}
use Rattle.std.proofs.Common.{le_trans, arith}
use Rattle.std.specs.Prelude.{IsErrAnd}
use Rattle.per_base.specs.Causes.{CountsFaults}
use Rattle.flash_model.specs.FlashMedium.{FlashMedium, IsLawfulFlash, FlashElapses}
use Rattle.flash_disk.specs.declared.layer.Layer.{Layer}
use Rattle.flash_disk.specs.Accounts.{faults_of, Accounts}
use Rattle.flash_disk.proofs.Stretches.{elapses_refl, elapses_then}

-- calls that succeeded, one after the other
abbrev pub Counted : {F : Type 0} → Bool → (F → FlashMedium) → (numbers : ℕ) → Layer F → Layer F → Type 0
Counted told medium numbers old new = Accounts {T = ℕ} {E = ℕ} told medium numbers old new (Ok 0)

-- what was so since an earlier equal count is so
same_ok : {T E : Type 0} (r : Result T E) (a b c : ℕ) → b ≡ a → OnOk r (c ≡ b) → OnOk r (c ≡ a)
same_ok (Ok x) a b c same is = is ∙ same
same_ok (Err e) a b c same is = is

pub causes_on : {T E : Type 0} (a b c : ℕ) (r : Result T E) → b ≡ a → CountsFaults b c r → CountsFaults a c r
causes_on a b c r same causes = subst (λ k. CountsFaults k c r) same causes

module _ {F : Type 0} {told : Bool} {medium : F → FlashMedium} where
  -- no call
  pub accounts_none : {T E : Type 0} (x : T) (numbers : ℕ) (l : Layer F) → IsLawfulFlash told (medium l.flash)
      → Accounts {E = E} told medium numbers l l (Ok x)
  accounts_none x numbers l lawful = record {
    time = elapses_refl told (medium l.flash) lawful;
    cause = record { later = le_refl _; failed = tt; passed = refl };
    kept = refl;
    one = omega arith;
    no_less = le_refl _;
    later = le_refl _;
    steps = omega arith;
    has_rivals = refl;
  }

  -- a call that succeeded, and then another
  pub accounts_on : {T U D E : Type 0} {x : U} {a b c : Layer F} {r : Result T E} (m n k : ℕ) → m + n ≤ k
      → Accounts {E = D} told medium m a b (Ok x) → Accounts told medium n b c r → Accounts told medium k a c r
  accounts_on {T} {U} {D} {E} {x} {a} {b} {c} {r} m n k few first second = record {
    time = λ t. elapses_then (medium a.flash) (medium b.flash) (medium c.flash) (first.time t) (second.time t);
    cause = causes_on (faults_of medium a) (faults_of medium b) (faults_of medium c) r first.cause.passed second.cause;
    kept = same_ok r a.own b.own c.own first.kept second.kept;
    one = (let same : b.own ≡ a.own = first.kept in let one = second.one in omega (arith, same, one));
    no_less = (let same : b.own ≡ a.own = first.kept in let less = second.no_less in omega (arith, same, less));
    later = le_trans first.later second.later;
    steps = (let before = first.steps in let on = second.steps in omega (arith, before, on, few));
    has_rivals = second.has_rivals ∙ first.has_rivals;
  }

  -- what is known may change afterwards, but for the numbers and whether there are rivals
  pub accounts_here : {T E : Type 0} {n : ℕ} {a b now : Layer F} {r : Result T E} → now.flash ≡ b.flash
      → now.own ≡ b.own → now.state.sequence ≡ b.state.sequence → now.state.has_rivals ≡ b.state.has_rivals
      → Accounts told medium n a b r → Accounts told medium n a now r
  accounts_here {T} {E} {n} {a} {b} {now} {r} flash own sequence has_rivals is =
      let faults : faults_of medium now ≡ faults_of medium b =
      (let same : (medium now.flash).faults ≡ (medium b.flash).faults = ap (λ f. (medium f).faults) flash in
      omega (arith, same, own)) in
      record {
        time = λ t. subst (λ f. FlashElapses (medium a.flash) (medium f)) (sym flash) (is.time t);
        cause = subst (λ k. CountsFaults (faults_of medium a) k r) (sym faults) is.cause;
        kept = subst (λ k. OnOk r (k ≡ a.own)) (sym own) is.kept;
        one = (let one = is.one in omega (arith, own, one));
        no_less = (let less = is.no_less in omega (arith, own, less));
        later = (let later = is.later in omega (arith, sequence, later));
        steps = (let steps = is.steps in omega (arith, sequence, steps));
        has_rivals = has_rivals ∙ is.has_rivals;
      }

  -- another value, or another error, in place of the one that came
  pub accounts_ok : {T U D E : Type 0} {x : T} {y : U} {n : ℕ} {a b : Layer F}
      → Accounts {E = D} told medium n a b (Ok x) → Accounts {E = E} told medium n a b (Ok y)
  accounts_ok is = record {
    time = is.time;
    cause = record { later = is.cause.later; failed = tt; passed = is.cause.passed };
    kept = is.kept;
    one = is.one;
    no_less = is.no_less;
    later = is.later;
    steps = is.steps;
    has_rivals = is.has_rivals;
  }

  -- it may use more numbers
  pub accounts_more : {T E : Type 0} {m : ℕ} {a b : Layer F} {r : Result T E} (n : ℕ) → m ≤ n
      → Accounts told medium m a b r → Accounts told medium n a b r
  accounts_more n few is = record {
    time = is.time;
    cause = is.cause;
    kept = is.kept;
    one = is.one;
    no_less = is.no_less;
    later = is.later;
    steps = (let steps = is.steps in omega (arith, steps, few));
    has_rivals = is.has_rivals;
  }

  -- an error is handed on
  pub accounts_fails : {T U D E : Type 0} {x : E} {n : ℕ} {a b : Layer F} (r : Result U D) (Q : D → Type 0)
      → IsErrAnd r Q → Accounts {T = T} told medium n a b (Err x) → Accounts told medium n a b r
  accounts_fails (Ok y) Q fails is = absurd fails
  accounts_fails (Err y) Q fails is = record {
    time = is.time;
    cause = record { later = is.cause.later; failed = is.cause.failed; passed = tt };
    kept = tt;
    one = is.one;
    no_less = is.no_less;
    later = is.later;
    steps = is.steps;
    has_rivals = is.has_rivals;
  }

  -- ---- in loops

  pub counted_none : (numbers : ℕ) (l : Layer F) → IsLawfulFlash told (medium l.flash)
      → Counted told medium numbers l l
  counted_none numbers l lawful = accounts_none 0 numbers l lawful

  pub counted_on : {T E : Type 0} {x : T} {a b c : Layer F} (m n k : ℕ) → m + n ≤ k
      → Counted told medium m a b → Accounts {E = E} told medium n b c (Ok x) → Counted told medium k a c
  counted_on m n k few first second = accounts_on m n k few first (accounts_ok second)
