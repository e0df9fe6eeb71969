-- A row refuses by what the root says alone, and what it makes of the root depends on that alone.
use Rattle.std.specs.Prelude.{◌≡◌, ℕ, List, Option, Some, None, Bool, true, false, cond, nat_le, Result, Ok, Err}
use Rattle.std.proofs.Common.{refl, sym, ap, ◌∙◌, subst}
use Rattle.per_base.specs.declared.errors.PerError.{PerError}
use Rattle.element_state.specs.States.{State, greatest_generation}
use Rattle.deploy_laws.specs.Apps.{Says, nothing, absent, installed, App}
use Rattle.deploy_rows.specs.Rows.{not_worn, finishing, rolling_back, wiping, installing, offered, after}
use Rattle.deploy_rows.specs.Laws.{RefusesAlike, SaysAlike}

-- the same refusal, or two applications under one root
abbrev pub SameRow : Result App PerError → Result App PerError → Type 0
SameRow (Ok x) (Ok y) = x.says ≡ y.says
SameRow (Ok x) (Err e) = ⊥
SameRow (Err e) (Ok x) = ⊥
SameRow (Err d) (Err e) = e ≡ d

refused : (r s : Result App PerError) → SameRow r s → (e : PerError) → r ≡ Err e → s ≡ Err e
refused (Ok x) (Ok y) same e is = absurd cc
refused (Ok x) (Err d) same e is = absurd same
refused (Err d) (Ok x) same e is = absurd same
refused (Err c) (Err d) same e is = ap (λ (x : PerError). Err x) same ∙ is

says : (a b : App) (r s : Result App PerError) → a.says ≡ b.says → SameRow r s → (after a r).says ≡ (after b s).says
says a b (Ok x) (Ok y) same rows = rows
says a b (Ok x) (Err d) same rows = absurd rows
says a b (Err d) (Ok x) same rows = absurd rows
says a b (Err c) (Err d) same rows = same

worn_same : (worn : Bool) (e : PerError) (x y : App) → x.says ≡ y.says
    → SameRow (cond worn (Err e) (Ok x)) (cond worn (Err e) (Ok y))
worn_same true e x y same = refl
worn_same false e x y same = same

row_same : (g : ℕ) (x y : App) → x.says ≡ y.says → SameRow (not_worn g (Ok x)) (not_worn g (Ok y))
row_same g x y same = worn_same (nat_le greatest_generation g) _ x y same

same_row : (r : Result App PerError) → SameRow r r
same_row (Ok x) = refl
same_row (Err e) = refl

abbrev app : Says → List ℕ → List State → App
app s lacking states = record { says = s; lacking = lacking; states = states }

module _ (k l : List ℕ) (xs ys : List State) where
  finish_same : (s : Says) → SameRow (finishing (app s k xs)) (finishing (app s l ys))
  unfolding finishing
  finish_same nothing = refl
  finish_same (absent g) = refl
  finish_same (installed g active None) = refl
  finish_same (installed g active (Some previous)) = row_same g _ _ refl

  rollback_same : (busy : Option (List ℕ)) (s : Says) → SameRow (rolling_back busy (app s k xs))
      (rolling_back busy (app s l ys))
  unfolding rolling_back
  rollback_same busy nothing = refl
  rollback_same busy (absent g) = refl
  rollback_same busy (installed g active None) = refl
  rollback_same (Some name) (installed g active (Some previous)) = refl
  rollback_same None (installed g active (Some previous)) = row_same g _ _ refl

  wipe_same : (busy : Option (List ℕ)) (s : Says) → SameRow (wiping busy (app s k xs)) (wiping busy (app s l ys))
  unfolding wiping
  wipe_same (Some name) s = refl
  wipe_same None nothing = refl
  wipe_same None (absent g) = row_same g _ _ refl
  wipe_same None (installed g active previous) = row_same g _ _ refl

  install_same : (now : ℕ) (text : List ℕ) (s : Says) → SameRow (installing now text (app s k xs))
      (installing now text (app s l ys))
  unfolding installing
  install_same now text nothing = refl
  install_same now text (absent g) = same_row _
  install_same now text (installed g active previous) = refl

  offer_same : (busy : Option (List ℕ)) (text : List ℕ) (s : Says)
      → offered busy text (app s k xs) ≡ offered busy text (app s l ys)
  unfolding offered
  offer_same busy text nothing = refl
  offer_same busy text (absent g) = refl
  offer_same busy text (installed g active previous) = refl

module _ (row : App → Result App PerError) (same : (k l : List ℕ) (xs ys : List State) (s : Says)
    → SameRow (row (app s k xs)) (row (app s l ys))) where
  both : (a b : App) → a.says ≡ b.says → SameRow (row a) (row b)
  both a b e = subst (λ (s : Says). SameRow (row a) (row (app s b.lacking b.states))) e
      (same a.lacking b.lacking a.states b.states a.says)

  pub refuses : RefusesAlike row
  refuses a b e is refusal = refused (row a) (row b) (both a b is) e refusal

  pub says_next : SaysAlike row
  says_next a b is = says a b (row a) (row b) is (both a b is)

pub finish_refuses : RefusesAlike finishing
finish_refuses = refuses finishing finish_same

pub finish_says : SaysAlike finishing
finish_says = says_next finishing finish_same

pub rollback_refuses : (busy : Option (List ℕ)) → RefusesAlike (rolling_back busy)
rollback_refuses busy = refuses (rolling_back busy) (λ k l xs ys s. rollback_same k l xs ys busy s)

pub rollback_says : (busy : Option (List ℕ)) → SaysAlike (rolling_back busy)
rollback_says busy = says_next (rolling_back busy) (λ k l xs ys s. rollback_same k l xs ys busy s)

pub wipe_refuses : (busy : Option (List ℕ)) → RefusesAlike (wiping busy)
wipe_refuses busy = refuses (wiping busy) (λ k l xs ys s. wipe_same k l xs ys busy s)

pub wipe_says : (busy : Option (List ℕ)) → SaysAlike (wiping busy)
wipe_says busy = says_next (wiping busy) (λ k l xs ys s. wipe_same k l xs ys busy s)

pub install_refuses : (now : ℕ) (text : List ℕ) → RefusesAlike (installing now text)
install_refuses now text = refuses (installing now text) (λ k l xs ys s. install_same k l xs ys now text s)

pub install_says : (now : ℕ) (text : List ℕ) → SaysAlike (installing now text)
install_says now text = says_next (installing now text) (λ k l xs ys s. install_same k l xs ys now text s)

pub offer_refuses : (busy : Option (List ℕ)) (text : List ℕ) → RefusesAlike (offered busy text)
offer_refuses busy text a b e is refusal =
    sym (subst (λ (s : Says). offered busy text a ≡ offered busy text (app s b.lacking b.states)) is
    (offer_same a.lacking b.lacking a.states b.states busy text a.says)) ∙ refusal
