-- The content of an element, by the value and the salvage that its copies give.
use Rattle.std.proofs.Common.{◌≡◌, ℕ, List, [], ◌∷◌, Option, Some, None, IfSome, cond, refl, ap, subst, arith}
use Rattle.std.specs.Prelude.{is_some}
use Rattle.std.proofs.lemmas.Slice.Eq.{bytes_eq-Decides}
use Rattle.sha2.specs.declared.Sha256.{Sha256}
use Rattle.per_base.specs.declared.elements.Content.TheVariants.{Good}
use Rattle.m_of_n.specs.Vote.{voted}
use Rattle.m_of_n.specs.Laws.{holders-cons, voted-held, voted-none}
use Rattle.block_files.specs.Contents.{unvoted}
use Rattle.block_files.specs.States.{AreStatesOf}
use Rattle.element_state.specs.Views.{content_of}

-- a salvage counts only where there is no value
pub content_unvoted : (value first : Option (List ℕ)) → content_of value (unvoted value first) ≡ content_of value first
content_unvoted (Some value) first = refl
content_unvoted None first = refl

pub content_states : (value salvage : Option (List ℕ)) (states : List Sha256) → IfSome value (λ v. AreStatesOf v states)
    → (bytes : List ℕ) → content_of value salvage ≡ Good bytes → AreStatesOf bytes states
content_states (Some value) salvage states are bytes is =
    let same : value ≡ bytes = cc in
    subst (λ (v : List ℕ). AreStatesOf v states) same are
content_states None salvage states are bytes is = cc

-- among one copy the vote of one is what the copy gives
one_by : (x v : Option (List ℕ)) → voted 1 (x ∷ []) ≡ v → is_some v ≡ is_some x
one_by None None is = refl
one_by (Some t) (Some v) is = refl
one_by None (Some v) is = absurd (omega (arith, voted-held 1 (None ∷ []) v is, holders-cons None [] v))
one_by (Some t) None is = absurd (omega (
  arith,
  voted-none 1 (Some t ∷ []) (omega arith) is t,
  holders-cons (Some t) [] t,
  ap (λ b. cond {A = ℕ} b 1 0) ((bytes_eq-Decides t t).1 refl),
))

pub one_voted : (x : Option (List ℕ)) → is_some (voted 1 (x ∷ [])) ≡ is_some x
one_voted x = one_by x (voted 1 (x ∷ [])) refl
