-- Blocks put into a set, one after another.
use Rattle.std.proofs.Common.{◌≡◌, ◌≢◌, ℕ, ◌+◌, ◌<◌, ◌≤◌, List, [], ◌∷◌, ◌++◌, length, get_or, take, set, Bool, true}
use Rattle.std.proofs.Common.{false, refl, sym, ap, ◌∙◌, subst, arith, ⊎_elim}
use Rattle.std.proofs.lemmas.List.{length-append, length-set, get_or-set_same, get_or-set_other, get_or_append_left}
use Rattle.std.proofs.lemmas.List.{get_or_push, take_more, take_all}
use Rattle.std.proofs.lemmas.Bool.{cases_eq, cases_lt}
use Rattle.block_files.specs.BlockSets.{contains, free_of, IsAdded}

pub added_none : (old : List Bool) → IsAdded [] old old
added_none old = record {
  added = λ i lt. absurd (omega arith);
  kept = λ b apart. refl;
  capacity = refl;
  free =
      omega arith;
}

-- what a set holds after one more
holds_more : (now : List Bool) (b x : ℕ) → b < length now → contains now x ≡ true → contains (set now b true) x ≡ true
holds_more now b x lt is = ⊎_elim
    (λ e. let P : ℕ → Type 0 = λ k. contains (set now b true) k ≡ true in
    subst P (sym e) (get_or-set_same now b true false lt))
    (λ ne. get_or-set_other now b x true false ne ∙ is)
    (cases_eq x b)

pub added_more : (blocks : List ℕ) (old now : List Bool) (b : ℕ) → b < length old
    → free_of now ≤ free_of (set now b true) + 1 → IsAdded blocks old now
    → IsAdded (blocks ++ b ∷ []) old (set now b true)
added_more blocks old now b lt free is =
    let long = length-append blocks (b ∷ []) in
    let inside : b < length now = omega (arith, is.capacity) in
    record {
      added = λ i at. ⊎_elim
          (λ before. (
          let e = get_or_append_left blocks (b ∷ []) 0 i before in
          ap (contains (set now b true)) e ∙ holds_more now b (get_or blocks i 0) inside (is.added i before)))
          (λ after. (
          let e = get_or_push blocks b 0 i (omega arith) in
          ap (contains (set now b true)) e ∙ get_or-set_same now b true false inside))
          (cases_lt i (length blocks));
      kept = λ x apart. (
          let ne : x ≢ b = λ same. apart (length blocks) (omega arith)
          (same ∙ sym (get_or_push blocks b 0 (length blocks) refl)) in
          get_or-set_other now b x true false ne
          ∙ is.kept x (λ i before same. apart i (omega arith)
          (same ∙ sym (get_or_append_left blocks (b ∷ []) 0 i before))));
      capacity = length-set now b true ∙ is.capacity;
      free = omega (arith, is.free);
    }

-- the step of a loop over the blocks
pub added_step : (blocks : List ℕ) (i : ℕ) (old now new : List Bool) (b : ℕ) → i < length blocks → b ≡ get_or blocks i 0
    → b < length old → free_of now ≤ free_of new + 1 → new ≡ set now b true → IsAdded (take i blocks) old now
    → IsAdded (take (i + 1) blocks) old new
added_step blocks i old now new b lt at inside free is added =
    let P : List ℕ → Type 0 = λ xs. IsAdded xs old new in
    let Q : List Bool → Type 0 = λ s. free_of now ≤ free_of s + 1 in
    let R : List Bool → Type 0 = λ s. IsAdded (take i blocks ++ b ∷ []) old s in
    subst P (ap (λ x. take i blocks ++ x ∷ []) at ∙ sym (take_more blocks i 0 lt))
    (subst R (sym is) (added_more (take i blocks) old now b inside (subst Q is free) added))

pub added_all : (blocks : List ℕ) (i : ℕ) (old now : List Bool) → length blocks ≤ i → IsAdded (take i blocks) old now
    → IsAdded blocks old now
added_all blocks i old now past added = let P : List ℕ → Type 0 =
    λ xs. IsAdded xs old now in subst P (take_all i blocks past) added
