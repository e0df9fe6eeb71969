-- What a conversion gives is what becomes of the key.
use Rattle.std.proofs.Common.{◌≡◌, ℕ, List, Option, Some, None, Result, Ok, Err, sym, ap, subst, ◌∙◌}
use Rattle.std.specs.Prelude.{option_map}
use Rattle.per_base.specs.declared.elements.Fresh.{Fresh}
use Rattle.per_base.specs.declared.errors.PerError.{PerError}
use Rattle.value_model.specs.Kinds.{Kind}
use Rattle.value_model.specs.Trees.{Tree}
use Rattle.value_model.specs.Encoding.{encoding}
use Rattle.migrate_fns.specs.Rules.{Answers, ConvertsTo}
use Rattle.update_plan.specs.Fates.{GivesOnly, Retains, by_chain, converted}

-- what is said of an option that is there
pub told : {A : Type 0} (f : A → List ℕ) (o : Option A) (x : A) (found : Option (List ℕ)) → o ≡ Some x
    → option_map f o ≡ found → found ≡ Some (f x)
told f o x found is e = sym e ∙ ap (option_map f) is

encoded_keeps : (answers : Answers) (name : List ℕ) (v w : Tree) (places : List ℕ) (r : Result Fresh PerError)
    → ConvertsTo answers places v w
    → GivesOnly r (record { name = name; info = None; bytes = encoding w }) → Retains answers name (converted v places)
    r
encoded_keeps answers name v w places (Ok x) to given = (w, to, ap (λ y. Some y) given)
encoded_keeps answers name v w places (Err e) to given = λ memory. absurd (memory given)

pub chain_keeps : (answers : Answers) (name : List ℕ) (v w : Tree) (to : Kind) (places : List ℕ)
    (found : Option (List ℕ)) (r : Result Fresh PerError) → found ≡ Some places → ConvertsTo answers places v w
    → GivesOnly r (record { name = name; info = None; bytes = encoding w }) → Retains answers name
    (by_chain v to found) r
chain_keeps answers name v w to places found r is conv given =
    subst (λ f. Retains answers name (by_chain v to f) r) (sym is) (encoded_keeps answers name v w places r conv given)
