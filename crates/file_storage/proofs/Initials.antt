-- What a file starts with.
use Rattle.std.proofs.Common.{◌≡◌, ℕ, ◌≤◌, List, [], ◌∷◌, length, Bool, true, false, cond, subst, sym}
use Rattle.std.specs.Prelude.{Option, Some, None, MatchOption, ⊤, find, option_and_then}
use Rattle.std.specs.List.{AllByRecursion}
use Rattle.std.specs.Str.{bytes_eq}
use Rattle.per_base.specs.declared.elements.StoreKind.TheVariants.{Files}
use Rattle.deployment_model.specs.Conditions.{IsElement, IsStorage, StartsAs}
use Rattle.deployment_model.specs.Data.{ElementData, StorageData}
use Rattle.deployment_model.specs.Lookups.{initial_content}

small_start : (e : ElementData) (bytes : List ℕ) → IsElement Files e → e.initial ≡ Some bytes → length bytes ≤ 1048576
small_start e bytes is start = by e.initial start is.initial
  where
    by : (o : Option (List ℕ)) → o ≡ Some bytes → StartsAs Files e.value_type o → length bytes ≤ 1048576
    by None p s = absurd (cc)
    by (Some b) p s = let same : b ≡ bytes = cc in subst (λ x. length x ≤ 1048576) same s

among : (name bytes : List ℕ) (es : List ElementData) → AllByRecursion (IsElement Files) es
    → option_and_then (λ (e : ElementData). e.initial) (find (λ (e : ElementData). bytes_eq e.name name) es)
    ≡ Some bytes → length bytes ≤ 1048576
among name bytes [] all start = absurd (cc)
among name bytes (e ∷ es) all start = by (bytes_eq e.name name) (among name bytes es all.1) start
  where
    by : (b : Bool) → (option_and_then (λ (x : ElementData). x.initial)
        (find (λ (x : ElementData). bytes_eq x.name name) es) ≡ Some bytes → length bytes ≤ 1048576)
        → option_and_then (λ (x : ElementData). x.initial)
        (cond b (Some e) (find (λ (x : ElementData). bytes_eq x.name name) es)) ≡ Some bytes
        → length bytes ≤ 1048576
    by true later s = small_start e bytes all.0 s
    by false later s = later s

pub initial_small : (config : StorageData) (name bytes : List ℕ) → IsStorage config → config.kind ≡ Files
    → initial_content config name ≡ Some bytes → length bytes ≤ 1048576
initial_small config name bytes is of_files start = among name bytes config.elements
    (subst (λ k. AllByRecursion (IsElement k) config.elements) of_files is.each) start

-- what is looked up is small
pub initial_is_small : (config : StorageData) (name : List ℕ) (o : Option (List ℕ)) → IsStorage config
    → config.kind ≡ Files → o ≡ initial_content config name → MatchOption o ⊤ (λ bytes. length bytes ≤ 1048576)
initial_is_small config name None is of_files e = tt
initial_is_small config name (Some bytes) is of_files e = initial_small config name bytes is of_files (sym e)
