-- Lists in the order of names, and where a name stands in one.
use Rattle.std.specs.Prelude.{◌≡◌, ◌<◌, ◌≤◌, ℕ, List, length, MatchResult, Result}
use Rattle.std.specs.List.{HoldsAt}
use Rattle.std.specs.List.Sorted.{IsPartitionPoint}
use Rattle.std.specs.declared.cmp.Ordering.TheVariants.{Less, Greater}
use Rattle.per_base.specs.Names.{name_cmp}

-- where the name stands, or else where it belongs
abbrev pub IsSearchResult : {X : Type 0} → (X → List ℕ) → List ℕ → List X → Result ℕ ℕ → Type 0
IsSearchResult name_of name xs place = MatchResult place
    (λ i. (i < length xs) × HoldsAt (λ x. name_of x ≡ name) xs i)
    (λ i. (i ≤ length xs) × IsPartitionPoint (λ x. name_cmp (name_of x) name ≡ Less)
    (λ x. name_cmp (name_of x) name ≡ Greater) xs i)
