-- Chains of converters: which lists of places fit, which of them is the shortest and then least, and the search for it.
use Rattle.std.specs.Prelude.{◌≡◌, ◌⊎◌, ℕ, zero, suc, List, [], ◌∷◌, length, Bool, true, false, cond, ◌&&◌, nat_le}
use Rattle.std.specs.Prelude.{nat_lt, nat_eq, Option, Some, None, option_map, slice_get, ⊤}
use Rattle.value_model.specs.Kinds.{Kind, same_kind}
use Rattle.migrate_fns.specs.Rules.{Rule, is_for}

-- the converter may be used for the element of this name on a value of this type
abbrev pub usable : List ℕ → Kind → Rule → Bool
usable element from r = is_for r.element element && same_kind r.from from

-- of an element's name, the type that is wanted, the places of converters, and the type at hand: there is a converter
-- at each place, it names this element or none, and they lead, one after the other, from the type at hand to the wanted
-- one
abbrev pub linked : List Rule → List ℕ → Kind → List ℕ → Kind → Bool
linked rules element to [] from = same_kind from to
linked rules element to (i ∷ is) from = elim (slice_get rules i)
    [ None ↦ false | Some r ↦ usable element from r && linked rules element to is r.to ]

-- of an element's name, two types and the places of converters: these are 1 to 8, and lead from the first type to the
-- second
abbrev pub fitting : List Rule → List ℕ → Kind → Kind → List ℕ → Bool
fitting rules element from to is = nat_le 1 (length is) && (nat_le (length is) 8 && linked rules element to is from)

-- the first list is less than the second, place by place
abbrev pub list_less : List ℕ → List ℕ → Bool
list_less [] is = false
list_less (i ∷ is) [] = false
list_less (i ∷ is) (j ∷ js) = cond (nat_eq i j) (list_less is js) (nat_lt i j)

-- the first list comes before the second: it is shorter, or of the same length and less
abbrev pub comes_before : List ℕ → List ℕ → Bool
comes_before is js = cond (nat_eq (length is) (length js)) (list_less is js) (nat_lt (length is) (length js))

-- what is to be found for an element's name, from the first type to the second: the places of the shortest fitting
-- list, and of these the least; none exactly where no list fits
abbrev pub IsShortestChain : List Rule → List ℕ → Kind → Kind → Option (List ℕ) → Type 0
IsShortestChain rules element from to None = (is : List ℕ) → fitting rules element from to is ≡ false
IsShortestChain rules element from to (Some is) = (fitting rules element from to is ≡ true)
    × ((js : List ℕ) → fitting rules element from to js ≡ true → (js ≡ is) ⊎ (comes_before is js ≡ true))

-- ---- the same as a function

-- the first list, or where there is none the later one
abbrev pub or_later : Option (List ℕ) → (⊤ → Option (List ℕ)) → Option (List ℕ)
or_later None later = later tt
or_later (Some is) later = Some is

-- the place in front of what leads on from its type, where the converter there may be used
abbrev pub with_link : Bool → ℕ → (Kind → Option (List ℕ)) → Kind → Option (List ℕ)
with_link false i next to = None
with_link true i next to = option_map (λ is. i ∷ is) (next to)

-- of the converters from this place on, the first that may be used for the element on this type and leads on, with what
-- follows it
abbrev pub first_link : List ℕ → Kind → (Kind → Option (List ℕ)) → ℕ → List Rule → Option (List ℕ)
first_link element from next i [] = None
first_link element from next i (r ∷ rs) = or_later (with_link (usable element from r) i next r.to)
    (λ u. first_link element from next (suc i) rs)

-- the empty list, where the type at hand is the wanted one
abbrev pub if_same : Bool → Option (List ℕ)
if_same false = None
if_same true = Some []

-- the least list of exactly n places that lead, for this element, to the first type from the second
abbrev pub links : List Rule → List ℕ → Kind → ℕ → Kind → Option (List ℕ)
links rules element to zero from = if_same (same_kind from to)
links rules element to (suc n) from = first_link element from (links rules element to n) 0 rules

-- the least list of n places, or of n + 1, and so on, as many lengths as `fuel` says
abbrev pub shortest : List Rule → List ℕ → Kind → Kind → ℕ → ℕ → Option (List ℕ)
shortest rules element from to zero n = None
shortest rules element from to (suc fuel) n = or_later (links rules element to n from)
    (λ u. shortest rules element from to fuel (suc n))

-- the places of the shortest, then least, list of 1 to 8 converters for this element from the first type to the second
unfoldable pub chain_of : List Rule → List ℕ → Kind → Kind → Option (List ℕ)
chain_of rules element from to = shortest rules element from to 8 1

-- ---- steps of the search

-- the first of these places, if there are any
abbrev pub first_place : Option (List ℕ) → Option ℕ
first_place None = None
first_place (Some []) = None
first_place (Some (i ∷ is)) = Some i

-- there is a converter at this place, and it takes this type
abbrev pub takes : List Rule → Kind → ℕ → Bool
takes rules from i = elim (slice_get rules i) [ None ↦ false | Some r ↦ same_kind r.from from ]
