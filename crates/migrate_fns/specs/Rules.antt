-- Stored converters as data: for which element each is, and between which types; and what each may answer.
use Rattle.std.specs.Prelude.{◌≡◌, ℕ, List, [], ◌∷◌, Bool, true, cond, ◌&&◌, Option, Some, None, option_map}
use Rattle.std.specs.Prelude.{option_and_then, slice_get}
use Rattle.std.specs.Str.{bytes_eq}
use Rattle.value_model.specs.Kinds.{Kind, same_kind}
use Rattle.value_model.specs.Trees.{Tree}

-- a converter: the name of the element that it is for, or none for every one, the type that it takes, and the one that
-- it gives
pub record Rule : Type 0 where
  pub element : Option (List ℕ)
  pub from : Kind
  pub to : Kind

-- whether the converter at a place, counted from 0, may answer the second value on the first
abbrev pub Answers : Type 1
Answers = ℕ → Tree → Tree → Type 0

-- a converter that names an element, or none, is for this element: it names this one or none
abbrev pub is_for : Option (List ℕ) → List ℕ → Bool
is_for None element = true
is_for (Some name) element = bytes_eq name element

-- a converter leads from the one type to the other, and names this element or none
abbrev pub serves : List ℕ → Kind → Kind → Rule → Bool
serves element from to r = is_for r.element element && (same_kind r.from from && same_kind r.to to)

-- ---- several, one after the other

-- the type that the first of the converters at these places takes
abbrev pub first_type : List Rule → List ℕ → Option Kind
first_type rules [] = None
first_type rules (i ∷ is) = option_map (λ (r : Rule). r.from) (slice_get rules i)

-- this type, where the converter takes what it is given
abbrev pub if_takes : Bool → Option Kind → Option Kind
if_takes b k = cond b k None

-- the type to which the converters at these places lead from this one; none where there is no converter at a place, or
-- one does not take what the one before gives
abbrev pub reached : List Rule → List ℕ → Kind → Option Kind
reached rules [] from = Some from
reached rules (i ∷ is) from = option_and_then (λ (r : Rule). if_takes (same_kind r.from from) (reached rules is r.to))
    (slice_get rules i)

-- the type that the last of the converters at these places gives; none also where there is no place
abbrev pub last_type : List Rule → List ℕ → Option Kind
last_type rules is = option_and_then (reached rules is) (first_type rules is)

-- the converters at these places, one after the other, may answer w on v: each is called on what
-- the one before answered
abbrev pub ConvertsTo : Answers → List ℕ → Tree → Tree → Type 0
ConvertsTo answers [] v w = w ≡ v
ConvertsTo answers (i ∷ is) v w = (u : Tree) × answers i v u × ConvertsTo answers is u w
