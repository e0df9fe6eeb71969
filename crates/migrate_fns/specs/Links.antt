-- The links of a search: types as numbers, converters as links between numbers, and the levels of the search.
use Rattle.std.specs.Prelude.{◌≡◌, ℕ, suc, List, length, Bool, true, false, ◌&&◌, not, nat_eq, Option, Some, None}
use Rattle.std.specs.Prelude.{cond, is_some, option_map, map, slice_get, slice_index_or, slice_set, IfSome, Vec}
use Rattle.std.specs.declared.alloc.Global.{Global}
use Rattle.value_model.specs.Kinds.{Kind, same_kind}
use Rattle.migrate_fns.specs.Chains.{first_place, links}
use Rattle.migrate_fns.specs.Rules.{Rule, is_for}
use Rattle.migrate_fns.specs.declared.numbering.Link.{Link}

-- the number of each type is its place, and no type stands twice
abbrev pub AllDiffer : List Kind → Type 0
AllDiffer kinds = (i j : ℕ) (k : Kind) → slice_get kinds i ≡ Some k → slice_get kinds j ≡ Some k → i ≡ j

-- each type of one list has the same number in the other
abbrev pub KeepsNumbers : List Kind → List Kind → Type 0
KeepsNumbers kinds more = (i : ℕ) (k : Kind) → slice_get kinds i ≡ Some k → slice_get more i ≡ Some k

abbrev pub has_number : List Kind → Kind → ℕ → Bool
has_number kinds k i = elim (slice_get kinds i) [ None ↦ false | Some l ↦ same_kind l k ]

-- what is kept of the converter at a place: the link, where it names this element or none
abbrev pub is_link : List ℕ → List Kind → ℕ → Rule → Option Link → Bool
is_link element kinds place r None = not (is_for r.element element)
is_link element kinds place r (Some l) = is_for r.element element
    && (nat_eq l.place place && (has_number kinds r.from l.from && has_number kinds r.to l.to))

abbrev pub AreLinks : List Rule → List ℕ → List Kind → List (Option Link) → Type 0
AreLinks rules element kinds ls = (i : ℕ) (r : Rule) (l : Option Link) → slice_get rules i ≡ Some r
    → slice_get ls i ≡ Some l → is_link element kinds i r l ≡ true

-- ---- levels of the search

-- the link leads from the converter at its place to the number of the type that this gives
abbrev pub LinkLeads : List Rule → List Kind → Link → Type 0
LinkLeads rules kinds l = (r : Rule) × (slice_get rules l.place ≡ Some r) × (slice_get kinds l.to ≡ Some r.to)

abbrev pub link_place : Option Link → Option ℕ
link_place o = option_map (λ (l : Link). l.place) o

-- the level holds, for the number of each type, the link that the least list of n + 1 links from it to the end begins
-- with
abbrev pub IsLevel : List Rule → List ℕ → Kind → List Kind → ℕ → List (Option Link) → Type 0
IsLevel rules element to kinds n level = (length level ≡ length kinds)
    × ((i : ℕ) (from : Kind) → slice_get kinds i ≡ Some from
    → (link_place (slice_index_or level i None) ≡ first_place (links rules element to (suc n) from))
    × IfSome (slice_index_or level i None) (LinkLeads rules kinds))

abbrev pub levels_view : List (Vec (Option Link) Global) → List (List (Option Link))
levels_view levels = map (λ v. v.items) levels

abbrev pub AreLevels : List Rule → List ℕ → Kind → List Kind → List (List (Option Link)) → Type 0
AreLevels rules element to kinds levels = (n : ℕ) (level : List (Option Link)) → slice_get levels n ≡ Some level
    → IsLevel rules element to kinds n level

-- the link is entered at the type that it takes, where it leads on and no link is there
abbrev pub entered : Bool → Link → List (Option Link) → List (Option Link)
entered leads l level = cond (not (is_some (slice_index_or level l.from None)) && leads)
    (slice_set level l.from (Some l)) level
