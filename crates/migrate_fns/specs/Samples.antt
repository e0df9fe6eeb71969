-- Chains over six converters, u8 to u16 to u32 to u64 and i8 to i16 to i32 to i64, each place counted from 0.
use Rattle.std.specs.Prelude.{◌≡◌, List, [], ◌∷◌, ◌++◌, Some, None, refl, codes, true}
use Rattle.value_model.specs.Kinds.{Kind, one, two, four, eight, unsigned_kind, signed_kind}
use Rattle.migrate_fns.specs.Rules.{Rule}
use Rattle.migrate_fns.specs.Chains.{chain_of, fitting}

abbrev pub any : Kind → Kind → Rule
any from to = record { element = None; from = from; to = to }

abbrev pub six : List Rule
six = any (unsigned_kind one) (unsigned_kind two) ∷ any (unsigned_kind two) (unsigned_kind four)
    ∷ any (unsigned_kind four) (unsigned_kind eight)
    ∷ any (signed_kind one) (signed_kind two) ∷ any (signed_kind two) (signed_kind four)
    ∷ any (signed_kind four) (signed_kind eight) ∷ []

three_links : chain_of six (codes "a") (unsigned_kind one) (unsigned_kind eight) ≡ Some (0 ∷ 1 ∷ 2 ∷ [])
unfolding chain_of
three_links = refl

no_chain : chain_of six (codes "a") (signed_kind one) (unsigned_kind one) ≡ None
unfolding chain_of
no_chain = refl

-- a direct converter, listed last, is taken before the three
direct : chain_of (six ++ (any (unsigned_kind one) (unsigned_kind eight) ∷ [])) (codes "a") (unsigned_kind one)
    (unsigned_kind eight) ≡ Some (6 ∷ [])
unfolding chain_of
direct = refl

-- of two lists of equal length that with the lesser place
lesser : chain_of (any (unsigned_kind one) (unsigned_kind two) ∷ six) (codes "a") (unsigned_kind one)
    (unsigned_kind four) ≡ Some (0 ∷ 2 ∷ [])
unfolding chain_of
lesser = refl

-- a converter that names another element does not fit
other_element : chain_of (record { element = Some (codes "b"); from = unsigned_kind one; to = unsigned_kind two } ∷ [])
    (codes "a") (unsigned_kind one) (unsigned_kind two) ≡ None
unfolding chain_of
other_element = refl

three_fit : fitting six (codes "a") (unsigned_kind one) (unsigned_kind eight) (0 ∷ 1 ∷ 2 ∷ []) ≡ true
three_fit = refl
