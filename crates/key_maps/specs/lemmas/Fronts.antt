-- Texts at the start of bytes: of two that follow one another, and of the code of a type, which tells the type.
use Rattle.std.proofs.Common.{◌≡◌, ℕ, List, [], ◌∷◌, ◌++◌, Bool, true, false, cond, Option, Some, None, refl, sym, ap}
use Rattle.std.proofs.Common.{◌∙◌, Vec, vec_len, Global}
use Rattle.std.specs.Prelude.{◌≤◌, length, nat_eq, nat_lt, option_and_then, option_map, is_some, IsTrue, ◌↔◌}
use Rattle.std.proofs.lemmas.Bool.{eqb-true, eq-eqb, ltb-false}
use Rattle.per_base.specs.Fields.{◌>>=◌, AreBytes}
use Rattle.value_model.specs.declared.nodes.Node as nodes
use Rattle.value_model.specs.declared.nodes.Node.{Node}
use Rattle.value_model.specs.declared.types.ValueType as types
use Rattle.value_model.specs.declared.types.ValueType.{ValueType}
use Rattle.value_model.specs.Kinds.{Kind, type_code, type_codes}
use Rattle.value_model.specs.Trees.{Tree, type_of, types_of}
use Rattle.value_model.specs.Views.{kind_of, kinds_view, tree_of, trees_view}
use Rattle.value_model.specs.lemmas.Members.{count_kinds-view, count_types, counted, kind_of-Fields, len-items}
use Rattle.value_model.specs.lemmas.Members.{tree_of-Fields}
use Rattle.value_model.specs.Encoding.{payload}
use Rattle.value_model.specs.Validity.{IsValue, max_depth, max_length}
use Rattle.value_code.specs.Reading.{decoded, is_encoding, if_whole, kind_at, tree_at}
use Rattle.value_code.specs.lemmas.ValueLaws.{decoded_takes, one_type}
use Rattle.key_maps.specs.Fronts.{after}

-- ---- what follows a text

pub after_both : (xs ys bytes : List ℕ) → after (xs ++ ys) bytes ≡ option_and_then (after ys) (after xs bytes)
after_both [] ys bytes = refl
after_both (x ∷ xs) ys [] = refl
after_both (x ∷ xs) ys (b ∷ bytes) = by (after_both xs ys bytes) (nat_eq x b)
  where
    by : after (xs ++ ys) bytes ≡ option_and_then (after ys) (after xs bytes) → (same : Bool)
        → cond same (after (xs ++ ys) bytes) None ≡ option_and_then (after ys) (cond same (after xs bytes) None)
    by later true = later
    by later false = refl

after_again : (xs ys : List ℕ) → after xs (xs ++ ys) ≡ Some ys
after_again [] ys = refl
after_again (x ∷ xs) ys = rw (eq-eqb x x refl) (after_again xs ys)

after_found : (xs bytes rest : List ℕ) → after xs bytes ≡ Some rest → bytes ≡ xs ++ rest
after_found [] bytes rest is = cc
after_found (x ∷ xs) [] rest is = absurd cc
after_found (x ∷ xs) (b ∷ bytes) rest is = by (after_found xs bytes rest) (nat_eq x b) refl is
  where
    by : (after xs bytes ≡ Some rest → bytes ≡ xs ++ rest) → (same : Bool) → nat_eq x b ≡ same
        → cond same (after xs bytes) None ≡ Some rest → b ∷ bytes ≡ x ∷ (xs ++ rest)
    by later true e found = rw (eqb-true x b e, later found) refl
    by later false e found = absurd cc

-- ---- one text after the other, in a loop over both

-- the first of the texts is there
pub after_more : (codes first others bytes rest : List ℕ) (whole : Option (List ℕ)) → codes ≡ first ++ others
    → Some rest ≡ after first bytes → after codes bytes ≡ whole → after others rest ≡ whole
after_more codes first others bytes rest whole parts is so_far =
    let step : after codes bytes ≡ after others rest =
    ap (λ (text : List ℕ). after text bytes) parts
    ∙ after_both first others bytes ∙ ap (option_and_then (after others)) (sym is) in
    sym step ∙ so_far

-- it is not
pub after_less : (codes first others bytes : List ℕ) (whole : Option (List ℕ)) → codes ≡ first ++ others
    → None ≡ after first bytes → after codes bytes ≡ whole → None ≡ whole
after_less codes first others bytes whole parts is so_far =
    let step : after codes bytes ≡ None =
    ap (λ (text : List ℕ). after text bytes) parts
    ∙ after_both first others bytes ∙ ap (option_and_then (after others)) (sym is) in
    sym step ∙ so_far

-- ---- the code of a group: 13, a count, and the codes of its members

pub types_code : (members : Vec ValueType Global)
    → type_code (kind_of (types.Fields members)) ≡ 13 ∷ vec_len members ∷ type_codes (kinds_view members.items)
types_code members = rw (kind_of-Fields members, count_kinds-view members.items, len-items members) refl

pub nodes_code : (members : Vec Node Global) → type_code (type_of (tree_of (nodes.Fields members)))
    ≡ 13 ∷ vec_len members ∷ type_codes (types_of (trees_view members.items))
nodes_code members = rw (tree_of-Fields members, count_types (trees_view members.items), counted members) refl

-- the count is another one
pub after_count : (count : ℕ) (codes bytes rest : List ℕ) → Some rest ≡ after (13 ∷ []) bytes
    → None ≡ after (count ∷ []) rest → None ≡ after (13 ∷ count ∷ codes) bytes
after_count count codes bytes rest group other =
    after_less (count ∷ codes) (count ∷ []) codes rest (after (13 ∷ count ∷ codes) bytes) refl other
    (after_more (13 ∷ count ∷ codes) (13 ∷ []) (count ∷ codes) bytes rest (after (13 ∷ count ∷ codes) bytes) refl group
    refl)

pub after_members : (count : ℕ) (codes bytes rest members : List ℕ) → Some rest ≡ after (13 ∷ []) bytes
    → Some members ≡ after (count ∷ []) rest → after codes members ≡ after (13 ∷ count ∷ codes) bytes
after_members count codes bytes rest members group same =
    after_more (count ∷ codes) (count ∷ []) codes rest members (after (13 ∷ count ∷ codes) bytes) refl same
    (after_more (13 ∷ count ∷ codes) (13 ∷ []) (count ∷ codes) bytes rest (after (13 ∷ count ∷ codes) bytes) refl group
    refl)

-- ---- encodings

-- an encoding is short
pub encoding_short : (bytes : List ℕ) → IsTrue (is_encoding bytes) → length bytes ≤ 65536
unfolding decoded
encoding_short bytes is = by (nat_lt max_length (length bytes)) refl is
  where
    by : (long : Bool) → nat_lt max_length (length bytes) ≡ long
        → IsTrue (is_some (cond long None (kind_at max_depth bytes >>= λ k. tree_at k.0 k.1 >>= if_whole)))
        → length bytes ≤ 65536
    by true e found = absurd cc
    by false e found = ltb-false _ _ e

-- bytes that encode a value begin with the code of a type exactly where the value has this type
pub typed_front : (bytes : List ℕ) (other : Tree) (answer : Bool) → AreBytes bytes → IsTrue (is_encoding bytes)
    → IsValue other → answer ≡ is_some (after (type_code (type_of other)) bytes)
    → IsTrue answer ↔ (option_map type_of (decoded bytes) ≡ Some (type_of other))
typed_front bytes other answer small encodes valid is = by (decoded bytes) refl encodes
  where
    found : (rest : Option (List ℕ)) → after (type_code (type_of other)) bytes ≡ rest → answer ≡ true
        → (tail : List ℕ) × (bytes ≡ type_code (type_of other) ++ tail)
    found (Some tail) e holds = (tail, after_found (type_code (type_of other)) bytes tail e)
    found None e holds = absurd (cc (holds, is, e))

    by : (read : Option Tree) → decoded bytes ≡ read → IsTrue (is_some read)
        → IsTrue answer ↔ (option_map type_of read ≡ Some (type_of other))
    by None e some = absurd cc
    by (Some t) e some =
        let g = decoded_takes bytes t small e in (
          λ holds.
              let front = found (after (type_code (type_of other)) bytes) refl holds in
              ap (λ (k : Kind). Some k) (one_type t other g.0 valid (payload t) front.0 (sym g.1 ∙ front.1)),
          λ same.
              let kinds : type_of t ≡ type_of other = cc in
              let parts : bytes ≡ type_code (type_of other) ++ payload t =
              g.1 ∙ ap (λ (k : Kind). type_code k ++ payload t) kinds in
              is ∙ ap is_some (ap (after (type_code (type_of other))) parts
              ∙ after_again (type_code (type_of other)) (payload t)),
        )
