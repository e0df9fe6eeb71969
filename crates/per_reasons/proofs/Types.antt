-- The types of keys, and the encodings of values of a type.
use Rattle.std.proofs.Common.{◌≡◌, ℕ, Bool, true, false, List, Option, Some, None, ◌↔◌, is_some, refl, ap, sym, true≢false}
use Rattle.std.specs.Prelude.{IsTrue, if◌then◌else◌, option_and_then}
use Rattle.std.specs.Str.{bytes_eq}
use Rattle.std.proofs.lemmas.Slice.Eq.{bytes_eq-Decides}
use Rattle.serde_json.specs.Data.{Data}
use Rattle.value_model.specs.Kinds.{Kind}
use Rattle.value_model.specs.Trees.{Tree, type_of}
use Rattle.value_model.specs.Encoding.{encoding}
use Rattle.value_model.specs.Validity.{IsValue}
use Rattle.value_code.specs.lemmas.ValueLaws.{typed_fits}
use Rattle.value_text.specs.Types.{IsType}
use Rattle.value_text.specs.Parsing.{kind_in}
use Rattle.value_text.specs.Texts.{type_text}
use Rattle.value_text.specs.lemmas.Public.{same_type, kind_in_takes}
use Rattle.manifest.specs.Parts.{type_in, encoding_as}

then_some : {A B : Type 0} (f : A → Option B) (o : Option A) (b : B) → option_and_then f o ≡ Some b
    → (a : A) × (o ≡ Some a) × (f a ≡ Some b)
then_some f None b e = absurd cc
then_some f (Some a) b e = (a, refl, e)

pub type_said : (d : Data) (k : Kind) → type_in d ≡ Some k → IsType k
unfolding type_in
type_said d k is = let said = then_some kind_in _ k is in (kind_in_takes said.0 k said.2).0

type_of_value : (t : Tree) → IsValue t → IsType (type_of t)
type_of_value t value = record { groups = typed_fits t value.typed; shallow = value.shallow }

alike : (k : Kind) (t : Tree) → type_of t ≡ k → bytes_eq (type_text (type_of t)) (type_text k) ≡ true
alike k t same = (bytes_eq-Decides (type_text (type_of t)) (type_text k)).1 (ap type_text same)

same_of : (k : Kind) (t : Tree) → IsType k → IsValue t → bytes_eq (type_text (type_of t)) (type_text k) ≡ true
    → type_of t ≡ k
same_of k t type value equal = same_type (type_of t) k (type_of_value t value) type
    ((bytes_eq-Decides (type_text (type_of t)) (type_text k)).0 equal)

is_decided : (has test : Bool) (bytes : List ℕ) → (has ≡ true → test ≡ true) → (test ≡ true → has ≡ true)
    → has ≡ is_some (if test then Some bytes else None)
is_decided true true bytes on back = refl
is_decided true false bytes on back = absurd (true≢false (sym (on refl)))
is_decided false true bytes on back = absurd (true≢false (sym (back refl)))
is_decided false false bytes on back = refl

-- a value has an encoding as one of this type exactly where it has the type
pub encodes : (k : Kind) (t : Tree) (has : Bool) → IsType k → IsValue t → IsTrue has ↔ (type_of t ≡ k)
    → has ≡ is_some (encoding_as k t)
encodes k t has type value decides = is_decided has (bytes_eq (type_text (type_of t)) (type_text k)) (encoding t)
    (λ is. alike k t (decides.0 is)) (λ is. decides.1 (same_of k t type value is))
