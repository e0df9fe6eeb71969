-- The types of keys, and the encodings of values of a type.
use Rattle.std.proofs.Common.{◌≡◌, ℕ, Bool, true, false, List, Option, Some, None, is_some, refl}
use Rattle.std.specs.Prelude.{option_and_then, if◌then◌else◌}
use Rattle.std.specs.Str.{bytes_eq}
use Rattle.std.proofs.lemmas.Slice.Eq.{bytes_eq-Decides}
use Rattle.std.proofs.Common.{ap}
use Rattle.serde_json.specs.Data.{Data}
use Rattle.per_base.specs.declared.elements.StoreKind.TheVariants.{Keys}
use Rattle.value_model.specs.Kinds.{Kind}
use Rattle.value_model.specs.Trees.{Tree, type_of}
use Rattle.value_model.specs.Encoding.{encoding}
use Rattle.value_model.specs.Validity.{IsValue}
use Rattle.value_code.specs.lemmas.ValueLaws.{typed_fits}
use Rattle.value_text.specs.Types.{IsType}
use Rattle.value_text.specs.Parsing.{kind_in}
use Rattle.value_text.specs.Texts.{type_text}
use Rattle.value_text.specs.lemmas.Public.{same_type, kind_in_takes}
use Rattle.deployment_model.specs.Conditions.{HasTypeFor}
use Rattle.manifest.specs.Parts.{type_in, encoding_as}

pub then_some : {A B : Type 0} (f : A → Option B) (o : Option A) (b : B) → option_and_then f o ≡ Some b
    → (a : A) × (o ≡ Some a) × (f a ≡ Some b)
then_some f None b e = absurd cc
then_some f (Some a) b e = (a, refl, e)

pub has_a_type : (d : Data) (o : Option Kind) → type_in d ≡ o → is_some o ≡ true → HasTypeFor Keys o
unfolding type_in
has_a_type d None is some = absurd cc
has_a_type d (Some k) is some = let said = then_some kind_in _ k is in (kind_in_takes said.0 k said.2).0

pub type_said : (d : Data) (k : Kind) → type_in d ≡ Some k → IsType k
type_said d k is = has_a_type d (Some k) is refl

pub type_of_value : (t : Tree) → IsValue t → IsType (type_of t)
type_of_value t value = record { groups = typed_fits t value.typed; shallow = value.shallow }

none_unless : (test : Bool) (bytes : List ℕ) → (test ≡ true → ⊥) → (if test then Some bytes else None) ≡ None
none_unless true bytes never = absurd (never refl)
none_unless false bytes never = refl

-- a value of another type has no encoding as one of this type
pub of_another_type : (k : Kind) (t : Tree) → IsType k → IsValue t → (type_of t ≡ k → ⊥) → encoding_as k t ≡ None
of_another_type k t type value apart = none_unless _ _
    (λ h. apart (same_type (type_of t) k (type_of_value t value) type
    ((bytes_eq-Decides (type_text (type_of t)) (type_text k)).0 h)))

pub of_its_type : (k : Kind) (t : Tree) → type_of t ≡ k → encoding_as k t ≡ Some (encoding t)
of_its_type k t same = let alike : bytes_eq (type_text (type_of t)) (type_text k) ≡ true =
    (bytes_eq-Decides (type_text (type_of t)) (type_text k)).1 (ap type_text same) in rw alike refl
