-- Where making a thing a value allocates.
use Rattle.value_model.specs.Kinds.{Kind, bool_kind, unsigned_kind, signed_kind}

-- making a value of this type, or a thing from one, may take memory: true of all types but truth values and integers,
-- since a text, bytes, items or fields are copied
abbrev pub Allocates : Kind → Type 0
Allocates bool_kind = ⊥
Allocates (unsigned_kind size) = ⊥
Allocates (signed_kind size) = ⊥
Allocates other = Unit {0}
