-- The types of the members of a group of fields, taken from the start.
use Rattle.std.specs.Prelude.{Option, None, Some}
use Rattle.value_model.specs.Kinds.{Kind, Kinds, no_kinds, kind_then}

-- the type of the first member, where there is one
abbrev pub first_kind : Kinds → Option Kind
first_kind no_kinds = None
first_kind (kind_then k ks) = Some k

-- the types of the members after the first
abbrev pub other_kinds : Kinds → Kinds
other_kinds no_kinds = no_kinds
other_kinds (kind_then k ks) = ks
