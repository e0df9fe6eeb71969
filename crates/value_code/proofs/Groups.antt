-- The number of members of a group of fields.
use Rattle.std.proofs.Common.{◌≤◌, Vec, vec_len, Global}
use Rattle.std.proofs.lemmas.Bool.{and_parts, leb-true}
use Rattle.std.specs.Prelude.{IsTrue, nat_le}
use Rattle.value_model.specs.declared.types.ValueType as types
use Rattle.value_model.specs.declared.types.ValueType.{ValueType}
use Rattle.value_model.specs.Kinds.{kind_fits, kinds_fit, is_group}
use Rattle.value_model.specs.Views.{kind_of, kinds_view}
use Rattle.value_model.specs.lemmas.Members.{fits-Fields}

pub members_at_most : (v : Vec ValueType Global) → IsTrue (kind_fits (kind_of (types.Fields v))) → vec_len v ≤ 32
members_at_most v fits =
    let both = and_parts (is_group (vec_len v)) (kinds_fit (kinds_view v.items)) (rw (← fits-Fields v) fits) in
    leb-true (vec_len v) 32 (and_parts (nat_le 1 (vec_len v)) (nat_le (vec_len v) 32) both.0).1
