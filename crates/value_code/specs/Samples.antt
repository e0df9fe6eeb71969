-- What small encodings say, computed, and bytes that say nothing.
use Rattle.std.specs.Prelude.{◌≡◌, [], ◌∷◌, true, negsuc, Some, None}
use Rattle.std.proofs.Common.{refl}
use Rattle.value_model.specs.Kinds.{one, two, four, unsigned_kind}
use Rattle.value_model.specs.Trees.{bool_tree, unsigned_tree, signed_tree, bytes_tree, list_tree, fields_tree, no_trees}
use Rattle.value_model.specs.Trees.{tree_then}
use Rattle.value_code.specs.Reading.{counted_at, kinds_by, list_kind_by, group_kind_by, kind_at, trees_by, decoded}

bool_sample : decoded (1 ∷ 1 ∷ []) ≡ Some (bool_tree true)
unfolding decoded kind_at
bool_sample = refl

u16_sample : decoded (3 ∷ 1 ∷ 2 ∷ []) ≡ Some (unsigned_tree two 513)
unfolding decoded kind_at
u16_sample = refl

i32_sample : decoded (8 ∷ 254 ∷ 255 ∷ 255 ∷ 255 ∷ []) ≡ Some (signed_tree four (negsuc 1))
unfolding decoded kind_at
i32_sample = refl

bytes_sample : decoded (11 ∷ 0 ∷ 0 ∷ 0 ∷ 0 ∷ []) ≡ Some (bytes_tree [])
unfolding decoded kind_at counted_at
bytes_sample = refl

list_sample : decoded (12 ∷ 2 ∷ 2 ∷ 0 ∷ 0 ∷ 0 ∷ 1 ∷ 2 ∷ [])
    ≡ Some (list_tree (unsigned_kind one) (tree_then (unsigned_tree one 1) (tree_then (unsigned_tree one 2) no_trees)))
unfolding decoded kind_at list_kind_by trees_by
list_sample = refl

group_sample : decoded (13 ∷ 1 ∷ 2 ∷ 7 ∷ []) ≡ Some (fields_tree (tree_then (unsigned_tree one 7) no_trees))
unfolding decoded kind_at group_kind_by kinds_by
group_sample = refl

nothing_sample : decoded [] ≡ None
unfolding decoded kind_at
nothing_sample = refl

bool_two_sample : decoded (1 ∷ 2 ∷ []) ≡ None
unfolding decoded kind_at
bool_two_sample = refl

short_sample : decoded (3 ∷ 1 ∷ []) ≡ None
unfolding decoded kind_at
short_sample = refl

no_members_sample : decoded (13 ∷ 0 ∷ []) ≡ None
unfolding decoded kind_at group_kind_by
no_members_sample = refl

no_item_type_sample : decoded (12 ∷ []) ≡ None
unfolding decoded kind_at list_kind_by
no_item_type_sample = refl

trailing_sample : decoded (1 ∷ 1 ∷ 0 ∷ []) ≡ None
unfolding decoded kind_at
trailing_sample = refl
