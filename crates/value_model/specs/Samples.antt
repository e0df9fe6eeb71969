-- Encodings of small values, computed.
use Rattle.std.specs.Prelude.{◌≡◌, [], ◌∷◌, true, negsuc}
use Rattle.std.proofs.Common.{refl}
use Rattle.value_model.specs.Kinds.{one, two, four, eight, unsigned_kind}
use Rattle.value_model.specs.Trees.{bool_tree, unsigned_tree, signed_tree, text_tree, bytes_tree, list_tree}
use Rattle.value_model.specs.Trees.{fields_tree, no_trees, tree_then}
use Rattle.value_model.specs.Encoding.{encoding}

bool_sample : encoding (bool_tree true) ≡ 1 ∷ 1 ∷ []
bool_sample = refl

u16_sample : encoding (unsigned_tree two 513) ≡ 3 ∷ 1 ∷ 2 ∷ []
u16_sample = refl

i32_sample : encoding (signed_tree four (negsuc 1)) ≡ 8 ∷ 254 ∷ 255 ∷ 255 ∷ 255 ∷ []
i32_sample = refl

u64_sample : encoding (unsigned_tree eight 51200) ≡ 5 ∷ 0 ∷ 200 ∷ 0 ∷ 0 ∷ 0 ∷ 0 ∷ 0 ∷ 0 ∷ []
u64_sample = refl

text_sample : encoding (text_tree (195 ∷ 169 ∷ [])) ≡ 10 ∷ 2 ∷ 0 ∷ 0 ∷ 0 ∷ 195 ∷ 169 ∷ []
text_sample = refl

bytes_sample : encoding (bytes_tree []) ≡ 11 ∷ 0 ∷ 0 ∷ 0 ∷ 0 ∷ []
bytes_sample = refl

list_sample : encoding (list_tree (unsigned_kind one) (tree_then (unsigned_tree one 1)
    (tree_then (unsigned_tree one 2) no_trees))) ≡ 12 ∷ 2 ∷ 2 ∷ 0 ∷ 0 ∷ 0 ∷ 1 ∷ 2 ∷ []
list_sample = refl

empty_list_sample : encoding (list_tree (unsigned_kind two) no_trees) ≡ 12 ∷ 3 ∷ 0 ∷ 0 ∷ 0 ∷ 0 ∷ []
empty_list_sample = refl

group_sample : encoding (fields_tree (tree_then (unsigned_tree one 7) (tree_then (text_tree (97 ∷ [])) no_trees)))
    ≡ 13 ∷ 2 ∷ 2 ∷ 10 ∷ 7 ∷ 1 ∷ 0 ∷ 0 ∷ 0 ∷ 97 ∷ []
group_sample = refl
