-- What small texts spell, computed, and texts that spell nothing.
use Rattle.std.specs.Prelude.{◌≡◌, [], true, codes, negsuc, Some, None}
use Rattle.std.specs.Fmt.{digits}
use Rattle.std.proofs.Common.{refl}
use Rattle.value_model.specs.Kinds.{one, two, four, unsigned_kind, text_kind, list_kind, fields_kind, no_kinds}
use Rattle.value_model.specs.Kinds.{kind_then}
use Rattle.value_model.specs.Trees.{bool_tree, unsigned_tree, signed_tree, text_tree, bytes_tree, list_tree, no_trees}
use Rattle.value_model.specs.Trees.{tree_then}
use Rattle.value_text.specs.Texts.{type_text, value_text}
use Rattle.value_text.specs.Limits.{keeps_limits}
use Rattle.value_text.specs.Readers.{number_of, number_at, unsigned_at, signed_at, hex_bytes_at, separated}
use Rattle.value_text.specs.Parsing.{scalar_at, list_kind_at, fields_kind_at, kind_here, kind_at, kind_in}
use Rattle.value_text.specs.Parsing.{value_content_at}
use Rattle.value_text.specs.Parsing.{scalar_tree_at, items_at, list_tree_at, tree_here, tree_at, tree_in, value_in}

-- ---- texts

u16_text : value_text (unsigned_tree two 513) ≡ codes "u16:513"
unfolding digits
u16_text = refl

i32_text : value_text (signed_tree four (negsuc 1)) ≡ codes "i32:-2"
unfolding digits
i32_text = refl

quotes_text : value_text (text_tree (codes "a\"\\\n")) ≡ codes "text:\"a\\\"\\\\\\n\""
quotes_text = refl

list_text : value_text (list_tree (unsigned_kind one) (tree_then (unsigned_tree one 1)
    (tree_then (unsigned_tree one 2) no_trees))) ≡ codes "list<u8>[u8:1,u8:2]"
unfolding digits
list_text = refl

group_type_text : type_text (fields_kind (kind_then (list_kind text_kind) (kind_then text_kind no_kinds)))
    ≡ codes "{list<text>,text}"
group_type_text = refl

-- ---- types that texts spell

list_type : kind_in (codes "list<u8>") ≡ Some (list_kind (unsigned_kind one))
unfolding kind_in kind_at kind_here list_kind_at scalar_at
list_type = refl

open_list_type : kind_in (codes "list<u8") ≡ None
unfolding kind_in kind_at kind_here list_kind_at scalar_at
open_list_type = refl

no_members_type : kind_in (codes "{}") ≡ None
unfolding kind_in kind_at kind_here fields_kind_at separated scalar_at
no_members_type = refl

-- ---- values that texts spell

bool_value : value_in (codes "bool:true") ≡ Some (bool_tree true)
unfolding value_in tree_in tree_at tree_here scalar_tree_at scalar_at value_content_at keeps_limits
bool_value = refl

u16_value : value_in (codes "u16:513") ≡ Some (unsigned_tree two 513)
unfolding value_in tree_in tree_at tree_here scalar_tree_at scalar_at value_content_at unsigned_at number_at number_of
    keeps_limits
u16_value = refl

bytes_value : value_in (codes "bytes:") ≡ Some (bytes_tree [])
unfolding value_in tree_in tree_at tree_here scalar_tree_at scalar_at value_content_at hex_bytes_at keeps_limits
bytes_value = refl

no_items : value_in (codes "list<u16>[]") ≡ Some (list_tree (unsigned_kind two) no_trees)
unfolding value_in tree_in tree_at tree_here list_tree_at items_at kind_at kind_here scalar_at keeps_limits
no_items = refl

leading_zero : value_in (codes "u8:07") ≡ None
unfolding value_in tree_in tree_at tree_here scalar_tree_at scalar_at value_content_at unsigned_at number_at number_of
    keeps_limits
leading_zero = refl

minus_zero : value_in (codes "i8:-0") ≡ None
unfolding value_in tree_in tree_at tree_here scalar_tree_at scalar_at value_content_at signed_at unsigned_at number_at
    number_of keeps_limits
minus_zero = refl

too_great : value_in (codes "u8:256") ≡ None
unfolding value_in tree_in tree_at tree_here scalar_tree_at scalar_at value_content_at unsigned_at number_at number_of
    keeps_limits
too_great = refl

other_item_type : value_in (codes "list<u8>[bool:true]") ≡ None
unfolding value_in tree_in tree_at tree_here list_tree_at items_at separated kind_at kind_here scalar_tree_at scalar_at
    value_content_at keeps_limits
other_item_type = refl
