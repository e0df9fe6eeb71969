-- How many bytes a commit may write.
use Rattle.std.specs.Prelude.{◌≤◌, ℕ, ◌+◌, ◌*◌, List, length, cond, Option, Some, None, sum_by}
use Rattle.per_base.specs.declared.elements.StoreKind.{StoreKind}
use Rattle.per_base.specs.declared.elements.StoreKind.TheVariants.{Keys, Files}
use Rattle.per_base.specs.declared.elements.Content.{Content}
use Rattle.per_base.specs.declared.elements.Content.TheVariants.{Good, Bad}
use Rattle.per_base.specs.declared.elements.Entry.{Entry}
use Rattle.per_base.specs.declared.elements.Element.{Element}
use Rattle.per_base.specs.Maps.{Map, element_at}
use Rattle.per_base.specs.declared.elements.Change.{Change}
use Rattle.per_base.specs.declared.elements.Change.TheVariants.{Put, Remove, Touch}
use Rattle.per_base.specs.Contents.{readable_bytes, blocks_for, same_content}
use Rattle.block_files.specs.Parts.{changed_blocks}
use Rattle.element_state.specs.Changes.{entry_by_name}

-- the bytes of the whole blocks that a content takes, of 256 bytes each
abbrev pub whole_cost : List ℕ → ℕ
whole_cost bytes = 256 * blocks_for (length bytes)

-- what a new content costs in place of an old one: a file that was good shares its equal blocks, and all else is
-- written whole
abbrev pub cost_over : StoreKind → Content → List ℕ → ℕ
cost_over Keys old bytes = whole_cost bytes
cost_over Files (Bad salvage) bytes = whole_cost bytes
cost_over Files (Good old) bytes = 256 * changed_blocks bytes old

-- what a new content costs in place of the old one, if there is one
abbrev pub cost_beside : StoreKind → Option Content → List ℕ → ℕ
cost_beside kind None bytes = whole_cost bytes
cost_beside kind (Some old) bytes = cost_over kind old bytes

-- the content of the element of this name, where there is one
abbrev pub content_named : List ℕ → List Entry → Option Content
content_named name entries = elim (entry_by_name name entries) [ None ↦ None | Some e ↦ Some e.content ]

-- what one change costs in each copy: only what it puts is written
abbrev pub change_cost : StoreKind → List Entry → Change → ℕ
change_cost kind entries (Put f) = cost_beside kind (content_named f.name entries) f.bytes
change_cost kind entries (Remove name) = 0
change_cost kind entries (Touch name info) = 0

-- what the contents of a commit cost in each copy, in bytes
unfoldable pub commit_cost : StoreKind → List Entry → List Change → ℕ
commit_cost kind entries changes = sum_by (change_cost kind entries) changes

-- ---- the same between two maps of contents

-- what an element of the new map costs in place of the synchronised one of its name, if there is one
abbrev pub element_cost : StoreKind → Option Element → Element → ℕ
element_cost kind None new = whole_cost (readable_bytes new.content)
element_cost kind (Some old) new = cond (same_content old.content new.content) 0
    (cost_over kind old.content (readable_bytes new.content))

-- what the elements of the new map whose content is new or differs cost in each copy, in bytes
unfoldable pub map_cost : StoreKind → (synced new : Map) → ℕ
map_cost kind synced new = sum_by (λ e. element_cost kind (element_at synced e.0) e.1) new

-- ---- the bound

-- the count of bytes written rose by no more than, in each copy, the contents, the index text with its head of 44
-- bytes, and 44 bytes that blank the old one; `contents` and `index` are lengths in bytes
abbrev pub IsWithin : (copies contents index before after : ℕ) → Type 0
IsWithin copies contents index before after = after ≤ before + copies * (contents + index + 88)
