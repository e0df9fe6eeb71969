-- How long texts are, and how many blocks an index has.
use Rattle.std.proofs.Common.{◌≡◌, ℕ, ◌+◌, ◌*◌, ◌/◌, ◌≤◌, true, false, cond, eqb, leb, ltb, List, [], ◌∷◌, length}
use Rattle.std.proofs.Common.{Option, Some, None, refl, arith}
use Rattle.std.specs.Prelude.{◌&&◌, IsTrue, sum_by}
use Rattle.std.specs.Int.{w32, w64, to_le_bytes}
use Rattle.std.specs.List.{flat_map, AllByRecursion}
use Rattle.std.proofs.lemmas.List.{length-append}
use Rattle.std.proofs.lemmas.List.Concat.{flat_map-cons}
use Rattle.std.proofs.lemmas.List.Sums.{sum_by-cons}
use Rattle.std.proofs.lemmas.Bool.{leb-true, and_parts}
use Rattle.per_base.specs.declared.elements.StoreKind.{StoreKind}
use Rattle.per_base.specs.declared.elements.StoreKind.TheVariants.{Keys, Files}
use Rattle.per_base.specs.declared.elements.FileInfo.{FileInfo}
use Rattle.per_base.specs.Names.{IsName, in_name}
use Rattle.per_base.specs.Contents.{blocks_for}
use Rattle.std.specs.List.{list_all}
use Rattle.index_text.specs.declared.entries.IndexEntry.{IndexEntry}
use Rattle.index_text.specs.declared.entries.Index.{Index}
use Rattle.index_text.specs.Rules.{IsEntry, IsIndex, blocks_of, has_info}
use Rattle.index_text.specs.Spelling.{changed_text, entry_text, index_text, info_text, store_kind_code}
use Rattle.index_text.specs.Sizes.{Fits, area_blocks, changed_length, entry_length, info_length, size_of, text_length}

name_length : (name : List ℕ) → IsName name → length name ≤ 255
name_length name is = leb-true _ _ (and_parts _ _ (and_parts _ (list_all in_name name) is).0).1

length-info_text : (kind : StoreKind) (i : Option FileInfo) → IsTrue (has_info kind i)
    → length (info_text i) ≡ info_length kind
length-info_text Keys None h = refl
length-info_text Keys (Some i) h = absurd cc
length-info_text Files None h = absurd cc
length-info_text Files (Some i) h = refl

length-changed_text : (format n : ℕ) → length (changed_text format n) ≡ changed_length format
length-changed_text format n = elim (eqb format 2) as (λ b. length (cond b (to_le_bytes w64 n) []) ≡ cond b 8 0)
    [ true ↦ refl | false ↦ refl ]

length-numbers : (xs : List ℕ) → length (flat_map (to_le_bytes w32) xs) ≡ 4 * length xs
length-numbers [] = refl
length-numbers (x ∷ xs) = omega (arith, length-numbers xs)

length-entry_text : (format : ℕ) (kind : StoreKind) (e : IndexEntry) → IsEntry format kind e
    → length (entry_text format e) ≡ entry_length format kind e
unfolding entry_text
length-entry_text format kind e is =
    simp length-append (omega (
      arith,
      length-info_text kind e.info is.info,
      length-changed_text format e.changed,
      length-numbers e.blocks,
      is.hash,
    ))

length-entries : (format : ℕ) (kind : StoreKind) (es : List IndexEntry) → AllByRecursion (IsEntry format kind) es
    → length (flat_map (entry_text format) es) ≡ sum_by (entry_length format kind) es
length-entries format kind [] each = refl
length-entries format kind (e ∷ es) each =
    rw (
      flat_map-cons,
      length-append,
      sum_by-cons,
      length-entry_text format kind e each.0,
      length-entries format kind es each.1,
    ) refl

-- the length of a text
pub length-index_text : (i : Index) → IsIndex i → length (index_text i) ≡ text_length i
unfolding index_text
length-index_text i rules = omega (arith, length-entries i.format i.kind i.entries rules.each)

-- ---- bounds

-- blocks of 256 bytes: the content and less than one block more
blocks_above : (len n : ℕ) → n ≡ blocks_for len → 256 * n ≤ len + 255
blocks_above len n e = omega arith

blocks_bound : (format : ℕ) (kind : StoreKind) (es : List IndexEntry) → AllByRecursion (IsEntry format kind) es
    → 256 * length (blocks_of es) ≤ size_of es + 255 * length es
blocks_bound format kind [] each = omega arith
blocks_bound format kind (e ∷ es) each =
    let rest = blocks_bound format kind es each.1 in
    let here = blocks_above e.len (length e.blocks) each.0.blocks in
    let sizes = sum_by-cons (λ (x : IndexEntry). length x.name + x.len) e es in
    rw (flat_map-cons, length-append) (omega (arith, rest, here, sizes))

pub blocks_are_few : (i : Index) → IsIndex i → length (blocks_of i.entries) ≤ size_of i.entries / 256 + length i.entries
blocks_are_few i rules = omega (arith, blocks_bound i.format i.kind i.entries rules.each)

info_length_bound : (kind : StoreKind) → info_length kind ≤ 26
info_length_bound Keys = omega arith
info_length_bound Files = omega arith

changed_length_bound : (format : ℕ) → changed_length format ≤ 8
changed_length_bound format = elim (eqb format 2) as (λ b. cond b 8 0 ≤ 8) [ true ↦ omega arith | false ↦ omega arith ]

entries_bound : (format : ℕ) (kind : StoreKind) (es : List IndexEntry) → AllByRecursion (IsEntry format kind) es
    → sum_by (entry_length format kind) es ≤ 326 * length es + 4 * length (blocks_of es)
entries_bound format kind [] each = omega arith
entries_bound format kind (e ∷ es) each =
    let rest = entries_bound format kind es each.1 in
    let name = name_length e.name each.0.name in
    let info = info_length_bound kind in
    let changed = changed_length_bound format in
    rw (sum_by-cons, flat_map-cons, length-append) (omega (arith, rest, name, info, changed))

size_within : (kind : StoreKind) (allowed : ℕ) (i : Index) → Fits kind allowed i → size_of i.entries ≤ allowed
size_within kind allowed i fits =
    let front = and_parts (eqb (store_kind_code i.kind) (store_kind_code kind) && leb (size_of i.entries) allowed)
    (list_all (λ b. ltb b (area_blocks allowed)) (blocks_of i.entries)) fits in
    leb-true _ _ (and_parts (eqb (store_kind_code i.kind) (store_kind_code kind))
    (leb (size_of i.entries) allowed) front.0).1

pub text_is_short : (kind : StoreKind) (allowed : ℕ) (i : Index) → IsIndex i → Fits kind allowed i → allowed ≤ 4194304
    → length (index_text i) ≤ 403460
text_is_short kind allowed i rules fits small =
    let blocks = blocks_bound i.format i.kind i.entries rules.each in
    let entries = entries_bound i.format i.kind i.entries rules.each in
    let within = size_within kind allowed i fits in
    rw (length-index_text i rules) (omega (arith, blocks, entries, rules.few, within, small))
