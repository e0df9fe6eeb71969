-- What a set with exactly the blocks of an index has, and how many others are free.
use Rattle.std.proofs.Common.{◌≡◌, ℕ, suc, ◌+◌, ◌/◌, ◌≤◌, List, [], ◌∷◌, length, get_or, Bool, false, eqb, ◌∙◌, ◌-◌}
use Rattle.std.proofs.Common.{◌*◌, ap, sym, refl, arith, length-append}
use Rattle.std.specs.Prelude.{nat_le, nat_lt, ◌&&◌}
use Rattle.std.specs.List.{AllByRecursion, list_all}
use Rattle.std.proofs.lemmas.Bool.{and_parts, leb-true}
use Rattle.std.proofs.lemmas.List.{get_or_append_left, get_or-append_right, get_or_default}
use Rattle.std.proofs.lemmas.List.Sums.{sum_by-cons}
use Rattle.block_files.specs.BlockSets.{free_of}
use Rattle.index_text.specs.declared.entries.Index.{Index}
use Rattle.index_text.specs.declared.entries.IndexEntry.{IndexEntry}
use Rattle.index_text.specs.Rules.{IsEntry, IsIndex, blocks_of}
use Rattle.index_text.specs.Sizes.{Fits, size_of, area_blocks}
use Rattle.index_text.specs.Spelling.{store_kind_code}
use Rattle.per_base.specs.declared.elements.StoreKind.{StoreKind}
use Rattle.element_laws.specs.lemmas.Copies.{Contains_named}
use Rattle.element_store.specs.Plans.{HasAll}
use Rattle.element_store.specs.Stores.{AreTaken}

-- ---- it has each block of each entry

split_all : (set : List Bool) (es : List IndexEntry) → HasAll set (blocks_of es)
    → AllByRecursion (λ (e : IndexEntry). HasAll set e.blocks) es
split_all set [] all = tt
split_all set (e ∷ es) all =
    let long = length-append e.blocks (blocks_of es) in (
      λ i lt. ap (λ (b : ℕ). get_or set b false) (sym (get_or_append_left e.blocks (blocks_of es) 0 i lt))
          ∙ all i (omega (arith, lt, long)),
      split_all set es (λ i lt.
          let at = get_or-append_right e.blocks (blocks_of es) (length e.blocks) (length e.blocks + i) 0 refl
          (omega arith) in
          let back : length e.blocks + i - length e.blocks ≡ i = omega arith in
          ap (λ (b : ℕ). get_or set b false) (sym (at ∙ ap (λ (k : ℕ). get_or (blocks_of es) k 0) back))
          ∙ all (length e.blocks + i) (omega (arith, lt, long))),
    )

pub taken_all : (blocks : ℕ) (es : List IndexEntry) (set : List Bool) → AreTaken blocks es set
    → AllByRecursion (λ (e : IndexEntry). HasAll set e.blocks) es
taken_all blocks es set taken = split_all set es (λ i lt.
    taken.exact (get_or (blocks_of es) i 0)
    ∙ Contains_named (blocks_of es) (get_or (blocks_of es) i 0)
    (i, lt, get_or_default (blocks_of es) i (get_or (blocks_of es) i 0) 0 lt))

-- ---- and leaves enough for as much again

few_blocks : (format : ℕ) (kind : StoreKind) (es : List IndexEntry) → AllByRecursion (IsEntry format kind) es
    → length (blocks_of es) ≤ size_of es / 256 + length es
few_blocks format kind [] each = omega arith
few_blocks format kind (e ∷ es) each =
    let rest = few_blocks format kind es each.1 in
    let all = length-append e.blocks (blocks_of es) in
    let one = each.0.blocks in
    let size = sum_by-cons (λ (x : IndexEntry). length x.name + x.len) e es in
    few (length e.name) e.len (size_of es) (length es) (length (blocks_of es)) (length e.blocks)
    (length (blocks_of (e ∷ es))) (size_of (e ∷ es)) all one size rest
  where
    few : (n b s k x y z t : ℕ) → z ≡ y + x → y ≡ (b + 255) / 256 → t ≡ n + b + s → x ≤ s / 256 + k
        → z ≤ t / 256 + suc k
    few n b s k x y z t all one size rest = omega (arith, all, one, size, rest)

fits_size : (kind : StoreKind) (allowed : ℕ) (index : Index) → Fits kind allowed index → size_of index.entries ≤ allowed
fits_size kind allowed index fit =
    let small = and_parts (eqb (store_kind_code index.kind) (store_kind_code kind)
    && nat_le (size_of index.entries) allowed)
    (list_all (λ b. nat_lt b (area_blocks allowed)) (blocks_of index.entries)) fit in
    leb-true (size_of index.entries) allowed (and_parts (eqb (store_kind_code index.kind) (store_kind_code kind))
    (nat_le (size_of index.entries) allowed) small.0).1

pub taken_room : (kind : StoreKind) (allowed : ℕ) (index : Index) (set : List Bool)
    → AreTaken (area_blocks allowed) index.entries set → IsIndex index → Fits kind allowed index
    → allowed / 256 + 1024 ≤ free_of set
taken_room kind allowed index set taken rules fit =
    let many = few_blocks index.format index.kind index.entries rules.each in
    let size = fits_size kind allowed index fit in
    let few = rules.few in
    let free = taken.free in
    room (size_of index.entries) (length index.entries) (length (blocks_of index.entries)) (free_of set) many size few
    free
  where
    room : (s k x f : ℕ) → x ≤ s / 256 + k → s ≤ allowed → k ≤ 1024 → 2 * (allowed / 256 + 1024) ≤ f + x
        → allowed / 256 + 1024 ≤ f
    room s k x f many size few free = omega (arith, many, size, few, free)
