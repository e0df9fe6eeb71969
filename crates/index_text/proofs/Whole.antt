-- Entries, the header and whole texts are read exactly.
use Rattle.std.proofs.Common.{◌≡◌, ℕ, ◌^◌, ◌<◌, ◌≤◌, eqb, leb, List, [], ◌∷◌, ◌++◌, length, Some, None, Result, Ok, Err}
use Rattle.std.proofs.Common.{refl, sym, ap, subst, take, ◌∙◌, append_assoc, arith}
use Rattle.std.specs.Prelude.{◌&&◌, IfOk, IsTrue}
use Rattle.std.specs.Int.{w16, w32, to_le_bytes}
use Rattle.std.specs.List.{flat_map, AllByRecursion}
use Rattle.std.proofs.lemmas.Bool.{and_parts, and_from, eqb-true, leb-true, le-leb}
use Rattle.std.proofs.lemmas.List.{append-nil, nil_from_length, take_all}
use Rattle.per_base.specs.declared.elements.StoreKind.{StoreKind}
use Rattle.index_text.specs.declared.entries.IndexEntry.{IndexEntry}
use Rattle.index_text.specs.declared.entries.Index.{Index}
use Rattle.index_text.specs.declared.reading.Header.{Header}
use Rattle.index_text.specs.declared.errors.IndexError.{IndexError}
use Rattle.index_text.specs.declared.errors.IndexError.TheVariants as errors
use Rattle.index_text.specs.Rules.{EntriesInRange, EntryInRange, IsEntry, IsIndex, blocks_of, is_format, names_of}
use Rattle.index_text.specs.Spelling.{changed_text, entry_text, header_text, index_text, info_text, store_kind_code}
use Rattle.index_text.specs.Spelling.{name_text}
use Rattle.per_base.specs.Fields.{AreBytes, byte_at, bytes_at, many, number_at}
use Rattle.index_text.specs.Reading.{Gives, are_distinct, ascends, changed_at, entry_at, header_at, index_of, info_at}
use Rattle.index_text.specs.Reading.{coded_kind, len_at, name_at}
use Rattle.per_base.specs.FieldLaws.{IsReader, Takes, Takes-then, bind_some, byte_reader, bytes_reader}
use Rattle.per_base.specs.FieldLaws.{many_reader, moved, number_reader, only_some, only_true, some_is, wide_16, wide_32}
use Rattle.per_base.specs.Contents.{blocks_for}
use Rattle.index_text.specs.lemmas.Order.{apart_from_test, ascends_from_sorted, sorted_from_ascends, test_from_apart}
use Rattle.index_text.specs.lemmas.FieldReaders.{changed_reader, info_reader, coded_kind_again, kind_back, len_reader}
use Rattle.index_text.specs.lemmas.FieldReaders.{name_reader}

-- ---- an entry

numbers : (n : ℕ) → IsReader (many (number_at w32) n) (flat_map (to_le_bytes w32))
    (λ xs. (length xs ≡ n) × AllByRecursion (λ x. x < 2 ^ 32) xs)
numbers n = many_reader (number_at w32) (to_le_bytes w32) (λ x. x < 2 ^ 32) (number_reader w32 (2 ^ 32) wide_32) n

abbrev IsGoodEntry : ℕ → StoreKind → IndexEntry → Type 0
IsGoodEntry format kind e = IsEntry format kind e × EntryInRange e

entry_takes : (format : ℕ) (kind : StoreKind) (bytes : List ℕ) (x : IndexEntry) (rest : List ℕ) → AreBytes bytes
    → entry_at format kind bytes ≡ Some (x, rest) → Takes bytes (entry_text format x) rest × IsGoodEntry format kind x
unfolding entry_at entry_text
entry_takes format kind bytes x rest fits e =
    let name = bind_some (name_at bytes) _ (x, rest) e in
    let info = bind_some (info_at kind name.0.1) _ (x, rest) name.2 in
    let changed = bind_some (changed_at format info.0.1) _ (x, rest) info.2 in
    let len = bind_some (len_at kind changed.0.1) _ (x, rest) changed.2 in
    let hash = bind_some (bytes_at 32 len.0.1) _ (x, rest) len.2 in
    let blocks = bind_some (many (number_at w32) (blocks_for len.0.0) hash.0.1) _ (x, rest) hash.2 in
    let t0 = name_reader.takes bytes name.0.0 name.0.1 fits name.1 in
    let t1 = (info_reader kind).takes name.0.1 info.0.0 info.0.1 t0.0.rest_fits info.1 in
    let t2 = (changed_reader format).takes info.0.1 changed.0.0 changed.0.1 t1.0.rest_fits changed.1 in
    let t3 = (len_reader kind).takes changed.0.1 len.0.0 len.0.1 t2.0.rest_fits len.1 in
    let t4 = (bytes_reader 32).takes len.0.1 hash.0.0 hash.0.1 t3.0.rest_fits hash.1 in
    let t5 = (numbers (blocks_for len.0.0)).takes hash.0.1 blocks.0.0 blocks.0.1 t4.0.rest_fits blocks.1 in
    let from_blocks : List ℕ = flat_map (to_le_bytes w32) blocks.0.0 in
    let from_hash : List ℕ = hash.0.0 ++ from_blocks in
    let from_len : List ℕ = to_le_bytes w32 len.0.0 ++ from_hash in
    let from_changed : List ℕ = changed_text format changed.0.0 ++ from_len in
    let from_info : List ℕ = info_text info.0.0 ++ from_changed in
    let w4 : Takes len.0.1 from_hash blocks.0.1 = Takes-then {a = len.0.1} {x = hash.0.0} {b = hash.0.1}
    {y = from_blocks} {c = blocks.0.1} t4.0 t5.0 in
    let w3 : Takes changed.0.1 from_len blocks.0.1 = Takes-then {a = changed.0.1} {x = to_le_bytes w32 len.0.0}
    {b = len.0.1} {y = from_hash} {c = blocks.0.1} t3.0 w4 in
    let w2 : Takes info.0.1 from_changed blocks.0.1 = Takes-then {a = info.0.1} {x = changed_text format changed.0.0}
    {b = changed.0.1} {y = from_len} {c = blocks.0.1} t2.0 w3 in
    let w1 : Takes name.0.1 from_info blocks.0.1 = Takes-then {a = name.0.1} {x = info_text info.0.0} {b = info.0.1}
    {y = from_changed} {c = blocks.0.1} t1.0 w2 in
    let whole : Takes bytes (name_text name.0.0 ++ from_info) blocks.0.1 =
    Takes-then {a = bytes} {x = name_text name.0.0} {b = name.0.1} {y = from_info} {c = blocks.0.1} t0.0 w1 in
    let made : IndexEntry × List ℕ = (
      record {
        name = name.0.0;
        info = info.0.0;
        changed = changed.0.0;
        len =
            len.0.0;
        hash = hash.0.0;
        blocks = blocks.0.0;
      },
      blocks.0.1,
    ) in
    let good : IsGoodEntry format kind made.0 = (
      record {
        name = t0.1;
        info = t1.1.0;
        changed = t2.1.0;
        len =
            t3.1;
        hash = t4.1;
        blocks = t5.1.0;
      },
      record { info = t1.1.1; changed = t2.1.1; blocks = t5.1.1 },
    ) in
    moved (λ (p : IndexEntry × List ℕ). Takes bytes (entry_text format p.0) p.1 × IsGoodEntry format kind p.0) made
    (x, rest) blocks.2 (whole, good)

regroup_6 : (a b c d e f r : List ℕ) → (a ++ (b ++ (c ++ (d ++ (e ++ f))))) ++ r
    ≡ a ++ (b ++ (c ++ (d ++ (e ++ (f ++ r)))))
regroup_6 a b c d e f r = simp append_assoc

entry_again : (format : ℕ) (kind : StoreKind) (x : IndexEntry) (rest : List ℕ) → IsGoodEntry format kind x
    → entry_at format kind (entry_text format x ++ rest) ≡ Some (x, rest)
unfolding entry_at entry_text
entry_again format kind x rest good =
    let blocks : List ℕ = flat_map (to_le_bytes w32) x.blocks in
    let from_blocks : List ℕ = blocks ++ rest in
    let from_hash : List ℕ = x.hash ++ from_blocks in
    let from_len : List ℕ = to_le_bytes w32 x.len ++ from_hash in
    let from_changed : List ℕ = changed_text format x.changed ++ from_len in
    let from_info : List ℕ = info_text x.info ++ from_changed in
    let name = name_reader.again x.name from_info good.0.name in
    let info = (info_reader kind).again x.info from_changed (good.0.info, good.1.info) in
    let changed = (changed_reader format).again x.changed from_len (good.0.changed, good.1.changed) in
    let len = (len_reader kind).again x.len from_hash good.0.len in
    let hash = (bytes_reader 32).again x.hash from_blocks good.0.hash in
    let numbers_again = (numbers (blocks_for x.len)).again x.blocks rest (good.0.blocks, good.1.blocks) in
    ap (entry_at format kind) (regroup_6 (name_text x.name) (info_text x.info) (changed_text format x.changed)
    (to_le_bytes w32 x.len) x.hash blocks rest)
    ∙ rw (name, info, changed, len, hash, numbers_again) refl

entry_reader : (format : ℕ) (kind : StoreKind) → IsReader (entry_at format kind) (entry_text format)
    (IsGoodEntry format kind)
entry_reader format kind = record { takes = entry_takes format kind; again = entry_again format kind }

entries_reader : (format : ℕ) (kind : StoreKind) (n : ℕ)
    → IsReader (many (entry_at format kind) n) (flat_map (entry_text format))
    (λ es. (length es ≡ n) × AllByRecursion (IsGoodEntry format kind) es)
entries_reader format kind n = many_reader (entry_at format kind) (entry_text format) (IsGoodEntry format kind)
    (entry_reader format kind) n

-- each entry is an entry, and each is in range
parts_of : (format : ℕ) (kind : StoreKind) (es : List IndexEntry) → AllByRecursion (IsGoodEntry format kind) es
    → AllByRecursion (IsEntry format kind) es × AllByRecursion EntryInRange es
parts_of format kind [] good = (tt, tt)
parts_of format kind (x ∷ es) good = let rest = parts_of format kind es good.1 in
    ((good.0.0, rest.0), (good.0.1, rest.1))

from_parts : (format : ℕ) (kind : StoreKind) (es : List IndexEntry) → AllByRecursion (IsEntry format kind) es
    → AllByRecursion EntryInRange es → AllByRecursion (IsGoodEntry format kind) es
from_parts format kind [] each range = tt
from_parts format kind (x ∷ es) each range = ((each.0, range.0), from_parts format kind es each.1 range.1)

-- ---- the header

header_takes : (bytes : List ℕ) (h : Header) (rest : List ℕ) → AreBytes bytes → header_at bytes ≡ Some (h, rest)
    → Takes bytes (header_text h.format h.kind h.count) rest × (IsTrue (is_format h.format) × (h.count ≤ 1024))
unfolding header_at
header_takes bytes h rest fits e =
    let format = bind_some (byte_at bytes) _ (h, rest) e in
    let code = bind_some (byte_at format.0.1) _ (h, rest) format.2 in
    let kind = bind_some (coded_kind code.0.0) _ (h, rest) code.2 in
    let count = bind_some (number_at w16 code.0.1) _ (h, rest) kind.2 in
    let made : Header × List ℕ = (record { format = format.0.0; kind = kind.0; count = count.0.0 }, count.0.1) in
    let passed = only_some (is_format format.0.0 && leb count.0.0 1024) made (h, rest) count.2 in
    let tests = and_parts (is_format format.0.0) (leb count.0.0 1024) passed.0 in
    let t0 = byte_reader.takes bytes format.0.0 format.0.1 fits format.1 in
    let t1 = byte_reader.takes format.0.1 code.0.0 code.0.1 t0.0.rest_fits code.1 in
    let t2 = (number_reader w16 (2 ^ 16) wide_16).takes code.0.1 count.0.0 count.0.1 t1.0.rest_fits count.1 in
    let kind_is : Takes format.0.1 (store_kind_code kind.0 ∷ []) code.0.1 =
    subst (λ (n : ℕ). Takes format.0.1 (n ∷ []) code.0.1) (kind_back code.0.0 kind.0 kind.1) t1.0 in
    let whole = Takes-then t0.0 (Takes-then kind_is t2.0) in
    subst (λ (p : Header × List ℕ). Takes bytes (header_text p.0.format p.0.kind p.0.count) p.1
    × (IsTrue (is_format p.0.format) × (p.0.count ≤ 1024))) {x = made} passed.1
    (whole, (tests.0, leb-true count.0.0 1024 tests.1))

header_again : (h : Header) (rest : List ℕ) → IsTrue (is_format h.format) → h.count ≤ 1024
    → header_at (header_text h.format h.kind h.count ++ rest) ≡ Some (h, rest)
unfolding header_at
header_again h rest known few =
    let small : h.count < 2 ^ 16 = omega arith in
    rw (coded_kind_again h.kind, (number_reader w16 (2 ^ 16) wide_16).again h.count rest small)
    (only_true (is_format h.format && leb h.count 1024) (h, rest) (and_from _ _ known (le-leb _ _ few)))

-- ---- the whole text

-- a text with nothing after it
ends_there : (bytes text rest : List ℕ) → Takes bytes text rest → rest ≡ [] → bytes ≡ text
ends_there bytes text rest took nothing = took.parts ∙ ap (λ (r : List ℕ). text ++ r) nothing ∙ append-nil text

-- what is read keeps the rules, and is spelled so
pub index_takes : (text : List ℕ) (i : Index) → AreBytes text → index_of text ≡ Some i
    → (IsIndex i × EntriesInRange i) × (text ≡ index_text i)
unfolding index_of index_text
index_takes text i fits e =
    let header = bind_some (header_at text) _ i e in
    let format = header.0.0.format in
    let kind = header.0.0.kind in
    let entries = bind_some (many (entry_at format kind) header.0.0.count header.0.1) _ i header.2 in
    let es = entries.0.0 in
    let made : Index = record { format = format; kind = kind; entries = es } in
    let passed = only_some (eqb (length entries.0.1) 0 && ascends (names_of es) && are_distinct (blocks_of es)) made i
    entries.2 in
    let tests = and_parts (eqb (length entries.0.1) 0 && ascends (names_of es)) (are_distinct (blocks_of es)) passed.0
    in
    let front_tests = and_parts (eqb (length entries.0.1) 0) (ascends (names_of es)) tests.0 in
    let t0 = header_takes text header.0.0 header.0.1 fits header.1 in
    let t1 = (entries_reader format kind header.0.0.count).takes header.0.1 es entries.0.1 t0.0.rest_fits entries.1 in
    let parts = parts_of format kind es t1.1.1 in
    let nothing : entries.0.1 ≡ [] = nil_from_length entries.0.1 (eqb-true (length entries.0.1) 0 front_tests.0) in
    let both : Takes text (header_text format kind header.0.0.count ++ flat_map (entry_text format) es) entries.0.1 =
    Takes-then t0.0 t1.0 in
    let whole : text ≡ header_text format kind (length es) ++ flat_map (entry_text format) es =
    rw t1.1.0 (ends_there text _ entries.0.1 both nothing) in
    let rules : IsIndex made = record {
      known_format = t0.1.0;
      few = omega (arith, t0.1.1, t1.1.0);
      each = parts.0;
      names_ascend = sorted_from_ascends (names_of es) front_tests.1;
      blocks_apart = apart_from_test (blocks_of es) tests.1;
    } in
    subst (λ (j : Index). (IsIndex j × EntriesInRange j) × (text ≡ index_text j)) {x = made} passed.1
    ((rules, parts.1), whole)

-- what is spelled is read
pub index_again : (i : Index) → IsIndex i → EntriesInRange i → index_of (index_text i) ≡ Some i
unfolding index_of index_text
index_again i rules range =
    let header : Header = record { format = i.format; kind = i.kind; count = length i.entries } in
    let entries_text : List ℕ = flat_map (entry_text i.format) i.entries in
    let entries : many (entry_at i.format i.kind) (length i.entries) entries_text ≡ Some (i.entries, []) =
    ap (many (entry_at i.format i.kind) (length i.entries)) (sym (append-nil entries_text))
    ∙ (entries_reader i.format i.kind (length i.entries)).again i.entries []
    (refl, from_parts i.format i.kind i.entries rules.each range) in
    let tests = and_from (ascends (names_of i.entries)) (are_distinct (blocks_of i.entries))
    (ascends_from_sorted (names_of i.entries) rules.names_ascend)
    (test_from_apart (blocks_of i.entries) rules.blocks_apart) in
    rw (header_again header entries_text rules.known_format rules.few, entries)
    (only_true (ascends (names_of i.entries) && are_distinct (blocks_of i.entries)) i tests)

-- ---- what follows

-- a text has one index
pub one_index : (i j : Index) → IsIndex i → EntriesInRange i → IsIndex j → EntriesInRange j → index_text i
    ≡ index_text j → i ≡ j
one_index i j i_rules i_range j_rules j_range same =
    some_is i j (sym (index_again i i_rules i_range) ∙ ap index_of same ∙ index_again j j_rules j_range)

pub read_keeps_rules : (text : List ℕ) (r : Result Index IndexError) → AreBytes text → Gives (λ i. i) r (index_of text)
    → IfOk r (λ i. IsIndex i × EntriesInRange i)
read_keeps_rules text (Ok i) fits given = (index_takes text i fits given).0
read_keeps_rules text (Err e) fits given = tt

pub read_is_spelled : (text : List ℕ) (r : Result Index IndexError) → AreBytes text → Gives (λ i. i) r (index_of text)
    → IfOk r (λ i. text ≡ index_text i)
read_is_spelled text (Ok i) fits given = (index_takes text i fits given).1
read_is_spelled text (Err e) fits given = tt

-- a loop that has gone over all entries
pub all_written : (es fs : List IndexEntry) (n : ℕ) → length es ≤ n → es ≡ fs → take n es ≡ fs
all_written es fs n whole same = take_all n es whole ∙ same

-- what is refused is the text of no index
pub refused_is_none : (text : List ℕ) (r : Result Index IndexError) → Gives (λ i. i) r (index_of text)
    → r ≡ Err errors.NotAnIndex → (i : Index) → IsIndex i → EntriesInRange i → text ≡ index_text i → ⊥
refused_is_none text (Ok j) given refused i rules range same = absurd cc
refused_is_none text (Err errors.OutOfMemory) given refused i rules range same = absurd cc
refused_is_none text (Err errors.NotAnIndex) given refused i rules range same =
    let read : index_of text ≡ Some i = ap index_of same ∙ index_again i rules range in
    let none : index_of text ≡ None = given in
    absurd cc
