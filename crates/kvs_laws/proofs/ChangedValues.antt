-- The texts of two indexes that differ in the value of one key.
use Rattle.std.proofs.Common.{◌≡◌, ℕ, ◌*◌, List, [], ◌∷◌, ◌++◌, length, true, false, cond, eqb, inr}
use Rattle.std.proofs.Common.{refl, sym, ap, ◌∙◌, subst, ⊎_elim, arith}
use Rattle.std.specs.Prelude.{◌⊎◌}
use Rattle.std.specs.Int.{w32, w64, to_le_bytes}
use Rattle.std.specs.List.{flat_map, AllByRecursion, AllZip}
use Rattle.std.specs.List.Sorted.{IsStrictlySortedBy}
use Rattle.std.specs.declared.cmp.Ordering.TheVariants.{Less}
use Rattle.std.proofs.lemmas.Cmp.{nat_list_cmp_total, tied_itself}
use Rattle.std.proofs.lemmas.List.{length-append}
use Rattle.std.proofs.lemmas.List.Concat.{flat_map-cons}
use Rattle.std.proofs.lemmas.List.Elements.{length_all_zip}
use Rattle.per_base.specs.declared.elements.StoreKind.{StoreKind}
use Rattle.per_base.specs.Names.{name_cmp}
use Rattle.index_text.specs.declared.entries.Index.{Index}
use Rattle.index_text.specs.declared.entries.IndexEntry.{IndexEntry}
use Rattle.index_text.specs.Rules.{IsEntry, IsIndex, names_of}
use Rattle.index_text.specs.Sizes.{changed_length}
use Rattle.index_text.specs.Spelling.{changed_text, entry_text, header_text, index_text, info_text, name_text}
use Rattle.kvs_laws.specs.Costs.{ChangesValue, DifferWithin, IsOfValue, value_length}
use Rattle.kvs_laws.proofs.Spans.{after_same, before_same, all_differ, none_differ}

-- ---- one entry

-- what its value decides
abbrev ValueText : ℕ → IndexEntry → List ℕ
ValueText format e = changed_text format e.changed ++ (to_le_bytes w32 e.len
    ++ (e.hash ++ flat_map (to_le_bytes w32) e.blocks))

length-changed_text : (format n : ℕ) → length (changed_text format n) ≡ changed_length format
length-changed_text format n = elim (eqb format 2) as (λ b. length (cond b (to_le_bytes w64 n) []) ≡ cond b 8 0)
    [ true ↦ refl | false ↦ refl ]

length-numbers : (xs : List ℕ) → length (flat_map (to_le_bytes w32) xs) ≡ 4 * length xs
length-numbers [] = refl
length-numbers (x ∷ xs) = omega (arith, length-numbers xs)

length-value_text : (format blocks : ℕ) (e : IndexEntry) → length e.hash ≡ 32 → length e.blocks ≡ blocks
    → length (ValueText format e) ≡ value_length format blocks
length-value_text format blocks e hash is = simp length-append (omega (
  arith,
  length-changed_text format e.changed,
  length-numbers e.blocks,
  hash,
  is,
))

module _ (format blocks : ℕ) (name : List ℕ) (d e : IndexEntry) (is : IsOfValue name blocks d e)
    (hash_d : length d.hash ≡ 32) (hash_e : length e.hash ≡ 32) where
  same_front : name_text e.name ++ (info_text e.info ++ ValueText format e)
      ≡ name_text d.name ++ (info_text d.info ++ ValueText format e)
  same_front =
      ap (λ (n : List ℕ). name_text n ++ (info_text e.info ++ ValueText format e)) (is.new_name ∙ sym is.old_name)
      ∙ ap (λ i. name_text d.name ++ (info_text i ++ ValueText format e)) is.info

  value_differs : DifferWithin (value_length format blocks) (ValueText format d) (ValueText format e)
  value_differs =
      let one = length-value_text format blocks d hash_d is.old_blocks in
      let two = length-value_text format blocks e hash_e is.new_blocks in
      all_differ (value_length format blocks) (ValueText format d) (ValueText format e) (one ∙ sym two)
      (omega (arith, two))

  entry_differs : DifferWithin (value_length format blocks) (entry_text format d) (entry_text format e)
  unfolding entry_text
  entry_differs =
      let len = value_length format blocks in
      let v = ValueText format d in
      let w = ValueText format e in
      subst (DifferWithin len (name_text d.name ++ (info_text d.info ++ v))) (sym same_front)
      (after_same len (name_text d.name) (info_text d.info ++ v) (info_text d.info ++ w)
      (after_same len (info_text d.info) v w value_differs))

-- ---- all entries

abbrev AreValued : List ℕ → ℕ → List IndexEntry → List IndexEntry → Type 0
AreValued name blocks = AllZip (λ d e. (e ≡ d) ⊎ IsOfValue name blocks d e)

-- behind the entry of that name no other has it
rest_same : (name : List ℕ) (blocks : ℕ) (old new : List IndexEntry)
    → AllByRecursion (λ n. name_cmp name n ≡ Less) (names_of old) → AreValued name blocks old new → new ≡ old
rest_same name blocks [] [] above zip = refl
rest_same name blocks [] (e ∷ new) above zip = absurd zip
rest_same name blocks (d ∷ old) [] above zip = absurd zip
rest_same name blocks (d ∷ old) (e ∷ new) above zip =
    let rest = rest_same name blocks old new above.1 zip.1 in
    ⊎_elim
    (λ same. ap (λ (x : IndexEntry). x ∷ new) same ∙ ap (λ (xs : List IndexEntry). d ∷ xs) rest)
    (λ of_value.
    let less : name_cmp name name ≡ Less = ap (name_cmp name) (sym of_value.old_name) ∙ above.0 in
    let tied = tied_itself nat_list_cmp_total name in
    absurd cc)
    zip.0

entries_differ : (format blocks : ℕ) (kind : StoreKind) (name : List ℕ) (old new : List IndexEntry)
    → IsStrictlySortedBy name_cmp (names_of old) → AllByRecursion (IsEntry format kind) old
    → AllByRecursion (IsEntry format kind) new → AreValued name blocks old new
    → DifferWithin (value_length format blocks) (flat_map (entry_text format) old) (flat_map (entry_text format) new)
unfolding IsStrictlySortedBy
entries_differ format blocks kind name [] [] ascend are be zip = none_differ (value_length format blocks) [] [] refl
entries_differ format blocks kind name [] (e ∷ new) ascend are be zip = absurd zip
entries_differ format blocks kind name (d ∷ old) [] ascend are be zip = absurd zip
entries_differ format blocks kind name (d ∷ old) (e ∷ new) ascend are be zip =
    let len = value_length format blocks in
    let text = entry_text format in
    let rest = entries_differ format blocks kind name old new ascend.1 are.1 be.1 zip.1 in
    let was = flat_map text old in
    rw (flat_map-cons text d old, flat_map-cons text e new) (⊎_elim
    (λ same. subst (λ (x : IndexEntry). DifferWithin len (text d ++ was) (text x ++ flat_map text new)) (sym same)
    (after_same len (text d) was (flat_map text new) rest))
    (λ of_value.
    let above = subst (λ (n : List ℕ). AllByRecursion (λ m. name_cmp n m ≡ Less) (names_of old)) of_value.old_name
    ascend.0 in
    let equal : new ≡ old = rest_same name blocks old new above zip.1 in
    subst (λ (xs : List IndexEntry). DifferWithin len (text d ++ was) (text e ++ flat_map text xs)) (sym equal)
    (before_same len was (text d) (text e)
    (entry_differs format blocks name d e of_value are.0.hash be.0.hash)))
    zip.0)

-- ---- indexes

pub texts_differ : (name : List ℕ) (blocks : ℕ) (a b : Index) → IsIndex a → IsIndex b → ChangesValue name blocks a b
    → DifferWithin (value_length a.format blocks) (index_text a) (index_text b)
unfolding index_text
texts_differ name blocks a b is_a is_b changes =
    let len = value_length a.format blocks in
    let text = entry_text a.format in
    let front = header_text a.format a.kind (length a.entries) in
    let each = rw (changes.format, changes.kind) at is_b.each in
    let count = length_all_zip _ a.entries b.entries changes.entries in
    rw (changes.format, changes.kind, ← count)
    (after_same len front (flat_map text a.entries) (flat_map text b.entries)
    (entries_differ a.format blocks a.kind name a.entries b.entries is_a.names_ascend is_a.each each changes.entries))

-- ---- twice the same key

one_more : (name : List ℕ) (blocks : ℕ) (d e f : IndexEntry) → (e ≡ d) ⊎ IsOfValue name blocks d e
    → (f ≡ e) ⊎ IsOfValue name blocks e f → (f ≡ d) ⊎ IsOfValue name blocks d f
one_more name blocks d e f one two = ⊎_elim
    (λ same. subst (λ (x : IndexEntry). (f ≡ x) ⊎ IsOfValue name blocks x f) same two)
    (λ first. ⊎_elim
    (λ same. inr (subst (λ (x : IndexEntry). IsOfValue name blocks d x) (sym same) first))
    (λ second. inr (record {
      old_name = first.old_name;
      new_name = second.new_name;
      info = second.info ∙ first.info;
      old_blocks = first.old_blocks;
      new_blocks = second.new_blocks;
    }))
    two)
    one

more : (name : List ℕ) (blocks : ℕ) (a b c : List IndexEntry) → AreValued name blocks a b → AreValued name blocks b c
    → AreValued name blocks a c
more name blocks [] [] c one two = two
more name blocks [] (e ∷ b) c one two = absurd one
more name blocks (d ∷ a) [] c one two = absurd one
more name blocks (d ∷ a) (e ∷ b) [] one two = absurd two
more name blocks (d ∷ a) (e ∷ b) (f ∷ c) one two =
    (one_more name blocks d e f one.0 two.0, more name blocks a b c one.1 two.1)

pub twice : (name : List ℕ) (blocks : ℕ) (a b c : Index) → ChangesValue name blocks a b → ChangesValue name blocks b c
    → ChangesValue name blocks a c
twice name blocks a b c one two = record {
  format = two.format ∙ one.format;
  kind = two.kind ∙ one.kind;
  entries = more name blocks a.entries b.entries c.entries one.entries two.entries;
}
