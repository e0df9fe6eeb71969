-- What is read by an index that fits is a view.
use Rattle.std.proofs.Common.{◌≡◌, ℕ, zero, suc, ◌+◌, ◌<◌, ◌≤◌, List, [], ◌∷◌, ◌++◌, length, get_or, map, Bool, true}
use Rattle.std.proofs.Common.{false, eqb, cond, Option, IsTrue, refl, sym, ap, ◌∙◌, subst, arith, length-append, ⊎_elim}
use Rattle.std.specs.Prelude.{nat_le, nat_lt, ◌&&◌}
use Rattle.std.specs.List.{AllByRecursion, AllZip, list_all}
use Rattle.std.specs.List.Sorted.{IsStrictlySortedBy}
use Rattle.std.proofs.lemmas.Bool.{and_parts, leb-true, cases_lt}
use Rattle.std.proofs.lemmas.List.{get_or_append_left, get_or_push, append-nil}
use Rattle.std.proofs.lemmas.List.Sums.{sum_by-cons}
use Rattle.per_base.specs.declared.elements.StoreKind.{StoreKind}
use Rattle.per_base.specs.declared.elements.StoreKind.TheVariants.{Keys, Files}
use Rattle.per_base.specs.declared.elements.Entry.{Entry}
use Rattle.per_base.specs.declared.elements.FileInfo.{FileInfo}
use Rattle.per_base.specs.Names.{IsName, name_cmp}
use Rattle.per_base.specs.Contents.{HasLength}
use Rattle.guarded_cell.specs.Held.{copies_that}
use Rattle.block_files.specs.BlockSets.{Ascend}
use Rattle.block_files.specs.Contents.{AreCopies}
use Rattle.index_text.specs.declared.entries.Index.{Index}
use Rattle.index_text.specs.declared.entries.IndexEntry.{IndexEntry}
use Rattle.index_text.specs.Rules.{IsEntry, IsIndex, has_info, names_of, blocks_of}
use Rattle.index_text.specs.Sizes.{Fits, size_of, area_blocks}
use Rattle.index_text.specs.Spelling.{store_kind_code}
use Rattle.element_state.specs.declared.shapes.Shape.{Shape}
use Rattle.element_state.specs.declared.shapes.View.{View}
use Rattle.element_state.specs.Views.{store_lacking, lacks_number}
use Rattle.element_state.specs.Chosen.{IsReadBy}
use Rattle.element_state.specs.Conditions as conditions
use Rattle.element_state.specs.Read.{IsEntryOf, IsView}
use Rattle.element_state.specs.lemmas.Entrywise.{length_zip}

-- ---- an index that fits

same_kind : (a b : StoreKind) → eqb (store_kind_code a) (store_kind_code b) ≡ true → a ≡ b
same_kind Keys Keys e = refl
same_kind Keys Files e = absurd cc
same_kind Files Keys e = absurd cc
same_kind Files Files e = refl

module _ (kind : StoreKind) (allowed : ℕ) (index : Index) (fit : Fits kind allowed index) where
  fit_parts : IsTrue (eqb (store_kind_code index.kind) (store_kind_code kind))
      × IsTrue (nat_le (size_of index.entries) allowed)
  fit_parts =
      let front = and_parts (eqb (store_kind_code index.kind) (store_kind_code kind)
      && nat_le (size_of index.entries) allowed)
      (list_all (λ b. nat_lt b (area_blocks allowed)) (blocks_of index.entries)) fit in
      and_parts (eqb (store_kind_code index.kind) (store_kind_code kind))
      (nat_le (size_of index.entries) allowed) front.0

  pub fit_kind : index.kind ≡ kind
  fit_kind = same_kind index.kind kind fit_parts.0

  pub fit_size : size_of index.entries ≤ allowed
  fit_size = leb-true (size_of index.entries) allowed fit_parts.1

-- ---- copies that pass a test

pub record AreNumbers (copies : ℕ) (numbers : List ℕ) : Type 0 where
  pub copies_are : AreCopies copies numbers
  pub ascend : Ascend numbers

pub no_numbers : (copies : ℕ) → AreNumbers copies []
no_numbers copies = record {
  copies_are = λ i lt. absurd (omega (arith, lt));
  ascend =
      λ i j less lt. absurd (omega (arith, lt));
}

numbers_on : (n : ℕ) (xs : List ℕ) → AreNumbers n xs → AreNumbers (suc n) xs
numbers_on n xs are = record {
  copies_are = λ i lt. (let at =
      are.copies_are i lt in (omega (arith, at.0), omega (arith, at.1)));
  ascend = are.ascend;
}

module _ (n : ℕ) (xs : List ℕ) (are : AreNumbers n xs) where
  abbrev more : List ℕ
  more = xs ++ (n + 1) ∷ []

  long : length more ≡ length xs + 1
  long = length-append xs ((n + 1) ∷ [])

  before : (i : ℕ) → i < length xs → get_or more i 0 ≡ get_or xs i 0
  before i lt = get_or_append_left xs ((n + 1) ∷ []) 0 i lt

  last : (i : ℕ) → length xs ≡ i → get_or more i 0 ≡ n + 1
  last i e = get_or_push xs (n + 1) 0 i e

  copies_last : AreCopies (suc n) more
  copies_last i lt = ⊎_elim
      (λ less. (let e = before i less in let at = are.copies_are i less in
      (omega (arith, e, at.0), omega (arith, e, at.1))))
      (λ end. (let e = last i (omega (arith, end, lt, long)) in (omega (arith, e), omega (arith, e))))
      (cases_lt i (length xs))

  ascend_last : Ascend more
  ascend_last i j less lt = ⊎_elim
      (λ early. (let e = before i (omega (arith, less, early)) in let f = before j early in let up =
      are.ascend i j less early in omega (arith, e, f, up)))
      (λ end. (
      let inside : i < length xs = omega (arith, less, lt, long) in
      let e = before i inside in
      let f = last j (omega (arith, end, lt, long)) in
      let at = (are.copies_are i inside).1 in omega (arith, e, f, at)))
      (cases_lt j (length xs))

  numbers_last : AreNumbers (suc n) (xs ++ (n + 1) ∷ [])
  numbers_last = record { copies_are = copies_last; ascend = ascend_last }

one_more : (n : ℕ) (xs : List ℕ) (b : Bool) → AreNumbers n xs → AreNumbers (suc n) (xs ++ cond b ((n + 1) ∷ []) [])
one_more n xs true are = numbers_last n xs are
one_more n xs false are = subst (AreNumbers (suc n)) (sym (append-nil xs)) (numbers_on n xs are)

pub numbers_passing : (test : ℕ → Bool) (copies : ℕ) → AreNumbers copies (copies_that test copies)
numbers_passing test zero = no_numbers zero
numbers_passing test (suc n) = one_more n (copies_that test n) (test n) (numbers_passing test n)

-- ---- the view

module _ (shape : Shape) where
  entry_of : (format : ℕ) (e : IndexEntry) (f : Entry) → IsEntry format shape.kind e → IsReadBy shape.place.copies e f
      → IsEntryOf shape f
  entry_of format e f is read = record {
    name = subst IsName (sym read.name) is.name;
    info = subst (λ (i : Option FileInfo). IsTrue (has_info shape.kind i)) (sym read.info) is.info;
    len = (let same = read.len in let small = is.len in omega (arith, same, small));
    content = subst (λ (n : ℕ). HasLength f.content n) (sym read.len) read.value;
    lacking = read.lacking;
    ascend = read.ascend;
  }

  entries_of : (format : ℕ) (es : List IndexEntry) (fs : List Entry) → AllByRecursion (IsEntry format shape.kind) es
      → AllZip (IsReadBy shape.place.copies) es fs
      → AllByRecursion (IsEntryOf shape) fs
  entries_of format [] [] each zip = tt
  entries_of format [] (f ∷ fs) each zip = absurd zip
  entries_of format (e ∷ es) [] each zip = absurd zip
  entries_of format (e ∷ es) (f ∷ fs) each zip = (
    entry_of format e f each.0 zip.0,
    entries_of format es fs each.1 zip.1,
  )

  names_are : (es : List IndexEntry) (fs : List Entry) → AllZip (IsReadBy shape.place.copies) es fs
      → map (λ (f : Entry). f.name) fs ≡ names_of es
  names_are [] [] zip = refl
  names_are [] (f ∷ fs) zip = absurd zip
  names_are (e ∷ es) [] zip = absurd zip
  names_are (e ∷ es) (f ∷ fs) zip =
      ap (λ (n : List ℕ). n ∷ map (λ (x : Entry). x.name) fs) zip.0.name
      ∙ ap (λ (ns : List (List ℕ)). e.name ∷ ns) (names_are es fs zip.1)

  sizes_are : (es : List IndexEntry) (fs : List Entry) → AllZip (IsReadBy shape.place.copies) es fs
      → conditions.size_of fs ≡ size_of es
  sizes_are [] [] zip = refl
  sizes_are [] (f ∷ fs) zip = absurd zip
  sizes_are (e ∷ es) [] zip = absurd zip
  sizes_are (e ∷ es) (f ∷ fs) zip =
      let one = sum_by-cons (λ (x : Entry). length x.name + x.len) f fs in
      let two = sum_by-cons (λ (x : IndexEntry). length x.name + x.len) e es in
      let rest = sizes_are es fs zip.1 in
      let name = ap length zip.0.name in
      let len = zip.0.len in
      omega (arith, one, two, rest, name, len)

  -- what was read by an index that fits
  pub view_read : (index : Index) (v : View) → IsIndex index → Fits shape.kind shape.allowed index
      → AllZip (IsReadBy shape.place.copies) index.entries v.entries
      → 1 ≤ v.generation → AreNumbers shape.place.copies v.lacking → IsView shape v
  view_read index v rules fit read positive are =
      let same = fit_kind shape.kind shape.allowed index fit in
      let each = subst (λ (k : StoreKind). AllByRecursion (IsEntry index.format k) index.entries) same rules.each in
      let many = length_zip (IsReadBy shape.place.copies) index.entries v.entries read in
      let few = rules.few in
      let size = sizes_are index.entries v.entries read in
      let small = fit_size shape.kind shape.allowed index fit in
      record {
        generation = positive;
        each = entries_of index.format index.entries v.entries each read;
        names_ascend = subst (IsStrictlySortedBy name_cmp) (sym (names_are index.entries v.entries read))
            rules.names_ascend;
        few = omega (arith, many, few);
        small = omega (arith, size, small);
        lacking = are.copies_are;
        ascend = are.ascend;
      }

  -- which copies lack a storage
  pub lacking_are : (lacks_text : ℕ → Bool) (entries : List Entry)
      → AreNumbers shape.place.copies (store_lacking shape.scope lacks_text entries shape.place.copies)
  lacking_are lacks_text entries = numbers_passing (λ copy.
      lacks_number shape.scope (lacks_text copy) entries (copy + 1)) shape.place.copies
