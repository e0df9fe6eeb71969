-- From copies that are named, counted from 1, to all copies of a place.
use Rattle.std.proofs.Common.{◌≡◌, ℕ, ◌+◌, ◌-◌, ◌*◌, ◌<◌, ◌≤◌, List, [], ◌∷◌, length, get_or, take, refl, sym, ap, ◌∙◌}
use Rattle.std.proofs.Common.{subst, arith}
use Rattle.std.proofs.Math.Nat.{mul-le-mul_left}
use Rattle.std.specs.List.{range_with_len}
use Rattle.std.proofs.lemmas.List.{get_or-take, length-take-le}
use Rattle.std.proofs.lemmas.List.FromFn.{get_or-range_with_len}
use Rattle.per_base.specs.Contents.{blocks_for}
use Rattle.disk_model.specs.Image.{Image}
use Rattle.disk_model.specs.Place.{area, IsNoArea}
use Rattle.disk_model.specs.declared.place.Place.{Place}
use Rattle.block_files.specs.BlockSets.{IsNotAmong}
use Rattle.block_files.specs.Parts.{changed_blocks}
use Rattle.block_files.specs.Areas.{area_of, IsFull, AllFull, NamedFull, HoldsShared}
use Rattle.block_files.specs.Writes.{IsNoneOf, IsApartFromChanged}
use Rattle.block_files.specs.lemmas.PartLemmas.{same_part, changed_to-le}
use Rattle.block_files.specs.lemmas.Partly.{length-part}

-- the numbers of the copies that a place can have
abbrev pub numbers : List ℕ
numbers = 1 ∷ 2 ∷ 3 ∷ 4 ∷ 5 ∷ 6 ∷ 7 ∷ 8 ∷ []

numbers_are : numbers ≡ range_with_len 1 8
numbers_are = refl

module _ (place : Place) where
  pub length-numbers : length (take place.copies numbers) ≡ place.copies
  length-numbers = length-take-le place.copies numbers place.few

  pub number_at : (i : ℕ) → i < place.copies → get_or (take place.copies numbers) i 0 ≡ i + 1
  number_at i lt =
      let e : 1 + i ≡ i + 1 = omega arith in
      get_or-take place.copies numbers i 0 lt ∙ get_or-range_with_len 1 8 i 0 (omega arith) ∙ e

  pub numbers_named : (i : ℕ) → i < length (take place.copies numbers)
      → (1 ≤ get_or (take place.copies numbers) i 0) × (get_or (take place.copies numbers) i 0 ≤ place.copies)
  numbers_named i lt = let inside : i < place.copies = omega (arith, length-numbers) in let e =
      number_at i inside in (omega arith, omega arith)

  -- the area of each
  area_is : (i : ℕ) → i < place.copies → area_of place (get_or (take place.copies numbers) i 0) ≡ area place i
  area_is i lt = let e : get_or (take place.copies numbers) i 0 - 1 ≡ i =
      omega (arith, number_at i lt) in ap (area place) e

  pub shared_named : (blocks bytes was : List ℕ) (image : Image)
      → ((c : ℕ) → c < place.copies → HoldsShared (image (area place c)) blocks bytes was)
      → (i : ℕ) → i < length (take place.copies numbers) → HoldsShared
      (image (area_of place (get_or (take place.copies numbers) i 0))) blocks bytes was
  shared_named blocks bytes was image shared i lt =
      let inside : i < place.copies = omega (arith, length-numbers) in
      let P : ℕ → Type 0 = λ f. HoldsShared (image f) blocks bytes was in
      subst P (sym (area_is i inside)) (shared i inside)

  pub all_full : (blocks bytes : List ℕ) (image : Image)
      → NamedFull place (take place.copies numbers) blocks bytes image → AllFull place blocks bytes image
  all_full blocks bytes image named c lt =
      let P : ℕ → Type 0 = λ f. IsFull (image f) blocks bytes in
      subst P (area_is c lt) (named c (omega (arith, length-numbers)))

  pub none_named : (f : ℕ) → IsNoArea place f → IsNoneOf place (take place.copies numbers) f
  none_named f none i lt e = let inside : i < place.copies =
      omega (arith, length-numbers) in none i inside (e ∙ area_is i inside)

-- beside an empty content each part that has bytes is a change
pub shared_none : (file blocks bytes : List ℕ) → HoldsShared file blocks bytes []
shared_none file blocks bytes i lt same j small inside =
    absurd (omega (arith, ap length (same_part bytes [] i same), length-part bytes i, length-part [] i))

-- ---- beside an empty content

-- a block that is none of them is none of those that change
pub apart_none : (blocks bytes was : List ℕ) (k : ℕ) → IsNotAmong blocks k → IsApartFromChanged blocks bytes was k
apart_none blocks bytes was k apart i lt differ = apart i lt

-- that many copies, each of which writes no more than all of its blocks
pub whole_le : (bytes : List ℕ) (copies count : ℕ) → length bytes ≤ 256 * count
    → copies * (256 * changed_blocks bytes []) ≤ copies * (256 * count)
whole_le bytes copies count room =
    let few : 256 * changed_blocks bytes [] ≤ 256 * count = omega
    (arith, changed_to-le bytes [] (blocks_for (length bytes)))
    in
    mul-le-mul_left copies few
