-- What a list of texts shows of a register: every text that some copy holds, with its copies. Copies are counted from
-- 0, but from 1 in lists.
use Rattle.std.specs.Prelude.{◌≡◌, ℕ, ◌+◌, ◌<◌, ◌≤◌, List, length, slice_index_or, Option, Some, None}
use Rattle.std.specs.List.{All, Any, Contains}
use Rattle.disk_model.specs.Image.{Image}
use Rattle.disk_model.specs.declared.place.Place.{Place}
use Rattle.guarded_cell.specs.declared.looking.Seen.{Seen}
use Rattle.guarded_cell.specs.Register.{Holds, IsHeldBy, IsStanding, HasNoStanding}
use Rattle.guarded_cell.specs.Held.{holds, copies_that}

-- the list has every text that is held, greatest generation first, and at one generation in the order of the first
-- copies
pub record ShowsTexts (image : Image) (place : Place) (seens : List Seen) : Type 0 where
  pub every : (copy generation : ℕ) (text : List ℕ) → copy < place.copies → Holds image place copy generation text
      → Any (λ seen. (seen.generation ≡ generation) × (seen.text ≡ text)) seens
  -- each with just the copies that hold it, ascending and counted from 1, and at least one
  pub copies_are : All (λ seen. seen.copies ≡ copies_that (λ copy. holds image place copy (seen.generation, seen.text))
      place.copies) seens
  pub holders : All (λ seen. (copy : ℕ) → Contains seen.copies (copy + 1)
      → (copy < place.copies) × Holds image place copy seen.generation seen.text) seens
  pub all_holders : All (λ seen. (copy : ℕ) → copy < place.copies → Holds image place copy seen.generation seen.text
      → Contains seen.copies (copy + 1)) seens
  pub some : All (λ seen. 1 ≤ length seen.copies) seens
  -- greatest generation first, and at one generation by first copy; d is a default that is not read
  pub descends : (i j : ℕ) (d : Seen) → i < j → j < length seens
      → (slice_index_or seens j d).generation ≤ (slice_index_or seens i d).generation
  pub firsts : (i j : ℕ) (d : Seen) → i < j → j < length seens
      → (slice_index_or seens j d).generation ≡ (slice_index_or seens i d).generation
      → slice_index_or (slice_index_or seens i d).copies 0 0 < slice_index_or (slice_index_or seens j d).copies 0 0

-- the answer is what is chosen to stand on this image: a text that at least m copies hold under the greatest such
-- generation, with its copies, at one generation the one whose first copy is lowest; and none only where no text is
-- held by that many
pub record Chooses (image : Image) (place : Place) (m : ℕ) (answer : Option Seen) : Type 0 where
  pub stands : (seen : Seen) → answer ≡ Some seen → IsStanding image place m seen.generation seen.text
  pub copies_are : (seen : Seen) → answer ≡ Some seen
      → seen.copies ≡ copies_that (λ copy. holds image place copy (seen.generation, seen.text)) place.copies
  -- another text that as many hold under the same generation is not held by any copy up to some copy that holds this
  -- one
  pub first_held : (seen : Seen) (text : List ℕ) → answer ≡ Some seen
      → IsHeldBy image place m seen.generation text
      → ¬ (text ≡ seen.text) → (copy : ℕ) × (copy < place.copies) × Holds image place copy seen.generation seen.text
      × ((a : ℕ) → a ≤ copy → ¬ (Holds image place a seen.generation text))
  pub nothing : answer ≡ None → HasNoStanding image place m
