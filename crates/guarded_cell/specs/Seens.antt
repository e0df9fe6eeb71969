-- Where a text belongs among texts that were seen, and which copies hold it.
use Rattle.std.specs.Prelude.{◌≡◌, ◌⊎◌, ℕ, ◌<◌, ◌≤◌, List, length, true, false, slice_index_or}
use Rattle.hash_guard.specs.SealedText.{max_body}
use Rattle.disk_model.specs.Image.{Image}
use Rattle.disk_model.specs.declared.place.Place.{Place}
use Rattle.guarded_cell.specs.declared.looking.Seen.{Seen}
use Rattle.guarded_cell.specs.Held.{Text, is_seen, holds, copies_that}

-- a text that was seen can be sealed again: its generation is positive, and it is not too long
pub record IsSealable (seen : Seen) : Type 0 where
  pub positive : 1 ≤ seen.generation
  pub short : length seen.text ≤ max_body

-- in a list of texts what was seen comes before the text t: it is another one, of no lesser generation
pub record IsBefore (t : Text) (seen : Seen) : Type 0 where
  pub differs : is_seen t seen ≡ false
  pub greater : t.0 ≤ seen.generation

-- a text belongs at this index of the list: after all that come before it, where it is listed itself or texts begin
-- that come after it; d is a default that is not read
pub record IsPlaceOf (t : Text) (seens : List Seen) (at : ℕ) : Type 0 where
  pub within : at ≤ length seens
  pub before : (i : ℕ) → i < at → (d : Seen) → IsBefore t (slice_index_or seens i d)
  pub here : at < length seens → (d : Seen) → (is_seen t (slice_index_or seens at d) ≡ true)
      ⊎ ((slice_index_or seens at d).generation < t.0)

-- just the copies that are listed with it hold the text that was seen
abbrev pub IsSeenOn : Image → Place → Seen → Type 0
IsSeenOn image place seen = seen.copies
    ≡ copies_that (λ copy. holds image place copy (seen.generation, seen.text)) place.copies
