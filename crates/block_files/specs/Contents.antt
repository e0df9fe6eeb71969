-- What the copies of a content agree on: the value, the salvage and the copies that lack it. A content is asked for by
-- its blocks, its length in bytes and its SHA-256. The value is the content on which enough copies agree; the salvage
-- is what is left where there is none. What a copy gives is its bytes, or none where they do not have the hash.
use Rattle.std.specs.Prelude.{◌≡◌, ◌<◌, ◌≤◌, ℕ, suc, List, [], ◌∷◌, length, slice_index, slice_index_or, map, filter}
use Rattle.std.specs.Prelude.{Bool, true, false, cond, ◌&&◌, not, Option, Some, None, is_some}
use Rattle.std.specs.List.{range_with_len}
use Rattle.std.specs.Str.{bytes_eq}
use Rattle.sha2.specs.Sha256.{sha256}
use Rattle.disk_model.specs.Image.{Image}
use Rattle.disk_model.specs.Place.{area}
use Rattle.disk_model.specs.declared.place.Place.{Place}
use Rattle.block_files.specs.Areas.{has_all_bytes, joined}

-- what a copy gives, by its area file: the bytes of the blocks, if they have the hash; the copy counts then
unfoldable pub counting : (file blocks : List ℕ) (len : ℕ) (hash : List ℕ) → Option (List ℕ)
counting file blocks len hash = cond (bytes_eq (sha256 (joined file blocks len)) hash) (Some (joined file blocks len))
    None

-- what each copy of a place gives on this image, in order
abbrev pub contents : Place → (blocks : List ℕ) (len : ℕ) (hash : List ℕ) → Image → List (Option (List ℕ))
contents place blocks len hash image = map (λ c. counting (image (area place c)) blocks len hash)
    (range_with_len 0 place.copies)

-- the first content that some copy gives
abbrev pub first_content : List (Option (List ℕ)) → Option (List ℕ)
first_content [] = None
first_content (Some text ∷ contents) = Some text
first_content (None ∷ contents) = first_content contents

-- the salvage, where there is no value
abbrev pub unvoted : (value salvage : Option (List ℕ)) → Option (List ℕ)
unvoted (Some value) salvage = None
unvoted None salvage = salvage

-- whether a copy that gives this lacks the value: it does not count, or gives other bytes, or does not have them all
-- within its file (`inside`). Where there is no value, a copy lacks it that does not count.
abbrev pub lacks : (value given : Option (List ℕ)) (inside : Bool) → Bool
lacks None given inside = not (is_some given)
lacks (Some value) None inside = true
lacks (Some value) (Some given) inside = not (inside && bytes_eq given value)

-- the copies of a place that lack the value on this image, counted from 1 and ascending
abbrev pub lacking : (value : Option (List ℕ)) → Place → (blocks : List ℕ) (len : ℕ) (hash : List ℕ) → Image → List ℕ
lacking value place blocks len hash image = map suc (filter
    (λ c. lacks value (counting (image (area place c)) blocks len hash)
    (has_all_bytes (image (area place c)) blocks len))
    (range_with_len 0 place.copies))

-- the same, by what each copy gives and whether its file has it all
abbrev pub lacking_in : (value : Option (List ℕ)) → List (Option (List ℕ)) → List Bool → List ℕ
lacking_in value given inside = map suc (filter
    (λ c. lacks value (slice_index_or given c None) (slice_index_or inside c false))
    (range_with_len 0 (length given)))

-- each number is that of one of that many copies, counted from 1
abbrev pub AreCopies : ℕ → List ℕ → Type 0
AreCopies copies numbers = (i : ℕ) → i < length numbers → (1 ≤ slice_index numbers i) × (slice_index numbers i ≤ copies)

-- each content that is given has that many bytes
abbrev pub HaveSize : ℕ → List (Option (List ℕ)) → Type 0
HaveSize size given = (i : ℕ) (text : List ℕ) → slice_index_or given i None ≡ Some text → length text ≡ size
