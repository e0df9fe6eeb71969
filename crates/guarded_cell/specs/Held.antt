-- The texts that the copies of a register hold, in order, and the one that stands. In lists copies are counted from 1,
-- elsewhere from 0.
use Rattle.std.specs.Prelude.{ℕ, zero, suc, ◌+◌, ◌%◌, ◌==◌, List, [], ◌∷◌, ◌++◌, length, Bool, ◌&&◌, not, nat_eq}
use Rattle.std.specs.Prelude.{nat_le, nat_lt, Option, Some, None, find, if◌then◌else◌}
use Rattle.std.specs.Str.{bytes_eq}
use Rattle.hash_guard.specs.SealedText.{verified}
use Rattle.disk_model.specs.Image.{Image}
use Rattle.disk_model.specs.Place.{slot}
use Rattle.disk_model.specs.declared.place.Place.{Place}
use Rattle.guarded_cell.specs.declared.looking.Seen.{Seen}

-- a generation and a text
abbrev pub Text : Type 0
Text = ℕ × List ℕ

-- what was found in a slot of this parity, if its generation has this parity: elsewhere a text does not count
abbrev pub of_parity : ℕ → Option Text → Option Text
of_parity parity None = None
of_parity parity (Some t) = if t.0 % 2 == parity then Some t else None

-- the text that a copy holds in its slot of this parity
abbrev pub text_held : Image → Place → (copy parity : ℕ) → Option Text
text_held image place copy parity = of_parity parity (verified (image (slot place copy parity)))

-- whether the text is this one that was seen, bytes and generation
abbrev pub is_seen : Text → Seen → Bool
is_seen t seen = nat_eq seen.generation t.0 && bytes_eq seen.text t.1

-- whether what was found in a slot is this text under its generation
abbrev pub is_slot_text : Text → Option Text → Bool
is_slot_text t None = Bool.false
is_slot_text t (Some u) = nat_eq u.0 t.0 && bytes_eq u.1 t.1

-- whether the copy holds the text, in its slot of the parity of the text's generation
abbrev pub holds : Image → Place → (copy : ℕ) → Text → Bool
holds image place copy t = is_slot_text t (verified (image (slot place copy (t.0 % 2))))

-- which of the first n copies pass a test, ascending and counted from 1
abbrev pub copies_that : (ℕ → Bool) → ℕ → List ℕ
copies_that test zero = []
copies_that test (suc n) = copies_that test n ++ (if test n then (n + 1) ∷ [] else [])

-- the copies that do not hold this text under this generation, ascending and counted from 1
unfoldable pub lacking : Image → Place → (generation : ℕ) → List ℕ → List ℕ
lacking image place generation text = copies_that (λ copy. not (holds image place copy (generation, text)))
    place.copies

-- the list with one copy more of a text, given by its number from 1: texts are listed greatest generation first, and at
-- one generation in the order of their first copies
abbrev pub with_copy : ℕ → Text → List Seen → List Seen
with_copy copy t [] = record { generation = t.0; text = t.1; copies = copy ∷ [] } ∷ []
with_copy copy t (seen ∷ rest) =
    if is_seen t seen then record seen { copies = seen.copies ++ copy ∷ [] } ∷ rest
    else (if nat_lt seen.generation t.0 then record { generation = t.0; text = t.1; copies = copy ∷ [] } ∷ seen ∷ rest
    else seen ∷ with_copy copy t rest)

-- the same by what was found in a slot of the copy: the list stays where it is no text
abbrev pub with_slot : ℕ → Option Text → List Seen → List Seen
with_slot copy None seens = seens
with_slot copy (Some t) seens = with_copy copy t seens

-- every text that one of the first n copies holds, with those copies, greatest generation first, then by first copy
unfoldable pub held_in_first : Image → Place → (n : ℕ) → List Seen
held_in_first image place zero = []
held_in_first image place (suc copy) = with_slot (copy + 1) (text_held image place copy 1)
    (with_slot (copy + 1) (text_held image place copy 0) (held_in_first image place copy))

-- every text that a copy of the place holds, with its copies, greatest generation first, then by first copy
abbrev pub held : Image → Place → List Seen
held image place = held_in_first image place place.copies

-- the first of a list of texts that at least m copies hold, if any
abbrev pub standing_in : (m : ℕ) → List Seen → Option Seen
standing_in m seens = find (λ seen. nat_le m (length seen.copies)) seens

-- the text that stands, with its generation and its copies: of those that at least m copies hold the one of the
-- greatest generation, and at one generation the one whose first copy is lowest
unfoldable pub standing : Image → Place → (m : ℕ) → Option Seen
standing image place m = standing_in m (held image place)
