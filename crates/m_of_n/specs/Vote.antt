-- The vote among copies of a text: the first text, in order of copies, that at least m copies equal.
use denote.Ref.{Bor}
use Rattle.std.specs.Prelude.{ℕ, List, Option, Some, None, nat_le, count_by, find, map, Bool, false}
use Rattle.std.specs.Option.{option_copied}
use Rattle.std.specs.List.{filter_map}
use Rattle.std.specs.Str.{bytes_eq}

-- the copies as texts, each the list of its bytes; None is a copy that is missing or unreadable
abbrev pub texts_of : List (Option (Bor (List ℕ))) → List (Option (List ℕ))
texts_of copies = map option_copied copies

-- whether a copy is this text; a missing one is no text
abbrev pub is_text : List ℕ → Option (List ℕ) → Bool
is_text text None = false
is_text text (Some other) = bytes_eq other text

-- how many of all the copies are this text
abbrev pub holders : List (Option (List ℕ)) → List ℕ → ℕ
holders copies text = count_by (is_text text) copies

-- the first text among some of the copies that at least m of all the copies are (arguments: m, all, some)
abbrev pub first_agreed : ℕ → List (Option (List ℕ)) → List (Option (List ℕ)) → Option (List ℕ)
first_agreed m copies some = find (λ text. nat_le m (holders copies text)) (filter_map (λ copy. copy) some)

-- the first text, in order of copies, that at least m copies are; none where no text has m copies
unfoldable pub voted : ℕ → List (Option (List ℕ)) → Option (List ℕ)
voted m copies = first_agreed m copies copies
