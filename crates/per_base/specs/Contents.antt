-- Contents: their bytes, their lengths, and when two are the same.
use Rattle.std.specs.Prelude.{◌≡◌, ℕ, ◌+◌, ◌/◌, List, [], length, Bool, true, false, Option, None, Some}
use Rattle.std.specs.Str.{bytes_eq}
use Rattle.per_base.specs.declared.elements.Content.{Content}
use Rattle.per_base.specs.declared.elements.Content.TheVariants.{Good, Bad}

-- whether enough copies agree on the bytes of a content
abbrev pub is_readable : Content → Bool
is_readable (Good bytes) = true
is_readable (Bad salvage) = false

-- the bytes of a readable content; of an unreadable one the empty list
abbrev pub readable_bytes : Content → List ℕ
readable_bytes (Good bytes) = bytes
readable_bytes (Bad salvage) = []

-- the bytes of a readable content, or the salvage of an unreadable one, are this many; where there is no salvage, any
-- length is right
abbrev pub HasLength : Content → ℕ → Type 0
HasLength (Good bytes) len = length bytes ≡ len
HasLength (Bad None) len = Unit {0}
HasLength (Bad (Some salvage)) len = length salvage ≡ len

-- how many blocks of 256 bytes a content of this many bytes takes; the last may be filled in part
abbrev pub blocks_for : ℕ → ℕ
blocks_for len = (len + 255) / 256

-- whether two salvages, each the bytes that are left of a content on which too few copies agree, are the same bytes, or
-- both are missing
abbrev pub same_salvage : Option (List ℕ) → Option (List ℕ) → Bool
same_salvage None None = true
same_salvage None (Some there) = false
same_salvage (Some here) None = false
same_salvage (Some here) (Some there) = bytes_eq here there

-- whether both are readable with the same bytes, or both unreadable with the same salvage
abbrev pub same_content : Content → Content → Bool
same_content (Good here) (Good there) = bytes_eq here there
same_content (Good here) (Bad there) = false
same_content (Bad here) (Good there) = false
same_content (Bad here) (Bad there) = same_salvage here there
