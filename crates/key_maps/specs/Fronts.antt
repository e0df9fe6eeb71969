-- What follows a text at the start of bytes.
use Rattle.std.specs.Prelude.{ℕ, List, [], ◌∷◌, nat_eq, Option, Some, None, if◌then◌else◌}

-- the bytes after the text where they begin with it, and nothing where they do not
abbrev pub after : List ℕ → List ℕ → Option (List ℕ)
after [] bytes = Some bytes
after (b ∷ text) [] = None
after (b ∷ text) (c ∷ bytes) = if nat_eq b c then after text bytes else None
