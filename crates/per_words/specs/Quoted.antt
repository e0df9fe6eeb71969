-- A word as it is typed in a shell.
use Rattle.std.specs.Prelude.{ℕ, List, [], ◌∷◌, ◌++◌, codes, nat_eq, if◌then◌else◌}
use Rattle.std.specs.List.{starts_with}
use Rattle.per_base.specs.Names.{is_name}

-- a byte between single quotes: a single quote ends them, is written by itself, and begins them again
abbrev pub quoted_byte : ℕ → List ℕ
quoted_byte byte = if nat_eq byte 39 then codes "'\\''" else byte ∷ []

-- each byte of a text so
abbrev pub quoted_bytes : List ℕ → List ℕ
quoted_bytes [] = []
quoted_bytes (byte ∷ text) = quoted_byte byte ++ quoted_bytes text

-- a name is typed as it is, and each other word in single quotes
abbrev pub quoted : List ℕ → List ℕ
quoted word = if is_name word then word else 39 ∷ (quoted_bytes word ++ 39 ∷ [])

-- what stands between an option and this value: an equals sign (61) before a dash, else a space (32)
abbrev pub joint : List ℕ → ℕ
joint value = if starts_with nat_eq value (codes "-") then 61 else 32

-- the option that names this folder
abbrev pub dir_option : List ℕ → List ℕ
dir_option dir = codes "--dir" ++ (joint dir ∷ quoted dir)
