-- The flags of an opening, read off the bits of the set: 1 at the beginning, 2 at the end, 4 truncate, 8 append.
use Rattle.std.specs.Prelude.{◌≡◌, ℕ, Bool, true, false, ◌==◌, refl}
use Rattle.std.specs.Int.RustNames.{bit_and}
use Rattle.per_base.specs.declared.opening.OpenMode.{OpenMode}

-- the set of flags as a number
abbrev pub bits_of : OpenMode → ℕ
bits_of mode = mode.0

-- no flag at all
abbrev pub plain : OpenMode
plain = record { 0 = 0 }

-- only the flag that empties the file
abbrev pub truncating : OpenMode
truncating = record { 0 = 4 }

-- whether the position starts at the beginning of the file
abbrev pub at_beginning : OpenMode → Bool
at_beginning mode = bit_and (bits_of mode) 1 == 1

-- whether the position starts at the end of the file
abbrev pub at_end : OpenMode → Bool
at_end mode = bit_and (bits_of mode) 2 == 2

-- whether the opening empties the file
abbrev pub truncates : OpenMode → Bool
truncates mode = bit_and (bits_of mode) 4 == 4

-- whether each write goes to the end of the file
abbrev pub appends : OpenMode → Bool
appends mode = bit_and (bits_of mode) 8 == 8

plain_has_none : bits_of plain ≡ 0
plain_has_none = refl

plain_leaves : truncates plain ≡ false
plain_leaves = refl

truncating_has_one : bits_of truncating ≡ 4
truncating_has_one = refl

truncating_empties : truncates truncating ≡ true
truncating_empties = refl
