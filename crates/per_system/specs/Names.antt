-- How the files of a folder are named.
use Rattle.std.specs.Prelude.{◌≡◌, ◌<◌, ◌^◌, ℕ, List, ◌∷◌, []}
use Rattle.std.specs.Fmt.{decimal}
use Rattle.per_system.specs.declared.names.DeviceKind.{DeviceKind}
use Rattle.per_system.specs.declared.names.DeviceKind.TheVariants.{Disk, Flash}

-- the name of the file of this number, in ASCII: `f` and the number, or `flash`
abbrev pub file_name : DeviceKind → ℕ → List ℕ
file_name Disk number = 102 ∷ decimal number
file_name Flash number = 102 ∷ 108 ∷ 97 ∷ 115 ∷ 104 ∷ []

-- the numbers that it may have
abbrev pub IsNumberOf : DeviceKind → ℕ → Type 0
IsNumberOf Disk number = number < 2 ^ 32
IsNumberOf Flash number = number ≡ 0
