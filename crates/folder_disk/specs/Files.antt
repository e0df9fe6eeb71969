-- Open files, each under its number.
use Rattle.std.specs.Prelude.{◌≡◌, ℕ, Some}
use Rattle.std.specs.Ordering.{nat_cmp}
use Rattle.std.specs.BTreeMap.{BTreeMap, get}

-- each open file of the map has the number under which it stands there; the function gives a file's number
abbrev pub AreByNumber : {F : Type 0} → (F → ℕ) → BTreeMap ℕ F → Type 0
AreByNumber {F} number files = (f : ℕ) (file : F) → get nat_cmp files f ≡ Some file → number file ≡ f
