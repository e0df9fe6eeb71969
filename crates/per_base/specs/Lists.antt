-- The numbers of a list, wherever they are kept.
use Rattle.std.specs.Prelude.{ℕ, List}
use Rattle.per_base.specs.declared.lists.Kept.{Kept}
use Rattle.per_base.specs.declared.lists.Kept.TheVariants.{One, Many}

abbrev pub kept_numbers : Kept → List ℕ
kept_numbers (One numbers) = numbers
kept_numbers (Many numbers) = numbers.items
