-- Which lines allocate when they are read.
use Rattle.std.specs.Prelude.{◌≢◌, ◌≤◌, ℕ, List, length, None}
use Rattle.command_text.specs.Reading.{parts_in}

-- a line that is not too long, and has an application, a word and arguments, which are copied
pub record Allocates (line : List ℕ) : Type 0 where
  pub short : length line ≤ 262144
  pub parts : parts_in line ≢ None
