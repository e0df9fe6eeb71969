-- Why no call was made.
use Rattle.std.specs.Prelude.{ℕ}
use Rattle.shell_calls.specs.declared.unmade.Unmade.{Unmade}
use Rattle.shell_calls.specs.declared.unmade.Unmade.TheVariants as unmade

-- the status: 5 where what the call takes cannot be read, 4 where memory ran out, else 1
abbrev pub status_of : Unmade → ℕ
status_of (unmade.Unread error) = 5
status_of unmade.OutOfMemory = 4
status_of other = 1
