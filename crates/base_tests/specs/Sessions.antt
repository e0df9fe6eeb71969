-- What holds between two words of a session.
use Rattle.std.specs.Prelude.{ℕ, List, IfSome}
use Rattle.disk_model.specs.Memory.{mem_medium}
use Rattle.guarded_cell.specs.Cells.{CellAt}
use Rattle.base_tests.specs.declared.sessions.Run.{Run}

-- a register in use holds some text on the disk
abbrev pub IsRegisterInUse : Run → Type 0
IsRegisterInUse run = IfSome run.cell (λ cell. (t : List ℕ) × CellAt (mem_medium run.disk).image cell t)
