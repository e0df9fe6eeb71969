-- What a reading function returns of what the definitions of reading give.
use Rattle.std.specs.Prelude.{◌≡◌, Option, Some, None, Result, Ok, Err, ⊤}
use Rattle.export_text.specs.declared.errors.ExportError.{ExportError}
use Rattle.export_text.specs.declared.errors.ExportError.TheVariants.{NotAnExport, OutOfMemory}

-- what an error says of a reading: memory that ran out says nothing
abbrev pub FailsToRead : {Y : Type 0} → ExportError → Option Y → Type 0
FailsToRead NotAnExport read = read ≡ None
FailsToRead OutOfMemory read = ⊤

-- what a function returned, seen by view, is what reading gives, unless memory ran out
abbrev pub Gives : {X Y : Type 0} → (X → Y) → Result X ExportError → Option Y → Type 0
Gives view (Ok x) read = read ≡ Some (view x)
Gives view (Err e) read = FailsToRead e read
