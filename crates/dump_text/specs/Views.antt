-- What a reading function returns of what the definitions of reading give.
use Rattle.std.specs.Prelude.{◌≡◌, Bool, true, false, Option, Some, None, Result, Ok, Err, ⊤}
use Rattle.dump_text.specs.declared.errors.DumpError.{DumpError}
use Rattle.dump_text.specs.declared.errors.DumpError.TheVariants.{NotADump, OutOfMemory}

-- whether memory ran out
abbrev pub is_memory : DumpError → Bool
is_memory (NotADump why) = false
is_memory OutOfMemory = true

-- what an error says of a reading: memory that ran out says nothing
abbrev pub FailsToRead : {Y : Type 0} → DumpError → Option Y → Type 0
FailsToRead (NotADump why) read = read ≡ None
FailsToRead OutOfMemory read = ⊤

-- What an error of a writing says, where `can` is that the thing can be written: `NotADump` that it cannot; memory that
-- ran out says nothing.
abbrev pub RefusesToWrite : DumpError → (can : Type 0) → Type 0
RefusesToWrite (NotADump why) can = ¬ can
RefusesToWrite OutOfMemory can = ⊤

-- what a function returned, seen by view, is what reading gives, unless memory ran out
abbrev pub Gives : {X Y : Type 0} → (X → Y) → Result X DumpError → Option Y → Type 0
Gives view (Ok x) read = read ≡ Some (view x)
Gives view (Err e) read = FailsToRead e read
