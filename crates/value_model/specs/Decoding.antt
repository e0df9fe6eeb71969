-- What reading a value or a type gave, with the error of all its readers.
use Rattle.std.specs.Prelude.{◌≡◌, Option, Some, None, Result, Ok, Err}
use Rattle.value_model.specs.declared.errors.DecodeError.{DecodeError}
use Rattle.value_model.specs.declared.errors.DecodeError.TheVariants.{NotAValue, OutOfMemory}

-- what an error says of `read`, the answer that the specification gives: `NotAValue` that it is none; memory that ran
-- out says nothing
abbrev pub FailsToRead : {Y : Type 0} → DecodeError → Option Y → Type 0
FailsToRead NotAValue read = read ≡ None
FailsToRead OutOfMemory read = Unit {0}

-- a reader of the code agrees with the specification: its result, seen as plain data by `view`, is the `Some` that
-- `read` is; its error `NotAValue` means that `read` is `None`, and `OutOfMemory` says nothing
abbrev pub Gives : {X Y : Type 0} → (X → Y) → Result X DecodeError → Option Y → Type 0
Gives view (Ok x) read = read ≡ Some (view x)
Gives view (Err error) read = FailsToRead error read
