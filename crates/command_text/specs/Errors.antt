-- What the error of a value says of a line.
use Rattle.value_model.specs.declared.errors.DecodeError.{DecodeError}
use Rattle.value_model.specs.declared.errors.DecodeError.TheVariants as decode
use Rattle.command_text.specs.declared.errors.LineError.{LineError}
use Rattle.command_text.specs.declared.errors.LineError.TheVariants as line

-- a line with a wrong value is none
abbrev pub line_error : DecodeError → LineError
line_error decode.NotAValue = line.NotALine
line_error decode.OutOfMemory = line.OutOfMemory
