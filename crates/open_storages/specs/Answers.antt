-- How a call on an open storage is answered.
use Rattle.std.specs.Prelude.{◌≡◌, Bool, true, false, Result, Ok, Err}
use Rattle.per_base.specs.declared.errors.PerError.{PerError}
use Rattle.per_base.specs.Refusals.{IsRefusal}
use Rattle.command_text.specs.declared.calls.Call.{Call}
use Rattle.command_text.specs.declared.calls.Call.TheVariants as call
use Rattle.command_text.specs.declared.replies.Answer.{Answer}
use Rattle.command_text.specs.Replies.{HasText}

-- The answer is the row's, and so is what the calls see afterwards. A refusal is the row's, or OutOfMemory, and
-- changes nothing.
abbrev pub IsAnsweredAsRow : {S : Type 0} → (row : Result (Answer × S) PerError) → (old new : S)
    → Result Answer PerError
    → Type 0
IsAnsweredAsRow row old new (Ok answer) = (row ≡ Ok (answer, new)) × HasText answer
IsAnsweredAsRow row old new (Err error) = IsRefusal row error × (new ≡ old)

-- ---- the calls on files, in three groups

-- those that look at the files, or change one by its name
abbrev pub is_by_name : Call → Bool
is_by_name (call.Size n) = true
is_by_name (call.Files n) = true
is_by_name (call.FileExists n f) = true
is_by_name (call.SizeOf n f) = true
is_by_name (call.Info n f) = true
is_by_name (call.Delete n f) = true
is_by_name (call.RecoverFile n f) = true
is_by_name (call.ResetFile n f) = true
is_by_name other = false

-- those that read through a handle
abbrev pub is_reading : Call → Bool
is_reading (call.Peek n h) = true
is_reading (call.Byte n h) = true
is_reading (call.Read n h count) = true
is_reading (call.ReadAll n h) = true
is_reading (call.Line n h d) = true
is_reading other = false

-- those that ask of a handle, or move it
abbrev pub is_placing : Call → Bool
is_placing (call.HandleSize n h) = true
is_placing (call.Position n h) = true
is_placing (call.Seek n h at) = true
is_placing (call.Move n h from offset) = true
is_placing (call.Eof n h) = true
is_placing other = false
