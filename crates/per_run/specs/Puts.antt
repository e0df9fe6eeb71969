-- A text that is put behind bytes that wait for a sink.
use Rattle.std.specs.Prelude.{◌≡◌, ◌++◌, ℕ, List, Option, Result, Ok, Err}
use Rattle.std.specs.Io.KnownBytes.{Appends}
use Rattle.per_run.specs.Jobs.{WroteProperPrefix}

-- of the bytes that waited and the text after them, the sink took some from the start, and the others wait
pub record IsBehind (before now : Option (List ℕ)) (waited waits text : List ℕ) : Type 0 where
  pub taken : List ℕ
  pub took : Appends before now taken
  pub all : taken ++ waits ≡ waited ++ text

-- the text is behind the bytes that waited; or the sink failed, and took a proper prefix of them and the text
abbrev pub PutsBehind : {T E : Type 0} → (before now : Option (List ℕ)) → (waited waits text : List ℕ) → Result T E
    → Type 0
PutsBehind before now waited waits text (Ok x) = IsBehind before now waited waits text
PutsBehind before now waited waits text (Err e) = WroteProperPrefix before now (waited ++ text)
