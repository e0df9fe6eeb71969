-- How a run ends, by which status, and what it has then written.
use Rattle.std.specs.Prelude.{◌≡◌, ◌⊎◌, ◌<◌, ◌+◌, ℕ, List, [], ◌∷◌, ◌++◌, length, take, Option, Bool, IsTrue, IsFalse}
use Rattle.std.specs.Prelude.{codes, ⊤}
use Rattle.std.specs.Fmt.{decimal}
use Rattle.std.specs.Io.KnownBytes.{Appends}
use Rattle.per_base.specs.Causes.{Rose}
use Rattle.command_text.specs.Replies.{reply_text}
use Rattle.run_model.specs.Lines.{IsBad}
use Rattle.run_model.specs.Turns.{Turn, replies_text}

-- all lines are handled; the next is `end`; the next is outside the grammar; the start failed at the device; memory ran
-- out in the start; memory ran out after a start that ended; the source failed; the sink failed; the input is too long
pub data Ending : Type 0 where
  all_read : Ending
  end_line : Ending
  bad_line : Ending
  device : Ending
  start_memory : Ending
  memory : Ending
  source : Ending
  sink : Ending
  too_long : Ending

-- the exit status of the process; 1 is that of invalid arguments
abbrev pub ending_status : Ending → ℕ
ending_status all_read = 0
ending_status end_line = 0
ending_status bad_line = 2
ending_status device = 3
ending_status start_memory = 4
ending_status memory = 4
ending_status source = 5
ending_status sink = 6
ending_status too_long = 7

-- the start has ended: no ending is common to a run that came to its lines and one that did not
abbrev pub HasStarted : Ending → Type 0
HasStarted device = ⊥
HasStarted start_memory = ⊥
HasStarted other = ⊤

-- the start has ended, and so has every command that was begun
abbrev pub HasEnded : Ending → Type 0
HasEnded device = ⊥
HasEnded start_memory = ⊥
HasEnded memory = ⊥
HasEnded other = ⊤

pub has_started : (ending : Ending) → HasEnded ending → HasStarted ending
has_started device over = absurd over
has_started start_memory over = absurd over
has_started memory over = absurd over
has_started other over = over

-- the line that says that line n is a bad one
abbrev pub bad_line_text : ℕ → List ℕ
bad_line_text n = codes "bad-line " ++ (decimal n ++ codes "\n")

-- ---- why

-- how many calls of the disk, of the source and of the sink have failed
pub record FailureCounts : Type 0 where
  pub disk : ℕ
  pub source : ℕ
  pub sink : ℕ

-- a run ends for one of the three only where its count rose in that run; and where memory ran out in its start, that of
-- the disk stayed
abbrev pub HasCauseOf : Ending → (before now : FailureCounts) → Type 0
HasCauseOf device before now = Rose before.disk now.disk
HasCauseOf start_memory before now = now.disk ≡ before.disk
HasCauseOf source before now = Rose before.source now.source
HasCauseOf sink before now = Rose before.sink now.sink
HasCauseOf other before now = ⊤

-- ---- what is written: `lines` were handled, of the lines `all`; `before` and `now` are the bytes written

-- all lines are handled
pub record AtTheEnd (lines all : List (List ℕ)) (turns : List Turn) (before now : Option (List ℕ)) : Type 0 where
  pub next : all ≡ lines
  pub wrote : Appends before now (replies_text turns)

-- the next line is `end`
pub record AtEndLine (lines all : List (List ℕ)) (turns : List Turn) (before now : Option (List ℕ)) : Type 0 where
  pub others : List (List ℕ)
  pub next : all ≡ lines ++ codes "end" ∷ others
  pub wrote : Appends before now (replies_text turns)

-- the next line is outside the grammar, and was answered with its number, counted from 1
pub record AtBadLine (lines all : List (List ℕ)) (turns : List Turn) (before now : Option (List ℕ)) : Type 0 where
  pub text : List ℕ
  pub others : List (List ℕ)
  pub next : all ≡ lines ++ text ∷ others
  pub bad : IsBad text
  pub wrote : Appends before now (replies_text turns ++ bad_line_text (length lines + 1))

-- the start did not end: nothing was handled and nothing written
pub record AtTheStart (lines : List (List ℕ)) (turns : List Turn) (before now : Option (List ℕ)) : Type 0 where
  pub no_line : lines ≡ []
  pub no_turn : turns ≡ []
  pub wrote : Appends before now []

-- the run was interrupted after some line
pub record AfterSome (lines all : List (List ℕ)) (turns : List Turn) (before now : Option (List ℕ)) : Type 0 where
  pub others : List (List ℕ)
  pub next : all ≡ lines ++ others
  pub wrote : Appends before now (replies_text turns)

-- the sink took that many bytes of the last reply, and fewer than all
pub record InReply (count : ℕ) (lines all : List (List ℕ)) (turns : List Turn) (before now : Option (List ℕ)) : Type 0
  where
    pub others : List (List ℕ)
    pub next : all ≡ lines ++ others
    pub earlier : List Turn
    pub last : Turn
    pub turns_are : turns ≡ earlier ++ last ∷ []
    pub short : count < length (reply_text last.reply)
    pub wrote : Appends before now (replies_text earlier ++ take count (reply_text last.reply))

-- the sink took that many bytes of the answer to a line outside the grammar, and fewer than all
pub record InBadLine (count : ℕ) (lines all : List (List ℕ)) (turns : List Turn) (before now : Option (List ℕ)) : Type 0
  where
    pub text : List ℕ
    pub others : List (List ℕ)
    pub next : all ≡ lines ++ text ∷ others
    pub bad : IsBad text
    pub short : count < length (bad_line_text (length lines + 1))
    pub wrote : Appends before now (replies_text turns ++ take count (bad_line_text (length lines + 1)))

-- by how a run ended: which of the lines `all` were handled, and what was then written
abbrev pub EndsBy : Ending → (lines all : List (List ℕ)) → List Turn → (before now : Option (List ℕ)) → Type 0
EndsBy all_read lines all turns before now = AtTheEnd lines all turns before now
EndsBy end_line lines all turns before now = AtEndLine lines all turns before now
EndsBy bad_line lines all turns before now = AtBadLine lines all turns before now
EndsBy device lines all turns before now = AtTheStart lines turns before now
EndsBy start_memory lines all turns before now = AtTheStart lines turns before now
-- where memory ran out after the start, all replies are written or all but the last
EndsBy memory lines all turns before now = AfterSome lines all turns before now ⊎ InReply 0 lines all turns before now
EndsBy source lines all turns before now = AtTheEnd lines all turns before now
EndsBy sink lines all turns before now = (count : ℕ) × (InReply count lines all turns before now
    ⊎ InBadLine count lines all turns before now)
EndsBy too_long lines all turns before now = AtTheEnd lines all turns before now

-- by how a run ended: whether the end of the input was seen, and how many bytes were taken, of which 67108864 (64 MiB)
-- are allowed
abbrev pub IsInput : Ending → (ended : Bool) → (count : ℕ) → Type 0
IsInput all_read ended count = IsTrue ended
IsInput device ended count = IsFalse ended × (count ≡ 0)
IsInput start_memory ended count = IsFalse ended × (count ≡ 0)
IsInput source ended count = IsFalse ended × (count < 67108864)
IsInput too_long ended count = IsFalse ended × (count ≡ 67108864)
IsInput other ended count = ⊤
