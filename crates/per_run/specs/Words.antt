-- The arguments of the command line that are accepted, and the job that they ask for.
use Rattle.std.specs.Prelude.{◌≡◌, ◌==◌, ◌-◌, ℕ, List, [], ◌∷◌, ◌++◌, length, fold, ⊤, Bool, true, false, ◌&&◌}
use Rattle.std.specs.Prelude.{nat_eq, Option, Some, None, option_map, Result, Ok, Err, codes, if◌then◌else◌}
use Rattle.std.specs.Str.{bytes_eq}
use Rattle.std.specs.Str.Parse.{digits_value, without_leading_plus}
use Rattle.clap.specs.Faults.{fault_of}
use Rattle.clap.specs.Simple.{App, matches_of, new_app, new_rule, with_rule}
use Rattle.clap.specs.ValueTests.{is_unsigned_in}
use Rattle.clap.specs.Walk.{Row, Rule, first_of}
use Rattle.clap.specs.declared.builder.action.ArgAction.{ArgAction}
use Rattle.clap.specs.declared.builder.action.ArgAction.TheVariants.{Set, SetTrue}
use Rattle.per_base.specs.Fields.{◌>>=◌, only_if}
use Rattle.per_base.specs.Names.{is_name}
use Rattle.command_text.specs.Reading.{is_application_digit}
use Rattle.per_run.specs.declared.words.Job.{Job}
use Rattle.per_run.specs.declared.words.JobKind.{JobKind}
use Rattle.per_list.specs.declared.forms.Form.TheVariants as form
use Rattle.per_run.specs.declared.words.JobKind.TheVariants.{Run, Serve, Format, Generate, Audit, Listing, Export}
use Rattle.per_run.specs.declared.words.JobKind.TheVariants.{Import, RecoverRoot}
use Rattle.per_run.specs.declared.words.WordsError.{WordsError}
use Rattle.per_run.specs.declared.words.WordsError.TheVariants as words_error

-- ---- the command

-- the option of this name: it takes a value (`Set`), or is a flag (`SetTrue`)
abbrev pub named_rule : List ℕ → ArgAction → Rule
named_rule name action = record (new_rule name) { long = Some name; action = Some action }

-- a required option `--dir`, the flags `--format`, `--audit` and `--serve`, and the options `--flash`, `--generate`,
-- `--export`, `--import`, `--list` and `--recover-root`
abbrev pub option_rules : List Rule
option_rules = record (named_rule (codes "dir") Set) { required = true } ∷ named_rule (codes "flash") Set
    ∷ named_rule (codes "format") SetTrue ∷ named_rule (codes "generate") Set ∷ named_rule (codes "audit") SetTrue
    ∷ named_rule (codes "export") Set ∷ named_rule (codes "import") Set ∷ named_rule (codes "serve") SetTrue
    ∷ named_rule (codes "list") Set ∷ named_rule (codes "recover-root") Set ∷ []

-- the program with these options; its arguments come without its name
abbrev pub command : App
command = fold with_rule
    (record (new_app (codes "per")) { top = record (new_app (codes "per")).top { no_binary_name = true } }) option_rules

-- the program accepts the arguments
abbrev pub has_matches : List (List ℕ) → Bool
has_matches words = length (fault_of command words) == 0

-- ---- the values

-- the flag is set
abbrev pub is_set : Option (List ℕ) → Bool
is_set None = false
is_set (Some value) = bytes_eq value (codes "true")

-- a whole number in this range, before which a plus may stand
abbrev pub number_in : (least most : ℕ) → List ℕ → Option ℕ
number_in least most value = only_if (is_unsigned_in least most value) (digits_value 10 (without_leading_plus value))

-- an application and the name of a storage, with a colon between them
abbrev pub target_of : List ℕ → Option (ℕ × List ℕ)
target_of (digit ∷ colon ∷ name) = only_if (is_application_digit digit && nat_eq colon 58 && is_name name)
    (digit - 48, name)
target_of text = None

-- the one of them, and the other
abbrev pub application_of : List ℕ → Option ℕ
application_of (digit ∷ []) = only_if (is_application_digit digit) (digit - 48)
application_of text = None

abbrev pub name_of : List ℕ → Option (List ℕ)
name_of text = only_if (is_name text) text

-- ---- the job, as the matches say it

-- a *mode* is an option that says the kind of job; that of a flag, where it is set
abbrev pub flagged : JobKind → Bool → List (Option JobKind)
flagged kind true = Some kind ∷ []
flagged kind false = []

-- the mode of an option, where it has a value: none where the value says none
abbrev pub valued : (List ℕ → Option JobKind) → Option (List ℕ) → List (Option JobKind)
valued mode (Some value) = mode value ∷ []
valued mode None = []

-- the job of an option with this value, where the value is right: `--generate` with 1 to 100000, and so on
abbrev pub generate_of : List ℕ → Option JobKind
generate_of value = option_map Generate (number_in 1 100000 value)

abbrev pub export_job : List ℕ → Option JobKind
export_job value = option_map (λ target. Export target.0 target.1) (target_of value)

abbrev pub import_of : List ℕ → Option JobKind
import_of value = option_map (λ target. Import target.0 target.1) (target_of value)

abbrev pub list_of : List ℕ → Option JobKind
list_of value = if bytes_eq value (codes "lines") then Some (Listing form.Lines) else
    if bytes_eq value (codes "json") then Some (Listing form.Json) else None

abbrev pub recover_of : List ℕ → Option JobKind
recover_of value = option_map RecoverRoot (application_of value)

-- what is set of the options of the modes, and the values
pub record Modes : Type 0 where
  pub formats : Bool
  pub generates : Option (List ℕ)
  pub audits : Bool
  pub exports : Option (List ℕ)
  pub imports : Option (List ℕ)
  pub serves : Bool
  pub lists : Option (List ℕ)
  pub recovers : Option (List ℕ)

-- the modes that are named
abbrev pub modes : Modes → List (Option JobKind)
modes given = flagged Format given.formats ++ valued generate_of given.generates ++ flagged Audit given.audits
    ++ valued export_job given.exports ++ valued import_of given.imports ++ flagged Serve given.serves
    ++ valued list_of given.lists ++ valued recover_of given.recovers

-- at most one is named, and where none is the lines of the input are handled
abbrev pub only_mode : List (Option JobKind) → Option JobKind
only_mode [] = Some Run
only_mode (mode ∷ []) = mode
only_mode (mode ∷ other ∷ others) = None

-- the kind of job that the options ask for, where they ask for one alone
abbrev pub job_kind_in : List Row → Option JobKind
job_kind_in rows = only_mode (modes (record {
  formats = is_set (first_of (codes "format") rows);
  generates = first_of (codes "generate") rows;
  audits = is_set (first_of (codes "audit") rows);
  exports = first_of (codes "export") rows;
  imports = first_of (codes "import") rows;
  serves = is_set (first_of (codes "serve") rows);
  lists = first_of (codes "list") rows;
  recovers = first_of (codes "recover-root") rows;
}))

-- the number of blocks of the flash, where one is named
abbrev pub flash_of : Option (List ℕ) → Option (Option ℕ)
flash_of None = Some None
flash_of (Some value) = option_map Some (number_in 4 4096 value)

-- the name of the folder, where it is given and not empty
abbrev pub dir_of : Option (List ℕ) → Option (List ℕ)
dir_of None = None
dir_of (Some []) = None
dir_of (Some (b ∷ dir)) = Some (b ∷ dir)

-- the job that the options ask for: its kind, its flash where one is named, and its folder
abbrev pub job_in : List Row → Option Job
job_in rows = do
  kind ← job_kind_in rows
  flash ← flash_of (first_of (codes "flash") rows)
  dir ← dir_of (first_of (codes "dir") rows)
  Some (record { dir = dir; kind = kind; flash = flash })

-- ---- the job that the arguments ask for

-- the job, and none exactly where the arguments are refused
unfoldable pub job_of : List (List ℕ) → Option Job
job_of words = if has_matches words then job_in (matches_of command words) else None

-- what was read is what is said, and what was refused says nothing; where memory ran out it is left open
abbrev pub ReadsWord : {T : Type 0} → Result T WordsError → (said : Option T) → Type 0
ReadsWord (Ok x) said = said ≡ Some x
ReadsWord (Err words_error.Refused) said = said ≡ None
ReadsWord (Err words_error.OutOfMemory) said = ⊤

-- whether the job reads the input
abbrev pub reads_input : JobKind → Bool
reads_input Run = true
reads_input Serve = true
reads_input (Import app name) = true
reads_input other = false
