-- What is said of a string in a dump.
use Rattle.std.proofs.Common.{◌≡◌, ℕ, List, Option, Some, None, IfSome, option_map, sym}
use Rattle.serde_json.specs.Data.{Data}
use Rattle.manifest.specs.Reading.{value_of}
use Rattle.per_reasons.specs.Dumps.{IsString, SaysOfDump, string_of}
use Rattle.per_reasons.specs.Initials.{SaysNoValue}

pub string_found : {A : Type 0} (found : Option A) (view : A → List ℕ) (application storage key : List ℕ) (dump : Data)
    → option_map view found ≡ string_of application storage key dump → IfSome found (λ a. IsString dump (view a))
string_found None view application storage key dump is = tt
string_found (Some a) view application storage key dump is = record {
  application = application;
  storage = storage;
  key = key;
  is = sym is;
}

pub said_of : {A : Type 0} (why : Option A) (view : A → List ℕ) (text string : List ℕ) (dump : Data)
    → value_of text ≡ Some dump → IsString dump string → SaysNoValue (Some string) (option_map view why)
    → IfSome why (λ words. SaysOfDump text (view words))
said_of None view text string dump read stands said = tt
said_of (Some words) view text string dump read stands said = record {
  dump = dump;
  string = string;
  read = read;
  stands = stands;
  said = said;
}
