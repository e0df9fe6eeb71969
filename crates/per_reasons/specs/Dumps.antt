-- What is wrong with a value in a dump.
use Rattle.std.specs.Prelude.{◌≡◌, ℕ, List, codes, Option, Some, option_and_then}
use Rattle.serde_json.specs.Data.{Data}
use Rattle.serde_json.specs.Find.{get}
use Rattle.manifest.specs.Reading.{value_of}
use Rattle.manifest.specs.Values.{text_in}
use Rattle.per_reasons.specs.Initials.{SaysNoValue}

-- the string of a key in a dump
abbrev pub string_of : (application storage key : List ℕ) → Data → Option (List ℕ)
string_of application storage key dump = text_in (option_and_then (get key) (option_and_then (get (codes "keys"))
    (option_and_then (get storage) (option_and_then (get (codes "storages")) (option_and_then (get application)
    (get (codes "applications") dump))))))

-- the text is the string of a key in the dump
pub record IsString (dump : Data) (text : List ℕ) : Type 0 where
  pub application : List ℕ
  pub storage : List ℕ
  pub key : List ℕ
  pub is : string_of application storage key dump ≡ Some text

-- the words say what is wrong with a string of a key in the dump of this text
pub record SaysOfDump (text words : List ℕ) : Type 0 where
  pub dump : Data
  pub string : List ℕ
  pub read : value_of text ≡ Some dump
  pub stands : IsString dump string
  pub said : SaysNoValue (Some string) (Some words)
