-- What is wrong with an initial value of a manifest.
use Rattle.std.specs.Prelude.{◌≡◌, ℕ, List, [], ◌∷◌, ◌++◌, codes, if◌then◌else◌, Option, Some, None, option_and_then}
use Rattle.value_text.specs.Readers.{branch}
use Rattle.serde_json.specs.Data.{Data}
use Rattle.serde_json.specs.Find.{get}
use Rattle.per_base.specs.declared.elements.StoreKind.TheVariants.{Keys}
use Rattle.per_words.specs.Flaws.{flaw_in}
use Rattle.manifest.specs.Reading.{value_of}
use Rattle.manifest.specs.Rules.{may_start}
use Rattle.manifest.specs.Values.{text_in, things_in}
use Rattle.per_reasons.specs.Reasons.{SaysNoCall}

-- the first of these keys whose initial value cannot be read
abbrev pub first_unread : List Data → Option Data
first_unread [] = None
first_unread (key ∷ keys) = if may_start (Keys, key) then first_unread keys else Some key

-- the first of the keys of these storages, one after another
abbrev pub first_unread_in : List Data → Option Data
first_unread_in [] = None
first_unread_in (storage ∷ storages) = branch (first_unread (things_in (get (codes "keyValuePairs") storage)))
    (λ key. Some key) (first_unread_in storages)

-- the initial value of that key of a manifest, where it is a text
abbrev pub unread_text : Option Data → Option (List ℕ)
unread_text None = None
unread_text (Some manifest) = option_and_then (λ key. text_in (get (codes "initial") key))
    (first_unread_in (things_in (get (codes "keyValueStorages") manifest)))

-- a line that sets a key to the value with this text
abbrev pub value_line : List ℕ → List ℕ
value_line text = codes "0 set k a " ++ text

-- what is said of this text as that of a value: of the call with that line; nothing where there is no text
abbrev pub SaysNoValue : Option (List ℕ) → Option (List ℕ) → Type 0
SaysNoValue None why = why ≡ None
SaysNoValue (Some text) why = SaysNoCall (value_line text) (flaw_in (value_line text)) why

-- what is said of the initial value, of the first key whose initial value cannot be read, in the manifest of this text
abbrev pub SaysInitial : List ℕ → Option (List ℕ) → Type 0
SaysInitial manifest why = SaysNoValue (unread_text (value_of manifest)) why
