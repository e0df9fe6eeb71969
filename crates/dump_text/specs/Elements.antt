-- An element of a dump as JSON: of a key the text of its value, and of a file an object with its content in hexadecimal
-- and its info.
use Rattle.std.specs.Prelude.{◌≡◌, ℕ, List, [], ◌∷◌, codes, Bool, false, nat_eq, Option, Some, None, option_and_then, ⊤}
use Rattle.per_base.specs.declared.elements.Cause.{Cause}
use Rattle.per_base.specs.declared.elements.Cause.TheVariants.{Installation, Update, Reset, Recovery, Application}
use Rattle.per_base.specs.declared.elements.FileInfo.{FileInfo}
use Rattle.per_base.specs.declared.elements.Fresh.{Fresh}
use Rattle.per_base.specs.declared.elements.StoreKind.{StoreKind}
use Rattle.per_base.specs.declared.elements.StoreKind.TheVariants.{Files, Keys}
use Rattle.per_base.specs.Fields.{◌>>=◌, only_if}
use Rattle.per_base.specs.Maps.{first_row}
use Rattle.per_base.specs.Names.{is_name}
use Rattle.value_model.specs.Encoding.{encoding}
use Rattle.value_text.specs.Parsing.{value_in}
use Rattle.value_text.specs.Texts.{hex_text}
use Rattle.value_text.specs.Whole.{bytes_in}
use Rattle.serde_json.specs.Data.{Data, Members, member, no_members, number, object, string, unsigned}
use Rattle.serde_json.specs.Events.{members_len}
use Rattle.serde_json.specs.Find.{as_number, as_object, as_str, as_u64, get}

-- ---- the members of an object

-- the text, number or object that a member has as its value, where the member is there and is such a one
abbrev pub member_text : (name : List ℕ) → Data → Option (List ℕ)
member_text name d = option_and_then as_str (get name d)

abbrev pub member_number : (name : List ℕ) → Data → Option ℕ
member_number name d = option_and_then as_u64 (option_and_then as_number (get name d))

abbrev pub member_object : (name : List ℕ) → Data → Option Members
member_object name d = option_and_then as_object (get name d)

-- there are members, and this many
abbrev pub are_so_many : ℕ → Option Members → Bool
are_so_many count None = false
are_so_many count (Some members) = nat_eq (members_len members) count

-- it is an object of this many members
abbrev pub has_members : ℕ → Data → Bool
has_members count d = are_so_many count (as_object d)

-- nothing, where it has no members beside this many
abbrev pub only_members : ℕ → Data → Option ⊤
only_members count d = only_if (has_members count d) tt

-- ---- a file

-- the word for who made or changed a file
abbrev pub cause_word : Cause → List ℕ
cause_word Installation = codes "installation"
cause_word Update = codes "update"
cause_word Reset = codes "reset"
cause_word Recovery = codes "recovery"
cause_word Application = codes "application"

-- what is written of a file
abbrev pub file_data : FileInfo → (content : List ℕ) → Data
file_data info content = object (member (codes "accessed") (number (unsigned info.accessed))
    (member (codes "content") (string (hex_text content)) (member (codes "created") (number (unsigned info.created))
    (member (codes "creation") (string (cause_word info.creation))
    (member (codes "modification") (string (cause_word info.modification))
    (member (codes "modified") (number (unsigned info.modified)) no_members))))))

-- the cause that a word says
unfoldable pub cause_said : List ℕ → Option Cause
cause_said word = first_row ((codes "installation", Installation) ∷ (codes "update", Update) ∷ (codes "reset", Reset)
    ∷ (codes "recovery", Recovery) ∷ (codes "application", Application) ∷ []) word

-- the member of this name, where it is the word of a cause; where it is bytes in hexadecimal
unfoldable pub member_cause : (name : List ℕ) → Data → Option Cause
member_cause name d = do
  word ← member_text name d
  cause_said word

unfoldable pub member_bytes : (name : List ℕ) → Data → Option (List ℕ)
member_bytes name d = do
  digits ← member_text name d
  bytes_in digits

-- the info that the members of a file say: three times, and what made and what changed it
unfoldable pub info_in : Data → Option FileInfo
info_in d = do
  created ← member_number (codes "created") d
  modified ← member_number (codes "modified") d
  accessed ← member_number (codes "accessed") d
  creation ← member_cause (codes "creation") d
  modification ← member_cause (codes "modification") d
  Some (record {
    created = created;
    modified = modified;
    accessed = accessed;
    creation = creation;
    modification = modification;
  })

-- the info and the content that are read of a file, which has no other members
unfoldable pub file_in : Data → Option (FileInfo × List ℕ)
file_in d = do
  info ← info_in d
  content ← member_bytes (codes "content") d
  only_if (has_members 6 d) (info, content)

-- ---- a key

-- the encoding of the value that its text spells
unfoldable pub key_in : Data → Option (List ℕ)
key_in d = do
  text ← as_str d
  value ← value_in text
  Some (encoding value)

-- ---- an element

-- the element whose member has this name, read by the kind of its storage; none where the name is no name of an element
unfoldable pub dumped_element_in : StoreKind → (name : List ℕ) → Data → Option Fresh
dumped_element_in Keys name d = do
  known ← only_if (is_name name) name
  bytes ← key_in d
  Some (record { name = known; info = None; bytes = bytes })
dumped_element_in Files name d = do
  known ← only_if (is_name name) name
  file ← file_in d
  Some (record { name = known; info = Some file.0; bytes = file.1 })

-- what each member of an object is read as, where each is read
unfoldable pub read_members : {A : Type 0} → (List ℕ → Data → Option A) → Members → Option (List A)
read_members read no_members = Some []
read_members read (member name d members) = do
  first ← read name d
  others ← read_members read members
  Some (first ∷ others)

-- the elements of a storage, by their names
abbrev pub dumped_elements_in : StoreKind → Members → Option (List Fresh)
dumped_elements_in kind members = read_members (dumped_element_in kind) members

-- an object of which the members are read as these, in their order
abbrev pub IsObjectOf : {A : Type 0} → (List ℕ → Data → Option A) → List A → Data → Type 0
IsObjectOf read xs d = (members : Members) × (d ≡ object members) × (read_members read members ≡ Some xs)

-- the name of the member that has the elements of a storage of this kind
abbrev pub dumped_word : StoreKind → List ℕ
dumped_word Keys = codes "keys"
dumped_word Files = codes "files"
