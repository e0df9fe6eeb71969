-- The text of a listing: application by application, what its root says, the files of the root's copies, and the
-- storages of the active version and of the previous one.
use Rattle.std.specs.Prelude.{ℕ, zero, suc, ◌+◌, List, [], ◌∷◌, ◌++◌, codes, drop, length, Bool, true, false, Option}
use Rattle.std.specs.Prelude.{Some, None, option_map}
use Rattle.std.specs.List.{flat_map, range_with_len}
use Rattle.std.specs.Fmt.{decimal}
use Rattle.per_base.specs.declared.elements.StoreKind.{StoreKind}
use Rattle.per_base.specs.declared.elements.StoreKind.TheVariants.{Keys, Files}
use Rattle.disk_model.specs.declared.place.Place.{Place}
use Rattle.disk_model.specs.Image.{Image}
use Rattle.disk_model.specs.Place.{slot, area}
use Rattle.deployment_model.specs.Data.{StorageData}
use Rattle.element_state.specs.declared.shapes.View.{View}
use Rattle.element_state.specs.Chosen.{opened_of}
use Rattle.element_state.specs.Conditions.{size_of}
use Rattle.element_state.specs.States.{State}
use Rattle.deploy_laws.specs.Apps.{App, Says, nothing, absent, installed, app_at}
use Rattle.deploy_laws.specs.Places.{Named, root_place, storage_shape, copies_of_root}
use Rattle.per_list.specs.declared.forms.Form.{Form}
use Rattle.per_list.specs.declared.forms.Form.TheVariants.{Lines, Json}
use Rattle.per_list.specs.declared.forms.Held.{Held}

-- ---- words

-- in JSON a comma stands before every item of a list but the first
abbrev pub comma : (number : ℕ) → List ℕ
comma zero = []
comma (suc number) = codes ","

-- a number, or a word for none
abbrev pub number_text : Form → Option ℕ → List ℕ
number_text Lines None = codes "-"
number_text Json None = codes "null"
number_text form (Some number) = decimal number

-- the word for the kind of a storage
abbrev pub store_kind_word : StoreKind → List ℕ
store_kind_word Keys = codes "keys"
store_kind_word Files = codes "files"

-- whether a storage may be written
abbrev pub access_word : (read_only : Bool) → List ℕ
access_word true = codes "read-only"
access_word false = codes "writable"

-- in JSON, what ends the last list of an object, and the object
abbrev pub list_end : Form → List ℕ
list_end Lines = []
list_end Json = codes "]}"

-- ---- the files of a copy, which is counted from 0 here and from 1 in the text

-- the two slots of a copy of a root
abbrev pub root_copy : Form → (app copy : ℕ) → List ℕ
root_copy Lines app copy = codes "root " ++ decimal app ++ codes " " ++ decimal (copy + 1)
    ++ codes " f" ++ decimal (slot (root_place app) copy 0)
    ++ codes " f" ++ decimal (slot (root_place app) copy 1) ++ codes "\n"
root_copy Json app copy = comma copy ++ codes "[\"f" ++ decimal (slot (root_place app) copy 0)
    ++ codes "\",\"f" ++ decimal (slot (root_place app) copy 1) ++ codes "\"]"

-- those of all copies of a root
abbrev pub root_copies : Form → (app : ℕ) → List ℕ
root_copies form app = flat_map (root_copy form app) (range_with_len 0 copies_of_root)

-- the two slots and the area of a copy of a storage: a line in words, or an item of a JSON list
unfoldable pub copy_name : (app bank : ℕ) → (name : List ℕ) → List ℕ
copy_name app bank name = codes "copy " ++ decimal app ++ codes " " ++ decimal bank ++ codes " " ++ name

unfoldable pub copy_words : (number even odd area : ℕ) → List ℕ
copy_words number even odd area = codes " " ++ (decimal number ++ (codes " f" ++ (decimal even ++ (codes " f"
    ++ (decimal odd ++ (codes " f" ++ (decimal area ++ codes "\n")))))))

unfoldable pub copy_members : (even odd area : ℕ) → List ℕ
copy_members even odd area = codes "[\"f" ++ (decimal even ++ (codes "\",\"f" ++ (decimal odd ++ (codes "\",\"f"
    ++ (decimal area ++ codes "\"]")))))

-- the files of a copy of the storage with this place, whichever the form
abbrev pub copy_text : Form → (app bank : ℕ) → (name : List ℕ) → Place → (copy : ℕ) → List ℕ
copy_text Lines app bank name place copy = copy_name app bank name
    ++ copy_words (copy + 1) (slot place copy 0) (slot place copy 1) (area place copy)
copy_text Json app bank name place copy =
    comma copy ++ copy_members (slot place copy 0) (slot place copy 1) (area place copy)

-- those of all of its copies
abbrev pub storage_files : Form → (app bank : ℕ) → (name : List ℕ) → Place → List ℕ
storage_files form app bank name place = flat_map (copy_text form app bank name place) (range_with_len 0 place.copies)

-- ---- a storage

-- what a storage holds at the view at which it opens
abbrev pub held_in : View → Held
held_in v = record { elements = length v.entries; bytes = size_of v.entries }

-- how the text of a storage begins; `number` is counted from 0, in its version
unfoldable pub storage_name : Form → (app bank number : ℕ) → (name : List ℕ) → List ℕ
storage_name Lines app bank number name = codes "storage " ++ decimal app ++ codes " " ++ decimal bank ++ codes " "
    ++ name ++ codes " "
storage_name Json app bank number name = comma number ++ codes "{\"name\":\"" ++ name ++ codes "\","

-- the kind, whether it is read-only, and how many of how many copies must agree
unfoldable pub config_words : StorageData → List ℕ
config_words s = store_kind_word s.kind ++ codes " " ++ access_word s.read_only ++ codes " m " ++ decimal s.m
    ++ codes " n " ++ decimal s.n ++ codes " "

-- the same in JSON, member by member
unfoldable pub kind_member : StoreKind → List ℕ
kind_member kind = codes "\"kind\":\"" ++ store_kind_word kind ++ codes "\","

abbrev pub access_member : (read_only : Bool) → List ℕ
access_member true = codes "\"readOnly\":true"
access_member false = codes "\"readOnly\":false"

unfoldable pub copies_members : (m n : ℕ) → List ℕ
copies_members m n = codes ",\"m\":" ++ decimal m ++ codes ",\"n\":" ++ decimal n ++ codes ","

-- the kind, whether it is read-only, and that m of n copies must agree, in this form
abbrev pub config_text : Form → StorageData → List ℕ
config_text Lines s = config_words s
config_text Json s = kind_member s.kind ++ access_member s.read_only ++ copies_members s.m s.n

-- what a storage that opens holds and may hold
unfoldable pub opened_words : (maximum elements bytes : ℕ) → List ℕ
opened_words maximum elements bytes = codes "opens elements " ++ (decimal elements ++ (codes " of 1024 bytes "
    ++ (decimal bytes ++ (codes " of " ++ (decimal maximum ++ codes "\n")))))

unfoldable pub opened_members : (maximum elements bytes : ℕ) → List ℕ
opened_members maximum elements bytes = codes "\"state\":\"opens\",\"elements\":" ++ (decimal elements
    ++ (codes ",\"maximumElements\":1024,\"bytes\":" ++ (decimal bytes ++ (codes ",\"maximumBytes\":"
    ++ (decimal maximum ++ codes ",\"copies\":[")))))

-- of a storage that is corrupt nobody knows what it holds
unfoldable pub corrupt_words : (maximum : ℕ) → List ℕ
corrupt_words maximum = codes "corrupt elements - of 1024 bytes - of " ++ (decimal maximum ++ codes "\n")

unfoldable pub corrupt_members : (maximum : ℕ) → List ℕ
corrupt_members maximum =
    codes "\"state\":\"corrupt\",\"elements\":null,\"maximumElements\":1024,\"bytes\":null,\"maximumBytes\":"
    ++ (decimal maximum ++ codes ",\"copies\":[")

-- what it holds and may hold, `maximum` bytes at most; `None` where it is corrupt
abbrev pub held_text : Form → (maximum : ℕ) → Option Held → List ℕ
held_text Lines maximum (Some held) = opened_words maximum held.elements held.bytes
held_text Lines maximum None = corrupt_words maximum
held_text Json maximum (Some held) = opened_members maximum held.elements held.bytes
held_text Json maximum None = corrupt_members maximum

-- all that is said of the storage of this number of a bank
abbrev pub storage_text : Form → (app bank number : ℕ) → StorageData → Place → Option Held → List ℕ
storage_text form app bank number s place held = storage_name form app bank number s.name ++ config_text form s
    ++ held_text form s.maximum held ++ storage_files form app bank s.name place ++ list_end form

-- the storage of this number of a bank, by its state
abbrev pub storage_by : Form → (app bank number : ℕ) → StorageData → State → List ℕ
storage_by form app bank number s state = storage_text form app bank number s
    (storage_shape app bank number s).place (option_map held_in (opened_of state))

-- storage by storage from this number on, each with its state
abbrev pub storages_by : Form → (app bank number : ℕ) → List StorageData → List State → List ℕ
storages_by form app bank number [] states = []
storages_by form app bank number (s ∷ storages) [] = []
storages_by form app bank number (s ∷ storages) (state ∷ states) =
    storage_by form app bank number s state ++ storages_by form app bank (suc number) storages states

-- ---- an application

-- one whose root says nothing
unfoldable pub bad_head : Form → (app : ℕ) → List ℕ
bad_head Lines app = codes "application " ++ decimal app ++ codes " corrupt\n"
bad_head Json app = comma app ++ codes "{\"application\":" ++ decimal app ++ codes ",\"state\":\"corrupt\",\"root\":["

-- all that is said of an application whose root is bad
abbrev pub bad_text : Form → (app : ℕ) → List ℕ
bad_text form app = bad_head form app ++ root_copies form app ++ list_end form

-- of one of which nothing is installed the lines say nothing
abbrev pub absent_text : Form → (app : ℕ) → List ℕ
absent_text Lines app = []
absent_text Json app = comma app ++ codes "{\"application\":" ++ decimal app ++ codes ",\"state\":\"absent\"}"

-- its version and the bank of that, and the version before, where that is kept
unfoldable pub version_words : (app bank version : ℕ) → List ℕ
version_words app bank version = codes "application " ++ (decimal app ++ (codes " version " ++ (decimal version
    ++ (codes " bank " ++ (decimal bank ++ codes " previous ")))))

unfoldable pub version_members : (app bank version : ℕ) → List ℕ
version_members app bank version = codes "{\"application\":" ++ (decimal app
    ++ (codes ",\"state\":\"installed\",\"version\":" ++ (decimal version ++ (codes ",\"bank\":" ++ (decimal bank
    ++ codes ",\"previous\":")))))

-- its version, the bank of that, and the version before, in this form
abbrev pub version_facts : Form → (app bank version : ℕ) → (previous : Option ℕ) → List ℕ
version_facts Lines app bank version previous =
    version_words app bank version ++ number_text Lines previous ++ codes "\n"
version_facts Json app bank version previous =
    comma app ++ version_members app bank version ++ number_text Json previous ++ codes ",\"root\":["

-- in JSON, what is between the copies of the root and the storages of the active version
abbrev pub between : Form → List ℕ
between Lines = []
between Json = codes "],\"storages\":["

-- in JSON, what is between these and the storages of the previous version
abbrev pub next_list : Form → List ℕ
next_list Lines = []
next_list Json = codes "],\"previousStorages\":["

-- what stands before the storages of an application with a version: its facts, and the files of the root's copies
abbrev pub version_head : Form → (app bank version : ℕ) → (previous : Option ℕ) → List ℕ
version_head form app bank version previous =
    version_facts form app bank version previous ++ root_copies form app ++ between form

-- the version's number, as its manifest has it
abbrev pub version_number : Named → ℕ
version_number v = v.deployment.version

-- the storages of a version, each with its state
abbrev pub version_by : Form → (app : ℕ) → Named → List State → List ℕ
version_by form app v states = storages_by form app v.bank 0 v.deployment.storages states

-- the same of the previous version, where that is kept
abbrev pub previous_by : Form → (app : ℕ) → Option Named → List State → List ℕ
previous_by form app None states = []
previous_by form app (Some v) states = version_by form app v states

-- by what its root says, and the states of the storages that the root names: those of the active version, and then
-- those of the previous one
abbrev pub app_by : Form → (app : ℕ) → Says → List State → List ℕ
app_by form app nothing states = bad_text form app
app_by form app (absent g) states = absent_text form app
app_by form app (installed g active previous) states =
    version_head form app active.bank active.deployment.version (option_map version_number previous)
    ++ version_by form app active states ++ next_list form
    ++ previous_by form app previous (drop (length active.deployment.storages) states) ++ list_end form

-- what is said of an application, by what is on the disk of it
unfoldable pub app_text : Form → (app : ℕ) → App → List ℕ
app_text form app a = app_by form app a.says a.states

-- ---- a disk

-- how the text of a disk begins, and how it ends
abbrev pub listing_head : Form → List ℕ
listing_head Lines = []
listing_head Json = codes "{\"applications\":["

abbrev pub listing_end : Form → List ℕ
listing_end Lines = []
listing_end Json = codes "]}\n"

-- the listing of a disk: its eight applications, in their order
unfoldable pub listing_text : Form → Image → List ℕ
listing_text form image = listing_head form
    ++ flat_map (λ app. app_text form app (app_at image app)) (range_with_len 0 8) ++ listing_end form
