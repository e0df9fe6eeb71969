-- What keeps a table sound when the file of a name that no handle has is put or removed.
use Rattle.std.proofs.Common.{◌≡◌, ℕ, ◌+◌, ◌-◌, ◌≤◌, ◌<◌, List, length, Bool, true, false, cond, refl, sym, ◌∙◌, ap}
use Rattle.std.proofs.Common.{subst, arith}
use Rattle.std.specs.Prelude.{Option, Some, None, IsTrue, is_some, nat_lt, Ok}
use Rattle.std.proofs.lemmas.Bool.Decides.{nat_tests}
use Rattle.std.specs.BTreeMap.{is_at}
use Rattle.std.specs.Cmp.{Equal-is}
use Rattle.std.specs.List.Sorted.{IsStrictlySortedBy}
use Rattle.std.specs.Map.{keys_of}
use Rattle.std.proofs.lemmas.Cmp.{eq_by_cmp_equiv, nat_list_cmp_total}
use Rattle.std.proofs.lemmas.Map.Entries.{length-keys_of}
use Rattle.std.proofs.lemmas.Map.Lookups.{exact_bytes}
use Rattle.per_base.specs.declared.elements.Element.{Element}
use Rattle.per_base.specs.declared.elements.Cause.{Cause}
use Rattle.per_base.specs.declared.elements.Cause.TheVariants.{Recovery}
use Rattle.per_base.specs.declared.elements.Content.{Content}
use Rattle.per_base.specs.declared.elements.Content.TheVariants.{Good, Bad}
use Rattle.per_base.specs.declared.errors.Limit.TheVariants.{FileBytes}
use Rattle.per_base.specs.declared.errors.PerError.TheVariants.{LimitReached, OutOfStorageSpace}
use Rattle.per_base.specs.declared.opening.OpenKind.TheVariants.{Write}
use Rattle.per_base.specs.Maps.{Map, element_at, has, with_element, without, size_of}
use Rattle.per_base.specs.Names.{name_cmp}
use Rattle.per_base.specs.Contents.{HasLength, is_readable}
use Rattle.file_core.specs.declared.room.Room.{Room}
use Rattle.file_core.specs.Files.{IsFile, NoSalvage, changed_to, too_long}
use Rattle.file_handles.specs.ByName.{HasSalvage, recovered, salvaged, saved_bytes, with_content}
use Rattle.file_handles.specs.Opening.{busy, too_many}
use Rattle.file_handles.specs.declared.storage.Storage.{Storage}
use Rattle.file_handles.specs.Sessions.{Session, Handles, SameBeside, blocking, others, room_for}
use Rattle.file_handles.specs.Tables.{AreFiles, IsTable}
use Rattle.file_handles.specs.lemmas.Entries.{len_fits, size_insert, size_remove, size_set}
use Rattle.file_handles.specs.lemmas.Lookups.{file_put, file_gone}
use Rattle.file_handles.specs.lemmas.Opens.{missing_few, not_blocked}
use Rattle.file_handles.specs.lemmas.Sound.{Unheld, held_beside, unheld_missing}
use Rattle.file_handles.specs.lemmas.Whole.{changed_is_file, file_there, whole_gone, whole_put}

-- a name that no handle blocks for a writer has no handle
pub unheld : (name : List ℕ) (handles : Handles) → blocking Write name handles ≡ None → Unheld handles name
unheld name handles none n h at one = let never : true ≡ false =
    (not_blocked Write name handles none n h at one).1 in absurd (cc)

pub beside_gone : (files : Map) (name : List ℕ) → IsStrictlySortedBy name_cmp (keys_of files)
    → SameBeside files (without files name) name
beside_gone files name sorted other differ = file_gone files other name sorted ∙ rw differ refl

pub beside_put : (files : Map) (name : List ℕ) (new : Element) → SameBeside files (with_element files name new) name
beside_put files name new other differ = file_put files other name new ∙ by (is_at (name_cmp other) name) refl
  where
    by : (b : Bool) → is_at (name_cmp other) name ≡ b → cond b (Some new) (element_at files other)
        ≡ element_at files other
    by true p =
        let one : other ≡ name = exact_bytes other name ((Equal-is (name_cmp other name)).0 p) in
        let itself : is_at (name_cmp name) name ≡ true = (eq_by_cmp_equiv nat_list_cmp_total).refl name in
        let tied : is_at (name_cmp name) other ≡ true = subst (λ x. is_at (name_cmp name) x ≡ true) (sym one) itself in
        absurd (cc)
    by false p = refl

pub renamed : (storage : Storage) (files later : Map) (handles : Handles) (name : List ℕ)
    → IsTable storage files handles → blocking Write name handles ≡ None → SameBeside files later name → AreFiles later
    → IsStrictlySortedBy name_cmp (keys_of later) → length later ≤ 1024 → size_of later ≤ storage.maximum
    → IsTable storage later handles
renamed storage files later handles name t free same whole names few room = record {
  allowed = t.allowed;
  names = names;
  numbers = t.numbers;
  few_files = few;
  few_handles = t.few_handles;
  numbered = t.numbered;
  whole = whole;
  room = room;
  held = held_beside files later handles name t.held same (unheld name handles free);
  alone = t.alone;
}

-- a table without a file that no handle has
pub deleted_sound : (storage : Storage) (files later : Map) (handles : Handles) (name : List ℕ) (old : Element)
    (size taken : ℕ) → IsTable storage files handles → size ≡ size_of files → blocking Write name handles ≡ None
    → element_at files name ≡ Some old → taken ≡ length name + old.len → later ≡ without files name
    → IsStrictlySortedBy name_cmp (keys_of later) → length later ≤ length files
    → IsTable storage later handles × (size - taken ≡ size_of later)
deleted_sound storage files later handles name old size taken t measured free there is_taken is names few =
    let few_files : length files ≤ 1024 = t.few_files in
    let room : size_of files ≤ storage.maximum = t.room in
    let sizes : size_of (without files name) + (length name + old.len) ≡ size_of files =
    size_remove files name old there in
    let same_size : size_of later ≡ size_of (without files name) = ap size_of is in (
      renamed storage files later handles name t free (subst (λ m. SameBeside files m name) (sym is)
          (beside_gone files name t.names)) (subst AreFiles (sym is) (whole_gone files name t.names t.whole)) names
          (omega (arith, few, few_files)) (omega (arith, same_size, sizes, room)),
      omega (arith, measured, is_taken, same_size, sizes),
    )

-- a table with another file under a name that no handle has
pub given_sound : (storage : Storage) (files later : Map) (handles : Handles) (name : List ℕ) (old new : Element)
    (size before after : ℕ) → IsTable storage files handles → size ≡ size_of files → blocking Write name handles ≡ None
    → element_at files name ≡ Some old → before ≡ old.len → after ≡ new.len → size - before + after ≤ storage.maximum
    → IsFile new → later ≡ with_element files name new → keys_of later ≡ keys_of files
    → IsTable storage later handles × (size - before + after ≡ size_of later)
given_sound storage files later handles name old new size before after t measured free there is_before is_after room
    file is keys =
    let few_files : length files ≤ 1024 = t.few_files in
    let sizes : size_of (with_element files name new) + old.len ≡ size_of files + new.len =
    size_set files name old new there t.names in
    let same_size : size_of later ≡ size_of (with_element files name new) = ap size_of is in
    let total : size - before + after ≡ size_of later = omega
    (arith, measured, is_before, is_after, same_size, sizes, len_fits files name old there) in (
      renamed storage files later handles name t free (subst (λ m. SameBeside files m name) (sym is)
          (beside_put files name new))
          (subst AreFiles (sym is) (whole_put files name new t.whole file))
          (subst (λ ks. IsStrictlySortedBy name_cmp ks) (sym keys) t.names)
          (omega (arith, length-keys_of later, length-keys_of files, ap length keys, few_files))
          (omega (arith, total, room)),
      total,
    )

-- a table with a new file that no handle has
pub made_sound : (storage : Storage) (files later : Map) (handles : Handles) (name : List ℕ) (new : Element)
    (size extra : ℕ) → IsTable storage files handles → size ≡ size_of files → element_at files name ≡ None
    → extra ≡ length name + new.len → size + extra ≤ storage.maximum → length files < 1024 → IsFile new
    → later ≡ with_element files name new → IsStrictlySortedBy name_cmp (keys_of later)
    → length later ≤ length files + 1 → IsTable storage later handles × (size + extra ≡ size_of later)
made_sound storage files later handles name new size extra t measured missing is_extra room few_before file is names
    few =
    let sizes : size_of (with_element files name new) ≡ size_of files + (length name + new.len) =
    size_insert files name new missing in
    let same_size : size_of later ≡ size_of (with_element files name new) = ap size_of is in
    let total : size + extra ≡ size_of later = omega (arith, measured, is_extra, same_size, sizes) in (
      record {
        allowed = t.allowed;
        names = names;
        numbers = t.numbers;
        few_files = omega (arith, few, few_before);
        few_handles = t.few_handles;
        numbered = t.numbered;
        whole = subst AreFiles (sym is) (whole_put files name new t.whole file);
        room = omega (arith, total, room);
        held = held_beside files later handles name t.held
            (subst (λ m. SameBeside files m name) (sym is) (beside_put files name new))
            (unheld_missing files handles name t.held missing);
        alone = t.alone;
      },
      total,
    )

-- a content that fits its room is within what the storage is allowed
pub fits_room : (room : Room) (len : ℕ) → too_long room len ≡ None → room.others + len ≤ room.allowed
fits_room room len none = by (nat_lt 1048576 len) refl (nat_lt room.allowed (room.others + len)) refl none
  where
    by : (a : Bool) → nat_lt 1048576 len ≡ a → (b : Bool) → nat_lt room.allowed (room.others + len) ≡ b
        → cond a (Some (LimitReached FileBytes)) (cond b (Some (OutOfStorageSpace (room.others + len) room.allowed))
        None) ≡ None → room.others + len ≤ room.allowed
    by true p b q e = absurd (cc)
    by false p true q e = absurd (cc)
    by false p false q e = grind (arith, nat_tests, q)

pub busy_by_none : (found : Option ℕ) → busy found ≡ None → found ≡ None
busy_by_none None e = refl
busy_by_none (Some number) e = absurd (cc)

-- the whole of giving a file that is there other bytes
pub give_sound : (storage : Storage) (files later : Map) (handles : Handles) (name bytes : List ℕ) (now : ℕ)
    (cause : Cause) (size before after : ℕ) → IsTable storage files handles → size ≡ size_of files
    → busy (blocking Write name handles) ≡ None → IsTrue (has files name)
    → ((old : Element) → element_at files name ≡ Some old → before ≡ old.len) → after ≡ length bytes
    → length bytes ≤ 1048576 → too_long (room_for files name storage.maximum) after ≡ None
    → ((old : Element) → element_at files name ≡ Some old
    → later ≡ with_element files name (changed_to bytes now cause old)) → keys_of later ≡ keys_of files
    → IsTable storage later handles × (size - before + after ≡ size_of later)
give_sound storage files later handles name bytes now cause size before after t measured free there is_before is_after
    small fits is keys = by (element_at files name) refl there
  where
    by : (found : Option Element) → element_at files name ≡ found → IsTrue (is_some found)
        → IsTable storage later handles × (size - before + after ≡ size_of later)
    by None e h = absurd (cc)
    by (Some old) e h =
        let room : others files name (element_at files name) + after ≤ storage.maximum =
        fits_room (room_for files name storage.maximum) after fits in
        let here : size_of files - old.len + after ≤ storage.maximum = rw e at room in
        given_sound storage files later handles name old (changed_to bytes now cause old) size before after t measured
        (busy_by_none (blocking Write name handles) free) e (is_before old e) is_after
        (omega (arith, measured, is_before old e, here)) (changed_is_file bytes now cause old small
        (file_there files name old t.whole e)) (is old e) keys

-- what is saved of a file has its length
pub salvage_len : (file : Element) (salvage : List ℕ) → IsFile file → file.content ≡ Bad (Some salvage)
    → length salvage ≡ file.len
salvage_len file salvage is bad = subst (λ content. HasLength content file.len) bad is.measured

-- the parts of a recovery
pub recovers_good : (storage : Storage) (s : Session) (name : List ℕ) (now : ℕ) (initial : Option (List ℕ))
    (file : Element) (content : Content) → is_readable content ≡ true
    → recovered storage s name now initial file content ≡ Ok s
recovers_good storage s name now initial file (Good bytes) good = refl
recovers_good storage s name now initial file (Bad salvage) good = absurd (cc)

recovers_by : (storage : Storage) (s : Session) (name : List ℕ) (now : ℕ) (initial : Option (List ℕ)) (file : Element)
    (content : Content) → HasSalvage content → recovered storage s name now initial file content
    ≡ Ok (record s { files = with_element s.files name (changed_to (saved_bytes content) now Recovery file) })
recovers_by storage s name now initial file (Good bytes) some = absurd some
recovers_by storage s name now initial file (Bad None) some = absurd some
recovers_by storage s name now initial file (Bad (Some salvage)) some = refl

pub recovers_salvage : (storage : Storage) (s : Session) (name : List ℕ) (now : ℕ) (initial : Option (List ℕ))
    (file : Element) → HasSalvage file.content → recovered storage s name now initial file file.content
    ≡ Ok (record s { files = with_element s.files name (salvaged now file) })
recovers_salvage storage s name now initial file some = recovers_by storage s name now initial file file.content some

pub recovers_initial : (storage : Storage) (s : Session) (name : List ℕ) (now : ℕ) (bytes : List ℕ) (file : Element)
    (content : Content) → is_readable content ≡ false → NoSalvage content
    → recovered storage s name now (Some bytes) file content
    ≡ with_content storage s name (changed_to bytes now Recovery file)
recovers_initial storage s name now bytes file (Good b) bad none = absurd (cc)
recovers_initial storage s name now bytes file (Bad None) bad none = refl
recovers_initial storage s name now bytes file (Bad (Some salvage)) bad none = absurd none

pub recovers_none : (storage : Storage) (s : Session) (name : List ℕ) (now : ℕ) (file : Element) (content : Content)
    → is_readable content ≡ false → NoSalvage content → recovered storage s name now None file content
    ≡ Ok (record s { files = without s.files name })
recovers_none storage s name now file (Good b) bad none = absurd (cc)
recovers_none storage s name now file (Bad None) bad none = refl
recovers_none storage s name now file (Bad (Some salvage)) bad none = absurd none

-- the whole of a new file with its initial content
pub make_sound : (storage : Storage) (files later : Map) (handles : Handles) (name : List ℕ) (new : Element)
    (size extra len : ℕ) → IsTable storage files handles → size ≡ size_of files → element_at files name ≡ None
    → too_many files name ≡ None → extra ≡ length name + len → IsFile new → new.len ≡ len
    → too_long (room_for files name storage.maximum) len ≡ None → later ≡ with_element files name new
    → IsStrictlySortedBy name_cmp (keys_of later) → length later ≤ length files + 1
    → IsTable storage later handles × (size + extra ≡ size_of later)
make_sound storage files later handles name new size extra len t measured missing space is_extra file is_len fits is
    names few =
    let room : others files name (element_at files name) + len ≤ storage.maximum =
    fits_room (room_for files name storage.maximum) len fits in
    let here : size_of files + length name + len ≤ storage.maximum = rw missing at room in
    made_sound storage files later handles name new size extra t measured missing (omega (arith, is_extra, is_len))
    (omega (arith, measured, is_extra, here)) (missing_few files name missing space) file is names few
