-- What was asked first is not refused midway.
use Rattle.std.proofs.Common.{◌≡◌, ℕ, ◌+◌, ◌-◌, ◌≤◌, List, [], length, min, Bool, true, false, cond, refl, sym, ◌∙◌, ap}
use Rattle.std.proofs.Common.{subst, arith, length-append, length-drop}
use Rattle.std.specs.Prelude.{Option, Some, None, Result, Ok, Err, not, ◌&&◌, ◌==◌, nat_lt}
use Rattle.std.specs.BTreeMap.{is_at}
use Rattle.std.specs.List.Sorted.{IsStrictlySortedBy}
use Rattle.std.specs.Map.{keys_of}
use Rattle.std.specs.Ordering.{nat_cmp}
use Rattle.std.proofs.lemmas.Bool.Decides.{nat_tests}
use Rattle.std.proofs.lemmas.Cmp.{eq_by_cmp_equiv, nat_cmp_total}
use Rattle.per_base.specs.declared.elements.Element.{Element}
use Rattle.per_base.specs.declared.elements.FileInfo.{FileInfo}
use Rattle.per_base.specs.declared.errors.PerError.{PerError}
use Rattle.per_base.specs.declared.errors.PerError.TheVariants.{FileNotFound, IllegalWriteAccess, InvalidOpenMode}
use Rattle.per_base.specs.declared.opening.OpenKind.TheVariants.{Read, Write}
use Rattle.per_base.specs.declared.opening.OpenMode.{OpenMode}
use Rattle.per_base.specs.Maps.{Map, element_at, has, size_of, with_element}
use Rattle.per_base.specs.Names.{name_cmp}
use Rattle.per_base.specs.Contents.{readable_bytes}
use Rattle.per_base.specs.Refusals.{IsDue, refused_by}
use Rattle.per_base.specs.Modes.{plain, truncating}
use Rattle.file_core.specs.declared.cursor.Cursor.{Cursor}
use Rattle.file_core.specs.declared.room.Room.{Room}
use Rattle.file_core.specs.Files.{file_of, too_long, written}
use Rattle.file_core.specs.Places.{is_bad_mode, opening_place, overwritten, write_place, writes}
use Rattle.file_handles.specs.declared.handle.Handle.{Handle}
use Rattle.file_handles.specs.declared.storage.Storage.{Storage}
use Rattle.file_handles.specs.Handling.{changing, write}
use Rattle.file_handles.specs.Opening.{can_open, file_opened, no_room_to_create, open_file, when, with_opened}
use Rattle.file_handles.specs.Opening.{would_fit}
use Rattle.file_handles.specs.Sessions.{Handles, Session, free_number, handle_at, open_at, others, room_for}
use Rattle.file_handles.specs.Sessions.{with_changed, with_handle}
use Rattle.file_handles.specs.Whole.{SameContentLaw, and_then, bytes_of_file, cat, put_whole, released}
use Rattle.file_handles.specs.lemmas.Entries.{size_insert, size_set}
use Rattle.file_handles.specs.lemmas.Lookups.{handle_put}
use Rattle.file_handles.specs.lemmas.Named.{fits_room}
use Rattle.file_handles.specs.lemmas.Opens.{first_none, put_there, when_none}

-- ---- what an opening is allowed

-- a file that may be read is there
reader_there : (storage : Storage) (s : Session) (name : List ℕ) (mode : OpenMode)
    → can_open storage s name Read mode ≡ None → not (has s.files name) ≡ false
reader_there storage s name mode none =
    let one = first_none (when (is_bad_mode Read mode) InvalidOpenMode) _ none in
    let two = first_none (when (writes Read && storage.read_only) IllegalWriteAccess) _ one.1 in
    let three = first_none (when (not (writes Read) && not (has s.files name)) FileNotFound) _ two.1 in
    when_none (not (has s.files name)) FileNotFound three.0

reader_has_room : (storage : Storage) (s : Session) (name : List ℕ) (mode : OpenMode)
    → can_open storage s name Read mode ≡ None → no_room_to_create storage s.files name ≡ None
reader_has_room storage s name mode none = rw (reader_there storage s name mode none) refl

-- a storage in which a file may be written is not read-only
pub writer_allowed : (storage : Storage) (s : Session) (name : List ℕ) (mode : OpenMode)
    → can_open storage s name Write mode ≡ None → storage.read_only ≡ false
writer_allowed storage s name mode none =
    let one = first_none (when (is_bad_mode Write mode) InvalidOpenMode) _ none in
    let two = first_none (when (writes Write && storage.read_only) IllegalWriteAccess) _ one.1 in
    when_none storage.read_only IllegalWriteAccess two.0

-- where a content fits, an empty file does
writer_has_room : (storage : Storage) (files : Map) (name : List ℕ) (len : ℕ) → would_fit storage files name len ≡ None
    → no_room_to_create storage files name ≡ None
writer_has_room storage files name len fits = by (element_at files name) refl
  where
    room : others files name (element_at files name) + len ≤ storage.maximum
    room = fits_room (room_for files name storage.maximum) len fits

    by : (found : Option Element) → element_at files name ≡ found → no_room_to_create storage files name ≡ None
    by (Some file) p = rw p refl
    by None p =
        let here : size_of files + length name + len ≤ storage.maximum = rw p at room in
        let enough : nat_lt storage.maximum (size_of files + length name) ≡ false = grind (arith, nat_tests, here) in
        rw (p, enough) refl

-- ---- reading

pub cat_due : (storage : Storage) (s : Session) (name : List ℕ) (now : ℕ) → can_open storage s name Read plain ≡ None
    → IsDue (cat storage s name now)
cat_due storage s name now none = rw (none, reader_has_room storage s name plain none) tt

pub refused_ok : {A : Type 0} (error : Option PerError) (rest : Result A PerError) (answer : A)
    → refused_by error rest ≡ Ok answer → rest ≡ Ok answer
refused_ok None rest answer is = is
refused_ok (Some error) rest answer is = absurd (cc)

bytes_opened : (read_only : Bool) (now : ℕ) (found : Option Element)
    → readable_bytes (file_opened read_only plain now found).content ≡ bytes_of_file found
bytes_opened read_only now None = refl
bytes_opened true now (Some file) = refl
bytes_opened false now (Some file) = refl

pub same_content : (storage : Storage) (s : Session) (name : List ℕ) (now : ℕ) (opened : ℕ × Session)
    → open_file storage s name Read plain now ≡ Ok opened
    → bytes_of_file (element_at opened.1.files name) ≡ bytes_of_file (element_at s.files name)
same_content storage s name now opened is =
    let file : Element = file_opened storage.read_only plain now (element_at s.files name) in
    let after : ℕ × Session = with_opened s name Read plain file in
    let roomy : Ok after ≡ Ok opened = refused_ok (no_room_to_create storage s.files name) (Ok after) opened
    (refused_ok (can_open storage s name Read plain) _ opened is) in
    let same : after ≡ opened = cc in
    subst (λ (o : ℕ × Session). bytes_of_file (element_at o.1.files name)
    ≡ bytes_of_file (element_at s.files name)) same
    (ap bytes_of_file (put_there s.files name file) ∙ bytes_opened storage.read_only now (element_at s.files name))

-- ---- writing

-- an empty file, as the opening leaves it
emptied : (found : Option Element) (now : ℕ) → (info : Option FileInfo)
    × (file_opened false truncating now found ≡ file_of info [])
emptied None now = (_, refl)
emptied (Some file) now = (_, refl)

pub no_place : (cursor : Cursor) → write_place cursor [] ≡ 0
no_place cursor = by cursor.append
  where
    by : (appends : Bool) → cond appends 0 (min cursor.position 0) ≡ 0
    by true = refl
    by false = omega arith

over_nothing : (from : ℕ) (piece : List ℕ) → from ≡ 0 → length (overwritten from piece []) ≡ length piece
over_nothing from piece is = rw is (simp (length-append, length-drop) (omega arith))

due_either : {A : Type 0} (test : Bool) (one other : A) (error : Option PerError) → error ≡ None
    → IsDue (cond test (let r : Result A PerError = Ok one in r) (refused_by error (Ok other)))
due_either true one other error none = tt
due_either false one other error none = rw none tt

written_due : (cursor : Cursor) (info : Option FileInfo) (piece : List ℕ) (now : ℕ) (room : Room) → cursor.kind ≡ Write
    → too_long room (length piece) ≡ None → IsDue (written cursor (file_of info []) piece now room)
written_due cursor info piece now room kind fits =
    let same : length (overwritten (write_place cursor []) piece []) ≡ length piece =
    over_nothing (write_place cursor []) piece (no_place cursor) in
    let none : too_long room (length (overwritten (write_place cursor []) piece [])) ≡ None =
    subst (λ n. too_long room n ≡ None) (sym same) fits in
    rw kind (due_either (length piece == 0) _ _ (too_long room (length (overwritten (write_place cursor []) piece [])))
    none)

changing_due : (s : Session) (number : ℕ) (handle : Handle) (files : Map) (name : List ℕ)
    (r : Result (Cursor × Element) PerError) → IsDue r
    → IsDue (and_then (changing s number handle (with_changed files name r)) (λ after. Ok (released after number)))
changing_due s number handle files name (Ok new) due = tt
changing_due s number handle files name (Err error) due = due

pub handle_there : (handles : Handles) (number : ℕ) (handle : Handle)
    → handle_at (with_handle handles number handle) number ≡ Some handle
handle_there handles number handle =
    let itself : is_at (nat_cmp number) number ≡ true = (eq_by_cmp_equiv nat_cmp_total).refl number in
    rw handle_put (rw itself refl)

-- all else takes as much as before
pub same_others : (files : Map) (name : List ℕ) (info : Option FileInfo) → IsStrictlySortedBy name_cmp (keys_of files)
    → size_of (with_element files name (file_of info [])) - 0 ≡ others files name (element_at files name)
same_others files name info sorted = by (element_at files name) refl
  where
    by : (found : Option Element) → element_at files name ≡ found
        → size_of (with_element files name (file_of info [])) - 0 ≡ others files name found
    by None p = let grown : size_of (with_element files name (file_of info [])) ≡ size_of files + (length name + 0) =
        size_insert files name (file_of info []) p in omega (arith, grown)
    by (Some old) p =
        let same : size_of (with_element files name (file_of info [])) + old.len ≡ size_of files + 0 =
        size_set files name old (file_of info []) p sorted in
        omega (arith, same)

write_due : (storage : Storage) (s : Session) (name bytes : List ℕ) (now : ℕ) (info : Option FileInfo)
    → IsStrictlySortedBy name_cmp (keys_of s.files) → would_fit storage s.files name (length bytes) ≡ None
    → (let o : ℕ × Session = with_opened s name Write truncating (file_of info []) in
    IsDue (and_then (write storage o.1 now o.0 bytes) (λ after. Ok (released after o.0))))
write_due storage s name bytes now info sorted fits =
    let file : Element = file_of info [] in
    let o : ℕ × Session = with_opened s name Write truncating file in
    let handle : Handle = record { name = name; cursor = opening_place Write truncating 0 } in
    let is_open : open_at o.1 o.0 ≡ Some (handle, file) =
    rw (handle_there s.handles (free_number s.handles) handle) (rw (put_there s.files name file) refl) in
    let room : Room = room_for o.1.files name storage.maximum in
    let now_others : room.others ≡ others s.files name (element_at s.files name) =
    rw (put_there s.files name file) (same_others s.files name info sorted) in
    let roomy : too_long room (length bytes) ≡ None = subst
    (λ n. too_long (let r : Room = record { others = n; allowed = storage.maximum } in r) (length bytes) ≡ None)
    (sym now_others) fits in
    rw is_open (changing_due o.1 o.0 handle o.1.files name (written handle.cursor file bytes now room)
    (written_due handle.cursor info bytes now room refl roomy))

pub put_due : (storage : Storage) (s : Session) (name bytes : List ℕ) (now : ℕ)
    → IsStrictlySortedBy name_cmp (keys_of s.files)
    → can_open storage s name Write truncating ≡ None → would_fit storage s.files name (length bytes) ≡ None
    → IsDue (put_whole storage s name bytes now)
put_due storage s name bytes now sorted none fits =
    let e = emptied (element_at s.files name) now in
    rw (
      none,
      fits,
      writer_has_room storage s.files name (length bytes) fits,
      writer_allowed storage s name truncating none,
      e.1,
    )
    (write_due storage s name bytes now e.0 sorted fits)

-- ---- what the calls answer

pub cat_given : SameContentLaw → (storage : Storage) (s mid : Session) (name : List ℕ) (now number : ℕ)
    (content : List ℕ) → open_file storage s name Read plain now ≡ Ok (number, mid)
    → content ≡ bytes_of_file (element_at s.files name) → cat storage s name now ≡ Ok (content, released mid number)
cat_given law storage s mid name now number content is read =
    let step : cat storage s name now ≡ Ok (bytes_of_file (element_at mid.files name), released mid number) =
    ap (λ (r : Result (ℕ × Session) PerError). and_then r
    (λ o. Ok (bytes_of_file (element_at o.1.files name), released o.1 o.0))) is in
    step ∙ ap (λ (b : List ℕ). Ok (b, released mid number)) (law storage s name now (number, mid) is ∙ sym read)

-- what was asked, written and released
pub put_is : (storage : Storage) (s mid : Session) (name bytes : List ℕ) (now number : ℕ)
    → can_open storage s name Write truncating ≡ None → would_fit storage s.files name (length bytes) ≡ None
    → open_file storage s name Write truncating now ≡ Ok (number, mid)
    → put_whole storage s name bytes now ≡ and_then (write storage mid now number bytes)
    (λ after. Ok (released after number))
put_is storage s mid name bytes now number none fits is =
    let one : put_whole storage s name bytes now ≡ and_then (open_file storage s name Write truncating now)
    (λ o. and_then (write storage o.1 now o.0 bytes) (λ after. Ok (released after o.0))) = rw (none, fits) refl in
    one ∙ ap (λ (r : Result (ℕ × Session) PerError). and_then r
    (λ o. and_then (write storage o.1 now o.0 bytes) (λ after. Ok (released after o.0)))) is
