-- A file that an opening emptied, and its content given at once: what a put through a handle makes of it.
use Rattle.std.proofs.Common.{◌≡◌, ℕ, ◌+◌, List, [], ◌∷◌, length, false, refl, sym, ◌∙◌, ap, subst, append-nil, arith}
use Rattle.std.specs.Prelude.{Option, Some, None, Result, Ok, ◌==◌, option_map}
use Rattle.std.specs.declared.cmp.Ordering.{Ordering}
use Rattle.std.specs.declared.cmp.Ordering.TheVariants.{Less, Equal, Greater}
use Rattle.std.specs.BTreeMap.{insert_entry}
use Rattle.std.specs.Cmp.{Equal-is, IsTotalOrder}
use Rattle.std.specs.List.Sorted.{IsStrictlySortedBy}
use Rattle.std.specs.Map.{keys_of}
use Rattle.std.specs.Ordering.{match_ordering}
use Rattle.std.proofs.lemmas.Bool.Decides.{nat_tests}
use Rattle.std.proofs.lemmas.Cmp.{eq_by_cmp_equiv, nat_cmp_total}
use Rattle.std.proofs.Math.Seq.{drop-nil}
use Rattle.per_base.specs.declared.elements.Cause.TheVariants.{Application}
use Rattle.per_base.specs.declared.elements.Element.{Element}
use Rattle.per_base.specs.declared.elements.FileInfo.{FileInfo}
use Rattle.per_base.specs.declared.errors.PerError.{PerError}
use Rattle.per_base.specs.declared.opening.OpenKind.TheVariants.{Write}
use Rattle.per_base.specs.Maps.{Map, element_at, with_element}
use Rattle.per_base.specs.Names.{name_cmp}
use Rattle.per_base.specs.Modes.{truncating}
use Rattle.file_core.specs.declared.cursor.Cursor.{Cursor}
use Rattle.file_core.specs.declared.room.Room.{Room}
use Rattle.file_core.specs.Files.{changed_to, file_of, too_long, written}
use Rattle.file_core.specs.Infos.{info_changed, made, opened_info}
use Rattle.file_core.specs.Places.{moved, opening_place, overwritten, write_place}
use Rattle.file_handles.specs.declared.handle.Handle.{Handle}
use Rattle.file_handles.specs.declared.storage.Storage.{Storage}
use Rattle.file_handles.specs.Handling.{write}
use Rattle.file_handles.specs.Opening.{busy, can_open, file_opened, no_room_to_create, open_file, with_opened}
use Rattle.file_handles.specs.Opening.{would_fit}
use Rattle.file_handles.specs.Sessions.{Handles, Session, blocking, free_number, handle_at, open_at, room_for}
use Rattle.file_handles.specs.Sessions.{with_handle, without_handle}
use Rattle.file_handles.specs.Whole.{and_then, put_whole, released}
use Rattle.file_handles.specs.lemmas.Asked.{handle_there, no_place, put_is, refused_ok, same_others, writer_allowed}
use Rattle.file_handles.specs.lemmas.Opens.{allowed, put_removed, put_there}

-- ---- the file as the opening leaves it

changed_twice : (now : ℕ) (info : Option FileInfo) → option_map (info_changed now Application)
    (option_map (info_changed now Application) info) ≡ option_map (info_changed now Application) info
changed_twice now None = refl
changed_twice now (Some info) = refl

-- empty, and a change at this moment leaves its info
emptied : (found : Option Element) (now : ℕ) → (info : Option FileInfo)
    × (file_opened false truncating now found ≡ file_of info [])
    × (option_map (info_changed now Application) info ≡ info)
emptied None now = (Some (made now Application), refl, refl)
emptied (Some file) now = (
  option_map (info_changed now Application) (option_map (opened_info now) file.info),
  refl,
  changed_twice now (option_map (opened_info now) file.info),
)

pub record IsEmptied (s mid : Session) (name : List ℕ) (now number : ℕ) : Type 0 where
  pub info : Option FileInfo
  pub kept : option_map (info_changed now Application) info ≡ info
  pub answer : with_opened s name Write truncating (file_of info []) ≡ (number, mid)

pub is_emptied : (storage : Storage) (s mid : Session) (name : List ℕ) (now number : ℕ)
    → can_open storage s name Write truncating ≡ None → open_file storage s name Write truncating now ≡ Ok (number, mid)
    → IsEmptied s mid name now number
is_emptied storage s mid name now number none is =
    let file : Element = file_opened storage.read_only truncating now (element_at s.files name) in
    let after : ℕ × Session = with_opened s name Write truncating file in
    let roomy : Ok after ≡ Ok (number, mid) = refused_ok (no_room_to_create storage s.files name) (Ok after)
    (number, mid) (refused_ok (can_open storage s name Write truncating) _ (number, mid) is) in
    let same : after ≡ (number, mid) = cc in
    let e = emptied (element_at s.files name) now in
    let empty : file ≡ file_of e.0 [] = ap (λ b. file_opened b truncating now (element_at s.files name))
    (writer_allowed storage s name truncating none) ∙ e.1 in
    record {
      info = e.0;
      kept = e.2;
      answer = subst (λ (f : Element). with_opened s name Write truncating f
          ≡ (number, mid)) empty same;
    }

-- ---- what may be done with it once its handle is released

pub emptied_free : (storage : Storage) (s mid : Session) (name : List ℕ) (now number : ℕ)
    → can_open storage s name Write truncating ≡ None → handle_at s.handles (free_number s.handles) ≡ None
    → IsEmptied s mid name now number → busy (blocking Write name (released mid number).handles) ≡ None
emptied_free storage s mid name now number none free e =
    let before : busy (blocking Write name s.handles) ≡ None =
    ap busy (allowed storage s.files s.handles name Write truncating none).alone in
    subst (λ (o : ℕ × Session). busy (blocking Write name (released o.1 o.0).handles) ≡ None) e.answer
    (subst (λ (hs : Handles). busy (blocking Write name hs) ≡ None)
    (sym (put_removed nat_cmp_total (free_number s.handles) _ s.handles free)) before)

pub emptied_there : (s mid : Session) (name : List ℕ) (now number : ℕ) (e : IsEmptied s mid name now number)
    → element_at mid.files name ≡ Some (file_of e.info [])
emptied_there s mid name now number e =
    subst (λ (o : ℕ × Session). element_at o.1.files name ≡ Some (file_of e.info [])) e.answer
    (put_there s.files name (file_of e.info []))

pub emptied_fits : (storage : Storage) (s mid : Session) (name : List ℕ) (now number len : ℕ)
    → IsStrictlySortedBy name_cmp (keys_of s.files) → would_fit storage s.files name len ≡ None
    → IsEmptied s mid name now number → too_long (room_for mid.files name storage.maximum) len ≡ None
emptied_fits storage s mid name now number len sorted fits e =
    subst (λ (o : ℕ × Session). too_long (room_for o.1.files name storage.maximum) len ≡ None) e.answer
    (rw (put_there s.files name (file_of e.info [])) (subst
    (λ n. too_long (let r : Room = record { others = n; allowed = storage.maximum } in r) len ≡ None)
    (sym (same_others s.files name e.info sorted)) fits))

-- ---- the bytes written through the handle are its content

over_nothing : (from : ℕ) (piece : List ℕ) → from ≡ 0 → overwritten from piece [] ≡ piece
over_nothing from piece is = rw (is, drop-nil (0 + length piece)) (append-nil piece)

written_is : (cursor : Cursor) (info : Option FileInfo) (piece : List ℕ) (now : ℕ) (room : Room) → cursor.kind ≡ Write
    → option_map (info_changed now Application) info ≡ info → too_long room (length piece) ≡ None
    → (after : Cursor) × (written cursor (file_of info []) piece now room
    ≡ Ok (after, changed_to piece now Application (file_of info [])))
written_is cursor info [] now room kind kept fits = (cursor, rw (kind, kept) refl)
written_is cursor info (b ∷ bs) now room kind kept fits =
    let piece : List ℕ = b ∷ bs in
    let after : Cursor = moved cursor (write_place cursor [] + length piece) in
    let same : overwritten (write_place cursor []) piece [] ≡ piece =
    over_nothing (write_place cursor []) piece (no_place cursor) in
    let none : too_long room (length (overwritten (write_place cursor []) piece [])) ≡ None = rw same fits in
    let some : (length piece == 0) ≡ false = grind (arith, nat_tests) in
    (after, rw (kind, none, same, some) refl)

-- a handle that is put twice and removed
put_twice : {K X : Type 0} {R : K → K → Ordering} → IsTotalOrder R → (k : K) (v w : X) (es : List (K × X))
    → insert_entry R (insert_entry R es k v) k w ≡ insert_entry R es k w
put_twice {R = R} o k v w [] = let itself : R k k ≡ Equal =
    (Equal-is (R k k)).0 ((eq_by_cmp_equiv o).refl k) in rw itself refl
put_twice {K = K} {X = X} {R = R} o k v w (e ∷ es) = by (R k e.0) refl (put_twice o k v w es)
  where
    itself : R k k ≡ Equal
    itself = (Equal-is (R k k)).0 ((eq_by_cmp_equiv o).refl k)

    by : (r : Ordering) → R k e.0 ≡ r → insert_entry R (insert_entry R es k v) k w ≡ insert_entry R es k w
        → insert_entry R (match_ordering r ((k, v) ∷ e ∷ es) ((e.0, v) ∷ es) (e ∷ insert_entry R es k v)) k w
        ≡ match_ordering r ((k, w) ∷ e ∷ es) ((e.0, w) ∷ es) (e ∷ insert_entry R es k w)
    by Less p later = rw itself refl
    by Equal p later = rw p refl
    by Greater p later = rw p (ap (λ l. e ∷ l) later)

same_handles : (handles : Handles) (number : ℕ) (one other : Handle) → handle_at handles number ≡ None
    → without_handle (with_handle (with_handle handles number one) number other) number
    ≡ without_handle (with_handle handles number one) number
same_handles handles number one other free =
    ap (λ (hs : Handles). without_handle hs number) (put_twice nat_cmp_total number one other handles)
    ∙ put_removed nat_cmp_total number other handles free ∙ sym (put_removed nat_cmp_total number one handles free)

filled_is : (storage : Storage) (s : Session) (name bytes : List ℕ) (now : ℕ) (info : Option FileInfo)
    → handle_at s.handles (free_number s.handles) ≡ None → option_map (info_changed now Application) info ≡ info
    → too_long (room_for (with_element s.files name (file_of info [])) name storage.maximum) (length bytes) ≡ None
    → (let o : ℕ × Session = with_opened s name Write truncating (file_of info []) in
    and_then (write storage o.1 now o.0 bytes) (λ after. Ok (released after o.0))
    ≡ Ok (record (released o.1 o.0) {
      files = with_element o.1.files name
          (changed_to bytes now Application (file_of info []));
    }))
filled_is storage s name bytes now info free kept fits =
    let file : Element = file_of info [] in
    let o : ℕ × Session = with_opened s name Write truncating file in
    let handle : Handle = record { name = name; cursor = opening_place Write truncating 0 } in
    let is_open : open_at o.1 o.0 ≡ Some (handle, file) =
    rw (handle_there s.handles (free_number s.handles) handle) (rw (put_there s.files name file) refl) in
    let room : Room = room_for o.1.files name storage.maximum in
    let w = written_is handle.cursor info bytes now room refl kept fits in
    let files : Map = with_element o.1.files name (changed_to bytes now Application file) in
    rw (is_open, w.1) (ap (λ (hs : Handles). let r : Result Session PerError =
    Ok (record { files = files; handles = hs }) in r)
    (same_handles s.handles (free_number s.handles) handle (record handle { cursor = w.0 }) free))

-- a put, as the opening, the release and the content at once
pub put_filled : (storage : Storage) (s mid later : Session) (name bytes : List ℕ) (now number : ℕ)
    → IsStrictlySortedBy name_cmp (keys_of s.files) → handle_at s.handles (free_number s.handles) ≡ None
    → can_open storage s name Write truncating ≡ None → would_fit storage s.files name (length bytes) ≡ None
    → open_file storage s name Write truncating now ≡ Ok (number, mid)
    → ((old : Element) → element_at mid.files name ≡ Some old
    → later ≡ record (released mid number) {
      files = with_element mid.files name
          (changed_to bytes now Application old);
    })
    → put_whole storage s name bytes now ≡ Ok later
put_filled storage s mid later name bytes now number sorted free none fits is given =
    let e = is_emptied storage s mid name now number none is in
    let filled : Session → ℕ → Session = λ m n. record (released m n) {
      files =
          with_element m.files name (changed_to bytes now Application (file_of e.info []));
    } in
    let room : too_long (room_for mid.files name storage.maximum) (length bytes) ≡ None =
    emptied_fits storage s mid name now number (length bytes) sorted fits e in
    let here : too_long (room_for (with_element s.files name (file_of e.info [])) name storage.maximum) (length bytes)
    ≡ None =
    subst (λ (o : ℕ × Session). too_long (room_for o.1.files name storage.maximum) (length bytes) ≡ None) (sym e.answer)
    room in
    put_is storage s mid name bytes now number none fits is
    ∙ subst (λ (o : ℕ × Session). and_then (write storage o.1 now o.0 bytes) (λ after. Ok (released after o.0))
    ≡ Ok (filled o.1 o.0)) e.answer (filled_is storage s name bytes now e.info free e.kept here)
    ∙ ap (λ (t : Session). let r : Result Session PerError = Ok t in r)
    (sym (given (file_of e.info []) (emptied_there s mid name now number e)))
