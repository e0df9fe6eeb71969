-- What the calls leave of the files that cannot be read: each such file that is there afterwards was there before.
use Rattle.std.proofs.Common.{◌≡◌, ℕ, ◌+◌, List, [], length, Bool, true, false, cond, refl, sym, ◌∙◌, ap, subst}
use Rattle.std.specs.Prelude.{Option, Some, None, Result, Ok, Err, IfErr, OnErr, OnOk, not, ◌&&◌, ◌==◌, nat_lt, take}
use Rattle.std.specs.BTreeMap.{is_at}
use Rattle.std.specs.List.Sorted.{IsStrictlySortedBy}
use Rattle.std.specs.Map.{keys_of}
use Rattle.std.specs.Ordering.{nat_cmp}
use Rattle.per_base.specs.declared.elements.Cause.TheVariants.{Application, Recovery}
use Rattle.per_base.specs.declared.elements.Content.{Content}
use Rattle.per_base.specs.declared.elements.Content.TheVariants.{Good, Bad}
use Rattle.per_base.specs.declared.elements.Element.{Element}
use Rattle.per_base.specs.declared.errors.PerError.{PerError}
use Rattle.per_base.specs.declared.errors.PerError.TheVariants.{FileNotFound, IllegalWriteAccess, IntegrityCorrupted}
use Rattle.per_base.specs.declared.errors.PerError.TheVariants.{InvalidOpenMode, InvalidSize}
use Rattle.per_base.specs.declared.errors.Unit.TheVariants.{Part}
use Rattle.per_base.specs.declared.opening.OpenKind.{OpenKind}
use Rattle.per_base.specs.declared.opening.OpenKind.TheVariants.{Write}
use Rattle.per_base.specs.declared.opening.OpenMode.{OpenMode}
use Rattle.per_base.specs.Maps.{Map, element_at, has, with_element, without}
use Rattle.per_base.specs.Modes.{truncates}
use Rattle.per_base.specs.Names.{name_cmp}
use Rattle.per_base.specs.Contents.{is_readable, readable_bytes}
use Rattle.per_base.specs.Refusals.{refuse, refused_by, with_initial}
use Rattle.file_core.specs.declared.cursor.Cursor.{Cursor}
use Rattle.file_core.specs.declared.room.Room.{Room}
use Rattle.file_core.specs.Files.{written, cut, changed_to, opened_at, too_long}
use Rattle.file_core.specs.Places.{writes, write_place, overwritten, moved, moved_within, is_bad_mode, opening_place}
use Rattle.file_handles.specs.declared.handle.Handle.{Handle}
use Rattle.file_handles.specs.declared.storage.Storage.{Storage}
use Rattle.file_handles.specs.Sessions.{Session, open_at, with_file, readable, with_cursor, with_handle, with_changed}
use Rattle.file_handles.specs.Sessions.{room_for, handle_at, blocking, free_number, without_handle}
use Rattle.file_handles.specs.Handling as calls
use Rattle.file_handles.specs.Opening as opening
use Rattle.file_handles.specs.ByName as named
use Rattle.file_handles.specs.Tables.{Table}
use Rattle.file_handles.specs.lemmas.Lookups.{file_put, file_gone}
use Rattle.file_handles.specs.lemmas.Opens.{first_none, when_none}
use Rattle.deployment_model.specs.Data.{StorageData}
use Rattle.element_store.specs.declared.store.Store.{Store}
use Rattle.file_storage.proofs.Others.{others_moved, others_opened, gone_none}
use Rattle.file_storage.specs.FileSessions.{FilesInUse, IsOpen}
use Rattle.file_storage.specs.Scopes.{without_open_handle}

pub record Keeps (files later : Map) : Type 0 where
  pub unreadable : (name : List ℕ) (file : Element) → element_at later name ≡ Some file → is_readable file.content
      ≡ false
      → element_at files name ≡ Some file

pub keeps_same : (files later : Map) → later ≡ files → Keeps files later
keeps_same files later is = record { unreadable = λ name file at bad. subst (λ m. element_at m name ≡ Some file) is at }

pub keeps_put : (files : Map) (name : List ℕ) (new : Element) → is_readable new.content ≡ true
    → Keeps files (with_element files name new)
keeps_put files name new good = record {
  unreadable = λ q file at bad.
      by q (is_at (name_cmp q) name) file (sym (file_put files q name new) ∙ at) bad;
}
  where
    by : (q : List ℕ) (hit : Bool) (file : Element) → cond hit (Some new) (element_at files q) ≡ Some file
        → is_readable file.content ≡ false → element_at files q ≡ Some file
    by q true file e bad =
        let same : new ≡ file = cc in
        let good_too : is_readable file.content ≡ true = subst (λ f. is_readable f.content ≡ true) same good in
        absurd (cc)
    by q false file e bad = e

pub keeps_gone : (files : Map) (name : List ℕ) → IsStrictlySortedBy name_cmp (keys_of files)
    → Keeps files (without files name)
keeps_gone files name sorted = record {
  unreadable = λ q file at bad.
      by q (is_at (name_cmp name) q) file (sym (file_gone files q name sorted) ∙ at);
}
  where
    by : (q : List ℕ) (hit : Bool) (file : Element) → cond hit None (element_at files q) ≡ Some file
        → element_at files q ≡ Some file
    by q true file e = absurd (cc)
    by q false file e = e

-- ---- through a handle

-- the handle of this number and its file
pub record IsOpenAt (s : Session) (number : ℕ) (handle : Handle) (file : Element) : Type 0 where
  pub handle_there : handle_at s.handles number ≡ Some handle
  pub file_there : element_at s.files handle.name ≡ Some file
  pub good : is_readable file.content ≡ true

open_parts : (s : Session) (number : ℕ) (handle : Handle) (file : Element) → open_at s number ≡ Some (handle, file)
    → IsOpenAt s number handle file
open_parts s number handle file is = by (handle_at s.handles number) refl is
  where
    tested : (h : Handle) (f : Element) → handle_at s.handles number ≡ Some h → element_at s.files h.name ≡ Some f
        → (b : Bool) → is_readable f.content ≡ b → cond {A = Option (Handle × Element)} b (Some (h, f)) None
        ≡ Some (handle, file) → IsOpenAt s number handle file
    tested h f p q true good e =
        let pair : (let both : Handle × Element = (h, f) in both) ≡ (handle, file) = cc in
        let one : h ≡ handle = ap (λ o. o.0) pair in
        let two : f ≡ file = ap (λ o. o.1) pair in
        record {
          handle_there = subst (λ x. handle_at s.handles number ≡ Some x) one p;
          file_there = subst (λ x. element_at s.files x.name ≡ Some file) one
              (subst (λ x. element_at s.files h.name ≡ Some x) two q);
          good = subst (λ x. is_readable x.content ≡ true) two good;
        }
    tested h f p q false good e = absurd (cc)

    with_its : (h : Handle) → handle_at s.handles number ≡ Some h → (f : Option Element) → element_at s.files h.name ≡ f
        → readable h f ≡ Some (handle, file) → IsOpenAt s number handle file
    with_its h p None q e = absurd (cc)
    with_its h p (Some f) q e = tested h f p q (is_readable f.content) refl e

    by : (h : Option Handle) → handle_at s.handles number ≡ h → with_file s.files h ≡ Some (handle, file)
        → IsOpenAt s number handle file
    by None p e = absurd (cc)
    by (Some h) p e = with_its h p (element_at s.files h.name) refl e

-- a call through a handle that answers is that on its file
pub record IsThrough {A : Type 0} (s : Session) (number : ℕ) (call : Handle → Element → Result A PerError)
    (answer : A) : Type 0 where
  pub handle : Handle
  pub file : Element
  pub is_open : IsOpenAt s number handle file
  pub answers : call handle file ≡ Ok answer

pub through_open : {A : Type 0} (s : Session) (number : ℕ) (call : Handle → Element → Result A PerError) (answer : A)
    → calls.at_handle s number call ≡ Ok answer → IsThrough s number call answer
through_open s number call answer is = by (open_at s number) refl is
  where
    by : (o : Option (Handle × Element)) → open_at s number ≡ o → calls.on_open o call ≡ Ok answer
        → IsThrough s number call answer
    by None p e = absurd (cc)
    by (Some o) p e = record { handle = o.0; file = o.1; is_open = open_parts s number o.0 o.1 p; answers = e }

-- a call that moves a handle leaves the files, and the other handles
pub record Moves (s later : Session) (number : ℕ) : Type 0 where
  pub files : later.files ≡ s.files
  pub others : IsStrictlySortedBy nat_cmp (keys_of s.handles)
      → without_handle later.handles number ≡ without_handle s.handles number

with_cursor_moves : (s later : Session) (number : ℕ) (handle : Handle) (cursor : Cursor)
    → handle_at s.handles number ≡ Some handle → with_cursor s number handle cursor ≡ later → Moves s later number
with_cursor_moves s later number handle cursor at is = record {
  files = sym (ap (λ t. t.files) is);
  others = λ sorted. subst (λ t. without_handle t.handles number ≡ without_handle s.handles number) is
      (others_moved s.handles number handle (record handle { cursor = cursor }) at sorted);
}

pub moving_moves : {A : Type 0} (s later : Session) (number : ℕ)
    (call : Handle → Element → Result (A × Cursor) PerError) (answer : A)
    → calls.at_handle s number (λ handle file. calls.moving s number handle (call handle file)) ≡ Ok (answer, later)
    → Moves s later number
moving_moves {A = A} s later number call answer is =
    let t = through_open s number (λ handle file. calls.moving s number handle (call handle file)) (answer, later) is in
    by t.handle t.is_open.handle_there (call t.handle t.file) t.answers
  where
    by : (handle : Handle) → handle_at s.handles number ≡ Some handle → (r : Result (A × Cursor) PerError)
        → calls.moving s number handle r ≡ Ok (answer, later) → Moves s later number
    by handle at (Ok new) e =
        let pair : (let both : A × Session = (new.0, with_cursor s number handle new.1) in both) ≡ (answer, later) =
        cc in
        with_cursor_moves s later number handle new.1 at (ap (λ o. o.1) pair)
    by handle at (Err error) e = absurd (cc)

pub moved_to_moves : (s later : Session) (number : ℕ) (call : Handle → Element → Result Cursor PerError)
    → calls.at_handle s number (λ handle file. calls.moved_to s number handle (call handle file)) ≡ Ok later
    → Moves s later number
moved_to_moves s later number call is =
    let t = through_open s number (λ handle file. calls.moved_to s number handle (call handle file)) later is in
    by t.handle t.is_open.handle_there (call t.handle t.file) t.answers
  where
    by : (handle : Handle) → handle_at s.handles number ≡ Some handle → (r : Result Cursor PerError)
        → calls.moved_to s number handle r ≡ Ok later → Moves s later number
    by handle at (Ok cursor) e = with_cursor_moves s later number handle cursor at (cc)
    by handle at (Err error) e = absurd (cc)

-- a call that changes a readable file into a readable file keeps those that cannot be read, and leaves the other
-- handles
pub record Changes (s later : Session) (number : ℕ) : Type 0 where
  pub files : Keeps s.files later.files
  pub others : IsStrictlySortedBy nat_cmp (keys_of s.handles)
      → without_handle later.handles number ≡ without_handle s.handles number

pub changing_changes : (s later : Session) (number : ℕ) (call : Handle → Element → Result (Cursor × Element) PerError)
    → ((handle : Handle) (file : Element) (new : Cursor × Element) → is_readable file.content ≡ true
    → call handle file ≡ Ok new → is_readable new.1.content ≡ true)
    → calls.at_handle s number (λ handle file. calls.changing s number handle
    (with_changed s.files handle.name (call handle file))) ≡ Ok later → Changes s later number
changing_changes s later number call good is =
    let t = through_open s number (λ handle file. calls.changing s number handle
    (with_changed s.files handle.name (call handle file))) later is in
    by t.handle t.is_open.handle_there (call t.handle t.file) (λ new e. good t.handle t.file new t.is_open.good e)
    t.answers
  where
    by : (handle : Handle) → handle_at s.handles number ≡ Some handle → (r : Result (Cursor × Element) PerError)
        → ((new : Cursor × Element) → r ≡ Ok new → is_readable new.1.content ≡ true)
        → calls.changing s number handle (with_changed s.files handle.name r) ≡ Ok later → Changes s later number
    by handle at (Ok new) fine e =
        let after : Session = record {
          files = with_element s.files handle.name new.1;
          handles =
              with_handle s.handles number (record handle { cursor = new.0 });
        } in
        let same : after ≡ later = cc in
        record {
          files = subst (λ t. Keeps s.files t.files) same (keeps_put s.files handle.name new.1 (fine new refl));
          others = λ sorted. subst (λ t. without_handle t.handles number ≡ without_handle s.handles number) same
              (others_moved s.handles number handle (record handle { cursor = new.0 }) at sorted);
        }
    by handle at (Err error) fine e = absurd (cc)

refused_ok : {A : Type 0} (error : Option PerError) (rest : Result A PerError) (answer : A)
    → refused_by error rest ≡ Ok answer → (error ≡ None) × (rest ≡ Ok answer)
refused_ok None rest answer e = (refl, e)
refused_ok (Some error) rest answer e = absurd (cc)

refuse_ok : {A : Type 0} (test : Bool) (error : PerError) (rest : Result A PerError) (answer : A)
    → refuse test error rest ≡ Ok answer → (test ≡ false) × (rest ≡ Ok answer)
refuse_ok false error rest answer e = (refl, e)
refuse_ok true error rest answer e = absurd (cc)

written_good : (cursor : Cursor) (file : Element) (piece : List ℕ) (now : ℕ) (room : Room) (new : Cursor × Element)
    → is_readable file.content ≡ true → written cursor file piece now room ≡ Ok new → is_readable new.1.content ≡ true
written_good cursor file piece now room new good is = by (length piece == 0)
    (refuse_ok (not (writes cursor.kind)) IllegalWriteAccess _ new is).1
  where
    bytes : List ℕ
    bytes = readable_bytes file.content

    by : (empty : Bool) → cond {A = Result (Cursor × Element) PerError} empty (Ok (cursor, file))
        (refused_by (too_long room (length (overwritten (write_place cursor bytes) piece bytes)))
        (Ok (
          moved cursor (write_place cursor bytes + length piece),
          changed_to (overwritten (write_place cursor bytes) piece bytes) now Application file,
        ))) ≡ Ok new
        → is_readable new.1.content ≡ true
    by true e = let same : (let both : Cursor × Element = (cursor, file) in both) ≡ new =
        cc in subst (λ o. is_readable o.1.content ≡ true) same good
    by false e =
        let after : Cursor × Element = (
          moved cursor (write_place cursor bytes + length piece),
          changed_to (overwritten (write_place cursor bytes) piece bytes) now Application file,
        ) in
        let done : Ok after ≡ Ok new = (refused_ok (too_long room
        (length (overwritten (write_place cursor bytes) piece bytes))) (Ok after) new e).1 in
        let same : after ≡ new = cc in
        subst (λ o. is_readable o.1.content ≡ true) same refl

pub write_changes : (storage : Storage) (s later : Session) (now number : ℕ) (piece : List ℕ)
    → calls.write storage s now number piece ≡ Ok later → Changes s later number
write_changes storage s later now number piece is =
    changing_changes s later number (λ handle file. written handle.cursor file piece now
    (room_for s.files handle.name storage.maximum))
    (λ handle file new good e. written_good handle.cursor file piece now (room_for s.files handle.name storage.maximum)
    new good e) is

cut_good : (cursor : Cursor) (file : Element) (size now : ℕ) (new : Cursor × Element)
    → cut cursor file size now ≡ Ok new → is_readable new.1.content ≡ true
cut_good cursor file size now new is =
    let after : Cursor × Element = (
      moved_within cursor size,
      changed_to (take size (readable_bytes file.content)) now Application
          file,
    ) in
    let done : Ok after ≡ Ok new = (refuse_ok (nat_lt (length (readable_bytes file.content)) size) InvalidSize
    (Ok after) new
    (refuse_ok (not (writes cursor.kind)) IllegalWriteAccess _ new is).1).1 in
    let same : after ≡ new = cc in
    subst (λ o. is_readable o.1.content ≡ true) same refl

pub cut_changes : (s later : Session) (now number size : ℕ) → calls.set_size s now number size ≡ Ok later
    → Changes s later number
cut_changes s later now number size is =
    changing_changes s later number (λ handle file. cut handle.cursor file size now)
    (λ handle file new good e. cut_good handle.cursor file size now new e) is

pub close_closes : (s later : Session) (number : ℕ) → calls.close s number ≡ Ok later
    → later ≡ record s { handles = without_handle s.handles number }
close_closes s later number is =
    let t = through_open s number (λ handle file. Ok (record s { handles = without_handle s.handles number })) later is
    in
    let after : Session = record s { handles = without_handle s.handles number } in
    let done : Ok after ≡ Ok later = t.answers in
    sym (cc)

-- ---- by name

pub record IsOpened (s later : Session) (number : ℕ) : Type 0 where
  pub files : Keeps s.files later.files
  pub lowest_free : number ≡ free_number s.handles
  pub handle : Handle
  pub handles : later.handles ≡ with_handle s.handles number handle

opened_good : (read_only : Bool) (mode : OpenMode) (now : ℕ) (file : Option Element)
    → opening.is_unreadable file ≡ false → is_readable (opening.file_opened read_only mode now file).content ≡ true
opened_good read_only mode now None e = refl
opened_good read_only mode now (Some file) e = by read_only (truncates mode) (readable_one (is_readable file.content) e)
  where
    readable_one : (b : Bool) → not b ≡ false → b ≡ true
    readable_one true e = refl
    readable_one false e = absurd (cc)

    by : (ro cuts : Bool) → is_readable file.content ≡ true → is_readable
        (cond ro file (cond cuts (changed_to [] now Application (opened_at now file)) (opened_at now file))).content
        ≡ true
    by true cuts good = good
    by false true good = refl
    by false false good = good

pub open_opens : (storage : Storage) (s later : Session) (name : List ℕ) (kind : OpenKind) (mode : OpenMode)
    (now number : ℕ)
    → opening.open_file storage s name kind mode now ≡ Ok (number, later) → IsOpened s later number
open_opens storage s later name kind mode now number is =
    let after : ℕ × Session = opening.with_opened s name kind mode
    (opening.file_opened storage.read_only mode now (element_at s.files name)) in
    let allowed = refused_ok (opening.can_open storage s name kind mode) _ (number, later) is in
    let roomy : Ok after ≡ Ok (number, later) = (refused_ok (opening.no_room_to_create storage s.files name) (Ok after)
    (number, later) allowed.1).1 in
    let same : after ≡ (number, later) = cc in
    let one = first_none (opening.when (is_bad_mode kind mode) InvalidOpenMode) _ allowed.0 in
    let two = first_none (opening.when (writes kind && storage.read_only) IllegalWriteAccess) _ one.1 in
    let three = first_none (opening.when (not (writes kind) && not (has s.files name)) FileNotFound) _ two.1 in
    let four = first_none (opening.when (opening.is_unreadable (element_at s.files name))
    (IntegrityCorrupted (Part storage.name name))) _ three.1 in
    let good = opened_good storage.read_only mode now (element_at s.files name)
    (when_none (opening.is_unreadable (element_at s.files name)) (IntegrityCorrupted (Part storage.name name))
    four.0) in
    let n : free_number s.handles ≡ number = ap (λ o. o.0) same in
    record {
      files = subst (λ o. Keeps s.files o.1.files) same (keeps_put s.files name
          (opening.file_opened storage.read_only mode now (element_at s.files name)) good);
      lowest_free = sym n;
      handle = record {
        name = name;
        cursor = opening_place kind mode
            (opening.file_opened storage.read_only mode now (element_at s.files name)).len;
      };
      handles = subst (λ m. later.handles ≡ with_handle s.handles m
          (record {
            name = name;
            cursor = opening_place kind mode
                (opening.file_opened storage.read_only mode now (element_at s.files name)).len;
          })) n
          (sym (ap (λ o. o.1.handles) same));
    }

found_ok : {A : Type 0} (file : Option Element) (call : Element → Result A PerError) (answer : A)
    → named.found file call ≡ Ok answer → (there : Element) × (call there ≡ Ok answer)
found_ok None call answer e = absurd (cc)
found_ok (Some file) call answer e = (file, e)

unless_held_ok : {A : Type 0} (storage : Storage) (s : Session) (name : List ℕ) (call : Element → Result A PerError)
    (answer : A) → named.unless_held storage s name call ≡ Ok answer → (there : Element) × (call there ≡ Ok answer)
unless_held_ok storage s name call answer is =
    let f = found_ok (element_at s.files name) (λ file. refused_by (opening.busy (blocking Write name s.handles))
    (call file)) answer (refuse_ok storage.read_only IllegalWriteAccess _ answer is).1 in
    (f.0, (refused_ok (opening.busy (blocking Write name s.handles)) (call f.0) answer f.1).1)

pub delete_keeps : (storage : Storage) (s later : Session) (name : List ℕ)
    → IsStrictlySortedBy name_cmp (keys_of s.files) → named.delete_file storage s name ≡ Ok later
    → Keeps s.files later.files
delete_keeps storage s later name sorted is =
    let after : Session = record s { files = without s.files name } in
    let done : Ok after ≡ Ok later = (unless_held_ok storage s name
    (λ file. Ok (record s { files = without s.files name })) later is).1 in
    let same : after ≡ later = cc in
    subst (λ t. Keeps s.files t.files) same (keeps_gone s.files name sorted)

with_content_keeps : (storage : Storage) (s later : Session) (name : List ℕ) (file : Element)
    → is_readable file.content ≡ true → named.with_content storage s name file ≡ Ok later → Keeps s.files later.files
with_content_keeps storage s later name file good is =
    let after : Session = record s { files = with_element s.files name file } in
    let done : Ok after ≡ Ok later = (refused_ok (too_long (room_for s.files name storage.maximum) file.len) (Ok after)
    later is).1 in
    let same : after ≡ later = cc in
    subst (λ t. Keeps s.files t.files) same (keeps_put s.files name file good)

recovered_keeps : (storage : Storage) (s later : Session) (name : List ℕ) (now : ℕ) (initial : Option (List ℕ))
    (file : Element) (content : Content) → IsStrictlySortedBy name_cmp (keys_of s.files)
    → named.recovered storage s name now initial file content ≡ Ok later → Keeps s.files later.files
recovered_keeps storage s later name now initial file (Good bytes) sorted is = let same : s ≡ later =
    cc in keeps_same s.files later.files (sym (ap (λ t. t.files) same))
recovered_keeps storage s later name now initial file (Bad (Some salvage)) sorted is =
    let after : Session = record s { files = with_element s.files name (changed_to salvage now Recovery file) } in
    let done : Ok after ≡ Ok later = is in
    let same : after ≡ later = cc in
    subst (λ t. Keeps s.files t.files) same (keeps_put s.files name (changed_to salvage now Recovery file) refl)
recovered_keeps storage s later name now (Some bytes) file (Bad None) sorted is =
    with_content_keeps storage s later name (changed_to bytes now Recovery file) refl is
recovered_keeps storage s later name now None file (Bad None) sorted is =
    let after : Session = record s { files = without s.files name } in
    let done : Ok after ≡ Ok later = is in
    let same : after ≡ later = cc in
    subst (λ t. Keeps s.files t.files) same (keeps_gone s.files name sorted)

pub recover_keeps : (storage : Storage) (s later : Session) (name : List ℕ) (now : ℕ) (initial : Option (List ℕ))
    → IsStrictlySortedBy name_cmp (keys_of s.files)
    → named.recover_file storage s name now initial ≡ Ok later → Keeps s.files later.files
recover_keeps storage s later name now initial sorted is =
    let u = unless_held_ok storage s name (λ file. named.recovered storage s name now initial file file.content) later
    is in
    recovered_keeps storage s later name now initial u.0 u.0.content sorted u.1

pub reset_keeps : (storage : Storage) (s later : Session) (name : List ℕ) (now : ℕ) (initial : Option (List ℕ))
    → named.reset_file storage s name now initial ≡ Ok later → Keeps s.files later.files
reset_keeps storage s later name now initial is = by initial
    (refuse_ok storage.read_only IllegalWriteAccess _ later is).1
  where
    good : (bytes : List ℕ) (file : Option Element) → is_readable (named.reset now bytes file).content ≡ true
    good bytes None = refl
    good bytes (Some file) = refl

    by : (content : Option (List ℕ)) → with_initial content
        (λ bytes. refused_by (opening.busy (blocking Write name s.handles))
        (refused_by (opening.too_many s.files name) (named.with_content storage s name
        (named.reset now bytes (element_at s.files name))))) ≡ Ok later → Keeps s.files later.files
    by None e = absurd (cc)
    by (Some bytes) e =
        let free = refused_ok (opening.busy (blocking Write name s.handles))
        (refused_by (opening.too_many s.files name) (named.with_content storage s name
        (named.reset now bytes (element_at s.files name)))) later e in
        let few = refused_ok (opening.too_many s.files name)
        (named.with_content storage s name (named.reset now bytes (element_at s.files name))) later free.1 in
        with_content_keeps storage s later name (named.reset now bytes (element_at s.files name))
        (good bytes (element_at s.files name)) few.1

-- ---- what always holds of an open storage

-- an open storage stays one through a call that keeps the files that cannot be read
pub stays_open : {A : Type 0} (old new : Table) (r : Result A PerError) (config : StorageData) (store : Store)
    → IsOpen config store old.storage old.session.files → new.storage ≡ old.storage → OnErr r (new ≡ old)
    → ((a : A) → r ≡ Ok a → Keeps old.session.files new.session.files)
    → IsOpen config store new.storage new.session.files
stays_open {A = A} old new r config store is same unchanged keeps = by r refl unchanged
  where
    by : (result : Result A PerError) → r ≡ result → OnErr result (new ≡ old)
        → IsOpen config store new.storage new.session.files
    by (Ok a) e u = record {
      valid = is.valid;
      configured = is.configured;
      same_storage =
          same ∙ is.same_storage;
      unreadable = λ name file at bad.
          is.unreadable name file ((keeps a e).unreadable name file at bad) bad;
    }
    by (Err error) e u = subst (λ (t : Table). IsOpen config store t.storage t.session.files) (sym u) is

-- ---- the other handles

pub same_others : {A : Type 0} (s later : FilesInUse) (number : ℕ) (r : Result A PerError)
    → IsStrictlySortedBy nat_cmp (keys_of s.session.handles) → OnErr r (later ≡ s)
    → ((a : A) → r ≡ Ok a → IsStrictlySortedBy nat_cmp (keys_of s.session.handles)
    → without_handle later.session.handles number ≡ without_handle s.session.handles number)
    → without_handle later.session.handles number ≡ without_handle s.session.handles number
same_others {A = A} s later number r sorted unchanged others = by r refl unchanged
  where
    by : (result : Result A PerError) → r ≡ result → OnErr result (later ≡ s)
        → without_handle later.session.handles number ≡ without_handle s.session.handles number
    by (Ok a) e u = others a e sorted
    by (Err error) e u = ap (λ (t : FilesInUse). without_handle t.session.handles number) u

pub opened_others : (storage : Storage) (s later : Session) (name : List ℕ) (kind : OpenKind) (mode : OpenMode)
    (now number : ℕ)
    → handle_at s.handles (free_number s.handles) ≡ None
    → opening.open_file storage s name kind mode now ≡ Ok (number, later)
    → without_handle later.handles number ≡ s.handles
opened_others storage s later name kind mode now number free is =
    let o = open_opens storage s later name kind mode now number is in
    subst (λ m. without_handle later.handles m ≡ s.handles) (sym o.lowest_free)
    (subst (λ hs. without_handle hs (free_number s.handles) ≡ s.handles)
    (subst (λ m. with_handle s.handles m o.handle ≡ later.handles) o.lowest_free (sym o.handles))
    (others_opened s.handles (free_number s.handles) o.handle free))

not_open : (s : Session) (number : ℕ) (error : PerError) → calls.close s number ≡ Err error → open_at s number ≡ None
not_open s number error is = by (open_at s number) is
  where
    by : (o : Option (Handle × Element)) → calls.on_open o
        (λ handle file. Ok (record s { handles = without_handle s.handles number })) ≡ Err error → o ≡ None
    by None e = refl
    by (Some o) e = absurd (cc)

-- a handle that is released, open or not
pub released : {A : Type 0} (s later : FilesInUse) (number : ℕ) (r : Result A PerError)
    → OnOk r (calls.close s.session number ≡ Ok later.session)
    → IfErr r (λ error. calls.close s.session number ≡ Err error)
    → later ≡ record s { session = later.session } → OnErr r (later ≡ s)
    → (open_at s.session number ≡ None → handle_at s.session.handles number ≡ None) → later
    ≡ without_open_handle s number
released s later number (Ok a) ok refused beside unchanged none =
    beside ∙ ap (λ t. let f : FilesInUse = record s { session = t } in f)
    (close_closes s.session later.session number ok)
released s later number (Err error) ok refused beside unchanged none =
    unchanged ∙ ap (λ hs. let f : FilesInUse = record s { session = record s.session { handles = hs } } in f)
    (sym (gone_none s.session.handles number (none (not_open s.session number error refused))))
