-- What a call that changes a file through its handle answers.
use Rattle.std.proofs.Common.{◌≡◌, ℕ, ◌-◌, ◌≤◌, List, true, refl, sym, ◌∙◌, ap}
use Rattle.std.specs.Prelude.{Option, Some, None, Result, Ok, Err}
use Rattle.per_base.specs.declared.elements.Element.{Element}
use Rattle.per_base.specs.declared.errors.PerError.{PerError}
use Rattle.per_base.specs.Maps.{Map, element_at, size_of}
use Rattle.per_base.specs.Contents.{is_readable}
use Rattle.file_core.specs.declared.cursor.Cursor.{Cursor}
use Rattle.file_core.specs.declared.room.Room.{Room}
use Rattle.file_handles.specs.declared.handle.Handle.{Handle}
use Rattle.file_handles.specs.Handling.{at_handle, on_open, changing, close}
use Rattle.file_handles.specs.Sessions.{Session, Handles, IsHeldAt, handle_at, open_at, with_file, readable}
use Rattle.file_handles.specs.Sessions.{with_handle, without_handle, with_changed, room_for}
use Rattle.file_handles.specs.Tables.{Held}

-- the file of a handle
pub record FileOf (files : Map) (handles : Handles) (number : ℕ) (handle : Handle) : Type 0 where
  pub file : Element
  pub there : element_at files handle.name ≡ Some file
  pub good : is_readable file.content ≡ true
  pub inside : handle.cursor.position ≤ file.len
  pub open_there : open_at (record { files = files; handles = handles }) number ≡ Some (handle, file)

pub file_of_handle : (files : Map) (handles : Handles) (number : ℕ) (handle : Handle) → Held files handles
    → handle_at handles number ≡ Some handle → FileOf files handles number handle
file_of_handle files handles number handle held at = by (element_at files handle.name) refl (held number handle at)
  where
    by : (found : Option Element) → element_at files handle.name ≡ found → IsHeldAt found handle.cursor.position
        → FileOf files handles number handle
    by None e h = absurd h
    by (Some file) e h =
        let good : is_readable file.content ≡ true = h.0 in
        record {
          file = file;
          there = e;
          good = good;
          inside = h.1;
          open_there = ap (with_file files) at ∙ ap (readable handle) e ∙ rw good refl;
        }

pub room_is : (files : Map) (name : List ℕ) (size len maximum : ℕ) (file : Element) → element_at files name ≡ Some file
    → size ≡ size_of files → len ≡ file.len → (let room : Room =
    record { others = size - len; allowed = maximum } in room ≡ room_for files name maximum)
room_is files name size len maximum file there a b = rw (there, a, b) refl

-- a call through a handle that is open is that on its file
pub through : {A : Type 0} (files : Map) (handles : Handles) (number : ℕ) (handle : Handle)
    (o : FileOf files handles number handle) (call : Handle → Element → Result A PerError)
    → at_handle (record { files = files; handles = handles }) number call ≡ call handle o.file
through files handles number handle o call = ap (λ found. on_open found call) o.open_there

pub changed_ok : (files new_files : Map) (handles later : Handles) (number : ℕ) (handle : Handle) (cursor : Cursor)
    (o : FileOf files handles number handle) (call : Handle → Element → Result (Cursor × Element) PerError)
    → with_changed files handle.name (call handle o.file) ≡ Ok (cursor, new_files)
    → later ≡ with_handle handles number (record handle { cursor = cursor })
    → (let s : Session = record { files = files; handles = handles } in
    at_handle s number (λ h file. changing s number h (with_changed s.files h.name (call h file)))
    ≡ Ok (record { files = new_files; handles = later }))
changed_ok files new_files handles later number handle cursor o call done is =
    let s : Session = record { files = files; handles = handles } in
    through files handles number handle o (λ h file. changing s number h (with_changed s.files h.name (call h file)))
    ∙ ap (changing s number handle) done
    ∙ ap (λ hs. let t : Session = record { files = new_files; handles = hs } in Ok t) (sym is)

pub changed_refused : (files : Map) (handles : Handles) (number : ℕ) (handle : Handle) (error : PerError)
    (o : FileOf files handles number handle) (call : Handle → Element → Result (Cursor × Element) PerError)
    → call handle o.file ≡ Err error → (let s : Session =
    record { files = files; handles = handles } in at_handle s number
    (λ h file. changing s number h (with_changed s.files h.name (call h file))) ≡ Err error)
changed_refused files handles number handle error o call due =
    let s : Session = record { files = files; handles = handles } in
    through files handles number handle o (λ h file. changing s number h (with_changed s.files h.name (call h file)))
    ∙ ap (λ r. changing s number handle (with_changed files handle.name r)) due

pub closed_ok : (files : Map) (handles later : Handles) (number : ℕ) (handle : Handle) → Held files handles
    → handle_at handles number ≡ Some handle → later ≡ without_handle handles number
    → (let s : Session = record { files = files; handles = handles } in
    close s number ≡ Ok (record { files = files; handles = later }))
closed_ok files handles later number handle held at is =
    let s : Session = record { files = files; handles = handles } in
    through files handles number handle (file_of_handle files handles number handle held at)
    (λ h file. Ok (record s { handles = without_handle s.handles number }))
    ∙ ap (λ hs. let t : Session = record { files = files; handles = hs } in Ok t) (sym is)
