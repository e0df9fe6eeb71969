-- No row of a call on an open storage refuses with a failure of the device.
use Rattle.std.proofs.Common.{◌≡◌, ◌≢◌, ℕ, ◌+◌, Bool, true, false, List, [], length, subst}
use Rattle.std.specs.Prelude.{◌&&◌, not, nat_le, nat_lt, cond, ◌==◌, Option, Some, None, Result, Ok, Err, IfErr, ⊤, ℤ}
use Rattle.std.specs.Prelude.{pos, ◌+ℤ◌, int_le, unsigned_abs, slice_index, take, min}
use Rattle.per_base.specs.declared.elements.Content.{Content}
use Rattle.per_base.specs.declared.elements.Content.TheVariants.{Good, Bad}
use Rattle.per_base.specs.declared.elements.Element.{Element}
use Rattle.per_base.specs.declared.elements.FileInfo.{FileInfo}
use Rattle.per_base.specs.declared.errors.Limit.TheVariants as limit
use Rattle.per_base.specs.declared.errors.PerError.{PerError}
use Rattle.per_base.specs.declared.errors.PerError.TheVariants.{PhysicalStorageFailure, OutOfMemory}
use Rattle.per_base.specs.declared.errors.PerError.TheVariants as error
use Rattle.per_base.specs.declared.errors.Unit.TheVariants.{Part}
use Rattle.per_base.specs.declared.opening.OpenKind.{OpenKind}
use Rattle.per_base.specs.declared.opening.OpenKind.TheVariants.{Read, Write}
use Rattle.per_base.specs.declared.opening.OpenMode.{OpenMode}
use Rattle.per_base.specs.declared.opening.Origin.{Origin}
use Rattle.per_base.specs.Maps.{Map, element_at, has, size_of, with_element, without}
use Rattle.per_base.specs.Refusals.{with_initial, IsRefusal, refuse, refused_by, or_next}
use Rattle.per_base.specs.Contents.{readable_bytes}
use Rattle.per_base.specs.Modes.{plain, truncating}
use Rattle.value_model.specs.Encoding.{encoding}
use Rattle.value_model.specs.Kinds.{Kind, same_kind}
use Rattle.value_model.specs.Trees.{Tree, type_of}
use Rattle.value_code.specs.Reading.{decoded}
use Rattle.value_text.specs.Texts.{mismatch}
use Rattle.deployment_model.specs.Data.{StorageData}
use Rattle.deployment_model.specs.Lookups.{element_named, initial_content}
use Rattle.key_maps.specs.TwoMaps.{TwoMaps}
use Rattle.kvs_core.specs.Calls as kvs
use Rattle.file_core.specs.declared.cursor.Cursor.{Cursor}
use Rattle.file_core.specs.declared.room.Room.{Room}
use Rattle.file_core.specs.Files as core
use Rattle.file_core.specs.Places as places
use Rattle.file_handles.specs.declared.handle.Handle.{Handle}
use Rattle.file_handles.specs.declared.storage.Storage.{Storage}
use Rattle.file_handles.specs.ByName as by_name
use Rattle.file_handles.specs.Handling as handling
use Rattle.file_handles.specs.Opening as opening
use Rattle.file_handles.specs.Sessions.{Session, blocking, open_at, room_for, with_changed}
use Rattle.file_handles.specs.Whole as whole
use Rattle.command_text.specs.declared.calls.Call.{Call}
use Rattle.command_text.specs.declared.calls.Call.TheVariants as call
use Rattle.command_text.specs.declared.replies.Answer.{Answer}
use Rattle.deploy_rows.specs.Rows.{◌>>=◌}
use Rattle.run_model.specs.Sessions as run
use Rattle.run_model.specs.Sessions.{on_keys, on_working}
use Rattle.open_storages.specs.Answers.{IsAnsweredAsRow}

-- an error of a call, but no failure of the device
abbrev pub IsCallers : PerError → Type 0
IsCallers PhysicalStorageFailure = ⊥
IsCallers other = ⊤

abbrev pub IsFine : {A : Type 0} → Result A PerError → Type 0
IsFine (Ok answer) = ⊤
IsFine (Err error) = IsCallers error

abbrev IsFineOption : Option PerError → Type 0
IsFineOption None = ⊤
IsFineOption (Some error) = IsCallers error

-- an error that denotes the row's, or because memory ran out
pub fine_refusal : {A : Type 0} (row : Result A PerError) (error : PerError) → IsFine row → IsRefusal row error
    → error ≢ PhysicalStorageFailure
fine_refusal {A} row error fine due is =
    let row_is : row ≡ Err error = due (λ wanting. absurd (cc)) in
    subst IsCallers is (subst (λ (r : Result A PerError). IsFine r) row_is fine)

-- ---- what rows are made of

fine_refuse : {A : Type 0} (test : Bool) (error : PerError) (rest : Result A PerError) → IsCallers error → IsFine rest
    → IsFine (refuse test error rest)
fine_refuse true error rest callers fine = callers
fine_refuse false error rest callers fine = fine

fine_refused_by : {A : Type 0} (refused : Option PerError) (rest : Result A PerError) → IsFineOption refused
    → IsFine rest → IsFine (refused_by refused rest)
fine_refused_by None rest callers fine = fine
fine_refused_by (Some error) rest callers fine = callers

fine_then : {A B : Type 0} (row : Result A PerError) (next : A → Result B PerError) → IsFine row
    → ((x : A) → IsFine (next x)) → IsFine (row >>= next)
fine_then (Ok x) next fine after = after x
fine_then (Err error) next fine after = fine

fine_and_then : {A B : Type 0} (row : Result A PerError) (next : A → Result B PerError) → IsFine row
    → ((x : A) → IsFine (next x)) → IsFine (whole.and_then row next)
fine_and_then (Ok x) next fine after = after x
fine_and_then (Err error) next fine after = fine

fine_when : (test : Bool) (error : PerError) → IsCallers error → IsFineOption (opening.when test error)
fine_when true error callers = callers
fine_when false error callers = tt

fine_first : (one later : Option PerError) → IsFineOption one → IsFineOption later
    → IsFineOption (or_next one later)
fine_first None later fine next = next
fine_first (Some error) later fine next = fine

fine_busy : (holder : Option ℕ) → IsFineOption (opening.busy holder)
fine_busy None = tt
fine_busy (Some number) = tt

fine_cond : {A : Type 0} (test : Bool) (one other : Result A PerError) → IsFine one → IsFine other
    → IsFine (cond test one other)
fine_cond true one other fine next = fine
fine_cond false one other fine next = next

-- ---- keys

fine_found : {A : Type 0} (key : Option Element) (call : Element → Result A PerError)
    → ((e : Element) → IsFine (call e)) → IsFine (kvs.found key call)
fine_found None call fine = tt
fine_found (Some key) call fine = fine key

fine_value : (value : Option Tree) → IsFine (kvs.readable_value value)
fine_value None = tt
fine_value (Some value) = tt

fine_read : (c : StorageData) (name : List ℕ) (content : Content) → IsFine (kvs.read_key c name content)
fine_read c name (Good bytes) = fine_value (decoded bytes)
fine_read c name (Bad salvage) = tt

fine_get : (c : StorageData) (m : Map) (name : List ℕ) → IsFine (kvs.get_any c m name)
fine_get c m name = fine_found (element_at m name) (λ key. kvs.read_key c name key.content)
    (λ key. fine_read c name key.content)

fine_as : (asked : Kind) (row : Result Tree PerError) → IsFine row → IsFine (kvs.as_kind asked row)
fine_as asked (Ok value) fine = fine_refuse (not (same_kind (type_of value) asked)) (mismatch (type_of value) asked)
    (Ok value) tt tt
fine_as asked (Err error) fine = fine

fine_typed : {A : Type 0} (kind : Option Kind) (asked : Kind) (rest : Result A PerError) → IsFine rest
    → IsFine (kvs.unless_typed kind asked rest)
fine_typed None asked rest fine = fine
fine_typed (Some stored) asked rest fine = fine_refuse (not (same_kind stored asked)) (mismatch stored asked) rest
    tt fine

fine_room : (c : StorageData) (new : Map) → IsFine (kvs.with_room c new)
fine_room c new = fine_refuse (nat_lt c.maximum (size_of new)) (error.OutOfStorageSpace (size_of new) c.maximum)
    (Ok new) tt tt

-- a readable key
abbrev key_with : List ℕ → Element
key_with bytes = record { info = None; len = length bytes; content = Good bytes }

fine_placed : (c : StorageData) (m : Map) (name bytes : List ℕ) → IsFine (kvs.with_placed c m name bytes)
fine_placed c m name bytes = fine_refuse (not (has m name) && nat_le 1024 (length m))
    (error.LimitReached limit.Elements) (kvs.with_room c (with_element m name (key_with bytes))) tt
    (fine_room c (with_element m name (key_with bytes)))

fine_set : (c : StorageData) (m : Map) (name : List ℕ) (value : Tree) → IsFine (kvs.set_any c m name value)
fine_set c m name value = fine_refuse c.read_only error.IllegalWriteAccess
    (kvs.unless_typed (kvs.kind_for (element_named c name) (element_at m name)) (type_of value)
    (kvs.with_placed c m name (encoding value))) tt
    (fine_typed (kvs.kind_for (element_named c name) (element_at m name)) (type_of value)
    (kvs.with_placed c m name (encoding value)) (fine_placed c m name (encoding value)))

fine_remove : (c : StorageData) (m : Map) (name : List ℕ) → IsFine (kvs.remove_key c m name)
fine_remove c m name = fine_refuse c.read_only error.IllegalWriteAccess
    (refuse (not (has m name)) error.KeyNotFound (Ok (without m name))) tt
    (fine_refuse (not (has m name)) error.KeyNotFound (Ok (without m name)) tt tt)

fine_restored : (c : StorageData) (m : Map) (name : List ℕ) (initial : Option (List ℕ))
    → IsFine (kvs.restored c m name initial)
fine_restored c m name None = tt
fine_restored c m name (Some bytes) = fine_room c (with_element m name (key_with bytes))

fine_recovered : (c : StorageData) (m : Map) (name : List ℕ) (content : Content)
    → IsFine (kvs.recovered c m name content)
fine_recovered c m name (Good bytes) = tt
fine_recovered c m name (Bad (Some salvage)) = tt
fine_recovered c m name (Bad None) = fine_restored c m name (initial_content c name)

fine_recover : (c : StorageData) (m : Map) (name : List ℕ) → IsFine (kvs.recover_key c m name)
fine_recover c m name = fine_refuse c.read_only error.IllegalWriteAccess
    (kvs.found (element_at m name) (λ key. kvs.recovered c m name key.content)) tt
    (fine_found (element_at m name) (λ key. kvs.recovered c m name key.content)
    (λ key. fine_recovered c m name key.content))

fine_initial : {A : Type 0} (initial : Option (List ℕ)) (call : List ℕ → Result A PerError)
    → ((bytes : List ℕ) → IsFine (call bytes)) → IsFine (with_initial initial call)
fine_initial None call fine = tt
fine_initial (Some bytes) call fine = fine bytes

fine_reset : (c : StorageData) (m : Map) (name : List ℕ) → IsFine (kvs.reset_key c m name)
fine_reset c m name = fine_refuse c.read_only error.IllegalWriteAccess
    (with_initial (initial_content c name) (λ bytes. kvs.with_placed c m name bytes)) tt
    (fine_initial (initial_content c name) (λ bytes. kvs.with_placed c m name bytes) (λ bytes. fine_placed c m name bytes))

pub keys_fine : (c : StorageData) (s : TwoMaps) (l : Call) → IsFine (on_keys c s l)
unfolding on_keys
keys_fine c s (call.Size n) = tt
keys_fine c s (call.Keys n) = tt
keys_fine c s (call.Exists n k) = tt
keys_fine c s (call.Get n k) = fine_then (kvs.get_any c s.visible k) _ (fine_get c s.visible k) (λ x. tt)
keys_fine c s (call.GetAs n k t) = fine_then (kvs.get_as c s.visible k t) _
    (fine_as t (kvs.get_any c s.visible k) (fine_get c s.visible k)) (λ x. tt)
keys_fine c s (call.Set n k x) = fine_then (kvs.set_any c s.visible k x) _ (fine_set c s.visible k x) (λ m. tt)
keys_fine c s (call.Remove n k) = fine_then (kvs.remove_key c s.visible k) _ (fine_remove c s.visible k) (λ m. tt)
keys_fine c s (call.RemoveAll n) = fine_then (kvs.remove_all_keys c s.visible) _
    (fine_refuse c.read_only error.IllegalWriteAccess (Ok []) tt tt) (λ m. tt)
keys_fine c s (call.RecoverKey n k) = fine_then (kvs.recover_key c s.visible k) _ (fine_recover c s.visible k) (λ m. tt)
keys_fine c s (call.ResetKey n k) = fine_then (kvs.reset_key c s.visible k) _ (fine_reset c s.visible k) (λ m. tt)
keys_fine c s (call.Discard n) = tt
keys_fine c s other = tt

-- ---- files, by name

fine_file : {A : Type 0} (file : Option Element) (call : Element → Result A PerError)
    → ((e : Element) → IsFine (call e)) → IsFine (by_name.found file call)
fine_file None call fine = tt
fine_file (Some file) call fine = fine file

fine_info : (info : Option FileInfo) → IsFine (by_name.info_or info)
fine_info None = tt
fine_info (Some info) = tt

fine_held : {A : Type 0} (storage : Storage) (s : Session) (name : List ℕ) (call : Element → Result A PerError)
    → ((e : Element) → IsFine (call e)) → IsFine (by_name.unless_held storage s name call)
fine_held storage s name call fine = fine_refuse storage.read_only error.IllegalWriteAccess
    (by_name.found (element_at s.files name) (λ file. refused_by (opening.busy (blocking Write name s.handles))
    (call file))) tt
    (fine_file (element_at s.files name) _ (λ file. fine_refused_by (opening.busy (blocking Write name s.handles))
    (call file) (fine_busy (blocking Write name s.handles)) (fine file)))

fine_long : (room : Room) (len : ℕ) → IsFineOption (core.too_long room len)
fine_long room len = by (nat_lt 1048576 len) (nat_lt room.allowed (room.others + len))
  where
    by : (long full : Bool) → IsFineOption (cond long (Some (error.LimitReached limit.FileBytes))
        (cond full (Some (error.OutOfStorageSpace (room.others + len) room.allowed)) None))
    by true full = tt
    by false true = tt
    by false false = tt

fine_content : (storage : Storage) (s : Session) (name : List ℕ) (file : Element)
    → IsFine (by_name.with_content storage s name file)
fine_content storage s name file = fine_refused_by (core.too_long (room_for s.files name storage.maximum) file.len) _
    (fine_long (room_for s.files name storage.maximum) file.len) tt

fine_file_recovered : (storage : Storage) (s : Session) (name : List ℕ) (now : ℕ) (initial : Option (List ℕ))
    (file : Element) (content : Content)
    → IsFine (by_name.recovered storage s name now initial file content)
fine_file_recovered storage s name now initial file (Good bytes) = tt
fine_file_recovered storage s name now initial file (Bad (Some salvage)) = tt
fine_file_recovered storage s name now (Some bytes) file (Bad None) = fine_content storage s name _
fine_file_recovered storage s name now None file (Bad None) = tt

fine_many : (files : Map) (name : List ℕ) → IsFineOption (opening.too_many files name)
fine_many files name = fine_when (not (has files name) && nat_le 1024 (length files))
    (error.LimitReached limit.Elements) tt

fine_file_reset : (storage : Storage) (s : Session) (name : List ℕ) (now : ℕ) (initial : Option (List ℕ))
    → IsFine (by_name.reset_file storage s name now initial)
fine_file_reset storage s name now initial = fine_refuse storage.read_only error.IllegalWriteAccess _ tt
    (fine_initial initial _ (λ bytes. fine_refused_by (opening.busy (blocking Write name s.handles)) _
    (fine_busy (blocking Write name s.handles))
    (fine_refused_by (opening.too_many s.files name) _ (fine_many s.files name)
    (fine_content storage s name (by_name.reset now bytes (element_at s.files name))))))

-- ---- files, opened

fine_can_open : (storage : Storage) (s : Session) (name : List ℕ) (kind : OpenKind) (mode : OpenMode)
    → IsFineOption (opening.can_open storage s name kind mode)
fine_can_open storage s name kind mode =
    fine_first (opening.when (places.is_bad_mode kind mode) error.InvalidOpenMode) _
    (fine_when (places.is_bad_mode kind mode) error.InvalidOpenMode tt)
    (fine_first (opening.when (places.writes kind && storage.read_only) error.IllegalWriteAccess) _
    (fine_when (places.writes kind && storage.read_only) error.IllegalWriteAccess tt)
    (fine_first (opening.when (not (places.writes kind) && not (has s.files name)) error.FileNotFound) _
    (fine_when (not (places.writes kind) && not (has s.files name)) error.FileNotFound tt)
    (fine_first (opening.when (opening.is_unreadable (element_at s.files name))
    (error.IntegrityCorrupted (Part storage.name name))) _
    (fine_when (opening.is_unreadable (element_at s.files name)) (error.IntegrityCorrupted (Part storage.name name)) tt)
    (fine_first (opening.busy (blocking kind name s.handles)) _ (fine_busy (blocking kind name s.handles))
    (fine_first (opening.when (nat_le 64 (length s.handles)) (error.LimitReached limit.Handles)) _
    (fine_when (nat_le 64 (length s.handles)) (error.LimitReached limit.Handles) tt)
    (fine_many s.files name))))))

fine_open : (storage : Storage) (s : Session) (name : List ℕ) (kind : OpenKind) (mode : OpenMode) (now : ℕ)
    → IsFine (opening.open_file storage s name kind mode now)
fine_open storage s name kind mode now = fine_refused_by (opening.can_open storage s name kind mode) _
    (fine_can_open storage s name kind mode)
    (fine_refused_by (opening.no_room_to_create storage s.files name) _
    (fine_when (not (has s.files name) && nat_lt storage.maximum (size_of s.files + length name))
    (error.OutOfStorageSpace (size_of s.files + length name) storage.maximum) tt) tt)

-- ---- files, by a handle

fine_at : {A : Type 0} (s : Session) (number : ℕ) (call : Handle → Element → Result A PerError)
    → ((handle : Handle) (file : Element) → IsFine (call handle file)) → IsFine (handling.at_handle s number call)
fine_at {A} s number call fine = by (open_at s number)
  where
    by : (o : Option (Handle × Element)) → IsFine (handling.on_open o call)
    by None = tt
    by (Some o) = fine o.0 o.1

fine_moving : {A : Type 0} (s : Session) (number : ℕ) (handle : Handle) (row : Result (A × Cursor) PerError)
    → IsFine row → IsFine (handling.moving s number handle row)
fine_moving s number handle (Ok answer) fine = tt
fine_moving s number handle (Err error) fine = fine

fine_moved : (s : Session) (number : ℕ) (handle : Handle) (row : Result Cursor PerError) → IsFine row
    → IsFine (handling.moved_to s number handle row)
fine_moved s number handle (Ok cursor) fine = tt
fine_moved s number handle (Err error) fine = fine

fine_changing : (s : Session) (number : ℕ) (handle : Handle) (name : List ℕ) (row : Result (Cursor × Element) PerError)
    → IsFine row
    → IsFine (handling.changing s number handle (with_changed s.files name row))
fine_changing s number handle name (Ok new) fine = tt
fine_changing s number handle name (Err error) fine = fine

fine_reading : {A : Type 0} (cursor : Cursor) (bytes : List ℕ) (use_rest : List ℕ → A)
    → IsFine (places.reading cursor bytes use_rest)
fine_reading cursor bytes use_rest = fine_refuse (not (places.reads cursor.kind)) error.IllegalReadAccess _ tt
    (fine_refuse (places.is_eof cursor bytes) error.IsEof _ tt tt)

fine_written : (cursor : Cursor) (file : Element) (piece : List ℕ) (now : ℕ) (room : Room)
    → IsFine (core.written cursor file piece now room)
fine_written cursor file piece now room = fine_refuse (not (places.writes cursor.kind)) error.IllegalWriteAccess _ tt
    (fine_cond (length piece == 0) _ _ tt (fine_refused_by (core.too_long room _) _ (fine_long room _) tt))

fine_cut : (cursor : Cursor) (file : Element) (size now : ℕ) → IsFine (core.cut cursor file size now)
fine_cut cursor file size now = fine_refuse (not (places.writes cursor.kind)) error.IllegalWriteAccess _ tt
    (fine_refuse (nat_lt (length (readable_bytes file.content)) size) error.InvalidSize _ tt tt)

fine_write : (storage : Storage) (s : Session) (now number : ℕ) (piece : List ℕ)
    → IsFine (handling.write storage s now number piece)
fine_write storage s now number piece = fine_at s number _
    (λ handle file. fine_changing s number handle handle.name
    (core.written handle.cursor file piece now (room_for s.files handle.name storage.maximum))
    (fine_written handle.cursor file piece now (room_for s.files handle.name storage.maximum)))

fine_set_size : (s : Session) (now number size : ℕ) → IsFine (handling.set_size s now number size)
fine_set_size s now number size = fine_at s number _ (λ handle file.
    fine_changing s number handle handle.name (core.cut handle.cursor file size now)
    (fine_cut handle.cursor file size now))

fine_get_byte : (s : Session) (number : ℕ) → IsFine (handling.get_byte s number)
fine_get_byte s number = fine_at s number _ (λ handle file.
    fine_moving s number handle (places.get_byte handle.cursor (readable_bytes file.content))
    (fine_reading {A = ℕ × Cursor} handle.cursor (readable_bytes file.content)
    (λ rest. (slice_index rest 0, places.advanced handle.cursor 1))))

fine_read_some : (s : Session) (number count : ℕ) → IsFine (handling.read s number count)
fine_read_some s number count = fine_at s number _ (λ handle file.
    fine_moving s number handle (places.read handle.cursor (readable_bytes file.content) count)
    (fine_reading {A = List ℕ × Cursor} handle.cursor (readable_bytes file.content)
    (λ rest. (take count rest, places.advanced handle.cursor (min count (length rest))))))

fine_read_all : (s : Session) (number : ℕ) → IsFine (handling.read_all s number)
fine_read_all s number = fine_at s number _ (λ handle file.
    fine_moving s number handle (places.read_all handle.cursor (readable_bytes file.content))
    (fine_reading {A = List ℕ × Cursor} handle.cursor (readable_bytes file.content)
    (λ rest. (rest, places.advanced handle.cursor (length rest)))))

fine_read_line : (s : Session) (number delimiter : ℕ) → IsFine (handling.read_line s number delimiter)
fine_read_line s number delimiter = fine_at s number _
    (λ handle file. fine_moving s number handle (places.read_line handle.cursor (readable_bytes file.content) delimiter)
    (fine_reading {A = List ℕ × Cursor} handle.cursor (readable_bytes file.content)
    (λ rest. (
      places.before (places.next_delimiter delimiter rest) rest,
      places.advanced handle.cursor (places.past (places.next_delimiter delimiter rest) rest),
    ))))

fine_moved_by : (cursor : Cursor) (size : ℕ) (origin : Origin) (offset : ℤ)
    → IsFine (places.move_position cursor size origin offset)
fine_moved_by cursor size origin offset =
    let target : ℤ = pos (places.origin_place origin cursor size) +ℤ offset in
    fine_refuse {A = ℕ × Cursor} (not (int_le (pos 0) target && int_le target (pos size))) error.InvalidPosition
    (Ok (unsigned_abs target, places.moved cursor (unsigned_abs target))) tt tt

fine_move : (s : Session) (number : ℕ) (origin : Origin) (offset : ℤ)
    → IsFine (handling.move_position s number origin offset)
fine_move s number origin offset = fine_at s number _ (λ handle file.
    fine_moving s number handle (places.move_position handle.cursor file.len origin offset)
    (fine_moved_by handle.cursor file.len origin offset))

fine_seek : (s : Session) (number position : ℕ) → IsFine (handling.set_position s number position)
fine_seek s number position = fine_at s number _ (λ handle file.
    fine_moved s number handle (places.set_position handle.cursor file.len position)
    (fine_refuse (nat_lt file.len position) error.InvalidPosition _ tt tt))

-- ---- whole contents

fine_cat : (storage : Storage) (s : Session) (name : List ℕ) (now : ℕ) → IsFine (whole.cat storage s name now)
fine_cat storage s name now = fine_and_then (opening.open_file storage s name Read plain now) _
    (fine_open storage s name Read plain now) (λ o. tt)

fine_put : (storage : Storage) (s : Session) (name bytes : List ℕ) (now : ℕ)
    → IsFine (whole.put_whole storage s name bytes now)
fine_put storage s name bytes now = fine_refused_by (opening.can_open storage s name Write truncating) _
    (fine_can_open storage s name Write truncating)
    (fine_refused_by (opening.would_fit storage s.files name (length bytes)) _
    (fine_long (room_for s.files name storage.maximum) (length bytes))
    (fine_and_then (opening.open_file storage s name Write truncating now) _
    (fine_open storage s name Write truncating now)
    (λ o. fine_and_then (handling.write storage o.1 now o.0 bytes) _ (fine_write storage o.1 now o.0 bytes)
    (λ after. tt))))

pub files_fine : (c : StorageData) (now : ℕ) (w : Session) (l : Call) → IsFine (on_working c now w l)
unfolding on_working
files_fine c now w (call.Size n) = tt
files_fine c now w (call.Files n) = tt
files_fine c now w (call.FileExists n f) = tt
files_fine c now w (call.OpenFile n f k m) = fine_then (opening.open_file (run.storage_of c) w f k m now) _
    (fine_open (run.storage_of c) w f k m now) (λ x. tt)
files_fine c now w (call.CloseFile n h) = fine_then (handling.close w h) _ (fine_at w h _ (λ handle file. tt)) (λ x. tt)
files_fine c now w (call.Peek n h) = fine_then (handling.peek_byte w h) _
    (fine_at w h _ (λ handle file. fine_reading {A = ℕ} handle.cursor (readable_bytes file.content)
    (λ rest. slice_index rest 0))) (λ x. tt)
files_fine c now w (call.Byte n h) = fine_then (handling.get_byte w h) _ (fine_get_byte w h) (λ x. tt)
files_fine c now w (call.Read n h count) = fine_then (handling.read w h count) _ (fine_read_some w h count) (λ x. tt)
files_fine c now w (call.ReadAll n h) = fine_then (handling.read_all w h) _ (fine_read_all w h) (λ x. tt)
files_fine c now w (call.Line n h d) = fine_then (handling.read_line w h d) _ (fine_read_line w h d) (λ x. tt)
files_fine c now w (call.Write n h bytes) = fine_then (handling.write (run.storage_of c) w now h bytes) _
    (fine_write (run.storage_of c) w now h bytes) (λ x. tt)
files_fine c now w (call.SetSize n h size) = fine_then (handling.set_size w now h size) _ (fine_set_size w now h size)
    (λ x. tt)
files_fine c now w (call.HandleSize n h) = fine_then (handling.size w h) _ (fine_at w h _ (λ handle file. tt)) (λ x. tt)
files_fine c now w (call.Position n h) = fine_then (handling.position w h) _ (fine_at w h _ (λ handle file. tt))
    (λ x. tt)
files_fine c now w (call.Seek n h at) = fine_then (handling.set_position w h at) _ (fine_seek w h at) (λ x. tt)
files_fine c now w (call.Move n h from offset) = fine_then (handling.move_position w h from offset) _
    (fine_move w h from offset) (λ x. tt)
files_fine c now w (call.Eof n h) = fine_then (handling.is_eof w h) _ (fine_at w h _ (λ handle file. tt)) (λ x. tt)
files_fine c now w (call.SizeOf n f) = fine_then (by_name.current_file_size w.files f) _
    (fine_file (element_at w.files f) _ (λ file. tt)) (λ x. tt)
files_fine c now w (call.Info n f) = fine_then (by_name.file_info w.files f) _
    (fine_file (element_at w.files f) _ (λ file. fine_info file.info)) (λ x. tt)
files_fine c now w (call.Delete n f) = fine_then (by_name.delete_file (run.storage_of c) w f) _
    (fine_held (run.storage_of c) w f _ (λ file. tt)) (λ x. tt)
files_fine c now w (call.RecoverFile n f) = fine_then
    (by_name.recover_file (run.storage_of c) w f now (initial_content c f)) _
    (fine_held (run.storage_of c) w f _ (λ file. fine_file_recovered (run.storage_of c) w f now (initial_content c f) file
    file.content)) (λ x. tt)
files_fine c now w (call.ResetFile n f) = fine_then (by_name.reset_file (run.storage_of c) w f now (initial_content c f)) _
    (fine_file_reset (run.storage_of c) w f now (initial_content c f)) (λ x. tt)
files_fine c now w (call.Cat n f) = fine_then (whole.cat (run.storage_of c) w f now) _
    (fine_cat (run.storage_of c) w f now) (λ x. tt)
files_fine c now w (call.Put n f bytes) = fine_then (whole.put_whole (run.storage_of c) w f bytes now) _
    (fine_put (run.storage_of c) w f bytes now) (λ x. tt)
files_fine c now w other = tt

-- ---- answers

pub answered_unfailed : {S : Type 0} (row : Result (Answer × S) PerError) (old new : S)
    (result : Result Answer PerError) → IsFine row → IsAnsweredAsRow row old new result
    → IfErr result (λ error. error ≢ PhysicalStorageFailure)
answered_unfailed {S} row old new (Ok answer) fine is = tt
answered_unfailed {S} row old new (Err error) fine is = fine_refusal row error fine is.0
