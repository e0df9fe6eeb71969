-- Open storages, and the calls on them that touch no disk: of each the answer, or the refusal, and the session after
-- it.
use Rattle.std.specs.Prelude.{ℕ, [], Result, Ok, Err}
use Rattle.per_base.specs.declared.elements.StoreKind.{StoreKind}
use Rattle.per_base.specs.declared.elements.StoreKind.TheVariants as kinds
use Rattle.per_base.specs.declared.errors.PerError.{PerError}
use Rattle.per_base.specs.declared.errors.PerError.TheVariants as error
use Rattle.per_base.specs.Maps.{Map, has, names_of, size_of}
use Rattle.value_model.specs.Trees.{Tree}
use Rattle.deployment_model.specs.Data.{StorageData}
use Rattle.deployment_model.specs.Lookups.{initial_content}
use Rattle.value_code.specs.Reading.{is_encoding}
use Rattle.kvs_core.specs.Calls as kvs
use Rattle.file_handles.specs.declared.storage.Storage.{Storage}
use Rattle.file_handles.specs.Sessions as handles
use Rattle.file_handles.specs.ByName as by_name
use Rattle.file_handles.specs.Handling as handling
use Rattle.file_handles.specs.Opening as opening
use Rattle.file_handles.specs.Whole as whole
use Rattle.element_state.specs.declared.shapes.View.{View}
use Rattle.element_state.specs.Views.{map_of}
use Rattle.element_maps.specs.Sessions.{synchronised}
use Rattle.key_maps.specs.TwoMaps.{TwoMaps}
use Rattle.command_text.specs.declared.calls.Call.{Call}
use Rattle.command_text.specs.declared.calls.Call.TheVariants as call
use Rattle.command_text.specs.declared.replies.Answer.{Answer}
use Rattle.command_text.specs.declared.replies.Answer.TheVariants as answer
use Rattle.deploy_rows.specs.Rows.{◌>>=◌}

-- an open storage of files: what is on the disk, and the working files with the handles on them
pub record FileSession : Type 0 where
  pub synced : Map
  pub working : handles.Session

-- an open storage of keys, what is on the disk and what the calls see; or one of files
pub data Session : Type 0 where
  keys : TwoMaps → Session
  files : FileSession → Session

-- what is seen of a view where a storage is opened: bytes of a key that encode no value are unreadable, and no salvage
abbrev pub seen_in : StoreKind → View → Map
seen_in kinds.Keys v = synchronised is_encoding v
seen_in kinds.Files v = map_of v

-- the session of a storage that was seen so: nothing is pending, and no handle is open
abbrev pub session_of : StoreKind → View → Session
session_of kinds.Keys v = keys (record { synced = seen_in kinds.Keys v; visible = seen_in kinds.Keys v })
session_of kinds.Files v = files (record {
  synced = seen_in kinds.Files v;
  working =
      record { files = seen_in kinds.Files v; handles = [] };
})

-- an answer, and the session after it
abbrev pub Answered : Type 0 → Type 0
Answered S = Result (Answer × S) PerError

-- ---- keys

-- what is answered of a result, the session being the same
abbrev pub shows : TwoMaps → {A : Type 0} → (A → Answer) → Result A PerError → Answered TwoMaps
shows s {A} form row = row >>= λ x. Ok (form x, s)

-- the calls see another map
abbrev pub changes : TwoMaps → Result Map PerError → Answered TwoMaps
changes s row = row >>= λ m. Ok (answer.Done, record s { visible = m })

-- what a call answers in an open storage of keys with this configuration, and the session after it
unfoldable pub on_keys : StorageData → TwoMaps → Call → Answered TwoMaps
on_keys c s (call.Size n) = Ok (answer.Number (size_of s.visible), s)
on_keys c s (call.Keys n) = Ok (answer.Names (names_of s.visible), s)
on_keys c s (call.Exists n k) = Ok (answer.Truth (has s.visible k), s)
on_keys c s (call.Get n k) = shows s {A = Tree} answer.Val (kvs.get_any c s.visible k)
on_keys c s (call.GetAs n k t) = shows s {A = Tree} answer.Val (kvs.get_as c s.visible k t)
on_keys c s (call.Set n k x) = changes s (kvs.set_any c s.visible k x)
on_keys c s (call.Remove n k) = changes s (kvs.remove_key c s.visible k)
on_keys c s (call.RemoveAll n) = changes s (kvs.remove_all_keys c s.visible)
on_keys c s (call.RecoverKey n k) = changes s (kvs.recover_key c s.visible k)
on_keys c s (call.ResetKey n k) = changes s (kvs.reset_key c s.visible k)
on_keys c s (call.Discard n) = Ok (answer.Done, record s { visible = s.synced })
-- no other call comes to a storage of keys
on_keys c s other = Err error.StorageNotFound

-- ---- files

-- what the working files must know of their storage
abbrev pub storage_of : StorageData → Storage
storage_of c = record { name = c.name; read_only = c.read_only; maximum = c.maximum }

-- the working files of a session, with the handles on them
abbrev pub Working : Type 0
Working = handles.Session

-- what is answered of a result, the working files being the same
abbrev pub sees : Working → {A : Type 0} → (A → Answer) → Result A PerError → Answered Working
sees w {A} form row = row >>= λ x. Ok (form x, w)

-- an answer with the working files after it
abbrev pub moves : {A : Type 0} → (A → Answer) → Result (A × Working) PerError → Answered Working
moves {A} form row = row >>= λ x. Ok (form x.0, x.1)

-- a call done, with the working files after it
abbrev pub works : Result Working PerError → Answered Working
works row = row >>= λ w. Ok (answer.Done, w)

-- what a call answers in an open storage of files at the moment now, and the working files after it
unfoldable pub on_working : StorageData → (now : ℕ) → Working → Call → Answered Working
on_working c now w (call.Size n) = Ok (answer.Number (size_of w.files), w)
on_working c now w (call.Files n) = Ok (answer.Names (names_of w.files), w)
on_working c now w (call.FileExists n f) = Ok (answer.Truth (has w.files f), w)
on_working c now w (call.OpenFile n f k m) = moves answer.Handle (opening.open_file (storage_of c) w f k m now)
on_working c now w (call.CloseFile n h) = works (handling.close w h)
on_working c now w (call.Peek n h) = sees w answer.Byte (handling.peek_byte w h)
on_working c now w (call.Byte n h) = moves answer.Byte (handling.get_byte w h)
on_working c now w (call.Read n h count) = moves answer.Octets (handling.read w h count)
on_working c now w (call.ReadAll n h) = moves answer.Octets (handling.read_all w h)
on_working c now w (call.Line n h d) = moves answer.Octets (handling.read_line w h d)
on_working c now w (call.Write n h bytes) = works (handling.write (storage_of c) w now h bytes)
on_working c now w (call.SetSize n h size) = works (handling.set_size w now h size)
on_working c now w (call.HandleSize n h) = sees w answer.Number (handling.size w h)
on_working c now w (call.Position n h) = sees w answer.Number (handling.position w h)
on_working c now w (call.Seek n h at) = works (handling.set_position w h at)
on_working c now w (call.Move n h from offset) = moves answer.Number (handling.move_position w h from offset)
on_working c now w (call.Eof n h) = sees w answer.Truth (handling.is_eof w h)
on_working c now w (call.SizeOf n f) = sees w answer.Number (by_name.current_file_size w.files f)
on_working c now w (call.Info n f) = sees w answer.Info (by_name.file_info w.files f)
on_working c now w (call.Delete n f) = works (by_name.delete_file (storage_of c) w f)
on_working c now w (call.RecoverFile n f) = works (by_name.recover_file (storage_of c) w f now (initial_content c f))
on_working c now w (call.ResetFile n f) = works (by_name.reset_file (storage_of c) w f now (initial_content c f))
on_working c now w (call.Cat n f) = moves answer.Octets (whole.cat (storage_of c) w f now)
on_working c now w (call.Put n f bytes) = works (whole.put_whole (storage_of c) w f bytes now)
-- no other call comes to a storage of files
on_working c now w other = Err error.StorageNotFound

-- ---- either

-- what a call answers in an open storage, at the moment now, and the session after it
abbrev pub in_session : StorageData → (now : ℕ) → Session → Call → Answered Session
in_session c now (keys s) l = on_keys c s l >>= λ a. Ok (a.0, keys a.1)
in_session c now (files s) l = on_working c now s.working l >>= λ a. Ok (a.0, files (record s { working = a.1 }))

-- what is on the disk
abbrev pub synced_in_session : Session → Map
synced_in_session (keys s) = s.synced
synced_in_session (files s) = s.synced

-- what the calls see
abbrev pub seen_of : Session → Map
seen_of (keys s) = s.visible
seen_of (files s) = s.working.files

-- what the calls see is on the disk
abbrev pub made_durable : Session → Session
made_durable (keys s) = keys (record s { synced = s.visible })
made_durable (files s) = files (record s { synced = s.working.files })
