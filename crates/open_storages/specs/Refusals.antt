-- What refuses to make an open storage durable, or to close it.
use Rattle.std.specs.Prelude.{ℕ, Bool, not, ◌&&◌, Option, Some, None, Result, Ok, Err}
use Rattle.per_base.specs.declared.errors.Limit.TheVariants as limit
use Rattle.per_base.specs.declared.errors.PerError.{PerError}
use Rattle.per_base.specs.declared.errors.PerError.TheVariants.{LimitReached}
use Rattle.per_base.specs.Refusals.{or_next}
use Rattle.element_state.specs.declared.shapes.View.{View}
use Rattle.element_state.specs.States.{is_worn}
use Rattle.element_store.specs.Stores.{store_shape, view_in}
use Rattle.element_maps.specs.Sessions.{same_map, view_once_synced}
use Rattle.file_handles.specs.Opening.{busy, when}
use Rattle.run_model.specs.Calls.{lowest_handle, may_flush}
use Rattle.run_model.specs.Sessions.{seen_of, synced_in_session}
use Rattle.open_storages.specs.declared.opens.Open.{Open}
use Rattle.open_storages.specs.declared.opens.Open.TheVariants.{Keys, Files}
use Rattle.open_storages.specs.Opens.{session_in, store_in}

-- what the calls see is what is on the disk: nothing is pending
abbrev pub has_nothing_pending : Open → Bool
has_nothing_pending o = same_map (synced_in_session (session_in o)) (seen_of (session_in o))

-- no generation is left for what differs
abbrev pub worn : Open → Bool
worn o = not (has_nothing_pending o) && is_worn (view_in (store_in o))

-- the view once what the calls see is durable: the old one where nothing differs
abbrev pub durable_view : Open → View
durable_view o = view_once_synced (store_shape (store_in o)) (view_in (store_in o)) (synced_in_session (session_in o))
    (seen_of (session_in o))

-- the refusal, where there is one
abbrev pub error_of : {A : Type 0} → Result A PerError → Option PerError
error_of (Ok x) = None
error_of (Err error) = Some error

-- why a sync is refused: something differs, and no generation is left for it
abbrev pub sync_refused : Open → Option PerError
sync_refused o = when (worn o) (LimitReached limit.Generations)

-- why a flush through this handle is refused: the handle may not, or else as a sync
abbrev pub flush_refused : Open → (handle : ℕ) → Option PerError
flush_refused o handle = or_next (error_of (may_flush (session_in o) handle)) (sync_refused o)

-- what a closing makes durable may refuse it: of files as a sync; of keys pending changes are dropped, which needs no
-- generation
abbrev pub leaving_refused : Open → Option PerError
leaving_refused (Keys k) = None
leaving_refused (Files f) = sync_refused (Files f)

-- why a closing is refused: a handle is open, or what is to be made durable
abbrev pub close_refused : Open → Option PerError
close_refused o = or_next (busy (lowest_handle (session_in o))) (leaving_refused o)
