-- A storage that is put back into its slot, or is not, after it was to be made durable or closed.
use Rattle.std.specs.Prelude.{◌≡◌, ℕ, [], Option, Some, None, slice_set}
use Rattle.per_base.specs.declared.errors.PerError.{PerError}
use Rattle.element_store.specs.Stores.{view_in}
use Rattle.command_text.specs.declared.replies.Answer.{Answer}
use Rattle.command_text.specs.declared.replies.Answer.TheVariants as answer
use Rattle.command_text.specs.declared.replies.Reply.{Reply}
use Rattle.open_storages.specs.declared.closing.Closing.{Closing}
use Rattle.open_storages.specs.declared.closing.Closing.TheVariants as closing
use Rattle.open_storages.specs.declared.opens.Open.{Open}
use Rattle.open_storages.specs.declared.syncing.Durable.{Durable}
use Rattle.open_storages.specs.declared.syncing.Durable.TheVariants as made
use Rattle.open_storages.specs.Opens.{config_in, session_in, session_kind, store_in}
use Rattle.run_model.specs.Sessions.{seen_in, synced_in_session}
use Rattle.per_runtime.specs.declared.storages.slots.OpenSlots.{OpenSlots}

-- done, or why it is refused
abbrev pub done_or : Option PerError → Answer
done_or None = answer.Done
done_or (Some e) = answer.Error e

-- the reply says that it is done, or why it is refused, and reports nothing
abbrev pub RepliesDone : Reply → Option PerError → Type 0
RepliesDone reply refused = reply ≡ record { reports = []; answer = done_or refused }

-- what always holds of an open storage: its session is one of its kind, and what is synchronised is what the storage
-- below shows
pub record IsShown (o : Open) : Type 0 where
  pub kind : session_kind (session_in o) ≡ (config_in o).kind
  pub shows : synced_in_session (session_in o) ≡ seen_in (config_in o).kind (view_in (store_in o))

-- the slot of this number has this storage, or none
abbrev pub IsSet : ℕ → Option Open → (was is : OpenSlots) → Type 0
IsSet number storage was is = is.open.items ≡ slice_set was.open.items number storage

-- the storage that a call made durable is in its slot again, or that which it refused, and the reply says which
abbrev pub IsPutBack : ℕ → Durable → (was is : OpenSlots) → Reply → Type 0
IsPutBack number (made.Done later) was is reply = IsShown later × IsSet number (Some later) was is
    × RepliesDone reply None
IsPutBack number (made.Refused same error) was is reply = IsSet number (Some same) was is
    × RepliesDone reply (Some error)

-- a storage that was closed leaves its slot as it is
abbrev pub LeavesSlot : ℕ → Closing → (was is : OpenSlots) → Reply → Type 0
LeavesSlot number closing.Done was is reply = (is ≡ was) × RepliesDone reply None
LeavesSlot number (closing.Refused same error) was is reply = IsSet number (Some same) was is
    × RepliesDone reply (Some error)
