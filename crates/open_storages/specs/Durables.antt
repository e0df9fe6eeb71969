-- What making an open storage durable, and closing it, gives back, and what it leaves of the disk.
use Rattle.std.specs.Prelude.{◌≡◌, Bool, Option, Some, None, ⊤}
use Rattle.per_base.specs.declared.errors.PerError.{PerError}
use Rattle.disk_model.specs.Image.{Image}
use Rattle.disk_model.specs.Medium.{Medium}
use Rattle.element_state.specs.Written.{IsWithin, map_cost}
use Rattle.element_store.specs.Committing.{index_length}
use Rattle.element_store.specs.Stores.{IsUsed, store_shape, view_in}
use Rattle.run_model.specs.Sessions.{made_durable, seen_of, synced_in_session}
use Rattle.open_storages.specs.declared.opens.Open.{Open}
use Rattle.open_storages.specs.declared.syncing.Durable.{Durable}
use Rattle.open_storages.specs.declared.syncing.Durable.TheVariants as made
use Rattle.open_storages.specs.declared.closing.Closing.{Closing}
use Rattle.open_storages.specs.declared.closing.Closing.TheVariants as left
use Rattle.open_storages.specs.Opens.{config_in, session_in, store_in}
use Rattle.open_storages.specs.Refusals.{durable_view}

-- a later storage in whose place what the calls saw is on the disk, and all else is as it was
pub record IsMadeDurable (told : Bool) (image : Image) (before later : Open) : Type 0 where
  pub session : session_in later ≡ made_durable (session_in before)
  pub config : config_in later ≡ config_in before
  pub shape : store_shape (store_in later) ≡ store_shape (store_in before)
  pub view : view_in (store_in later) ≡ durable_view before
  pub used : IsUsed told image (store_in later)

-- making a storage durable was not to be refused, and it is; or it was refused for what was due, and the storage is
-- handed back as it was
abbrev pub IsDurableOrRefused : (told : Bool) → Image → Open → Option PerError → Durable → Type 0
IsDurableOrRefused told image before refused (made.Done later) = (refused ≡ None)
    × IsMadeDurable told image before later
IsDurableOrRefused told image before refused (made.Refused same error) = (refused ≡ Some error) × (same ≡ before)

-- the storage as it is durable, or as it is refused where there is an error
abbrev pub made_of : Open → Option PerError → Durable
made_of o None = made.Done o
made_of o (Some error) = made.Refused o error

-- a storage was closed, which was not to be refused; or it was refused for what was due, and handed back as it was
abbrev pub IsClosedOrRefused : Open → Option PerError → Closing → Type 0
IsClosedOrRefused before refused left.Done = refused ≡ None
IsClosedOrRefused before refused (left.Refused same error) = (refused ≡ Some error) × (same ≡ before)

-- P holds where the storage was closed
abbrev pub OnClosed : Closing → Type 0 → Type 0
OnClosed left.Done P = P
OnClosed (left.Refused same error) P = ⊤

-- into each copy at most the contents that differ and the next index are written
abbrev pub WritesAtMost : Open → (old new : Medium) → Type 0
WritesAtMost o old new = IsWithin (store_shape (store_in o)).place.copies
    (map_cost (config_in o).kind (synced_in_session (session_in o)) (seen_of (session_in o)))
    (index_length (config_in o).kind (durable_view o).entries) old.written new.written
