-- A storage of keys on a disk of its own: what contracts see of it, what always holds of it, and what a stop leaves.
use Rattle.std.specs.Prelude.{◌≡◌, ℕ, List, Bool, Option}
use Rattle.per_base.specs.declared.reports.Report.{Report}
use Rattle.disk_model.specs.Image.{Image}
use Rattle.disk_model.specs.Medium.{Medium, Quiet}
use Rattle.value_model.specs.Kinds.{Kind}
use Rattle.value_model.specs.Trees.{Tree}
use Rattle.element_store.specs.Stores.{IsUsed, store_shape, view_in}
use Rattle.kvs_store.specs.Storages.{KvsSession, keys_in}
use Rattle.kvs_laws.specs.Values.{AskedKey, HasValue, ReadsAs, ValueThroughout}

-- its disk, what is open on it, and what the opening reported
pub record OwnedKeys (D : Type 0) : Type 0 where
  pub disk : D
  pub kvs : Option KvsSession
  pub reports : List Report

-- the storage is in use on the disk and shows what it denotes; nothing is pending on the disk
pub record IsOpenOn (told : Bool) (m : Medium) (kvs : KvsSession) : Type 0 where
  pub used : IsUsed told m.image kvs.store
  pub shown : kvs.session.synced ≡ keys_in (view_in kvs.store)
  pub quiet : Quiet m

-- a key of the storage, asked for by a type
abbrev pub asked_of : KvsSession → List ℕ → Kind → AskedKey
asked_of kvs name kind = record { config = kvs.config; name = name; kind = kind }

-- the calls see what is synchronised
abbrev pub IsSaved : KvsSession → Type 0
IsSaved kvs = kvs.session.visible ≡ kvs.session.synced

-- on this image each key reads as it is synchronised
abbrev pub ReadsSynced : KvsSession → Image → Type 0
ReadsSynced kvs image = (name : List ℕ) (kind : Kind) (value : Tree)
    → HasValue (asked_of kvs name kind) kvs.session.synced value
    → ReadsAs (asked_of kvs name kind) (store_shape kvs.store) value image

-- of each key: a stop while the disk is not called, and then damage that spares as many copies as must agree, leaves
-- the value that is synchronised
abbrev pub KeepsEachSynced : KvsSession → Medium → Type 0
KeepsEachSynced kvs m = (name : List ℕ) (kind : Kind) (value : Tree)
    → HasValue (asked_of kvs name kind) kvs.session.synced value
    → ValueThroughout (asked_of kvs name kind) (store_shape kvs.store) (view_in kvs.store).lacking value value m m

-- of each key: a stop at any moment, and then damage that spares as many copies as must agree, leaves the value that
-- was synchronised or the one that the calls see
abbrev pub KeepsValues : KvsSession → (old new : Medium) → Type 0
KeepsValues kvs old new = (name : List ℕ) (kind : Kind) (before after : Tree)
    → HasValue (asked_of kvs name kind) kvs.session.synced before
    → HasValue (asked_of kvs name kind) kvs.session.visible after
    → ValueThroughout (asked_of kvs name kind) (store_shape kvs.store) (view_in kvs.store).lacking before after old new
