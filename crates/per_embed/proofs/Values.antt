-- What an open storage leaves of its values: it reads so on the disk, a stop while the disk is not called leaves them,
-- and a stop in a sync leaves one or the other.
use Rattle.std.proofs.Common.{ℕ, List, [], Bool, subst}
use Rattle.std.specs.Prelude.{IfOk, IfSome, IsSomeAnd, IsTrue, Option, Some, None, Result, Ok, Err}
use Rattle.per_base.specs.Maps.{Map}
use Rattle.per_base.specs.declared.errors.PerError.{PerError}
use Rattle.disk_model.specs.Medium.{IsLawful, Medium}
use Rattle.value_model.specs.Kinds.{Kind}
use Rattle.value_model.specs.Trees.{Tree}
use Rattle.element_state.specs.States.{Opens}
use Rattle.element_store.specs.Stores.{store_shape}
use Rattle.element_maps.specs.Storages.{IsStoring}
use Rattle.kvs_store.specs.Storages.{KvsSession}
use Rattle.kvs_store.specs.Synced.{synced_view}
use Rattle.kvs_laws.specs.Laws.{OpensWithValue, ReadsLaw, StillLaw, SyncLaw}
use Rattle.kvs_laws.specs.Values.{HasValue, ReadsAs}
use Rattle.per_embed.specs.Owned.{IsOpenOn, IsSaved, KeepsEachSynced, KeepsValues, ReadsSynced, asked_of}

opens_with : (told : Bool) (m : Medium) (kvs : KvsSession) (name : List ℕ) (kind : Kind) (value : Tree) → IsTrue told
    → IsOpenOn told m kvs → HasValue (asked_of kvs name kind) kvs.session.synced value
    → OpensWithValue (asked_of kvs name kind) m.image kvs value
opens_with told m kvs name kind value tells is has = record {
  told = told;
  tells = tells;
  used = is.used;
  shown = is.shown;
  value_is = has;
}

pub reads_synced : ReadsLaw → (told : Bool) (storage : Option KvsSession) (m : Medium)
    → IfSome storage (IsOpenOn told m) → IsTrue told → IfSome storage (λ kvs. ReadsSynced kvs m.image)
reads_synced reads told None m is tells = tt
reads_synced reads told (Some kvs) m is tells = λ name kind value has.
    reads (asked_of kvs name kind) m.image kvs value (opens_with told m kvs name kind value tells is has)

pub keeps_synced : StillLaw → (told : Bool) (storage : Option KvsSession) (m : Medium) → IsLawful told m
    → IfSome storage (IsOpenOn told m) → IsTrue told → IfSome storage (λ kvs. KeepsEachSynced kvs m)
keeps_synced still told None m lawful is tells = tt
keeps_synced still told (Some kvs) m lawful is tells = λ name kind value has clean c since.
    still (asked_of kvs name kind) m.image kvs value value c (opens_with told m kvs name kind value tells is has) clean
    (is.quiet c (lawful.only_now c since))

pub keeps_values : SyncLaw → (told : Bool) (storage : Option KvsSession) (old new : Medium)
    → IfSome storage (IsOpenOn told old)
    → IfSome storage (λ kvs. IsStoring told (store_shape kvs.store) (Opens (synced_view kvs) []) old new) → IsTrue told
    → IfSome storage (λ kvs. KeepsValues kvs old new)
keeps_values sync told None old new is storing tells = tt
keeps_values sync told (Some kvs) old new is storing tells = λ name kind before after was shows clean c since.
    sync (asked_of kvs name kind) old.image kvs before after c (opens_with told old kvs name kind before tells is was)
    shows (storing.any_moment tells is.quiet clean c since)

reads_so : ReadsLaw → (told : Bool) (storage : Option KvsSession) (m : Medium) (name : List ℕ) (kind : Kind)
    (value : Tree) → IfSome storage (IsOpenOn told m)
    → IsSomeAnd storage (λ kvs. HasValue (asked_of kvs name kind) kvs.session.visible value) → IsTrue told
    → IfSome storage (λ kvs. IsSaved kvs → ReadsAs (asked_of kvs name kind) (store_shape kvs.store) value m.image)
reads_so reads told None m name kind value is has tells = tt
reads_so reads told (Some kvs) m name kind value is has tells = λ saved.
    reads (asked_of kvs name kind) m.image kvs value (opens_with told m kvs name kind value tells is
    (subst (λ (shown : Map). HasValue (asked_of kvs name kind) shown value) saved has))

pub reads_got : {A : Type 0} (tree : A → Tree) (reads : ReadsLaw) (told : Bool) (storage : Option KvsSession)
    (m : Medium) (name : List ℕ) (kind : Kind) (result : Result A PerError) → IfSome storage (IsOpenOn told m)
    → IfOk result (λ thing. IsSomeAnd storage (λ kvs.
    HasValue (asked_of kvs name kind) kvs.session.visible (tree thing)))
    → IfOk result (λ thing. IsTrue told → IfSome storage (λ kvs. IsSaved kvs
    → ReadsAs (asked_of kvs name kind) (store_shape kvs.store) (tree thing) m.image))
reads_got tree reads told storage m name kind (Ok thing) is has = λ tells.
    reads_so reads told storage m name kind (tree thing) is has tells
reads_got tree reads told storage m name kind (Err error) is has = tt
