-- A key of an open storage, through a sync and while nothing is called.
use Rattle.std.proofs.Common.{◌⊎◌, inl, inr, [], refl}
use Rattle.disk_model.specs.Case.{Case, IsSettledAt}
use Rattle.disk_model.specs.Frame.{IsSettledOn}
use Rattle.disk_model.specs.Image.{Image}
use Rattle.value_model.specs.Trees.{Tree}
use Rattle.element_state.specs.declared.shapes.Shape.{Shape}
use Rattle.element_state.specs.declared.shapes.View.{View}
use Rattle.element_state.specs.Kept.{IsKeptMending}
use Rattle.element_state.specs.States.{Opens}
use Rattle.element_laws.specs.Phases.{IsOfPlace, UntouchedLaw}
use Rattle.element_maps.specs.Laws.{DecidesLaw, SameLaw}
use Rattle.element_store.specs.Stores.{store_shape, view_in}
use Rattle.kvs_store.specs.Storages.{KvsSession}
use Rattle.kvs_store.specs.Synced.{synced_view}
use Rattle.kvs_laws.specs.Laws.{OpensWithValue, ReadsLaw, StillLaw, SyncLaw}
use Rattle.kvs_laws.specs.Values.{AskedKey, LeavesValue, ReadsAs}
use Rattle.kvs_laws.proofs.Next.{synced_whole}
use Rattle.kvs_laws.proofs.Stops.{IsWhole, kept_left}

pub reads : ReadsLaw
reads asked image kvs value held = record {
  view = view_in kvs.store;
  others = [];
  opens = (held.used.disk held.tells).opens;
  value_is = rw (← held.shown) held.value_is;
}

whole_of : (asked : AskedKey) (image : Image) (kvs : KvsSession) (value : Tree) → OpensWithValue asked image kvs value
    → IsWhole asked (view_in kvs.store) value
whole_of asked image kvs value held = record {
  mended = (held.used.disk held.tells).mended;
  has = rw (← held.shown) held.value_is;
}

-- a case in which the storage is kept
leaves : (asked : AskedKey) (image : Image) (kvs : KvsSession) (next : View) (before after : Tree) (c : Case)
    → OpensWithValue asked image kvs before → IsWhole asked next after
    → IsKeptMending (store_shape kvs.store) image (Opens next []) c
    → LeavesValue asked (store_shape kvs.store) (view_in kvs.store).lacking before after c
leaves asked image kvs next before after c held new kept sound damaged left decays enough =
    kept_left asked (store_shape kvs.store) damaged image left (view_in kvs.store) next before after
    (held.used.disk held.tells).opens (whole_of asked image kvs before held) new
    (kept sound.no_twins sound.pieces damaged left decays) enough

pub sync : DecidesLaw → SameLaw → SyncLaw
sync decides same asked start kvs before after c held has kept =
    let next = synced_whole decides same asked (store_shape kvs.store) (view_in kvs.store) kvs.session.synced
    kvs.session.visible after held.shown (held.used.disk held.tells).mended has in
    leaves asked start kvs (synced_view kvs) before after c held next kept

settled_on : (shape : Shape) (image : Image) (c : Case) → IsSettledAt image c
    → IsSettledOn (IsOfPlace shape.place) image c
settled_on shape image c at = record {
  base = λ f _. rw at.base refl;
  full = λ f _. rw at.full refl;
  left = λ f _. rw at.left refl;
}

-- whatever comes next, the storage stays as it is
same_value : (asked : AskedKey) (shape : Shape) (before after : Tree) (image : Image)
    → ReadsAs asked shape before image ⊎ ReadsAs asked shape before image
    → ReadsAs asked shape before image ⊎ ReadsAs asked shape after image
same_value asked shape before after image h = elim h [ inl r ↦ inl r | inr r ↦ inl r ]

pub still : UntouchedLaw → StillLaw
still untouched asked start kvs before after c held clean settled sound damaged left decays enough =
    let kept = untouched (store_shape kvs.store) start (Opens (view_in kvs.store) []) c held.used.memory.shape.some clean
    (settled_on (store_shape kvs.store) start c settled) in
    same_value asked (store_shape kvs.store) before after left
    (leaves asked start kvs (view_in kvs.store) before before c held (whole_of asked start kvs before held)
    (λ twins. kept) sound damaged left decays enough)
