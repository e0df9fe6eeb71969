-- The value of one key: on an image, and what a stop in a sync leaves of it.
use Rattle.std.specs.Prelude.{◌≡◌, ◌⊎◌, ℕ, List, Ok}
use Rattle.per_base.specs.Maps.{Map}
use Rattle.disk_model.specs.Case.{Case}
use Rattle.disk_model.specs.Damage.{DecaysFor}
use Rattle.disk_model.specs.Image.{Image}
use Rattle.disk_model.specs.Medium.{EachCase, Medium}
use Rattle.value_model.specs.Kinds.{Kind}
use Rattle.value_model.specs.Trees.{Tree}
use Rattle.deployment_model.specs.Data.{StorageData}
use Rattle.element_state.specs.declared.shapes.Shape.{Shape}
use Rattle.element_state.specs.declared.shapes.View.{View}
use Rattle.element_state.specs.Clean.{IsClean, IsPiece, IsSound}
use Rattle.element_state.specs.Kept.{HasEnough}
use Rattle.element_state.specs.States.{Opens, store_at}
use Rattle.kvs_core.specs.Calls.{get_as}
use Rattle.kvs_store.specs.Storages.{keys_in}

-- which key of which storage, and the type by which it is asked for
pub record AskedKey : Type 0 where
  pub config : StorageData
  pub name : List ℕ
  pub kind : Kind

-- in this map the key has this value
abbrev pub HasValue : AskedKey → Map → Tree → Type 0
HasValue asked m value = get_as asked.config m asked.name asked.kind ≡ Ok value

-- on this image the storage opens, and the key has this value
pub record ReadsAs (asked : AskedKey) (shape : Shape) (value : Tree) (image : Image) : Type 0 where
  pub view : View
  pub others : List View
  pub opens : store_at image shape ≡ Opens view others
  pub value_is : HasValue asked (keys_in view) value

-- a stop in this case, in which nothing passes its hash by chance, and then damage that spares as many copies as must
-- agree, of those that lacked nothing, leaves the old value or the new one
abbrev pub LeavesValue : AskedKey → Shape → (lacking : List ℕ) → (before after : Tree) → Case → Type 0
LeavesValue asked shape lacking before after c = IsSound shape.place c → (damaged : List ℕ) (image : Image)
    → DecaysFor (IsPiece shape.place) damaged c.left image → HasEnough shape damaged lacking
    → ReadsAs asked shape before image ⊎ ReadsAs asked shape after image

-- a stop at every moment since a start at which the place was clean, and then such damage, leaves the old value or the
-- new one
abbrev pub ValueThroughout : AskedKey → Shape → (lacking : List ℕ) → (before after : Tree) → (old new : Medium) → Type 0
ValueThroughout asked shape lacking before after old new = IsClean shape old.image
    → EachCase (LeavesValue asked shape lacking before after) old new
