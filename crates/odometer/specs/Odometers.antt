-- An odometer as contracts see it, and what its disk may hold while it drives.
use Rattle.std.specs.Prelude.{ℕ, Option, IfSome}
use Rattle.disk_model.specs.Image.{Image}
use Rattle.disk_model.specs.Medium.{Medium}
use Rattle.value_model.specs.Kinds.{four, unsigned_kind}
use Rattle.value_model.specs.Trees.{Tree, unsigned_tree}
use Rattle.element_store.specs.Stores.{store_shape, view_in}
use Rattle.kvs_store.specs.Storages.{KvsSession}
use Rattle.kvs_laws.specs.Values.{AskedKey, HasValue, ReadsAs, ValueThroughout}
use Rattle.per_embed.specs.Owned.{OwnedKeys, asked_of}
use Rattle.odometer.specs.declared.odometers.TheConstants.{KEY}

-- the storage on its disk, and the kilometres
pub record SeenOdometer (D : Type 0) : Type 0 where
  pub storage : OwnedKeys D
  pub total : ℕ

-- the key of the total, which is a `u32`: an unsigned number of four bytes
abbrev pub the_total : KvsSession → AskedKey
the_total kvs = asked_of kvs KEY.now (unsigned_kind four)

-- kilometres as its value
abbrev pub kilometres : ℕ → Tree
kilometres n = unsigned_tree four n

-- the total that is synchronised
abbrev pub HasTotal : ℕ → KvsSession → Type 0
HasTotal total kvs = HasValue (the_total kvs) kvs.session.synced (kilometres total)

-- on this image the storage opens, and reads this total
abbrev pub ReadsTotal : KvsSession → ℕ → Image → Type 0
ReadsTotal kvs total image = ReadsAs (the_total kvs) (store_shape kvs.store) (kilometres total) image

-- a stop at any moment, and then damage that spares as many copies as must agree, leaves one total or the other
abbrev pub TotalThroughout : Option KvsSession → (before after : ℕ) → (old new : Medium) → Type 0
TotalThroughout storage before after old new = IfSome storage (λ kvs. ValueThroughout (the_total kvs)
    (store_shape kvs.store) (view_in kvs.store).lacking (kilometres before) (kilometres after) old new)
