use Rattle.std.proofs.Common.{◌≡◌, ◌∙◌, ap, inr, refl}
use Rattle.std.specs.Prelude.{Err, Some}
use Rattle.kvs_store.specs.declared.syncing.SyncFault.{SyncFault}
use Rattle.kvs_store.specs.declared.syncing.SyncFault.TheVariants.{OutOfMemory, WornOut}
use Rattle.kvs_store.specs.Storages.{KvsSession}
use Rattle.kvs_store.specs.Synced.{HandsBack}
use Rattle.per_embed.proofs.syncing.synced.Goals as goal

worn : (fault : SyncFault) (same kvs : KvsSession) (P : Type 0) → fault ≡ WornOut same → HandsBack kvs fault P
    → (same ≡ kvs) × P
worn fault same kvs P is back = rw is at back

starved : (fault : SyncFault) (same kvs : KvsSession) (P : Type 0) → fault ≡ OutOfMemory same → HandsBack kvs fault P
    → (same ≡ kvs) × P
starved fault same kvs P is back = rw is at back

pub sync_to_storage-requires : goal.sync_to_storage-requires
sync_to_storage-requires g c = c.requires.rest.used

-- ---- it is durable

pub returns-in-Ok-clause-rest : goal.returns-in-Ok-clause-rest
returns-in-Ok-clause-rest g c = record {
  used = c.in-Ok.ensures.used;
  shown = c.invariants.ensures.synced;
  quiet = c.in-Ok.ensures.durable.quiet c.requires.rest.quiet;
}

pub returns-in-Ok-clause-synced : goal.returns-in-Ok-clause-synced
returns-in-Ok-clause-synced g c = record {
  session = c.in-Ok.ensures.session;
  shape = c.in-Ok.ensures.shape;
  view = c.in-Ok.ensures.view;
  used = c.in-Ok.ensures.used;
  durable = c.in-Ok.ensures.durable;
  carried = c.in-Ok.ensures.carried;
  format = c.in-Ok.ensures.format;
  text = c.in-Ok.ensures.text;
}

pub returns-in-Ok-clause-at_most : goal.returns-in-Ok-clause-at_most
returns-in-Ok-clause-at_most g c = c.in-Ok.ensures.at_most

pub returns-in-Ok-clause-storing : goal.returns-in-Ok-clause-storing
returns-in-Ok-clause-storing g c = c.in-Ok.ensures.storing

-- ---- it is not

pub returns-in-Err-Device-clause-at_most : goal.returns-in-Err-Device-clause-at_most
returns-in-Err-Device-clause-at_most g c = c.in-Err-Device.ensures.at_most

pub returns-in-Err-Device-clause-storing : goal.returns-in-Err-Device-clause-storing
returns-in-Err-Device-clause-storing g c = c.in-Err-Device.ensures.storing

pub returns-in-Err-WornOut-clause-at_most : goal.returns-in-Err-WornOut-clause-at_most
returns-in-Err-WornOut-clause-at_most g c = c.in-Err-WornOut.ensures.at_most

pub returns-in-Err-WornOut-clause-storing : goal.returns-in-Err-WornOut-clause-storing
returns-in-Err-WornOut-clause-storing g c = c.in-Err-WornOut.ensures.storing

pub returns-in-Err-WornOut-clause-rest : goal.returns-in-Err-WornOut-clause-rest
returns-in-Err-WornOut-clause-rest g c =
    let back = worn c.in-Err-WornOut.field-0 c.in-Err-WornOut.kvs c.args.kvs
    (c.sync_to_storage.new.disk ≡ c.args.disk.now) c.in-Err-WornOut.field-0-is c.in-Err-WornOut.ensures.handed_back in
    rw (back.0, back.1) c.requires.rest

pub returns-in-Err-WornOut-clause-unchanged : goal.returns-in-Err-WornOut-clause-unchanged
returns-in-Err-WornOut-clause-unchanged g c =
    let back = worn c.in-Err-WornOut.field-0 c.in-Err-WornOut.kvs c.args.kvs
    (c.sync_to_storage.new.disk ≡ c.args.disk.now) c.in-Err-WornOut.field-0-is c.in-Err-WornOut.ensures.handed_back in
    inr (ap (λ (k : KvsSession). Some k) back.0, back.1)

pub returns-in-Err-OutOfMemory-clause-rest : goal.returns-in-Err-OutOfMemory-clause-rest
returns-in-Err-OutOfMemory-clause-rest g c =
    let back = starved c.in-Err-OutOfMemory.field-0 c.in-Err-OutOfMemory.kvs c.args.kvs
    (c.sync_to_storage.new.disk ≡ c.args.disk.now) c.in-Err-OutOfMemory.field-0-is
    c.in-Err-OutOfMemory.ensures.handed_back in
    rw (back.0, back.1) c.requires.rest

pub returns-in-Err-OutOfMemory-clause-unchanged : goal.returns-in-Err-OutOfMemory-clause-unchanged
returns-in-Err-OutOfMemory-clause-unchanged g c =
    let back = starved c.in-Err-OutOfMemory.field-0 c.in-Err-OutOfMemory.kvs c.args.kvs
    (c.sync_to_storage.new.disk ≡ c.args.disk.now) c.in-Err-OutOfMemory.field-0-is
    c.in-Err-OutOfMemory.ensures.handed_back in
    inr (ap (λ (k : KvsSession). Some k) back.0, back.1)

pub returns-in-Err-OutOfMemory-clause-at_most : goal.returns-in-Err-OutOfMemory-clause-at_most
returns-in-Err-OutOfMemory-clause-at_most g c = c.in-Err-OutOfMemory.ensures.at_most

pub returns-in-Err-OutOfMemory-clause-storing : goal.returns-in-Err-OutOfMemory-clause-storing
returns-in-Err-OutOfMemory-clause-storing g c = c.in-Err-OutOfMemory.ensures.storing

-- ---- it is worn out

pub returns-in-Ok-clause-worn_out : goal.returns-in-Ok-clause-worn_out
returns-in-Ok-clause-worn_out g c = (
  λ is. absurd cc,
  λ due. let other = c.in-Ok.ensures.worn_out.1 due in absurd cc,
)

pub returns-in-Err-Device-clause-worn_out : goal.returns-in-Err-Device-clause-worn_out
returns-in-Err-Device-clause-worn_out g c = (
  λ is. absurd cc,
  λ due. let other = c.in-Err-Device.ensures.worn_out.1 due in absurd cc,
)

pub returns-in-Err-OutOfMemory-clause-worn_out : goal.returns-in-Err-OutOfMemory-clause-worn_out
returns-in-Err-OutOfMemory-clause-worn_out g c = (
  λ is. absurd cc,
  λ due. let other = c.in-Err-OutOfMemory.ensures.worn_out.1 due in absurd cc,
)

pub returns-in-Err-WornOut-clause-worn_out : goal.returns-in-Err-WornOut-clause-worn_out
returns-in-Err-WornOut-clause-worn_out g c =
    let back = worn c.in-Err-WornOut.field-0 c.in-Err-WornOut.kvs c.args.kvs
    (c.sync_to_storage.new.disk ≡ c.args.disk.now) c.in-Err-WornOut.field-0-is c.in-Err-WornOut.ensures.handed_back in (
      λ is. c.in-Err-WornOut.ensures.worn_out.0 (ap (λ (f : SyncFault). Err f) (c.in-Err-WornOut.field-0-is
          ∙ ap (λ (k : KvsSession). WornOut k) back.0)),
      λ due. refl,
    )
