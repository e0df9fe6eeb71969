use Rattle.std.proofs.Common.{ap, sym}
use Rattle.per_runtime.specs.Sorting.{storing_call}
use Rattle.per_runtime.proofs.storage_lemmas.OneCall.{handled_as}
use Rattle.per_runtime.proofs.storages.slots.OpenSlots.call.Goals as goal

pub returns-in-Open : goal.returns-in-Open
returns-in-Open g c = handled_as (storing_call c.args.storing.now) _ (sym (ap storing_call c.in-Open.is))
    (c.open.ensures c.args.now)

pub returns-in-Close : goal.returns-in-Close
returns-in-Close g c = handled_as (storing_call c.args.storing.now) _ (sym (ap storing_call c.in-Close.is))
    (c.close.ensures c.args.now)

pub returns-in-Recover : goal.returns-in-Recover
returns-in-Recover g c = handled_as (storing_call c.args.storing.now) _ (sym (ap storing_call c.in-Recover.is))
    c.recover.ensures

pub returns-in-Reset : goal.returns-in-Reset
returns-in-Reset g c = handled_as (storing_call c.args.storing.now) _ (sym (ap storing_call c.in-Reset.is))
    c.reset.ensures

pub returns-in-Sync : goal.returns-in-Sync
returns-in-Sync g c = handled_as (storing_call c.args.storing.now) _ (sym (ap storing_call c.in-Sync.is))
    (c.sync.ensures c.args.now)

pub returns-in-Flush : goal.returns-in-Flush
returns-in-Flush g c = handled_as (storing_call c.args.storing.now) _ (sym (ap storing_call c.in-Flush.is))
    (c.flush.ensures c.args.now)

pub returns-in-Local : goal.returns-in-Local
returns-in-Local g c = handled_as (storing_call c.args.storing.now) _ (sym (ap storing_call c.in-Local.is))
    c.local.ensures
