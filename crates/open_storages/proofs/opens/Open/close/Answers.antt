use Rattle.std.proofs.Common.{◌≡◌, [], true, sym, ◌∙◌, ap, subst}
use Rattle.std.specs.Prelude.{Some, Ok, Result}
use Rattle.per_base.specs.declared.errors.PerError.{PerError}
use Rattle.element_state.specs.States.{Opens}
use Rattle.element_store.specs.Stores.{store_shape}
use Rattle.deploy.specs.declared.errors.Stop.{Stop}
use Rattle.file_storage.specs.declared.syncing.Closed.{Closed}
use Rattle.per_base.specs.declared.faults.Fault.{Fault}
use Rattle.file_storage.specs.FileSessions.{FilesInUse}
use Rattle.file_storage.specs.Syncs as below
use Rattle.open_storages.specs.declared.opens.Open.{Open}
use Rattle.open_storages.specs.declared.opens.Open.TheVariants.{Files}
use Rattle.open_storages.specs.declared.closing.Closing.{Closing}
use Rattle.open_storages.specs.declared.closing.Closing.TheVariants as left
use Rattle.open_storages.specs.Opens.{store_in}
use Rattle.open_storages.specs.Refusals.{close_refused, durable_view, has_nothing_pending}
use Rattle.open_storages.proofs.Flushed.{not_both, same_refusal, some_or}
use Rattle.open_storages.proofs.Idle.{none_storing}
use Rattle.open_storages.proofs.opens.Open.close.Goals as goal

pub returns-in-Keys-clause-storing : goal.returns-in-Keys-clause-storing
returns-in-Keys-clause-storing g c = none_storing c.untouched_is_kept.ensures.untouched g.D.Disk.told
    (store_shape (store_in c.args.self)) (Opens (durable_view c.args.self) []) (g.D.Disk.medium c.args.disk.now)
    c.requires.used.memory.shape.some (g.met.D.Disk.lawful c.args.disk.now)

pub returns-in-Ok-Done-clause-quiet : goal.returns-in-Ok-Done-clause-quiet
returns-in-Ok-Done-clause-quiet g c = λ quiet. let durable =
    rw c.in-Ok-Done.field-0-is at c.in-Ok-Done.ensures.durable in
    durable.2.quiet quiet

pub returns-in-Ok-Refused-clause-due : goal.returns-in-Ok-Refused-clause-due
returns-in-Ok-Refused-clause-due g c =
    let f = c.in-Files.files in
    subst (λ (x : Open). (error : PerError) → close_refused x ≡ Some error
    → ((let r : Result Closing Stop = Ok (left.Refused (Files c.in-Ok-Refused.files) c.in-Ok-Refused.error) in r)
    ≡ Ok (left.Refused x error)) × (c.close_storage.new.disk ≡ c.args.disk.now)) (sym c.in-Files.is)
    (λ error due.
    let told = c.close_storage.ensures.due error due in (
      ap (λ (d : Closing). let r : Result Closing Stop = Ok d in r)
          (same_refusal f c.in-Ok-Refused.files c.in-Ok-Refused.error error c.close_storage.result
          (c.in-Ok-Refused.is ∙ ap (λ (d : Closed). let r : Result Closed (Fault FilesInUse) = Ok d in r)
          c.in-Ok-Refused.field-0-is) told.0),
      told.1,
    ))

pub returns-in-Ok-Refused-clause-quiet : goal.returns-in-Ok-Refused-clause-quiet
returns-in-Ok-Refused-clause-quiet g c = λ quiet. let refused =
    rw c.in-Ok-Refused.field-0-is at c.in-Ok-Refused.ensures.refused in
    rw (c.close_storage.ensures.due c.in-Ok-Refused.error refused).1 quiet

pub returns-in-Ok-Refused-clause-clean : goal.returns-in-Ok-Refused-clause-clean
returns-in-Ok-Refused-clause-clean g c = λ tells clean. let refused =
    rw c.in-Ok-Refused.field-0-is at c.in-Ok-Refused.ensures.refused in
    rw (c.close_storage.ensures.due c.in-Ok-Refused.error refused).1 clean

pub returns-in-Err-OutOfMemory-clause-due : goal.returns-in-Err-OutOfMemory-clause-due
returns-in-Err-OutOfMemory-clause-due g c = λ error due. absurd (not_both c.close_storage.result _ _
    (c.close_storage.ensures.due error (subst (λ (x : Open). close_refused x ≡ Some error) c.in-Files.is due)).0
    c.in-Err-OutOfMemory.is)

pub returns-in-Err-OutOfMemory-clause-unchanged : goal.returns-in-Err-OutOfMemory-clause-unchanged
returns-in-Err-OutOfMemory-clause-unchanged g c = λ still.
    let synced = subst (λ (x : Open). has_nothing_pending x ≡ true) c.in-Files.is still in
    absurd (some_or (below.close_refused c.in-Files.files)
    (λ none. not_both c.close_storage.result _ _ (c.close_storage.ensures.unchanged synced none).0
    c.in-Err-OutOfMemory.is)
    (λ error due. not_both c.close_storage.result _ _ (c.close_storage.ensures.due error due).0
    c.in-Err-OutOfMemory.is))

pub returns-in-Err-Device-clause-unchanged : goal.returns-in-Err-Device-clause-unchanged
returns-in-Err-Device-clause-unchanged g c = λ still.
    let synced = subst (λ (x : Open). has_nothing_pending x ≡ true) c.in-Files.is still in
    absurd (some_or (below.close_refused c.in-Files.files)
    (λ none. not_both c.close_storage.result _ _ (c.close_storage.ensures.unchanged synced none).0 c.in-Err-Device.is)
    (λ error due. not_both c.close_storage.result _ _ (c.close_storage.ensures.due error due).0 c.in-Err-Device.is))
