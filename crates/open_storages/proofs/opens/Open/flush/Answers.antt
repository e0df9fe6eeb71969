use Rattle.std.proofs.Common.{◌≡◌, [], refl, sym, ◌∙◌, ap, subst}
use Rattle.std.specs.Prelude.{Option, Some, Ok, Result, IsSome, IsTrue}
use Rattle.per_base.specs.declared.errors.PerError.{PerError}
use Rattle.element_state.specs.Clean.{IsClean}
use Rattle.element_state.specs.States.{Opens}
use Rattle.element_store.specs.Stores.{store_shape}
use Rattle.deploy.specs.declared.errors.Stop.{Stop}
use Rattle.file_storage.specs.Syncs.{sync_refused}
use Rattle.open_storages.specs.declared.opens.Open.{Open}
use Rattle.open_storages.specs.declared.opens.Open.TheVariants.{Files}
use Rattle.open_storages.specs.declared.syncing.Durable.{Durable}
use Rattle.open_storages.specs.declared.syncing.Durable.TheVariants as made
use Rattle.open_storages.specs.Durables.{IsDurableOrRefused}
use Rattle.open_storages.specs.Opens.{store_in}
use Rattle.open_storages.specs.Refusals.{durable_view, flush_refused}
use Rattle.open_storages.proofs.Flushed.{flush_due, flush_made, made_or, not_both, same_files}
use Rattle.open_storages.proofs.Idle.{none_storing}
use Rattle.open_storages.proofs.Refused.{flush_refused_is}
use Rattle.open_storages.proofs.opens.Open.flush.Goals as goal

pub returns-in-Keys-clause-storing : goal.returns-in-Keys-clause-storing
returns-in-Keys-clause-storing g c = none_storing c.untouched_is_kept.ensures.untouched g.D.Disk.told
    (store_shape (store_in c.args.self)) (Opens (durable_view c.args.self) []) (g.D.Disk.medium c.args.disk.now)
    c.requires.used.memory.shape.some (g.met.D.Disk.lawful c.args.disk.now)

pub returns-in-Ok-clause-done : goal.returns-in-Ok-clause-done
returns-in-Ok-clause-done g c =
    let f = c.in-Files.files in
    let image = (g.D.Disk.medium c.sync_to_file.new.disk).image in
    subst (λ (x : Open). IsDurableOrRefused g.D.Disk.told image x (flush_refused x c.args.handle) c.made.result)
    (sym c.in-Files.is)
    (subst (λ (d : Durable). IsDurableOrRefused g.D.Disk.told image (Files f) (flush_refused (Files f) c.args.handle) d)
    (sym c.made.ensures)
    (flush_made g.D.Disk.told image f c.args.handle c.in-Ok.field-0 c.in-Ok.ensures.refused c.in-Ok.ensures.stored
    c.in-Ok.ensures.view c.in-Ok.ensures.beside c.in-Ok.ensures.shape c.in-Ok.ensures.used
    (λ some. same_files f c.in-Ok.field-0 c.sync_to_file.result (sync_refused f c.args.handle) c.in-Ok.is
    (c.sync_to_file.ensures.due (subst (λ (r : Option PerError). IsSome r) c.in-Ok.ensures.refused some)).0)))

pub returns-in-Ok-clause-due : goal.returns-in-Ok-clause-due
returns-in-Ok-clause-due g c =
    let f = c.in-Files.files in
    subst (λ (x : Open). (error : PerError) → flush_refused x c.args.handle ≡ Some error
    → ((let r : Result Durable Stop = Ok c.made.result in r) ≡ Ok (made.Refused x error))
    × (c.sync_to_file.new.disk ≡ c.args.disk.now)) (sym c.in-Files.is)
    (λ error due.
    let some : IsSome (sync_refused f c.args.handle) = subst (λ (r : Option PerError). IsSome r)
    (sym (sym (flush_refused_is f c.args.handle) ∙ due)) refl in
    let told = c.sync_to_file.ensures.due some in (
      ap (λ (d : Durable). let r : Result Durable Stop = Ok d in r)
          (c.made.ensures ∙ flush_due g.D.Disk.told (g.D.Disk.medium c.args.disk.now).image f c.args.handle
          c.in-Ok.field-0 c.in-Ok.ensures.refused error due
          (λ handed. same_files f c.in-Ok.field-0 c.sync_to_file.result (sync_refused f c.args.handle) c.in-Ok.is
          told.0)),
      told.1,
    ))

pub returns-in-Ok-clause-quiet : goal.returns-in-Ok-clause-quiet
returns-in-Ok-clause-quiet g c = λ quiet. made_or c.in-Ok.field-0.refused
    (λ none. (c.in-Ok.ensures.durable none).quiet quiet)
    (λ some. rw (c.sync_to_file.ensures.due (subst (λ (r : Option PerError). IsSome r) c.in-Ok.ensures.refused some)).1
    quiet)

pub returns-in-Ok-clause-clean : goal.returns-in-Ok-clause-clean
returns-in-Ok-clause-clean g c = subst (λ (x : Open). IsTrue g.D.Disk.told
    → IsClean (store_shape (store_in x)) (g.D.Disk.medium c.args.disk.now).image
    → IsClean (store_shape (store_in x)) (g.D.Disk.medium c.sync_to_file.new.disk).image) (sym c.in-Files.is)
    (λ tells clean. made_or c.in-Ok.field-0.refused
    (λ none. (c.in-Ok.ensures.durable none).clean tells clean)
    (λ some. rw (c.sync_to_file.ensures.due (subst (λ (r : Option PerError). IsSome r) c.in-Ok.ensures.refused some)).1
    clean))

pub returns-in-Err-OutOfMemory-clause-due : goal.returns-in-Err-OutOfMemory-clause-due
returns-in-Err-OutOfMemory-clause-due g c = λ error due.
    let f = c.in-Files.files in
    let here = subst (λ (x : Open). flush_refused x c.args.handle ≡ Some error) c.in-Files.is due in
    let some : IsSome (sync_refused f c.args.handle) = subst (λ (r : Option PerError). IsSome r)
    (sym (sym (flush_refused_is f c.args.handle) ∙ here)) refl in
    absurd (not_both c.sync_to_file.result _ _ (c.sync_to_file.ensures.due some).0 c.in-Err-OutOfMemory.is)
