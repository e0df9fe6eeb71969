use Rattle.std.proofs.Common.{◌≡◌, subst}
use Rattle.std.specs.Prelude.{IfErr}
use Rattle.per_base.specs.declared.errors.PerError.TheVariants.{OutOfMemory}
use Rattle.per_base.specs.Contents.{readable_bytes}
use Rattle.per_base.specs.Refusals.{IsDue}
use Rattle.file_core.specs.Places as places
use Rattle.file_handles.specs.Handling as calls
use Rattle.deployment_model.specs.Data.{storage_data}
use Rattle.file_storage.specs.FileSessions.{FilesInUse}
use Rattle.file_storage.proofs.Keeping.{keeps_same, moving_moves, stays_open}
use Rattle.file_storage.proofs.files.Files.read_all.Goals as goal

pub invariant_of-self : goal.invariant_of-self
invariant_of-self c = stays_open c.self.inside.table c.read_all.new.self c.read_all.result
    (storage_data c.self.inside.config) c.self.inside.store c.self.invariant c.read_all.ensures.storage
    c.read_all.ensures.unchanged
    (λ a e. keeps_same _ _ (moving_moves c.self.inside.table.session c.read_all.new.self.session c.args.handle
    (λ handle file. places.read_all handle.cursor (readable_bytes file.content)) a.items
    (rw e at c.read_all.ensures.ok)).files)

pub returns-clause-memory : goal.returns-clause-memory
returns-clause-memory c = subst (λ (s : FilesInUse). IfErr c.read_all.result
    (λ error. error ≡ OutOfMemory → IsDue (calls.read_all s.session c.args.handle))) c.self.view_is
    c.read_all.ensures.memory
