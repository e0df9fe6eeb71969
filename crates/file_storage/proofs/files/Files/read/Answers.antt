use Rattle.std.proofs.Common.{◌≡◌, subst}
use Rattle.std.specs.Prelude.{IfErr}
use Rattle.per_base.specs.declared.errors.PerError.TheVariants.{OutOfMemory}
use Rattle.per_base.specs.Refusals.{IsDue}
use Rattle.file_handles.specs.Handling as calls
use Rattle.file_storage.specs.FileSessions.{FilesInUse}
use Rattle.file_storage.proofs.files.Files.read.Goals as goal

pub returns-clause-memory : goal.returns-clause-memory
returns-clause-memory c = subst (λ (s : FilesInUse). IfErr c.read.result
    (λ error. error ≡ OutOfMemory → IsDue (calls.read s.session c.args.handle c.args.count))) c.self.view_is
    c.read.ensures.memory
