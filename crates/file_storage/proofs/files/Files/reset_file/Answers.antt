use Rattle.std.proofs.Common.{◌≡◌, subst}
use Rattle.std.specs.Prelude.{IfErr, option_copied}
use Rattle.per_base.specs.declared.errors.PerError.TheVariants.{OutOfMemory}
use Rattle.per_base.specs.Refusals.{IsDue}
use Rattle.file_handles.specs.ByName as calls
use Rattle.deployment_model.specs.Lookups.{initial_content}
use Rattle.deployment_model.specs.Data.{storage_data}
use Rattle.file_storage.specs.FileSessions.{FilesInUse, storage_of}
use Rattle.file_storage.proofs.Keeping.{reset_keeps, stays_open}
use Rattle.file_storage.proofs.files.Files.reset_file.Goals as goal

pub invariant_of-self : goal.invariant_of-self
invariant_of-self c = stays_open c.self.inside.table c.reset_file.new.self c.reset_file.result
    (storage_data c.self.inside.config) c.self.inside.store c.self.invariant c.reset_file.ensures.storage
    c.reset_file.ensures.unchanged
    (λ a e. reset_keeps c.self.inside.table.storage c.self.inside.table.session c.reset_file.new.self.session
    c.args.name.now c.args.now (option_copied c.initial_content-initial.result) (rw e at c.reset_file.ensures.ok))

pub returns-clause-memory : goal.returns-clause-memory
returns-clause-memory c = subst (λ (s : FilesInUse). IfErr c.reset_file.result
    (λ error. error ≡ OutOfMemory → IsDue (calls.reset_file (storage_of s.config) s.session c.args.name.now c.args.now
    (initial_content s.config c.args.name.now)))) c.self.view_is
    (subst (λ initial. IfErr c.reset_file.result (λ error. error ≡ OutOfMemory
    → IsDue (calls.reset_file (storage_of (storage_data c.self.inside.config)) c.self.inside.table.session
    c.args.name.now c.args.now initial))) c.initial_content-initial.ensures.initial
    (subst (λ storage. IfErr c.reset_file.result (λ error. error ≡ OutOfMemory
    → IsDue (calls.reset_file storage c.self.inside.table.session c.args.name.now c.args.now
    (option_copied c.initial_content-initial.result)))) c.self.invariant.same_storage
    c.reset_file.ensures.memory))
