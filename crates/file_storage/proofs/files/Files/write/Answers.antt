use Rattle.std.proofs.Common.{◌≡◌, subst}
use Rattle.std.specs.Prelude.{IfErr}
use Rattle.per_base.specs.declared.errors.PerError.TheVariants.{OutOfMemory}
use Rattle.per_base.specs.Refusals.{IsDue, IsRefusal}
use Rattle.file_handles.specs.Handling as calls
use Rattle.deployment_model.specs.Data.{storage_data}
use Rattle.file_storage.specs.FileSessions.{FilesInUse, storage_of}
use Rattle.file_storage.proofs.Keeping.{stays_open, write_changes}
use Rattle.file_storage.proofs.files.Files.write.Goals as goal

pub invariant_of-self : goal.invariant_of-self
invariant_of-self c = stays_open c.self.inside.table c.write.new.self c.write.result (storage_data c.self.inside.config)
    c.self.inside.store c.self.invariant c.write.ensures.storage c.write.ensures.unchanged
    (λ a e. (write_changes c.self.inside.table.storage c.self.inside.table.session c.write.new.self.session
    c.self.inside.table.moment c.args.handle c.args.bytes.now (rw e at c.write.ensures.ok)).files)

pub returns-clause-refused : goal.returns-clause-refused
returns-clause-refused c = subst (λ (s : FilesInUse).
    IfErr c.write.result (λ error. IsRefusal (calls.write (storage_of s.config) s.session s.moment c.args.handle
    c.args.bytes.now) error)) c.self.view_is
    (subst (λ storage. IfErr c.write.result (λ error. IsRefusal
    (calls.write storage c.self.inside.table.session c.self.inside.table.moment c.args.handle
    c.args.bytes.now) error)) c.self.invariant.same_storage c.write.ensures.refused)

pub returns-clause-due : goal.returns-clause-due
returns-clause-due c = subst (λ (s : FilesInUse). IfErr c.write.result
    (λ error. error ≡ OutOfMemory → IsDue (calls.write (storage_of s.config) s.session s.moment c.args.handle
    c.args.bytes.now))) c.self.view_is
    (subst (λ storage. IfErr c.write.result (λ error. error ≡ OutOfMemory
    → IsDue (calls.write storage c.self.inside.table.session c.self.inside.table.moment c.args.handle
    c.args.bytes.now))) c.self.invariant.same_storage c.write.ensures.due)
