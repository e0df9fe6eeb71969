use Rattle.std.proofs.Common.{◌≡◌, subst}
use Rattle.std.specs.Prelude.{IfErr, Some, option_copied}
use Rattle.per_base.specs.declared.elements.Element.{Element}
use Rattle.per_base.specs.declared.errors.PerError.TheVariants.{OutOfMemory}
use Rattle.per_base.specs.Maps.{element_at}
use Rattle.per_base.specs.Refusals.{IsDue, IsRefusal}
use Rattle.file_handles.specs.ByName as calls
use Rattle.deployment_model.specs.Lookups.{initial_content}
use Rattle.deployment_model.specs.Data.{storage_data}
use Rattle.file_storage.specs.FileSessions.{FilesInUse, storage_of}
use Rattle.file_storage.proofs.Keeping.{recover_keeps, stays_open}
use Rattle.file_storage.proofs.files.Files.recover_file.Goals as goal

pub invariant_of-self : goal.invariant_of-self
invariant_of-self c = stays_open c.self.inside.table c.recover_file.new.self c.recover_file.result
    (storage_data c.self.inside.config) c.self.inside.store c.self.invariant c.recover_file.ensures.storage
    c.recover_file.ensures.unchanged
    (λ a e. recover_keeps c.self.inside.table.storage c.self.inside.table.session c.recover_file.new.self.session
    c.args.name.now c.args.now (option_copied c.initial_content-initial.result) c.invariants.ensures.table.names
    (rw e at c.recover_file.ensures.ok))

pub returns-clause-refused : goal.returns-clause-refused
returns-clause-refused c = subst (λ (s : FilesInUse).
    IfErr c.recover_file.result (λ error. IsRefusal (calls.recover_file (storage_of s.config) s.session
    c.args.name.now c.args.now (initial_content s.config c.args.name.now)) error)) c.self.view_is
    (subst (λ initial. IfErr c.recover_file.result (λ error.
    IsRefusal (calls.recover_file (storage_of (storage_data c.self.inside.config)) c.self.inside.table.session
    c.args.name.now c.args.now initial) error)) c.initial_content-initial.ensures.initial
    (subst (λ storage. IfErr c.recover_file.result (λ error.
    IsRefusal (calls.recover_file storage c.self.inside.table.session c.args.name.now c.args.now
    (option_copied c.initial_content-initial.result)) error)) c.self.invariant.same_storage
    c.recover_file.ensures.refused))

pub returns-clause-memory : goal.returns-clause-memory
returns-clause-memory c = subst (λ (s : FilesInUse). IfErr c.recover_file.result
    (λ error. error ≡ OutOfMemory → IsDue (calls.recover_file (storage_of s.config) s.session c.args.name.now
    c.args.now (initial_content s.config c.args.name.now)))) c.self.view_is
    (subst (λ initial. IfErr c.recover_file.result (λ error. error ≡ OutOfMemory
    → IsDue (calls.recover_file (storage_of (storage_data c.self.inside.config)) c.self.inside.table.session
    c.args.name.now c.args.now initial))) c.initial_content-initial.ensures.initial
    (subst (λ storage. IfErr c.recover_file.result (λ error. error ≡ OutOfMemory
    → IsDue (calls.recover_file storage c.self.inside.table.session c.args.name.now c.args.now
    (option_copied c.initial_content-initial.result)))) c.self.invariant.same_storage
    c.recover_file.ensures.memory))

pub returns-clause-copies : goal.returns-clause-copies
returns-clause-copies c = subst (λ (s : FilesInUse). IfErr c.recover_file.result
    (λ error. error ≡ OutOfMemory → (file : Element) → element_at s.session.files c.args.name.now ≡ Some file
    → calls.TakesInitial (initial_content s.config c.args.name.now) file.content)) c.self.view_is
    (subst (λ initial. IfErr c.recover_file.result (λ error. error ≡ OutOfMemory → (file : Element)
    → element_at c.self.inside.table.session.files c.args.name.now ≡ Some file
    → calls.TakesInitial initial file.content)) c.initial_content-initial.ensures.initial
    c.recover_file.ensures.copies)
