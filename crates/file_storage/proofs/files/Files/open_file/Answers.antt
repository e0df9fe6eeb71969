use Rattle.std.proofs.Common.{◌≡◌, subst}
use Rattle.std.specs.Prelude.{IfErr, IfOk, Ok}
use Rattle.per_base.specs.declared.errors.PerError.TheVariants.{OutOfMemory}
use Rattle.per_base.specs.Refusals.{NeedsMemory}
use Rattle.file_handles.specs.Opening as opening
use Rattle.deployment_model.specs.Data.{storage_data}
use Rattle.file_storage.specs.FileSessions.{FilesInUse, storage_of}
use Rattle.file_storage.proofs.Keeping.{open_opens, stays_open}
use Rattle.file_storage.proofs.files.Files.open_file.Goals as goal

pub invariant_of-self : goal.invariant_of-self
invariant_of-self c = stays_open c.self.inside.table c.open_file.new.self c.open_file.result
    (storage_data c.self.inside.config) c.self.inside.store c.self.invariant c.open_file.ensures.storage
    c.open_file.ensures.unchanged
    (λ a e. (open_opens c.self.inside.table.storage c.self.inside.table.session c.open_file.new.self.session
    c.args.name.now c.args.kind c.args.mode c.args.now a (rw e at c.open_file.ensures.ok)).files)

pub returns-clause-ok : goal.returns-clause-ok
returns-clause-ok c = subst (λ (s : FilesInUse). IfOk c.open_file.result
    (λ number. opening.open_file (storage_of s.config) s.session c.args.name.now c.args.kind c.args.mode c.args.now
    ≡ Ok (number, c.open_file.new.self.session))) c.self.view_is
    (subst (λ storage. IfOk c.open_file.result (λ number.
    opening.open_file storage c.self.inside.table.session c.args.name.now c.args.kind c.args.mode c.args.now
    ≡ Ok (number, c.open_file.new.self.session))) c.self.invariant.same_storage c.open_file.ensures.ok)

pub returns-clause-memory : goal.returns-clause-memory
returns-clause-memory c = subst (λ (s : FilesInUse). IfErr c.open_file.result
    (λ error. error ≡ OutOfMemory → NeedsMemory (opening.open_file (storage_of s.config) s.session c.args.name.now
    c.args.kind c.args.mode c.args.now))) c.self.view_is
    (subst (λ storage. IfErr c.open_file.result (λ error. error ≡ OutOfMemory
    → NeedsMemory (opening.open_file storage c.self.inside.table.session c.args.name.now c.args.kind
    c.args.mode c.args.now))) c.self.invariant.same_storage c.open_file.ensures.memory)
