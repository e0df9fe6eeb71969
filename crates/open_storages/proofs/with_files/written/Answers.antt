use Rattle.std.proofs.Common.{ℕ, List, subst}
use Rattle.std.specs.Prelude.{IfErr}
use Rattle.per_base.specs.Refusals.{IsRefusal}
use Rattle.file_handles.specs.Handling as handling
use Rattle.file_storage.specs.FileSessions.{FilesInUse}
use Rattle.run_model.specs.Sessions.{storage_of}
use Rattle.open_storages.proofs.with_files.written.Goals as goal

pub returns-clause-refused : goal.returns-clause-refused
returns-clause-refused c = subst (λ (f : FilesInUse).
    IfErr c.write.result (λ error. IsRefusal (handling.write (storage_of f.config) f.session f.moment c.args.handle
    c.args.bytes.now) error)) c.set_now.ensures
    (subst (λ (bytes : List ℕ). IfErr c.write.result (λ error.
    IsRefusal (handling.write (storage_of c.set_now.new.self.config) c.set_now.new.self.session
    c.set_now.new.self.moment c.args.handle bytes) error))
    c.as_slice.ensures c.write.ensures.refused)
