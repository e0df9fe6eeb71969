use Rattle.file_storage.specs.FileSessions.{storage_of}
use Rattle.file_storage.proofs.Keeping.{same_others, write_changes}
use Rattle.file_storage.proofs.scoped.Scoped.write.Goals as goal

pub returns-clause-others : goal.returns-clause-others
returns-clause-others c = same_others c.args.self.now.files.now c.write.new.self c.args.self.now.handle c.write.result
    c.invariants.ensures.table.numbers c.write.ensures.unchanged
    (λ a e. (write_changes (storage_of c.args.self.now.files.now.config) c.args.self.now.files.now.session
    c.write.new.self.session c.args.self.now.files.now.moment c.args.self.now.handle c.args.bytes.now
    (rw e at c.write.ensures.ok)).others)
