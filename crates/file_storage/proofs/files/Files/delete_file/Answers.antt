use Rattle.deployment_model.specs.Data.{storage_data}
use Rattle.file_storage.proofs.Keeping.{delete_keeps, stays_open}
use Rattle.file_storage.proofs.files.Files.delete_file.Goals as goal

pub invariant_of-self : goal.invariant_of-self
invariant_of-self c = stays_open c.self.inside.table c.delete_file.new.self c.delete_file.result
    (storage_data c.self.inside.config) c.self.inside.store c.self.invariant c.delete_file.ensures.storage
    c.delete_file.ensures.unchanged
    (λ a e. delete_keeps c.self.inside.table.storage c.self.inside.table.session c.delete_file.new.self.session
    c.args.name.now c.invariants.ensures.table.names (rw e at c.delete_file.ensures.ok))
