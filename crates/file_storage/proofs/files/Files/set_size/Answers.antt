use Rattle.deployment_model.specs.Data.{storage_data}
use Rattle.file_storage.proofs.Keeping.{cut_changes, stays_open}
use Rattle.file_storage.proofs.files.Files.set_size.Goals as goal

pub invariant_of-self : goal.invariant_of-self
invariant_of-self c = stays_open c.self.inside.table c.set_size.new.self c.set_size.result
    (storage_data c.self.inside.config) c.self.inside.store c.self.invariant c.set_size.ensures.storage
    c.set_size.ensures.unchanged
    (λ a e. (cut_changes c.self.inside.table.session c.set_size.new.self.session c.self.inside.table.moment
    c.args.handle c.args.size (rw e at c.set_size.ensures.ok)).files)
