use Rattle.deployment_model.specs.Data.{storage_data}
use Rattle.file_storage.proofs.Keeping.{stays_open}
use Rattle.file_storage.proofs.Wholes.{cat_keeps}
use Rattle.file_storage.proofs.files.Files.whole_content.Goals as goal

pub invariant_of-self : goal.invariant_of-self
invariant_of-self c = stays_open c.self.inside.table c.whole_content.new.self c.whole_content.result
    (storage_data c.self.inside.config) c.self.inside.store c.self.invariant c.whole_content.ensures.storage
    c.whole_content.ensures.unchanged
    (λ a e. cat_keeps c.self.inside.table.storage c.self.inside.table.session c.whole_content.new.self.session
    c.args.name.now a.items c.args.now (rw e at c.whole_content.ensures.ok))
