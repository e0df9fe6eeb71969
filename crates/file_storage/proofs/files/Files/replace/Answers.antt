use Rattle.deployment_model.specs.Data.{storage_data}
use Rattle.file_storage.proofs.Keeping.{stays_open}
use Rattle.file_storage.proofs.Wholes.{put_keeps}
use Rattle.file_storage.proofs.files.Files.replace.Goals as goal

pub invariant_of-self : goal.invariant_of-self
invariant_of-self c = stays_open c.self.inside.table c.replace.new.self c.replace.result
    (storage_data c.self.inside.config) c.self.inside.store c.self.invariant c.replace.ensures.storage
    c.replace.ensures.unchanged
    (λ a e. put_keeps c.self.inside.table.storage c.self.inside.table.session c.replace.new.self.session c.args.name.now
    c.args.bytes.now c.args.now (rw e at c.replace.ensures.ok))
