use Rattle.per_base.specs.Contents.{readable_bytes}
use Rattle.file_core.specs.Places as places
use Rattle.file_storage.proofs.Keeping.{moving_moves, same_others}
use Rattle.file_storage.proofs.scoped.Scoped.read_all.Goals as goal

pub returns-clause-others : goal.returns-clause-others
returns-clause-others c = same_others c.args.self.now.files.now c.read_all.new.self c.args.self.now.handle
    c.read_all.result c.invariants.ensures.table.numbers c.read_all.ensures.unchanged
    (λ a e. (moving_moves c.args.self.now.files.now.session c.read_all.new.self.session c.args.self.now.handle
    (λ handle file. places.read_all handle.cursor (readable_bytes file.content)) a.items
    (rw e at c.read_all.ensures.ok)).others)
