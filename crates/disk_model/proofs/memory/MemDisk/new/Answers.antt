use Rattle.std.proofs.Common.{ap, ◌∙◌, length}
use Rattle.std.specs.BTreeMap.{is_at}
use Rattle.std.specs.Map.{lookup}
use Rattle.std.specs.Ordering.{nat_cmp}
use Rattle.disk_model.specs.History.{bytes_or_none}
use Rattle.disk_model.proofs.memory.MemDisk.new.Goals as goal

pub returns-clause-empty : goal.returns-clause-empty
returns-clause-empty c f = ap (λ image. length (image f)) c.holding.ensures.image
    ∙ ap (λ es. length (bytes_or_none (lookup (is_at (nat_cmp f)) es))) c.new.ensures.empty
