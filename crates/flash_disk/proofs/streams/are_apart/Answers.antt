use Rattle.std.specs.Prelude.{slice_index}
use Rattle.flash_disk.proofs.streams.are_apart.Goals as goal

pub returns : goal.returns
returns c apart = (slice_index c.find_owners.new.owners, c.is_apart.ensures apart)
