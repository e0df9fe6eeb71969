use Rattle.flash_disk.proofs.Reading.{zero_bytes}
use Rattle.flash_disk.proofs.serving.zeros.Goals as goal

pub returns : goal.returns
returns c = zero_bytes
