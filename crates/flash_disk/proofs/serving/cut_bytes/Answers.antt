use Rattle.flash_disk.proofs.Reading.{cut_is}
use Rattle.flash_disk.proofs.serving.cut_bytes.Goals as goal

pub returns : goal.returns
returns c = cut_is c.copy_part.new.out c.zeros-content.result c.args.bytes.now c.args.within c.min.result
    c.zeros-content.ensures c.min.ensures
    c.copy_part.ensures.inside c.copy_part.ensures.after
