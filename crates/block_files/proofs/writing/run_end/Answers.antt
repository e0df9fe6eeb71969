use Rattle.block_files.specs.lemmas.PartRuns.{run_one}
use Rattle.block_files.proofs.writing.run_end.Goals as goal

pub loop-i-init : goal.loop-i-init
loop-i-init c =
    run_one c.args.blocks.now c.args.bytes.now c.args.was.now c.args.first c.requires.inside c.requires.differs
