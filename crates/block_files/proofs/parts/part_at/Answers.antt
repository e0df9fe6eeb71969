use Rattle.std.proofs.lemmas.List.{take_rest}
use Rattle.block_files.specs.lemmas.PartLemmas.{part_cut}
use Rattle.block_files.proofs.parts.part_at.Goals as goal

pub returns-clause-value : goal.returns-clause-value
returns-clause-value c =
    part_cut c.args.bytes.now _ c.args.i _ _ (take_rest c.args.bytes.now c.min.result) c.min.ensures c.min-2.ensures
