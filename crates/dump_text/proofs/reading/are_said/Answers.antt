use Rattle.std.proofs.Common.{Bool, Some, ap}
use Rattle.dump_text.proofs.Parts.{named_so, none_said}
use Rattle.dump_text.proofs.reading.are_said.Goals as goal

pub returns-in-Ok : goal.returns-in-Ok
returns-in-Ok c = ap (λ (b : Bool). Some b) (named_so c.args.manifest.now c.in-Ok.deployment c.as_slice.result.now
    c.args.storages.now c.are_named.result c.are_named.ensures c.as_slice.ensures c.in-Ok.ensures.read)

pub returns-in-Err : goal.returns-in-Err
returns-in-Err c = ap (λ (b : Bool). Some b) (none_said c.args.manifest.now c.args.storages.now
    (c.in-Err.ensures.unsaid (λ is. cc)))
