use Rattle.std.proofs.Common.{ap, ◌∙◌, not}
use Rattle.std.specs.Str.{bytes_eq}
use Rattle.changed_runs.specs.Changed.{run_of}
use Rattle.block_files.specs.Parts.{is_changed}
use Rattle.block_files.proofs.parts.differs.Goals as goal

pub returns : goal.returns
unfolding is_changed
returns c =
    c.ne.ensures
    ∙ ap (λ x. not (bytes_eq x c.part_at-2.result.now)) c.part_at.ensures.value
    ∙ ap (λ x. not (bytes_eq (run_of c.args.bytes.now c.args.i) x)) c.part_at-2.ensures.value
