-- The sink failed, or memory ran out.
use Rattle.run_model.specs.Endings.{bad_line_text}
use Rattle.per_run.proofs.Known.{refuses}
use Rattle.per_run.proofs.reader.refuse.Goals as goal

pub returns-in-Err-clause-refuses : goal.returns-in-Err-clause-refuses
returns-in-Err-clause-refuses g c = refuses (Unit {0}) (bad_line_text c.args.number) _ _ c.in-Err.ending
    (c.in-Err.ensures.puts (bad_line_text c.args.number) c.print_bad_line.ensures)
