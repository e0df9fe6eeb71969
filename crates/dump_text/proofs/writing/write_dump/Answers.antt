use Rattle.std.proofs.Common.{map, ◌∙◌, ap, arith}
use Rattle.serde_json.specs.View.{view}
use Rattle.dump_text.specs.Dumps.{application_data, dump_in}
use Rattle.dump_text.proofs.Parts.{text_written}
use Rattle.dump_text.proofs.writing.write_dump.Goals as goal

pub returns-clause-written : goal.returns-clause-written
returns-clause-written c = λ ordered. ap dump_in c.in_ok-push.ensures.items
    ∙ text_written c.in_ok-text.text.items (view c.in_ok-dump.dump) (map application_data c.args.applications.now)
    c.in_ok-text.ensures.utf8 (c.in_ok-text.ensures.reads_back (omega (arith, c.in_ok-dump.ensures.nests)))
    (c.in_ok-dump.ensures.read ordered)
