use Rattle.serde_json.specs.View.{view}
use Rattle.dump_text.proofs.Read.{info_is}
use Rattle.dump_text.proofs.files.info_in.Goals as goal

pub returns : goal.returns
returns c = info_is (view c.args.file.now) c.in_ok-created.created c.in_ok-modified.modified c.in_ok-accessed.accessed
    c.in_ok-creation.creation c.in_ok-modification.modification c.in_ok-created.ensures c.in_ok-modified.ensures
    c.in_ok-accessed.ensures c.in_ok-creation.ensures c.in_ok-modification.ensures
