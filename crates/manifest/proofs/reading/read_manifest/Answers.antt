use Rattle.manifest.proofs.Kept.{accepted_of, keeps_read, rejected_of}
use Rattle.manifest.proofs.Said.{unsaid_of}
use Rattle.manifest.proofs.reading.read_manifest.Goals as goal

pub returns-clause-rejected : goal.returns-clause-rejected
returns-clause-rejected c = rejected_of c.read_text.result _ c.read_text.ensures.judged

pub returns-clause-accepted : goal.returns-clause-accepted
returns-clause-accepted c = accepted_of c.read_text.result _ c.read_text.ensures.judged

pub returns-clause-keeps : goal.returns-clause-keeps
returns-clause-keeps c = keeps_read c.args.bytes.now c.read_text.result c.read_text.ensures.judged
    c.read_text.ensures.said

pub returns-clause-unsaid : goal.returns-clause-unsaid
returns-clause-unsaid c = unsaid_of c.args.bytes.now c.read_text.result c.read_text.ensures.judged
