use Rattle.export_text.proofs.Whole.{one_export as law}
use Rattle.export_text.proofs.laws.one_export.Goals as goal

pub returns : goal.returns
returns c = law
