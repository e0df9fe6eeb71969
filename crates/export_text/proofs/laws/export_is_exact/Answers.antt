use Rattle.export_text.proofs.Whole.{export_again, export_takes}
use Rattle.export_text.proofs.laws.export_is_exact.Goals as goal

pub returns-clause-again : goal.returns-clause-again
returns-clause-again c = export_again

pub returns-clause-taken : goal.returns-clause-taken
returns-clause-taken c = export_takes
