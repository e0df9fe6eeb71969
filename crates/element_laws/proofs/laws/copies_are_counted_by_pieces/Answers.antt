use Rattle.element_laws.specs.lemmas.Pieces.{pieces, pieces_case, onward, by_files, two_rots}
use Rattle.element_laws.proofs.laws.copies_are_counted_by_pieces.Goals as goal

pub returns-clause-pieces : goal.returns-clause-pieces
returns-clause-pieces c = pieces

pub returns-clause-stopped : goal.returns-clause-stopped
returns-clause-stopped c = pieces_case

pub returns-clause-files : goal.returns-clause-files
returns-clause-files c = by_files

pub returns-clause-apart : goal.returns-clause-apart
returns-clause-apart c = two_rots

pub returns-clause-onward : goal.returns-clause-onward
returns-clause-onward c = onward
