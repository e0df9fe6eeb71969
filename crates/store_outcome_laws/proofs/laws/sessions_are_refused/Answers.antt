use Rattle.store_outcome_laws.proofs.Files.{handle_left, writer_beside_reader}
use Rattle.store_outcome_laws.proofs.laws.sessions_are_refused.Goals as goal

pub returns-clause-writer_beside_a_reader : goal.returns-clause-writer_beside_a_reader
returns-clause-writer_beside_a_reader c = writer_beside_reader

pub returns-clause-handle_left_by_its_drop : goal.returns-clause-handle_left_by_its_drop
returns-clause-handle_left_by_its_drop c = handle_left
