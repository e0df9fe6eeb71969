use Rattle.run_model.specs.Sessions.{on_keys}
use Rattle.open_storages.proofs.Needs.{handed_needs}
use Rattle.open_storages.proofs.with_keys.answer_keys.Goals as goal

pub returns-in_err-set_copy-in-Set-clause-memory : goal.returns-in_err-set_copy-in-Set-clause-memory
unfolding on_keys
returns-in_err-set_copy-in-Set-clause-memory c =
    rw c.in-Set.is (handed_needs _ _ c.from_residual-in_err-set_copy-in-Set.result
    c.in_err-set_copy-in-Set.field-0.0 c.from_residual-in_err-set_copy-in-Set.ensures (λ m. tt)
    c.in_err-set_copy-in-Set.ensures.memory)
