use Rattle.kvs_core.specs.Calls as calls
use Rattle.kvs_core.proofs.Contents.{handed_refusal}
use Rattle.kvs_core.proofs.session.KeySession.check_any.Goals as goal

pub returns-in_err-check_value-clause-refused : goal.returns-in_err-check_value-clause-refused
returns-in_err-check_value-clause-refused c =
    handed_refusal c.from_residual.result (calls.set_any c.args.self.now.config c.args.self.now.visible
    c.args.name.now c.args.value.now) c.in_err-check_value.field-0.0 c.from_residual.ensures
    (c.in_err-check_value.ensures.refused _)
