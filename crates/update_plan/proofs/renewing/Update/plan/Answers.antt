use Rattle.update_plan.proofs.AllPlans.{none_stored}
use Rattle.update_plan.proofs.renewing.Update.plan.Goals as goal

pub plan_over-requires-clause-stored : goal.plan_over-requires-clause-stored
plan_over-requires-clause-stored g c = none_stored c.args.self.now.storage.now.kind

pub plan_over-requires-in-Some-Missing-clause-stored : goal.plan_over-requires-in-Some-Missing-clause-stored
plan_over-requires-in-Some-Missing-clause-stored g c = none_stored c.args.self.now.storage.now.kind
