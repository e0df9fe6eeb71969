use Rattle.std.proofs.Common.{rules}
use Rattle.disk_model.proofs.Ordered.{none_named}
use Rattle.disk_model.proofs.orders.Orders.plan.Goals as goal

pub invariant_of-self : goal.invariant_of-self
invariant_of-self c = record {
  numbers = λ k past. none_named c.args.calls.items k (λ i d inside. search rules)
      past;
}
