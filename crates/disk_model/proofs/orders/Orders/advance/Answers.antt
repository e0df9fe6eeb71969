use Rattle.std.proofs.Common.{◌+◌, ◌∙◌, ap, sym, suc, arith}
use Rattle.disk_model.specs.Orders.{named_in}
use Rattle.disk_model.proofs.orders.Orders.advance.Goals as goal

pub returns-then-self-clause-planned : goal.returns-then-self-clause-planned
returns-then-self-clause-planned c k = let next = c.args.self.now.next in
    ap (λ numbers. named_in numbers (next + k)) c.clear.ensures.items
    ∙ sym (c.args.self.now.numbers (next + suc k) (omega arith))
