use Rattle.std.proofs.Common.{ℕ, List, subst}
use Rattle.guarded_cell.specs.Slots.{IsFoundInSlot}
use Rattle.guarded_cell.proofs.Choosing.{front_tells}
use Rattle.guarded_cell.proofs.slots.look_at.Goals as goal

pub returns-clause-found : goal.returns-clause-found
returns-clause-found g c = λ tells.
    front_tells c.find_text-found.result ((g.D.Disk.medium c.args.disk.now).image c.args.file) c.args.generation
    c.args.text.now
    (subst (λ (xs : List ℕ). IsFoundInSlot c.find_text-found.result xs c.args.generation c.args.text.now)
    (c.in_ok-count.ensures.bytes tells) c.find_text-found.ensures)
