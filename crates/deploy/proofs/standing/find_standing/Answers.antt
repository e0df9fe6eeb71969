use Rattle.deploy.proofs.Found.{among_at, slots_at}
use Rattle.deploy.proofs.standing.find_standing.Goals as goal

pub returns-clause-among : goal.returns-clause-among
returns-clause-among g c = λ tells. among_at c.root_place.result c.args.app (g.D.Disk.medium c.args.disk.now).image
    c.in_ok-seens.field-0.seens.items c.in_ok-found.found
    c.root_place.ensures (c.in_ok-seens.ensures.held tells) c.in_ok-found.ensures.among

pub returns-clause-slots : goal.returns-clause-slots
returns-clause-slots g c = λ tells. slots_at c.root_place.result c.args.app (g.D.Disk.medium c.args.disk.now).image
    c.in_ok-seens.field-0.slots c.in_ok-found.found
    c.root_place.ensures (c.in_ok-seens.ensures.slots tells) c.in_ok-found.ensures.slots
