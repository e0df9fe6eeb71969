use Rattle.root_recovery.proofs.Placed.{puts_at, spares_at}
use Rattle.root_recovery.proofs.recovering.bring.Goals as goal

pub returns-in_err-adopt_seen-clause-elsewhere : goal.returns-in_err-adopt_seen-clause-elsewhere
returns-in_err-adopt_seen-clause-elsewhere g c = λ tells. spares_at c.root_place.result c.args.app c.root_place.ensures
    (g.D.Disk.medium c.args.disk.now).image (g.D.Disk.medium c.adopt_seen.new.disk).image
    (c.in_err-adopt_seen.ensures.brings.puts.elsewhere tells)

pub returns-in_err-adopt_seen-clause-any_moment : goal.returns-in_err-adopt_seen-clause-any_moment
returns-in_err-adopt_seen-clause-any_moment g c = λ tells quiet. puts_at c.root_place.result c.args.app
    c.root_place.ensures c.args.seen.now.generation c.args.seen.now.text (g.D.Disk.medium c.args.disk.now)
    (g.D.Disk.medium c.adopt_seen.new.disk) (c.in_err-adopt_seen.ensures.brings.puts.any_moment tells quiet)

pub returns-clause-elsewhere : goal.returns-clause-elsewhere
returns-clause-elsewhere g c = λ tells. spares_at c.root_place.result c.args.app c.root_place.ensures
    (g.D.Disk.medium c.args.disk.now).image (g.D.Disk.medium c.adopt_seen.new.disk).image
    (c.in_ok-adopt_seen.ensures.brings.puts.elsewhere tells)

pub returns-clause-any_moment : goal.returns-clause-any_moment
returns-clause-any_moment g c = λ tells quiet. puts_at c.root_place.result c.args.app
    c.root_place.ensures c.args.seen.now.generation c.args.seen.now.text (g.D.Disk.medium c.args.disk.now)
    (g.D.Disk.medium c.adopt_seen.new.disk) (c.in_ok-adopt_seen.ensures.brings.puts.any_moment tells quiet)
