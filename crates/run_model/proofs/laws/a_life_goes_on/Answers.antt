use Rattle.run_model.specs.Converters.{converters_of}
use Rattle.run_model.specs.Lives.{lives_go_on, stops_keep}
use Rattle.run_model.specs.Onward.{stop_onward}
use Rattle.run_model.proofs.laws.a_life_goes_on.Goals as goal

pub returns-clause-goes_on : goal.returns-clause-goes_on
returns-clause-goes_on g c = lives_go_on c.applications_stand.ensures g.D.Disk.medium
    (converters_of c.args.migrations.now)

pub returns-clause-stops : goal.returns-clause-stops
returns-clause-stops g c app lt old new m pairs life job stop = stops_keep c.applications_stand.ensures app lt
    (g.D.Disk.medium old) (g.D.Disk.medium new) (g.D.Disk.medium m) pairs
    (lives_go_on c.applications_stand.ensures g.D.Disk.medium (converters_of c.args.migrations.now) app lt old pairs
    life)
    job stop

pub returns-clause-onward : goal.returns-clause-onward
returns-clause-onward g c app lt old new m pairs life job stop = stop_onward c.damage_is_counted_by_pieces.ensures
    c.applications_stand.ensures app lt (g.D.Disk.medium old) (g.D.Disk.medium new) (g.D.Disk.medium m) pairs
    (lives_go_on c.applications_stand.ensures g.D.Disk.medium (converters_of c.args.migrations.now) app lt old pairs
    life)
    job stop
