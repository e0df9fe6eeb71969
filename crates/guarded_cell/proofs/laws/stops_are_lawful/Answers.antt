use Rattle.guarded_cell.specs.lemmas.StopLaws.{write_old_or_new, write_stands, put_stands, adopt_stands}
use Rattle.guarded_cell.specs.lemmas.StopLaws.{adopt_old_or_new}
use Rattle.guarded_cell.proofs.AloneLaws.{untouched_stays}
use Rattle.guarded_cell.proofs.laws.stops_are_lawful.Goals as goal

pub returns-clause-write_old_or_new : goal.returns-clause-write_old_or_new
returns-clause-write_old_or_new c = write_old_or_new

pub returns-clause-write_stands : goal.returns-clause-write_stands
returns-clause-write_stands c = write_stands

pub returns-clause-put_stands : goal.returns-clause-put_stands
returns-clause-put_stands c = put_stands

pub returns-clause-adopt_stands : goal.returns-clause-adopt_stands
returns-clause-adopt_stands c = λ place m g text next damaged start image is.
    adopt_stands place m g text next damaged start image is.positive is.one is.stands is.greatest is.stop is.safe

pub returns-clause-adopt_old_or_new : goal.returns-clause-adopt_old_or_new
returns-clause-adopt_old_or_new c = λ place m g text next damaged start image is.
    adopt_old_or_new place m g text next damaged start image is.positive is.one is.stands is.greatest is.stop
    is.safe

pub returns-clause-untouched : goal.returns-clause-untouched
returns-clause-untouched c = untouched_stays
