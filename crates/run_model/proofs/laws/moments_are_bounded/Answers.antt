use Rattle.run_model.specs.Decided.{not_further_back, opens_as_either}
use Rattle.run_model.specs.Onward.{moment_onward}
use Rattle.run_model.proofs.laws.moments_are_bounded.Goals as goal

pub returns-clause-back : goal.returns-clause-back
returns-clause-back c = not_further_back

pub returns-clause-either : goal.returns-clause-either
returns-clause-either c = opens_as_either

pub returns-clause-onward : goal.returns-clause-onward
returns-clause-onward c = moment_onward c.damage_is_counted_by_pieces.ensures
