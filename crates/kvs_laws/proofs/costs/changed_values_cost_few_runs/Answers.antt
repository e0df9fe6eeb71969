use Rattle.kvs_laws.proofs.Spans.{span_cost}
use Rattle.kvs_laws.proofs.ChangedValues.{texts_differ}
use Rattle.kvs_laws.proofs.OnePut.{put_changes}
use Rattle.kvs_laws.proofs.Thirds.{two_keys, one_key, five, three}
use Rattle.kvs_laws.proofs.costs.changed_values_cost_few_runs.Goals as goal

pub returns-clause-spans : goal.returns-clause-spans
returns-clause-spans c = span_cost

pub returns-clause-values : goal.returns-clause-values
returns-clause-values c = texts_differ

pub returns-clause-two_keys : goal.returns-clause-two_keys
returns-clause-two_keys c = λ place g m n p q x y z start mid now f.
    two_keys c.blanked_slots_cost_what_differs.ensures.each place g x y z start mid now f m n p q

pub returns-clause-one_key : goal.returns-clause-one_key
returns-clause-one_key c = λ place g m p x y z start mid now f.
    one_key c.blanked_slots_cost_what_differs.ensures.each place g x y z start mid now f m p

pub returns-clause-five_runs : goal.returns-clause-five_runs
returns-clause-five_runs c = λ place g m n p q x y z start mid now f.
    five c.blanked_slots_cost_what_differs.ensures.each place g x y z start mid now f m n p q

pub returns-clause-three_runs : goal.returns-clause-three_runs
returns-clause-three_runs c = λ place g m p x y z start mid now f.
    three c.blanked_slots_cost_what_differs.ensures.each place g x y z start mid now f m p

pub returns-clause-commits : goal.returns-clause-commits
returns-clause-commits c = put_changes
