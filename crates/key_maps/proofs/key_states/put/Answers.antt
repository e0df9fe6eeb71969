use Rattle.key_maps.specs.lemmas.Ordered.{on_ok}
use Rattle.key_maps.specs.lemmas.Steps.{put_at, put_new}
use Rattle.key_maps.proofs.key_states.put.Goals as goal

pub returns-in-Ok-clause-step : goal.returns-in-Ok-clause-step
returns-in-Ok-clause-step c =
    put_at c.args.states.now.entries c.mark.new.states.entries c.args.name.now c.args.key c.requires.kept
    c.len-len.ensures.key c.requires.readable c.in-Ok.ensures.there c.in-Ok.ensures.marked

pub returns-in-Err-clause-step : goal.returns-in-Err-clause-step
returns-in-Err-clause-step c =
    on_ok c.add_pending.result
    (put_new c.args.states.now.entries c.mark.new.states.entries c.add_pending.new.states.entries c.args.name.now
    c.args.key c.in-Err.pending c.requires.kept c.len-len.ensures.key c.requires.readable c.in-Err.ensures.absent
    c.in-Err.ensures.unchanged c.in-Err.ensures.back)
    c.add_pending.ensures.added
