use Rattle.std.proofs.Common.{sym, ◌∙◌}
use Rattle.per_base.specs.Maps.{without}
use Rattle.key_maps.specs.KeyStates.{visible_map, without_state}
use Rattle.key_maps.specs.lemmas.Steps.{along, removed_by, removed_whole}
use Rattle.key_maps.proofs.key_states.remove.Goals as goal

pub returns-then-is_synced : goal.returns-then-is_synced
returns-then-is_synced c =
    removed_by c.mark.result c.args.states.now.entries c.mark.new.states.entries c.args.name.now c.requires
    (sym c.is_synced.ensures ∙ c.if-is_synced.true) c.mark.ensures.marked c.mark.ensures.absent

pub returns-else-is_synced : goal.returns-else-is_synced
returns-else-is_synced c =
    along c.args.states.now.entries (without_state c.args.states.now.entries c.args.name.now) c.remove.new.self.entries
    (without (visible_map c.args.states.now.entries) c.args.name.now) c.remove.ensures.entries
    (removed_whole c.args.states.now.entries c.args.name.now c.requires
    (sym c.is_synced.ensures ∙ c.if-is_synced.false))
