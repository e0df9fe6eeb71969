use Rattle.std.proofs.Common.{rules, subst, sym}
use Rattle.std.specs.Prelude.{is_some}
use Rattle.key_maps.specs.declared.key_states.KeyState.{KeyState}
use Rattle.key_maps.specs.declared.key_states.Pending.TheVariants.{Same}
use Rattle.key_maps.specs.KeyStates.{KeyStates, IsMarkedSynced, visible_of}
use Rattle.key_maps.specs.lemmas.Picked.{from_retain}
use Rattle.key_maps.specs.lemmas.Steps.{marks_synced}
use Rattle.key_maps.proofs.key_states.mark_synced.Goals as goal

pub returns : goal.returns
returns c =
    subst (λ (n : KeyStates). IsMarkedSynced c.args.states.now.entries n)
    (sym (from_retain _ (λ (state : KeyState). is_some (visible_of state))
    (λ (state : KeyState). record { synced = visible_of state; pending = Same }) _ (λ k v b w f' t. search rules) _ _
    c.retain.ensures.filtered))
    (marks_synced c.args.states.now.entries c.requires)
