use Rattle.std.proofs.Common.{rules}
use Rattle.std.specs.Prelude.{is_some}
use Rattle.key_maps.specs.declared.key_states.KeyState.{KeyState}
use Rattle.key_maps.specs.declared.key_states.Pending.TheVariants.{Same}
use Rattle.key_maps.specs.KeyStates.{synced_map}
use Rattle.key_maps.specs.Picked.{picked}
use Rattle.key_maps.specs.lemmas.Picked.{from_retain}
use Rattle.key_maps.specs.lemmas.Steps.{along, discarded, unchanged}
use Rattle.key_maps.proofs.key_states.discard.Goals as goal

pub returns : goal.returns
returns c =
    along c.args.states.now.entries (picked unchanged c.args.states.now.entries) c.retain.new.self.entries
    (synced_map c.args.states.now.entries)
    (from_retain _ (λ (state : KeyState). is_some state.synced)
    (λ (state : KeyState). record state { pending = Same }) _
    (λ k v b w f' t. search rules) _ _ c.retain.ensures.filtered)
    (discarded c.args.states.now.entries c.requires)
