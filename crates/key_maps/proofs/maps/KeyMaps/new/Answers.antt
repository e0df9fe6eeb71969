use Rattle.std.proofs.Common.{refl}
use Rattle.key_maps.specs.lemmas.Opened.{opened_measured}
use Rattle.key_maps.proofs.maps.KeyMaps.new.Goals as goal

pub invariant_of-result : goal.invariant_of-result
invariant_of-result c =
    opened_measured c.args.entries.now c.in_ok-states.states.entries _ c.requires.keys c.requires.ordered
    c.in_ok-states.ensures refl c.storage_size.ensures.size c.requires.few c.requires.small
