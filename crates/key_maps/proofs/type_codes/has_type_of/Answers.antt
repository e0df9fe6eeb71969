use Rattle.std.proofs.Common.{◌∙◌, ap, arith}
use Rattle.std.specs.Prelude.{is_some}
use Rattle.value_model.specs.Kinds.{type_code}
use Rattle.value_model.specs.Trees.{Tree, type_of}
use Rattle.key_maps.specs.Fronts.{after}
use Rattle.key_maps.specs.lemmas.Fronts.{typed_front}
use Rattle.key_maps.proofs.type_codes.has_type_of.Goals as goal

pub returns : goal.returns
returns c = typed_front c.args.bytes.now c.args.other.now c.begin_with_type_of.result
    (λ i. omega (arith, c.type_inv.bytes i)) c.requires c.node.ensures.valid
    (c.begin_with_type_of.ensures
    ∙ ap (λ (t : Tree). is_some (after (type_code (type_of t)) c.args.bytes.now)) c.node.ensures.tree)
