use Rattle.std.proofs.Common.{◌≡◌, ◌∷◌, ◌∙◌, ◌+◌, List, ℕ, drop, ap, sym, rules}
use Rattle.std.specs.Prelude.{None, option_copied}
use Rattle.std.proofs.lemmas.List.{drop_more}
use Rattle.value_model.specs.declared.nodes.Node.{Node}
use Rattle.value_model.specs.Kinds.{type_code, type_codes}
use Rattle.value_model.specs.Trees.{type_of, types_of}
use Rattle.value_model.specs.Views.{tree_of, trees_view}
use Rattle.key_maps.specs.Fronts.{after}
use Rattle.key_maps.specs.lemmas.Fronts.{after_count, after_less, after_members, after_more, nodes_code}
use Rattle.key_maps.proofs.type_codes.+after_type_of.Goals as goal

pub after_type_of-returns-in_err-rest-in-Fields-2 : goal.after_type_of-returns-in_err-rest-in-Fields-2
after_type_of-returns-in_err-rest-in-Fields-2 t c =
    let members = c.in-Fields.members in
    let none : option_copied c.from_residual-in_err-rest-in-Fields-2.result ≡ None = search rules in
    let code = ap (λ (n : Node). type_code (type_of (tree_of n))) c.in-Fields.is ∙ nodes_code members
    ∙ ap (λ (count : ℕ). 13 ∷ count ∷ type_codes (types_of (trees_view members.items))) (sym c.len.ensures) in
    none ∙ after_count c.len.result (type_codes (types_of (trees_view members.items))) c.args.bytes.now
    c.in_ok-rest-in-Fields.rest.now c.in_ok-rest-in-Fields.ensures c.in_err-rest-in-Fields-2.ensures
    ∙ ap (λ (text : List ℕ). after text c.args.bytes.now) (sym code)

pub after_type_of-returns-in_ok-rest-in-Fields-2 : goal.after_type_of-returns-in_ok-rest-in-Fields-2
after_type_of-returns-in_ok-rest-in-Fields-2 t c =
    let members = c.in-Fields.members in
    let rest = c.in_ok-rest-in-Fields-2.rest.now in
    let code = ap (λ (n : Node). type_code (type_of (tree_of n))) c.in-Fields.is ∙ nodes_code members
    ∙ ap (λ (count : ℕ). 13 ∷ count ∷ type_codes (types_of (trees_view members.items))) (sym c.len.ensures) in
    c.after_types_of.ensures
    ∙ ap (λ (ns : List Node). after (type_codes (types_of (trees_view ns))) rest) c.as_slice.ensures.value
    ∙ after_members c.len.result (type_codes (types_of (trees_view members.items))) c.args.bytes.now
    c.in_ok-rest-in-Fields.rest.now rest c.in_ok-rest-in-Fields.ensures c.in_ok-rest-in-Fields-2.ensures
    ∙ ap (λ (text : List ℕ). after text c.args.bytes.now) (sym code)

pub after_types_of-returns-in_err-rest : goal.after_types_of-returns-in_err-rest
after_types_of-returns-in_err-rest t c =
    let nodes = c.args.nodes.now in
    let at_node = c.loop-node.node-index in
    let next = c.node-item.result in
    let none : option_copied c.from_residual.result ≡ None = search rules in
    let left : drop at_node nodes ≡ next ∷ drop (at_node + 1) nodes =
    drop_more nodes at_node next c.loop-node-test.true
    ∙ ap (λ (first : Node). first ∷ drop (at_node + 1) nodes) (sym c.node-item.is) in
    none ∙ after_less (type_codes (types_of (trees_view (drop at_node nodes)))) (type_code (type_of (tree_of next)))
    (type_codes (types_of (trees_view (drop (at_node + 1) nodes)))) c.loop-node.rest.now
    (after (type_codes (types_of (trees_view nodes))) c.args.bytes.now)
    (ap (λ (ns : List Node). type_codes (types_of (trees_view ns))) left) c.in_err-rest.ensures c.loop-node.invariant

pub after_types_of-loop-node-preserved : goal.after_types_of-loop-node-preserved
after_types_of-loop-node-preserved t c =
    let nodes = c.args.nodes.now in
    let at_node = c.loop-node.node-index in
    let next = c.node-item.result in
    let left : drop at_node nodes ≡ next ∷ drop (at_node + 1) nodes =
    drop_more nodes at_node next c.loop-node-test.true
    ∙ ap (λ (first : Node). first ∷ drop (at_node + 1) nodes) (sym c.node-item.is) in
    after_more (type_codes (types_of (trees_view (drop at_node nodes)))) (type_code (type_of (tree_of next)))
    (type_codes (types_of (trees_view (drop (at_node + 1) nodes)))) c.loop-node.rest.now c.in_ok-rest.rest.now
    (after (type_codes (types_of (trees_view nodes))) c.args.bytes.now)
    (ap (λ (ns : List Node). type_codes (types_of (trees_view ns))) left) c.in_ok-rest.ensures c.loop-node.invariant
