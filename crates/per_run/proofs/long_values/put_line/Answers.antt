use Rattle.std.proofs.Common.{◌++◌, [], ◌∷◌, codes, refl, rules}
use Rattle.value_model.specs.Views.{tree_of}
use Rattle.value_text.specs.Texts.{value_text}
use Rattle.per_run.proofs.Behind.{both_behind, first_cut, hands_on, puts_as, second_cut, then_puts}
use Rattle.per_run.proofs.long_values.put_line.Goals as goal

pub returns-in_err-put-clause-puts : goal.returns-in_err-put-clause-puts
returns-in_err-put-clause-puts g c =
    let w = g.K.Sink.written in
    let a = w c.args.sink.now in
    let u = c.args.waiting.now.items in
    hands_on c.from_residual.result a (w c.put.new.sink) u c.put.new.waiting.items (codes "value " ++ value_text
    (tree_of c.args.node.now) ++ (10 ∷ [])) _ (search rules) (first_cut a (w c.put.new.sink) u (codes "value " ++
    value_text (tree_of c.args.node.now)) (10 ∷ []) (first_cut a (w c.put.new.sink) u (codes "value ") (value_text
    (tree_of c.args.node.now)) c.in_err-put.ensures.puts)) refl

pub returns-in_err-put_node-clause-puts : goal.returns-in_err-put_node-clause-puts
returns-in_err-put_node-clause-puts g c =
    let w = g.K.Sink.written in
    let a = w c.args.sink.now in
    let u = c.args.waiting.now.items in
    hands_on c.from_residual-in_err-put_node.result a (w c.put_node.new.sink) u c.put_node.new.waiting.items
    (codes "value " ++ value_text (tree_of c.args.node.now) ++ (10 ∷ [])) _ (search rules) (first_cut a
    (w c.put_node.new.sink) u (codes "value " ++ value_text (tree_of c.args.node.now)) (10 ∷ []) (second_cut a
    (w c.put.new.sink) (w c.put_node.new.sink) u _ (codes "value ") (value_text (tree_of c.args.node.now))
    c.in_ok-put.ensures.puts c.in_err-put_node.ensures.puts)) refl

pub returns-clause-puts : goal.returns-clause-puts
returns-clause-puts g c =
    let w = g.K.Sink.written in
    let a = w c.args.sink.now in
    let u = c.args.waiting.now.items in
    puts_as c.put-2.result a (w c.put-2.new.sink) u c.put-2.new.waiting.items _ _ (then_puts c.put-2.result a
    (w c.put_node.new.sink) (w c.put-2.new.sink) u _ _ (codes "value " ++ value_text (tree_of c.args.node.now)) (10 ∷
    []) (both_behind a (w c.put.new.sink) (w c.put_node.new.sink) u _ _ (codes "value ") (value_text (tree_of
    c.args.node.now)) c.in_ok-put.ensures.puts c.in_ok-put_node.ensures.puts) c.put-2.ensures.puts) refl
