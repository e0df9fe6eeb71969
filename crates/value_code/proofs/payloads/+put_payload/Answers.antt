use Rattle.std.proofs.Common.{rules, append_assoc}
use Rattle.std.proofs.lemmas.Result.{IfOk-equal}
use Rattle.value_model.specs.lemmas.Members.{count_trees-view, len-items, tree_of-List}
use Rattle.value_code.specs.lemmas.Lengths.{items_few}
use Rattle.value_code.proofs.payloads.+put_payload.Goals as goal

pub put_payload-put_length-requires : goal.put_payload-put_length-requires
put_payload-put_length-requires t c = rw c.len.ensures
    (items_few c.in-List.field-0 c.in-List.items (rw c.in-List.is at c.requires.typed)
    (rw c.in-List.is at c.requires.short))

pub put_payload-returns-in_ok-put_length-in-List : goal.put_payload-returns-in_ok-put_length-in-List
put_payload-returns-in_ok-put_length-in-List t c =
    rw (
      c.in-List.is,
      tree_of-List c.in-List.field-0 c.in-List.items,
      count_trees-view c.in-List.items.items,
      len-items c.in-List.items,
      ← c.len.ensures,
    ) (search (rules, IfOk-equal, append_assoc))
