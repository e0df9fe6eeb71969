use Rattle.std.proofs.Common.{◌≤◌, rules, append_assoc}
use Rattle.std.proofs.lemmas.Result.{IfOk-equal}
use Rattle.value_model.specs.lemmas.Members.{kind_of-Fields, kind_of-List, count_kinds-view, len-items}
use Rattle.value_code.proofs.Groups.{members_at_most}
use Rattle.value_code.proofs.types.+put_type.Goals as goal

pub put_type-overflow_cast-len : goal.put_type-overflow_cast-len
put_type-overflow_cast-len t c =
    let few : c.len.result ≤ 32 = rw c.len.ensures (members_at_most c.in-Fields.members
    (rw c.in-Fields.is at c.requires.fits)) in
    search rules

pub put_type-returns-in_ok-put_byte-in-List : goal.put_type-returns-in_ok-put_byte-in-List
put_type-returns-in_ok-put_byte-in-List t c = rw (c.in-List.is, kind_of-List c.in-List.item)
    (search (rules, IfOk-equal, append_assoc))

pub put_type-returns-in_ok-put_byte-in-Fields-2 : goal.put_type-returns-in_ok-put_byte-in-Fields-2
put_type-returns-in_ok-put_byte-in-Fields-2 t c =
    rw (
      c.in-Fields.is,
      kind_of-Fields c.in-Fields.members,
      count_kinds-view c.in-Fields.members.items,
      len-items c.in-Fields.members,
      ← c.len.ensures,
    ) (search (rules, IfOk-equal, append_assoc))
