use Rattle.std.proofs.Common.{rules}
use Rattle.value_model.specs.lemmas.Members.{fits-Fields}
use Rattle.value_model.proofs.types.+fits.Goals as goal

pub ValueType::fits-returns-then-not-is_group_size : goal.ValueType::fits-returns-then-not-is_group_size
ValueType::fits-returns-then-not-is_group_size t c = rw (
  c.in-Fields.is,
  fits-Fields c.in-Fields.members,
  ← c.len.ensures,
  ← c.is_group_size.ensures,
  c.if-not-is_group_size.true,
) (search rules)

pub ValueType::fits-returns-else-not-is_group_size : goal.ValueType::fits-returns-else-not-is_group_size
ValueType::fits-returns-else-not-is_group_size t c = rw (
  c.in-Fields.is,
  fits-Fields c.in-Fields.members,
  ← c.len.ensures,
  ← c.is_group_size.ensures,
  c.if-not-is_group_size.false,
) (search rules)
