use Rattle.std.proofs.Common.{sym, ◌∙◌, ap}
use Rattle.value_model.specs.Kinds.{is_group}
use Rattle.value_model.specs.lemmas.Members.{typed-Fields, untyped-Fields}
use Rattle.value_model.proofs.typing.+is_typed.Goals as goal

pub is_typed-returns-then-not-is_group_size : goal.is_typed-returns-then-not-is_group_size
is_typed-returns-then-not-is_group_size t c =
    let no = untyped-Fields c.in-Fields.nodes (ap is_group (sym c.len.ensures)
    ∙ (sym c.is_group_size.ensures ∙ c.if-not-is_group_size.true)) in
    rw c.in-Fields.is (λ h. cc, λ typed. absurd (no typed))

pub is_typed-returns-else-not-is_group_size : goal.is_typed-returns-else-not-is_group_size
is_typed-returns-else-not-is_group_size t c =
    let same = typed-Fields c.in-Fields.nodes _ c.as_slice-in-Fields.ensures.value
    (ap is_group (sym c.len.ensures) ∙ (sym c.is_group_size.ensures ∙ c.if-not-is_group_size.false)) in
    rw c.in-Fields.is (
      λ h. same.1 (c.all_typed-in-Fields.ensures.0 h),
      λ typed. c.all_typed-in-Fields.ensures.1 (same.0 typed),
    )
