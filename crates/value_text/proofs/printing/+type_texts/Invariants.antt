use Rattle.std.proofs.Common.{◌≡◌, ◌++◌, drop, string_bytes}
use Rattle.value_model.specs.Views.{kinds_view}
use Rattle.value_text.specs.Texts.{types_text, further_types_text}
use Rattle.value_text.proofs.printing.+type_texts.Given as goal

-- the text so far, and the members that are left
abbrev pub invariant-push_types-loop-member : goal.invariant-push_types-loop-member
invariant-push_types-loop-member l = string_bytes l.out
    ++ further_types_text (kinds_view (drop l.member-index l.others))
    ≡ string_bytes l.fn.out ++ types_text (kinds_view l.members)
