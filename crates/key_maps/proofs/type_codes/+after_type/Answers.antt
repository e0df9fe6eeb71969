use Rattle.std.proofs.Common.{◌≡◌, ◌∷◌, ◌∙◌, ◌+◌, List, ℕ, drop, ap, sym, rules}
use Rattle.std.specs.Prelude.{None, option_copied}
use Rattle.std.proofs.lemmas.List.{drop_more}
use Rattle.value_model.specs.declared.types.ValueType.{ValueType}
use Rattle.value_model.specs.Kinds.{type_code, type_codes}
use Rattle.value_model.specs.Views.{kind_of, kinds_view}
use Rattle.key_maps.specs.Fronts.{after}
use Rattle.key_maps.specs.lemmas.Fronts.{after_count, after_less, after_members, after_more, types_code}
use Rattle.key_maps.proofs.type_codes.+after_type.Goals as goal

pub after_type-returns-in_err-rest-in-Fields-2 : goal.after_type-returns-in_err-rest-in-Fields-2
after_type-returns-in_err-rest-in-Fields-2 t c =
    let members = c.in-Fields.members in
    let none : option_copied c.from_residual-in_err-rest-in-Fields-2.result ≡ None = search rules in
    let code = ap (λ (k : ValueType). type_code (kind_of k)) c.in-Fields.is ∙ types_code members
    ∙ ap (λ (count : ℕ). 13 ∷ count ∷ type_codes (kinds_view members.items)) (sym c.len.ensures) in
    none ∙ after_count c.len.result (type_codes (kinds_view members.items)) c.args.bytes.now
    c.in_ok-rest-in-Fields.rest.now c.in_ok-rest-in-Fields.ensures c.in_err-rest-in-Fields-2.ensures
    ∙ ap (λ (text : List ℕ). after text c.args.bytes.now) (sym code)

pub after_type-returns-in_ok-rest-in-Fields-2 : goal.after_type-returns-in_ok-rest-in-Fields-2
after_type-returns-in_ok-rest-in-Fields-2 t c =
    let members = c.in-Fields.members in
    let rest = c.in_ok-rest-in-Fields-2.rest.now in
    let code = ap (λ (k : ValueType). type_code (kind_of k)) c.in-Fields.is ∙ types_code members
    ∙ ap (λ (count : ℕ). 13 ∷ count ∷ type_codes (kinds_view members.items)) (sym c.len.ensures) in
    c.after_types.ensures
    ∙ ap (λ (ts : List ValueType). after (type_codes (kinds_view ts)) rest) c.as_slice.ensures.value
    ∙ after_members c.len.result (type_codes (kinds_view members.items)) c.args.bytes.now
    c.in_ok-rest-in-Fields.rest.now rest c.in_ok-rest-in-Fields.ensures c.in_ok-rest-in-Fields-2.ensures
    ∙ ap (λ (text : List ℕ). after text c.args.bytes.now) (sym code)

pub after_types-returns-in_err-rest : goal.after_types-returns-in_err-rest
after_types-returns-in_err-rest t c =
    let types = c.args.types.now in
    let at_type = c.loop-value_type.value_type-index in
    let next = c.value_type-item.result in
    let none : option_copied c.from_residual.result ≡ None = search rules in
    let left : drop at_type types ≡ next ∷ drop (at_type + 1) types =
    drop_more types at_type next c.loop-value_type-test.true
    ∙ ap (λ (first : ValueType). first ∷ drop (at_type + 1) types) (sym c.value_type-item.is) in
    none ∙ after_less (type_codes (kinds_view (drop at_type types))) (type_code (kind_of next))
    (type_codes (kinds_view (drop (at_type + 1) types))) c.loop-value_type.rest.now
    (after (type_codes (kinds_view types)) c.args.bytes.now)
    (ap (λ (ts : List ValueType). type_codes (kinds_view ts)) left) c.in_err-rest.ensures c.loop-value_type.invariant

pub after_types-loop-value_type-preserved : goal.after_types-loop-value_type-preserved
after_types-loop-value_type-preserved t c =
    let types = c.args.types.now in
    let at_type = c.loop-value_type.value_type-index in
    let next = c.value_type-item.result in
    let left : drop at_type types ≡ next ∷ drop (at_type + 1) types =
    drop_more types at_type next c.loop-value_type-test.true
    ∙ ap (λ (first : ValueType). first ∷ drop (at_type + 1) types) (sym c.value_type-item.is) in
    after_more (type_codes (kinds_view (drop at_type types))) (type_code (kind_of next))
    (type_codes (kinds_view (drop (at_type + 1) types))) c.loop-value_type.rest.now c.in_ok-rest.rest.now
    (after (type_codes (kinds_view types)) c.args.bytes.now)
    (ap (λ (ts : List ValueType). type_codes (kinds_view ts)) left) c.in_ok-rest.ensures c.loop-value_type.invariant
