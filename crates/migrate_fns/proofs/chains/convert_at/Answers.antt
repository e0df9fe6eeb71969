use Rattle.std.proofs.Common.{◌≡◌, sym, subst, get_or, IfOk}
use Rattle.std.specs.Prelude.{IfSome}
use Rattle.value_model.specs.Trees.{type_of}
use Rattle.value_model.specs.Views.{kind_of}
use Rattle.migrate_fns.specs.Rules.{Rule}
use Rattle.migrate_fns.specs.Stored.{rule_of, MayGive}
use Rattle.migrate_fns.proofs.Levels.{of_ok, read_at}
use Rattle.migrate_fns.proofs.chains.convert_at.Goals as goal

pub convert-requires : goal.convert-requires
convert-requires g c =
    let read = read_at rule_of c.args.migrations.now.list.items (type_of c.args.value.now) c.args.place
    c.index-list-place.result c.requires
    (subst (λ xs. c.index-list-place.result ≡ get_or xs c.args.place c.index-list-place.result)
    c.as_slice-list.ensures.listed c.index-list-place.is) in
    sym read.type

pub returns-clause-answer : goal.returns-clause-answer
returns-clause-answer g c =
    let read = read_at rule_of c.args.migrations.now.list.items (type_of c.args.value.now) c.args.place
    c.index-list-place.result c.requires
    (subst (λ xs. c.index-list-place.result ≡ get_or xs c.args.place c.index-list-place.result)
    c.as_slice-list.ensures.listed c.index-list-place.is) in
    of_ok c.convert.result (λ r. MayGive c.index-list-place.result c.args.value.now r) _ c.convert.ensures.answer
    (λ w a. (c.index-list-place.result, read.there, a))

pub returns-clause-to : goal.returns-clause-to
returns-clause-to g c =
    let read = read_at rule_of c.args.migrations.now.list.items (type_of c.args.value.now) c.args.place
    c.index-list-place.result c.requires
    (subst (λ xs. c.index-list-place.result ≡ get_or xs c.args.place c.index-list-place.result)
    c.as_slice-list.ensures.listed c.index-list-place.is) in
    of_ok c.convert.result (λ r. IfOk r (λ w. type_of w ≡ kind_of c.index-list-place.result.to)) _ c.convert.ensures.to
    (λ w e. subst (λ o. IfSome o (λ (r : Rule). type_of w ≡ r.to)) (sym read.rule) e)
