use Rattle.std.proofs.Common.{Some, sym, ap, ◌∙◌}
use Rattle.per_base.specs.declared.errors.PerError.{PerError}
use Rattle.value_model.specs.Views.{kind_of}
use Rattle.per_backup.proofs.Types.{differ_so, same_so}
use Rattle.per_backup.proofs.typing.differing.Goals as goal

pub returns-then-is_same : goal.returns-then-is_same
returns-then-is_same c = sym (same_so c.is_same.result (kind_of c.args.exported.now) (kind_of c.args.configured.now)
    c.is_same.ensures c.if-is_same.true)

pub returns : goal.returns
returns c = ap (λ (e : PerError). Some e) c.in_ok-error.ensures
    ∙ sym (differ_so c.is_same.result (kind_of c.args.exported.now) (kind_of c.args.configured.now) c.is_same.ensures
    c.if-is_same.false)
