use Rattle.std.proofs.Common.{sym, subst}
use Rattle.std.specs.Prelude.{IsTrue}
use Rattle.value_model.specs.Kinds.{Kind, kind_fits}
use Rattle.per_backup.proofs.Types.{typed_fits}
use Rattle.per_backup.proofs.typing.exported_type.Goals as goal

pub returns-in_ok-value_type-in-Ok-clause-fits : goal.returns-in_ok-value_type-in-Ok-clause-fits
returns-in_ok-value_type-in-Ok-clause-fits c = subst (λ (k : Kind). IsTrue (kind_fits k))
    (sym c.in_ok-value_type-in-Ok.ensures) (typed_fits c.in-Ok.value c.in-Ok.ensures.found.0.typed)
