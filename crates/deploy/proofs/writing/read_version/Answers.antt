use Rattle.std.proofs.Common.{ℕ, ap, sym, ◌∙◌}
use Rattle.std.specs.Prelude.{Err}
use Rattle.per_base.specs.declared.errors.PerError.TheVariants.{ManifestRejected}
use Rattle.deployment_model.specs.Data.{deployment_data}
use Rattle.deploy.proofs.Told.{told_read, told_refused}
use Rattle.deploy.proofs.writing.read_version.Goals as goal

pub returns-in-Err-Rejected-clause-told : goal.returns-in-Err-Rejected-clause-told
returns-in-Err-Rejected-clause-told c =
    told_refused c.args.manifest.now c.in-Err-Rejected.field-0 c.in-Err-Rejected.rule c.in-Err-Rejected.field-0-is
    c.in-Err-Rejected.ensures.rejected c.in-Err-Rejected.ensures.unsaid
    ∙ ap (λ (n : ℕ). Err (ManifestRejected n)) (sym c.in-Err-Rejected.rule-is)

pub returns-clause-told : goal.returns-clause-told
returns-clause-told c = told_read c.args.manifest.now (deployment_data c.in-Ok.deployment) c.in-Ok.ensures.read
