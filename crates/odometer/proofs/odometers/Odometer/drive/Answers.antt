use Rattle.std.proofs.Common.{◌≡◌, ◌∙◌, ◌+◌, ap, arith, refl}
use Rattle.std.specs.Prelude.{Err}
use Rattle.per_base.specs.declared.errors.PerError.{PerError}
use Rattle.per_base.specs.declared.errors.PerError.TheVariants.{PhysicalStorageFailure}
use Rattle.odometer.specs.declared.refusals.Refusal.TheVariants.{Storage}
use Rattle.odometer.proofs.Totals.{passed_on, total_stands}
use Rattle.odometer.proofs.odometers.Odometer.drive.Goals as goal

pub returns-in_default-clause-any_moment : goal.returns-in_default-clause-any_moment
returns-in_default-clause-any_moment g c = rw (← c.self.view_is) (λ tells. total_stands c.self.inside.storage.kvs
    c.self.inside.total (c.self.inside.total + c.args.kilometres) (g.D.Disk.medium c.self.inside.storage.disk)
    (g.D.Disk.medium c.self.inside.storage.disk) refl c.self.invariant.0 (c.invariants.ensures.keeps tells))

pub returns-in_err-save-clause-any_moment : goal.returns-in_err-save-clause-any_moment
returns-in_err-save-clause-any_moment g c = rw (← c.self.view_is) (λ tells.
    let sum : c.in-Some.total ≡ c.self.inside.total + c.args.kilometres = omega arith in
    rw sum at (c.save.ensures.any_moment tells c.self.inside.total c.self.invariant.0))

pub returns-in_err-save-clause-cause : goal.returns-in_err-save-clause-cause
returns-in_err-save-clause-cause g c = rw (← c.self.view_is) (λ is.
    let passed = passed_on c.from_residual.result (Storage c.in_err-save.field-0.0) c.from_residual.ensures.1 in
    let error : c.in_err-save.field-0.0 ≡ PhysicalStorageFailure = cc in
    c.save.ensures.cause (c.in_err-save.was ∙ ap (λ (x : PerError). Err x) error))

pub returns-clause-any_moment : goal.returns-clause-any_moment
returns-clause-any_moment g c = rw (← c.self.view_is) (λ tells.
    let sum : c.in-Some.total ≡ c.self.inside.total + c.args.kilometres = omega arith in
    rw sum at (c.save.ensures.any_moment tells c.self.inside.total c.self.invariant.0))
