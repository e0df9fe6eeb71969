-- Each job, and why it ended so.
use Rattle.std.proofs.Common.{ℕ, ◌<◌, ◌∙◌, ap, arith, refl, subst, sym}
use Rattle.per_run.specs.declared.words.JobKind.TheVariants.{Run, Serve, Format, Generate, Audit, Listing, Export}
use Rattle.per_run.specs.declared.words.JobKind.TheVariants.{Import, RecoverRoot}
use Rattle.per_run.specs.Steps.{IsInRange}
use Rattle.per_run.proofs.Caused.{caused_as, done_as, run_caused, serve_caused, written_caused}
use Rattle.per_run.proofs.job.run_job.Goals as goal

pub returns-in-Run-clause-job : goal.returns-in-Run-clause-job
returns-in-Run-clause-job g c = done_as g.D.Disk _ Run _ _ _ _ c.in-Run.is c.run.ensures.run

pub returns-in-Run-clause-caused : goal.returns-in-Run-clause-caused
returns-in-Run-clause-caused g c = caused_as _ Run _ _ _ c.in-Run.is
    (run_caused _ _ _ _ _ c.run.ensures.run)

pub returns-in-Serve-clause-job : goal.returns-in-Serve-clause-job
returns-in-Serve-clause-job g c =
    done_as g.D.Disk _ Serve _ _ _ _ c.in-Serve.is c.serve.ensures.serves

pub returns-in-Serve-clause-caused : goal.returns-in-Serve-clause-caused
returns-in-Serve-clause-caused g c = caused_as _ Serve _ _ _ c.in-Serve.is
    (serve_caused g.D.Disk _ _ _ _ c.serve.ensures.serves)

pub returns-in-Format-clause-job : goal.returns-in-Format-clause-job
returns-in-Format-clause-job g c =
    done_as g.D.Disk _ Format _ _ _ _ c.in-Format.is c.format.ensures.job

pub returns-in-Format-clause-caused : goal.returns-in-Format-clause-caused
returns-in-Format-clause-caused g c = caused_as _ Format _ _ _ c.in-Format.is
    (written_caused Format _ _ _ refl c.format.ensures.status)

pub returns-in-Generate-clause-job : goal.returns-in-Generate-clause-job
returns-in-Generate-clause-job g c =
    done_as g.D.Disk _ (Generate c.in-Generate.number) _ _ _ _ c.in-Generate.is
    c.generate.ensures.job

pub returns-in-Generate-clause-caused : goal.returns-in-Generate-clause-caused
returns-in-Generate-clause-caused g c = caused_as _ (Generate c.in-Generate.number) _ _ _ c.in-Generate.is
    (written_caused (Generate c.in-Generate.number) _ _ _ refl c.generate.ensures.status)

pub returns-in-Audit-clause-job : goal.returns-in-Audit-clause-job
returns-in-Audit-clause-job g c =
    done_as g.D.Disk _ Audit _ _ _ _ c.in-Audit.is c.audit_disk.ensures.job

pub returns-in-Audit-clause-caused : goal.returns-in-Audit-clause-caused
returns-in-Audit-clause-caused g c = caused_as _ Audit _ _ _ c.in-Audit.is (c.audit_disk.ensures.caused _)

pub returns-in-Listing-clause-job : goal.returns-in-Listing-clause-job
returns-in-Listing-clause-job g c =
    done_as g.D.Disk _ (Listing c.in-Listing.form) _ _ _ _ c.in-Listing.is
    c.list_disk.ensures.job

pub returns-in-Listing-clause-caused : goal.returns-in-Listing-clause-caused
returns-in-Listing-clause-caused g c =
    caused_as _ (Listing c.in-Listing.form) _ _ _ c.in-Listing.is (c.list_disk.ensures.caused _)

pub export_storage-requires : goal.export_storage-requires
export_storage-requires g c =
    let within : c.in-Export.application < 8 = subst IsInRange c.in-Export.is c.requires in
    omega (arith, within, c.from.ensures)

pub returns-in-Export-clause-job : goal.returns-in-Export-clause-job
returns-in-Export-clause-job g c =
    done_as g.D.Disk _ (Export c.from.result c.in-Export.name) _ _ _ _
    (c.in-Export.is ∙ ap (λ (app : ℕ). Export app c.in-Export.name) (sym c.from.ensures))
    c.export_storage.ensures.job

pub returns-in-Export-clause-caused : goal.returns-in-Export-clause-caused
returns-in-Export-clause-caused g c = caused_as _ (Export c.from.result c.in-Export.name) _ _ _
    (c.in-Export.is ∙ ap (λ (app : ℕ). Export app c.in-Export.name) (sym c.from.ensures))
    (c.export_storage.ensures.caused _)

pub import_storage-requires : goal.import_storage-requires
import_storage-requires g c =
    let within : c.in-Import.application < 8 = subst IsInRange c.in-Import.is c.requires in
    omega (arith, within, c.from-in-Import.ensures)

pub returns-in-Import-clause-job : goal.returns-in-Import-clause-job
returns-in-Import-clause-job g c =
    done_as g.D.Disk _ (Import c.from-in-Import.result c.in-Import.name) _ _ _ _
    (c.in-Import.is ∙ ap (λ (app : ℕ). Import app c.in-Import.name) (sym c.from-in-Import.ensures))
    c.import_storage.ensures.job

pub returns-in-Import-clause-caused : goal.returns-in-Import-clause-caused
returns-in-Import-clause-caused g c = caused_as _ (Import c.from-in-Import.result c.in-Import.name) _ _ _
    (c.in-Import.is ∙ ap (λ (app : ℕ). Import app c.in-Import.name) (sym c.from-in-Import.ensures))
    c.import_storage.ensures.caused

pub recover-requires : goal.recover-requires
recover-requires g c =
    let within : c.in-RecoverRoot.application < 8 = subst IsInRange c.in-RecoverRoot.is c.requires in
    omega (arith, within, c.from-in-RecoverRoot.ensures)

pub returns-in-RecoverRoot-clause-job : goal.returns-in-RecoverRoot-clause-job
returns-in-RecoverRoot-clause-job g c =
    done_as g.D.Disk _ (RecoverRoot c.from-in-RecoverRoot.result) _ _ _ _
    (c.in-RecoverRoot.is ∙ ap RecoverRoot (sym c.from-in-RecoverRoot.ensures)) c.recover.ensures.job

pub returns-in-RecoverRoot-clause-caused : goal.returns-in-RecoverRoot-clause-caused
returns-in-RecoverRoot-clause-caused g c = caused_as _ (RecoverRoot c.from-in-RecoverRoot.result) _ _ _
    (c.in-RecoverRoot.is ∙ ap RecoverRoot (sym c.from-in-RecoverRoot.ensures)) (c.recover.ensures.caused _)
