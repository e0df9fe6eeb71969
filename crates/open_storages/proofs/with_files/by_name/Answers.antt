use Rattle.std.proofs.Common.{ap}
use Rattle.file_storage.specs.FileSessions.{FilesInUse}
use Rattle.run_model.specs.Sessions.{on_working}
use Rattle.open_storages.proofs.Needs.{due_needs, handed_needs}
use Rattle.open_storages.proofs.Rows.{answered_then, handed_on}
use Rattle.open_storages.proofs.with_files.by_name.Goals as goal

pub returns-in_err-recover_file-in-RecoverFile-clause-answered
    : goal.returns-in_err-recover_file-in-RecoverFile-clause-answered
unfolding on_working
returns-in_err-recover_file-in-RecoverFile-clause-answered c =
    rw c.in-RecoverFile.is (handed_on _ _ _ _ c.from_residual-in_err-recover_file-in-RecoverFile.result
    c.in_err-recover_file-in-RecoverFile.field-0.0
    c.from_residual-in_err-recover_file-in-RecoverFile.ensures c.in_err-recover_file-in-RecoverFile.ensures.refused
    (ap (λ (f : FilesInUse). f.session) c.in_err-recover_file-in-RecoverFile.ensures.unchanged))

pub returns-in_ok-recover_file-in-RecoverFile-clause-answered
    : goal.returns-in_ok-recover_file-in-RecoverFile-clause-answered
unfolding on_working
returns-in_ok-recover_file-in-RecoverFile-clause-answered c =
    rw c.in-RecoverFile.is (answered_then _ _ _ c.in_ok-recover_file-in-RecoverFile.ensures.ok, tt)

pub returns-in_err-recover_file-in-RecoverFile-clause-memory
    : goal.returns-in_err-recover_file-in-RecoverFile-clause-memory
unfolding on_working
returns-in_err-recover_file-in-RecoverFile-clause-memory c =
    rw c.in-RecoverFile.is (handed_needs _ _ c.from_residual-in_err-recover_file-in-RecoverFile.result
    c.in_err-recover_file-in-RecoverFile.field-0.0 c.from_residual-in_err-recover_file-in-RecoverFile.ensures (λ x. tt)
    (λ out. due_needs _ (c.in_err-recover_file-in-RecoverFile.ensures.memory out)))
