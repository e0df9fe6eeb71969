use Rattle.std.proofs.Common.{ℕ, List, subst}
use Rattle.per_base.specs.Refusals.{NeedsMemory}
use Rattle.file_handles.specs.Whole.{put_whole}
use Rattle.run_model.specs.Sessions.{on_working, storage_of}
use Rattle.open_storages.proofs.Needs.{handed_needs}
use Rattle.open_storages.proofs.with_files.change.Goals as goal

pub returns-in_err-opened-in-OpenFile-clause-memory : goal.returns-in_err-opened-in-OpenFile-clause-memory
unfolding on_working
returns-in_err-opened-in-OpenFile-clause-memory c =
    rw c.in-OpenFile.is (handed_needs _ _ c.from_residual.result c.in_err-opened-in-OpenFile.field-0.0
    c.from_residual.ensures (λ x. tt) c.in_err-opened-in-OpenFile.ensures.memory)

pub returns-in_err-replace-in-Put-clause-memory : goal.returns-in_err-replace-in-Put-clause-memory
unfolding on_working
returns-in_err-replace-in-Put-clause-memory c =
    rw c.in-Put.is (handed_needs _ _ c.from_residual-in_err-replace-in-Put.result
    c.in_err-replace-in-Put.field-0.0 c.from_residual-in_err-replace-in-Put.ensures (λ x. tt)
    (λ out. subst (λ (bytes : List ℕ). NeedsMemory (put_whole (storage_of c.args.files.now.config)
    c.args.files.now.session c.in-Put.name bytes c.args.now)) c.as_slice.ensures
    (c.in_err-replace-in-Put.ensures.memory out)))
