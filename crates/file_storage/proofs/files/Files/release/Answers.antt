use Rattle.std.proofs.Common.{◌≡◌, subst}
use Rattle.std.specs.Prelude.{ℕ, None}
use Rattle.file_handles.specs.Sessions.{handle_at, open_at}
use Rattle.file_storage.specs.FileSessions.{FilesInUse}
use Rattle.file_storage.proofs.Keeping.{released}
use Rattle.file_storage.proofs.files.Files.release.Goals as goal

pub returns : goal.returns
returns c = released c.args.self.now c.close-closed.new.self c.args.handle c.close-closed.result
    c.close-closed.ensures.ok c.close-closed.ensures.refused c.close-closed.ensures.beside
    c.close-closed.ensures.unchanged
    (subst (λ (s : FilesInUse). (number : ℕ) → open_at s.session number ≡ None
    → handle_at s.session.handles number ≡ None) c.self.view_is c.invariants.ensures.closed c.args.handle)
