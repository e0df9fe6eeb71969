-- What refuses to make working files durable, in the words of the storage below and in those of a session.
use Rattle.std.proofs.Common.{◌≡◌, ℕ, Bool, true, false, refl, ap}
use Rattle.std.specs.Prelude.{not, Option, Some, None, Ok, ⊤}
use Rattle.per_base.specs.declared.elements.Element.{Element}
use Rattle.per_base.specs.declared.errors.PerError.{PerError}
use Rattle.per_base.specs.declared.errors.PerError.TheVariants.{IllegalWriteAccess}
use Rattle.per_base.specs.Refusals.{refuse, or_next}
use Rattle.file_core.specs.Places.{writes}
use Rattle.file_handles.specs.declared.handle.Handle.{Handle}
use Rattle.file_handles.specs.Handling.{on_open}
use Rattle.file_handles.specs.Opening.{when}
use Rattle.file_handles.specs.Sessions.{open_at}
use Rattle.file_storage.specs.FileSessions.{FilesInUse}
use Rattle.file_storage.specs.Syncs as below
use Rattle.open_storages.specs.declared.opens.Open.TheVariants.{Files}
use Rattle.open_storages.specs.Refusals.{error_of, flush_refused}

refused_when : (test : Bool) (error : PerError) → error_of {A = ⊤} (refuse test error (Ok tt)) ≡ when test error
refused_when true error = refl
refused_when false error = refl

no_writer_is : (o : Option (Handle × Element)) → error_of {A = ⊤}
    (on_open o (λ handle file. refuse (not (writes handle.cursor.kind)) IllegalWriteAccess (Ok tt))) ≡ below.no_writer o
no_writer_is None = refl
no_writer_is (Some o) = refused_when (not (writes o.0.cursor.kind)) IllegalWriteAccess

pub flush_refused_is : (f : FilesInUse) (handle : ℕ) → flush_refused (Files f) handle ≡ below.sync_refused f handle
flush_refused_is f handle = ap (λ (e : Option PerError). or_next e (below.worn f))
    (no_writer_is (open_at f.session handle))
