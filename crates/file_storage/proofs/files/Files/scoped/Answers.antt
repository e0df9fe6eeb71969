use Rattle.std.proofs.Common.{◌≡◌, refl, subst}
use Rattle.std.specs.Prelude.{None}
use Rattle.file_handles.specs.Sessions.{free_number, handle_at}
use Rattle.file_storage.specs.FileSessions.{FilesInUse, storage_of}
use Rattle.file_storage.proofs.Keeping.{opened_others}
use Rattle.file_storage.proofs.files.Files.scoped.Goals as goal

pub returns : goal.returns
returns c = (
  (refl, (λ w. refl), tt),
  record {
    untouched = tt;
    same_reference = refl;
    ok = c.in_ok-handle.ensures.ok;
    moment = c.in_ok-handle.ensures.moment;
    beside = subst (λ m. c.open_file.new.self ≡ record c.args.self.now {
      session =
          c.open_file.new.self.session;
      moment = m;
    }) c.in_ok-handle.ensures.moment c.in_ok-handle.ensures.beside;
    others = opened_others (storage_of c.args.self.now.config) c.args.self.now.session c.open_file.new.self.session
        c.args.name.now c.args.kind c.args.mode c.args.now c.in_ok-handle.handle
        (subst (λ (s : FilesInUse). handle_at s.session.handles (free_number s.session.handles) ≡ None) c.self.view_is
        c.invariants.ensures.free) c.in_ok-handle.ensures.ok;
    refused = tt;
    memory = tt;
  },
)
