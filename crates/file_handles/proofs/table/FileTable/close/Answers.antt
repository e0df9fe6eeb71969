use Rattle.std.proofs.Common.{◌≡◌, ◌≤◌, length, sym, subst, arith}
use Rattle.std.specs.Prelude.{Ok}
use Rattle.file_handles.specs.Handling as calls
use Rattle.file_handles.specs.Sessions.{Session}
use Rattle.file_handles.specs.Tables.{Table}
use Rattle.file_handles.specs.lemmas.Sound.{closed}
use Rattle.file_handles.proofs.Through.{closed_ok}
use Rattle.file_handles.proofs.table.FileTable.close.Goals as goal

pub invariant_of-self-2 : goal.invariant_of-self-2
invariant_of-self-2 c = (
  closed c.self.inside.storage c.self.inside.files.entries c.self.inside.handles.entries c.remove.new.self.entries
      c.args.number c.self.invariant.0 c.remove.ensures.entries c.remove.ensures.ordered
      (let few : length c.self.inside.handles.entries ≤ 64 =
      c.self.invariant.0.few_handles in omega (arith, few, c.remove.ensures.len)),
  c.self.invariant.1,
)

pub returns-clause-ok : goal.returns-clause-ok
returns-clause-ok c =
    subst (λ (t : Table). calls.close t.session c.args.number
    ≡ Ok (let s : Session = record { files = c.self.inside.files.entries; handles = c.remove.new.self.entries } in
    s)) c.self.view_is
    (closed_ok c.self.inside.files.entries c.self.inside.handles.entries c.remove.new.self.entries c.args.number
    c.in-Some._handle c.self.invariant.0.held (sym c.in-Some.ensures.value) c.remove.ensures.entries)
