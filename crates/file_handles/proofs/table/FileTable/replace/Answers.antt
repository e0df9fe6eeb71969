use Rattle.std.proofs.Common.{◌≡◌, ◌∙◌, List, ℕ, length, sym, subst, ap}
use Rattle.std.specs.Prelude.{None, Some, is_some, IsTrue}
use Rattle.per_base.specs.declared.elements.Cause.TheVariants.{Application}
use Rattle.per_base.specs.declared.elements.Element.{Element}
use Rattle.per_base.specs.declared.opening.OpenKind.TheVariants.{Write}
use Rattle.per_base.specs.Maps.{element_at, has, with_element}
use Rattle.file_core.specs.Files.{changed_to, too_long}
use Rattle.file_handles.specs.Opening.{busy}
use Rattle.file_handles.specs.Sessions.{blocking, room_for}
use Rattle.file_handles.specs.Tables.{Table}
use Rattle.file_handles.specs.Whole.{released}
use Rattle.file_handles.proofs.Filled.{emptied_fits, emptied_free, emptied_there, is_emptied, put_filled}
use Rattle.file_handles.proofs.table.FileTable.replace.Goals as goal

pub give-requires-clause-free : goal.give-requires-clause-free
give-requires-clause-free c =
    subst (λ (t : Table). busy (blocking Write c.args.name.now t.session.handles) ≡ None) (sym c.release.ensures)
    (emptied_free c.args.self.now.storage c.args.self.now.session c.open_file.new.self.session c.args.name.now
    c.args.now c.in_ok-number.number c.in_default.ensures.ok
    c.invariants.ensures.free (is_emptied c.args.self.now.storage c.args.self.now.session c.open_file.new.self.session
    c.args.name.now c.args.now c.in_ok-number.number c.in_default.ensures.ok c.in_ok-number.ensures.ok))

pub give-requires-clause-there : goal.give-requires-clause-there
give-requires-clause-there c =
    let e = is_emptied c.args.self.now.storage c.args.self.now.session c.open_file.new.self.session c.args.name.now
    c.args.now c.in_ok-number.number c.in_default.ensures.ok c.in_ok-number.ensures.ok in
    subst (λ (t : Table). IsTrue (has t.session.files c.args.name.now)) (sym c.release.ensures)
    (ap is_some (emptied_there c.args.self.now.session c.open_file.new.self.session c.args.name.now c.args.now
    c.in_ok-number.number e))

pub give-requires-clause-fits : goal.give-requires-clause-fits
give-requires-clause-fits c =
    let e = is_emptied c.args.self.now.storage c.args.self.now.session c.open_file.new.self.session c.args.name.now
    c.args.now c.in_ok-number.number c.in_default.ensures.ok c.in_ok-number.ensures.ok in
    let same : c.new.result ≡ c.args.bytes.now = c.new.ensures ∙ c.in_ok-copy.ensures.ok in
    subst (λ (t : Table). too_long (room_for t.session.files c.args.name.now t.storage.maximum) (length c.new.result)
    ≡ None) (sym c.release.ensures)
    (subst (λ storage. too_long (room_for c.open_file.new.self.session.files c.args.name.now storage.maximum)
    (length c.new.result) ≡ None) (sym c.in_ok-number.ensures.storage)
    (subst (λ (bytes : List ℕ). too_long (room_for c.open_file.new.self.session.files c.args.name.now
    c.args.self.now.storage.maximum) (length bytes) ≡ None) (sym same)
    (emptied_fits c.args.self.now.storage c.args.self.now.session c.open_file.new.self.session c.args.name.now
    c.args.now c.in_ok-number.number (length c.args.bytes.now) c.invariants.ensures.table.names
    c.in_default-would_fit.ensures.ok e)))

pub returns-clause-ok : goal.returns-clause-ok
returns-clause-ok c =
    let same : c.new.result ≡ c.args.bytes.now = c.new.ensures ∙ c.in_ok-copy.ensures.ok in
    put_filled c.args.self.now.storage c.args.self.now.session c.open_file.new.self.session c.give.new.self.session
    c.args.name.now c.args.bytes.now c.args.now c.in_ok-number.number
    c.invariants.ensures.table.names c.invariants.ensures.free c.in_default.ensures.ok c.in_default-would_fit.ensures.ok
    c.in_ok-number.ensures.ok
    (subst (λ (bytes : List ℕ). (old : Element) → element_at c.open_file.new.self.session.files c.args.name.now
    ≡ Some old
    → c.give.new.self.session ≡ record (released c.open_file.new.self.session c.in_ok-number.number) {
      files =
          with_element c.open_file.new.self.session.files c.args.name.now (changed_to bytes c.args.now Application old);
    }) same
    (subst (λ (t : Table). (old : Element) → element_at t.session.files c.args.name.now ≡ Some old
    → c.give.new.self.session ≡ record t.session {
      files =
          with_element t.session.files c.args.name.now (changed_to c.new.result c.args.now Application old);
    })
    c.release.ensures c.give.ensures.given))
