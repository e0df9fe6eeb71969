use Rattle.std.proofs.Common.{◌≡◌, sym, ◌∙◌, ap, subst}
use Rattle.std.specs.Prelude.{Ok}
use Rattle.per_base.specs.declared.opening.OpenKind.TheVariants.{Read}
use Rattle.per_base.specs.declared.opening.OpenMode.{OpenMode}
use Rattle.per_base.specs.Modes.{plain}
use Rattle.file_handles.specs.Opening.{open_file}
use Rattle.file_handles.specs.Tables.{Table}
use Rattle.file_handles.specs.lemmas.Asked.{cat_given}
use Rattle.file_handles.proofs.table.FileTable.whole_content.Goals as goal

pub returns-clause-ok : goal.returns-clause-ok
returns-clause-ok c =
    let opened : open_file c.args.self.now.storage c.args.self.now.session c.args.name.now Read plain c.args.now
    ≡ Ok (c.in_ok-number.number, c.open_file.new.self.session) =
    subst (λ (mode : OpenMode). open_file c.args.self.now.storage c.args.self.now.session c.args.name.now Read mode
    c.args.now ≡ Ok (c.in_ok-number.number, c.open_file.new.self.session)) c.plain-2.ensures
    c.in_ok-number.ensures.ok in
    cat_given c.whole_contents_are_given.ensures.same c.args.self.now.storage c.args.self.now.session
    c.open_file.new.self.session c.args.name.now c.args.now c.in_ok-number.number c.in_ok-content.content.items
    opened c.in_ok-content.ensures.ok
    ∙ ap (λ (t : Table). Ok (c.in_ok-content.content.items, t.session)) (sym c.release.ensures)
