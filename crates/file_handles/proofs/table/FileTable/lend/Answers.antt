use Rattle.std.proofs.Common.{◌≡◌, [], map, sym, ◌∙◌, ap, subst}
use Rattle.std.specs.List.{AllByRecursion}
use Rattle.per_base.specs.Maps.{Map}
use Rattle.file_handles.specs.Lending.{PutsReadable, all_lent, all_put_back, filled}
use Rattle.file_handles.specs.Tables.{Table}
use Rattle.file_handles.proofs.Lent.{all_round, lent_table}
use Rattle.file_handles.proofs.table.FileTable.lend.Goals as goal

pub invariant_of-self : goal.invariant_of-self
invariant_of-self c = lent_table c.self.inside.storage c.self.inside.files.entries c.lend_all.new.files.entries
    c.self.inside.handles.entries c.self.inside.size c.args.changes.now.items c.self.invariant
    (subst (λ (t : Table). t.session.handles ≡ []) (sym c.self.view_is) c.requires.free) c.lend_all.ensures.files

pub returns-clause-filled : goal.returns-clause-filled
returns-clause-filled c =
    let readable = subst (λ (t : Table). AllByRecursion (PutsReadable t.session.files) c.args.changes.now.items)
    (sym c.self.view_is) c.requires.readable in
    let round = all_round c.self.inside.files.entries c.args.changes.now.items c.self.invariant.0.names
    c.self.invariant.0.whole c.requires.ascend readable in
    subst (λ (t : Table). c.lend_all.new.changes.items ≡ map (filled t.session.files) c.args.changes.now.items)
    c.self.view_is (c.lend_all.ensures.changes ∙ round.0)

pub returns-clause-lent : goal.returns-clause-lent
returns-clause-lent c =
    let readable = subst (λ (t : Table). AllByRecursion (PutsReadable t.session.files) c.args.changes.now.items)
    (sym c.self.view_is) c.requires.readable in
    let round = all_round c.self.inside.files.entries c.args.changes.now.items c.self.invariant.0.names
    c.self.invariant.0.whole c.requires.ascend readable in
    let table : Map → Table = λ files. record {
      storage = c.self.inside.storage;
      session = record { files = files; handles = c.self.inside.handles.entries };
      moment = c.self.inside.moment;
    } in
    ap (λ files. table (all_put_back files c.lend_all.new.changes.items)) c.lend_all.ensures.files
    ∙ ap (λ changes. table (all_put_back (all_lent c.self.inside.files.entries c.args.changes.now.items) changes))
    c.lend_all.ensures.changes
    ∙ ap table round.1 ∙ c.self.view_is
