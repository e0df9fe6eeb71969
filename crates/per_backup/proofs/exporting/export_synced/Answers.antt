use Rattle.std.proofs.Common.{refl, ◌∙◌}
use Rattle.disk_model.specs.Image.{Image}
use Rattle.element_state.specs.declared.shapes.View.{View}
use Rattle.element_state.specs.Read.{IsView}
use Rattle.per_backup.specs.declared.exporting.Exported.TheVariants.{Refused}
use Rattle.per_backup.specs.Clauses.{IsViewFor}
use Rattle.per_backup.specs.Finding.{IsLocatedAs, IsMissingStorage}
use Rattle.per_backup.proofs.ExportRows.{answered, answered_missing}
use Rattle.per_backup.proofs.Lists.{err_so, ok_so, some_weaker}
use Rattle.per_backup.proofs.exporting.export_synced.Goals as goal

pub returns-in-Err-clause-answer : goal.returns-in-Err-clause-answer
returns-in-Err-clause-answer g c =
    let old = (g.D.Disk.medium c.args.disk.now).image in
    answered_missing g.D.Disk.told old c.args.app c.args.name.now c.in-Err.error
    (err_so c.in_ok-located.field-0 c.in-Err.error (IsMissingStorage g.D.Disk.told old c.args.app c.args.name.now)
    c.in-Err.is
    c.in_ok-located.ensures.missing)
    (Refused c.in-Err.error) refl

pub answer_of-requires : goal.answer_of-requires
answer_of-requires g c =
    let l = c.in-Ok.located in
    let located = ok_so c.in_ok-located.field-0 l (IsLocatedAs g.D.Disk.told (g.D.Disk.medium c.args.disk.now).image
    c.args.app c.args.name.now) c.in-Ok.is c.in_ok-located.ensures.located in
    some_weaker c.in_ok-view.view (IsView l.shape) (IsViewFor l.config.kind)
    (λ v is. (l.shape, located.of.configured.kind, is)) c.in_ok-view.ensures.read

pub returns-clause-answer : goal.returns-clause-answer
returns-clause-answer g c =
    let old = (g.D.Disk.medium c.args.disk.now).image in
    let l = c.in-Ok.located in
    answered g.D.Disk.told old (g.D.Disk.medium c.find.new.disk).image c.args.app c.args.name.now l
    c.in_ok-located.ensures.image
    (ok_so c.in_ok-located.field-0 l (IsLocatedAs g.D.Disk.told old c.args.app c.args.name.now) c.in-Ok.is
    c.in_ok-located.ensures.located)
    c.in_ok-view.view c.in_ok-view.ensures.view c.in_ok-answer.answer c.in_ok-answer.ensures
