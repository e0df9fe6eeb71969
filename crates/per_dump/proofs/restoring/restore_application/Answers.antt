use Rattle.std.proofs.Common.{map, ap, ◌∙◌}
use Rattle.std.specs.Prelude.{IfOk}
use Rattle.deploy_laws.specs.Apps.{App}
use Rattle.deploy_rows.specs.Rows.{AnswersRow}
use Rattle.per_backup.specs.Backups.{restoring}
use Rattle.per_backup.specs.Clauses.{IsAppSeen}
use Rattle.per_backup.specs.Restores.{RestoreKeeps}
use Rattle.dump_text.specs.declared.dumps.DumpedStorage.{DumpedStorage}
use Rattle.per_dump.proofs.Looked.{same_call}
use Rattle.per_dump.proofs.restoring.restore_application.Goals as goal

pub returns-clause-refused : goal.returns-clause-refused
returns-clause-refused g c =
    let texts = c.as_slice-3.ensures.value ∙ c.in_ok-texts.ensures
    ∙ ap (map (λ (s : DumpedStorage). s.text)) c.as_slice.ensures.value in
    same_call (λ a m t. IfOk c.restore.result (λ refused. (it : App)
    × IsAppSeen g.D.Disk.told (g.D.Disk.medium c.args.disk.now).image a it × AnswersRow refused (restoring m t it)))
    _ _ _ _ _ _ c.number.ensures.value c.as_slice-2.ensures texts c.restore.ensures.refused

pub returns-clause-keeps : goal.returns-clause-keeps
returns-clause-keeps g c = λ tells.
    let texts = c.as_slice-3.ensures.value ∙ c.in_ok-texts.ensures
    ∙ ap (map (λ (s : DumpedStorage). s.text)) c.as_slice.ensures.value in
    same_call (λ a m t. RestoreKeeps a m t (g.D.Disk.medium c.args.disk.now) (g.D.Disk.medium c.restore.new.disk))
    _ _ _ _ _ _ c.number.ensures.value c.as_slice-2.ensures texts (c.restore.ensures.keeps tells)
