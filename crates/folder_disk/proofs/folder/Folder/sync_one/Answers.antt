use Rattle.std.proofs.Common.{◌∙◌, subst, sym}
use Rattle.folder_disk.specs.Knows.{Knows}
use Rattle.folder_disk.proofs.Syncs.{knows_synced}
use Rattle.folder_disk.proofs.folder.Folder.sync_one.Goals as goal

pub returns-in-Ok-clause-knows : goal.returns-in-Ok-clause-knows
returns-in-Ok-clause-knows g c =
    let told = g.S.System.told in
    let self = c.hold.new.self in
    let a = g.S.System.medium self.system in
    let b = g.S.System.medium c.sync_file.new.self in
    let h = c.in_ok-held.ensures in
    let e = c.in-Ok.ensures in
    subst (λ rs. Knows told b rs self.is_fresh self.is_grown self.is_lost) (sym c.forget.ensures)
    (knows_synced told a b c.args.file self.ranges.items self.is_fresh self.is_grown self.is_lost h.knows
    (h.lost ∙ c.requires.lost) e.named e.others e.still e.kept e.no_more)
