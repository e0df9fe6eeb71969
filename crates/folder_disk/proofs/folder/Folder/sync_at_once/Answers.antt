use Rattle.std.proofs.Common.{◌∙◌, ◌∷◌, subst, sym}
use Rattle.folder_disk.specs.Knows.{Knows}
use Rattle.folder_disk.proofs.Syncs.{knows_synced, filter_first}
use Rattle.folder_disk.proofs.folder.Folder.sync_at_once.Goals as goal

pub returns-in-Ok-clause-knows : goal.returns-in-Ok-clause-knows
returns-in-Ok-clause-knows g c =
    let told = g.S.System.told in
    let self = c.args.self.now in
    let range = c.args.range in
    let a = g.S.System.medium self.system in
    let b = g.S.System.medium c.sync_file.new.self in
    let e = c.in-Ok.ensures in
    subst (λ rs. Knows told b rs self.is_fresh self.is_grown self.is_lost)
    (filter_first range self.ranges.items ∙ sym c.forget.ensures)
    (knows_synced told a b range.file (range ∷ self.ranges.items) self.is_fresh self.is_grown self.is_lost
    c.requires.knows c.requires.lost e.named e.others e.still e.kept e.no_more)
