use Rattle.std.proofs.Common.{◌≡◌, ◌∙◌, length}
use Rattle.disk_model.specs.Image.{put_image, TornImage}
use Rattle.disk_model.specs.Case.{Case}
use Rattle.disk_model.specs.Medium.{Quiet}
use Rattle.folder_disk.specs.FolderView.{disk_seen}
use Rattle.folder_disk.specs.Laws.{counted_is_lawful}
use Rattle.folder_flash.proofs.Cutting.{on_err, passed, put_is_torn, cut_write, cut_sync, synced}
use Rattle.folder_flash.proofs.file.store.Goals as goal

pub returns-in_err-map_err-2-clause-torn : goal.returns-in_err-map_err-2-clause-torn
returns-in_err-map_err-2-clause-torn g c = λ t.
    let medium = g.S.System.medium in
    let at = c.args.at in
    let bytes = c.args.bytes.now in
    let old = (medium c.args.disk.now.system).disk.image in
    let mid = (medium c.write_at.new.self.system).disk.image in
    let new = (medium c.sync.new.self.system).disk.image in
    let made : mid ≡ put_image old 0 at bytes =
    passed c.write_at.result c.map_err.result c.in_ok-map_err.field-0 (mid ≡ put_image old 0 at bytes)
    c.map_err.ensures.variant c.in_ok-map_err.was (c.write_at.ensures.image t) in
    on_err c.from_residual-in_err-map_err-2.result (TornImage 0 at (length bytes) old new)
    (put_is_torn at bytes old new (c.sync.ensures.writes_nothing.image ∙ made))

pub returns-clause-during : goal.returns-clause-during
returns-clause-during g c = λ t quiet.
    let medium = g.S.System.medium in
    let at = c.args.at in
    let bytes = c.args.bytes.now in
    let v = c.write_at.new.self in
    let old = (medium c.args.disk.now.system).disk.image in
    let mid = (medium v.system).disk.image in
    let a = disk_seen medium c.args.disk.now in
    let b = disk_seen medium v in
    let d = disk_seen medium c.sync.new.self in
    let made : mid ≡ put_image old 0 at bytes =
    passed c.write_at.result c.map_err.result c.in_ok-map_err.field-0 (mid ≡ put_image old 0 at bytes)
    c.map_err.ensures.variant c.in_ok-map_err.was (c.write_at.ensures.image t) in
    let still : Quiet d =
    passed c.sync.result c.map_err-2.result c.in_ok-map_err-2.field-0 (Quiet d)
    c.map_err-2.ensures.variant c.in_ok-map_err-2.was c.sync.ensures.quiet in
    cut_sync g.S.System.told (λ (x : Case). TornImage 0 at (length bytes) old x.left) a b d
    (counted_is_lawful g.S.System.told (medium v.system).disk v.faults v.written (g.met.S.System.lawful v.system))
    c.write_at.ensures.time c.sync.ensures.time (cut_write at bytes a b quiet c.write_at.ensures.during)
    (synced at bytes old b d made still c.sync.ensures.writes_nothing)
