use Rattle.std.proofs.Common.{sym, subst, length}
use Rattle.folder_disk.specs.FolderView.{disk_seen}
use Rattle.folder_flash.specs.Bytes.{PutsIntoFlash}
use Rattle.folder_flash.specs.FilePages.{TornFile}
use Rattle.folder_flash.proofs.Cutting.{filled_alone, filled_then_put, fills_then, on_err}
use Rattle.folder_flash.proofs.Putting.{fills_then_puts, puts_in}
use Rattle.folder_flash.proofs.file.FlashFile.write_on.Goals as goal

pub returns-in_err-fill_up_to-clause-torn : goal.returns-in_err-fill_up_to-clause-torn
returns-in_err-fill_up_to-clause-torn g c = λ t.
    let medium = g.S.System.medium in
    let old = (medium c.args.self.now.system).disk.image in
    let mid = (medium c.fill_up_to.new.self.system).disk.image in
    let n = length c.args.bytes.now in
    on_err c.from_residual.result (TornFile c.args.at n old mid)
    (filled_alone c.args.at n old mid (c.fill_up_to.ensures.torn t))

pub returns-in_err-fill_up_to-clause-during : goal.returns-in_err-fill_up_to-clause-during
returns-in_err-fill_up_to-clause-during g c = λ t quiet x past.
    let old = (g.S.System.medium c.args.self.now.system).disk.image in
    filled_alone c.args.at (length c.args.bytes.now) old x.left (c.fill_up_to.ensures.during t quiet x past)

pub returns-in_err-put-clause-torn : goal.returns-in_err-put-clause-torn
returns-in_err-put-clause-torn g c = λ t.
    let medium = g.S.System.medium in
    let old = (medium c.args.self.now.system).disk.image in
    let mid = (medium c.fill_up_to.new.self.system).disk.image in
    let new = (medium c.put.new.self.system).disk.image in
    let n = length c.args.bytes.now in
    on_err c.from_residual-in_err-put.result (TornFile c.args.at n old new)
    (filled_then_put c.args.at n old mid new (c.fill_up_to.ensures.torn t) (c.in_err-put.ensures.torn t))

pub returns-in_err-put-clause-during : goal.returns-in_err-put-clause-during
returns-in_err-put-clause-during g c = λ t quiet.
    let medium = g.S.System.medium in
    fills_then c.args.at (length c.args.bytes.now) (disk_seen medium c.args.self.now)
    (disk_seen medium c.fill_up_to.new.self) (disk_seen medium c.put.new.self) (c.fill_up_to.ensures.torn t)
    (c.fill_up_to.ensures.during t quiet) c.fill_up_to.ensures.time c.put.ensures.time
    (c.put.ensures.during t (c.in_ok-fill_up_to.ensures.quiet t quiet))

pub returns-clause-puts : goal.returns-clause-puts
returns-clause-puts g c = λ t.
    let at = c.args.at in
    let bytes = c.args.bytes.now in
    let old = (g.S.System.medium c.args.self.now.system).disk.image in
    let mid = (g.S.System.medium c.fill_up_to.new.self.system).disk.image in
    let new = (g.S.System.medium c.put.new.self.system).disk.image in
    fills_then_puts at bytes (old 0) (mid 0) (new 0) (c.in_ok-fill_up_to.ensures.same t)
    (subst (λ image. PutsIntoFlash at bytes (mid 0) (image 0)) (sym (c.in_ok-put.ensures.image t))
    (puts_in mid at bytes c.requires.some (c.in_ok-fill_up_to.ensures.long t)))

pub returns-clause-during : goal.returns-clause-during
returns-clause-during g c = λ t quiet.
    let medium = g.S.System.medium in
    fills_then c.args.at (length c.args.bytes.now) (disk_seen medium c.args.self.now)
    (disk_seen medium c.fill_up_to.new.self) (disk_seen medium c.put.new.self) (c.fill_up_to.ensures.torn t)
    (c.fill_up_to.ensures.during t quiet) c.fill_up_to.ensures.time c.put.ensures.time
    (c.put.ensures.during t (c.in_ok-fill_up_to.ensures.quiet t quiet))
