use Rattle.std.proofs.Common.{◌≡◌, ◌⊎◌, length, sym, subst, ap, inl, inr, ⊎_elim, arith}
use Rattle.disk_model.specs.Medium.{EachCase}
use Rattle.flash_model.specs.Pages.{program_page}
use Rattle.folder_disk.specs.FolderView.{disk_seen}
use Rattle.folder_flash.specs.Bytes.{PutsIntoFlash}
use Rattle.folder_flash.specs.FilePages.{file_pages, TornFile, TornPageOf}
use Rattle.folder_flash.proofs.Cutting.{on_ok_as, on_err_as}
use Rattle.folder_flash.proofs.Paging.{programs_at, program_torn_at}
use Rattle.folder_flash.proofs.flash.FolderFlashFlash.program.Goals as goal

pub returns-clause-puts : goal.returns-clause-puts
returns-clause-puts g c = λ t.
    let medium = g.S.System.medium in
    let long : length c.args.bytes.now ≡ 512 = omega (arith, c.told-bytes) in
    let old = (medium c.args.self.now.file.system).disk.image in
    let mid = (medium c.write-done.new.self.system).disk.image in
    let new = (medium c.counted.new.self.file.system).disk.image in
    let same : new ≡ mid = ap (λ v. (medium v.system).disk.image) c.counted.ensures.file in
    on_ok_as c.write-done.result c.counted.result (PutsIntoFlash c.place_of.result c.args.bytes.now (old 0) (mid 0))
    (file_pages (new 0) ≡ program_page (file_pages (old 0)) c.args.block c.args.page c.args.bytes.now)
    c.counted.ensures.same
    (λ puts. subst (λ i. file_pages (i 0) ≡ program_page (file_pages (old 0)) c.args.block c.args.page c.args.bytes.now)
    (sym same) (programs_at (old 0) (mid 0) c.args.bytes.now c.place_of.result c.args.block c.args.page
    c.place_of.ensures c.requires.page long puts))
    (c.write-done.ensures.puts t)

pub returns-clause-torn : goal.returns-clause-torn
returns-clause-torn g c = λ t.
    let medium = g.S.System.medium in
    let long : length c.args.bytes.now ≡ 512 = omega (arith, c.told-bytes) in
    let old = (medium c.args.self.now.file.system).disk.image in
    let mid = (medium c.write-done.new.self.system).disk.image in
    let new = (medium c.counted.new.self.file.system).disk.image in
    let same : new ≡ mid = ap (λ v. (medium v.system).disk.image) c.counted.ensures.file in
    on_err_as c.write-done.result c.counted.result (TornFile c.place_of.result (length c.args.bytes.now) old mid)
    (TornPageOf c.args.block c.args.page (old 0) (new 0)) c.counted.ensures.same
    (λ torn. subst (λ i. TornPageOf c.args.block c.args.page (old 0) (i 0)) (sym same)
    (program_torn_at c.place_of.result (length c.args.bytes.now) c.args.block c.args.page old mid c.place_of.ensures
    c.requires.page long torn))
    (c.write-done.ensures.torn t)

pub returns-clause-power : goal.returns-clause-power
returns-clause-power g c = λ t.
    let medium = g.S.System.medium in
    let long : length c.args.bytes.now ≡ 512 = omega (arith, c.told-bytes) in
    let old = (medium c.args.self.now.file.system).disk.image in
    let a = disk_seen medium c.args.self.now.file in
    subst
    (λ v. EachCase (λ x. a.now x ⊎ TornPageOf c.args.block c.args.page (old 0) (x.left 0)) a (disk_seen medium v))
    (sym c.counted.ensures.file)
    (λ x past. ⊎_elim inl
    (λ torn. inr (program_torn_at c.place_of.result (length c.args.bytes.now) c.args.block c.args.page old x.left
    c.place_of.ensures c.requires.page long torn))
    (c.write-done.ensures.during t x past))
