use Rattle.std.proofs.Common.{◌≡◌, ◌⊎◌, replicate, sym, subst, ap, inl, inr, ⊎_elim}
use Rattle.disk_model.specs.Medium.{EachCase}
use Rattle.flash_model.specs.Pages.{erase_block}
use Rattle.folder_disk.specs.FolderView.{disk_seen}
use Rattle.folder_flash.specs.Bytes.{PutsIntoFlash}
use Rattle.folder_flash.specs.FilePages.{file_pages, TornFile, TornBlockOf}
use Rattle.folder_flash.proofs.Cutting.{on_ok_as, on_err_as}
use Rattle.folder_flash.proofs.Paging.{erases_at, erase_torn_at}
use Rattle.folder_flash.proofs.flash.FolderFlashFlash.erase.Goals as goal

pub returns-clause-puts : goal.returns-clause-puts
returns-clause-puts g c = λ t.
    let medium = g.S.System.medium in
    let old = (medium c.args.self.now.file.system).disk.image in
    let mid = (medium c.write_blank-done.new.self.system).disk.image in
    let new = (medium c.counted.new.self.file.system).disk.image in
    let same : new ≡ mid = ap (λ v. (medium v.system).disk.image) c.counted.ensures.file in
    on_ok_as c.write_blank-done.result c.counted.result
    (PutsIntoFlash c.place_of.result (replicate 32768 255) (old 0) (mid 0))
    (file_pages (new 0) ≡ erase_block (file_pages (old 0)) c.args.block) c.counted.ensures.same
    (λ puts. subst (λ i. file_pages (i 0) ≡ erase_block (file_pages (old 0)) c.args.block) (sym same)
    (erases_at (old 0) (mid 0) c.place_of.result c.args.block c.place_of.ensures puts))
    (c.write_blank-done.ensures.puts t)

pub returns-clause-torn : goal.returns-clause-torn
returns-clause-torn g c = λ t.
    let medium = g.S.System.medium in
    let old = (medium c.args.self.now.file.system).disk.image in
    let mid = (medium c.write_blank-done.new.self.system).disk.image in
    let new = (medium c.counted.new.self.file.system).disk.image in
    let same : new ≡ mid = ap (λ v. (medium v.system).disk.image) c.counted.ensures.file in
    on_err_as c.write_blank-done.result c.counted.result (TornFile c.place_of.result 32768 old mid)
    (TornBlockOf c.args.block (old 0) (new 0)) c.counted.ensures.same
    (λ torn. subst (λ i. TornBlockOf c.args.block (old 0) (i 0)) (sym same)
    (erase_torn_at c.place_of.result c.args.block old mid c.place_of.ensures torn))
    (c.write_blank-done.ensures.torn t)

pub returns-clause-power : goal.returns-clause-power
returns-clause-power g c = λ t.
    let medium = g.S.System.medium in
    let old = (medium c.args.self.now.file.system).disk.image in
    let a = disk_seen medium c.args.self.now.file in
    subst (λ v. EachCase (λ x. a.now x ⊎ TornBlockOf c.args.block (old 0) (x.left 0)) a (disk_seen medium v))
    (sym c.counted.ensures.file)
    (λ x past. ⊎_elim inl
    (λ torn. inr (erase_torn_at c.place_of.result c.args.block old x.left c.place_of.ensures torn))
    (c.write_blank-done.ensures.during t x past))
