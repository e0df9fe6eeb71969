use Rattle.std.proofs.Common.{◌≡◌, length, arith}
use Rattle.folder_flash.specs.Bytes.{AreFlashBytes}
use Rattle.folder_flash.specs.FilePages.{file_pages}
use Rattle.folder_flash.proofs.Cutting.{on_ok_as}
use Rattle.folder_flash.proofs.Paging.{reads_at}
use Rattle.folder_flash.proofs.flash.FolderFlashFlash.read.Goals as goal

pub returns-clause-page : goal.returns-clause-page
returns-clause-page g c = λ t.
    let file = (g.S.System.medium c.args.self.now.file.system).disk.image 0 in
    let out = c.read-done.new.out in
    let long : length out ≡ 512 = omega (arith, c.read-done.array_long, c.told-out) in
    on_ok_as c.read-done.result c.counted.result (AreFlashBytes file c.place_of.result out)
    (out ≡ file_pages file c.args.block c.args.page) c.counted.ensures.same
    (reads_at file out c.place_of.result c.args.block c.args.page c.place_of.ensures c.requires.page long)
    (c.read-done.ensures.bytes t)
