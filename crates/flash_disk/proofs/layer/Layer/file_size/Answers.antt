use Rattle.std.proofs.Common.{sym, ◌∙◌}
use Rattle.flash_disk.specs.Newest.{places}
use Rattle.flash_disk.proofs.FlashFilesLaws.{length-flash_files}
use Rattle.flash_disk.proofs.Reading.{len_is}
use Rattle.flash_disk.proofs.layer.Layer.file_size.Goals as goal

pub returns : goal.returns
returns g c told knows =
    let pages = (g.F.Flash.medium c.args.self.now.flash).state.pages in
    let blocks = (g.F.Flash.medium c.args.self.now.flash).blocks in
    c.len_of.ensures ∙ (len_is pages (places blocks) c.args.self.now.state.table knows c.args.file
    ∙ sym (length-flash_files pages blocks c.args.file))
