use Rattle.std.proofs.Common.{◌+◌, ◌≤◌, length, drop, ⊎_elim, arith}
use Rattle.std.proofs.lemmas.Bool.{cases_lt}
use Rattle.std.proofs.lemmas.List.{length-take-le}
use Rattle.flash_disk.specs.Newest.{places}
use Rattle.flash_disk.specs.FlashFiles.{file_len}
use Rattle.flash_disk.proofs.FlashFilesLaws.{length-flash_files}
use Rattle.flash_disk.proofs.Reading.{all_read, nothing_taken}
use Rattle.flash_disk.proofs.layer.Layer.read_file.Goals as goal

pub returns-clause-bytes : goal.returns-clause-bytes
returns-clause-bytes g c told knows =
    let pages = (g.F.Flash.medium c.args.self.now.flash).state.pages in
    let blocks = (g.F.Flash.medium c.args.self.now.flash).blocks in
    let file = c.args.file in
    let at = c.args.at in
    let count = c.bytes_from-count.result in
    let long = length-flash_files pages blocks file in
    let is = c.bytes_from-count.ensures.is told knows in
    let room : count ≤ length c.args.out.now = omega arith in
    let part = length-take-le count c.args.out.now room in (
      omega (arith, is),
      ⊎_elim
          (λ past. nothing_taken count _ _ (omega (arith, is, long, past)))
          (λ within. let fits : at + count ≤ file_len pages (places blocks) file = omega (arith, is, long, within) in
          all_read pages blocks file at count c.read_pages.new.out (drop count c.args.out.now) (omega (arith, part))
          fits
          (λ k below. c.in_ok-read_pages.ensures.bytes told knows (omega (arith, fits, part)) k
          (omega (arith, below, part))))
          (cases_lt (file_len pages (places blocks) file) at),
    )
