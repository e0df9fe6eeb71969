use Rattle.std.proofs.Common.{◌≡◌, ◌-◌, ◌∙◌, length, take, drop, min, subst, ap, arith}
use Rattle.folder_disk.specs.FolderView.{FolderView}
use Rattle.folder_flash.specs.Bytes.{AreFlashBytes}
use Rattle.folder_flash.proofs.Cutting.{passed_if}
use Rattle.folder_flash.proofs.Putting.{reads}
use Rattle.folder_flash.proofs.file.FlashFile.read.Goals as goal

pub returns-clause-bytes : goal.returns-clause-bytes
returns-clause-bytes g c = λ t.
    let old = (g.S.System.medium c.args.self.now.system).disk.image in
    let mid = (g.S.System.medium c.self.inside.disk.system).disk.image in
    let at = c.args.at in
    let room = length c.args.out.now in
    let got = c.read.new.out in
    let out = c.make_blank-2.new.out in
    let n = c.in_ok-count.count in
    let said : (n ≡ min room (length (mid 0) - at)) × (take n got ≡ take n (drop at (mid 0))) =
    passed_if c.read.result c.map_err.result n
    (λ n. (n ≡ min room (length (mid 0) - at)) × (take n got ≡ take n (drop at (mid 0))))
    _ c.map_err.ensures.cases c.map_err.ensures.variant c.in_ok-count.was (c.read.ensures.bytes t) in
    let long : length out ≡ room =
    omega (arith, c.make_blank-2.ensures.len, c.make_blank-2.array_long, c.told-out) in
    let same : mid ≡ old =
    ap (λ (v : FolderView _). (g.S.System.medium v.system).disk.image) c.self.view_is ∙ c.size.ensures.image t in
    subst (λ i. AreFlashBytes (i 0) at out) same
    (reads (mid 0) out got at n room said.0 said.1 long c.make_blank-2.ensures.kept c.make_blank-2.ensures.blank)
