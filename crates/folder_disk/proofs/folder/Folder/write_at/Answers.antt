use Rattle.std.proofs.Common.{◌≡◌, ◌∙◌, sym, subst, ap, length, take}
use Rattle.disk_model.specs.Image.{put_image, TornImage}
use Rattle.folder_disk.proofs.Noting.{part_torn}
use Rattle.folder_disk.proofs.folder.Folder.write_at.Goals as goal

pub returns-then-progress-bytes-clause-torn : goal.returns-then-progress-bytes-clause-torn
returns-then-progress-bytes-clause-torn g c = λ t.
    let old = (g.S.System.medium c.args.self.now.system).disk.image in
    let file = c.args.file in
    let bytes = c.args.bytes.now in
    let n = c.in-Ok.progress.done in
    let part = take n bytes in
    let made : (g.S.System.medium c.put.new.self.system).disk.image ≡ put_image old file c.args.at part =
    c.in-Ok.ensures.puts.image t ∙ ap (λ i. put_image i file c.args.at part)
    c.in_ok-prepare.ensures.reads.image in
    let same : (g.S.System.medium c.failed-then-progress-bytes.new.self.system).disk.image
    ≡ (g.S.System.medium c.put.new.self.system).disk.image =
    ap (λ s. (g.S.System.medium s).disk.image) c.failed-then-progress-bytes.ensures.system in
    subst (λ i. TornImage file c.args.at (length bytes) old i) (sym (same ∙ made))
    (part_torn old file c.args.at bytes n c.in-Ok.ensures.count)

pub returns-then-self-2-clause-torn : goal.returns-then-self-2-clause-torn
returns-then-self-2-clause-torn g c = λ t.
    let old = (g.S.System.medium c.args.self.now.system).disk.image in
    let file = c.args.file in
    let bytes = c.args.bytes.now in
    let n = c.in-Ok.progress.done in
    let part = take n bytes in
    let made : (g.S.System.medium c.put.new.self.system).disk.image ≡ put_image old file c.args.at part =
    c.in-Ok.ensures.puts.image t ∙ ap (λ i. put_image i file c.args.at part)
    c.in_ok-prepare.ensures.reads.image in
    let same : (g.S.System.medium c.fault-then-self-2.new.self.system).disk.image
    ≡ (g.S.System.medium c.put.new.self.system).disk.image =
    ap (λ s. (g.S.System.medium s).disk.image) c.fault-then-self-2.ensures.system in
    subst (λ i. TornImage file c.args.at (length bytes) old i) (sym (same ∙ made))
    (part_torn old file c.args.at bytes n c.in-Ok.ensures.count)
