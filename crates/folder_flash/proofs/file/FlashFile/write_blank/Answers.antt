use Rattle.std.proofs.Common.{◌≡◌, ◌⊎◌, ℕ, length, replicate, ap, subst, ◌∙◌}
use Rattle.std.proofs.lemmas.List.{length-replicate}
use Rattle.disk_model.specs.Medium.{EachCase}
use Rattle.folder_disk.specs.FolderView.{disk_seen}
use Rattle.folder_flash.specs.Bytes.{PutsIntoFlash}
use Rattle.folder_flash.specs.FilePages.{TornFile}
use Rattle.folder_flash.proofs.Cutting.{on_err}
use Rattle.folder_flash.proofs.file.FlashFile.write_blank.Goals as goal

pub returns-clause-puts : goal.returns-clause-puts
returns-clause-puts g c = λ t.
    let at = c.args.at in
    let medium = g.S.System.medium in
    let new = (medium c.write.new.self.system).disk.image in
    subst (λ s. PutsIntoFlash at (replicate 32768 255) ((medium s.system).disk.image 0) (new 0))
    c.in_ok-blank.ensures.same
    (subst (λ bytes. PutsIntoFlash at bytes ((medium c.blank_block.new.self.system).disk.image 0) (new 0))
    (c.as_slice.ensures.value ∙ c.in_ok-blank.ensures.blank) (c.in_ok-write.ensures.puts t))

pub returns-in_err-write-clause-torn : goal.returns-in_err-write-clause-torn
returns-in_err-write-clause-torn g c = λ t.
    let at = c.args.at in
    let medium = g.S.System.medium in
    let old = (medium c.args.self.now.system).disk.image in
    let new = (medium c.write.new.self.system).disk.image in
    let long : length c.as_slice.result.now ≡ 32768 =
    ap length (c.as_slice.ensures.value ∙ c.in_ok-blank.ensures.blank) ∙ length-replicate {A = ℕ} 32768 255 in
    on_err c.from_residual-in_err-write.result (TornFile at 32768 old new)
    (subst (λ s. TornFile at 32768 (medium s.system).disk.image new) c.in_ok-blank.ensures.same
    (subst (λ n. TornFile at n (medium c.blank_block.new.self.system).disk.image new) long
    (c.in_err-write.ensures.torn t)))

pub returns-in_err-write-clause-during : goal.returns-in_err-write-clause-during
returns-in_err-write-clause-during g c = λ t.
    let at = c.args.at in
    let medium = g.S.System.medium in
    let long : length c.as_slice.result.now ≡ 32768 =
    ap length (c.as_slice.ensures.value ∙ c.in_ok-blank.ensures.blank) ∙ length-replicate {A = ℕ} 32768 255 in
    let mid = c.blank_block.new.self in
    subst (λ s. EachCase
    (λ x. (disk_seen medium s).now x ⊎ TornFile at 32768 (medium s.system).disk.image x.left)
    (disk_seen medium s) (disk_seen medium c.write.new.self)) c.in_ok-blank.ensures.same
    (subst (λ n. EachCase (λ x. (disk_seen medium mid).now x ⊎ TornFile at n (medium mid.system).disk.image x.left)
    (disk_seen medium mid) (disk_seen medium c.write.new.self)) long (c.write.ensures.during t))

pub returns-clause-during : goal.returns-clause-during
returns-clause-during g c = λ t.
    let at = c.args.at in
    let medium = g.S.System.medium in
    let long : length c.as_slice.result.now ≡ 32768 =
    ap length (c.as_slice.ensures.value ∙ c.in_ok-blank.ensures.blank) ∙ length-replicate {A = ℕ} 32768 255 in
    let mid = c.blank_block.new.self in
    subst (λ s. EachCase
    (λ x. (disk_seen medium s).now x ⊎ TornFile at 32768 (medium s.system).disk.image x.left)
    (disk_seen medium s) (disk_seen medium c.write.new.self)) c.in_ok-blank.ensures.same
    (subst (λ n. EachCase (λ x. (disk_seen medium mid).now x ⊎ TornFile at n (medium mid.system).disk.image x.left)
    (disk_seen medium mid) (disk_seen medium c.write.new.self)) long (c.write.ensures.during t))
