-- What a disk over a flash says of a write, from what the write did to the flash.
use Rattle.std.proofs.Common.{◌≡◌, ℕ, Bool, List, length, sym, refl, ap, ◌∙◌, subst, inl, inr, ⊎_elim}
use Rattle.std.specs.Prelude.{IsTrue}
use Rattle.disk_model.specs.Image.{TornImage}
use Rattle.disk_model.specs.Case.{Case, WriteCase, WriteOrNot, Follows}
use Rattle.disk_model.specs.Medium.{Medium}
use Rattle.flash_model.specs.State.{FlashCase, IsStill}
use Rattle.flash_model.specs.FlashMedium.{FlashMedium, FlashElapses, EachFlashCase}
use Rattle.flash_disk.specs.FlashFiles.{flash_files}
use Rattle.flash_disk.specs.FlashDiskMedium.{put_announced, disk_case, flash_disk_medium}
use Rattle.flash_disk.specs.Looks.{still_case}
use Rattle.flash_disk.specs.FlashDiskLaws.{told_moment, same_case}
use Rattle.flash_disk.specs.Writes.{WritesInto, with_write}
use Rattle.flash_disk.proofs.DiskCases.{put_after}
use Rattle.flash_disk.proofs.Parts.{torn_refl}

-- A write: m0 before it, m1 after calls that only look, m2 after the write.
module _ (told : Bool) (m0 m1 m2 : FlashMedium) (own own' written written' file at : ℕ) (bytes : List ℕ) where
  abbrev before : Medium
  before = flash_disk_medium told m0 own written

  abbrev after : Medium
  after = flash_disk_medium told m2 own' written'

  -- what a crash right before the write leaves
  abbrev start : Case
  start = disk_case m1.blocks (still_case m1.state)

  -- a crash after the write was announced
  write_case : (f : FlashCase) (c : Case) → c ≡ disk_case m1.blocks f → f.settled ≡ m1.state.settled
      → f.announced ≡ with_write m1.state file at bytes
      → TornImage file at (length bytes) (flash_files m1.state.pages m1.blocks) (flash_files f.left m1.blocks)
      → WriteCase file at bytes start c
  write_case f c is settled announced torn = subst (WriteCase file at bytes start) (sym is) (record {
    base = λ i. flash_files (settled i) m1.blocks;
    full = (λ i. put_announced (flash_files (settled i) m1.blocks) (announced i))
        ∙ put_after (flash_files m1.state.settled m1.blocks) m1.state.announced
        (record { file = file; at = at; bytes = bytes });
    left = torn;
  })

  module _ (state : IsTrue told → m1.state ≡ m0.state) (early : IsTrue told → FlashElapses m0 m1)
      (late : IsTrue told → FlashElapses m1 m2)
      (writes : IsTrue told → WritesInto file at bytes m1 m2) where
    start_is : IsTrue told → start ≡ disk_case m0.blocks (still_case m0.state)
    start_is t = λ i. disk_case ((early t).blocks i) (still_case (state t i))

    -- what a crash leaves at any moment of it
    pub write_during : EachFlashCase (IsStill m0.state) m0 m1
        → Follows (WriteOrNot file at bytes) before.now (after.since before.moment)
    write_during looks c past =
        let t = past.0 in
        let f = past.1.0 in
        let since : m2.since m0.moment f = subst (λ k. m2.since k f) (told_moment told m0.moment t) past.1.1 in
        let is : c ≡ disk_case m1.blocks f = past.1.2.1 ∙ ap (λ n. disk_case n f) (late t).blocks in
        let rests : IsStill m1.state f → WriteOrNot file at bytes start c =
        λ still. inr (is ∙ same_case m1.state m1.blocks m1.blocks f refl still) in (
          start,
          (t, start_is t),
          ⊎_elim
              (λ first. rests (subst (λ s. IsStill s f) (sym (state t)) (looks f first)))
              (λ then. ⊎_elim rests (λ leaves. inl (write_case f c is leaves.settled leaves.announced
              (leaves.left past.1.2.0).torn)) ((writes t).during f then))
              ((late t).nothing_else m0.moment f (early t).later since),
        )

    -- what a crash leaves after it, where it was announced
    pub write_now : (IsTrue told → m2.state.announced ≡ with_write m1.state file at bytes)
        → Follows (WriteCase file at bytes) before.now after.now
    write_now announced c now =
        let t = now.0 in
        let torn : TornImage file at (length bytes) (flash_files m1.state.pages m1.blocks)
        (flash_files m2.state.pages m1.blocks) = ⊎_elim
        (λ same. subst (λ s. TornImage file at (length bytes) (flash_files m1.state.pages m1.blocks)
        (flash_files s.pages m1.blocks)) (sym same)
        (torn_refl file at (length bytes) (flash_files m1.state.pages m1.blocks)))
        (λ w. w.2.torn)
        (writes t).now in
        let settled : m2.state.settled ≡ m1.state.settled =
        ⊎_elim (λ same. ap (λ s. s.settled) same) (λ w. w.0) (writes t).now in (
          start,
          (t, start_is t),
          write_case (still_case m2.state) c (now.1 ∙ ap (λ n. disk_case n (still_case m2.state)) (late t).blocks)
              settled (announced t) torn,
        )
