use Rattle.std.proofs.Common.{◌∙◌, ◌↔◌, ◌+◌, ℕ, ap, subst, sym, take}
use Rattle.system_model.specs.SystemMedium.{Looks, ShowsBytes}
use Rattle.folder_disk.specs.declared.range.Range.{Range}
use Rattle.folder_disk.specs.Knows.{Covered}
use Rattle.folder_disk.specs.Held.{IsHeldByte, ShowsAll}
use Rattle.folder_disk.proofs.Looking.{looks_on}
use Rattle.folder_disk.proofs.Syncs.{held_skip, held_more, shows_app}
use Rattle.folder_disk.proofs.syncing.held_of.Goals as goal
use Rattle.folder_disk.proofs.syncing.held_of.Goals.{then-range-file+in_ok-part+in-Ok, else-range-file}

pub loop-range-preserved : goal.loop-range-preserved
loop-range-preserved g c =
    let medium = g.S.System.medium in
    let old = medium c.args.system.now in
    let inv = c.loop-range.invariant in
    let rs = c.args.ranges.now in
    let k = c.loop-range.range-index in
    let file = c.args.file in
    let d : Range = record { file = 0; at = 0; len = 0 } in
    record {
      looks = elim c.if-range-file.branch [
        | then-range-file+in_ok-part+in-Ok w ↦ subst (λ s. Looks old (medium s)) (sym w.system-is)
            (looks_on old (medium c.loop-range.system) (medium w.held_in.new.system) inv.looks
            w.in_ok-part.ensures.looks)
        | else-range-file w ↦ subst (λ s. Looks old (medium s)) (sym w.system-is) inv.looks
      ];
      shows = λ t. elim c.if-range-file.branch [
        | then-range-file+in_ok-part+in-Ok w ↦
            let part = w.in_ok-part.part in
            let here = subst (λ image. ShowsBytes (image file) part.at part.bytes.items) inv.looks.reads.image
            (subst (λ f. ShowsBytes ((medium c.loop-range.system).disk.image f) part.at part.bytes.items)
            w.if-range-file.true
            (w.in_ok-part.ensures.shows t)) in
            subst (λ hs. ShowsAll (old.disk.image file) hs)
            (sym (ap (λ v. v.items) w.held-is ∙ w.in-Ok.ensures.items))
            (shows_app (old.disk.image file) c.loop-range.held.items part (inv.shows t) here)
        | else-range-file w ↦ subst (λ v. ShowsAll (old.disk.image file) v.items) (sym w.held-is) (inv.shows t)
      ];
      held = elim c.if-range-file.branch [
        | then-range-file+in_ok-part+in-Ok w ↦
            subst (λ hs. (i : ℕ) → IsHeldByte hs i ↔ Covered (take (k + 1) rs) file i)
            (sym (ap (λ v. v.items) w.held-is ∙ w.in-Ok.ensures.items))
            (held_more rs c.loop-range.held.items k d file w.in_ok-part.part c.loop-range-test.true w.if-range-file.true
            w.in_ok-part.ensures.place.0 w.in_ok-part.ensures.place.1 inv.held)
        | else-range-file w ↦
            subst (λ v. (i : ℕ) → IsHeldByte v.items i ↔ Covered (take (k + 1) rs) file i) (sym w.held-is)
            (held_skip rs c.loop-range.held.items k d file c.loop-range-test.true w.if-range-file.false inv.held)
      ];
    }
