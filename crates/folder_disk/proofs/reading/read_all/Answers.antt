use Rattle.std.proofs.Common.{◌≡◌, ◌+◌, ◌-◌, ◌≤◌, ◌∙◌, length, take, drop, refl, arith, subst}
use borrow.Rule.Slice.PartMut.{put_mid, post_of}
use Rattle.std.proofs.lemmas.List.{length-drop, length-take-le}
use Rattle.folder_disk.proofs.Looking.{looks_on, read_more, put_long}
use Rattle.folder_disk.proofs.reading.read_all.Goals as goal

pub loop-count-preserved : goal.loop-count-preserved
loop-count-preserved g c =
    let old = g.S.System.medium c.args.system.now in
    let mid = g.S.System.medium c.loop-count.system in
    let new = g.S.System.medium c.read_some.new.system in
    let out = c.loop-count.out in
    let n = c.loop-count.count in
    let k = c.in-Ok.more in
    let file = c.args.file in
    let at = c.args.at in
    let inv = c.loop-count.invariant in
    let e = c.in-Ok.ensures in
    let rest = c.read_some.new.out in
    let len : length rest ≡ length out - n =
    omega (
      arith,
      c.read_some.auto.out,
      length-take-le (length out - n) (drop n out) (omega (
        arith,
        length-drop n
            out,
      )),
    ) in
    let long : length (put_mid n (length out - n) out rest) ≡ length out =
    put_long n (length out - n) out rest len (omega (arith, inv.room)) in
    record {
      room = omega (
        arith,
        e.count,
        long,
        len,
        length-drop n out,
        inv.room,
        length-take-le (length out - n) (drop n out) (omega (arith, length-drop n out)),
      );
      len = long ∙ inv.len;
      looks = looks_on old mid new inv.looks e.looks;
      read = λ t whole.
          let same = inv.looks.reads.image in
          let got = e.bytes t (λ i h. whole i (inv.looks.lost c.args.file i h)) in
          let within = subst (λ i. k ≤ length (i file) - (at + n)) same got.within in
          let bytes = subst (λ i. take k rest ≡ take k (drop (at + n) (i file))) same got.bytes in
          read_more (old.disk.image file) at n k out rest (post_of n (length out - n) out)
          (put_mid n (length out - n) out rest) (inv.read t whole) len
          (omega (arith, e.count, len, length-take-le (length out - n) (drop n out) (omega (arith, length-drop n out))))
          within bytes refl long;
    }
