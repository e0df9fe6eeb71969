use Rattle.std.proofs.Common.{◌≡◌, ◌+◌, ◌≤◌, ◌<◌, ℕ, length, take, replicate, sym, ap, ◌∙◌, subst, arith}
use Rattle.std.proofs.lemmas.List.{length-take-le, length-replicate}
use Rattle.disk_model.specs.Medium.{Elapses}
use Rattle.disk_model.specs.Laws.{elapses_on}
use Rattle.folder_disk.specs.FolderView.{disk_seen}
use Rattle.folder_flash.specs.Bytes.{flash_byte}
use Rattle.folder_flash.proofs.Cutting.{Fills, fills_none, fills_on, fills_torn, fills_during}
use Rattle.folder_flash.proofs.Putting.{length_after, fills_in, first_are_blank}
use Rattle.folder_flash.proofs.file.FlashFile.fill_up_to.Goals as goal

pub loop-size-init : goal.loop-size-init
loop-size-init g c =
    let medium = g.S.System.medium in
    let old = (medium c.args.self.now.system).disk.image in
    let mid = c.size.new.self in
    let a = disk_seen medium c.args.self.now in
    let same = c.in_ok-blank.ensures.same in
    let image : (medium mid.system).disk.image ≡ old = c.size.ensures.reads.image in
    let here : (medium c.blank_block.new.self.system).disk.image ≡ old =
    ap (λ s. (medium s.system).disk.image) same ∙ image in
    record {
      blank = c.in_ok-blank.ensures.blank;
      size = λ t. c.in_ok-size.ensures.size t ∙ sym (ap (λ i. length (i 0)) here);
      from = λ t. omega (arith, c.in_ok-size.ensures.size t);
      same = λ t i. ap (λ image. flash_byte (image 0) i) here;
      fills = λ t. subst (λ v. Fills c.args.at a (disk_seen medium v)) (sym same)
          (fills_none c.args.at a (disk_seen medium mid) c.size.ensures.reads);
      time = subst (λ v. Elapses a (disk_seen medium v)) (sym same) c.size.ensures.time;
    }

pub put-requires-clause-some : goal.put-requires-clause-some
put-requires-clause-some g c =
    let full : length c.as_slice.result.now ≡ 32768 =
    ap length (c.as_slice.ensures.value ∙ c.loop-size.invariant.blank) ∙ length-replicate {A = ℕ} 32768 255 in
    omega (
      arith,
      c.min-count.ensures,
      c.loop-size-test.true,
      length-take-le c.min-count.result c.as_slice.result.now (omega (arith, c.min-count.ensures, full)),
    )

pub put-requires-clause-end : goal.put-requires-clause-end
put-requires-clause-end g c =
    let full : length c.as_slice.result.now ≡ 32768 =
    ap length (c.as_slice.ensures.value ∙ c.loop-size.invariant.blank) ∙ length-replicate {A = ℕ} 32768 255 in
    omega (
      arith,
      c.min-count.ensures,
      c.loop-size-test.true,
      c.ranges.at.fits,
      length-take-le c.min-count.result c.as_slice.result.now (omega (arith, c.min-count.ensures, full)),
    )

pub loop-size-preserved : goal.loop-size-preserved
loop-size-preserved g c =
    let medium = g.S.System.medium in
    let old = (medium c.loop-size.self.system).disk.image in
    let a = disk_seen medium c.args.self.now in
    let b = disk_seen medium c.loop-size.self in
    let d = disk_seen medium c.put.new.self in
    let part = take c.min-count.result c.as_slice.result.now in
    let is : c.as_slice.result.now ≡ replicate 32768 255 = c.as_slice.ensures.value ∙ c.loop-size.invariant.blank in
    let full : length c.as_slice.result.now ≡ 32768 = ap length is ∙ length-replicate {A = ℕ} 32768 255 in
    let few : c.min-count.result ≤ 32768 = omega (arith, c.min-count.ensures) in
    let taken : length part ≡ c.min-count.result =
    length-take-le c.min-count.result c.as_slice.result.now (omega (arith, few, full)) in
    let some : 0 < length part = omega (arith, c.min-count.ensures, c.loop-size-test.true, taken) in
    let high : c.loop-size.size + length part ≤ c.args.at =
    omega (arith, c.min-count.ensures, c.loop-size-test.true, taken) in
    let inv = c.loop-size.invariant in
    record {
      blank = inv.blank;
      size = λ t. omega (
        arith,
        ap (λ i. length (i 0)) (c.in_ok-put.ensures.image t),
        length_after old c.loop-size.size part some,
        inv.size t,
        taken,
      );
      from = λ t. omega (arith, inv.from t);
      same = λ t i. ap (λ image. flash_byte (image 0) i) (c.in_ok-put.ensures.image t)
          ∙ fills_in old c.loop-size.size part some (inv.size t)
          (first_are_blank c.as_slice.result.now c.min-count.result is few) i
          ∙ inv.same t i;
      fills = λ t. fills_on c.args.at c.loop-size.size part a b d (inv.from t) high (inv.fills t) inv.time
          c.put.ensures.time (c.put.ensures.during t) (c.in_ok-put.ensures.image t) c.in_ok-put.ensures.durable;
      time = elapses_on inv.time c.put.ensures.time;
    }

pub returns-in_err-put-clause-torn : goal.returns-in_err-put-clause-torn
returns-in_err-put-clause-torn g c = λ t.
    let medium = g.S.System.medium in
    let a = disk_seen medium c.args.self.now in
    let b = disk_seen medium c.loop-size.self in
    let d = disk_seen medium c.put.new.self in
    let part = take c.min-count.result c.as_slice.result.now in
    let full : length c.as_slice.result.now ≡ 32768 =
    ap length (c.as_slice.ensures.value ∙ c.loop-size.invariant.blank) ∙ length-replicate {A = ℕ} 32768 255 in
    let taken : length part ≡ c.min-count.result =
    length-take-le c.min-count.result c.as_slice.result.now (omega (arith, c.min-count.ensures, full)) in
    let high : c.loop-size.size + length part ≤ c.args.at =
    omega (arith, c.min-count.ensures, c.loop-size-test.true, taken) in
    let inv = c.loop-size.invariant in
    fills_torn c.args.at c.loop-size.size part a b d (inv.from t) high (inv.fills t) inv.time c.put.ensures.time
    (c.put.ensures.during t) (c.in_err-put.ensures.torn t)

pub returns-in_err-put-clause-during : goal.returns-in_err-put-clause-during
returns-in_err-put-clause-during g c = λ t.
    let medium = g.S.System.medium in
    let a = disk_seen medium c.args.self.now in
    let b = disk_seen medium c.loop-size.self in
    let d = disk_seen medium c.put.new.self in
    let part = take c.min-count.result c.as_slice.result.now in
    let full : length c.as_slice.result.now ≡ 32768 =
    ap length (c.as_slice.ensures.value ∙ c.loop-size.invariant.blank) ∙ length-replicate {A = ℕ} 32768 255 in
    let taken : length part ≡ c.min-count.result =
    length-take-le c.min-count.result c.as_slice.result.now (omega (arith, c.min-count.ensures, full)) in
    let high : c.loop-size.size + length part ≤ c.args.at =
    omega (arith, c.min-count.ensures, c.loop-size-test.true, taken) in
    let inv = c.loop-size.invariant in
    fills_during c.args.at c.loop-size.size part a b d (inv.from t) high (inv.fills t) inv.time c.put.ensures.time
    (c.put.ensures.during t)

pub returns-in_err-put-clause-time : goal.returns-in_err-put-clause-time
returns-in_err-put-clause-time g c = elapses_on c.loop-size.invariant.time c.put.ensures.time

pub returns-clause-quiet : goal.returns-clause-quiet
returns-clause-quiet g c = λ t. (c.loop-size.invariant.fills t).quiet

pub returns-clause-torn : goal.returns-clause-torn
returns-clause-torn g c = λ t. (c.loop-size.invariant.fills t).torn

pub returns-clause-during : goal.returns-clause-during
returns-clause-during g c = λ t. (c.loop-size.invariant.fills t).during
