use Rattle.std.proofs.Common.{◌≡◌, ◌+◌, ◌-◌, take, subst, arith, length, drop}
use Rattle.std.proofs.lemmas.List.{length-drop}
use Rattle.disk_model.specs.Laws.{reads_none}
use Rattle.folder_disk.specs.Writes.{WritesBytes}
use Rattle.folder_disk.proofs.Stretch.{writes_none, writes_more, writes_then, again_more, rest_is}
use Rattle.folder_disk.proofs.writing.write_all.Goals as goal

pub loop-done-init : goal.loop-done-init
loop-done-init g c =
    let m = g.S.System.medium c.args.system.now in
    let law = g.met.S.System.lawful c.args.system.now in
    record {
      count = omega arith;
      writes = writes_none g.S.System.told c.args.file c.args.at c.args.bytes.now m law;
      again = λ free shows. reads_none law;
    }

pub loop-done-preserved-in-Ok : goal.loop-done-preserved-in-Ok
loop-done-preserved-in-Ok g c =
    let told = g.S.System.told in
    let old = g.S.System.medium c.args.system.now in
    let mid = g.S.System.medium c.loop-done.system in
    let new = g.S.System.medium c.write.new.self in
    let bytes = c.args.bytes.now in
    let n = c.loop-done.done in
    let k = c.in-Ok.more in
    let e = c.in-Ok.ensures in
    let inv = c.loop-done.invariant in
    record {
      count = omega (arith, e.count, length-drop n bytes, inv.count);
      writes = writes_more told c.args.file c.args.at bytes old mid new n inv.count inv.writes
          (take (length c.args.bytes.now - c.loop-done.done) (drop c.loop-done.done c.args.bytes.now)) (rest_is
          c.loop-done.done c.args.bytes.now) k
          (omega (arith, e.count, length-drop n bytes, inv.count)) e.image e.now e.during e.time e.named e.frees e.lost
          e.found;
      again = again_more told c.args.file c.args.at bytes old mid new n (take (length c.args.bytes.now -
          c.loop-done.done) (drop c.loop-done.done c.args.bytes.now)) (rest_is c.loop-done.done c.args.bytes.now)
          inv.count inv.writes inv.again e.time e.again;
    }

pub returns-in-Ok-eq0-clause-writes : goal.returns-in-Ok-eq0-clause-writes
returns-in-Ok-eq0-clause-writes g c =
    let told = g.S.System.told in
    let old = g.S.System.medium c.args.system.now in
    let mid = g.S.System.medium c.loop-done.system in
    let new = g.S.System.medium c.write.new.self in
    let bytes = c.args.bytes.now in
    let n = c.loop-done.done in
    let e = c.in-Ok-eq0.ensures in
    let inv = c.loop-done.invariant in
    let k = c.in-Ok-eq0.field-0 in
    let z : n + k ≡ n = omega (arith, c.in-Ok-eq0.field-0-is) in
    subst (λ x. WritesBytes told c.args.file c.args.at bytes x old new) z
    (writes_more told c.args.file c.args.at bytes old mid new n inv.count inv.writes
    (take (length c.args.bytes.now - c.loop-done.done) (drop c.loop-done.done c.args.bytes.now)) (rest_is
    c.loop-done.done c.args.bytes.now) k
    (omega (arith, inv.count, z)) e.image e.now e.during e.time e.named e.frees e.lost e.found)

pub returns-in-Ok-eq0-clause-again : goal.returns-in-Ok-eq0-clause-again
returns-in-Ok-eq0-clause-again g c =
    let inv = c.loop-done.invariant in
    again_more g.S.System.told c.args.file c.args.at c.args.bytes.now (g.S.System.medium c.args.system.now)
    (g.S.System.medium c.loop-done.system) (g.S.System.medium c.write.new.self) c.loop-done.done
    (take (length c.args.bytes.now - c.loop-done.done) (drop c.loop-done.done c.args.bytes.now)) (rest_is
    c.loop-done.done c.args.bytes.now) inv.count inv.writes
    inv.again c.in-Ok-eq0.ensures.time c.in-Ok-eq0.ensures.again

pub returns-in-Err-2-clause-again : goal.returns-in-Err-2-clause-again
returns-in-Err-2-clause-again g c =
    let inv = c.loop-done.invariant in
    again_more g.S.System.told c.args.file c.args.at c.args.bytes.now (g.S.System.medium c.args.system.now)
    (g.S.System.medium c.loop-done.system) (g.S.System.medium c.write.new.self) c.loop-done.done
    (take (length c.args.bytes.now - c.loop-done.done) (drop c.loop-done.done c.args.bytes.now)) (rest_is
    c.loop-done.done c.args.bytes.now) inv.count inv.writes
    inv.again c.in-Err-2.ensures.time c.in-Err-2.ensures.again

pub returns-in-Err-2-clause-writes : goal.returns-in-Err-2-clause-writes
returns-in-Err-2-clause-writes g c =
    let inv = c.loop-done.invariant in
    writes_then g.S.System.told c.args.file c.args.at c.args.bytes.now (g.S.System.medium c.args.system.now)
    (g.S.System.medium c.loop-done.system) (g.S.System.medium c.write.new.self) c.loop-done.done inv.count inv.writes
    c.in-Err-2.ensures.failed

-- the system was interrupted
pub loop-done-preserved : goal.loop-done-preserved
loop-done-preserved g c =
    let inv = c.loop-done.invariant in
    let n = c.loop-done.done in
    let old = g.S.System.medium c.args.system.now in
    let mid = g.S.System.medium c.loop-done.system in
    let new = g.S.System.medium c.write.new.self in
    record {
      count = inv.count;
      writes = writes_then g.S.System.told c.args.file c.args.at c.args.bytes.now old mid new n inv.count inv.writes
          c.in-Err.ensures.failed;
      again = again_more g.S.System.told c.args.file c.args.at c.args.bytes.now old mid new n
          (take (length c.args.bytes.now - n) (drop n c.args.bytes.now)) (rest_is n c.args.bytes.now) inv.count
          inv.writes
          inv.again c.in-Err.ensures.time c.in-Err.ensures.again;
    }
