use Rattle.std.proofs.Common.{◌<◌, sym, subst}
use Rattle.std.specs.Prelude.{IfSome}
use Rattle.flash_record.specs.Stated.{stated}
use Rattle.flash_disk.proofs.Entering.{entered}
use Rattle.flash_disk.proofs.layer.Layer.enter.Goals as goal

pub returns-then-put-clause-sound : goal.returns-then-put-clause-sound
returns-then-put-clause-sound g c old new blocks sound agreed enters =
    let r = stated c.args.found in
    let e = c.newest_at.ensures in
    let l = c.lengthen.ensures in
    entered old new blocks c.args.self.now.state c.args.place r sound agreed enters c.newest_at.result
    (e.place, e.sequence, e.len, e.filled enters.full)
    c.put.new.self c.lengthen.new.self (c.put.ensures.put c.if-put.true) c.put.ensures.bounds.lens
    c.put.ensures.bounds.limit
    c.lengthen.result l.lengthened l.has l.succeeds l.spare l.in_place l.records l.limit
    (λ counted below. l.counted blocks (c.put.ensures.counted blocks counted (record {
      place = below;
      twin = subst (λ t. IfSome t (λ q. q.block < blocks)) (sym e.twin) tt;
    })))
