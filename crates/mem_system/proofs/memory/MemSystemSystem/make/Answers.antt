use Rattle.std.proofs.Common.{◌∙◌, ap, sym}
use Rattle.disk_model.specs.Image.{Image}
use Rattle.mem_system.specs.Memory.{mem_medium}
use Rattle.mem_system.specs.declared.record.Call.TheVariants.{Make}
use Rattle.mem_system.proofs.Done.{Made, made, noted_on, same_image_of, is_absent}
use Rattle.mem_system.proofs.memory.MemSystemSystem.make.Goals as goal

done : (c : goal.In_ok-add) → Made (mem_medium c.args.self.now) (mem_medium c.add.new.self)
done c = made c.args.self.now c.add.new.self c.args.file
    (ap (λ (i : Image). i c.args.file) (sym (same_image_of c.args.self.now c.enter.new.self c.enter.ensures.same))
    ∙ (is_absent c.enter.new.self c.args.file (c.has.ensures c.if-has.false)).empty)
    (noted_on c.args.self.now c.enter.new.self c.add.new.self (Make c.args.file) c.enter.ensures.same
    c.in_ok-add.ensures.ok)

pub returns-clause-reads : goal.returns-clause-reads
returns-clause-reads c = (done c).reads

pub returns-clause-time : goal.returns-clause-time
returns-clause-time c = (done c).time

pub returns-clause-free : goal.returns-clause-free
returns-clause-free c = (done c).free

pub returns-clause-lost : goal.returns-clause-lost
returns-clause-lost c = (done c).lost
