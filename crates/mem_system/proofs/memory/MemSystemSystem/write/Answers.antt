use Rattle.std.proofs.Common.{◌≡◌, ◌≤◌, length, take, refl, arith}
use Rattle.std.proofs.lemmas.Grind.{common_steps}
use Rattle.mem_system.specs.Memory.{mem_medium}
use Rattle.mem_system.proofs.Done.{Wrote, wrote, noted_on}
use Rattle.mem_system.specs.declared.record.Call.TheVariants.{Write}
use Rattle.mem_system.proofs.memory.MemSystemSystem.write.Goals as goal

done : (c : goal.After-self-1)
    → Wrote c.args.file.now.number c.args.at c.min-count.result c.args.bytes.now (mem_medium c.args.self.now)
    (mem_medium c.put.new.self)
done c =
    let (copy, copied, noted) = c.in_ok-put.ensures.ok in
    let is : copy.items ≡ take c.min-count.result c.args.bytes.now = grind (arith, common_steps, copied) in
    let within : c.min-count.result ≤ length c.args.bytes.now = omega arith in
    wrote c.args.self.now c.put.new.self c.args.file.now.number c.args.at c.min-count.result c.args.bytes.now copy
    is within (noted_on c.args.self.now c.enter.new.self c.put.new.self (Write c.args.file.now.number c.args.at copy)
    c.enter.ensures.same noted)

pub returns-clause-image : goal.returns-clause-image
returns-clause-image c = λ told. (done c).image

pub returns-clause-now : goal.returns-clause-now
returns-clause-now c = (done c).now

pub returns-clause-during : goal.returns-clause-during
returns-clause-during c = (done c).during

pub returns-clause-time : goal.returns-clause-time
returns-clause-time c = (done c).time

pub returns-clause-named : goal.returns-clause-named
returns-clause-named c = (done c).named

pub returns-clause-frees : goal.returns-clause-frees
returns-clause-frees c = λ told. (done c).frees

pub returns-clause-lost : goal.returns-clause-lost
returns-clause-lost c = (done c).lost

pub returns-clause-found : goal.returns-clause-found
returns-clause-found c = λ told. (done c).found

pub returns-clause-again : goal.returns-clause-again
returns-clause-again c = λ free shows. (done c).again (free refl) (shows refl)
