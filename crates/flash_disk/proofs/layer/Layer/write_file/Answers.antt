use Rattle.std.proofs.Common.{length, sym, inl, inr, ◌∙◌, ⊎_elim, arith, true≢false}
use Rattle.flash_disk.proofs.Failing.{wants_too_many, not_begun}
use Rattle.flash_disk.specs.Apart.{copy_of}
use Rattle.flash_disk.proofs.Holding.{fault_apart}
use Rattle.flash_disk.proofs.Writing.{fault_written}
use Rattle.flash_disk.proofs.layer.Layer.write_file.Goals as goal

pub returns-then-not-has_room-clause-own : goal.returns-then-not-has_room-clause-own
returns-then-not-has_room-clause-own g c told =
    let s = c.args.self.now.state in
    inr (inr (inl (wants_too_many (g.F.Flash.medium c.args.self.now.flash) s c.args.file c.args.at
    (length c.args.bytes.now) c.in-Some.end (c.requires.ready.sound told)
    c.in-Some.ensures.1
    (λ fits. true≢false (sym (c.has_room.ensures.1 fits) ∙ c.if-not-has_room.true)))))

pub returns-clause-refused : goal.returns-clause-refused
returns-clause-refused g c told why =
    absurd (not_begun (g.F.Flash.medium c.args.self.now.flash) c.args.self.now.state c.args.file c.args.at
    (length c.args.bytes.now) c.in-Some.end (c.requires.ready.sound told)
    c.in-Some.ensures.1 (omega arith) (c.has_room.ensures.0 c.if-not-has_room.false) why)

pub returns-clause-own : goal.returns-clause-own
returns-clause-own g c told = ⊎_elim inl (λ stops. inr (inr (inr stops))) (c.write_within.ensures.own told)

pub returns-in_default-clause-apart : goal.returns-in_default-clause-apart
returns-in_default-clause-apart g c told =
    fault_apart (copy_of c.args.file) g.F.Flash.told g.F.Flash.medium c.args.self.now.flash c.fault.new.self.flash
    c.fault.ensures.flash (g.met.F.Flash.lawful c.args.self.now.flash)

pub returns-then-not-has_room-clause-apart : goal.returns-then-not-has_room-clause-apart
returns-then-not-has_room-clause-apart g c told =
    fault_apart (copy_of c.args.file) g.F.Flash.told g.F.Flash.medium c.args.self.now.flash
    c.fault-then-not-has_room.new.self.flash c.fault-then-not-has_room.ensures.flash
    (g.met.F.Flash.lawful c.args.self.now.flash)

pub returns-in_default-clause-writes : goal.returns-in_default-clause-writes
returns-in_default-clause-writes g c told =
    fault_written g.F.Flash.told g.F.Flash.medium c.args.self.now.flash c.fault.new.self.flash c.fault.ensures.flash
    (g.met.F.Flash.lawful c.args.self.now.flash) c.args.file c.args.at c.args.bytes.now

pub returns-then-not-has_room-clause-writes : goal.returns-then-not-has_room-clause-writes
returns-then-not-has_room-clause-writes g c told =
    fault_written g.F.Flash.told g.F.Flash.medium c.args.self.now.flash c.fault-then-not-has_room.new.self.flash
    c.fault-then-not-has_room.ensures.flash (g.met.F.Flash.lawful c.args.self.now.flash)
    c.args.file c.args.at c.args.bytes.now
