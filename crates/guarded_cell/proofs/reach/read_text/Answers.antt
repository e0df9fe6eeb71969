use Rattle.std.proofs.Common.{◌≡◌, ◌≤◌, ◌<◌, ◌++◌, ◌∙◌, ℕ, List, sym, ap, subst, length, take, drop, arith}
use Rattle.std.proofs.lemmas.List.{take_at}
use Rattle.hash_guard.specs.SealedText.{verified}
use Rattle.disk_model.specs.Image.{Image}
use Rattle.guarded_cell.specs.Slots.{ReachesTo}
use Rattle.guarded_cell.proofs.Reaching.{begun_tells, reached_tells, still, grown}
use Rattle.guarded_cell.proofs.reach.read_text.Goals as goal

pub returns-then-reach-len-clause-bytes : goal.returns-then-reach-len-clause-bytes
returns-then-reach-len-clause-bytes g c = λ tells.
    let len = c.args.room.now.len in
    let slot = (g.D.Disk.medium c.args.disk.now).image c.args.file in
    let as_long : length c.read_on.new.room ≡ len = c.read_on.ensures.len ∙ c.deref_mut.ensures.len in
    let room = take_at c.read_on.new.room (drop (length c.read_on.new.room) c.args.room.now.items) len as_long in
    let read = ap (take c.in_ok-begun.begun) room ∙ c.in_ok-begun.ensures.bytes tells
    ∙ ap (λ (n : ℕ). take n slot) c.deref_mut.ensures.len in
    begun_tells slot _ len c.reach_of-reach.result
    (omega (arith, c.requires, ap length c.deref_mut.ensures.value, c.deref_mut.ensures.len)) read
    (subst (λ (xs : List ℕ). ReachesTo c.reach_of-reach.result (take c.in_ok-begun.begun xs)) c.deref.ensures.value
    c.reach_of-reach.ensures.reach)
    (omega (arith, c.if-reach-len.true, c.len.ensures))

pub read_on-requires-2-clause-begun : goal.read_on-requires-2-clause-begun
read_on-requires-2-clause-begun g c = λ tells.
    let len = c.args.room.now.len in
    let image = (g.D.Disk.medium c.args.disk.now).image in
    let as_long : length c.read_on.new.room ≡ len = c.read_on.ensures.len ∙ c.deref_mut.ensures.len in
    let room = take_at c.read_on.new.room (drop (length c.read_on.new.room) c.args.room.now.items) len as_long in
    let read = ap (take c.in_ok-begun.begun) room ∙ c.in_ok-begun.ensures.bytes tells
    ∙ ap (λ (n : ℕ). take n (image c.args.file)) c.deref_mut.ensures.len in
    let held : List ℕ = take len (c.read_on.new.room
    ++ drop (length c.read_on.new.room) c.args.room.now.items) in
    let inside : c.in_ok-begun.begun ≤ length held = omega (arith, c.in_ok-begun.ensures.within, ap length room) in
    let beyond : length held < c.reach_of-reach.result =
    omega (arith, c.if-reach-len.false, c.len.ensures, as_long, ap length room) in
    ap (take c.in_ok-begun.begun) c.deref_mut-2.ensures.value
    ∙ still c.in_ok-begun.begun len _ c.resize.new.self.items (image c.args.file) inside read
    (grown c.in_ok-begun.begun c.reach_of-reach.result _ _ c.resize.new.self.items inside beyond
    c.in_ok-resize.ensures.items)
    ∙ sym (ap (λ (im : Image). take c.in_ok-begun.begun (im c.args.file)) c.read_on.ensures.reads.image)

pub returns-clause-bytes : goal.returns-clause-bytes
returns-clause-bytes g c = λ tells.
    let len = c.args.room.now.len in
    let image = (g.D.Disk.medium c.args.disk.now).image in
    let as_long : length c.read_on.new.room ≡ len = c.read_on.ensures.len ∙ c.deref_mut.ensures.len in
    let room = take_at c.read_on.new.room (drop (length c.read_on.new.room) c.args.room.now.items) len as_long in
    let read = ap (take c.in_ok-begun.begun) room ∙ c.in_ok-begun.ensures.bytes tells
    ∙ ap (λ (n : ℕ). take n (image c.args.file)) c.deref_mut.ensures.len in
    let longer : length c.read_on-2.new.room ≡ c.resize.new.self.len = c.read_on-2.ensures.len
    ∙ c.deref_mut-2.ensures.len in
    let filled = take_at c.read_on-2.new.room (drop (length c.read_on-2.new.room) c.resize.new.self.items)
    c.resize.new.self.len longer in
    ap (λ (xs : List ℕ). verified (take c.in_ok-count.count xs)) filled
    ∙ ap verified (c.in_ok-count.ensures.bytes tells
    ∙ ap (λ (n : ℕ). take n ((g.D.Disk.medium c.read_on.new.disk).image c.args.file))
    (c.deref_mut-2.ensures.len ∙ c.in_ok-resize.ensures.len)
    ∙ ap (λ (im : Image). take c.reach_of-reach.result (im c.args.file)) c.read_on.ensures.reads.image)
    ∙ reached_tells (image c.args.file) _ len c.reach_of-reach.result
    (omega (arith, c.requires, ap length c.deref_mut.ensures.value, c.deref_mut.ensures.len)) read
    (subst (λ (xs : List ℕ). ReachesTo c.reach_of-reach.result (take c.in_ok-begun.begun xs)) c.deref.ensures.value
    c.reach_of-reach.ensures.reach)
    (omega (arith, c.if-reach-len.false, c.len.ensures))
