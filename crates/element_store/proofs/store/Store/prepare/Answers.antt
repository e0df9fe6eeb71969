use Rattle.std.proofs.Common.{arith}
use Rattle.element_store.proofs.Standing.{store_stands, store_may, store_room, store_rules, store_short, store_prepared}
use Rattle.element_store.proofs.store.Store.prepare.Goals as goal

pub plan_changes-requires-clause-standing : goal.plan_changes-requires-clause-standing
plan_changes-requires-clause-standing c = store_stands c.args.self.now c.args.changes.now c.entries.result.now
    c.as_slice.result.now c.generation.result c.in_ok-used.used
    c.entries.ensures c.as_slice.ensures.value c.generation.ensures c.in_ok-used.ensures c.requires.store
    c.requires.changes

pub plan_changes-requires-clause-changes : goal.plan_changes-requires-clause-changes
plan_changes-requires-clause-changes c = store_may c.args.self.now c.args.changes.now c.entries.result.now
    c.as_slice.result.now c.generation.result c.in_ok-used.used
    c.entries.ensures c.as_slice.ensures.value c.generation.ensures c.in_ok-used.ensures c.requires.store
    c.requires.changes

pub plan_changes-requires-clause-apart : goal.plan_changes-requires-clause-apart
plan_changes-requires-clause-apart c = c.requires.changes.names_apart

pub plan_changes-requires-clause-free : goal.plan_changes-requires-clause-free
plan_changes-requires-clause-free c = store_room c.args.self.now c.args.changes.now c.entries.result.now
    c.as_slice.result.now c.generation.result c.in_ok-used.used
    c.entries.ensures c.as_slice.ensures.value c.generation.ensures c.in_ok-used.ensures c.requires.store
    c.requires.changes

pub spell-requires : goal.spell-requires
spell-requires c = store_rules c.args.self.now c.args.changes.now c.entries.result.now c.as_slice.result.now
    c.generation.result c.in_ok-used.used
    c.entries.ensures c.as_slice.ensures.value c.generation.ensures c.in_ok-used.ensures c.requires.store
    c.requires.changes
    c.plan_changes.new.used c.in_ok-entries.field-0.entries.items c.in_ok-entries.field-0.jobs.items
    c.in_ok-entries.ensures.planned

pub room-requires : goal.room-requires
room-requires c =
    let short = store_short c.args.self.now c.args.changes.now c.entries.result.now c.as_slice.result.now
    c.generation.result c.in_ok-used.used
    c.entries.ensures c.as_slice.ensures.value c.generation.ensures c.in_ok-used.ensures c.requires.store
    c.requires.changes
    c.plan_changes.new.used c.in_ok-entries.field-0.entries.items c.in_ok-entries.field-0.jobs.items
    c.in_ok-entries.ensures.planned
    c.in_ok-index.field-0.index c.in_ok-index.field-0.text c.in_ok-index.ensures.index c.in_ok-index.ensures.text
    c.in_ok-index.ensures.spells in
    let l = c.len.ensures in
    omega (arith, short, l)

pub returns-clause-plan : goal.returns-clause-plan
returns-clause-plan c = store_prepared c.args.self.now c.args.changes.now c.entries.result.now c.as_slice.result.now
    c.generation.result c.in_ok-used.used
    c.entries.ensures c.as_slice.ensures.value c.generation.ensures c.in_ok-used.ensures c.requires.store
    c.requires.changes
    c.plan_changes.new.used c.in_ok-entries.field-0.entries.items c.in_ok-entries.field-0.jobs.items
    c.in_ok-entries.ensures.planned
    c.in_ok-index.field-0.index c.in_ok-index.field-0.text c.in_ok-index.ensures.index c.in_ok-index.ensures.text
    c.in_ok-index.ensures.spells
    c.in_ok-entries.ensures.traced c.in_ok-entries.ensures.cost
