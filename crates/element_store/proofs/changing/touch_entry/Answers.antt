use Rattle.std.proofs.Common.{Some, Ok, Err, refl, ap, set, ◌∙◌}
use Rattle.index_text.specs.declared.entries.IndexEntry.{IndexEntry}
use Rattle.element_store.specs.Changing.{named_by}
use Rattle.element_store.proofs.InOrder.{place_moved, touch_none, touch_here, parted_apart}
use Rattle.element_store.proofs.changing.touch_entry.Goals as goal

pub returns-in-Ok-clause-items : goal.returns-in-Ok-clause-items
returns-in-Ok-clause-items c =
    let here = place_moved named_by c.args.entries.now.items _ _ _ (Ok c.in-Ok.at) c.deref.ensures.value refl
    c.in-Ok.ensures in
    ap (λ (e : IndexEntry). set c.args.entries.now.items c.in-Ok.at
    (record e { info = Some c.args.info; changed = c.args.generation })) c.index_mut-entry.ensures.value
    ∙ touch_here named_by (λ (e : IndexEntry). record e { info = Some c.args.info; changed = c.args.generation })
    c.args.name.now c.args.entries.now.items
    c.in-Ok.at c.index_mut-entry.result.now c.requires here.0 here.1

pub returns-in_default-clause-items : goal.returns-in_default-clause-items
returns-in_default-clause-items c =
    let there = place_moved named_by c.args.entries.now.items _ _ _ (Err c.in_default.field-0) c.deref.ensures.value
    refl c.in_default.ensures in
    touch_none named_by (λ (e : IndexEntry). record e { info = Some c.args.info; changed = c.args.generation })
    c.args.name.now c.args.entries.now.items
    (parted_apart named_by c.args.name.now c.args.entries.now.items c.in_default.field-0 there.1)
