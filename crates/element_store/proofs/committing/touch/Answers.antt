use Rattle.std.proofs.Common.{ℕ, List, Some, [], Ok, Err, refl, ap, set, ◌∙◌}
use Rattle.per_base.specs.declared.elements.Entry.{Entry}
use Rattle.element_state.specs.Changes.{entry_name}
use Rattle.element_store.proofs.InOrder.{place_moved, touch_none, touch_here, parted_apart, ascends_touched, ascends_as}
use Rattle.element_store.proofs.committing.touch.Goals as goal

pub returns-in-Ok-clause-items : goal.returns-in-Ok-clause-items
returns-in-Ok-clause-items c =
    let here = place_moved entry_name c.args.entries.now.items _ _ _ (Ok c.in-Ok.at) c.deref.ensures.value refl
    c.in-Ok.ensures in
    let touch_it : List ℕ → Entry → Entry = λ ns e. record e {
      info = Some c.args.info;
      changed =
          c.args.generation;
      lacking = ns;
    } in
    ap (λ (ns : List ℕ). set c.args.entries.now.items c.in-Ok.at (touch_it ns c.index_mut-entry.result.now))
    (c.new-in-Ok.ensures ∙ c.new.ensures.items)
    ∙ ap (λ (e : Entry). set c.args.entries.now.items c.in-Ok.at (touch_it [] e)) c.index_mut-entry.ensures.value
    ∙ touch_here entry_name (touch_it []) c.args.name.now c.args.entries.now.items c.in-Ok.at
    c.index_mut-entry.result.now c.requires here.0 here.1

pub returns-in_default-clause-items : goal.returns-in_default-clause-items
returns-in_default-clause-items c =
    let there = place_moved entry_name c.args.entries.now.items _ _ _ (Err c.in_default.field-0) c.deref.ensures.value
    refl c.in_default.ensures in
    touch_none entry_name (λ (e : Entry). record e {
      info = Some c.args.info;
      changed = c.args.generation;
      lacking =
          [];
    }) c.args.name.now c.args.entries.now.items
    (parted_apart entry_name c.args.name.now c.args.entries.now.items c.in_default.field-0 there.1)

pub returns-in-Ok-clause-ascend : goal.returns-in-Ok-clause-ascend
returns-in-Ok-clause-ascend c =
    ascends_as entry_name _ _ (returns-in-Ok-clause-items c)
    (ascends_touched entry_name (λ (e : Entry). record e {
      info = Some c.args.info;
      changed =
          c.args.generation;
      lacking = [];
    }) (λ e. refl) c.args.name.now c.args.entries.now.items c.requires)
