use Rattle.std.proofs.Common.{◌∙◌, List, Ok, Err, get_or, refl, sym, ap, subst}
use Rattle.per_base.specs.declared.elements.Entry.{Entry}
use Rattle.per_base.specs.Names.{NamesAscend}
use Rattle.element_state.specs.Changes.{entry_name}
use Rattle.element_store.proofs.Finished.{store_ascends}
use Rattle.element_store.proofs.InOrder.{place_moved, found_here, found_none, parted_apart}
use Rattle.element_store.proofs.store.Store.entry.Goals as goal

pub place_of-requires : goal.place_of-requires
place_of-requires c = subst (λ (es : List Entry). NamesAscend entry_name es) (sym c.as_slice-entries.ensures.value)
    (store_ascends c.args.self.now c.requires)

pub returns-in-Ok : goal.returns-in-Ok
returns-in-Ok c =
    let items = c.args.self.now.entries.items in
    let x = c.index-entries-at.result in
    let here = place_moved entry_name items _ _ _ (Ok c.in-Ok.at) c.as_slice-entries.ensures.value refl c.in-Ok.ensures
    in
    sym (found_here entry_name c.args.name.now items c.in-Ok.at x (store_ascends c.args.self.now c.requires) here.0
    here.1
    (c.index-entries-at.is ∙ ap (λ (es : List Entry). get_or es c.in-Ok.at x) c.as_slice-entries.ensures.value))

pub returns-in-Err : goal.returns-in-Err
returns-in-Err c =
    let items = c.args.self.now.entries.items in
    let there = place_moved entry_name items _ _ _ (Err c.in-Err.field-0) c.as_slice-entries.ensures.value refl
    c.in-Err.ensures in
    sym (found_none entry_name c.args.name.now items (parted_apart entry_name c.args.name.now items c.in-Err.field-0
    there.1))
