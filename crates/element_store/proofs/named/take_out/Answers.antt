use Rattle.std.proofs.Common.{Ok, Err, sym, ◌∙◌, refl}
use Rattle.element_store.proofs.InOrder.{place_moved, ascends_as, take_here, ascends_without, without_none}
use Rattle.element_store.proofs.InOrder.{parted_apart}
use Rattle.element_store.proofs.named.take_out.Goals as goal

pub returns-in-Ok-clause-items : goal.returns-in-Ok-clause-items
returns-in-Ok-clause-items g c =
    let here = place_moved g.N.Named.name_of c.args.items.now.items _ _ _ (Ok c.in-Ok.at) c.deref.ensures.value refl
    c.in-Ok.ensures in
    c.remove.ensures.items ∙ take_here g.N.Named.name_of c.args.name.now c.args.items.now.items c.in-Ok.at
    c.requires.ascend here.0 here.1

pub returns-in-Ok-clause-ascend : goal.returns-in-Ok-clause-ascend
returns-in-Ok-clause-ascend g c =
    ascends_as g.N.Named.name_of _ _ (returns-in-Ok-clause-items g c)
    (ascends_without g.N.Named.name_of c.args.name.now c.args.items.now.items c.requires.ascend)

pub returns-in_default-clause-items : goal.returns-in_default-clause-items
returns-in_default-clause-items g c =
    let there = place_moved g.N.Named.name_of c.args.items.now.items _ _ _ (Err c.in_default.field-0)
    c.deref.ensures.value refl c.in_default.ensures in
    sym (without_none g.N.Named.name_of c.args.name.now c.args.items.now.items
    (parted_apart g.N.Named.name_of c.args.name.now c.args.items.now.items c.in_default.field-0 there.1))
