use Rattle.std.proofs.Common.{◌≡◌, Bool, true, Ok, Err, refl, sym, ap, ◌∙◌}
use Rattle.std.specs.Prelude.{is_ok, if◌then◌else◌}
use Rattle.element_state.specs.Changes.{insert_item}
use Rattle.element_store.proofs.InOrder.{place_moved, ascends_as, put_here, put_there, ascends_put, without_none}
use Rattle.element_store.proofs.InOrder.{parted_apart}
use Rattle.element_store.proofs.named.put_in.Goals as goal

if_ok : {A : Type 0} (b : Bool) (x y : A) → b ≡ true → (if b then x else y) ≡ x
if_ok b x y is = rw is refl

pub returns-in-Ok-clause-items : goal.returns-in-Ok-clause-items
returns-in-Ok-clause-items g c =
    let here = place_moved g.N.Named.name_of c.args.items.now.items _ _ _ (Ok c.in-Ok.at) c.deref.ensures.value
    c.name.ensures c.in-Ok.ensures in
    put_here g.N.Named.name_of c.args.item c.args.items.now.items c.in-Ok.at c.requires.ascend here.0 here.1

pub returns-in-Ok-clause-ascend : goal.returns-in-Ok-clause-ascend
returns-in-Ok-clause-ascend g c =
    ascends_as g.N.Named.name_of _ _ (returns-in-Ok-clause-items g c)
    (ascends_put g.N.Named.name_of c.args.item c.args.items.now.items c.requires.ascend)

pub returns-in-Err-clause-items : goal.returns-in-Err-clause-items
returns-in-Err-clause-items g c =
    let there = place_moved g.N.Named.name_of c.args.items.now.items _ _ _ (Err c.in-Err.at) c.deref.ensures.value
    c.name.ensures c.in-Err.ensures in
    c.insert.ensures.items
    ∙ if_ok (is_ok c.insert.result) _ _ (c.insert.ensures.succeeds c.requires.room)
    ∙ put_there g.N.Named.name_of c.args.item c.args.items.now.items c.in-Err.at there.0 there.1
    ∙ ap (insert_item g.N.Named.name_of c.args.item) (sym
    (without_none g.N.Named.name_of (g.N.Named.name_of c.args.item) c.args.items.now.items
    (parted_apart g.N.Named.name_of (g.N.Named.name_of c.args.item) c.args.items.now.items c.in-Err.at there.1)))

pub returns-in-Err-clause-ascend : goal.returns-in-Err-clause-ascend
returns-in-Err-clause-ascend g c =
    ascends_as g.N.Named.name_of _ _ (returns-in-Err-clause-items g c)
    (ascends_put g.N.Named.name_of c.args.item c.args.items.now.items c.requires.ascend)
