use Rattle.std.proofs.Common.{◌≡◌, ◌+◌, List, [], None, Ok, Err, ap, sym, subst, ◌∙◌, arith}
use Rattle.per_base.specs.declared.elements.Fresh.{Fresh}
use Rattle.index_text.specs.Contents.{AreContents}
use Rattle.deployment_model.specs.Data.{storage_data}
use Rattle.element_state.specs.States.{Corrupt, fresh_map, fresh_state}
use Rattle.per_backup.specs.Backups.{importing}
use Rattle.per_backup.proofs.Filled.{IsFilling, filling_done, filling_fits, filling_long, filling_more, filling_none}
use Rattle.per_backup.proofs.Filled.{filling_refused, filling_short, kept_at}
use Rattle.per_backup.proofs.Lists.{err_so, ok_so}
use Rattle.per_backup.proofs.filling.contents_in.Goals as goal

pub loop-number-init : goal.loop-number-init
loop-number-init c = subst (λ (cs : List (List Fresh)). IsFilling c.args.storages.now c.args.texts.now 0 cs)
    (sym c.new-all.ensures.items) (filling_none c.args.storages.now c.args.texts.now)

pub contents_of-requires : goal.contents_of-requires
contents_of-requires c = kept_at c.args.storages.now c.loop-number.number c.index-storages-number.result c.requires
    (omega arith) c.index-storages-number.is

pub loop-number-preserved : goal.loop-number-preserved
loop-number-preserved c =
    let s = storage_data c.index-storages-number.result in
    subst (λ (cs : List (List Fresh)). IsFilling c.args.storages.now c.args.texts.now (c.loop-number.number + 1) cs)
    (sym c.in_ok-push-in-Ok.ensures.items)
    (filling_more c.args.storages.now c.args.texts.now c.loop-number.number c.loop-number.all.items
    c.loop-number.invariant c.index-storages-number.result c.index-texts-number.result (omega arith)
    c.index-storages-number.is (omega arith) c.index-texts-number.is c.in-Ok.contents
    (subst (λ t. importing s (Corrupt None []) t ≡ Ok (fresh_state 1 (fresh_map c.in-Ok.contents))) c.as_slice.ensures
    (ok_so c.in_ok-contents.field-0 c.in-Ok.contents
    (λ fs. importing s (Corrupt None []) c.as_slice.result.now ≡ Ok (fresh_state 1 (fresh_map fs))) c.in-Ok.is
    c.in_ok-contents.ensures.state))
    (ok_so c.in_ok-contents.field-0 c.in-Ok.contents
    (λ fs. AreContents c.index-storages-number.result.kind c.index-storages-number.result.maximum fs) c.in-Ok.is
    c.in_ok-contents.ensures.fit))

pub returns-in-Err-clause-refused : goal.returns-in-Err-clause-refused
returns-in-Err-clause-refused c =
    let s = storage_data c.index-storages-number.result in
    filling_refused c.args.storages.now c.args.texts.now c.loop-number.number c.loop-number.all.items
    c.loop-number.invariant c.index-storages-number.result c.index-texts-number.result (omega arith)
    c.index-storages-number.is (omega arith) c.index-texts-number.is c.in-Err.error
    (subst (λ t. importing s (Corrupt None []) t ≡ Err c.in-Err.error) c.as_slice.ensures
    (err_so c.in_ok-contents.field-0 c.in-Err.error (λ e. importing s (Corrupt None []) c.as_slice.result.now ≡ Err e)
    c.in-Err.is c.in_ok-contents.ensures.refused))

pub returns-then-number-texts-clause-refused : goal.returns-then-number-texts-clause-refused
returns-then-number-texts-clause-refused c = filling_short c.args.storages.now c.args.texts.now c.loop-number.number
    c.loop-number.all.items c.loop-number.invariant (omega arith) (omega arith)

pub returns-then-texts-storages-clause-refused : goal.returns-then-texts-storages-clause-refused
returns-then-texts-storages-clause-refused c = filling_long c.args.storages.now c.args.texts.now c.loop-number.number
    c.loop-number.all.items c.loop-number.invariant (omega arith) (omega arith)

pub returns-clause-states : goal.returns-clause-states
returns-clause-states c = filling_done c.args.storages.now c.args.texts.now c.loop-number.number
    c.loop-number.all.items c.loop-number.invariant (omega arith) (omega arith)

pub returns-clause-fit : goal.returns-clause-fit
returns-clause-fit c = filling_fits c.args.storages.now c.args.texts.now c.loop-number.number
    c.loop-number.all.items c.loop-number.invariant (omega arith)
