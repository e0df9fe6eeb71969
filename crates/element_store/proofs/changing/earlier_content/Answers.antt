use Rattle.std.proofs.Common.{sym, ap, ◌∙◌, arith}
use Rattle.per_base.specs.declared.elements.Content.TheVariants.{Good}
use Rattle.per_base.specs.declared.elements.Entry.{Entry}
use Rattle.index_text.specs.declared.entries.IndexEntry.{IndexEntry}
use Rattle.element_store.specs.Changing.{IsSeenAs}
use Rattle.element_store.proofs.Places.{zip_length}
use Rattle.element_store.proofs.Changed.{views_ascend}
use Rattle.element_store.proofs.Earlier.{earlier_key, earlier_none, earlier_bad, earlier_good}
use Rattle.element_store.proofs.changing.earlier_content.Goals as goal

pub place_of-requires : goal.place_of-requires
place_of-requires c = views_ascend c.args.standing.index.now c.args.standing.entries.now c.requires.ascend
    c.requires.seen

pub bounds-standing-at-in-Good : goal.bounds-standing-at-in-Good
bounds-standing-at-in-Good c =
    let l = zip_length IsSeenAs c.args.standing.index.now c.args.standing.entries.now c.requires.seen in
    let lt = c.in-Ok.ensures.0 in
    omega (arith, l, lt)

pub returns-in-Keys : goal.returns-in-Keys
returns-in-Keys c = earlier_key c.args.standing.index.now c.args.standing.entries.now c.args.name.now _ _
    c.args.standing.kind c.in-Keys.is c.nothing.ensures.bytes c.nothing.ensures.blocks

pub returns-in-Err : goal.returns-in-Err
returns-in-Err c = earlier_none c.args.standing.index.now c.args.standing.entries.now c.args.name.now _ _
    c.args.standing.kind c.in-Err.field-0 c.in-Err.ensures
    c.nothing-in-Err.ensures.bytes c.nothing-in-Err.ensures.blocks

pub returns-in-Bad : goal.returns-in-Bad
returns-in-Bad c = earlier_bad c.args.standing.index.now c.args.standing.entries.now c.args.name.now _ _
    c.args.standing.kind c.in-Files.is
    (views_ascend c.args.standing.index.now c.args.standing.entries.now c.requires.ascend c.requires.seen) c.in-Ok.at
    c.in-Ok.ensures
    c.index-standing-at.result c.index-standing-at.is c.in-Bad.field-0
    (ap (λ (x : Entry). x.content) c.index-standing-at.is ∙ c.in-Bad.is) c.nothing-in-Bad.ensures.bytes
    c.nothing-in-Bad.ensures.blocks

pub returns-in-Good : goal.returns-in-Good
returns-in-Good c = earlier_good c.args.standing.index.now c.args.standing.entries.now c.args.name.now _ _
    c.args.standing.kind c.in-Files.is
    (views_ascend c.args.standing.index.now c.args.standing.entries.now c.requires.ascend c.requires.seen) c.in-Ok.at
    c.in-Ok.ensures
    c.index-standing-at.result c.index-standing-at.is c.index-standing-at-in-Good.result c.index-standing-at-in-Good.is
    c.requires.seen
    (ap (λ (x : Entry). x.content) c.index-standing-at.is ∙ c.in-Good.is ∙ ap Good (sym c.as_slice.ensures))
    (c.as_slice-in-Good.ensures ∙ sym (ap (λ (x : IndexEntry). x.blocks) c.index-standing-at-in-Good.is))
