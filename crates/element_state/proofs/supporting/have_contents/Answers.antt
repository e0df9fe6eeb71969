use Rattle.std.proofs.Common.{get_or, sym, subst}
use Rattle.disk_model.specs.Image.{Image}
use Rattle.per_base.specs.declared.elements.Entry.{Entry}
use Rattle.index_text.specs.declared.entries.IndexEntry.{IndexEntry}
use Rattle.element_state.specs.Chosen.{Vouches}
use Rattle.element_state.specs.lemmas.Entrywise.{zip_at}
use Rattle.element_state.proofs.supporting.have_contents.Goals as goal

pub has_content-requires-clause-vouched : goal.has_content-requires-clause-vouched
has_content-requires-clause-vouched g c = λ tells.
    let old = (g.D.Disk.medium c.args.disk.now).image in
    let i = c.loop-i.i in
    let e = c.index-entries-i.result in
    let f = c.index-views-i.result in
    let there = zip_at (Vouches old c.args.place) c.args.entries.now c.args.views.now i e f (c.requires.vouched tells)
    c.loop-i-test.true in
    let P : IndexEntry → Type 0 = λ x. Vouches old c.args.place x (get_or c.args.views.now i f) in
    let Q : Entry → Type 0 = λ y. Vouches old c.args.place e y in
    let R : Image → Type 0 = λ image. Vouches image c.args.place e f in
    subst R (sym c.loop-i.invariant.disk.reads.image) (subst Q (sym c.index-views-i.is)
    (subst P (sym c.index-entries-i.is) there))
