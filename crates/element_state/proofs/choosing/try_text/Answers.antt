use Rattle.std.proofs.Common.{length, sym, ap, subst, ◌∙◌, arith}
use Rattle.std.specs.List.{AllByRecursion}
use Rattle.index_text.specs.Rules.{IsEntry}
use Rattle.element_state.specs.Chosen.{HasBlocks, IsReadBy}
use Rattle.element_state.specs.lemmas.Entrywise.{all_less, length_zip}
use Rattle.element_state.specs.lemmas.Supported.{too_few}
use Rattle.element_state.proofs.choosing.try_text.Goals as goal

pub returns-then-as_slice-shape-clause-tried : goal.returns-then-as_slice-shape-clause-tried
returns-then-as_slice-shape-clause-tried g c = λ tells.
    too_few (g.D.Disk.medium c.args.disk.now).image c.args.shape.now c.args.text.now (c.requires.held tells)
    (omega (arith, c.if-as_slice-shape.true, ap length c.as_slice.ensures))

pub read_entries-requires-clause-blocks : goal.read_entries-requires-clause-blocks
read_entries-requires-clause-blocks g c =
    let index = c.args.text.now.1 in
    subst (AllByRecursion HasBlocks) (sym c.as_slice-2.ensures)
    (all_less (IsEntry index.format index.kind) HasBlocks (λ e is. is.blocks) index.entries
    c.requires.fit.index.rules.each)

pub is_supported-requires-clause-length : goal.is_supported-requires-clause-length
is_supported-requires-clause-length g c =
    ap length c.as_slice-3.ensures
    ∙ length_zip (IsReadBy c.args.shape.now.place.copies) c.as_slice-2.result.now c.in_ok-read.read.entries
    c.in_ok-read.ensures.read
    ∙ ap length c.as_slice-2.ensures
