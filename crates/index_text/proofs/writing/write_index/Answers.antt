use Rattle.std.proofs.Common.{◌++◌, List, ap, length, subst, ◌∙◌}
use Rattle.std.specs.List.{AllByRecursion, flat_map}
use Rattle.index_text.specs.declared.entries.IndexEntry.{IndexEntry}
use Rattle.index_text.specs.Rules.{EntryInRange}
use Rattle.index_text.specs.Spelling.{entry_text, header_text, index_text}
use Rattle.index_text.specs.Reading.{index_of}
use Rattle.index_text.specs.lemmas.Lengths.{length-index_text}
use Rattle.index_text.proofs.Whole.{all_written, index_again}
use Rattle.index_text.proofs.writing.write_index.Goals as goal

pub returns-clause-text : goal.returns-clause-text
unfolding index_text
returns-clause-text c =
    let index = c.args.index.now in
    let entries = c.as_slice-entries.result.now in
    let all = all_written entries index.entries c.loop-entry.entry-index c.loop-entry-test.false
    c.as_slice-entries.ensures in
    c.loop-entry.invariant.text
    ∙ ap (λ (es : List IndexEntry). header_text index.format index.kind (length entries)
    ++ flat_map (entry_text index.format) es) all
    ∙ ap (λ (es : List IndexEntry). header_text index.format index.kind (length es)
    ++ flat_map (entry_text index.format) index.entries) c.as_slice-entries.ensures

pub returns-clause-length : goal.returns-clause-length
returns-clause-length c = ap length (returns-clause-text c) ∙ length-index_text c.args.index.now c.requires

pub returns-clause-spells : goal.returns-clause-spells
returns-clause-spells c =
    let index = c.args.index.now in
    let all = all_written c.as_slice-entries.result.now index.entries c.loop-entry.entry-index c.loop-entry-test.false
    c.as_slice-entries.ensures in
    ap index_of (returns-clause-text c) ∙ index_again index c.requires
    (subst (λ (es : List IndexEntry). AllByRecursion EntryInRange es) all c.loop-entry.invariant.in_range)
