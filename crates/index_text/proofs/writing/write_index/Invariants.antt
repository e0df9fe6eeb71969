use Rattle.std.proofs.Common.{◌≡◌, ◌++◌, length, take}
use Rattle.std.specs.List.{AllByRecursion, flat_map}
use Rattle.index_text.specs.Rules.{EntryInRange}
use Rattle.index_text.specs.Spelling.{entry_text, header_text}
use Rattle.index_text.proofs.writing.write_index.Given as goal

abbrev pub invariant-loop-entry : goal.invariant-loop-entry
invariant-loop-entry l = record {
  text : l.text.items ≡ header_text l.index.format l.index.kind (length l.entries)
      ++ flat_map (entry_text l.index.format) (take l.entry-index l.entries);
  in_range : AllByRecursion EntryInRange (take l.entry-index l.entries);
}
