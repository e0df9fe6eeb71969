use Rattle.index_text.proofs.writing.put_entry.Goals as goal

pub returns-clause-in_range : goal.returns-clause-in_range
returns-clause-in_range c = record {
  info = c.in_ok-put_info.ensures.in_range;
  changed = c.put_changed.ensures.in_range;
  blocks = rw (← c.as_slice.ensures) c.put_blocks.ensures.in_range;
}
