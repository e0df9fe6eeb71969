use Rattle.std.proofs.Common.{◌≡◌, ◌+◌, length}
use Rattle.file_handles.specs.Sessions as sessions
use Rattle.file_handles.proofs.handle.free_number.Given as goal

-- the search goes on from this number over the handles that are left
abbrev pub invariant-loop-number : goal.invariant-loop-number
invariant-loop-number l = record {
  free : sessions.free_number l.handles.entries ≡ sessions.lowest_free_from l.free l.number-iterator;
  few : l.free + length l.number-iterator ≡ length l.handles.entries + 1;
}
