use Rattle.std.proofs.Common.{◌≡◌}
use Rattle.file_handles.specs.Sessions as sessions
use Rattle.file_handles.proofs.handle.blocking.Given as goal

-- the handles that are left have the first that conflicts
abbrev pub invariant-loop-number : goal.invariant-loop-number
invariant-loop-number l = sessions.blocking l.kind l.name l.handles.entries
    ≡ sessions.blocking l.kind l.name l.number-iterator
