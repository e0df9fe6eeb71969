use Rattle.std.proofs.Common.{◌≡◌, ◌++◌}
use Rattle.per_base.specs.Maps.{names_of}
use Rattle.file_handles.proofs.by_name.copied_names.Given as goal

-- the names so far, and those of the files that are left
abbrev pub invariant-loop-name : goal.invariant-loop-name
invariant-loop-name l = l.names.items ++ names_of l.name-iterator ≡ names_of l.files.entries
