use Rattle.std.proofs.Common.{◌≡◌}
use Rattle.std.specs.Option.{option_copied}
use Rattle.block_files.proofs.Counting.{lacking_to}
use Rattle.block_files.proofs.getting.list_lacking.Given as goal

abbrev pub invariant-loop-copy : goal.invariant-loop-copy
invariant-loop-copy l = l.numbers.items ≡ lacking_to (option_copied l.value) l.looked.texts
    l.looked.inside.items l.copy
