use Rattle.std.proofs.Common.{◌≡◌, map, take}
use Rattle.std.specs.Option.{option_copied}
use Rattle.block_files.proofs.texts.Texts.lent.Given as goal

-- what the copies so far give
abbrev pub invariant-loop-copy : goal.invariant-loop-copy
invariant-loop-copy l = map option_copied l.lent.items ≡ take l.copy l.self
