use Rattle.std.proofs.Common.{◌≡◌, drop, false, map, string_bytes}
use Rattle.per_terminal.specs.Arguments.{has_dashed_folder}
use Rattle.per_terminal.proofs.arguments.dashed_folder.Given as goal

-- none is found before the words that are left
abbrev pub invariant-loop-word : goal.invariant-loop-word
invariant-loop-word l = has_dashed_folder l.is_folder (map string_bytes (drop l.word-index l.options))
    ≡ has_dashed_folder false (map string_bytes l.options)
