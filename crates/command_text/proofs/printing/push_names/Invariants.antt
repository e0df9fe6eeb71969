use Rattle.std.proofs.Common.{◌≡◌, ◌∷◌, ◌++◌, drop, string_bytes}
use Rattle.std.specs.List.{flat_map}
use Rattle.command_text.proofs.printing.push_names.Given as goal

-- the text so far, and the names that are left
abbrev pub invariant-loop-name : goal.invariant-loop-name
invariant-loop-name l = string_bytes l.out ++ flat_map (λ name. 32 ∷ name) (drop l.name-index l.names)
    ≡ string_bytes l.fn.out ++ flat_map (λ name. 32 ∷ name) l.names
