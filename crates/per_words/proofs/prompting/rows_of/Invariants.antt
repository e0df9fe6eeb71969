use Rattle.std.proofs.Common.{◌≡◌, ◌++◌, drop, map, false}
use Rattle.per_words.specs.Prompts.{rows_of}
use Rattle.per_words.proofs.prompting.rows_of.Given as goal

-- the rows found so far, and those among the rows that are left
abbrev pub invariant-loop-row : goal.invariant-loop-row
invariant-loop-row l = map (λ row. row.now) l.found.items
    ++ rows_of l.word l.is_inside (map (λ row. row.now) (drop l.row-index l.rows))
    ≡ rows_of l.word false (map (λ row. row.now) l.rows)
