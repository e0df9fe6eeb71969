use Rattle.std.proofs.Common.{◌≡◌, ◌≤◌, ◌+◌, drop}
use Rattle.m_of_n.specs.Vote.{holders, texts_of}
use Rattle.m_of_n.proofs.count_holders.Given as goal

-- the copies so far and the rest together
abbrev pub invariant-loop-copy : goal.invariant-loop-copy
invariant-loop-copy l =
    (l.count ≤ l.copy-index)
    × (l.count + holders (texts_of (drop l.copy-index l.copies)) l.text ≡ holders (texts_of l.copies) l.text)
