use Rattle.std.proofs.Common.{◌≡◌, drop}
use Rattle.m_of_n.specs.Vote.{texts_of, voted, first_agreed}
use Rattle.m_of_n.proofs.vote.Given as goal

-- the vote is among the texts of the copies to come
abbrev pub invariant-loop-copy : goal.invariant-loop-copy
invariant-loop-copy l =
    first_agreed l.m (texts_of l.copies) (texts_of (drop l.copy-index l.copies)) ≡ voted l.m (texts_of l.copies)
