use Rattle.std.proofs.Common.{◌≤◌, ◌+◌, length, take, sum_by}
use Rattle.std.specs.Vec.{vec_len, vec_capacity}
use Rattle.block_files.specs.BlockSets.{free_of}
use Rattle.element_state.specs.Changes.{after_changes}
use Rattle.element_state.specs.Written.{change_cost}
use Rattle.element_store.specs.Jobs.{jobs_cost}
use Rattle.element_store.specs.Changing.{blocks_of_changes, AreStandingEntries, IsPlanned, IsTraced}
use Rattle.element_store.proofs.changing.plan_changes.Given as goal

abbrev pub invariant-loop-i : goal.invariant-loop-i
invariant-loop-i l =
    IsPlanned l.standing.kind l.standing.index.now l.standing.entries.now l.fn.used l.used l.plan.entries.items
    (after_changes l.standing.generation l.standing.entries.now (take l.i l.changes)) l.plan.jobs.items
    × AreStandingEntries l.standing.kind l.used l.standing.index.now l.standing.entries.now
    × (free_of l.fn.used ≤ free_of l.used + blocks_of_changes (take l.i l.changes))
    × (jobs_cost l.plan.jobs.items ≤ sum_by (change_cost l.standing.kind l.standing.entries.now)
    (take l.i l.changes))
    × IsTraced l.standing.index.now l.fn.used l.used (take l.i l.changes) l.plan.entries.items
    × (vec_len l.plan.entries + length l.changes ≤ vec_capacity l.plan.entries + l.i)
