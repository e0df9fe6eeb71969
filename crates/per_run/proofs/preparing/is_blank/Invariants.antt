-- The files before this one have no byte, and the disk was only read.
use Rattle.std.proofs.Common.{ℕ, [], ◌≡◌, ◌<◌, IsTrue}
use Rattle.disk_model.specs.Medium.{Elapses, OnlyReads}
use Rattle.per_run.proofs.preparing.is_blank.Given as goal

pub record Looked (Empty Read Later : Type 0) (before now : ℕ) : Type 0 where
  pub empty : Empty
  pub reads : Read
  pub time : Later
  pub passes : now ≡ before

abbrev pub invariant-loop-file : goal.invariant-loop-file
invariant-loop-file g l = Looked
    (IsTrue g.D.Disk.told → (f : ℕ) → f < l.file → (g.D.Disk.medium l.initial.disk).image f ≡ [])
    (OnlyReads (g.D.Disk.medium l.initial.disk) (g.D.Disk.medium l.disk))
    (Elapses (g.D.Disk.medium l.initial.disk) (g.D.Disk.medium l.disk))
    (g.D.Disk.medium l.initial.disk).faults (g.D.Disk.medium l.disk).faults
