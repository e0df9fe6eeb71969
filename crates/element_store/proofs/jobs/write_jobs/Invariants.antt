use Rattle.element_store.proofs.Working.{AreDone}
use Rattle.element_store.proofs.jobs.write_jobs.Given as goal

abbrev pub invariant-loop-job : goal.invariant-loop-job
invariant-loop-job g l = AreDone g.D.Disk.told l.place l.jobs l.job-index
    (g.D.Disk.medium l.fn.disk) (g.D.Disk.medium l.disk)
