-- The flash was opened, and the job was done on its disk.
use Rattle.per_run.proofs.Reopens.{opened_files, opens_again}
use Rattle.per_run.proofs.flash.run_over.Goals as goal

pub returns-in-Ok-clause-ran : goal.returns-in-Ok-clause-ran
returns-in-Ok-clause-ran g c =
    let told = g.F.Flash.told in
    let medium = g.F.Flash.medium in
    let e = c.in-Ok.ensures in
    let ran = c.run_job-status.ensures in
    record {
      opened = c.in-Ok.disk;
      is_opened = record {
        many = e.size.0;
        few = e.size.1;
        usable = e.usable;
        blocks = e.blocks;
        state = e.settled;
        files = opened_files told medium c.args.flash c.in-Ok.disk e.blocks e.settled;
        top = e.sequence;
        own = e.own.0;
        written = e.own.1;
        faults = e.faults;
        quiet = e.quiet;
        begins = e.begins;
        meanwhile = e.opens;
      };
      done = ran.job;
      caused = ran.caused;
      time = ran.time;
      stops = λ tells. opens_again told medium c.args.flash c.in-Ok.disk c.run_job-status.new.disk tells e.blocks
          e.opens ran.time e.size.0 e.size.1 (e.throughout tells) (e.agreed tells) (e.settled tells)
          c.lost_pages_are_outvoted_since.ensures c.applications_read_on_since.ensures;
    }
