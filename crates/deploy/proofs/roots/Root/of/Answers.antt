use Rattle.deploy.proofs.Manifests.{said_absent, said_installed}
use Rattle.deploy.proofs.RootLens.{absent_len, said_len}
use Rattle.deploy.proofs.Settled.{parts_said, said_kept}
use Rattle.deploy.proofs.roots.Root.of.Goals as goal

pub returns-in-Installed-clause-says : goal.returns-in-Installed-clause-says
returns-in-Installed-clause-says c =
    parts_said (record {
      cell = c.args.cell;
      bank = c.in-Installed.bank;
      active = c.in-Installed.active;
      previous =
          c.in-Installed.previous;
    })
    c.args.says c.in-Installed.is

pub returns-in-Installed-clause-memory : goal.returns-in-Installed-clause-memory
returns-in-Installed-clause-memory c = λ app is rules. (
  is,
  said_kept (record {
    cell = c.args.cell;
    bank = c.in-Installed.bank;
    active = c.in-Installed.active;
    previous =
        c.in-Installed.previous;
  })
      c.args.says c.in-Installed.is c.said_is_kept.ensures.keeps rules,
)

pub returns-in-Absent-clause-long : goal.returns-in-Absent-clause-long
returns-in-Absent-clause-long c = absent_len c.args.says c.in-Absent.is

pub returns-in-Installed-clause-long : goal.returns-in-Installed-clause-long
returns-in-Installed-clause-long c = said_len (record {
  cell = c.args.cell;
  bank = c.in-Installed.bank;
  active = c.in-Installed.active;
  previous =
      c.in-Installed.previous;
})
    c.args.says c.in-Installed.is

pub returns-in-Absent-clause-texts : goal.returns-in-Absent-clause-texts
returns-in-Absent-clause-texts c = said_absent c.args.says c.in-Absent.is

pub returns-in-Installed-clause-texts : goal.returns-in-Installed-clause-texts
returns-in-Installed-clause-texts c = said_installed (record {
  cell = c.args.cell;
  bank = c.in-Installed.bank;
  active = c.in-Installed.active;
  previous =
      c.in-Installed.previous;
})
    c.args.says c.in-Installed.is
