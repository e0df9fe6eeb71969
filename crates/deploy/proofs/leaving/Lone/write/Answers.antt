use Rattle.std.proofs.Common.{◌+◌, None, arith, refl}
use Rattle.guarded_cell.specs.Cells.{generation_of}
use Rattle.root_text.specs.RootText as text
use Rattle.root_text.specs.Views.{version_said}
use Rattle.deploy.proofs.Lone.{put_app, put_clean, put_outside, put_stands}
use Rattle.deploy.proofs.NextRoots.{next_cell}
use Rattle.deploy.proofs.RootLens.{placed_cost}
use Rattle.deploy.proofs.leaving.Lone.write.Goals as goal

pub returns-clause-root : goal.returns-clause-root
returns-clause-root g c = λ app of. record {
  memory = (
    next_cell app c.args.self.cell of (generation_of c.args.self.cell + 1) c.in_ok-cell.cell (omega arith)
        c.in_ok-cell.ensures.next,
    record { in_bank = c.requires.bank; active = c.requires.version; previous = tt },
  );
  disk = c.in_ok-cell.ensures.held;
}

pub returns-clause-says : goal.returns-clause-says
returns-clause-says g c = let counts = c.in_ok-cell.ensures.next.counts in cc

pub returns-clause-text : goal.returns-clause-text
returns-clause-text g c = refl

pub returns-clause-app : goal.returns-clause-app
returns-clause-app g c = λ tells app lt of.
    let v = version_said c.args.self.version in
    put_app c.one_root.ensures.again app lt c.args.self.cell of (text.installed c.args.self.bank v None)
    (record { in_bank = c.requires.bank; of_active = c.requires.version.said; of_previous = tt })
    (g.D.Disk.medium c.args.disk.now) (g.D.Disk.medium c.write_version.new.disk)
    c.roots_say.ensures.alone c.roots_say.ensures.versions c.files_lie_apart.ensures.slots c.others_stand.ensures.root
    c.roots_say.ensures.clean
    c.in_ok-cell.cell c.in_ok-cell.ensures.next (c.in_ok-cell.ensures.held tells) (c.in_ok-cell.ensures.elsewhere tells)

pub returns-clause-clean : goal.returns-clause-clean
returns-clause-clean g c = λ tells app lt of were.
    let v = version_said c.args.self.version in
    put_clean c.one_root.ensures.again app lt c.args.self.cell of (text.installed c.args.self.bank v None)
    (record { in_bank = c.requires.bank; of_active = c.requires.version.said; of_previous = tt })
    (g.D.Disk.medium c.args.disk.now) (g.D.Disk.medium c.write_version.new.disk)
    c.roots_say.ensures.alone c.roots_say.ensures.versions c.files_lie_apart.ensures.slots c.others_stand.ensures.root
    c.roots_say.ensures.clean
    c.in_ok-cell.cell c.in_ok-cell.ensures.next (c.in_ok-cell.ensures.held tells) (c.in_ok-cell.ensures.elsewhere tells)
    were

pub returns-clause-outside : goal.returns-clause-outside
returns-clause-outside g c = λ app lt of.
    put_outside c.one_root.ensures.again app lt c.args.self.cell of
    (text.installed c.args.self.bank (version_said c.args.self.version) None)
    (record { in_bank = c.requires.bank; of_active = c.requires.version.said; of_previous = tt })
    (g.D.Disk.medium c.args.disk.now) (g.D.Disk.medium c.write_version.new.disk)
    g.D.Disk.told c.in_ok-cell.ensures.elsewhere c.in_ok-cell.ensures.any_moment

pub returns-in_err-cell-clause-outside : goal.returns-in_err-cell-clause-outside
returns-in_err-cell-clause-outside g c = λ app lt of.
    put_outside c.one_root.ensures.again app lt c.args.self.cell of
    (text.installed c.args.self.bank (version_said c.args.self.version) None)
    (record { in_bank = c.requires.bank; of_active = c.requires.version.said; of_previous = tt })
    (g.D.Disk.medium c.args.disk.now) (g.D.Disk.medium c.write_version.new.disk)
    g.D.Disk.told c.in_err-cell.ensures.elsewhere c.in_err-cell.ensures.any_moment

pub returns-clause-any_moment : goal.returns-clause-any_moment
returns-clause-any_moment g c = λ tells app lt of were.
    let held = c.requires.held tells in
    put_stands c.one_root.ensures.again app lt c.args.self.cell of
    (text.installed c.args.self.bank (version_said c.args.self.version) None)
    (record { in_bank = c.requires.bank; of_active = c.requires.version.said; of_previous = tt })
    (g.D.Disk.medium c.args.disk.now) (g.D.Disk.medium c.write_version.new.disk)
    c.deploying_stands.ensures.writing held.0 held.1 (c.in_ok-cell.ensures.any_moment tells) were

pub returns-in_err-cell-clause-any_moment : goal.returns-in_err-cell-clause-any_moment
returns-in_err-cell-clause-any_moment g c = λ tells app lt of were.
    let held = c.requires.held tells in
    put_stands c.one_root.ensures.again app lt c.args.self.cell of
    (text.installed c.args.self.bank (version_said c.args.self.version) None)
    (record { in_bank = c.requires.bank; of_active = c.requires.version.said; of_previous = tt })
    (g.D.Disk.medium c.args.disk.now) (g.D.Disk.medium c.write_version.new.disk)
    c.deploying_stands.ensures.writing held.0 held.1 (c.in_err-cell.ensures.any_moment tells) were

pub returns-clause-written : goal.returns-clause-written
returns-clause-written g c = λ app of. placed_cost _ app _ _ _ of.place c.write_version.ensures.written

pub returns-in_err-cell-clause-written : goal.returns-in_err-cell-clause-written
returns-in_err-cell-clause-written g c = λ app of. placed_cost _ app _ _ _ of.place c.write_version.ensures.written
