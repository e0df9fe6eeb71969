use Rattle.std.proofs.Common.{ℕ, None, length, refl, ap, ◌∙◌, inl, subst, arith}
use Rattle.guarded_cell.specs.Cells.{generation_of}
use Rattle.root_text.specs.Views.{version_said}
use Rattle.deploy_laws.specs.Apps.{App, installed, named_in_bank}
use Rattle.deploy_laws.specs.Stands.{StandsThroughout}
use Rattle.deploy.specs.Filled.{filled_app}
use Rattle.deploy.proofs.FirstVersion.{next_filled, root_written}
use Rattle.deploy.proofs.MadeStorages.{few_contents}
use Rattle.deploy.proofs.NextVersion.{leaves_whole}
use Rattle.deploy.proofs.installing.install_filled.Goals as goal

pub returns-in_err-cell-clause-any_moment : goal.returns-in_err-cell-clause-any_moment
returns-in_err-cell-clause-any_moment g c = λ tells. subst
    (λ (a : App). StandsThroughout c.args.app a (g.D.Disk.medium c.args.disk.now)
    (g.D.Disk.medium c.make_version.new.disk))
    (next_filled c.one_root.ensures.again c.roots_say.ensures.alone (g.D.Disk.medium c.args.disk.now).image
    c.args.app c.args.cell c.requires.root.memory (c.requires.root.disk tells) (version_said c.args.version)
    c.args.contents.now)
    (c.in_err-cell.ensures.any_moment tells)

pub returns-in_err-cell-clause-outside : goal.returns-in_err-cell-clause-outside
returns-in_err-cell-clause-outside g c =
    let few = (few_contents c.args.version.deployment c.args.contents.now c.requires.version.keeps
    c.requires.fit).0 in
    leaves_whole g.D.Disk.told c.args.app 0 0 (length c.args.contents.now) (g.D.Disk.medium c.args.disk.now)
    (g.D.Disk.medium c.make_version.new.disk)
    c.in_err-cell.ensures.outside (omega (arith, few))

pub returns-clause-outside : goal.returns-clause-outside
returns-clause-outside g c =
    let few = (few_contents c.args.version.deployment c.args.contents.now c.requires.version.keeps
    c.requires.fit).0 in
    leaves_whole g.D.Disk.told c.args.app 0 0 (length c.args.contents.now) (g.D.Disk.medium c.args.disk.now)
    (g.D.Disk.medium c.make_version.new.disk)
    c.in_ok-cell.ensures.outside (omega (arith, few))

pub returns-clause-any_moment : goal.returns-clause-any_moment
returns-clause-any_moment g c = λ tells. subst (λ (a : App).
    StandsThroughout c.args.app a (g.D.Disk.medium c.args.disk.now) (g.D.Disk.medium c.make_version.new.disk))
    (next_filled c.one_root.ensures.again c.roots_say.ensures.alone (g.D.Disk.medium c.args.disk.now).image
    c.args.app c.args.cell c.requires.root.memory (c.requires.root.disk tells) (version_said c.args.version)
    c.args.contents.now)
    (c.in_ok-cell.ensures.any_moment tells)

pub returns-clause-app : goal.returns-clause-app
returns-clause-app g c = λ tells. c.in_ok-cell.ensures.app tells
    ∙ (next_filled c.one_root.ensures.again c.roots_say.ensures.alone (g.D.Disk.medium c.args.disk.now).image
    c.args.app c.args.cell c.requires.root.memory (c.requires.root.disk tells) (version_said c.args.version)
    c.args.contents.now)

pub returns-clause-clean : goal.returns-clause-clean
returns-clause-clean g c = λ tells. c.in_ok-cell.ensures.clean tells (inl refl)

pub returns-clause-says : goal.returns-clause-says
unfolding filled_app
returns-clause-says g c = ap (λ (n : ℕ). installed n (named_in_bank 0 (version_said c.args.version)) None)
    c.in_ok-cell.ensures.next.counts

pub returns-clause-root : goal.returns-clause-root
returns-clause-root g c = root_written g.D.Disk.told (g.D.Disk.medium c.make_version.new.disk).image c.args.app
    (generation_of c.args.cell) (record {
      cell = c.in_ok-cell.cell;
      bank = 0;
      active = c.args.version;
      previous =
          None;
    })
    c.in_ok-cell.ensures.next (omega arith) c.requires.version tt c.in_ok-cell.ensures.held

pub returns-in_err-cell-clause-places : goal.returns-in_err-cell-clause-places
returns-in_err-cell-clause-places g c = c.in_err-cell.ensures.places

pub returns-in_err-cell-clause-written : goal.returns-in_err-cell-clause-written
returns-in_err-cell-clause-written g c = c.in_err-cell.ensures.written

pub returns-clause-places : goal.returns-clause-places
returns-clause-places g c = c.in_ok-cell.ensures.places

pub returns-clause-written : goal.returns-clause-written
returns-clause-written g c = c.in_ok-cell.ensures.written

pub returns-in_err-cell-clause-last : goal.returns-in_err-cell-clause-last
returns-in_err-cell-clause-last g c = c.in_err-cell.ensures.last

pub returns-clause-last : goal.returns-clause-last
returns-clause-last g c = c.in_ok-cell.ensures.last
