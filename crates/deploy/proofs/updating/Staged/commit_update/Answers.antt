use Rattle.std.proofs.Common.{◌≡◌, ◌+◌, ◌-◌, ◌≤◌, List, length, Some, refl, sym, ◌∙◌, inr, subst, arith}
use Rattle.per_base.specs.declared.elements.Fresh.{Fresh}
use Rattle.guarded_cell.specs.Cells.{generation_of}
use Rattle.root_text.specs.Views.{version_said}
use Rattle.deploy_laws.specs.Apps.{App, app_at}
use Rattle.deploy_laws.specs.Stands.{StandsThroughout}
use Rattle.deploy_rows.specs.Rows.{updated_app}
use Rattle.deploy.specs.Building.{staged_progress}
use Rattle.deploy.specs.Clauses.{Leaves}
use Rattle.deploy.specs.Next.{next_app}
use Rattle.deploy.specs.Remaining.{IsBesideCommit}
use Rattle.deploy.proofs.FirstVersion.{root_written}
use Rattle.deploy.proofs.MadePlaces.{committed_written}
use Rattle.deploy.proofs.NextVersion.{leaves_root}
use Rattle.deploy.proofs.RootLast.{committed_last}
use Rattle.deploy.proofs.UpdateRow.{held_before, next_committed, says_committed}
use Rattle.deploy.proofs.updating.Staged.commit_update.Goals as goal

pub make_version-requires-clause-held : goal.make_version-requires-clause-held
make_version-requires-clause-held g c = λ tells. held_before (g.D.Disk.medium c.args.disk.now).image c.args.self.root
    c.requires.staged.memory.root.1.in_bank c.requires.staged.memory.no_previous (c.requires.staged.root_on tells)

pub returns-in_err-cell-clause-any_moment : goal.returns-in_err-cell-clause-any_moment
returns-in_err-cell-clause-any_moment g c = λ tells. subst
    (λ (a : App). StandsThroughout c.args.self.app a (g.D.Disk.medium c.args.disk.now)
    (g.D.Disk.medium c.make_version.new.disk))
    (subst (λ (cs : List (List Fresh)). next_app (generation_of c.args.self.root.cell + 1) (1 - c.args.self.root.bank)
    (version_said c.args.self.version) (Some (version_said c.args.self.root.active)) cs
    (app_at (g.D.Disk.medium c.args.disk.now).image c.args.self.app)
    ≡ updated_app (staged_progress c.args.self) (app_at (g.D.Disk.medium c.args.disk.now).image c.args.self.app))
    (sym c.deref.ensures.value) (next_committed c.one_root.ensures.again c.roots_say.ensures.alone
    (g.D.Disk.medium c.args.disk.now).image c.args.self.app c.args.self.root c.requires.staged.memory.root
    (c.requires.staged.root_on tells) c.requires.staged.memory.no_previous c.args.self.version
    c.args.self.contents.items c.args.self.built)) (c.in_err-cell.ensures.any_moment tells)

pub returns-in_err-cell-clause-outside : goal.returns-in_err-cell-clause-outside
returns-in_err-cell-clause-outside g c = subst (λ (cs : List (List Fresh)).
    Leaves g.D.Disk.told (IsBesideCommit c.args.self.app (1 - c.args.self.root.bank) c.args.self.built (length cs))
    (g.D.Disk.medium c.args.disk.now) (g.D.Disk.medium c.make_version.new.disk))
    c.deref.ensures.value c.in_err-cell.ensures.outside

pub returns-in_err-cell-clause-root_alone : goal.returns-in_err-cell-clause-root_alone
returns-in_err-cell-clause-root_alone g c = λ none. leaves_root g.D.Disk.told c.args.self.app
    (1 - c.args.self.root.bank) c.args.self.built (length c.deref.result.now) (g.D.Disk.medium c.args.disk.now)
    (g.D.Disk.medium c.make_version.new.disk)
    c.in_err-cell.ensures.outside (subst (λ (cs : List (List Fresh)). length cs ≤ c.args.self.built)
    (sym c.deref.ensures.value) none)

pub returns-clause-any_moment : goal.returns-clause-any_moment
returns-clause-any_moment g c = λ tells. subst (λ (a : App).
    StandsThroughout c.args.self.app a (g.D.Disk.medium c.args.disk.now) (g.D.Disk.medium c.make_version.new.disk))
    (subst (λ (cs : List (List Fresh)). next_app (generation_of c.args.self.root.cell + 1) (1 - c.args.self.root.bank)
    (version_said c.args.self.version) (Some (version_said c.args.self.root.active)) cs
    (app_at (g.D.Disk.medium c.args.disk.now).image c.args.self.app)
    ≡ updated_app (staged_progress c.args.self) (app_at (g.D.Disk.medium c.args.disk.now).image c.args.self.app))
    (sym c.deref.ensures.value) (next_committed c.one_root.ensures.again c.roots_say.ensures.alone
    (g.D.Disk.medium c.args.disk.now).image c.args.self.app c.args.self.root c.requires.staged.memory.root
    (c.requires.staged.root_on tells) c.requires.staged.memory.no_previous c.args.self.version
    c.args.self.contents.items c.args.self.built)) (c.in_ok-cell.ensures.any_moment tells)

pub returns-clause-outside : goal.returns-clause-outside
returns-clause-outside g c = subst (λ (cs : List (List Fresh)).
    Leaves g.D.Disk.told (IsBesideCommit c.args.self.app (1 - c.args.self.root.bank) c.args.self.built (length cs))
    (g.D.Disk.medium c.args.disk.now) (g.D.Disk.medium c.make_version.new.disk))
    c.deref.ensures.value c.in_ok-cell.ensures.outside

pub returns-clause-root_alone : goal.returns-clause-root_alone
returns-clause-root_alone g c = λ none. leaves_root g.D.Disk.told c.args.self.app (1 - c.args.self.root.bank)
    c.args.self.built (length c.deref.result.now) (g.D.Disk.medium c.args.disk.now)
    (g.D.Disk.medium c.make_version.new.disk)
    c.in_ok-cell.ensures.outside (subst (λ (cs : List (List Fresh)). length cs ≤ c.args.self.built)
    (sym c.deref.ensures.value) none)

pub returns-clause-app : goal.returns-clause-app
returns-clause-app g c = λ tells. c.in_ok-cell.ensures.app tells
    ∙ (subst (λ (cs : List (List Fresh)). next_app (generation_of c.args.self.root.cell + 1) (1 - c.args.self.root.bank)
    (version_said c.args.self.version) (Some (version_said c.args.self.root.active)) cs
    (app_at (g.D.Disk.medium c.args.disk.now).image c.args.self.app)
    ≡ updated_app (staged_progress c.args.self) (app_at (g.D.Disk.medium c.args.disk.now).image c.args.self.app))
    (sym c.deref.ensures.value) (next_committed c.one_root.ensures.again c.roots_say.ensures.alone
    (g.D.Disk.medium c.args.disk.now).image c.args.self.app c.args.self.root c.requires.staged.memory.root
    (c.requires.staged.root_on tells) c.requires.staged.memory.no_previous c.args.self.version
    c.args.self.contents.items c.args.self.built))

pub returns-clause-clean : goal.returns-clause-clean
returns-clause-clean g c = λ tells clean. c.in_ok-cell.ensures.clean tells (inr clean)

pub returns-clause-says : goal.returns-clause-says
returns-clause-says g c = says_committed c.args.self.root
    (record {
      cell = c.in_ok-cell.cell;
      bank = 1 - c.args.self.root.bank;
      active = c.args.self.version;
      previous =
          Some c.args.self.root.active;
    }) c.args.self.version c.args.self.contents.items c.args.self.built
    c.requires.staged.memory.root.1.in_bank c.requires.staged.memory.no_previous c.in_ok-cell.ensures.next.counts refl
    refl refl

pub returns-clause-root : goal.returns-clause-root
returns-clause-root g c = root_written g.D.Disk.told (g.D.Disk.medium c.make_version.new.disk).image c.args.self.app
    (generation_of c.args.self.root.cell) (record {
      cell = c.in_ok-cell.cell;
      bank = 1 - c.args.self.root.bank;
      active =
          c.args.self.version;
      previous = Some c.args.self.root.active;
    })
    c.in_ok-cell.ensures.next (omega arith) c.requires.staged.memory.offers c.requires.staged.memory.root.1.active
    c.in_ok-cell.ensures.held

pub returns-in_err-cell-clause-places : goal.returns-in_err-cell-clause-places
returns-in_err-cell-clause-places g c = c.in_err-cell.ensures.places

pub returns-in_err-cell-clause-written : goal.returns-in_err-cell-clause-written
returns-in_err-cell-clause-written g c = committed_written c.args.self c.deref.result.now _ _ c.deref.ensures.value
    c.requires.staged.memory.no_previous c.in_err-cell.ensures.written

pub returns-clause-places : goal.returns-clause-places
returns-clause-places g c = c.in_ok-cell.ensures.places

pub returns-clause-written : goal.returns-clause-written
returns-clause-written g c = committed_written c.args.self c.deref.result.now _ _ c.deref.ensures.value
    c.requires.staged.memory.no_previous c.in_ok-cell.ensures.written

pub returns-in_err-cell-clause-last : goal.returns-in_err-cell-clause-last
returns-in_err-cell-clause-last g c = committed_last g.D.Disk.medium g.D.Disk.told c.args.self c.deref.result.now
    c.args.disk.now c.make_version.new.disk c.deref.ensures.value c.requires.staged.memory.no_previous
    c.in_err-cell.ensures.last

pub returns-clause-last : goal.returns-clause-last
returns-clause-last g c = committed_last g.D.Disk.medium g.D.Disk.told c.args.self c.deref.result.now
    c.args.disk.now c.make_version.new.disk c.deref.ensures.value c.requires.staged.memory.no_previous
    c.in_ok-cell.ensures.last
