use Rattle.std.proofs.Common.{sym, ap, ◌∙◌, subst}
use Rattle.deploy.specs.declared.roots.Outcome.{Outcome}
use Rattle.deploy.specs.Roots.{RootAt, root_says}
use Rattle.deploy.proofs.Emptying.{first_app, first_clean, first_outside, first_root, first_root_says, first_stands}
use Rattle.deploy.proofs.Emptying.{next_app, next_clean, next_held, next_left, next_outside, next_root, next_root_says}
use Rattle.deploy.proofs.Emptying.{next_stands}
use Rattle.deploy.proofs.RootLens.{emptied_cost, placed_cost, some_placed}
use Rattle.deploy.proofs.wiping.empty.Goals as goal

pub returns-in_ok-cell-in-None-clause-root : goal.returns-in_ok-cell-in-None-clause-root
returns-in_ok-cell-in-None-clause-root g c = subst (λ (o : Outcome).
    RootAt g.D.Disk.told (g.D.Disk.medium c.format_root.new.disk).image c.args.app o.root) (sym c.emptied.ensures)
    (first_root g.D.Disk.told c.args.app c.requires.app c.args.register (g.D.Disk.medium c.args.disk.now)
    (g.D.Disk.medium c.format_root.new.disk) c.requires.register c.in-None.is c.in_ok-cell-in-None.cell
    c.in_ok-cell-in-None.ensures.cell c.in_ok-cell-in-None.ensures.held c.in_ok-cell-in-None.ensures.elsewhere)

pub returns-in_ok-cell-in-None-clause-says : goal.returns-in_ok-cell-in-None-clause-says
returns-in_ok-cell-in-None-clause-says g c = ap (λ (o : Outcome). root_says o.root) c.emptied.ensures
    ∙ first_root_says g.D.Disk.told c.args.app c.requires.app c.args.register (g.D.Disk.medium c.args.disk.now)
    (g.D.Disk.medium c.format_root.new.disk) c.requires.register c.in-None.is c.in_ok-cell-in-None.cell
    c.in_ok-cell-in-None.ensures.cell c.in_ok-cell-in-None.ensures.held c.in_ok-cell-in-None.ensures.elsewhere

pub returns-in_ok-cell-in-None-clause-done : goal.returns-in_ok-cell-in-None-clause-done
returns-in_ok-cell-in-None-clause-done g c = ap (λ (o : Outcome). o.refused) c.emptied.ensures

pub returns-in_ok-cell-in-None-clause-app : goal.returns-in_ok-cell-in-None-clause-app
returns-in_ok-cell-in-None-clause-app g c = λ tells. first_app g.D.Disk.told c.args.app c.requires.app c.args.register
    (g.D.Disk.medium c.args.disk.now) (g.D.Disk.medium c.format_root.new.disk) c.requires.register c.in-None.is
    c.in_ok-cell-in-None.cell c.in_ok-cell-in-None.ensures.cell c.in_ok-cell-in-None.ensures.held
    c.in_ok-cell-in-None.ensures.elsewhere
    (record {
      again = c.one_root.ensures.again;
      alone = c.roots_say.ensures.alone;
      versions =
          c.roots_say.ensures.versions;
      slots = c.files_lie_apart.ensures.slots;
      aside =
          c.others_stand.ensures.root;
      clean = c.roots_say.ensures.clean;
    }) tells

pub returns-in_ok-cell-in-None-clause-clean : goal.returns-in_ok-cell-in-None-clause-clean
returns-in_ok-cell-in-None-clause-clean g c = λ tells.
    first_clean g.D.Disk.told c.args.app c.requires.app c.args.register (g.D.Disk.medium c.args.disk.now)
    (g.D.Disk.medium c.format_root.new.disk) c.requires.register c.in-None.is c.in_ok-cell-in-None.cell
    c.in_ok-cell-in-None.ensures.cell c.in_ok-cell-in-None.ensures.held c.in_ok-cell-in-None.ensures.elsewhere
    (record {
      again = c.one_root.ensures.again;
      alone = c.roots_say.ensures.alone;
      versions =
          c.roots_say.ensures.versions;
      slots = c.files_lie_apart.ensures.slots;
      aside =
          c.others_stand.ensures.root;
      clean = c.roots_say.ensures.clean;
    }) tells

pub returns-in_ok-cell-in-None-clause-outside : goal.returns-in_ok-cell-in-None-clause-outside
returns-in_ok-cell-in-None-clause-outside g c = first_outside g.D.Disk.told c.args.app c.requires.app c.args.register
    (g.D.Disk.medium c.args.disk.now) (g.D.Disk.medium c.format_root.new.disk) c.requires.register c.in-None.is
    c.in_ok-cell-in-None.ensures.any_moment c.in_ok-cell-in-None.ensures.elsewhere

pub returns-in_ok-cell-in-None-clause-any_moment : goal.returns-in_ok-cell-in-None-clause-any_moment
returns-in_ok-cell-in-None-clause-any_moment g c = λ tells.
    first_stands g.D.Disk.told c.args.app c.requires.app c.args.register (g.D.Disk.medium c.args.disk.now)
    (g.D.Disk.medium c.format_root.new.disk) c.requires.register c.in-None.is c.in_ok-cell-in-None.ensures.any_moment
    c.one_root.ensures.again c.deploying_stands.ensures.formatting tells

pub returns-in_err-cell-in-None-clause-outside : goal.returns-in_err-cell-in-None-clause-outside
returns-in_err-cell-in-None-clause-outside g c = first_outside g.D.Disk.told c.args.app c.requires.app c.args.register
    (g.D.Disk.medium c.args.disk.now) (g.D.Disk.medium c.format_root.new.disk) c.requires.register c.in-None.is
    c.in_err-cell-in-None.ensures.any_moment c.in_err-cell-in-None.ensures.elsewhere

pub returns-in_err-cell-in-None-clause-any_moment : goal.returns-in_err-cell-in-None-clause-any_moment
returns-in_err-cell-in-None-clause-any_moment g c = λ tells.
    first_stands g.D.Disk.told c.args.app c.requires.app c.args.register (g.D.Disk.medium c.args.disk.now)
    (g.D.Disk.medium c.format_root.new.disk) c.requires.register c.in-None.is c.in_err-cell-in-None.ensures.any_moment
    c.one_root.ensures.again c.deploying_stands.ensures.formatting tells

pub write_none-requires-clause-generation : goal.write_none-requires-clause-generation
write_none-requires-clause-generation g c = next_left g.D.Disk.told c.args.app c.requires.app c.args.register
    (g.D.Disk.medium c.args.disk.now) (g.D.Disk.medium c.args.disk.now) c.requires.register c.in-Some.cell c.in-Some.is

pub write_none-requires-clause-held : goal.write_none-requires-clause-held
write_none-requires-clause-held g c = next_held g.D.Disk.told c.args.app c.requires.app c.args.register
    (g.D.Disk.medium c.args.disk.now) (g.D.Disk.medium c.args.disk.now) c.requires.register c.in-Some.cell c.in-Some.is

pub returns-in_ok-cell-in-Some-clause-root : goal.returns-in_ok-cell-in-Some-clause-root
returns-in_ok-cell-in-Some-clause-root g c = subst (λ (o : Outcome).
    RootAt g.D.Disk.told (g.D.Disk.medium c.write_none.new.disk).image c.args.app o.root)
    (sym c.emptied-in-Some.ensures)
    (next_root g.D.Disk.told c.args.app c.requires.app c.args.register (g.D.Disk.medium c.args.disk.now)
    (g.D.Disk.medium c.write_none.new.disk) c.requires.register c.in-Some.cell c.in-Some.is
    c.in_ok-cell-in-Some.cell c.in_ok-cell-in-Some.ensures.next c.in_ok-cell-in-Some.ensures.held
    c.in_ok-cell-in-Some.ensures.elsewhere)

pub returns-in_ok-cell-in-Some-clause-says : goal.returns-in_ok-cell-in-Some-clause-says
returns-in_ok-cell-in-Some-clause-says g c = ap (λ (o : Outcome). root_says o.root) c.emptied-in-Some.ensures
    ∙ next_root_says g.D.Disk.told c.args.app c.requires.app c.args.register (g.D.Disk.medium c.args.disk.now)
    (g.D.Disk.medium c.write_none.new.disk) c.requires.register c.in-Some.cell c.in-Some.is c.in_ok-cell-in-Some.cell
    c.in_ok-cell-in-Some.ensures.next c.in_ok-cell-in-Some.ensures.held c.in_ok-cell-in-Some.ensures.elsewhere

pub returns-in_ok-cell-in-Some-clause-done : goal.returns-in_ok-cell-in-Some-clause-done
returns-in_ok-cell-in-Some-clause-done g c = ap (λ (o : Outcome). o.refused) c.emptied-in-Some.ensures

pub returns-in_ok-cell-in-Some-clause-app : goal.returns-in_ok-cell-in-Some-clause-app
returns-in_ok-cell-in-Some-clause-app g c = λ tells. next_app g.D.Disk.told c.args.app c.requires.app c.args.register
    (g.D.Disk.medium c.args.disk.now) (g.D.Disk.medium c.write_none.new.disk) c.requires.register c.in-Some.cell
    c.in-Some.is c.in_ok-cell-in-Some.cell c.in_ok-cell-in-Some.ensures.next c.in_ok-cell-in-Some.ensures.held
    c.in_ok-cell-in-Some.ensures.elsewhere
    (record {
      again = c.one_root.ensures.again;
      alone = c.roots_say.ensures.alone;
      versions =
          c.roots_say.ensures.versions;
      slots = c.files_lie_apart.ensures.slots;
      aside =
          c.others_stand.ensures.root;
      clean = c.roots_say.ensures.clean;
    }) tells

pub returns-in_ok-cell-in-Some-clause-clean : goal.returns-in_ok-cell-in-Some-clause-clean
returns-in_ok-cell-in-Some-clause-clean g c = λ tells.
    next_clean g.D.Disk.told c.args.app c.requires.app c.args.register (g.D.Disk.medium c.args.disk.now)
    (g.D.Disk.medium c.write_none.new.disk) c.requires.register c.in-Some.cell c.in-Some.is c.in_ok-cell-in-Some.cell
    c.in_ok-cell-in-Some.ensures.next c.in_ok-cell-in-Some.ensures.held c.in_ok-cell-in-Some.ensures.elsewhere
    (record {
      again = c.one_root.ensures.again;
      alone = c.roots_say.ensures.alone;
      versions =
          c.roots_say.ensures.versions;
      slots = c.files_lie_apart.ensures.slots;
      aside =
          c.others_stand.ensures.root;
      clean = c.roots_say.ensures.clean;
    }) tells

pub returns-in_ok-cell-in-Some-clause-outside : goal.returns-in_ok-cell-in-Some-clause-outside
returns-in_ok-cell-in-Some-clause-outside g c = next_outside g.D.Disk.told c.args.app c.requires.app c.args.register
    (g.D.Disk.medium c.args.disk.now) (g.D.Disk.medium c.write_none.new.disk) c.requires.register c.in-Some.cell
    c.in-Some.is c.in_ok-cell-in-Some.ensures.any_moment c.one_root.ensures.again c.in_ok-cell-in-Some.ensures.elsewhere

pub returns-in_ok-cell-in-Some-clause-any_moment : goal.returns-in_ok-cell-in-Some-clause-any_moment
returns-in_ok-cell-in-Some-clause-any_moment g c = λ tells.
    next_stands g.D.Disk.told c.args.app c.requires.app c.args.register (g.D.Disk.medium c.args.disk.now)
    (g.D.Disk.medium c.write_none.new.disk) c.requires.register c.in-Some.cell c.in-Some.is
    c.in_ok-cell-in-Some.ensures.any_moment c.one_root.ensures.again c.deploying_stands.ensures.writing tells

pub returns-in_err-cell-in-Some-clause-outside : goal.returns-in_err-cell-in-Some-clause-outside
returns-in_err-cell-in-Some-clause-outside g c = next_outside g.D.Disk.told c.args.app c.requires.app c.args.register
    (g.D.Disk.medium c.args.disk.now) (g.D.Disk.medium c.write_none.new.disk) c.requires.register c.in-Some.cell
    c.in-Some.is c.in_err-cell-in-Some.ensures.any_moment c.one_root.ensures.again
    c.in_err-cell-in-Some.ensures.elsewhere

pub returns-in_err-cell-in-Some-clause-any_moment : goal.returns-in_err-cell-in-Some-clause-any_moment
returns-in_err-cell-in-Some-clause-any_moment g c = λ tells.
    next_stands g.D.Disk.told c.args.app c.requires.app c.args.register (g.D.Disk.medium c.args.disk.now)
    (g.D.Disk.medium c.write_none.new.disk) c.requires.register c.in-Some.cell c.in-Some.is
    c.in_err-cell-in-Some.ensures.any_moment c.one_root.ensures.again c.deploying_stands.ensures.writing tells

pub returns-in_ok-cell-in-None-clause-written : goal.returns-in_ok-cell-in-None-clause-written
returns-in_ok-cell-in-None-clause-written g c = λ some. absurd (some c.in-None.is)

pub returns-in_ok-cell-in-None-clause-at_most : goal.returns-in_ok-cell-in-None-clause-at_most
returns-in_ok-cell-in-None-clause-at_most g c = c.format_root.ensures.written

pub returns-in_ok-cell-in-Some-clause-written : goal.returns-in_ok-cell-in-Some-clause-written
returns-in_ok-cell-in-Some-clause-written g c = λ some. placed_cost _ c.args.app _ _ _
    (some_placed g.D.Disk.told (g.D.Disk.medium c.args.disk.now).image c.args.app c.args.register c.in-Some.cell
    c.in-Some.is c.requires.register) c.write_none.ensures.written

pub returns-in_ok-cell-in-Some-clause-at_most : goal.returns-in_ok-cell-in-Some-clause-at_most
returns-in_ok-cell-in-Some-clause-at_most g c = emptied_cost _ _ (placed_cost _ c.args.app _ _ _
    (some_placed g.D.Disk.told (g.D.Disk.medium c.args.disk.now).image c.args.app c.args.register c.in-Some.cell
    c.in-Some.is c.requires.register) c.write_none.ensures.written)

pub returns-in_err-cell-in-None-clause-written : goal.returns-in_err-cell-in-None-clause-written
returns-in_err-cell-in-None-clause-written g c = λ some. absurd (some c.in-None.is)

pub returns-in_err-cell-in-None-clause-at_most : goal.returns-in_err-cell-in-None-clause-at_most
returns-in_err-cell-in-None-clause-at_most g c = c.format_root.ensures.written

pub returns-in_err-cell-in-Some-clause-written : goal.returns-in_err-cell-in-Some-clause-written
returns-in_err-cell-in-Some-clause-written g c = λ some. placed_cost _ c.args.app _ _ _
    (some_placed g.D.Disk.told (g.D.Disk.medium c.args.disk.now).image c.args.app c.args.register c.in-Some.cell
    c.in-Some.is c.requires.register) c.write_none.ensures.written

pub returns-in_err-cell-in-Some-clause-at_most : goal.returns-in_err-cell-in-Some-clause-at_most
returns-in_err-cell-in-Some-clause-at_most g c = emptied_cost _ _ (placed_cost _ c.args.app _ _ _
    (some_placed g.D.Disk.told (g.D.Disk.medium c.args.disk.now).image c.args.app c.args.register c.in-Some.cell
    c.in-Some.is c.requires.register) c.write_none.ensures.written)
