use Rattle.std.proofs.Common.{sym, subst, ◌∙◌}
use Rattle.std.specs.Prelude.{Option}
use Rattle.disk_model.specs.Laws.{elapses_none}
use Rattle.disk_model.specs.Place.{IsOutside}
use Rattle.element_state.specs.declared.shapes.View.{View}
use Rattle.element_state.specs.Kept.{KeptThroughout}
use Rattle.element_state.specs.States.{State, store_at}
use Rattle.element_store.specs.Rebuilds.{HasNext}
use Rattle.deploy_rows.specs.Recovering.{after_state, rebuilding}
use Rattle.element_laws.specs.lemmas.Untouched.{none_kept}
use Rattle.deploy.proofs.Recoveries.{has_next, next_answers, none_leaves, rebuilt_next, worn_answers}
use Rattle.deploy.proofs.Recoveries.{worn_stays}
use Rattle.deploy.proofs.recovering.rebuild_over.Goals as goal

-- where no generation is left

pub returns-then-is_worn_out-clause-refused : goal.returns-then-is_worn_out-clause-refused
returns-then-is_worn_out-clause-refused g c = worn_answers c.args.view.now c.args.contents.items c.worn_out.result
    c.worn_out.ensures (sym c.is_worn_out.ensures ∙ c.if-is_worn_out.true)

pub returns-then-is_worn_out-clause-state : goal.returns-then-is_worn_out-clause-state
returns-then-is_worn_out-clause-state g c = λ tells. worn_stays
    (store_at (g.D.Disk.medium c.args.disk.now).image c.args.shape.now) c.args.view.now c.args.contents.items
    (c.requires.read tells) (sym c.is_worn_out.ensures ∙ c.if-is_worn_out.true)

pub returns-then-is_worn_out-clause-outside : goal.returns-then-is_worn_out-clause-outside
returns-then-is_worn_out-clause-outside g c = none_leaves g.D.Disk.told
    (IsOutside c.args.shape.now.place) (g.D.Disk.medium c.args.disk.now)
    (g.met.D.Disk.lawful c.args.disk.now)

pub returns-then-is_worn_out-clause-any_moment : goal.returns-then-is_worn_out-clause-any_moment
returns-then-is_worn_out-clause-any_moment g c = λ tells.
    none_kept c.untouched_is_kept.ensures.untouched g.D.Disk.told c.args.shape.now
    (after_state (store_at (g.D.Disk.medium c.args.disk.now).image c.args.shape.now)
    (rebuilding (store_at (g.D.Disk.medium c.args.disk.now).image c.args.shape.now) c.args.contents.items))
    (g.D.Disk.medium c.args.disk.now) c.requires.shape (g.met.D.Disk.lawful c.args.disk.now)

pub returns-then-is_worn_out-clause-time : goal.returns-then-is_worn_out-clause-time
returns-then-is_worn_out-clause-time g c = elapses_none (g.met.D.Disk.lawful c.args.disk.now)

-- where one is

pub rebuild-requires-clause-not_worn : goal.rebuild-requires-clause-not_worn
rebuild-requires-clause-not_worn g c = λ tells. subst (λ (v : Option View). HasNext v) (c.requires.read tells)
    (has_next c.args.view.now (sym c.is_worn_out.ensures ∙ c.if-is_worn_out.false))

pub returns-in_err-rebuild-clause-outside : goal.returns-in_err-rebuild-clause-outside
returns-in_err-rebuild-clause-outside g c = record {
  at_the_end = c.in_err-rebuild.ensures.elsewhere;
  throughout =
      c.in_err-rebuild.ensures.outside;
}

pub returns-in_err-rebuild-clause-any_moment : goal.returns-in_err-rebuild-clause-any_moment
returns-in_err-rebuild-clause-any_moment g c = λ tells.
    subst (λ (s : State). KeptThroughout c.args.shape.now s (g.D.Disk.medium c.args.disk.now)
    (g.D.Disk.medium c.rebuild.new.disk))
    (sym (rebuilt_next (store_at (g.D.Disk.medium c.args.disk.now).image c.args.shape.now) c.args.view.now
    c.args.contents.items (c.requires.read tells) (sym c.is_worn_out.ensures ∙ c.if-is_worn_out.false)))
    (c.in_err-rebuild.ensures.any_moment tells)

pub returns-clause-refused : goal.returns-clause-refused
returns-clause-refused g c = next_answers c.args.view.now c.args.contents.items
    (sym c.is_worn_out.ensures ∙ c.if-is_worn_out.false)

pub returns-clause-state : goal.returns-clause-state
returns-clause-state g c = λ tells. c.in_ok-rebuild.ensures.opens tells
    ∙ sym (rebuilt_next (store_at (g.D.Disk.medium c.args.disk.now).image c.args.shape.now) c.args.view.now
    c.args.contents.items (c.requires.read tells) (sym c.is_worn_out.ensures ∙ c.if-is_worn_out.false))

pub returns-clause-outside : goal.returns-clause-outside
returns-clause-outside g c = record {
  at_the_end = c.in_ok-rebuild.ensures.elsewhere;
  throughout =
      c.in_ok-rebuild.ensures.outside;
}

pub returns-clause-any_moment : goal.returns-clause-any_moment
returns-clause-any_moment g c = λ tells. subst (λ (s : State).
    KeptThroughout c.args.shape.now s (g.D.Disk.medium c.args.disk.now) (g.D.Disk.medium c.rebuild.new.disk))
    (sym (rebuilt_next (store_at (g.D.Disk.medium c.args.disk.now).image c.args.shape.now) c.args.view.now
    c.args.contents.items (c.requires.read tells) (sym c.is_worn_out.ensures ∙ c.if-is_worn_out.false)))
    (c.in_ok-rebuild.ensures.any_moment tells)
