use Rattle.std.proofs.Common.{sym, ◌∙◌, refl}
use Rattle.value_model.specs.Views.{kind_of}
use Rattle.migrate_fns.specs.Stored.{rule_of}
use Rattle.migrate_fns.proofs.TypeNumbers.{is_linked_by}
use Rattle.migrate_fns.proofs.numbering.link_of.Goals as goal

pub returns-clause-link : goal.returns-clause-link
returns-clause-link g c =
    is_linked_by c.args.element.now c.number-2.new.self c.args.place (rule_of c.args.migration.now)
    record { place = c.args.place; from = c.in_ok-from.from; to = c.in_ok-to.to }
    record {
      named = sym c.is_for.ensures ∙ c.if-not-is_for.false;
      place = refl;
      from = c.number-2.ensures.kept c.in_ok-from.from (kind_of c.args.migration.now.from)
          c.in_ok-from.ensures.number;
      to = c.in_ok-to.ensures.number;
    }
