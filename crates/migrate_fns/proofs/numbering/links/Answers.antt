use Rattle.std.proofs.Common.{ap, sym, subst, ◌∙◌, map, length, arith}
use Rattle.migrate_fns.specs.Links.{AreLinks}
use Rattle.migrate_fns.specs.Stored.{rule_of}
use Rattle.migrate_fns.specs.lemmas.Facts.{mapped_at}
use Rattle.migrate_fns.proofs.Levels.{push_length}
use Rattle.migrate_fns.proofs.TypeNumbers.{links_push}
use Rattle.migrate_fns.proofs.numbering.links.Goals as goal

pub loop-place-preserved : goal.loop-place-preserved
loop-place-preserved g c = (
  subst (λ ls. AreLinks (map rule_of c.args.list.now) c.args.element.now c.link_of.new.types ls)
      (sym c.in_ok-push.ensures.items)
      (links_push c.args.element.now (map rule_of c.args.list.now) c.loop-place.types c.link_of.new.types
      c.loop-place.links.items c.loop-place.place (rule_of c.index-list-place.result) c.in_ok-link_of.field-0
      c.loop-place.invariant.0 c.link_of.ensures.kept c.loop-place.invariant.1
      (mapped_at rule_of c.args.list.now c.loop-place.place c.index-list-place.result c.loop-place-test.true
      c.index-list-place.is) c.in_ok-link_of.ensures.link),
  ap (λ ls. length ls) c.in_ok-push.ensures.items
      ∙ push_length c.loop-place.links.items c.in_ok-link_of.field-0 c.loop-place.place c.loop-place.invariant.1
      ∙ omega arith,
  (λ i k at. c.link_of.ensures.kept i k (c.loop-place.invariant.2 i k at)),
)
