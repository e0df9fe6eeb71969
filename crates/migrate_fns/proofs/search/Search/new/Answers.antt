use Rattle.std.proofs.Common.{map}
use Rattle.value_model.specs.Views.{kind_of}
use Rattle.migrate_fns.specs.Stored.{rule_of}
use Rattle.migrate_fns.proofs.TypeNumbers.{numbers, still_links}
use Rattle.migrate_fns.proofs.search.Search.new.Goals as goal

pub invariant_of-result : goal.invariant_of-result
invariant_of-result g c = let h1 = c.in_ok-links in let h2 = c.in_ok-start in let h3 = c.in_ok-end in record {
  differ = c.number-2.ensures.differ;
  count = c.in_ok-links.ensures.count;
  linked = still_links c.args.element.now (map rule_of c.args.list.now) c.links.new.types c.number-2.new.self
      c.in_ok-links.links.items c.in_ok-links.ensures.links
      (λ i k at. c.number-2.ensures.kept i k (c.number.ensures.kept i k at));
  begins = numbers c.number-2.new.self (kind_of c.args.from.now) c.in_ok-start.start
      (c.number-2.ensures.kept c.in_ok-start.start (kind_of c.args.from.now) c.in_ok-start.ensures.number);
  ends = numbers c.number-2.new.self (kind_of c.args.to.now) c.in_ok-end.end c.in_ok-end.ensures.number;
}
