use Rattle.std.proofs.Common.{rules}
use Rattle.per_base.specs.Names.{name_cmp}
use Rattle.element_store.proofs.InOrder.{answers_so, placed_by}
use Rattle.element_store.proofs.named.place_of.Goals as goal

pub returns : goal.returns
returns g c = placed_by g.N.Named.name_of c.args.name.now c.args.items.now c.requires c.binary_search_by.result
    c.binary_search_by.ensures.bound
    (c.binary_search_by.ensures.position (λ x. name_cmp (g.N.Named.name_of x) c.args.name.now)
    (answers_so _ _ (λ x. name_cmp (g.N.Named.name_of x) c.args.name.now) (λ a r f called. search rules)))
