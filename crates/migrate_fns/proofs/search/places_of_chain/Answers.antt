use Rattle.std.proofs.Common.{◌≡◌, ℕ, List, ap, ◌∙◌, map}
use Rattle.value_model.specs.Kinds.{Kind}
use Rattle.value_model.specs.Views.{kind_of}
use Rattle.migrate_fns.specs.Chains.{chain_of}
use Rattle.migrate_fns.specs.Rules.{Rule}
use Rattle.migrate_fns.specs.Stored.{rule_of}
use Rattle.migrate_fns.proofs.search.places_of_chain.Goals as goal

-- equal searches find equal chains
same_chain : (rs qs : List Rule) (e d : List ℕ) (f g t u : Kind) → rs ≡ qs → e ≡ d → f ≡ g → t ≡ u
    → chain_of rs e f t ≡ chain_of qs d g u
same_chain rs qs e d f g t u a b h k = cc

pub returns : goal.returns
returns g c =
    c.in_ok-places.ensures
    ∙ same_chain (map rule_of c.in_ok-search.search.list.now) (map rule_of c.args.list.now)
    c.in_ok-search.search.element.now c.args.element.now (kind_of c.in_ok-search.search.from.now)
    (kind_of c.args.from.now) (kind_of c.in_ok-search.search.to.now) (kind_of c.args.to.now)
    (ap (λ ms. map rule_of ms) c.in_ok-search.ensures.list) c.in_ok-search.ensures.element
    (ap (λ t. kind_of t) c.in_ok-search.ensures.from) (ap (λ t. kind_of t) c.in_ok-search.ensures.to)
