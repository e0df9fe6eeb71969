use Rattle.std.proofs.Common.{◌∙◌, ℕ, Option, Vec, Global, ap, map, sym}
use Rattle.block_files.specs.Texts.{given_in}
use Rattle.std.specs.Option.{option_map}
use Rattle.block_files.proofs.Shared.{pushed_first, pushed_later, pushed_nothing, seen_first}
use Rattle.block_files.proofs.texts.Texts.push.Goals as goal

pub invariant_of-self-in_default : goal.invariant_of-self-in_default
invariant_of-self-in_default c = rw c.in_ok-push.ensures.items (pushed_nothing _ _ c.self.invariant)

pub invariant_of-self-in-None : goal.invariant_of-self-in-None
invariant_of-self-in-None c = rw c.in_ok-push-in-None.ensures.items (pushed_first c.in-Some.bytes.items _
    (rw c.in-None.is at c.self.invariant))

pub invariant_of-self-in-Some-first : goal.invariant_of-self-in-Some-first
invariant_of-self-in-Some-first c = rw c.in_ok-push-in-Some-first.ensures.items (
    pushed_later _ c.in-Some-first.field-0.items _ _
    (ap (λ (first : Option (Vec ℕ Global)). option_map (λ f. f.items) first) c.in-Some-first.is) c.self.invariant)

pub returns-in_ok-push-in-None : goal.returns-in_ok-push-in-None
returns-in_ok-push-in-None c = rw (c.in_ok-push-in-None.ensures.items, c.in-Some.is)
    (seen_first c.in-Some.bytes.items c.self.inside.given.items c.args.self.now (rw c.in-None.is at c.self.invariant)
    (ap (λ (first : Option (Vec ℕ Global)). map (given_in (option_map (λ f. f.items) first)) c.self.inside.given.items)
    (sym c.in-None.is) ∙ c.self.view_is))
