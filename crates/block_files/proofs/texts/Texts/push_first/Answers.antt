use Rattle.std.proofs.Common.{◌∙◌, ℕ, Vec, Global, ap, sym}
use Rattle.std.specs.Option.{option_map}
use Rattle.block_files.specs.declared.texts.Given.TheVariants.{First}
use Rattle.block_files.specs.Contents.{first_content}
use Rattle.block_files.proofs.Shared.{first_is, pushed_again, seen_later}
use Rattle.block_files.proofs.texts.Texts.push_first.Goals as goal

pub invariant_of-self-2 : goal.invariant_of-self-2
invariant_of-self-2 c =
    let first = option_map (λ (f : Vec ℕ Global). f.items) c.self.inside.first in
    rw c.in_ok-push.ensures.items (pushed_again first c.self.inside.given.items
    (λ none. c.requires (sym (ap first_content c.self.view_is) ∙ none)) c.self.invariant)

pub returns : goal.returns
returns c =
    let first = option_map (λ (f : Vec ℕ Global). f.items) c.self.inside.first in
    let given = c.self.inside.given.items in
    rw c.in_ok-push.ensures.items (seen_later first (first_content c.args.self.now) given First c.args.self.now
    c.self.view_is (sym (first_is first given c.self.invariant) ∙ ap first_content c.self.view_is))
