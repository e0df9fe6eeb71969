use Rattle.std.proofs.Common.{◌∙◌, ℕ, Option, Vec, Global, ap, sym}
use Rattle.std.specs.Option.{option_map}
use Rattle.block_files.specs.Contents.{first_content}
use Rattle.block_files.proofs.Shared.{first_is}
use Rattle.block_files.proofs.texts.Texts.first.Goals as goal

pub returns-in-None : goal.returns-in-None
returns-in-None c = sym (ap (λ (first : Option (Vec ℕ Global)). option_map (λ f. f.items) first) c.in-None.is)
    ∙ sym (first_is _ _ c.self.invariant) ∙ ap first_content c.self.view_is
