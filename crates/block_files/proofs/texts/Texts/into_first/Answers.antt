use Rattle.std.proofs.Common.{◌∙◌, ap, sym}
use Rattle.block_files.specs.Contents.{first_content}
use Rattle.block_files.proofs.Shared.{first_is}
use Rattle.block_files.proofs.texts.Texts.into_first.Goals as goal

pub returns : goal.returns
returns c = sym (first_is _ _ c.self.invariant) ∙ ap first_content c.self.view_is
