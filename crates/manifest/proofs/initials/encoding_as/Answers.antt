use Rattle.std.proofs.Common.{sym, arith}
use Rattle.manifest.proofs.TypeLaws.{of_another_type}
use Rattle.manifest.proofs.initials.encoding_as.Goals as goal

pub returns-then-not-has_type : goal.returns-then-not-has_type
returns-then-not-has_type c = sym (of_another_type _ _ c.requires.typed c.requires.valid
    (λ same. let yes = c.has_type.ensures.1 same in let no = c.if-not-has_type.true in grind arith))
