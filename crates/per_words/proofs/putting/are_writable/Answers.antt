use Rattle.std.proofs.Common.{◌∙◌, refl, sym}
use Rattle.per_words.proofs.Written.{all_written}
use Rattle.per_words.proofs.putting.are_writable.Goals as goal

pub returns-in-Ok-clause-lines : goal.returns-in-Ok-clause-lines
returns-in-Ok-clause-lines c = λ same.
    let are = c.if-not-are_pieces.ensures in
    all_written c.args.digit c.args.storage.now _ (are.low refl) (are.high refl) (sym c.in-Ok.ensures ∙ same)
    (are.short refl)
