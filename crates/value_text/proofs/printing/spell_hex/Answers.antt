use Rattle.std.proofs.Common.{◌∙◌, arith}
use Rattle.value_text.proofs.Spelled.{same_digits, where_ok}
use Rattle.value_text.proofs.printing.spell_hex.Goals as goal

pub returns : goal.returns
returns c = where_ok c.encode_to_slice.result (c.encode_to_slice.ensures.fits.1 c.requires)
    c.encode_to_slice.ensures.written ∙ same_digits c.args.bytes.now (λ i. omega (arith, c.type_inv.bytes i))
