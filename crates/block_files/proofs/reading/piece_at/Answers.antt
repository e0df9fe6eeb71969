use Rattle.std.proofs.Common.{◌≡◌, ◌∙◌, ◌*◌, min, length, take, drop, ap, arith}
use Rattle.std.proofs.lemmas.List.{take_rest, take_min}
use Rattle.block_files.proofs.reading.piece_at.Goals as goal

pub returns : goal.returns
returns c =
    let bytes = c.args.bytes.now in
    let rest = drop (65536 * c.args.i) bytes in
    let whole = take_rest bytes (65536 * c.args.i) in
    let most : c.min.result ≡ min 65536 (length rest) = omega (arith, c.min.ensures, ap length whole) in
    ap (take c.min.result) whole ∙ ap (λ n. take n rest) most ∙ take_min 65536 rest
