use Rattle.std.proofs.Common.{◌≡◌, ◌∙◌, ap}
use Rattle.value_text.specs.Texts.{hex_text}
use Rattle.value_text.specs.Whole.{bytes_in}
use Rattle.value_text.specs.lemmas.WholeLaws.{bytes_in_takes, bytes_in_again, found, only}
use Rattle.value_text.proofs.whole.parse_hex_reusing.Goals as goal

pub returns-clause-found : goal.returns-clause-found
returns-clause-found c =
    found (λ b. c.args.text.now ≡ hex_text b) (bytes_in c.args.text.now)
    (λ b e. (bytes_in_takes c.args.text.now b e).0)
    c.bytes_in.result c.bytes_in.ensures

pub returns-clause-only : goal.returns-clause-only
returns-clause-only c = λ e b fits same.
    only (bytes_in c.args.text.now) c.bytes_in.result c.bytes_in.ensures e b
    (ap bytes_in same ∙ bytes_in_again b fits)
