-- Bytes that are spelled and written in pieces.
use Rattle.std.proofs.Common.{◌≡◌, ◌≤◌, ◌+◌, ◌++◌, ◌∙◌, ℕ, List, [], ◌∷◌, Option, Result, OnErr, ap, arith, codes, drop}
use Rattle.std.proofs.Common.{length, refl, sym, take}
use Rattle.std.proofs.Math.Seq.{take-append-add}
use Rattle.std.proofs.KnownBytes.{Appends-trans}
use Rattle.std.proofs.lemmas.Grind.{flat_map-append}
use Rattle.std.proofs.lemmas.List.{length-append, take-append-drop, take-append-le}
use Rattle.std.proofs.lemmas.Result.{on_err_weaker}
use Rattle.std.specs.Io.KnownBytes.{Appends}
use Rattle.value_text.specs.Texts.{hex_byte_text, hex_text}
use Rattle.command_text.specs.Replies.{octets_text}
use Rattle.per_run.specs.Jobs.{WroteProperPrefix}

-- those of bytes in two parts
pub both_digits : (bytes front back : List ℕ) (count : ℕ) → front ≡ take count bytes → back ≡ drop count bytes
    → hex_text front ++ hex_text back ≡ hex_text bytes
both_digits bytes front back count p q = rw (p, q) (sym (flat_map-append hex_byte_text (take count bytes)
    (drop count bytes)) ∙ ap hex_text (take-append-drop count bytes))

-- a line with bytes
pub octets_are : (bytes : List ℕ) → 1 ≤ length bytes
    → octets_text bytes ++ 10 ∷ [] ≡ codes "bytes " ++ (hex_text bytes ++ 10 ∷ [])
octets_are [] some = absurd (omega (arith, some))
octets_are (b ∷ bytes) some = refl

-- ---- what a sink took where it failed

-- a text that begins with what was cut is cut
pub cut_sooner : (a b : Option (List ℕ)) (front rest : List ℕ) → WroteProperPrefix a b front
    → WroteProperPrefix a b (front ++ rest)
cut_sooner a b front rest cut = (
  cut.0,
  omega (arith, cut.1, length-append front rest),
  rw (take-append-le cut.0 front rest (omega (arith, cut.1))) cut.2,
)

-- and one whose end is cut, after its start was taken
pub later : (a b c : Option (List ℕ)) (front rest : List ℕ) → Appends a b front → WroteProperPrefix b c rest
    → WroteProperPrefix a c (front ++ rest)
later a b c front rest took cut = (
  length front + cut.0,
  omega (arith, cut.1, length-append front rest),
  rw (take-append-add front rest cut.0) (Appends-trans a b c front _ took cut.2),
)

-- by the result of the end
pub cut_later : {T E : Type 0} (r : Result T E) (a b c : Option (List ℕ)) (front rest : List ℕ) → Appends a b front
    → OnErr r (WroteProperPrefix b c rest) → OnErr r (WroteProperPrefix a c (front ++ rest))
cut_later r a b c front rest took cut = on_err_weaker r (later a b c front rest took) cut
