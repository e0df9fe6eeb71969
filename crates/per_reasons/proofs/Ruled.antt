-- What is said of a rule that a manifest breaks.
use Rattle.std.proofs.Common.{◌≡◌, ℕ, List, ◌++◌, codes, Option, ◌∙◌, refl}
use Rattle.std.specs.Fmt.{decimal}
use Rattle.per_reasons.specs.Initials.{SaysInitial}
use Rattle.per_reasons.specs.Rules.{IsRuleText, end_text, place_text, rule_text}

pub ruled : (rule byte : ℕ) (manifest : List ℕ) (part why : Option (List ℕ)) (place broken end text : List ℕ)
    → (rule ≡ 22 → SaysInitial manifest why) → place ≡ place_text part → broken ≡ rule_text rule
    → end ≡ end_text rule byte why
    → text ≡ codes "the manifest breaks rule " ++ (decimal rule ++ (place ++ (broken ++ end)))
    → IsRuleText rule manifest text
ruled rule byte manifest part why place broken end text initial at says ends is = record {
  part = part;
  byte = byte;
  why = why;
  said = initial;
  spelled = is ∙ rw at (rw says (rw ends refl));
}
