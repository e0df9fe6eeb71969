-- The value that a text is.
use Rattle.std.proofs.Common.{◌≡◌, ℕ, Bool, true, false, List, Option, None, refl}
use Rattle.std.specs.Prelude.{IsUtf8, if◌then◌else◌}
use Rattle.std.specs.Str.{is_utf8}
use Rattle.std.proofs.lemmas.Str.{is_utf8-from_IsUtf8, IsUtf8-from_is_utf8}
use Rattle.serde_json.specs.Data.{Data}
use Rattle.serde_json.specs.Read.{read}
use Rattle.manifest.specs.Reading.{value_of}

pub value_read : (text : List ℕ) (said : Option Data) → IsUtf8 text → read text ≡ said → value_of text ≡ said
unfolding value_of
value_read text said utf8 is = rw (is_utf8-from_IsUtf8 text utf8) is

none_at : (test : Bool) (found : Option Data) → (test ≡ true → found ≡ None) → (if test then found else None) ≡ None
none_at true found none = none refl
none_at false found none = refl

pub value_none : (text : List ℕ) → (IsUtf8 text → read text ≡ None) → value_of text ≡ None
unfolding value_of
value_none text none = none_at (is_utf8 text) (read text) (λ h. none (IsUtf8-from_is_utf8 text h))
