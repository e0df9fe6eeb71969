-- The value that a text is, and the values in a list.
use Rattle.std.proofs.Common.{◌≡◌, ℕ, Bool, true, false, List, [], ◌∷◌, map, Option, Some, None, option_map}
use Rattle.std.proofs.Common.{refl, ap, sym, ◌∙◌}
use Rattle.std.specs.Prelude.{IsUtf8, if◌then◌else◌, option_and_then, unwrap_or}
use Rattle.std.specs.Str.{is_utf8}
use Rattle.std.proofs.lemmas.Str.{is_utf8-from_IsUtf8, IsUtf8-from_is_utf8}
use Rattle.serde_json.specs.Data.{Data}
use Rattle.serde_json.specs.Find.{as_array}
use Rattle.serde_json.specs.Read.{read}
use Rattle.serde_json.specs.View.{view, items_view}
use Rattle.serde_json.specs.declared.value.Value.{Value}
use Rattle.manifest.specs.Reading.{value_of}
use Rattle.manifest.specs.Values.{items_in, things_in}

pub value_read : (text : List ℕ) (said : Option Data) → IsUtf8 text → read text ≡ said → said ≡ value_of text
unfolding value_of
value_read text said utf8 is = rw (is_utf8-from_IsUtf8 text utf8) (sym is)

none_at : (test : Bool) (found : Option Data) → (test ≡ true → found ≡ None) → (if test then found else None) ≡ None
none_at true found none = none refl
none_at false found none = refl

pub value_none : (text : List ℕ) → (IsUtf8 text → read text ≡ None) → None ≡ value_of text
unfolding value_of
value_none text none = sym (none_at (is_utf8 text) (read text) (λ h. none (IsUtf8-from_is_utf8 text h)))

items_back : (vs : List Value) → items_in (items_view vs) ≡ map view vs
items_back [] = refl
items_back (v ∷ vs) = ap (λ ds. view v ∷ ds) (items_back vs)

-- the values of a list are those that stand in it
pub things_listed : (d : Option Data) (vs : List Value) → Some (items_view vs) ≡ option_and_then as_array d
    → map view vs ≡ things_in d
things_listed d vs is = sym (items_back vs) ∙ ap (λ o. unwrap_or (option_map items_in o) []) is
