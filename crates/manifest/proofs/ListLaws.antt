-- Lists of values, and the data that they denote.
use Rattle.std.proofs.Common.{◌≡◌, Bool, ◌&&◌, List, [], ◌∷◌, map, ℕ, refl, ap, sym, ◌∙◌, String, Global, string_bytes}
use Rattle.std.proofs.Common.{Option, Some, option_map, is_some}
use Rattle.std.specs.Prelude.{option_and_then, unwrap_or}
use Rattle.std.specs.List.{list_all}
use Rattle.serde_json.specs.Data.{Data, Items}
use Rattle.serde_json.specs.View.{view, items_view, members_view}
use Rattle.serde_json.specs.declared.value.Value.{Value}
use Rattle.serde_json.specs.Find.{as_array, as_object}
use Rattle.manifest.specs.Values.{has_only, is_list_of_objects, is_object, items_in, names_in, one_of, things_in}

pub items_back : (vs : List Value) → items_in (items_view vs) ≡ map view vs
items_back [] = refl
items_back (v ∷ vs) = ap (λ ds. view v ∷ ds) (items_back vs)

pub names_back : (es : List (String Global × Value)) → names_in (members_view es) ≡ map (λ e. string_bytes e.0) es
names_back [] = refl
names_back (e ∷ es) = ap (λ ns. string_bytes e.0 ∷ ns) (names_back es)

pub list_all-map : {A B : Type 0} (p : B → Bool) (f : A → B) (xs : List A)
    → list_all p (map f xs) ≡ list_all (λ x. p (f x)) xs
list_all-map p f [] = refl
list_all-map p f (x ∷ xs) = ap (λ b. p (f x) && b) (list_all-map p f xs)

-- a test of each key of an object is one of each name of a member
pub members_tested : (words : List (List ℕ)) (es : List (String Global × Value)) (d : Data) (r : Bool)
    → Some (members_view es) ≡ as_object d → r ≡ list_all (λ k. one_of words (string_bytes k)) (map (λ e. e.0) es)
    → r ≡ has_only words d
members_tested words es d r is tested =
    tested ∙ list_all-map (λ k. one_of words (string_bytes k)) (λ e. e.0) es
    ∙ sym (list_all-map (one_of words) (λ e. string_bytes e.0) es)
    ∙ ap (list_all (one_of words)) (sym (names_back es))
    ∙ ap (λ o. list_all (one_of words) (unwrap_or (option_map names_in o) [])) is

-- the things of a list are those that stand in it
pub things_listed : (d : Option Data) (vs : List Value) → Some (items_view vs) ≡ option_and_then as_array d
    → map view vs ≡ things_in d
things_listed d vs is = sym (items_back vs) ∙ ap (λ o. unwrap_or (option_map items_in o) []) is

pub objects_listed : (d : Data) (vs : List Value) (r : Bool) → Some (items_view vs) ≡ as_array d
    → r ≡ list_all (λ v. is_object (view v)) vs → r ≡ is_list_of_objects d
objects_listed d vs r is tested =
    let all = tested ∙ sym (list_all-map is_object view vs) ∙ ap (list_all is_object) (things_listed (Some d) vs is) in
    all ∙ ap (λ (o : Option Items). is_some o && list_all is_object (things_in (Some d))) is
