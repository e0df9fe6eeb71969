-- The text of a value is UTF-8 and holds no line feed.
use Rattle.std.proofs.Common.{◌≡◌, ◌≢◌, ℕ, suc, ◌+◌, ◌/◌, ◌%◌, ◌≤◌, ◌<◌, ◌^◌, ℤ, pos, negsuc, Bool, true, false, not}
use Rattle.std.proofs.Common.{nat_eq, nat_lt, nat_le, ◌&&◌, List, [], ◌∷◌, ◌++◌, get_or, All, inl, inr, refl, sym}
use Rattle.std.proofs.Common.{subst, arith}
use Rattle.std.specs.Prelude.{codes}
use Rattle.std.specs.List.{list_all}
use Rattle.std.specs.Char.{is_ascii_digit}
use Rattle.std.specs.Fmt.{decimal, signed_decimal}
use Rattle.std.specs.Str.{IsUtf8, all_ascii_digits}
use lib.Signed.{mag}
use lib.Utf8.{encode, encodes, scalar, scalars}
use Rattle.std.proofs.lemmas.Bool.{and_parts, and_from, cases_Bool, cases_lt, eqb-true, eqb-false, ne_eqb, not-true}
use Rattle.std.proofs.lemmas.Bool.{not_from_false, ltb-true, lt-ltb, le-ltb, leb-true}
use Rattle.std.proofs.lemmas.Fmt.{digits_decimal}
use Rattle.std.proofs.lemmas.List.Concat.{flat_map-append}
use Rattle.std.proofs.lemmas.List.Elements.{All-weaker}
use Rattle.std.proofs.lemmas.List.Sums.{AllPass-from_list_all}
use Rattle.std.proofs.lemmas.Str.{IsUtf8-append, IsUtf8-encode, IsUtf8-from_ascii, IsUtf8-nil, encode_ascii}
use Rattle.std.proofs.lemmas.Str.Ascii.{IsAscii-from_all}
use Rattle.value_model.specs.Kinds.{Size, one, two, four, eight, Kind, bool_kind, unsigned_kind, signed_kind, text_kind}
use Rattle.value_model.specs.Kinds.{bytes_kind, list_kind, fields_kind, Kinds, no_kinds, kind_then}
use Rattle.value_model.specs.Trees.{Tree, bool_tree, unsigned_tree, signed_tree, text_tree, bytes_tree, list_tree}
use Rattle.value_model.specs.Trees.{fields_tree, Trees, no_trees, tree_then}
use Rattle.value_model.specs.Validity.{InRange, AllInRange}
use Rattle.value_text.specs.Texts.{size_text, type_text, types_text, further_types_text, escaped_byte, escaped}
use Rattle.value_text.specs.Texts.{hex_digit, hex_byte_text, hex_text, value_text, values_text, further_values_text}
use Rattle.value_text.specs.lemmas.Digits.{IsDigits, own}
use Rattle.value_text.proofs.Printed.{plain_char}
use Rattle.value_text.specs.lemmas.ValueLaws.{unsigned_limit_fits, signed_limit_fits, mag_fits}

abbrev pub is_no_feed : ℕ → Bool
is_no_feed b = not (nat_eq b 10)

abbrev is_plain : ℕ → Bool
is_plain b = is_no_feed b && nat_lt b 128

pub record IsLine (bytes : List ℕ) : Type 0 where
  pub no_feed : list_all is_no_feed bytes ≡ true
  pub utf8 : IsUtf8 bytes

list_all-append : (p : ℕ → Bool) (xs ys : List ℕ) → list_all p xs ≡ true → list_all p ys ≡ true
    → list_all p (xs ++ ys) ≡ true
list_all-append p [] ys e f = f
list_all-append p (x ∷ xs) ys e f =
    let parts = and_parts (p x) (list_all p xs) e in
    and_from (p x) (list_all p (xs ++ ys)) parts.0 (list_all-append p xs ys parts.1 f)

list_all-weaker : (p q : ℕ → Bool) → ((b : ℕ) → p b ≡ true → q b ≡ true) → (xs : List ℕ) → list_all p xs ≡ true
    → list_all q xs ≡ true
list_all-weaker p q law [] e = refl
list_all-weaker p q law (x ∷ xs) e =
    let parts = and_parts (p x) (list_all p xs) e in
    and_from (q x) (list_all q xs) (law x parts.0) (list_all-weaker p q law xs parts.1)

joined : (xs ys : List ℕ) → IsLine xs → IsLine ys → IsLine (xs ++ ys)
joined xs ys p q = record {
  no_feed = list_all-append is_no_feed xs ys p.no_feed q.no_feed;
  utf8 =
      IsUtf8-append xs ys p.utf8 q.utf8;
}

-- words, digits and whatever else is ASCII without a line feed
plain : (xs : List ℕ) → list_all is_plain xs ≡ true → IsLine xs
plain xs e = record {
  no_feed = list_all-weaker is_plain is_no_feed (λ b h. (and_parts (is_no_feed b) (nat_lt b 128) h).0) xs e;
  utf8 = IsUtf8-from_ascii xs (IsAscii-from_all xs (All-weaker (λ b. is_plain b ≡ true) (λ b. b < 128)
      (λ b h. ltb-true b 128 (and_parts (is_no_feed b) (nat_lt b 128) h).1) xs
      (AllPass-from_list_all is_plain xs e)));
}

plain_byte : (b : ℕ) → 11 ≤ b → b < 128 → is_plain b ≡ true
plain_byte b low high = and_from (is_no_feed b) (nat_lt b 128)
    (not_from_false (nat_eq b 10) (ne_eqb b 10 (λ e. omega arith))) (lt-ltb b 128 high)

-- ---- types

size_line : (s : Size) → IsLine (size_text s)
size_line one = plain (codes "8") refl
size_line two = plain (codes "16") refl
size_line four = plain (codes "32") refl
size_line eight = plain (codes "64") refl

mutual
  type_line : (k : Kind) → IsLine (type_text k)
  type_line bool_kind = plain (codes "bool") refl
  type_line (unsigned_kind s) = joined (codes "u") (size_text s) (plain (codes "u") refl) (size_line s)
  type_line (signed_kind s) = joined (codes "i") (size_text s) (plain (codes "i") refl) (size_line s)
  type_line text_kind = plain (codes "text") refl
  type_line bytes_kind = plain (codes "bytes") refl
  type_line (list_kind k) = joined (codes "list<" ++ type_text k) (codes ">")
      (joined (codes "list<") (type_text k) (plain (codes "list<") refl) (type_line k)) (plain (codes ">") refl)
  type_line (fields_kind ks) = joined (codes "{" ++ types_text ks) (codes "}")
      (joined (codes "{") (types_text ks) (plain (codes "{") refl) (types_line ks)) (plain (codes "}") refl)

  types_line : (ks : Kinds) → IsLine (types_text ks)
  types_line no_kinds = plain [] refl
  types_line (kind_then k ks) = joined (type_text k) (further_types_text ks) (type_line k) (further_types_line ks)

  further_types_line : (ks : Kinds) → IsLine (further_types_text ks)
  further_types_line no_kinds = plain [] refl
  further_types_line (kind_then k ks) = joined (codes "," ++ type_text k) (further_types_text ks)
      (joined (codes ",") (type_text k) (plain (codes ",") refl) (type_line k)) (further_types_line ks)

-- ---- scalars

digits_line : (ds : List ℕ) → IsDigits ds → IsLine ds
digits_line ds digits = plain ds (plain_digits ds digits)
  where
    plain_digits : (ds : List ℕ) → IsDigits ds → list_all is_plain ds ≡ true
    plain_digits [] digits = refl
    plain_digits (d ∷ ds) digits =
        let parts = and_parts (is_ascii_digit d) (all_ascii_digits ds) digits in
        let bounds = and_parts (nat_le 48 d) (nat_le d 57) parts.0 in
        let low : 48 ≤ d = leb-true _ _ bounds.0 in
        let high : d ≤ 57 = leb-true _ _ bounds.1 in
        and_from (is_plain d) (list_all is_plain ds) (plain_byte d (omega arith) (omega arith))
        (plain_digits ds parts.1)

decimal_line : (n : ℕ) → n < 2 ^ 64 → IsLine (decimal n)
decimal_line n lt = digits_line (decimal n) (digits_decimal own n lt)

signed_line : (z : ℤ) → mag z < 2 ^ 63 → IsLine (signed_decimal z)
signed_line (pos n) lt = decimal_line n (omega arith)
signed_line (negsuc n) lt = joined (codes "-") (decimal (suc n)) (plain (codes "-") refl)
    (decimal_line (suc n) (omega arith))

hex_digit_plain : (n : ℕ) → n < 16 → is_plain (hex_digit n) ≡ true
hex_digit_plain n lt =
    elim (cases_lt n 10) [
      | inl below ↦ rw (lt-ltb n 10 below) (plain_byte (48 + n) (omega arith) (omega arith))
      | inr above ↦ rw (le-ltb n 10 above) (plain_byte (87 + n) (omega arith) (omega arith))
    ]

hex_line : (b : List ℕ) → ((i : ℕ) → get_or b i 0 < 256) → IsLine (hex_text b)
hex_line [] fits = plain [] refl
hex_line (x ∷ b) fits =
    let small : x < 256 = fits 0 in
    let high = hex_digit_plain (x / 16) (omega arith) in
    let low = hex_digit_plain (x % 16) (omega arith) in
    joined (hex_byte_text x) (hex_text b) (plain (hex_byte_text x) (and_from _ _ high (and_from _ _ low refl)))
    (hex_line b (λ i. fits (suc i)))

escaped_byte-no_feed : (b : ℕ) → list_all is_no_feed (escaped_byte b) ≡ true
escaped_byte-no_feed b =
    elim (cases_Bool (nat_eq b 34)) [
      | inl e ↦ rw e refl
      | inr no_quote ↦ elim (cases_Bool (nat_eq b 92)) [
        | inl e ↦ rw (no_quote, e) refl
        | inr no_backslash ↦ elim (cases_Bool (nat_eq b 10)) [
          | inl e ↦ rw (no_quote, no_backslash, e) refl
          | inr no_feed ↦ rw (no_quote, no_backslash, no_feed) (rw no_feed refl)
        ]
      ]
    ]

escaped-no_feed : (t : List ℕ) → list_all is_no_feed (escaped t) ≡ true
escaped-no_feed [] = refl
escaped-no_feed (b ∷ t) = list_all-append is_no_feed (escaped_byte b) (escaped t) (escaped_byte-no_feed b)
    (escaped-no_feed t)

escaped_char : (c : ℕ) → scalar c ≡ true → IsUtf8 (escaped (encode c))
escaped_char c is_scalar =
    elim (cases_Bool (nat_eq c 34)) [
      | inl e ↦ subst (λ (d : ℕ). IsUtf8 (escaped (encode d))) (sym (eqb-true c 34 e))
          (rw (encode_ascii 34 (omega arith)) (plain (codes "\\\"") refl).utf8)
      | inr no_quote ↦ elim (cases_Bool (nat_eq c 92)) [
        | inl e ↦ subst (λ (d : ℕ). IsUtf8 (escaped (encode d))) (sym (eqb-true c 92 e))
            (rw (encode_ascii 92 (omega arith)) (plain (codes "\\\\") refl).utf8)
        | inr no_backslash ↦ elim (cases_Bool (nat_eq c 10)) [
          | inl e ↦ subst (λ (d : ℕ). IsUtf8 (escaped (encode d))) (sym (eqb-true c 10 e))
              (rw (encode_ascii 10 (omega arith)) (plain (codes "\\n") refl).utf8)
          | inr no_feed ↦ rw (plain_char c (eqb-false c 34 no_quote) (eqb-false c 92 no_backslash)
              (eqb-false c 10 no_feed)) (IsUtf8-encode c is_scalar)
        ]
      ]
    ]

escaped_chars : (cs : List ℕ) → scalars cs ≡ true → IsUtf8 (escaped (encodes cs))
escaped_chars [] e = IsUtf8-nil
escaped_chars (c ∷ cs) e =
    let parts = and_parts (scalar c) (scalars cs) e in
    rw (flat_map-append escaped_byte (encode c) (encodes cs))
    (IsUtf8-append (escaped (encode c)) (escaped (encodes cs)) (escaped_char c parts.0) (escaped_chars cs parts.1))

escaped_line : (t : List ℕ) → IsUtf8 t → IsLine (escaped t)
escaped_line t u = record {
  no_feed = escaped-no_feed t;
  utf8 =
      subst (λ (x : List ℕ). IsUtf8 (escaped x)) u.1.1 (escaped_chars u.0 u.1.0);
}

-- ---- values

bool_line : (b : Bool) → IsLine (value_text (bool_tree b))
bool_line true = plain (codes "bool:true") refl
bool_line false = plain (codes "bool:false") refl

-- after a word of ASCII
behind : (word text : List ℕ) → list_all is_plain word ≡ true → IsLine text → IsLine (word ++ text)
behind word text e line = joined word text (plain word e) line

number_line : (sign : List ℕ) (s : Size) (text : List ℕ) → list_all is_plain sign ≡ true → IsLine text
    → IsLine (sign ++ size_text s ++ codes ":" ++ text)
number_line sign s text e line = joined (sign ++ size_text s ++ codes ":") text
    (joined (sign ++ size_text s) (codes ":") (behind sign (size_text s) e (size_line s)) (plain (codes ":") refl)) line

mutual
  pub value_line : (t : Tree) → InRange t → IsLine (value_text t)
  value_line (bool_tree b) fits = bool_line b
  value_line (unsigned_tree s n) fits = number_line (codes "u") s (decimal n) refl
      (decimal_line n (omega (arith, unsigned_limit_fits s, fits)))
  value_line (signed_tree s z) fits = number_line (codes "i") s (signed_decimal z) refl
      (signed_line z (omega (arith, signed_limit_fits s, mag_fits s z fits)))
  value_line (text_tree t) fits = joined (codes "text:\"" ++ escaped t) (codes "\"")
      (behind (codes "text:\"") (escaped t) refl (escaped_line t fits)) (plain (codes "\"") refl)
  value_line (bytes_tree b) fits = behind (codes "bytes:") (hex_text b) refl (hex_line b fits)
  value_line (list_tree k ts) fits =
      let item = behind (codes "list<") (type_text k) refl (type_line k) in
      let open_bracket = joined (codes "list<" ++ type_text k) (codes ">[") item (plain (codes ">[") refl) in
      let items = joined (codes "list<" ++ type_text k ++ codes ">[") (values_text ts) open_bracket
      (values_line ts fits) in
      joined (codes "list<" ++ type_text k ++ codes ">[" ++ values_text ts) (codes "]") items (plain (codes "]") refl)
  value_line (fields_tree ts) fits = joined (codes "{" ++ values_text ts) (codes "}")
      (behind (codes "{") (values_text ts) refl (values_line ts fits)) (plain (codes "}") refl)

  values_line : (ts : Trees) → AllInRange ts → IsLine (values_text ts)
  values_line no_trees fits = plain [] refl
  values_line (tree_then t ts) fits = joined (value_text t) (further_values_text ts) (value_line t fits.0)
      (further_values_line ts fits.1)

  further_values_line : (ts : Trees) → AllInRange ts → IsLine (further_values_text ts)
  further_values_line no_trees fits = plain [] refl
  further_values_line (tree_then t ts) fits = joined (codes "," ++ value_text t) (further_values_text ts)
      (behind (codes ",") (value_text t) refl (value_line t fits.0)) (further_values_line ts fits.1)

pub no_line_feed : (bytes : List ℕ) → IsLine bytes → All (λ b. b ≢ 10) bytes
no_line_feed bytes line = All-weaker (λ b. is_no_feed b ≡ true) (λ b. b ≢ 10)
    (λ b h. eqb-false b 10 (not-true (nat_eq b 10) h)) bytes (AllPass-from_list_all is_no_feed bytes line.no_feed)
