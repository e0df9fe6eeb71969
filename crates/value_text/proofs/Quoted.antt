-- A text in quotes, read byte by byte.
use Rattle.std.proofs.Common.{◌≡◌, ℕ, ◌<◌, ◌+◌, Bool, true, false, List, [], ◌∷◌, ◌++◌, length, get_or, drop, Option}
use Rattle.std.proofs.Common.{Some, None, refl, sym, ap, ◌∙◌}
use Rattle.std.specs.Prelude.{codes}
use Rattle.std.specs.Str.{IsUtf8, is_utf8}
use Rattle.std.proofs.lemmas.Bool.{ne_eqb, false_from_ne_true}
use Rattle.std.proofs.lemmas.Str.{is_utf8-from_IsUtf8, IsUtf8-from_is_utf8}
use Rattle.std.proofs.lemmas.List.{append-nil, drop_more}
use Rattle.per_base.specs.Fields.{◌>>=◌}
use Rattle.per_base.specs.FieldLoops.{with_front}
use Rattle.value_model.specs.declared.errors.DecodeError.{DecodeError}
use Rattle.value_model.specs.declared.errors.DecodeError.TheVariants as errors
use Rattle.value_model.specs.Decoding.{FailsToRead}
use Rattle.value_text.specs.Readers.{literal_at, meant_by, quoted_at}
use Rattle.value_text.specs.Parsing.{text_at}
use Rattle.value_text.specs.lemmas.Loop.{with_front-with_front}

abbrev Read : Type 0
Read = Option (List ℕ × List ℕ)

pub behind_means : (front : List ℕ) (behind : Bool) (b m : ℕ) (rest : List ℕ) (total : Read) → behind ≡ true
    → meant_by b ≡ Some m → with_front front (quoted_at behind (b ∷ rest)) ≡ total
    → with_front (front ++ m ∷ []) (quoted_at false rest) ≡ total
unfolding quoted_at
behind_means front behind b m rest total is e so_far =
    let here : quoted_at behind (b ∷ rest) ≡ with_front (m ∷ []) (quoted_at false rest) =
    ap (λ (x : Bool). quoted_at x (b ∷ rest)) is ∙ ap (λ (o : Option ℕ). o >>= λ n.
    with_front (n ∷ []) (quoted_at false rest)) e in
    sym (with_front-with_front front m (quoted_at false rest)) ∙ sym (ap (with_front front) here) ∙ so_far

pub behind_fails : (error : DecodeError) (front : List ℕ) (behind : Bool) (b : ℕ) (rest : List ℕ) (total : Read)
    → behind ≡ true → FailsToRead error (meant_by b) → with_front front (quoted_at behind (b ∷ rest)) ≡ total
    → FailsToRead error total
unfolding quoted_at
behind_fails errors.NotAValue front behind b rest total is e so_far =
    let here : quoted_at behind (b ∷ rest) ≡ None = ap (λ (x : Bool). quoted_at x (b ∷ rest)) is
    ∙ ap (λ (o : Option ℕ). o >>= λ n. with_front (n ∷ []) (quoted_at false rest)) e in
    sym so_far ∙ ap (with_front front) here
behind_fails errors.OutOfMemory front behind b rest total is e so_far = tt

pub quote_ends : (front : List ℕ) (behind : Bool) (b : ℕ) (rest : List ℕ) (total : Read) → behind ≡ false → b ≡ 34
    → with_front front (quoted_at behind (b ∷ rest)) ≡ total → total ≡ Some (front, rest)
unfolding quoted_at
quote_ends front behind b rest total is e so_far =
    let here : quoted_at behind (b ∷ rest) ≡ Some ([], rest) =
    ap (λ (x : Bool). quoted_at x (b ∷ rest)) is ∙ ap (λ (x : ℕ). quoted_at false (x ∷ rest)) e in
    sym so_far ∙ ap (with_front front) here ∙ ap (λ (xs : List ℕ). Some (xs, rest)) (append-nil front)

pub backslash_behind : (front : List ℕ) (behind : Bool) (b : ℕ) (rest : List ℕ) (total : Read) → behind ≡ false → b ≡ 92
    → with_front front (quoted_at behind (b ∷ rest)) ≡ total → with_front front (quoted_at true rest) ≡ total
unfolding quoted_at
backslash_behind front behind b rest total is e so_far =
    let here : quoted_at behind (b ∷ rest) ≡ quoted_at true rest =
    ap (λ (x : Bool). quoted_at x (b ∷ rest)) is ∙ ap (λ (x : ℕ). quoted_at false (x ∷ rest)) e in
    sym (ap (with_front front) here) ∙ so_far

pub line_feed : (front : List ℕ) (behind : Bool) (b : ℕ) (rest : List ℕ) (total : Read) → behind ≡ false → b ≡ 10
    → with_front front (quoted_at behind (b ∷ rest)) ≡ total → total ≡ None
unfolding quoted_at
line_feed front behind b rest total is e so_far =
    let here : quoted_at behind (b ∷ rest) ≡ None = ap (λ (x : Bool). quoted_at x (b ∷ rest)) is
    ∙ ap (λ (x : ℕ). quoted_at false (x ∷ rest)) e in
    sym so_far ∙ ap (with_front front) here

pub plain : (front : List ℕ) (behind : Bool) (b : ℕ) (rest : List ℕ) (total : Read) → behind ≡ false → (b ≡ 34 → ⊥)
    → (b ≡ 92 → ⊥) → (b ≡ 10 → ⊥) → with_front front (quoted_at behind (b ∷ rest)) ≡ total
    → with_front (front ++ b ∷ []) (quoted_at false rest) ≡ total
unfolding quoted_at
plain front behind b rest total is no_quote no_backslash no_feed so_far =
    let here : quoted_at behind (b ∷ rest) ≡ with_front (b ∷ []) (quoted_at false rest) =
    ap (λ (x : Bool). quoted_at x (b ∷ rest)) is ∙ rw (
      ne_eqb b 34 no_quote,
      ne_eqb b 92 no_backslash,
      ne_eqb b 10 no_feed,
    ) refl in
    sym (with_front-with_front front b (quoted_at false rest)) ∙ sym (ap (with_front front) here) ∙ so_far

pub stays_open : (front : List ℕ) (behind : Bool) (rest : List ℕ) (total : Read) → rest ≡ []
    → with_front front (quoted_at behind rest) ≡ total → total ≡ None
unfolding quoted_at
stays_open front behind rest total nothing so_far = sym so_far
    ∙ ap (λ (t : List ℕ). with_front front (quoted_at behind t)) nothing

-- the byte that comes next
pub at_next : (front : List ℕ) (behind : Bool) (bytes : List ℕ) (i : ℕ) (total : Read) → i < length bytes
    → with_front front (quoted_at behind (drop i bytes)) ≡ total
    → with_front front (quoted_at behind (get_or bytes i 0 ∷ drop (i + 1) bytes)) ≡ total
at_next front behind bytes i total lt so_far = sym (ap (λ (t : List ℕ). with_front front (quoted_at behind t))
    (drop_more bytes i 0 lt)) ∙ so_far

pub text_at-text : (bytes rest text after : List ℕ) → literal_at (codes "\"") bytes ≡ Some rest
    → quoted_at false rest ≡ Some (text, after) → IsUtf8 text → text_at bytes ≡ Some (text, after)
unfolding text_at
text_at-text bytes rest text after e f u = rw (e, f, is_utf8-from_IsUtf8 text u) refl

pub text_at-none : (bytes rest text after : List ℕ) → literal_at (codes "\"") bytes ≡ Some rest
    → quoted_at false rest ≡ Some (text, after) → (IsUtf8 text → ⊥) → text_at bytes ≡ None
unfolding text_at
text_at-none bytes rest text after e f u = rw (
  e,
  f,
  false_from_ne_true (is_utf8 text)
      (λ t. u (IsUtf8-from_is_utf8 text t)),
) refl
