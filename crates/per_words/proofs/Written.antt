-- A piece of a content is written by the line of an event.
use Rattle.std.proofs.Common.{◌≡◌, ◌≤◌, ◌<◌, ◌+◌, ◌-◌, ◌/◌, ◌%◌, ℕ, suc, List, [], ◌∷◌, ◌++◌, codes, length}
use Rattle.std.proofs.Common.{true, false, map}
use Rattle.std.proofs.Common.{get_or, nat_eq, inl, inr, refl, sym, ap, subst, arith, ◌∙◌, length-append}
use Rattle.std.specs.List.{AllByRecursion, list_all}
use Rattle.std.specs.Fmt.{digits}
use Rattle.std.proofs.lemmas.Bool.{cases_lt, lt-ltb, le-ltb, ne_eqb}
use Rattle.std.proofs.lemmas.Bool.Decides.{nat_tests}
use Rattle.std.proofs.lemmas.List.{append-nil}
use Rattle.std.proofs.lemmas.List.Folds.{list_any-append}
use Rattle.per_base.specs.Names.{IsName, in_name}
use Rattle.value_text.specs.Texts.{hex_digit, hex_text}
use Rattle.command_text.specs.Grammar.{has_feed, line_of}
use Rattle.command_text.specs.declared.calls.Call.TheVariants as call
use Rattle.command_text.specs.declared.calls.Event.TheVariants as event
use Rattle.per_words.specs.Words.{IsOneLine, FitsLine, piece_line}

-- ---- no line feed

both_clean : (xs ys : List ℕ) → has_feed xs ≡ false → has_feed ys ≡ false → has_feed (xs ++ ys) ≡ false
both_clean xs ys p q = list_any-append (λ byte. nat_eq byte 10) xs ys ∙ rw (p, q) refl

in_name_apart : (b : ℕ) → in_name b ≡ true → nat_eq b 10 ≡ false
in_name_apart b is = grind (arith, nat_tests)

all_clean : (bytes : List ℕ) → list_all in_name bytes ≡ true → has_feed bytes ≡ false
all_clean [] all = refl
all_clean (b ∷ bytes) all =
    let here : in_name b ≡ true = grind arith in
    let there : list_all in_name bytes ≡ true = grind arith in
    rw (in_name_apart b here) (all_clean bytes there)

name_clean : (text : List ℕ) → IsName text → has_feed text ≡ false
name_clean text is = let all : list_all in_name text ≡ true = grind arith in all_clean text all

digit_apart : (n : ℕ) → n < 16 → nat_eq (hex_digit n) 10 ≡ false
digit_apart n lt =
    elim (cases_lt n 10) [
      | inl below ↦ rw (lt-ltb n 10 below) (ne_eqb (48 + n) 10 (λ e. omega arith))
      | inr above ↦ rw (le-ltb n 10 above) (ne_eqb (87 + n) 10 (λ e. omega arith))
    ]

hex_clean : (b : List ℕ) → ((i : ℕ) → get_or b i 0 < 256) → has_feed (hex_text b) ≡ false
hex_clean [] fits = refl
hex_clean (x ∷ b) fits =
    let small : x < 256 = fits 0 in
    rw (digit_apart (x / 16) (omega arith), digit_apart (x % 16) (omega arith)) (hex_clean b (λ i. fits (suc i)))

-- ---- how long it is

hex_length : (b : List ℕ) → length (hex_text b) ≡ length b + length b
hex_length [] = refl
hex_length (x ∷ b) = omega (arith, hex_length b)

name_short : (text : List ℕ) → IsName text → length text ≤ 255
name_short text is = grind (arith, nat_tests)

-- ---- the line

abbrev written : ℕ → List ℕ → List ℕ → List ℕ
written a storage piece = line_of (event.App a (call.Write storage 1 piece))

spelled : (a : ℕ) (storage piece : List ℕ) → piece_line (48 + a) storage piece ≡ written a storage piece
unfolding digits
spelled a storage piece = ap
    (λ (text : List ℕ). (48 + a) ∷ 32 ∷ (codes "write" ++ (32 ∷ (storage ++ (32 ∷ (codes "1" ++ (32 ∷ text)))))))
    (append-nil (hex_text piece))

written_short : (a : ℕ) (storage piece : List ℕ) → IsName storage → length piece ≤ 65536
    → length (written a storage piece) ≤ 262144
unfolding digits
written_short a storage piece named few = omega (
  arith,
  few,
  name_short storage named,
  hex_length piece,
  length-append storage (32 ∷ (codes "1" ++ (32 ∷ hex_text piece))),
)

written_clean : (a : ℕ) (storage piece : List ℕ) → IsName storage → ((i : ℕ) → get_or piece i 0 < 256)
    → has_feed (written a storage piece) ≡ false
unfolding digits
written_clean a storage piece named bytes = rw (ne_eqb (48 + a) 10 (λ e. omega arith))
    (both_clean storage (32 ∷ (codes "1" ++ (32 ∷ hex_text piece))) (name_clean storage named) (hex_clean piece bytes))

of_digit : (a : ℕ) (storage piece : List ℕ) → a < 8 → IsName storage → length piece ≤ 65536
    → ((i : ℕ) → get_or piece i 0 < 256) → IsOneLine (piece_line (48 + a) storage piece)
of_digit a storage piece small named few bytes = subst IsOneLine (sym (spelled a storage piece)) (record {
  event = (
    event.App a (call.Write storage 1 piece),
    record {
      short = written_short a storage piece named few;
      spelled = (refl, (small, (named, (omega arith, (bytes, tt)))));
    },
  );
  whole = written_clean a storage piece named bytes;
})

-- a piece that is short is written to a storage whose name is in the grammar
pub is_written : (digit : ℕ) (storage piece : List ℕ) → 48 ≤ digit → digit < 56 → IsName storage
    → length piece ≤ 65536 → ((i : ℕ) → get_or piece i 0 < 256) → IsOneLine (piece_line digit storage piece)
is_written digit storage piece low high named few bytes =
    let same : 48 + (digit - 48) ≡ digit = omega arith in
    subst (λ (d : ℕ). IsOneLine (piece_line d storage piece)) same
    (of_digit (digit - 48) storage piece (omega arith) named few bytes)

-- and so are all pieces
pub all_written : (digit : ℕ) (storage : List ℕ) (pieces : List (List ℕ)) → 48 ≤ digit → digit < 56 → IsName storage
    → AllByRecursion FitsLine pieces → AllByRecursion IsOneLine (map (piece_line digit storage) pieces)
all_written digit storage [] low high named all = tt
all_written digit storage (piece ∷ pieces) low high named all = (
  is_written digit storage piece low high named all.0.short all.0.bytes,
  all_written digit storage pieces low high named all.1,
)
