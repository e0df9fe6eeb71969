-- Lemmas on the lines of the input.
use Rattle.std.proofs.Common.{ℕ, List, [], ◌∷◌, ◌++◌, length, true, false, nat_eq, ◌≡◌, ◌≤◌, refl, ◌∙◌, ap, arith}
use Rattle.std.proofs.Common.{append_assoc, append-nil, length-append}
use Rattle.std.specs.List.{AllByRecursion, flat_map}
use Rattle.std.proofs.lemmas.List.Concat.{flat_map-append}
use Rattle.std.proofs.lemmas.List.Folds.{list_any-append}
use Rattle.run_model.specs.Lines.{split_lines, last_line, lines_of}
use Rattle.per_run.specs.Steps.{HasNoFeed, with_feed}

not_feed : (b : ℕ) (bytes : List ℕ) → HasNoFeed (b ∷ bytes) → nat_eq b 10 ≡ false
not_feed b bytes clean = grind arith

clean_tail : (b : ℕ) (bytes : List ℕ) → HasNoFeed (b ∷ bytes) → HasNoFeed bytes
clean_tail b bytes clean = grind arith

pub clean_more : (bytes : List ℕ) (b : ℕ) → HasNoFeed bytes → nat_eq b 10 ≡ false → HasNoFeed (bytes ++ b ∷ [])
clean_more bytes b clean apart = rw (list_any-append, clean, apart) refl

pub clean_append : (front rest : List ℕ) → HasNoFeed front → HasNoFeed rest → HasNoFeed (front ++ rest)
clean_append front rest clean more = rw (list_any-append, clean, more) refl

pub all_clean_more : (lines : List (List ℕ)) (line : List ℕ) → AllByRecursion HasNoFeed lines → HasNoFeed line
    → AllByRecursion HasNoFeed (lines ++ line ∷ [])
all_clean_more [] line all clean = (clean, tt)
all_clean_more (l ∷ ls) line all clean = (all.0, all_clean_more ls line all.1 clean)

-- the first line
pub split-line : (line more : List ℕ) → HasNoFeed line → split_lines (line ++ 10 ∷ more)
    ≡ (line ∷ (split_lines more).0, (split_lines more).1)
split-line [] more clean = refl
split-line (b ∷ bytes) more clean = rw (not_feed b bytes clean, split-line bytes more (clean_tail b bytes clean)) refl

-- no line
pub split-clean : (bytes : List ℕ) → HasNoFeed bytes → split_lines bytes ≡ ([], bytes)
split-clean [] clean = refl
split-clean (b ∷ bytes) clean = rw (not_feed b bytes clean, split-clean bytes (clean_tail b bytes clean)) refl

-- the first lines
pub split-lines : (lines : List (List ℕ)) (more : List ℕ) → AllByRecursion HasNoFeed lines
    → split_lines (flat_map with_feed lines ++ more) ≡ (lines ++ (split_lines more).0, (split_lines more).1)
split-lines [] more all = refl
split-lines (l ∷ ls) more all =
    let shape : flat_map with_feed (l ∷ ls) ++ more ≡ l ++ 10 ∷ (flat_map with_feed ls ++ more) =
    rw (append_assoc, append_assoc) refl in
    rw (shape, split-line l (flat_map with_feed ls ++ more) all.0, split-lines ls more all.1) refl

-- ---- of bytes that are whole lines and a rest

pub lines_false : (lines : List (List ℕ)) (more : List ℕ) → AllByRecursion HasNoFeed lines
    → lines_of false (flat_map with_feed lines ++ more) ≡ lines ++ (split_lines more).0
lines_false lines more all = append-nil (split_lines (flat_map with_feed lines ++ more)).0
    ∙ ap (λ (p : List (List ℕ) × List ℕ). p.0) (split-lines lines more all)

pub lines_whole : (lines : List (List ℕ)) (rest : List ℕ) → AllByRecursion HasNoFeed lines → HasNoFeed rest
    → lines_of false (flat_map with_feed lines ++ rest) ≡ lines
lines_whole lines rest all clean = lines_false lines rest all
    ∙ ap (λ (p : List (List ℕ) × List ℕ). lines ++ p.0) (split-clean rest clean) ∙ append-nil lines

pub lines_next : (lines : List (List ℕ)) (line more : List ℕ) → AllByRecursion HasNoFeed lines → HasNoFeed line
    → lines_of false (flat_map with_feed lines ++ (line ++ 10 ∷ more)) ≡ lines ++ line ∷ (split_lines more).0
lines_next lines line more all clean = lines_false lines (line ++ 10 ∷ more) all
    ∙ ap (λ (p : List (List ℕ) × List ℕ). lines ++ p.0) (split-line line more clean)

pub lines_true : (lines : List (List ℕ)) (rest : List ℕ) → AllByRecursion HasNoFeed lines → HasNoFeed rest
    → lines_of true (flat_map with_feed lines ++ rest) ≡ lines ++ last_line rest
lines_true lines rest all clean =
    ap (λ (p : List (List ℕ) × List ℕ). p.0 ++ last_line p.1)
    (split-lines lines rest all ∙ ap (λ (p : List (List ℕ) × List ℕ). (lines ++ p.0, p.1)) (split-clean rest clean))
    ∙ ap (λ (l : List (List ℕ)). l ++ last_line rest) (append-nil lines)

-- ---- how many there are

pub lines_short : (lines : List (List ℕ)) (rest : List ℕ) → length lines ≤ length (flat_map with_feed lines ++ rest)
lines_short [] rest = omega arith
lines_short (l ∷ ls) rest =
    let shape : flat_map with_feed (l ∷ ls) ++ rest ≡ l ++ 10 ∷ (flat_map with_feed ls ++ rest) =
    rw (append_assoc, append_assoc) refl in
    rw (shape, length-append) (omega (arith, lines_short ls rest))

pub with_line : (lines : List (List ℕ)) (line : List ℕ)
    → flat_map with_feed (lines ++ line ∷ []) ≡ flat_map with_feed lines ++ (line ++ 10 ∷ [])
with_line lines line = rw (flat_map-append, append-nil) refl
