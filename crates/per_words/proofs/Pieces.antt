-- The lines of a content in pieces.
use Rattle.std.proofs.Common.{◌≡◌, ℕ, ◌<◌, List, [], ◌∷◌, ◌++◌, Result, Ok, Err, IsErrOf, length, map, refl, sym, subst}
use Rattle.std.proofs.Common.{◌∙◌, arith, append_assoc}
use Rattle.std.specs.List.{AllByRecursion}
use Rattle.command_text.specs.declared.errors.LineError.{LineError}
use Rattle.command_text.specs.declared.errors.LineError.TheVariants as error
use Rattle.per_words.specs.Words.{Adds, AreFed, IsOneLine, closed_line, durable_lines, fed_lines, file_lines, opened_line}
use Rattle.per_words.specs.Words.{opening_lines, piece_line, writing_lines}
use Rattle.per_words.specs.declared.kinds.CallKind.TheVariants as kind
use Rattle.per_words.proofs.Adding.{both_all, fed_both, parts_all}

-- more than one piece is written by a handle
pub by_handle : {T : Type 0} (r : Result T LineError) (a b : List ℕ) (digit : ℕ) (storage file : List ℕ)
    (pieces : List (List ℕ)) → 1 < length pieces
    → Adds r a b (opened_line digit storage file
    ∷ (map (piece_line digit storage) pieces ++ closed_line digit storage ∷ []))
    → Adds r a b (writing_lines digit storage file pieces)
by_handle r a b digit storage file [] more adds = absurd (omega arith)
by_handle r a b digit storage file (p ∷ []) more adds = absurd (omega arith)
by_handle r a b digit storage file (p ∷ q ∷ pieces) more adds = adds

-- the lines before the pieces, those of the pieces, and those after them
abbrev before : ℕ → List ℕ → List ℕ → List (List ℕ)
before digit storage file = opening_lines kind.ChangesFiles digit storage ++ opened_line digit storage file ∷ []

abbrev after : ℕ → List ℕ → List (List ℕ)
after digit storage = closed_line digit storage ∷ [] ++ durable_lines kind.ChangesFiles digit storage

regrouped : (o : List (List ℕ)) (x : List ℕ) (ps : List (List ℕ)) (c : List ℕ) (d : List (List ℕ))
    → o ++ ((x ∷ (ps ++ c ∷ [])) ++ d) ≡ (o ++ x ∷ []) ++ (ps ++ (c ∷ [] ++ d))
regrouped o x ps c d = rw (append_assoc ps (c ∷ []) d) (sym (append_assoc o (x ∷ []) (ps ++ (c ∷ [] ++ d))))

parted : (digit : ℕ) (storage file : List ℕ) (pieces : List (List ℕ)) → 1 < length pieces
    → file_lines digit storage file pieces
    ≡ before digit storage file ++ (map (piece_line digit storage) pieces ++ after digit storage)
unfolding file_lines
parted digit storage file [] more = absurd (omega arith)
parted digit storage file (p ∷ []) more = absurd (omega arith)
parted digit storage file (p ∷ q ∷ pieces) more = regrouped (opening_lines kind.ChangesFiles digit storage)
    (opened_line digit storage file) (map (piece_line digit storage) (p ∷ q ∷ pieces)) (closed_line digit storage)
    (durable_lines kind.ChangesFiles digit storage)

not_fitting : {T : Type 0} (e : LineError) (first : Result (Unit {0}) LineError) (a b : List ℕ) (lines : List (List ℕ))
    → first ≡ Err e → Adds first a b lines → IsErrOf {T = T} (Err e) error.NotALine → AllByRecursion IsOneLine lines
    → ⊥
not_fitting error.NotALine first a b lines is adds same =
    (subst (λ (r : Result (Unit {0}) LineError). Adds r a b lines) is adds).refused refl
not_fitting {T} error.OutOfMemory first a b lines is adds same = absurd cc

-- a line before the pieces is refused
pub not_before : {T : Type 0} (e : LineError) (first : Result (Unit {0}) LineError) (a b : List ℕ) (digit : ℕ)
    (storage file : List ℕ) (pieces : List (List ℕ)) → 1 < length pieces → first ≡ Err e
    → Adds first a b (before digit storage file) → IsErrOf {T = T} (Err e) error.NotALine
    → AllByRecursion IsOneLine (file_lines digit storage file pieces) → ⊥
not_before {T} e first a b digit storage file pieces more is adds same all = not_fitting {T = T} e first a b _ is adds same
    (parts_all (before digit storage file) _
    (subst (AllByRecursion IsOneLine) (parted digit storage file pieces more) all)).0

-- or one after them
pub not_after : {T : Type 0} (e : LineError) (first : Result (Unit {0}) LineError) (a b : List ℕ) (digit : ℕ)
    (storage file : List ℕ) (pieces : List (List ℕ)) → 1 < length pieces → first ≡ Err e
    → Adds first a b (after digit storage) → IsErrOf {T = T} (Err e) error.NotALine
    → AllByRecursion IsOneLine (file_lines digit storage file pieces) → ⊥
not_after {T} e first a b digit storage file pieces more is adds same all = not_fitting {T = T} e first a b _ is adds same
    (parts_all (map (piece_line digit storage) pieces) (after digit storage)
    (parts_all (before digit storage file) _
    (subst (AllByRecursion IsOneLine) (parted digit storage file pieces more) all)).1).1

joined : (text first last : List ℕ) (xs ps zs : List (List ℕ)) → first ≡ fed_lines xs → last ≡ fed_lines zs
    → text ≡ first ++ (fed_lines ps ++ last) → text ≡ fed_lines (xs ++ (ps ++ zs))
joined text first last xs ps zs p q r = subst (λ (lines : List (List ℕ)). text ≡ fed_lines lines) (append_assoc xs ps zs)
    (fed_both [] (first ++ fed_lines ps) text (xs ++ ps) zs (fed_both [] first (first ++ fed_lines ps) xs ps p refl)
    (r ∙ rw q (sym (append_assoc first (fed_lines ps) (fed_lines zs)))))

there : (u : Unit {0}) (r : Result (Unit {0}) LineError) (a b : List ℕ) (lines : List (List ℕ)) → r ≡ Ok u → a ≡ []
    → Adds r a b lines → (b ≡ fed_lines lines) × AllByRecursion IsOneLine lines
there u r a b lines is none adds =
    let added = subst (λ (result : Result (Unit {0}) LineError). Adds result a b lines) is adds in
    (added.text ∙ rw none refl, added.events)

-- all of them are lines of events, and are there
pub all_fed : (u v : Unit {0}) (r s : Result (Unit {0}) LineError) (a c text first last : List ℕ) (digit : ℕ)
    (storage file : List ℕ) (pieces : List (List ℕ)) → 1 < length pieces → r ≡ Ok u → a ≡ []
    → Adds r a first (before digit storage file) → AllByRecursion IsOneLine (map (piece_line digit storage) pieces)
    → s ≡ Ok v → c ≡ [] → Adds s c last (after digit storage)
    → text ≡ first ++ (fed_lines (map (piece_line digit storage) pieces) ++ last)
    → AreFed (file_lines digit storage file pieces) text
all_fed u v r s a c text first last digit storage file pieces more is none adds all was no_more added spelled =
    let front = there u r a first (before digit storage file) is none adds in
    let back = there v s c last (after digit storage) was no_more added in
    subst (λ (lines : List (List ℕ)). AreFed lines text) (sym (parted digit storage file pieces more)) (record {
      spelled = joined text first last (before digit storage file) (map (piece_line digit storage) pieces)
          (after digit storage) front.0 back.0 spelled;
      events = both_all (before digit storage file) _ front.1
          (both_all (map (piece_line digit storage) pieces) (after digit storage) all back.1);
    })
