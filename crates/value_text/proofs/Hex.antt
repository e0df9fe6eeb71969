-- Bytes in two digits each, read one by one.
use Rattle.std.proofs.Common.{◌≡◌, ℕ, zero, suc, ◌<◌, ◌≤◌, ◌+◌, ◌-◌, List, [], ◌∷◌, ◌++◌, length, Option, Some, None}
use Rattle.std.proofs.Common.{refl, sym, ap, ◌∙◌, arith}
use Rattle.std.specs.Prelude.{option_map}
use Rattle.std.proofs.lemmas.List.{append-nil}
use Rattle.per_base.specs.FieldLoops.{with_front}
use Rattle.value_text.specs.Readers.{hex_byte_at, hex_bytes_at}
use Rattle.value_text.specs.lemmas.Loop.{with_front-with_front}

abbrev Read : Type 0
Read = Option (List ℕ × List ℕ)

pub no_byte : (front : List ℕ) (n : ℕ) (rest : List ℕ) (total : Read) → hex_byte_at rest ≡ None
    → with_front front (hex_bytes_at n rest) ≡ total → total ≡ Some (front, rest)
unfolding hex_bytes_at
no_byte front zero rest total e so_far = sym so_far ∙ ap (λ (xs : List ℕ). Some (xs, rest)) (append-nil front)
no_byte front (suc n) rest total e so_far =
    let here : hex_bytes_at (suc n) rest ≡ Some ([], rest) = rw e refl in
    sym so_far ∙ ap (with_front front) here ∙ ap (λ (xs : List ℕ). Some (xs, rest)) (append-nil front)

pub one_byte : (front : List ℕ) (n i : ℕ) (rest : List ℕ) (b : ℕ) (others : List ℕ) (total : Read) → i < n
    → hex_byte_at rest ≡ Some (b, others) → with_front front (hex_bytes_at (n - i) rest) ≡ total
    → with_front (front ++ b ∷ []) (hex_bytes_at (n - (i + 1)) others) ≡ total
unfolding hex_bytes_at
one_byte front n i rest b others total lt e so_far =
    let k : n - i ≡ suc (n - (i + 1)) = omega arith in
    let here : hex_bytes_at (n - i) rest ≡ with_front (b ∷ []) (hex_bytes_at (n - (i + 1)) others) = rw (k, e) refl in
    sym (with_front-with_front front b (hex_bytes_at (n - (i + 1)) others)) ∙ sym (ap (with_front front) here) ∙ so_far

pub all_bytes : (front : List ℕ) (n i : ℕ) (rest : List ℕ) (total : Read) → n ≤ i
    → with_front front (hex_bytes_at (n - i) rest) ≡ total → total ≡ Some (front, rest)
unfolding hex_bytes_at
all_bytes front n i rest total le so_far =
    let k : n - i ≡ 0 = omega arith in
    let here : hex_bytes_at (n - i) rest ≡ Some ([], rest) = rw k refl in
    sym so_far ∙ ap (with_front front) here ∙ ap (λ (xs : List ℕ). Some (xs, rest)) (append-nil front)

-- ---- how many there are

-- after that many bytes, the number of those that are read and of those
abbrev pub counted : ℕ → Read → Option ℕ
counted i read = option_map (λ x. i + length x.0) read

one_counted : (i b : ℕ) (read : Read) → counted i (with_front (b ∷ []) read) ≡ counted (i + 1) read
one_counted i b None = refl
one_counted i b (Some x) = ap (λ (n : ℕ). Some n) (omega arith)

nothing_read : (k : ℕ) (rest : List ℕ) → hex_byte_at rest ≡ None → hex_bytes_at k rest ≡ Some ([], rest)
unfolding hex_bytes_at
nothing_read zero rest e = refl
nothing_read (suc k) rest e = rw e refl

pub none_more : (n i : ℕ) (rest : List ℕ) (total : Option ℕ) → hex_byte_at rest ≡ None
    → counted i (hex_bytes_at (n - i) rest) ≡ total → total ≡ Some i
unfolding hex_bytes_at
none_more n i rest total e so_far = sym so_far ∙ ap (counted i) (nothing_read (n - i) rest e)
    ∙ ap (λ (k : ℕ). Some k) (omega arith)

pub one_more : (n i : ℕ) (rest : List ℕ) (b : ℕ) (others : List ℕ) (total : Option ℕ) → i < n
    → hex_byte_at rest ≡ Some (b, others) → counted i (hex_bytes_at (n - i) rest) ≡ total
    → counted (i + 1) (hex_bytes_at (n - (i + 1)) others) ≡ total
unfolding hex_bytes_at
one_more n i rest b others total lt e so_far =
    let k : n - i ≡ suc (n - (i + 1)) = omega arith in
    let here : hex_bytes_at (n - i) rest ≡ with_front (b ∷ []) (hex_bytes_at (n - (i + 1)) others) = rw (k, e) refl in
    sym (one_counted i b (hex_bytes_at (n - (i + 1)) others)) ∙ sym (ap (counted i) here) ∙ so_far

pub all_counted : (n i : ℕ) (rest : List ℕ) (total : Option ℕ) → n ≡ i → counted i (hex_bytes_at (n - i) rest) ≡ total
    → total ≡ Some n
unfolding hex_bytes_at
all_counted n i rest total same so_far =
    let k : n - i ≡ 0 = omega arith in
    let here : hex_bytes_at (n - i) rest ≡ Some ([], rest) = rw k refl in
    sym so_far ∙ ap (counted i) here ∙ ap (λ (m : ℕ). Some m) (omega arith)

whole_counted : (read : Read) → counted 0 read ≡ option_map (λ x. length x.0) read
whole_counted None = refl
whole_counted (Some x) = ap (λ (n : ℕ). Some n) (omega arith)

pub counted_first : (n : ℕ) (bytes : List ℕ) → counted 0 (hex_bytes_at (n - 0) bytes)
    ≡ option_map (λ x. length x.0) (hex_bytes_at n bytes)
counted_first n bytes = let whole : n - 0 ≡ n = omega arith in
    ap (λ k. counted 0 (hex_bytes_at k bytes)) whole ∙ whole_counted (hex_bytes_at n bytes)
