-- Reading undoes writing and the other way round: a slot of bytes that verifies begins with the text that seals what it
-- verifies as.
use Rattle.std.proofs.Common.{◌≡◌, ℕ, zero, suc, ◌+◌, ◌*◌, ◌/◌, ◌%◌, ◌^◌, ◌<◌, ◌≤◌, List, [], ◌∷◌, ◌++◌, length, take}
use Rattle.std.proofs.Common.{drop, slice_index, refl, sym, ap, ◌∙◌, append_assoc, arith, length-drop}
use Rattle.std.proofs.lemmas.List.{drop-drop, get_or-drop}
use Rattle.std.proofs.Math.Seq.{take-add}
use Rattle.std.proofs.Math.Nat.{div-div-eq-div-mul, div-one, pow-succ'}
use Rattle.std.specs.Int.{byte_at, bytes_low_first}
use Rattle.byteorder.specs.Endian.{little_bytes, little_from}
use Rattle.byteorder.specs.Numbers.{little_from-cons}
use Rattle.sha2.specs.Sha256.{sha256}
use Rattle.hash_guard.specs.SealedText.{header, numbered, sealed, generation_in, length_in, VerifiesAs}
use Rattle.hash_guard.specs.Laws.{length-body}

-- ---- the bytes of the number that bytes make

byte_at-pow : (i n : ℕ) → byte_at i n ≡ n / 256 ^ i % 256
byte_at-pow zero n = ap (λ (m : ℕ). m % 256) (sym (div-one n))
byte_at-pow (suc i) n = refl

-- a byte above the lowest is one of the rest
byte_at-above : (i x rest : ℕ) → x < 256 → byte_at (suc i) (x + 256 * rest) ≡ byte_at i rest
byte_at-above i x rest small =
    let above : (x + 256 * rest) / 256 ≡ rest = omega arith in
    ap (λ (p : ℕ). (x + 256 * rest) / p % 256) (pow-succ' 256 i)
    ∙ ap (λ (m : ℕ). m % 256) (sym (div-div-eq-div-mul (x + 256 * rest) 256 (256 ^ i)))
    ∙ ap (λ (m : ℕ). m / 256 ^ i % 256) above
    ∙ sym (byte_at-pow i rest)

bytes-above : (i n x rest : ℕ) → x < 256 → bytes_low_first (suc i) n (x + 256 * rest) ≡ bytes_low_first i n rest
bytes-above i zero x rest small = refl
bytes-above i (suc n) x rest small =
    let first = byte_at-above i x rest small in
    let others = bytes-above (suc i) n x rest small in
    ap (λ (b : ℕ). b ∷ bytes_low_first (suc (suc i)) n (x + 256 * rest)) first
    ∙ ap (λ (bs : List ℕ). byte_at i rest ∷ bs) others

bytes-number : (n : ℕ) (xs : List ℕ) → ((i : ℕ) → slice_index xs i < 256) → n ≤ length xs
    → bytes_low_first 0 n (little_from 0 n xs) ≡ take n xs
bytes-number zero xs bytes le = refl
bytes-number (suc n) [] bytes le = absurd (omega arith)
bytes-number (suc n) (x ∷ xs) bytes le =
    let small : x < 256 = bytes 0 in
    let rest = little_from 0 n xs in
    let moved : little_from 0 (suc n) (x ∷ xs) ≡ x + 256 * rest =
    ap (λ (m : ℕ). x + 256 * m) (little_from-cons 0 n x xs) in
    let lowest : (x + 256 * rest) % 256 ≡ x = omega arith in
    ap (bytes_low_first 0 (suc n)) moved
    ∙ ap (λ (b : ℕ). b ∷ bytes_low_first 1 n (x + 256 * rest)) lowest
    ∙ ap (λ (bs : List ℕ). x ∷ bs) (bytes-above 0 n x rest small
    ∙ bytes-number n xs (λ i. bytes (suc i)) (omega arith))

bytes-drop : (k : ℕ) (xs : List ℕ) → ((i : ℕ) → slice_index xs i < 256) → (i : ℕ) → slice_index (drop k xs) i < 256
bytes-drop k xs bytes i = let e = get_or-drop k xs i 0 in omega (arith, e, bytes (k + i))

-- ---- a slot that verifies

joined : (xs a b c : List ℕ) (n : ℕ) → a ≡ take 8 xs → b ≡ take 4 (drop 8 xs) → c ≡ take n (drop 12 xs)
    → a ++ b ++ c ≡ take (12 + n) xs
joined xs a b c n p q r =
    let whole : take (12 + n) xs ≡ take (8 + (4 + n)) xs = ap (λ (m : ℕ). take m xs) (omega arith) in
    let first = take-add 8 (4 + n) xs in
    let second = take-add 4 n (drop 8 xs) in
    let third = drop-drop 4 8 xs in
    let grouped = append_assoc a b c in
    cc

-- what is hashed is what follows the hash
numbered-read : (slot : List ℕ) (g : ℕ) (body : List ℕ) → ((i : ℕ) → slice_index slot i < 256)
    → VerifiesAs slot g body
    → numbered g body ≡ take (12 + length_in slot) (drop 32 slot)
unfolding numbered generation_in length_in
numbered-read slot g body bytes v =
    let room : 44 + length_in slot ≤ length slot = v.front.whole in
    let generation : little_bytes 8 g ≡ take 8 (drop 32 slot) =
    ap (bytes_low_first 0 8) v.generation_is
    ∙ bytes-number 8 (drop 32 slot) (bytes-drop 32 slot bytes) (omega (arith, length-drop 32 slot)) in
    let number : little_bytes 4 (length body) ≡ take 4 (drop 8 (drop 32 slot)) =
    ap (bytes_low_first 0 4) (length-body slot g body v)
    ∙ bytes-number 4 (drop 40 slot) (bytes-drop 40 slot bytes) (omega (arith, length-drop 40 slot))
    ∙ ap (take 4) (sym (drop-drop 8 32 slot)) in
    let its_body : body ≡ take (length_in slot) (drop 12 (drop 32 slot)) = v.body_is
    ∙ ap (take (length_in slot)) (sym (drop-drop 12 32 slot)) in
    joined (drop 32 slot) (little_bytes 8 g) (little_bytes 4 (length body)) body (length_in slot) generation number
    its_body

-- a slot that verifies begins with the text that seals what it verifies as
pub verified-sealed : (slot : List ℕ) (g : ℕ) (body : List ℕ) → ((i : ℕ) → slice_index slot i < 256)
    → VerifiesAs slot g body
    → take (header + length body) slot ≡ sealed g body
unfolding sealed
verified-sealed slot g body bytes v =
    let same = numbered-read slot g body bytes v in
    let whole : 44 + length body ≡ 32 + (12 + length_in slot) = omega (arith, length-body slot g body v) in
    let split = take-add 32 (12 + length_in slot) slot in
    let hash = v.front.hash in
    ap (λ (n : ℕ). take n slot) whole ∙ split
    ∙ ap (λ (xs : List ℕ). xs ++ take (12 + length_in slot) (drop 32 slot)) hash
    ∙ ap (λ (xs : List ℕ). sha256 xs ++ xs) (sym same)
