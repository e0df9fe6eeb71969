-- How far the text in a slot reaches, and what reading so far tells.
use Rattle.std.proofs.Common.{◌≡◌, ℕ, ◌+◌, ◌-◌, ◌<◌, ◌≤◌, List, ◌++◌, length, take, drop, min, Option, Some, None, refl}
use Rattle.std.proofs.Common.{sym, ap, ◌∙◌, ⊎_elim, arith}
use Rattle.std.proofs.lemmas.Bool.{cases_lt}
use Rattle.std.proofs.lemmas.List.{drop-take, length-take, length-take-le, take-append-le, take_min, take-take}
use Rattle.std.proofs.Math.Seq.{take-add, take-append-add}
use Rattle.byteorder.specs.Endian.{little_from}
use Rattle.byteorder.specs.Numbers.{little_from-take}
use Rattle.hash_guard.specs.SealedText.{VerifiesAs, header, verified, length_in}
use Rattle.hash_guard.specs.Laws.{length-body, text_within, verifies-take, take-verifies, verifies-verified}
use Rattle.hash_guard.specs.Laws.{verified-verifies, verified-none}
use Rattle.guarded_cell.specs.Held.{Text}
use Rattle.guarded_cell.specs.Slots.{ReachesTo}

-- a start with a header states the length of the text
pub stated : (start slot : List ℕ) (g : ℕ) (text : List ℕ) → header ≤ length start
    → take (length start) slot ≡ start → VerifiesAs slot g text
    → length text ≡ little_from 0 4 (drop 40 start)
unfolding length_in
stated start slot g text head same v =
    let n = length start in
    let whole : n ≡ 40 + (n - 40) = omega (arith, head) in
    let rest : drop 40 start ≡ take (n - 40) (drop 40 slot) = ap (drop 40) (sym same)
    ∙ ap (λ (j : ℕ). drop 40 (take j slot)) whole ∙ drop-take 40 (n - 40) slot in
    length-body slot g text v
    ∙ sym (ap (little_from 0 4) rest ∙ little_from-take 0 4 (n - 40) (drop 40 slot) (omega (arith, head)))

-- the first `n` bytes of a slot tell what it holds when they reach at least as far as its text
pub enough_tells : (n : ℕ) (slot : List ℕ) → ((g : ℕ) (text : List ℕ) → VerifiesAs slot g text → header + length text ≤ n)
    → verified (take n slot) ≡ verified slot
enough_tells n slot enough = go (verified slot) refl
  where
    go : (answer : Option Text) → verified slot ≡ answer → verified (take n slot) ≡ answer
    go None e = verified-none (take n slot) (λ g text v.
        let some = verifies-verified slot g text (take-verifies n slot g text v) in
        let differ : None ≡ Some (g, text) = sym e ∙ some in cc)
    go (Some t) e =
        let v = verified-verifies slot t.0 t.1 e in
        verifies-verified (take n slot) t.0 t.1 (verifies-take n slot t.0 t.1 (enough t.0 t.1 v) v)

-- what was read at first tells what the slot holds, where the text in it reaches no further
pub begun_tells : (slot start : List ℕ) (len reach : ℕ) → header ≤ len → start ≡ take len slot
    → ReachesTo reach start → reach ≤ len → verified start ≡ verified slot
begun_tells slot start len reach head is reaches within =
    ap verified is ∙ enough_tells len slot (λ g text v. ⊎_elim
    (λ short. omega (arith, short, text_within slot g text v))
    (λ long.
    let all : length start ≡ len = ap length is ∙ length-take len slot ∙ omega (arith, long) in
    let same : take (length start) slot ≡ start = ap (λ (j : ℕ). take j slot) all ∙ sym is in
    omega (arith, within, reaches (omega (arith, all, head)) slot same g text v))
    (cases_lt (length slot) len))

-- what was read then does
pub reached_tells : (slot start : List ℕ) (len reach : ℕ) → header ≤ len → start ≡ take len slot
    → ReachesTo reach start → len < reach → verified (take reach slot) ≡ verified slot
reached_tells slot start len reach head is reaches beyond =
    enough_tells reach slot (λ g text v. ⊎_elim
    (λ short. omega (arith, short, beyond, text_within slot g text v))
    (λ long.
    let all : length start ≡ len = ap length is ∙ length-take len slot ∙ omega (arith, long) in
    let same : take (length start) slot ≡ start = ap (λ (j : ℕ). take j slot) all ∙ sym is in
    reaches (omega (arith, all, head)) slot same g text v)
    (cases_lt (length slot) len))

-- a room that begins with the first bytes of a slot, and into whose rest what follows them was read
pub filled : (begun more : ℕ) (old out rest slot : List ℕ) → begun ≤ length old → take begun old ≡ take begun slot
    → more ≤ length out → more ≡ min (length old - begun) (length slot - begun)
    → take more out ≡ take more (drop begun slot)
    → take (begun + more) (take begun old ++ (out ++ rest)) ≡ take (length old) slot
filled begun more old out rest slot inside same short count read =
    let first : length (take begun old) ≡ begun = length-take-le begun old inside in
    let there : begun ≤ length slot = omega (arith, first, ap length same, length-take begun slot) in
    let both : begun + more ≡ min (length old) (length slot) = omega (arith, count, there, inside) in
    ap (λ (n : ℕ). take (n + more) (take begun old ++ (out ++ rest))) (sym first)
    ∙ take-append-add (take begun old) (out ++ rest) more
    ∙ ap (λ (xs : List ℕ). take begun old ++ xs) (take-append-le more out rest short ∙ read)
    ∙ ap (λ (xs : List ℕ). xs ++ take more (drop begun slot)) same
    ∙ sym (take-add begun more slot)
    ∙ ap (λ (n : ℕ). take n slot) both ∙ take_min (length old) slot

-- the bytes that were read are still there in a longer room
pub still : (begun len : ℕ) (room longer slot : List ℕ) → begun ≤ length room → take begun room ≡ take len slot
    → take begun longer ≡ take begun room → take begun longer ≡ take begun slot
still begun len room longer slot inside read same =
    let first : length (take begun room) ≡ begun = length-take-le begun room inside in
    let least : begun ≡ min len (length slot) = sym first ∙ ap length read ∙ length-take len slot in
    same ∙ read ∙ sym (ap (λ (n : ℕ). take n slot) least ∙ take_min len slot)

-- a longer room begins as the shorter one did
pub grown : (begun reach : ℕ) (room zeros longer : List ℕ) → begun ≤ length room → length room < reach
    → longer ≡ take reach room ++ zeros → take begun longer ≡ take begun room
grown begun reach room zeros longer inside beyond is =
    let all : begun ≤ length (take reach room) = omega (arith, inside, beyond, length-take reach room) in
    ap (take begun) is ∙ take-append-le begun (take reach room) zeros all
    ∙ take-take begun reach room (omega (arith, inside, beyond))
