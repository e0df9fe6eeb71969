-- Parts of contents: how they are cut, and when two of them differ.
use Rattle.std.proofs.Common.{◌≡◌, ℕ, suc, zero, ◌+◌, ◌-◌, ◌*◌, ◌<◌, ◌≤◌, min, List, length, take, drop, true, false}
use Rattle.std.proofs.Common.{cond, ap, ◌∙◌, subst, arith, ⊎_elim}
use Rattle.std.specs.Str.{bytes_eq}
use Rattle.std.proofs.lemmas.List.{take_min, drop_min}
use Rattle.std.proofs.lemmas.Bool.{not-false, cases_Bool}
use Rattle.std.proofs.lemmas.Slice.Eq.{bytes_eq-Decides}
use Rattle.changed_runs.specs.Changed.{run_of}
use Rattle.block_files.specs.Parts.{is_changed, changed_below}

-- a part cut within the bounds
pub part_cut : (bytes rest : List ℕ) (i a b : ℕ) → rest ≡ drop a bytes → a ≡ min (256 * i) (length bytes)
    → b ≡ min 256 (length rest) → take b rest ≡ run_of bytes i
part_cut bytes rest i a b cut at size =
    ap (λ n. take n rest) size
    ∙ take_min 256 rest
    ∙ ap (take 256) (cut ∙ ap (λ n. drop n bytes) at ∙ drop_min (256 * i) bytes)

-- parts that do not differ are equal
pub same_part : (bytes was : List ℕ) (i : ℕ) → is_changed bytes was i ≡ false → run_of bytes i ≡ run_of was i
unfolding is_changed
same_part bytes was i same = (bytes_eq-Decides (run_of bytes i) (run_of was i)).0
    (not-false (bytes_eq (run_of bytes i) (run_of was i)) same)

-- that many parts differ at most
pub changed_to-le : (bytes was : List ℕ) (n : ℕ) → changed_below bytes was n ≤ n
changed_to-le bytes was zero = omega arith
changed_to-le bytes was (suc n) = ⊎_elim
    (λ yes. let e = ap (λ b. changed_below bytes was n + cond b 1 0) yes in omega (arith, changed_to-le bytes was n))
    (λ no. let e = ap (λ b. changed_below bytes was n + cond b 1 0) no in omega (arith, changed_to-le bytes was n))
    (cases_Bool (is_changed bytes was n))

-- one more part
pub changed_more : (bytes was : List ℕ) (i : ℕ) → is_changed bytes was i ≡ true
    → changed_below bytes was (i + 1) ≡ changed_below bytes was i + 1
changed_more bytes was i differ =
    let e : i + 1 ≡ suc i = omega arith in
    ap (changed_below bytes was) e ∙ ap (λ b. changed_below bytes was i + cond b 1 0) differ

pub changed_same : (bytes was : List ℕ) (i : ℕ) → is_changed bytes was i ≡ false
    → changed_below bytes was (i + 1) ≡ changed_below bytes was i
changed_same bytes was i same =
    let e : i + 1 ≡ suc i = omega arith in
    let f = ap (λ b. changed_below bytes was i + cond b 1 0) same in
    let z : changed_below bytes was i + 0 ≡ changed_below bytes was i = omega arith in
    ap (changed_below bytes was) e ∙ f ∙ z

-- the count never falls
pub changed_to-grows : (bytes was : List ℕ) (i n : ℕ) → changed_below bytes was i ≤ changed_below bytes was (i + n)
changed_to-grows bytes was i zero = let e : i + 0 ≡ i = omega arith in let f =
    ap (changed_below bytes was) e in omega arith
changed_to-grows bytes was i (suc n) =
    let e : i + suc n ≡ (i + n) + 1 = omega arith in
    let f = ap (changed_below bytes was) e in
    ⊎_elim
    (λ yes. omega (arith, changed_to-grows bytes was i n, changed_more bytes was (i + n) yes))
    (λ no. omega (arith, changed_to-grows bytes was i n, changed_same bytes was (i + n) no))
    (cases_Bool (is_changed bytes was (i + n)))

pub changed_to-mono : (bytes was : List ℕ) (i j : ℕ) → i ≤ j → changed_below bytes was i ≤ changed_below bytes was j
changed_to-mono bytes was i j le =
    let e : i + (j - i) ≡ j = omega arith in
    let P : ℕ → Type 0 = λ n. changed_below bytes was i ≤ changed_below bytes was n in
    subst P e (changed_to-grows bytes was i (j - i))

-- a part that differs is counted
pub changed_at : (bytes was : List ℕ) (i j : ℕ) → i < j → is_changed bytes was i ≡ true
    → changed_below bytes was i < changed_below bytes was j
changed_at bytes was i j less differ = omega (
  arith,
  changed_more bytes was i differ,
  changed_to-mono bytes was (i + 1) j (omega arith),
)

-- parts that all differ are all counted
pub changed_run : (bytes was : List ℕ) (i n : ℕ)
    → ((m : ℕ) → i ≤ m → m < i + n → is_changed bytes was m ≡ true)
    → changed_below bytes was (i + n) ≡ changed_below bytes was i + n
changed_run bytes was i zero differ = let e : i + 0 ≡ i = omega arith in let f =
    ap (changed_below bytes was) e in omega arith
changed_run bytes was i (suc n) differ =
    let e : i + suc n ≡ (i + n) + 1 = omega arith in
    let f = ap (changed_below bytes was) e in
    omega (
      arith,
      changed_more bytes was (i + n) (differ (i + n) (omega arith) (omega arith)),
      changed_run bytes was i n (λ m from lt. differ m from (omega arith)),
    )
