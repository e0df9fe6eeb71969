-- What runs cost where bytes differ within one span, and over two steps.
use Rattle.std.proofs.Common.{◌≡◌, ℕ, zero, suc, ◌+◌, ◌-◌, ◌*◌, ◌/◌, ◌≤◌, min, List, [], ◌++◌, length, take, drop}
use Rattle.std.proofs.Common.{sym, ap, ◌∙◌, subst, ⊎_elim, append_assoc, refl, arith}
use Rattle.std.proofs.lemmas.List.{length-append, length-drop, take-take, take_all, take-append-le, drop-append-le}
use Rattle.std.proofs.lemmas.List.{append-nil}
use Rattle.std.proofs.lemmas.Bool.{cases_Bool, cases_lt}
use Rattle.std.proofs.lemmas.Slice.Eq.{bytes_eq-Decides}
use Rattle.std.proofs.Math.Seq.{drop-append-add}
use Rattle.std.specs.Int.{div_ceil}
use Rattle.std.specs.Str.{bytes_eq}
use Rattle.changed_runs.specs.Changed.{run_of, run_cost, runs_in, first_cost, changed_len}
use Rattle.changed_runs.specs.lemmas.RunLaws.{length-run, held_costs, other_costs, cost_within}
use Rattle.kvs_laws.specs.Costs.{DifferWithin, runs_reached}

-- ---- a run that both have costs nothing

-- a run is what its bytes have where it lies
run_there : (bytes : List ℕ) (j : ℕ) → take (length (run_of bytes j)) (drop (0 + 256 * j) bytes) ≡ run_of bytes j
run_there bytes j =
    let run = run_of bytes j in
    let p : 0 + 256 * j ≡ 256 * j = omega arith in
    let short : length run ≤ 256 = omega (arith, length-run bytes j) in
    ap (λ (n : ℕ). take (length run) (drop n bytes)) p
    ∙ sym (take-take (length run) 256 (drop (256 * j) bytes) short) ∙ take_all (length run) run (omega arith)

same_run : (old new : List ℕ) (j : ℕ) → run_of old j ≡ run_of new j → run_cost old (0 + 256 * j) (run_of new j) ≡ 0
same_run old new j same = held_costs old (run_of new j) (0 + 256 * j)
    (subst (λ (run : List ℕ). take (length run) (drop (0 + 256 * j) old) ≡ run) same (run_there old j))

-- ---- the runs outside of the span

before_span : (pre rest : List ℕ) (p : ℕ) → p + 256 ≤ length pre
    → take 256 (drop p (pre ++ rest)) ≡ take 256 (drop p pre)
before_span pre rest p inside =
    ap (take 256) (drop-append-le p pre rest (omega arith))
    ∙ take-append-le 256 (drop p pre) rest (omega (arith, length-drop p pre))

behind_span : (pre x post : List ℕ) (p : ℕ) → length pre + length x ≤ p
    → drop p (pre ++ (x ++ post)) ≡ drop (p - (length pre + length x)) post
behind_span pre x post p past =
    let k = p - (length pre + length x) in
    let is : p ≡ length pre + (length x + k) = omega arith in
    ap (λ (n : ℕ). drop n (pre ++ (x ++ post))) is ∙ drop-append-add pre (x ++ post) (length x + k)
    ∙ drop-append-add x post k

module _ (pre x y post : List ℕ) (long : length x ≡ length y) where
  abbrev Old : List ℕ
  Old = pre ++ (x ++ post)

  abbrev New : List ℕ
  New = pre ++ (y ++ post)

  run_before : (j : ℕ) → 256 * j + 256 ≤ length pre → run_of Old j ≡ run_of New j
  run_before j inside = before_span pre (x ++ post) (256 * j) inside ∙ sym (before_span pre (y ++ post) (256 * j) inside)

  run_behind : (j : ℕ) → length pre + length x ≤ 256 * j → run_of Old j ≡ run_of New j
  run_behind j past = ap (take 256) (behind_span pre x post (256 * j) past
      ∙ ap (λ (n : ℕ). drop (256 * j - (length pre + n)) post) long
      ∙ sym (behind_span pre y post (256 * j) (omega (arith, long, past))))

  -- the first and the last run that the span reaches
  module _ (lo hi : ℕ) (from : 256 * lo ≤ length pre) (last : length pre + length x ≤ 256 * hi + 256) where
    reached : (n : ℕ) → first_cost Old 0 New n ≤ 256 * (min n (hi + 1) - lo)
    reached zero = omega arith
    reached (suc n) = ⊎_elim
        (λ before. omega (arith, reached n, same_run Old New n (run_before n (omega (arith, before, from)))))
        (λ here. ⊎_elim
        (λ past. omega (arith, reached n, same_run Old New n (run_behind n (omega (arith, past, last)))))
        (λ inside. omega (
          arith,
          reached n,
          inside,
          here,
          cost_within Old (run_of New n) (0 + 256 * n),
          length-run New n,
        ))
        (cases_lt hi n))
        (cases_lt n lo)

  span_reached : changed_len Old 0 New ≤ 256 * runs_reached (length y)
  span_reached =
      let lo = length pre / 256 in
      let hi = (length pre + length x - 1) / 256 in
      let some = reached lo hi (omega arith) (omega arith) (runs_in (length New)) in
      let few : hi + 1 - lo ≤ runs_reached (length y) = omega (arith, long) in
      omega (arith, some, few)

pub span_cost : (len : ℕ) (old new : List ℕ) → DifferWithin len old new → changed_len old 0 new ≤ 256 * runs_reached len
span_cost len old new d =
    let here = span_reached d.before d.old_span d.new_span d.behind d.as_long in
    let n = length d.new_span in
    let more : runs_reached n ≤ runs_reached len = omega (arith, d.within) in
    let both = rw (← d.old_is, ← d.new_is) at here in
    omega (arith, both, more)

-- ---- bytes before and behind

pub after_same : (len : ℕ) (front old new : List ℕ) → DifferWithin len old new
    → DifferWithin len (front ++ old) (front ++ new)
after_same len front old new d = record {
  before = front ++ d.before;
  old_span = d.old_span;
  new_span = d.new_span;
  behind = d.behind;
  old_is = ap (λ (x : List ℕ). front ++ x) d.old_is ∙ sym (append_assoc front d.before (d.old_span ++ d.behind));
  new_is = ap (λ (x : List ℕ). front ++ x) d.new_is ∙ sym (append_assoc front d.before (d.new_span ++ d.behind));
  as_long = d.as_long;
  within = d.within;
}

shifted : (a b c d : List ℕ) → (a ++ (b ++ c)) ++ d ≡ a ++ (b ++ (c ++ d))
shifted a b c d = append_assoc a (b ++ c) d ∙ ap (λ (x : List ℕ). a ++ x) (append_assoc b c d)

pub before_same : (len : ℕ) (rest old new : List ℕ) → DifferWithin len old new
    → DifferWithin len (old ++ rest) (new ++ rest)
before_same len rest old new d = record {
  before = d.before;
  old_span = d.old_span;
  new_span = d.new_span;
  behind = d.behind ++ rest;
  old_is = ap (λ (x : List ℕ). x ++ rest) d.old_is ∙ shifted d.before d.old_span d.behind rest;
  new_is = ap (λ (x : List ℕ). x ++ rest) d.new_is ∙ shifted d.before d.new_span d.behind rest;
  as_long = d.as_long;
  within = d.within;
}

pub all_differ : (len : ℕ) (old new : List ℕ) → length old ≡ length new → length new ≤ len → DifferWithin len old new
all_differ len old new long within = record {
  before = [];
  old_span = old;
  new_span = new;
  behind = [];
  old_is = sym (append-nil old);
  new_is = sym (append-nil new);
  as_long = long;
  within = within;
}

pub none_differ : (len : ℕ) (old new : List ℕ) → new ≡ old → DifferWithin len old new
none_differ len old new same = record {
  before = old;
  old_span = [];
  new_span = [];
  behind = [];
  old_is = sym (append-nil old);
  new_is = same ∙ sym (append-nil old);
  as_long = refl;
  within = omega arith;
}

-- the two have one length
pub length-same : (len : ℕ) (old new : List ℕ) → DifferWithin len old new → length old ≡ length new
length-same len old new d = ap length d.old_is
    ∙ length-append d.before (d.old_span ++ d.behind)
    ∙ ap (λ (n : ℕ). length d.before + n) (length-append d.old_span d.behind
    ∙ ap (λ (n : ℕ). n + length d.behind) d.as_long ∙ sym (length-append d.new_span d.behind))
    ∙ sym (length-append d.before (d.new_span ++ d.behind)) ∙ ap length (sym d.new_is)

-- ---- over two steps

module _ (a b c : List ℕ) (first : length a ≡ length b) (second : length b ≡ length c) where
  run_by_way : (j : ℕ) → run_cost a (0 + 256 * j) (run_of c j)
      ≤ run_cost a (0 + 256 * j) (run_of b j) + run_cost b (0 + 256 * j) (run_of c j)
  run_by_way j =
      let x = run_of b j in
      let y = run_of c j in
      let p = 0 + 256 * j in
      let alike : length x ≡ length y = omega (arith, length-run b j, length-run c j, second) in
      ⊎_elim
      (λ same. ⊎_elim
      (λ again.
      let held : take (length x) (drop p a) ≡ x = (bytes_eq-Decides (take (length x) (drop p a)) x).0 same in
      let held_too : take (length y) (drop p b) ≡ y = (bytes_eq-Decides (take (length y) (drop p b)) y).0 again in
      let equal : x ≡ y = sym (run_there b j) ∙ ap (λ (n : ℕ). take n (drop p b)) alike ∙ held_too in
      let there : take (length y) (drop p a) ≡ y = subst (λ (z : List ℕ). take (length z) (drop p a) ≡ z) equal held in
      omega (arith, held_costs a y p there))
      (λ differs. omega (arith, other_costs b y p differs, cost_within a y p))
      (cases_Bool (bytes_eq (take (length y) (drop p b)) y)))
      (λ differs. omega (arith, other_costs a x p differs, cost_within a y p, alike))
      (cases_Bool (bytes_eq (take (length x) (drop p a)) x))

  first_by_way : (n : ℕ) → first_cost a 0 c n ≤ first_cost a 0 b n + first_cost b 0 c n
  first_by_way zero = omega arith
  first_by_way (suc n) = omega (arith, first_by_way n, run_by_way n)

  pub by_way_of : changed_len a 0 c ≤ changed_len a 0 b + changed_len b 0 c
  by_way_of = subst (λ (n : ℕ). changed_len a 0 c ≤ first_cost a 0 b (div_ceil n 256) + changed_len b 0 c) (sym second)
      (first_by_way (div_ceil (length c) 256))
