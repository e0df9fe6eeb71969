-- What follows a blanked start, and what the next text over it costs.
use Rattle.std.proofs.Common.{◌≡◌, ℕ, zero, suc, ◌+◌, ◌-◌, ◌*◌, ◌<◌, ◌≤◌, min, List, length, take, drop}
use Rattle.std.proofs.Common.{cond, Bool, true, false, get_or, refl, sym, ap, ◌∙◌, subst, inr, ⊎_elim, arith}
use Rattle.std.proofs.lemmas.List.{ext_get_or, length-take, length-drop, get_or-take, get_or-drop}
use Rattle.std.proofs.lemmas.List.{length-replicate, take_all}
use Rattle.std.proofs.lemmas.Bool.{cases_Bool, cases_eq}
use Rattle.std.proofs.lemmas.Slice.Eq.{bytes_eq-Decides}
use Rattle.std.specs.Int.{div_ceil}
use Rattle.std.specs.Str.{bytes_eq}
use Rattle.disk_model.specs.Image.{Image, put_bytes}
use Rattle.disk_model.specs.Written.{put_outside, put_inside, length-put_some}
use Rattle.disk_model.specs.Place.{slot}
use Rattle.disk_model.specs.declared.place.Place.{Place}
use Rattle.changed_runs.specs.Changed.{run_of, run_cost, first_cost, changed_len}
use Rattle.changed_runs.specs.lemmas.RunLaws.{held_costs, other_costs, cost_within, length-run}
use Rattle.guarded_cell.specs.Register.{own, other}
use Rattle.guarded_cell.specs.Starts.{StartsPut}
use Rattle.guarded_cell.specs.Differing.{front_is_blank, front_cost, texts_cost, PutsOver, IsOver}
use Rattle.hash_guard.specs.SealedText.{sealed}
use Rattle.std.proofs.Math.Nat.{suc-mul}
use Rattle.guarded_cell.proofs.Putting.{zeros, other_apart}

-- ---- costs over two files of which one holds each run that the other holds

module _ (x y bytes : List ℕ) (longer : length x ≤ length y)
    (reads : (i : ℕ) → 256 ≤ i → i < length x → get_or y i 0 ≡ get_or x i 0) where
  held_too : (j : ℕ) → 1 ≤ j → take (length (run_of bytes j)) (drop (0 + 256 * j) x) ≡ run_of bytes j
      → take (length (run_of bytes j)) (drop (0 + 256 * j) y) ≡ run_of bytes j
  held_too j some same =
      let run = run_of bytes j in
      let p = 0 + 256 * j in
      let n = length run in
      let long : n ≡ min n (length x - p) = ap length (sym same) ∙ length-take n (drop p x)
      ∙ ap (min n) (length-drop p x) in
      let n' : length (take n (drop p y)) ≡ min n (length y - p) =
      length-take n (drop p y) ∙ ap (min n) (length-drop p y) in
      ext_get_or 0 (take n (drop p y)) run (omega (arith, n', long, longer))
      (λ i lt.
      let k : i < n = omega (arith, n', lt) in
      let in_x : p + i < length x = omega (arith, long, k) in
      let behind : 256 ≤ p + i = omega (arith, some) in
      get_or-take n (drop p y) i 0 k ∙ get_or-drop p y i 0 ∙ reads (p + i) behind in_x
      ∙ sym (get_or-drop p x i 0) ∙ sym (get_or-take n (drop p x) i 0 k) ∙ ap (λ (xs : List ℕ). get_or xs i 0) same)

  cost_no_more : (j : ℕ) → 1 ≤ j → run_cost y (0 + 256 * j) (run_of bytes j) ≤ run_cost x (0 + 256 * j) (run_of bytes j)
  cost_no_more j some =
      let run = run_of bytes j in
      let p = 0 + 256 * j in
      ⊎_elim
      (λ agrees.
      let same = (bytes_eq-Decides (take (length run) (drop p x)) run).0 agrees in
      let none : run_cost y p run ≡ 0 = held_costs y run p (held_too j some same) in
      omega (arith, none))
      (λ differs.
      let all : run_cost x p run ≡ length run = other_costs x run p differs in
      omega (arith, all, cost_within y run p))
      (cases_Bool (bytes_eq (take (length run) (drop p x)) run))

  pub first_no_more : (n : ℕ) → first_cost y 0 bytes n ≤ 256 + first_cost x 0 bytes n
  first_no_more zero = omega arith
  first_no_more (suc n) = ⊎_elim
      (λ first.
      let none : first_cost y 0 bytes n ≡ 0 =
      subst (λ (k : ℕ). first_cost y 0 bytes k ≡ 0) (sym first) refl in
      omega (arith, none, cost_within y (run_of bytes n) (0 + 256 * n), length-run bytes n))
      (λ later.
      let some : 1 ≤ n = omega (arith, later) in
      omega (arith, first_no_more n, cost_no_more n some))
      (cases_eq n 0)

put_front_reads : (old bytes : List ℕ) (i : ℕ) → i < length bytes → get_or (put_bytes old 0 bytes) i 0 ≡ get_or bytes
    i 0
put_front_reads old bytes i inside =
    let e : 0 + i ≡ i = omega arith in
    subst (λ (p : ℕ). get_or (put_bytes old 0 bytes) p 0 ≡ get_or bytes i 0) e (put_inside old 0 bytes i inside)

-- ---- a text that was put at a start that was blanked after another text stood there

module _ (w x bytes : List ℕ) where
  abbrev Behind : List ℕ
  Behind = put_bytes (put_bytes w 0 x) 0 zeros

  long : length zeros ≡ 44
  long = length-replicate {A = ℕ} 44 0

  behind_longer : length x ≤ length (put_bytes (put_bytes w 0 x) 0 zeros)
  behind_longer = ⊎_elim
      (λ none. omega (arith, none))
      (λ some. omega (
        arith,
        length-put_some w 0 x some,
        length-put_some (put_bytes w 0 x) 0 zeros (λ e. omega (arith, e, long)),
      ))
      (cases_eq (length x) 0)

  behind_reads : (i : ℕ) → 256 ≤ i → i < length x
      → get_or (put_bytes (put_bytes w 0 x) 0 zeros) i 0 ≡ get_or x i 0
  behind_reads i far inside = put_outside (put_bytes w 0 x) 0 zeros i (inr (omega (arith, far, long)))
      ∙ put_front_reads w x i inside

  behind_blank : front_is_blank (put_bytes (put_bytes w 0 x) 0 zeros) ≡ true
  behind_blank =
      let slot = put_bytes (put_bytes w 0 x) 0 zeros in
      let wide : 44 ≤ length slot = omega (
        arith,
        long,
        length-put_some (put_bytes w 0 x) 0 zeros (λ e. omega (arith, e, long)),
      ) in
      let all : take (length slot) zeros ≡ zeros = take_all (length slot) zeros (omega (arith, long, wide)) in
      let n : length (take 44 slot) ≡ min 44 (length slot) = length-take 44 slot in
      let front : take 44 slot ≡ zeros = ext_get_or 0 (take 44 slot) zeros (omega (arith, n, wide, long))
      (λ i lt.
      let k : i < 44 = omega (arith, n, lt) in
      get_or-take 44 slot i 0 k ∙ put_front_reads (put_bytes w 0 x) zeros i (omega (arith, k, long))) in
      (bytes_eq-Decides (take 44 slot) (take (length slot) zeros)).1 (front ∙ sym all)

  -- costs its first run and the runs in which it differs from that text
  pub behind_cost : front_cost (put_bytes (put_bytes w 0 x) 0 zeros) bytes ≤ 256 + changed_len x 0 bytes
  behind_cost =
      let slot = put_bytes (put_bytes w 0 x) 0 zeros in
      subst (λ (b : Bool). cond b (changed_len slot 0 bytes) (length bytes) ≤ 256 + changed_len x 0 bytes)
      (sym behind_blank) (first_no_more x slot bytes behind_longer behind_reads (div_ceil (length bytes) 256))

-- ---- which bytes stand where after a text was put

pub over : (place : Place) (generation : ℕ) (lacking stale : List Bool) (bytes : List ℕ) (old mid new : Image)
    → StartsPut place (own generation) lacking bytes old mid
    → StartsPut place (other generation) stale zeros mid new
    → PutsOver place generation lacking stale bytes old new
over place generation lacking stale bytes old mid new put blanked = record {
  own_slots = λ copy lt flag. blanked.some.others (slot place copy (own generation))
      (other_apart place (other generation) (own generation) stale copy (omega arith) (omega arith)
      (λ e. omega (arith, e)))
      ∙ put.put copy lt flag;
  other_slots = λ copy lt flag. blanked.put copy lt flag
      ∙ ap (λ (s : List ℕ). put_bytes s 0 zeros) (put.some.others (slot place copy (other generation))
      (other_apart place (own generation) (other generation) lacking copy (omega arith) (omega arith)
      (λ e. omega (arith, e))));
}

-- where all were chosen
pub over_all : (place : Place) (generation : ℕ) (lacking stale : List Bool) (bytes : List ℕ) (old new : Image)
    → ((copy : ℕ) → copy < place.copies → get_or lacking copy false ≡ true)
    → ((copy : ℕ) → copy < place.copies → get_or stale copy false ≡ true)
    → PutsOver place generation lacking stale bytes old new → IsOver place generation bytes old new
over_all place generation lacking stale bytes old new lack stales puts = record {
  own_slots = λ copy lt. puts.own_slots copy lt (lack copy lt);
  other_slots = λ copy lt. puts.other_slots copy lt (stales copy lt);
}

-- ---- the third of three commits

module _ (place : Place) (g : ℕ) (a b c : List ℕ) (start mid now : Image)
    (first : IsOver place g (sealed g a) start mid) (second : IsOver place (g + 1) (sealed (g + 1) b) mid now) where
  abbrev each_bound : ℕ
  each_bound = 256 + changed_len (sealed g a) 0 (sealed (g + 2) c)

  slot_cost : (copy : ℕ) → copy < place.copies
      → front_cost (now (slot place copy (own (g + 2)))) (sealed (g + 2) c)
      ≤ 256 + changed_len (sealed g a) 0 (sealed (g + 2) c)
  slot_cost copy lt =
      let p : own (g + 2) ≡ other (g + 1) = omega arith in
      let q : other (g + 1) ≡ own g = omega arith in
      let is : now (slot place copy (own (g + 2)))
      ≡ put_bytes (put_bytes (start (slot place copy (own g))) 0 (sealed g a)) 0 zeros =
      ap (λ (n : ℕ). now (slot place copy n)) p ∙ second.other_slots copy lt
      ∙ ap (λ (n : ℕ). put_bytes (mid (slot place copy n)) 0 zeros) q
      ∙ ap (λ (s : List ℕ). put_bytes s 0 zeros) (first.own_slots copy lt) in
      subst (λ (s : List ℕ). front_cost s (sealed (g + 2) c) ≤ 256 + changed_len (sealed g a) 0 (sealed (g + 2) c))
      (sym is) (behind_cost (start (slot place copy (own g))) (sealed g a) (sealed (g + 2) c))

  all_cost : (n : ℕ) → n ≤ place.copies → texts_cost place (own (g + 2)) (sealed (g + 2) c) now n
      ≤ n * (256 + changed_len (sealed g a) 0 (sealed (g + 2) c))
  all_cost zero le = omega arith
  all_cost (suc n) le =
      let before : n ≤ place.copies = omega arith in
      let e : suc n * (256 + changed_len (sealed g a) 0 (sealed (g + 2) c))
      ≡ n * (256 + changed_len (sealed g a) 0 (sealed (g + 2) c))
      + (256 + changed_len (sealed g a) 0 (sealed (g + 2) c)) =
      suc-mul n (256 + changed_len (sealed g a) 0 (sealed (g + 2) c)) in
      omega (arith, all_cost n before, slot_cost n (omega arith), e)

  pub third_cost : texts_cost place (own (g + 2)) (sealed (g + 2) c) now place.copies
      ≤ place.copies * (256 + changed_len (sealed g a) 0 (sealed (g + 2) c))
  third_cost = all_cost place.copies (omega arith)
