-- What the index costs that is put third.
use Rattle.std.proofs.Common.{◌≡◌, ℕ, zero, suc, ◌+◌, ◌*◌, ◌≤◌, ◌<◌, List, ◌++◌, replicate, true, false, cond}
use Rattle.std.proofs.Common.{eqb, sym, ap, ◌∙◌, subst, arith}
use Rattle.std.proofs.Math.Nat.{suc-mul, mul-le-mul_left}
use Rattle.disk_model.specs.Image.{Image, put_bytes}
use Rattle.disk_model.specs.Place.{slot}
use Rattle.disk_model.specs.declared.place.Place.{Place}
use Rattle.changed_runs.specs.Changed.{changed_len}
use Rattle.hash_guard.specs.SealedText.{sealed}
use Rattle.guarded_cell.specs.Register.{own, other}
use Rattle.guarded_cell.specs.Differing.{front_cost, texts_cost}
use Rattle.index_text.specs.declared.entries.Index.{Index}
use Rattle.index_text.specs.Sizes.{changed_length}
use Rattle.index_text.specs.Spelling.{index_text}
use Rattle.kvs_laws.specs.Costs.{ChangesValue, DifferWithin, Follow, next_cost, runs_reached, value_length}
use Rattle.kvs_laws.proofs.Blanks.{is_headed, blanked_alike}
use Rattle.kvs_laws.proofs.Spans.{after_same, span_cost, length-same, by_way_of}
use Rattle.kvs_laws.proofs.ChangedValues.{texts_differ, twice}

-- what a text costs over a slot in which another stood and was blanked
abbrev pub EachCosts : Type 0
EachCosts = (w before text : List ℕ)
    → front_cost (put_bytes (put_bytes w 0 before) 0 (replicate 44 0)) text ≤ 256 + changed_len before 0 text

-- a value of few blocks reaches two runs
changed_length_bound : (format : ℕ) → changed_length format ≤ 8
changed_length_bound format = elim (eqb format 2) as (λ b. cond b 8 0 ≤ 8) [ true ↦ omega arith | false ↦ omega arith ]

two_runs : (format blocks : ℕ) → blocks ≤ 53 → runs_reached (value_length format blocks) ≤ 2
two_runs format blocks few = omega (arith, few, changed_length_bound format)

module _ (law : EachCosts) (place : Place) (g : ℕ) (a b c : Index) (start mid now : Image)
    (f : Follow place g a b c start mid now) where
  abbrev Head : List ℕ
  Head = (is_headed (g + 2) (index_text c)).head

  slot_cost : (copy : ℕ) → copy < place.copies
      → front_cost (now (slot place copy (own (g + 2)))) (sealed (g + 2) (index_text c))
      ≤ 256 + changed_len (Head ++ index_text a) 0 (Head ++ index_text c)
  slot_cost copy lt =
      let p : own (g + 2) ≡ other (g + 1) = omega arith in
      let q : other (g + 1) ≡ own g = omega arith in
      let w = start (slot place copy (own g)) in
      let was = is_headed g (index_text a) in
      let next = is_headed (g + 2) (index_text c) in
      let is : now (slot place copy (own (g + 2)))
      ≡ put_bytes (put_bytes w 0 (Head ++ index_text a)) 0 (replicate 44 0) =
      ap (λ (n : ℕ). now (slot place copy n)) p ∙ f.second.other_slots copy lt
      ∙ ap (λ (n : ℕ). put_bytes (mid (slot place copy n)) 0 (replicate 44 0)) q
      ∙ ap (λ (s : List ℕ). put_bytes s 0 (replicate 44 0)) (f.first.own_slots copy lt)
      ∙ ap (λ (s : List ℕ). put_bytes (put_bytes w 0 s) 0 (replicate 44 0)) was.is
      ∙ blanked_alike w was.head Head (index_text a) was.long next.long in
      subst (λ (s : List ℕ). front_cost s (sealed (g + 2) (index_text c))
      ≤ 256 + changed_len (Head ++ index_text a) 0 (Head ++ index_text c)) (sym is)
      (subst (λ (t : List ℕ). front_cost (put_bytes (put_bytes w 0 (Head ++ index_text a)) 0 (replicate 44 0)) t
      ≤ 256 + changed_len (Head ++ index_text a) 0 (Head ++ index_text c)) (sym next.is)
      (law w (Head ++ index_text a) (Head ++ index_text c)))

  module _ (bound : ℕ) (within : 256 + changed_len (Head ++ index_text a) 0 (Head ++ index_text c) ≤ bound) where
    first_copies : (n : ℕ) → n ≤ place.copies
        → texts_cost place (own (g + 2)) (sealed (g + 2) (index_text c)) now n ≤ n * bound
    first_copies zero le = omega arith
    first_copies (suc n) le =
        omega (arith, first_copies n (omega arith), slot_cost n (omega arith), within, suc-mul n bound)

    all_copies : next_cost place g c now ≤ place.copies * bound
    all_copies = first_copies place.copies (omega arith)

  one_step : (name : List ℕ) (blocks : ℕ) (x y : Index) → x.format ≡ c.format
      → DifferWithin (value_length x.format blocks) (index_text x) (index_text y)
      → changed_len (Head ++ index_text x) 0 (Head ++ index_text y)
      ≤ 256 * runs_reached (value_length c.format blocks)
  one_step name blocks x y same differ =
      subst (λ (n : ℕ). changed_len (Head ++ index_text x) 0 (Head ++ index_text y)
      ≤ 256 * runs_reached (value_length n blocks)) same
      (span_cost (value_length x.format blocks) (Head ++ index_text x) (Head ++ index_text y)
      (after_same (value_length x.format blocks) Head (index_text x) (index_text y) differ))

  pub two_keys : (m n : ℕ) (p q : List ℕ) → ChangesValue p m a b → ChangesValue q n b c
      → next_cost place g c now ≤ place.copies
      * (256 * (1 + runs_reached (value_length c.format m) + runs_reached (value_length c.format n)))
  two_keys m n p q first second =
      let d = texts_differ p m a b f.index_a f.index_b first in
      let e = texts_differ q n b c f.index_b f.index_c second in
      let x = after_same (value_length a.format m) Head (index_text a) (index_text b) d in
      let y = after_same (value_length b.format n) Head (index_text b) (index_text c) e in
      let way = by_way_of (Head ++ index_text a) (Head ++ index_text b) (Head ++ index_text c)
      (length-same (value_length a.format m) (Head ++ index_text a) (Head ++ index_text b) x)
      (length-same (value_length b.format n) (Head ++ index_text b) (Head ++ index_text c) y) in
      all_copies (256 * (1 + runs_reached (value_length c.format m) + runs_reached (value_length c.format n)))
      (omega (
        arith,
        way,
        one_step p m a b (sym first.format ∙ sym second.format) d,
        one_step q n b c (sym second.format) e,
      ))

  pub one_key : (m : ℕ) (p : List ℕ) → ChangesValue p m a b → ChangesValue p m b c
      → next_cost place g c now ≤ place.copies * (256 * (1 + runs_reached (value_length c.format m)))
  one_key m p first second =
      let d = texts_differ p m a c f.index_a f.index_c (twice p m a b c first second) in
      all_copies (256 * (1 + runs_reached (value_length c.format m)))
      (omega (arith, one_step p m a c (sym first.format ∙ sym second.format) d))

  pub five : (m n : ℕ) (p q : List ℕ) → ChangesValue p m a b → ChangesValue q n b c → m ≤ 53 → n ≤ 53
      → next_cost place g c now + place.copies * 44 ≤ place.copies * 1324
  five m n p q first second few too =
      let one = two_runs c.format m few in
      let two = two_runs c.format n too in
      let runs : 256 * (1 + runs_reached (value_length c.format m) + runs_reached (value_length c.format n)) ≤ 1280 =
      omega (arith, one, two) in
      omega (arith, two_keys m n p q first second, mul-le-mul_left place.copies runs)

  pub three : (m : ℕ) (p : List ℕ) → ChangesValue p m a b → ChangesValue p m b c → m ≤ 53
      → next_cost place g c now + place.copies * 44 ≤ place.copies * 812
  three m p first second few =
      let runs : 256 * (1 + runs_reached (value_length c.format m)) ≤ 768 = omega (arith, two_runs c.format m few) in
      omega (arith, one_key m p first second, mul-le-mul_left place.copies runs)
