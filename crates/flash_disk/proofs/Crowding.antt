-- How many records a flash has at least that leaves a copy no room: of each copy one block at most holds fewer than 32.
use Rattle.std.proofs.Common.{◌≡◌, ◌≢◌, ◌⊎◌, ℕ, zero, suc, ◌+◌, ◌-◌, ◌*◌, ◌<◌, ◌≤◌, cond, refl, sym, ap, subst, ◌∙◌}
use Rattle.std.proofs.Common.{inl, inr, ⊎_elim, arith, eq-eqb}
use Rattle.std.specs.Prelude.{nat_eq}
use Rattle.std.proofs.lemmas.Bool.{cases_eq, cases_lt, ne_eqb}
use Rattle.disk_model.specs.Damage.{AtLeast}
use Rattle.flash_model.specs.Pages.{Pages}
use Rattle.flash_disk.specs.Newest.{places}
use Rattle.flash_disk.specs.Apart.{HoldsOneCopy, Counts, HoldsCounting, FillOne, HasNoRoom, StandApart}
use Rattle.flash_disk.specs.Crowded.{StandAmong, CountInAll}

-- ---- counts

reshaped : (P : ℕ → Type 0) (n m k j : ℕ) → n ≡ m → k ≡ j → AtLeast P n k → AtLeast P m j
reshaped P n m k j first second some = subst (λ i. AtLeast P m i) second (subst (λ i. AtLeast P i k) first some)

more : (P : ℕ → Type 0) (n k : ℕ) → AtLeast P n k → AtLeast P (suc n) k
more P n zero some = tt
more P n (suc k) some = inr some

wider : (P : ℕ → Type 0) (n k q : ℕ) → AtLeast P n k → AtLeast P (n + q) k
wider P n k zero some = subst (λ i. AtLeast P i k) (let e : n ≡ n + 0 = omega arith in e) some
wider P n k (suc q) some = subst (λ i. AtLeast P i k) (let e : suc (n + q) ≡ n + suc q = omega arith in e)
    (more P (n + q) k (wider P n k q some))

fewer : (P : ℕ → Type 0) (n k j : ℕ) → j ≤ k → AtLeast P n k → AtLeast P n j
fewer P n k zero le some = tt
fewer P n zero (suc j) le some = absurd (omega (arith, le))
fewer P zero (suc k) (suc j) le some = absurd some
fewer P (suc n) (suc k) (suc j) le (inl (here, others)) = inl (here, fewer P n k j (omega (arith, le)) others)
fewer P (suc n) (suc k) (suc j) le (inr others) = inr (fewer P n (suc k) (suc j) le others)

append : (P : ℕ → Type 0) (n k q m : ℕ) → AtLeast P n k → AtLeast (λ p. P (n + p)) q m → AtLeast P (n + q) (k + m)
append P n k q zero first second = subst (λ i. AtLeast P (n + q) i) (let e : k ≡ k + 0 = omega arith in e)
    (wider P n k q first)
append P n k zero (suc m) first second = absurd second
append P n k (suc q) (suc m) first (inl (here, others)) =
    reshaped P (suc (n + q)) (n + suc q) (suc (k + m)) (k + suc m) (omega arith) (omega arith)
    (inl (here, append P n k q m first others))
append P n k (suc q) (suc m) first (inr others) =
    subst (λ i. AtLeast P i (k + suc m)) (let e : suc (n + q) ≡ n + suc q = omega arith in e)
    (more P (n + q) (k + suc m) (append P n k q (suc m) first others))

-- ---- sums

abbrev total : (ℕ → ℕ) → ℕ → ℕ
total f zero = 0
total f (suc n) = total f n + f n

total_next : (f : ℕ → ℕ) (n : ℕ) → total f (n + 1) ≡ total f n + f n
total_next f n = let e : n + 1 ≡ suc n = omega arith in ap (total f) e

-- one value is another
abbrev raised : (ℕ → ℕ) → ℕ → ℕ → ℕ → ℕ
raised f at v x = cond (nat_eq x at) v (f x)

raised_here : (f : ℕ → ℕ) (at v : ℕ) → raised f at v at ≡ v
raised_here f at v = ap (λ b. cond b v (f at)) (eq-eqb at at refl)

raised_else : (f : ℕ → ℕ) (at v x : ℕ) → x ≢ at → raised f at v x ≡ f x
raised_else f at v x other = ap (λ b. cond b v (f x)) (ne_eqb x at other)

raised_after : (f : ℕ → ℕ) (at v n : ℕ) → n ≤ at → total (raised f at v) n ≡ total f n
raised_after f at v zero le = refl
raised_after f at v (suc n) le =
    let before = raised_after f at v n (omega (arith, le)) in
    let here = raised_else f at v n (λ same. omega (arith, le, same)) in omega (arith, before, here)

raised_total : (f : ℕ → ℕ) (at v n : ℕ) → at < n → total (raised f at v) n + f at ≡ total f n + v
raised_total f at v zero below = absurd (omega (arith, below))
raised_total f at v (suc n) below = ⊎_elim
    (λ last.
    (let before = raised_after f at v n (omega (arith, last)) in
    let here : raised f at v n ≡ v = subst (λ k. raised f at v k ≡ v) last (raised_here f at v) in
    let was : f at ≡ f n = ap f last in omega (arith, before, here, was)))
    (λ other.
    (let before = raised_total f at v n (omega (arith, below, other)) in
    let here = raised_else f at v n (λ same. other (sym same)) in omega (arith, before, here)))
    (cases_eq at n)

all_once : (f : ℕ → ℕ) (n : ℕ) → ((c : ℕ) → f c ≤ 1) → total f n ≤ n
all_once f zero once = omega arith
all_once f (suc n) once = let before = all_once f n once in let here = once n in omega (arith, before, here)

all_but_one : (f : ℕ → ℕ) (at n : ℕ) → at < n → f at ≡ 0 → ((c : ℕ) → f c ≤ 1) → total f n + 1 ≤ n
all_but_one f at zero below none once = absurd (omega (arith, below))
all_but_one f at (suc n) below none once = ⊎_elim
    (λ last. (let before = all_once f n once in let here : f n ≡ 0 = ap f (sym last) ∙ none in omega (arith, before, here)))
    (λ other.
    (let before = all_but_one f at n (omega (arith, below, other)) none once in
    let here = once n in omega (arith, before, here)))
    (cases_eq at n)

-- ---- blocks

module _ (pages : Pages) (n : ℕ) where
  raise_counted : (w : ℕ → ℕ) (m at v : ℕ) → ((x : ℕ) → x < m → x ≢ at → HoldsCounting pages n x (w x))
      → HoldsCounting pages n at v → (x : ℕ) → x < m → HoldsCounting pages n x (raised w at v x)
  raise_counted w m at v others here x below = ⊎_elim
      (λ same. subst (λ k. HoldsCounting pages n k (raised w at v k)) (sym same)
      (subst (λ k. HoldsCounting pages n at k) (sym (raised_here w at v)) here))
      (λ other. subst (λ k. HoldsCounting pages n x k) (sym (raised_else w at v x other)) (others x below other))
      (cases_eq x at)

  -- what each of some blocks has they have together
  gathered : (w : ℕ → ℕ) (m : ℕ) → ((x : ℕ) → x < m → HoldsCounting pages n x (w x))
      → AtLeast (λ j. Counts pages n j) (64 * m) (total w m)
  gathered w zero each = tt
  gathered w (suc m) each = subst (λ k. AtLeast (λ j. Counts pages n j) k (total w m + w m))
      (let e : 64 * m + 64 ≡ 64 * suc m = omega arith in e)
      (append (λ j. Counts pages n j) (64 * m) (total w m) 64 (w m)
      (gathered w m (λ x below. each x (omega (arith, below)))) (each m (omega arith)))

-- The blocks so far: how many records that count each has at least, and of which copies one has fewer than 32 that were
-- not counted, and which it is.
record Seen (pages : Pages) (n spare copies copy : ℕ) (own : ℕ → ℕ) (b : ℕ) : Type 0 where
  weight : ℕ → ℕ
  light : ℕ → ℕ
  which : ℕ → ℕ
  skipped : ℕ
  counted : (x : ℕ) → x < b → HoldsCounting pages n x (weight x)
  inside : (c : ℕ) → light c ≡ 1 → which c < b
  other : (c : ℕ) → light c ≡ 1 → which c ≢ spare
  uncounted : (c : ℕ) → light c ≡ 1 → weight (which c) ≡ 0
  owns : (c : ℕ) → light c ≡ 1 → own (which c) ≡ c
  once : (c : ℕ) → light c ≤ 1
  not_own : light copy ≡ 0
  one_skipped : skipped ≤ 1
  none_skipped : b ≤ spare → skipped ≡ 0
  enough : 32 * b ≤ total weight b + 32 * (total light copies + skipped)

module _ (pages : Pages) (blocks copies copy : ℕ) (own : ℕ → ℕ) (owned : (b : ℕ) → own b < copies)
    (holds : (b : ℕ) → HoldsOneCopy pages (places blocks) b (own b)) (room : HasNoRoom pages blocks copy) where
  abbrev S : ℕ → Type 0
  S b = Seen pages (places blocks) room.spare copies copy own b

  none_seen : S 0
  none_seen = record {
    weight = λ x. 0;
    light = λ c. 0;
    which = λ c. 0;
    skipped = 0;
    counted = λ x below. absurd (omega (arith, below));
    inside = λ c one. absurd (omega (arith, one));
    other = λ c one. absurd (omega (arith, one));
    uncounted = λ c one. refl;
    owns = λ c one. absurd (omega (arith, one));
    once = λ c. omega arith;
    not_own = refl;
    one_skipped = omega arith;
    none_skipped = λ before. refl;
    enough = omega arith;
  }

  module _ (b : ℕ) (s : S b) where
    unlike : (c : ℕ) → s.light c ≡ 1 → s.which c ≢ b
    unlike c one same = let below = s.inside c one in omega (arith, below, same)

    with_weight : (v : ℕ) → HoldsCounting pages (places blocks) b v
        → (x : ℕ) → x < b + 1 → HoldsCounting pages (places blocks) x (raised s.weight b v x)
    with_weight v here = raise_counted pages (places blocks) s.weight (b + 1) b v
        (λ x below apart. s.counted x (omega (arith, below, apart))) here

    sum_with : (v : ℕ) → total (raised s.weight b v) (b + 1) ≡ total s.weight b + v
    sum_with v =
        let before = raised_after s.weight b v b (omega arith) in
        let here = raised_here s.weight b v in
        let step = total_next (raised s.weight b v) b in
        omega (arith, before, here, step)

    -- the spare block
    skip : b ≡ room.spare → S (b + 1)
    skip is = record {
      weight = raised s.weight b 0;
      light = s.light;
      which = s.which;
      skipped = 1;
      counted = with_weight 0 tt;
      inside = λ c one. (let below = s.inside c one in omega (arith, below));
      other = s.other;
      uncounted = λ c one. raised_else s.weight b 0 (s.which c) (unlike c one) ∙ s.uncounted c one;
      owns = s.owns;
      once = s.once;
      not_own = s.not_own;
      one_skipped = omega arith;
      none_skipped = λ before. absurd (omega (arith, before, is));
      enough = (let sum = sum_with 0 in let was = s.enough in
          let none = s.none_skipped (omega (arith, is)) in omega (arith, sum, was, none));
    }

    -- a block with 32 records or more
    heavy : HoldsCounting pages (places blocks) b 32 → S (b + 1)
    heavy many = record {
      weight = raised s.weight b 32;
      light = s.light;
      which = s.which;
      skipped = s.skipped;
      counted = with_weight 32 many;
      inside = λ c one. (let below = s.inside c one in omega (arith, below));
      other = s.other;
      uncounted = λ c one. raised_else s.weight b 32 (s.which c) (unlike c one) ∙ s.uncounted c one;
      owns = s.owns;
      once = s.once;
      not_own = s.not_own;
      one_skipped = s.one_skipped;
      none_skipped = λ before. s.none_skipped (omega (arith, before));
      enough = (let sum = sum_with 32 in let was = s.enough in omega (arith, sum, was));
    }

    -- the first block of its copy that is not counted
    first_light : b ≢ room.spare → own b ≢ copy → s.light (own b) ≡ 0 → S (b + 1)
    first_light apart foreign none =
        let c = own b in record {
          weight = raised s.weight b 0;
          light = raised s.light c 1;
          which = raised s.which c b;
          skipped = s.skipped;
          counted = with_weight 0 tt;
          inside = λ d one. by d one (λ x. x < b + 1) (omega arith)
              (λ is. (let below = s.inside d is in omega (arith, below)));
          other = λ d one. by d one (λ x. x ≢ room.spare) apart (s.other d);
          uncounted = λ d one. by d one (λ x. raised s.weight b 0 x ≡ 0) (raised_here s.weight b 0)
              (λ is. raised_else s.weight b 0 (s.which d) (unlike d is) ∙ s.uncounted d is);
          owns = λ d one. ⊎_elim
              (λ same. subst (λ k. own (raised s.which c b k) ≡ k) (sym same) (ap own (raised_here s.which c b)))
              (λ differs. ap own (raised_else s.which c b d differs)
              ∙ s.owns d (sym (raised_else s.light c 1 d differs) ∙ one))
              (cases_eq d c);
          once = λ d. ⊎_elim
              (λ same. (let here = raised_here s.light c 1 in subst (λ k. raised s.light c 1 k ≤ 1) (sym same)
              (omega (arith, here))))
              (λ differs. (let here = raised_else s.light c 1 d differs in let le = s.once d in omega (arith, here, le)))
              (cases_eq d c);
          not_own = raised_else s.light c 1 copy (λ same. foreign (sym same)) ∙ s.not_own;
          one_skipped = s.one_skipped;
          none_skipped = λ before. s.none_skipped (omega (arith, before));
          enough = (let sum = sum_with 0 in let lights = raised_total s.light c 1 copies (owned b) in
              let was = s.enough in omega (arith, sum, lights, was, none));
        }
      where
        by : (d : ℕ) → raised s.light (own b) 1 d ≡ 1 → (P : ℕ → Type 0) → P b
            → (s.light d ≡ 1 → P (s.which d)) → P (raised s.which (own b) b d)
        by d one P here before = ⊎_elim
            (λ same. subst (λ k. P (raised s.which (own b) b k)) (sym same)
            (subst P (sym (raised_here s.which (own b) b)) here))
            (λ differs. subst P (sym (raised_else s.which (own b) b d differs))
            (before (sym (raised_else s.light (own b) 1 d differs) ∙ one)))
            (cases_eq d (own b))

    -- the one that was not counted has 32 records or more
    turned : b ≢ room.spare → s.light (own b) ≡ 1 → HoldsCounting pages (places blocks) (s.which (own b)) 32
        → S (b + 1)
    turned apart is_light many =
        let c = own b in
        let a = s.which c in
        let w = raised s.weight b 0 in
        let below = s.inside c is_light in
        let differ : b ≢ a = λ same. omega (arith, below, same) in
        record {
          weight = raised w a 32;
          light = s.light;
          which = raised s.which c b;
          skipped = s.skipped;
          counted = raise_counted pages (places blocks) w (b + 1) a 32 (λ x less other. with_weight 0 tt x less) many;
          inside = λ d one. by d (λ x. x < b + 1) (omega arith)
              (λ other. (let less = s.inside d one in omega (arith, less)));
          other = λ d one. by d (λ x. x ≢ room.spare) apart (λ other. s.other d one);
          uncounted = λ d one. by d (λ x. raised w a 32 x ≡ 0)
              (raised_else w a 32 b differ ∙ raised_here s.weight b 0)
              (λ other. raised_else w a 32 (s.which d)
              (λ same. other (sym (s.owns d one) ∙ (ap own same ∙ s.owns c is_light)))
              ∙ (raised_else s.weight b 0 (s.which d) (unlike d one) ∙ s.uncounted d one));
          owns = λ d one. ⊎_elim
              (λ same. subst (λ k. own (raised s.which c b k) ≡ k) (sym same) (ap own (raised_here s.which c b)))
              (λ differs. ap own (raised_else s.which c b d differs) ∙ s.owns d one)
              (cases_eq d c);
          once = s.once;
          not_own = s.not_own;
          one_skipped = s.one_skipped;
          none_skipped = λ before. s.none_skipped (omega (arith, before));
          enough = (let sum = sum_with 0 in let more = raised_total w a 32 (b + 1) (omega (arith, below)) in
              let none : w a ≡ 0 = raised_else s.weight b 0 a (λ same. differ (sym same)) ∙ s.uncounted c is_light in
              let was = s.enough in omega (arith, sum, more, none, was));
        }
      where
        by : (d : ℕ) (P : ℕ → Type 0) → P b → (d ≢ own b → P (s.which d)) → P (raised s.which (own b) b d)
        by d P here before = ⊎_elim
            (λ same. subst (λ k. P (raised s.which (own b) b k)) (sym same)
            (subst P (sym (raised_here s.which (own b) b)) here))
            (λ differs. subst P (sym (raised_else s.which (own b) b d differs)) (before differs))
            (cases_eq d (own b))

    second_light : b < blocks → b ≢ room.spare → s.light (own b) ≡ 1 → S (b + 1)
    second_light within apart is_light =
        let c = own b in
        let a = s.which c in
        let below = s.inside c is_light in
        let fill : FillOne pages (places blocks) a b = room.unjoined a b c (omega (arith, below, within)) within
        (s.other c is_light) apart (λ same. omega (arith, below, same))
        (subst (HoldsOneCopy pages (places blocks) a) (s.owns c is_light) (holds a)) (holds b) in
        let many = fill.many in ⊎_elim
        (λ few. turned apart is_light (fewer (λ p. Counts pages (places blocks) (64 * a + p)) 64 fill.some 32
        (omega (arith, few, many)) fill.in_first))
        (λ enough. heavy (fewer (λ p. Counts pages (places blocks) (64 * b + p)) 64 fill.others 32
        (omega (arith, enough)) fill.in_second))
        (cases_lt fill.others 32)

    next_seen : b < blocks → S (b + 1)
    next_seen within = ⊎_elim
        skip
        (λ apart. ⊎_elim
        (λ mine. heavy (fewer (λ p. Counts pages (places blocks) (64 * b + p)) 64 57 32 (omega arith)
        (room.packed b within apart (subst (HoldsOneCopy pages (places blocks) b) mine (holds b)))))
        (λ foreign. ⊎_elim
        (λ none. first_light apart foreign (omega (arith, none)))
        (λ some. second_light within apart (let once = s.once (own b) in omega (arith, some, once)))
        (cases_lt (s.light (own b)) 1))
        (cases_eq (own b) copy))
        (cases_eq b room.spare)

  all_seen : (b : ℕ) → b ≤ blocks → S b
  all_seen zero le = none_seen
  all_seen (suc b) le = subst S (let e : b + 1 ≡ suc b = omega arith in e)
      (next_seen b (all_seen b (omega (arith, le))) (omega (arith, le)))

  -- half the pages of all blocks but one for each copy
  pub half_full : copy < copies → CountInAll pages blocks (32 * (blocks - copies))
  half_full below =
      let s = all_seen blocks (omega arith) in
      let lights = all_but_one s.light copy copies below s.not_own s.once in
      let one = s.one_skipped in
      let enough = s.enough in
      fewer (λ j. Counts pages (places blocks) j) (places blocks) (total s.weight blocks) (32 * (blocks - copies))
      (omega (arith, lights, one, enough)) (gathered pages (places blocks) s.weight blocks s.counted)

-- a block of none of 8 copies has no record that counts
pub among_eight : (pages : Pages) (blocks copy : ℕ) → copy < 8 → StandApart pages blocks → StandAmong pages blocks 8
among_eight pages blocks copy below stand block =
    let own = stand block in ⊎_elim
    (λ few. (own.0, few, own.1))
    (λ past. (
      copy,
      below,
      λ file page x found j inside at there.
          (let same = own.1 file page x found j inside at there in absurd (omega (arith, same, past))),
    ))
    (cases_lt own.0 8)
