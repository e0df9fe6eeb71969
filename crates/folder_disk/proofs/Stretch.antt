-- How a stretch of writes goes on.
use Rattle.std.proofs.Common.{◌≡◌, ◌⊎◌, ◌↔◌, ℕ, ◌+◌, ◌-◌, ◌≤◌, Bool, List, length, take, drop, refl, sym, ◌∙◌, ap}
use Rattle.std.proofs.Common.{subst, inl, inr}
use Rattle.std.proofs.Common.{⊎_elim, le_refl, arith, get_or}
use Rattle.std.specs.Prelude.{IsTrue}
use Rattle.std.proofs.lemmas.List.{length-drop, get_or-drop, take_all}
use Rattle.std.proofs.lemmas.Bool.{cases_lt}
use Rattle.disk_model.specs.Image.{put_image}
use Rattle.disk_model.specs.Case.{Case, Follows}
use Rattle.disk_model.specs.Medium.{Medium, Elapses, OnlyReads, IsLawful}
use Rattle.disk_model.specs.Laws.{elapses_none, elapses_on, reads_on, follows_less, follows_on, follows_none, cases_on}
use Rattle.system_model.specs.SystemMedium.{SystemMedium, InRange, TearCase, ShowsBytes, Looks}
use Rattle.folder_disk.specs.Writes.{WritesAgain, WritesBytes}
use Rattle.folder_disk.proofs.Tearing.{tear_none, tear_on, tear_within}
use Rattle.folder_disk.proofs.Putting.{put_image_on, put_image_none}

module _ (told : Bool) (file at : ℕ) (bytes : List ℕ) where
  abbrev Tears : Case → Case → Type 0
  Tears = TearCase file at (length bytes)

  -- cases of two stretches of tears
  tears_during : (n : ℕ) {a b c : Medium} → n ≤ length bytes → Elapses a b → Elapses b c
      → Follows (TearCase file at n) a.now b.now → Follows Tears a.now (b.since a.moment)
      → Follows Tears b.now (c.since b.moment) → Follows Tears a.now (c.since a.moment)
  tears_during n le first next now was then x past = ⊎_elim
      (λ before. was x before)
      (λ since. let (d, mid, step) = then x since in let (e, old, start) = now d mid in (
        e,
        old,
        tear_on file at (length bytes) e d x
            (tear_within file at (length bytes) at n (le_refl _) (omega arith) e d start) step,
      ))
      (cases_on first next x past)

  tears_now : (n k : ℕ) (a b c : Medium) → Follows (TearCase file at n) a.now b.now
      → Follows (TearCase file (at + n) k) b.now c.now → Follows (TearCase file at (n + k)) a.now c.now
  tears_now n k a b c first next = follows_on (TearCase file at n) (TearCase file (at + n) k)
      (TearCase file at (n + k)) a.now b.now c.now
      (λ x y z s t. tear_on file at (n + k) x y z
      (tear_within file at (n + k) at n (le_refl _) (omega arith) x y s)
      (tear_within file at (n + k) (at + n) k (omega arith) (omega arith) y z t)) first next

  pub writes_none : (m : SystemMedium) → IsLawful told m.disk → WritesBytes told file at bytes 0 m m
  writes_none m law = record {
    image = λ t. sym (put_image_none m.disk.image file at (take 0 bytes) refl);
    now = follows_none (TearCase file at 0) m.disk.now (λ c. tear_none file at 0 c);
    during = λ c past. (c, law.only_now c past, tear_none file at (length bytes) c);
    time = elapses_none law;
    named = λ f was. was;
    frees = λ t f i. (λ h. inl h, λ h. ⊎_elim (λ x. x) (λ x. absurd (omega (arith, x.1.0, x.1.1))) h);
    lost = λ f i h. h;
    found = λ t i range. absurd (omega (arith, range.0, range.1));
  }

  module _ (old mid new : SystemMedium) (n : ℕ) (le : n ≤ length bytes)
      (writes : WritesBytes told file at bytes n old mid) where
    looks_during : Looks mid new → Follows Tears mid.disk.now (new.disk.since mid.disk.moment)
    looks_during looks c past = (c, looks.reads.during c past, tear_none file at (length bytes) c)

    -- a write that fails
    pub writes_then : Looks mid new → WritesBytes told file at bytes n old new
    writes_then looks = record {
      image = λ t. looks.reads.image ∙ writes.image t;
      now = λ c now. writes.now c (looks.reads.now c now);
      during = tears_during n le writes.time looks.time writes.now writes.during (looks_during looks);
      time = elapses_on writes.time looks.time;
      named = λ f was. looks.named f (writes.named f was);
      frees = λ t f i. (
        λ h. (writes.frees t f i).0 ((looks.free f i).0 h),
        λ h. (looks.free f i).1 ((writes.frees t f i).1 h),
      );
      lost = λ f i h. writes.lost f i (looks.lost f i h);
      found = λ t i range h. writes.found t i range (looks.lost file i h);
    }

    -- a write of some bytes more
    module _ (rest : List ℕ) (same : rest ≡ drop n bytes) (k : ℕ) (fits : n + k ≤ length bytes)
        (image : IsTrue told → new.disk.image ≡ put_image mid.disk.image file (at + n) (take k rest))
        (now : Follows (TearCase file (at + n) k) mid.disk.now new.disk.now)
        (during : Follows (TearCase file (at + n) (length rest)) mid.disk.now (new.disk.since mid.disk.moment))
        (time : Elapses mid.disk new.disk)
        (named : (f : ℕ) → mid.named f → new.named f)
        (frees : IsTrue told → (f i : ℕ) → new.free f i ↔ (mid.free f i ⊎ ((f ≡ file) × InRange (at + n) k i)))
        (lost : (f i : ℕ) → new.lost f i → mid.lost f i)
        (found : IsTrue told → (i : ℕ) → InRange (at + n) k i → ¬ (new.lost file i)) where
      pub writes_more : WritesBytes told file at bytes (n + k) old new
      writes_more = record {
        image = λ t. image t ∙ ap (λ xs. put_image mid.disk.image file (at + n) (take k xs)) same
            ∙ ap (λ x. put_image x file (at + n) (take k (drop n bytes))) (writes.image t)
            ∙ put_image_on old.disk.image file at bytes n k fits;
        now = tears_now n k old.disk mid.disk new.disk writes.now now;
        during = tears_during n le writes.time time writes.now writes.during
            (follows_less (TearCase file (at + n) (length (drop n bytes))) Tears mid.disk.now
            (new.disk.since mid.disk.moment)
            (λ a b tear. tear_within file at (length bytes) (at + n) (length (drop n bytes)) (omega arith)
            (omega (arith, length-drop n bytes)) a b tear)
            (subst (λ xs. Follows (TearCase file (at + n) (length xs)) mid.disk.now (new.disk.since mid.disk.moment))
            same during));
        time = elapses_on writes.time time;
        named = λ f was. named f (writes.named f was);
        frees = λ t f i. (
          λ h. ⊎_elim
              (λ was. ⊎_elim (λ x. inl x) (λ x. inr (x.0, (x.1.0, omega (arith, x.1.1)))) ((writes.frees t f i).0 was))
              (λ x. inr (x.0, (omega (arith, x.1.0), omega (arith, x.1.1))))
              ((frees t f i).0 h),
          λ h. ⊎_elim
              (λ was. (frees t f i).1 (inl ((writes.frees t f i).1 (inl was))))
              (λ x. ⊎_elim
              (λ below. (frees t f i).1 (inl ((writes.frees t f i).1 (inr (x.0, (x.1.0, below))))))
              (λ above. (frees t f i).1 (inr (x.0, (above, omega (arith, x.1.1)))))
              (cases_lt i (at + n)))
              h,
        );
        lost = λ f i h. writes.lost f i (lost f i h);
        found = λ t i range h. ⊎_elim
            (λ below. writes.found t i (range.0, below) (lost file i h))
            (λ above. found t i (above, omega (arith, range.1)) h)
            (cases_lt i (at + n));
      }

  shows_rest : (xs : List ℕ) (n : ℕ) → n ≤ length bytes → ShowsBytes xs at bytes → ShowsBytes xs (at + n) (drop n bytes)
  shows_rest xs n le shows = record {
    within = λ j lt.
        let h = shows.within (n + j) (omega (arith, length-drop n bytes)) in omega (arith, h);
    equal = λ j lt.
        let e : at + (n + j) ≡ at + n + j = omega arith in
        subst (λ i. get_or xs i 0 ≡ get_or (drop n bytes) j 0) e
        (shows.equal (n + j) (omega (arith, length-drop n bytes)) ∙ sym (get_or-drop n bytes j 0));
  }

  -- what was there is written once more
  pub again_more : (old mid new : SystemMedium) (n : ℕ) (rest : List ℕ) → rest ≡ drop n bytes → n ≤ length bytes →
      WritesBytes told file at bytes n old mid
      → WritesAgain told file at bytes old mid → Elapses mid.disk new.disk
      → ((IsTrue told → (i : ℕ) → InRange (at + n) (length rest) i → mid.free file i)
      → (IsTrue told → ShowsBytes (mid.disk.image file) (at + n) rest) → OnlyReads mid.disk new.disk)
      → WritesAgain told file at bytes old new
  again_more old mid new n rest same le writes was time more free shows =
      let first = was free shows in
      reads_on writes.time first time
      (subst (λ xs. (IsTrue told → (i : ℕ) → InRange (at + n) (length xs) i → mid.free file i)
      → (IsTrue told → ShowsBytes (mid.disk.image file) (at + n) xs) → OnlyReads mid.disk new.disk) same more
      (λ t i range. (writes.frees t file i).1 (inl (free t i
      (omega (arith, range.0), omega (arith, range.1, length-drop n bytes)))))
      (λ t. subst (λ image. ShowsBytes (image file) (at + n) (drop n bytes)) (sym first.image)
      (shows_rest (old.disk.image file) n le (shows t))))

pub rest_is : (n : ℕ) (xs : List ℕ) → take (length xs - n) (drop n xs) ≡ drop n xs
rest_is n xs = take_all (length xs - n) (drop n xs) (omega (arith, length-drop n xs))
