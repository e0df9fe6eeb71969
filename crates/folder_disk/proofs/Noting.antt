-- What is known goes on to hold.
use Rattle.std.proofs.Common.{◌≡◌, ◌⊎◌, ◌↔◌, ℕ, ◌+◌, ◌≤◌, Bool, true, List, [], ◌∷◌, ◌++◌, length, take}
use Rattle.std.proofs.Common.{get_or, refl, sym, ◌∙◌, ap, subst, inl, inr, ⊎_elim, le_refl, arith, true≢false}
use Rattle.std.specs.Prelude.{IsTrue, IsFalse}
use Rattle.std.proofs.lemmas.List.{length-take-le}
use Rattle.disk_model.specs.Image.{Image, put_image, put_bytes, TornImage}
use Rattle.disk_model.specs.Case.{Case, Follows, WriteOrNot}
use Rattle.disk_model.specs.Medium.{Medium, IsLawful, Elapses, OnlyReads}
use Rattle.disk_model.specs.Written.{put_tears, put_image_here, put_inside, length-put_some}
use Rattle.disk_model.specs.Laws.{elapses_on, cases_on, case_now}
use Rattle.system_model.specs.SystemMedium.{SystemMedium, IsSafe, IsWhole, InRange, AnnounceCase}
use Rattle.system_model.specs.SystemMedium.{ShowsBytes, Looks, SavesFiles}
use Rattle.folder_disk.specs.declared.range.Range.{Range}
use Rattle.folder_disk.specs.Knows.{Covered, Knows}
use Rattle.folder_disk.specs.Writes.{WritesBytes, PutCase, PutsBytes}
use Rattle.folder_disk.proofs.Tearing.{image_none, image_within}

pub covered_app : (xs : List Range) (r : Range) (f i : ℕ) → Covered (xs ++ r ∷ []) f i
    → Covered xs f i ⊎ ((f ≡ r.file) × InRange r.at r.len i)
covered_app [] r f i h = ⊎_elim (λ x. inr x) (λ x. absurd x) h
covered_app (x ∷ xs) r f i h = ⊎_elim
    (λ here. inl (inl here))
    (λ later. ⊎_elim (λ old. inl (inr old)) (λ new. inr new) (covered_app xs r f i later))
    h

pub covered_old : (xs : List Range) (r : Range) (f i : ℕ) → Covered xs f i → Covered (xs ++ r ∷ []) f i
covered_old [] r f i h = absurd h
covered_old (x ∷ xs) r f i h = ⊎_elim (λ here. inl here) (λ later. inr (covered_old xs r f i later)) h

pub covered_new : (xs : List Range) (r : Range) (f i : ℕ) → (f ≡ r.file) × InRange r.at r.len i
    → Covered (xs ++ r ∷ []) f i
covered_new [] r f i h = inl h
covered_new (x ∷ xs) r f i h = inr (covered_new xs r f i h)

pub knows_looks : (told : Bool) (a b : SystemMedium) (rs : List Range) (fresh grown lost : Bool) → Looks a b
    → Knows told a rs fresh grown lost → Knows told b rs fresh grown lost
knows_looks told a b rs fresh grown lost looks knows = record {
  whole = λ t l f i h. knows.whole t l f i (looks.lost f i h);
  free = λ t l f i h. (looks.free f i).1 (knows.free t l f i h);
  covers = λ t l n f i h. knows.covers t l n f i ((looks.free f i).0 h);
  named = λ n g f. looks.named f (knows.named n g f);
}

-- a file may have been made
pub knows_made : (told : Bool) (a b : SystemMedium) (rs : List Range) (fresh grown lost : Bool)
    → OnlyReads a.disk b.disk → ((f i : ℕ) → b.free f i ↔ a.free f i) → ((f i : ℕ) → b.lost f i → a.lost f i)
    → Knows told a rs fresh grown lost → Knows told b rs fresh true lost
knows_made told a b rs fresh grown lost reads free less knows = record {
  whole = λ t l f i h. knows.whole t l f i (less f i h);
  free = λ t l f i h. (free f i).1 (knows.free t l f i h);
  covers = λ t l n f i h. knows.covers t l n f i ((free f i).0 h);
  named = λ n g f. absurd (true≢false g);
}

-- no file was made
pub knows_found : (told : Bool) (a b : SystemMedium) (rs : List Range) (fresh grown lost : Bool)
    → OnlyReads a.disk b.disk → ((f : ℕ) → a.named f → b.named f)
    → ((f i : ℕ) → b.free f i ↔ a.free f i) → ((f i : ℕ) → b.lost f i → a.lost f i)
    → Knows told a rs fresh grown lost → Knows told b rs fresh grown lost
knows_found told a b rs fresh grown lost reads named free less knows = record {
  whole = λ t l f i h. knows.whole t l f i (less f i h);
  free = λ t l f i h. (free f i).1 (knows.free t l f i h);
  covers = λ t l n f i h. knows.covers t l n f i ((free f i).0 h);
  named = λ n g f. named f (knows.named n g f);
}

-- a write that was announced and done in part or whole
module _ (told : Bool) (file at : ℕ) (bytes : List ℕ) (n : ℕ) (le : n ≤ length bytes) (a b c : SystemMedium)
    (image : b.disk.image ≡ a.disk.image)
    (now : Follows (AnnounceCase file at bytes) a.disk.now b.disk.now)
    (during : (x : Case) → b.disk.since a.disk.moment x → a.disk.now x ⊎ b.disk.now x)
    (time : Elapses a.disk b.disk)
    (writes : WritesBytes told file at bytes n b c) where
  put_now : (x : Case) → c.disk.now x → (e : Case) × a.disk.now e × PutCase file at bytes n e x
  put_now x new =
      let (d, mid, tear) = writes.now x new in
      let (e, old, said) = now d mid in (
        e,
        old,
        record {
          base = tear.base ∙ said.base;
          full = tear.full ∙ said.full;
          left = subst (λ left. TornImage file at n left x.left) said.left tear.left;
        },
      )

  -- the case of a crash after the write was announced
  announced : (x : Case) → b.disk.now x → (e : Case) × a.disk.now e × WriteOrNot file at bytes e x
  announced x mid =
      let (e, old, said) = now x mid in (
        e,
        old,
        inl (record {
          base = said.base;
          full = said.full;
          left = subst (λ left. TornImage file at (length bytes) e.left left) (sym said.left)
              (image_none file at (length bytes) e.left);
        }),
      )

  torn : (x : Case) → c.disk.since b.disk.moment x → (e : Case) × a.disk.now e × WriteOrNot file at bytes e x
  torn x past =
      let (d, mid, tear) = writes.during x past in
      let (e, old, said) = now d mid in (
        e,
        old,
        inl (record {
          base = tear.base ∙ said.base;
          full = tear.full ∙ said.full;
          left = subst (λ left. TornImage file at (length bytes) left x.left) said.left tear.left;
        }),
      )

  pub puts : PutsBytes told file at bytes n a.disk c.disk
  puts = record {
    image = λ t. writes.image t ∙ ap (λ i. put_image i file at (take n bytes)) image;
    now = put_now;
    during = λ x past. ⊎_elim
        (λ first. ⊎_elim (λ old. (x, old, inr refl)) (λ mid. announced x mid) (during x first))
        (λ next. torn x next)
        (cases_on time writes.time x past);
    time = elapses_on time writes.time;
  }

  module _ (rs : List Range) (fresh grown lost : Bool) (knows : Knows told a rs fresh grown lost)
      (named : (f : ℕ) → a.named f → b.named f)
      (free : (f i : ℕ) → b.free f i ↔ a.free f i) (less : (f i : ℕ) → b.lost f i → a.lost f i)
      (r : Range) (r_file : r.file ≡ file) (r_at : r.at ≡ at) (r_len : r.len ≡ n) where
    in_new : (f i : ℕ) → (f ≡ r.file) × InRange r.at r.len i → (f ≡ file) × InRange at n i
    in_new f i h = (h.0 ∙ r_file, (omega (arith, h.1.0, r_at), omega (arith, h.1.1, r_at, r_len)))

    of_new : (f i : ℕ) → (f ≡ file) × InRange at n i → (f ≡ r.file) × InRange r.at r.len i
    of_new f i h = (h.0 ∙ sym r_file, (omega (arith, h.1.0, r_at), omega (arith, h.1.1, r_at, r_len)))

    -- with what was written
    pub knows_written : Knows told c (r ∷ rs) fresh grown lost
    knows_written = record {
      whole = λ t l f i h. knows.whole t l f i (less f i (writes.lost f i h));
      free = λ t l f i h. (writes.frees t f i).1 (⊎_elim
          (λ new. inr (in_new f i new))
          (λ old. inl ((free f i).1 (knows.free t l f i old)))
          h);
      covers = λ t l s f i h. ⊎_elim
          (λ old. inr (knows.covers t l s f i ((free f i).0 old)))
          (λ new. inl (of_new f i new))
          ((writes.frees t f i).0 h);
      named = λ s g f. writes.named f (named f (knows.named s g f));
    }

-- calls that only read after such a write
pub puts_on : (told : Bool) (file at : ℕ) (bytes : List ℕ) (n : ℕ) (law : Bool) (a b c : Medium) → IsLawful law b
    → PutsBytes told file at bytes n a b → OnlyReads b c → Elapses b c → PutsBytes told file at bytes n a c
puts_on told file at bytes n law a b c is puts reads time = record {
  image = λ t. reads.image ∙ puts.image t;
  now = λ x now. puts.now x (reads.now x now);
  during = λ x past. ⊎_elim
      (λ first. puts.during x first)
      (λ next. puts.during x (case_now is puts.time x (reads.during x next)))
      (cases_on puts.time time x past);
  time = elapses_on puts.time time;
}

-- what was written shows
pub shows_put : (old new : Image) (file at : ℕ) (bytes : List ℕ) → new ≡ put_image old file at bytes
    → ShowsBytes (new file) at bytes
shows_put old new file at bytes is =
    let here : new file ≡ put_bytes (old file) at bytes = ap (λ (i : Image). i file) is ∙ put_image_here old file at bytes
    in record {
      within = λ j lt.
          let long = length-put_some (old file) at bytes (λ none. omega (arith, none, lt)) in
          let same = ap length here in
          omega (arith, lt, long, same);
      equal = λ j lt. ap (λ xs. get_or xs (at + j) 0) here ∙ put_inside (old file) at bytes j lt;
    }

-- what is known goes on where the same is covered
pub knows_same : (told : Bool) (m : SystemMedium) (xs ys : List Range) (fresh grown lost : Bool)
    → ((f i : ℕ) → Covered ys f i ↔ Covered xs f i) → Knows told m xs fresh grown lost
    → Knows told m ys fresh grown lost
knows_same told m xs ys fresh grown lost same knows = record {
  whole = knows.whole;
  free = λ t l f i h. knows.free t l f i ((same f i).0 h);
  covers = λ t l s f i h. (same f i).1 (knows.covers t l s f i h);
  named = knows.named;
}

-- and a disk that covers less is a fresh one
pub knows_less : (told : Bool) (m : SystemMedium) (xs ys : List Range) (fresh grown lost : Bool)
    → ((f i : ℕ) → Covered ys f i → Covered xs f i) → Knows told m xs fresh grown lost
    → Knows told m ys true grown lost
knows_less told m xs ys fresh grown lost less knows = record {
  whole = knows.whole;
  free = λ t l f i h. knows.free t l f i (less f i h);
  covers = λ t l s. absurd (true≢false s);
  named = λ s. absurd (true≢false s);
}

-- a range goes in front as well as at the end
pub covered_swapped : (xs : List Range) (ys : List Range) (r : Range)
    → ((f i : ℕ) → Covered ys f i ↔ (Covered xs f i ⊎ ((f ≡ r.file) × InRange r.at r.len i)))
    → (f i : ℕ) → Covered ys f i ↔ Covered (r ∷ xs) f i
covered_swapped xs ys r both f i = (
  λ h. ⊎_elim (λ old. inr old) (λ new. inl new) ((both f i).0 h),
  λ h. (both f i).1 (⊎_elim (λ new. inr new) (λ old. inl old) h),
)

-- the first of the bytes are one way to tear a write
pub part_torn : (image : Image) (file at : ℕ) (bytes : List ℕ) (n : ℕ) → n ≤ length bytes
    → TornImage file at (length bytes) image (put_image image file at (take n bytes))
part_torn image file at bytes n le =
    let len = length-take-le n bytes le in
    image_within file at (length bytes) at (length (take n bytes)) image (put_image image file at (take n bytes))
    (le_refl _) (omega (arith, len)) (put_tears image file at (take n bytes))

-- a range of no bytes covers nothing
pub covered_none : (rs : List Range) (r : Range) → r.len ≡ 0 → (f i : ℕ)
    → Covered rs f i ↔ (Covered rs f i ⊎ ((f ≡ r.file) × InRange r.at r.len i))
covered_none rs r none f i = (
  λ h. inl h,
  λ h. ⊎_elim (λ old. old) (λ new. absurd (omega (arith, new.1.0, new.1.1, none))) h,
)

pub covered_pushed : (rs : List Range) (r : Range) (f i : ℕ)
    → Covered (rs ++ r ∷ []) f i ↔ (Covered rs f i ⊎ ((f ≡ r.file) × InRange r.at r.len i))
covered_pushed rs r f i = (
  λ h. covered_app rs r f i h,
  λ h. ⊎_elim (λ old. covered_old rs r f i old) (λ new. covered_new rs r f i new) h,
)

-- a range that goes on where the last one ends is noted with it
pub covered_joined : (rs : List Range) (last both r : Range)
    → ((f i : ℕ) → ((f ≡ both.file) × InRange both.at both.len i)
    ↔ (((f ≡ last.file) × InRange last.at last.len i) ⊎ ((f ≡ r.file) × InRange r.at r.len i)))
    → (f i : ℕ) → Covered (rs ++ both ∷ []) f i
    ↔ (Covered (rs ++ last ∷ []) f i ⊎ ((f ≡ r.file) × InRange r.at r.len i))
covered_joined rs last both r same f i = (
  λ h. ⊎_elim
      (λ old. inl (covered_old rs last f i old))
      (λ new. ⊎_elim (λ l. inl (covered_new rs last f i l)) (λ n. inr n) ((same f i).0 new))
      (covered_app rs both f i h),
  λ h. ⊎_elim
      (λ old. ⊎_elim
      (λ o. covered_old rs both f i o)
      (λ l. covered_new rs both f i ((same f i).1 (inl l)))
      (covered_app rs last f i old))
      (λ n. covered_new rs both f i ((same f i).1 (inr n)))
      h,
)

-- what is not known to be durable is not told
pub knows_fresh : (told : Bool) (m : SystemMedium) (grown lost : Bool)
    → (IsTrue told → IsFalse lost → (f : ℕ) → IsWhole m f) → Knows told m [] true grown lost
knows_fresh told m grown lost whole = record {
  whole = whole;
  free = λ t l f i h. absurd h;
  covers = λ t l s. absurd (true≢false s);
  named = λ s. absurd (true≢false s);
}

-- where nothing is noted every file is safe
pub all_safe : (told : Bool) (m : SystemMedium) (rs : List Range) (fresh grown lost : Bool) → SavesFiles m
    → Knows told m rs fresh grown lost → IsFalse fresh → IsFalse lost → ((f : ℕ) → m.named f) → rs ≡ [] → IsTrue told
    → (f : ℕ) → IsSafe m.disk f
all_safe told m rs fresh grown lost saves knows s l names none t f = saves f (knows.whole t l f)
    (λ i free. subst (λ xs. Covered xs f i) none (knows.covers t l s f i free)) (names f)
