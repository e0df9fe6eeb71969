-- What is known after a sync of a file, and after one that failed.
use Rattle.std.proofs.Common.{◌≡◌, ◌≢◌, ◌⊎◌, ◌↔◌, ℕ, suc, zero, ◌+◌, ◌-◌, ◌<◌, ◌≤◌, min, Bool, true, false, not, ◌==◌}
use Rattle.std.proofs.Common.{cond, List, [], ◌∷◌, ◌++◌, length, take, drop, get_or}
use Rattle.std.proofs.Common.{refl, sym, ◌∙◌, ap, subst, inl, inr, ⊎_elim, le_refl, arith, true≢false, eq-eqb, ne_eqb}
use Rattle.std.specs.Prelude.{IsTrue, IsFalse, Contains, filter}
use Rattle.std.proofs.lemmas.Bool.{cases_eq}
use Rattle.std.proofs.lemmas.List.{drop_more, take_more, length-drop, take_at, get_or-take, get_or-drop}
use Rattle.system_model.specs.SystemMedium.{SystemMedium, IsWhole, HasNothingFree, InRange, ShowsBytes}
use Rattle.folder_disk.specs.declared.range.Range.{Range}
use Rattle.folder_disk.specs.declared.held.Held.{Held}
use Rattle.folder_disk.specs.Knows.{Covered, Knows}
use Rattle.folder_disk.specs.Held.{IsHeldByte, ShowsAll}
use Rattle.folder_disk.proofs.Noting.{covered_app, covered_old, covered_new}

-- ---- lists

contains_tail : (x : ℕ) (xs : List ℕ) (f j : ℕ) → x ≢ f → j < suc (length xs) → get_or (x ∷ xs) j f ≡ f → Contains xs f
contains_tail x xs f zero ne lt e = absurd (ne e)
contains_tail x xs f (suc j) ne lt e = (j, omega arith, e)

pub contains_next : (xs : List ℕ) (k f : ℕ) → k < length xs → f ≢ get_or xs k 0 → ¬ (Contains (drop (k + 1) xs) f)
    → ¬ (Contains (drop k xs) f)
contains_next xs k f lt ne none some =
    let h = subst (λ ys. Contains ys f) (drop_more xs k 0 lt) some in
    none (contains_tail (get_or xs k 0) (drop (k + 1) xs) f h.0 (λ e. ne (sym e)) h.1 h.2)

abbrev pub others_of : ℕ → Range → Bool
others_of file r = not (r.file == file)

covered_keep_by : (b : Bool) (r : Range) (rs : List Range) (f i : ℕ) → (b ≡ false → f ≢ r.file)
    → ((f ≡ r.file) × InRange r.at r.len i) ⊎ Covered rs f i → Covered (cond b (r ∷ rs) rs) f i
covered_keep_by true r rs f i out h = h
covered_keep_by false r rs f i out h = ⊎_elim (λ here. absurd (out refl here.0)) (λ later. later) h

not_true : (b : Bool) → not b ≡ false → b ≡ true
not_true true e = refl
not_true false e = absurd (true≢false e)

test_true : (a b : ℕ) → (a == b) ≡ true → a ≡ b
test_true a b e = ⊎_elim (λ same. same) (λ ne. absurd (true≢false (sym e ∙ ne_eqb a b ne))) (cases_eq a b)

pub covered_keep : (rs : List Range) (file f i : ℕ) → f ≢ file → Covered rs f i
    → Covered (filter (others_of file) rs) f i
covered_keep [] file f i ne h = h
covered_keep (r ∷ rs) file f i ne h = covered_keep_by (others_of file r) r (filter (others_of file) rs) f i
    (λ e same. ne (same ∙ test_true r.file file (not_true (r.file == file) e)))
    (⊎_elim (λ here. inl here) (λ later. inr (covered_keep rs file f i ne later)) h)

covered_less_by : (b : Bool) (r : Range) (rs ts : List Range) (f i : ℕ) → (b ≡ true → f ≡ r.file → ⊥ ⊎ Unit {0})
    → (Covered ts f i → Covered rs f i) → Covered (cond b (r ∷ ts) ts) f i → Covered (r ∷ rs) f i
covered_less_by true r rs ts f i out less h = ⊎_elim (λ here. inl here) (λ later. inr (less later)) h
covered_less_by false r rs ts f i out less h = inr (less h)

pub covered_less : (rs : List Range) (file f i : ℕ) → Covered (filter (others_of file) rs) f i → Covered rs f i
covered_less [] file f i h = h
covered_less (r ∷ rs) file f i h = covered_less_by (others_of file r) r rs (filter (others_of file) rs) f i
    (λ _ _. inr tt) (covered_less rs file f i) h

covered_other_by : (b : Bool) (r : Range) (ts : List Range) (f i : ℕ) → (b ≡ true → f ≢ r.file)
    → ¬ (Covered ts f i) → ¬ (Covered (cond b (r ∷ ts) ts) f i)
covered_other_by true r ts f i out none h = ⊎_elim (λ here. out refl here.0) none h
covered_other_by false r ts f i out none h = none h

not_false : (b : Bool) → not b ≡ true → b ≡ false
not_false true e = absurd (true≢false (sym e))
not_false false e = refl

pub covered_other : (rs : List Range) (file i : ℕ) → ¬ (Covered (filter (others_of file) rs) file i)
covered_other [] file i h = h
covered_other (r ∷ rs) file i h = covered_other_by (others_of file r) r (filter (others_of file) rs) file i
    (λ e same. true≢false (sym (eq-eqb r.file file (sym same)) ∙ not_false (r.file == file) e))
    (covered_other rs file i) h

keep_shorter : (b : Bool) (r : Range) (rs ts : List Range) → length ts ≤ length rs
    → length (cond b (r ∷ ts) ts) ≤ suc (length rs)
keep_shorter true r rs ts le = omega arith
keep_shorter false r rs ts le = omega arith

pub filter_shorter : (rs : List Range) (file : ℕ) → length (filter (others_of file) rs) ≤ length rs
filter_shorter [] file = le_refl _
filter_shorter (r ∷ rs) file = keep_shorter (others_of file r) r rs (filter (others_of file) rs) (filter_shorter rs
    file)

-- ---- syncs

module _ (told : Bool) (a b : SystemMedium) (file : ℕ) (rs : List Range) (fresh grown lost : Bool)
    (knows : Knows told a rs fresh grown lost) (l_is : IsFalse lost)
    (named : (f : ℕ) → a.named f → b.named f)
    (others : IsTrue told → (f i : ℕ) → f ≢ file → (b.lost f i → a.lost f i) × (b.free f i ↔ a.free f i)) where
  -- a good sync
  pub knows_synced : (IsTrue told → IsWhole a file → HasNothingFree b file)
      → (IsTrue told → (f i : ℕ) → b.lost f i → a.lost f i)
      → (IsTrue told → (f i : ℕ) → b.free f i → a.free f i)
      → Knows told b (filter (others_of file) rs) fresh grown lost
  knows_synced still kept no_more = record {
    whole = λ t l f i h. knows.whole t l f i (kept t f i h);
    free = λ t l f i h. ⊎_elim
        (λ same. absurd (covered_other rs file i (subst (λ k. Covered (filter (others_of file) rs) k i) same h)))
        (λ ne. ((others t f i ne).1).1 (knows.free t l f i (covered_less rs file f i h)))
        (cases_eq f file);
    covers = λ t l s f i h. ⊎_elim
        (λ same. absurd (still t (knows.whole t l file) i (subst (λ k. b.free k i) same h)))
        (λ ne. covered_keep rs file f i ne (knows.covers t l s f i (no_more t f i h)))
        (cases_eq f file);
    named = λ s g f. named f (knows.named s g f);
  }

  -- a sync that failed, after which what it may have dropped was written again
  module _ (c : SystemMedium)
      (failed : IsTrue told → (i : ℕ) → (b.free file i ↔ a.free file i) × (b.lost file i → a.free file i ⊎ a.lost
      file i))
      (named' : (f : ℕ) → b.named f → c.named f)
      (free' : IsTrue told → (f i : ℕ) → c.free f i ↔ b.free f i) (less : (f i : ℕ) → c.lost f i → b.lost f i) where
    free_same : IsTrue told → (f i : ℕ) → c.free f i ↔ a.free f i
    free_same t f i = ⊎_elim
        (λ same. subst (λ k. c.free k i ↔ a.free k i) (sym same) (
          λ h. ((failed t i).0).0 ((free' t file i).0 h),
          λ h. (free' t file i).1 (((failed t i).0).1 h),
        ))
        (λ ne. (
          λ h. ((others t f i ne).1).0 ((free' t f i).0 h),
          λ h. (free' t f i).1 (((others t f i ne).1).1 h),
        ))
        (cases_eq f file)

    pub knows_back : (IsTrue told → (i : ℕ) → a.free file i → ¬ (c.lost file i)) → Knows told c rs fresh grown lost
    knows_back found = record {
      whole = λ t l f i h. ⊎_elim
          (λ same.
          let here = subst (λ k. c.lost k i) same h in
          ⊎_elim
          (λ free. found t i free here)
          (λ was. knows.whole t l file i was)
          ((failed t i).1 (less file i here)))
          (λ ne. knows.whole t l f i ((others t f i ne).0 (less f i h)))
          (cases_eq f file);
      free = λ t l f i h. (free_same t f i).1 (knows.free t l f i h);
      covers = λ t l s f i h. knows.covers t l s f i ((free_same t f i).0 h);
      named = λ s g f. named' f (named f (knows.named s g f));
    }

    -- or could not be
    pub knows_lost : Knows told c rs fresh grown true
    knows_lost = record {
      whole = λ t l. absurd (true≢false l);
      free = λ t l. absurd (true≢false l);
      covers = λ t l. absurd (true≢false l);
      named = λ s g f. named' f (named f (knows.named s g f));
    }

    -- one or the other
    pub knows_tried : (back : Bool) → (IsTrue back → IsTrue told → (i : ℕ) → a.free file i → ¬ (c.lost file i))
        → Knows told c rs fresh grown (not back)
    knows_tried true found = subst (λ l. Knows told c rs fresh grown l) l_is (knows_back (found refl))
    knows_tried false found = knows_lost

-- what a sync of the file of the first range forgets
pub filter_first : (r : Range) (rs : List Range)
    → filter (others_of r.file) (r ∷ rs) ≡ filter (others_of r.file) rs
filter_first r rs = ap (λ b. cond (not b) (r ∷ filter (others_of r.file) rs) (filter (others_of r.file) rs))
    (eq-eqb r.file r.file refl)

-- ---- what was held

pub shows_app : (file : List ℕ) (hs : List Held) (h : Held) → ShowsAll file hs → ShowsBytes file h.at h.bytes.items
    → ShowsAll file (hs ++ h ∷ [])
shows_app file [] h all one = (one, tt)
shows_app file (x ∷ hs) h all one = (all.0, shows_app file hs h all.1 one)

pub held_app : (hs : List Held) (h : Held) (i : ℕ) → IsHeldByte (hs ++ h ∷ []) i
    ↔ (IsHeldByte hs i ⊎ InRange h.at (length h.bytes.items) i)
held_app [] h i = (
  λ x. ⊎_elim (λ y. inr y) (λ y. absurd y) x,
  λ x. ⊎_elim (λ y. absurd y) (λ y. inl y) x,
)
held_app (g ∷ hs) h i = (
  λ x. ⊎_elim (λ y. inl (inl y)) (λ y. ⊎_elim (λ z. inl (inr z)) (λ z. inr z) ((held_app hs h i).0 y)) x,
  λ x. ⊎_elim (λ y. ⊎_elim (λ z. inl z) (λ z. inr ((held_app hs h i).1 (inl z))) y)
      (λ y. inr ((held_app hs h i).1 (inr y))) x,
)

pub shows_at : (file : List ℕ) (hs : List Held) (k : ℕ) (d : Held) → k < length hs → ShowsAll file hs
    → ShowsBytes file (get_or hs k d).at (get_or hs k d).bytes.items
shows_at file [] k d lt all = absurd (omega arith)
shows_at file (h ∷ hs) zero d lt all = all.0
shows_at file (h ∷ hs) (suc k) d lt all = shows_at file hs k d (omega arith) all.1

pub held_at : (hs : List Held) (k : ℕ) (d : Held) (i : ℕ) → k < length hs
    → InRange (get_or hs k d).at (length (get_or hs k d).bytes.items) i → IsHeldByte hs i
held_at [] k d i lt h = absurd (omega arith)
held_at (x ∷ hs) zero d i lt h = inl h
held_at (x ∷ hs) (suc k) d i lt h = inr (held_at hs k d i (omega arith) h)

pub held_next : (hs : List Held) (k : ℕ) (d : Held) (i : ℕ) → k < length hs → IsHeldByte (take (k + 1) hs) i
    → IsHeldByte (take k hs) i ⊎ InRange (get_or hs k d).at (length (get_or hs k d).bytes.items) i
held_next hs k d i lt h = (held_app (take k hs) (get_or hs k d) i).0
    (subst (λ xs. IsHeldByte xs i) (take_more hs k d lt) h)

pub part_of : (file : List ℕ) (hs : List Held) (k : ℕ) (d : Held) (bytes : List ℕ) → k < length hs → d ≡ get_or hs k d
    → bytes ≡ d.bytes.items → ShowsAll file hs → ShowsBytes file d.at bytes
part_of file hs k d bytes lt is same all =
    subst (λ xs. ShowsBytes file d.at xs) (sym same)
    (subst (λ (x : Held). ShowsBytes file x.at x.bytes.items) (sym is) (shows_at file hs k d lt all))

pub part_held : (hs : List Held) (k : ℕ) (d : Held) (bytes : List ℕ) → k < length hs → d ≡ get_or hs k d
    → bytes ≡ d.bytes.items → (i : ℕ) → InRange d.at (length bytes) i → IsHeldByte hs i
part_held hs k d bytes lt is same i range = held_at hs k d i lt
    (subst (λ (x : Held). InRange x.at (length x.bytes.items) i) is
    (subst (λ xs. InRange d.at (length xs) i) same range))

pub part_next : (hs : List Held) (k : ℕ) (d : Held) (bytes : List ℕ) → k < length hs → d ≡ get_or hs k d
    → bytes ≡ d.bytes.items → (i : ℕ) → IsHeldByte (take (k + 1) hs) i → IsHeldByte (take k hs) i ⊎ InRange d.at (length
    bytes) i
part_next hs k d bytes lt is same i h = ⊎_elim
    (λ old. inl old)
    (λ new. inr (subst (λ xs. InRange d.at (length xs) i) (sym same)
    (subst (λ (x : Held). InRange x.at (length x.bytes.items) i) (sym is) new)))
    (held_next hs k d i lt h)

keep_suc : (b : Bool) (r : Range) (ts : List Range) → length (cond b (r ∷ ts) ts) ≤ suc (length ts)
keep_suc true r ts = omega arith
keep_suc false r ts = omega arith

shorter_by : (b : Bool) (r : Range) (rs ts : List Range) → b ≡ false → length ts ≤ length rs
    → length (cond b (r ∷ ts) ts) < suc (length rs)
shorter_by true r rs ts e le = absurd (true≢false e)
shorter_by false r rs ts e le = omega arith

pub shorter_at : (rs : List Range) (file k : ℕ) (d : Range) → k < length rs → (get_or rs k d).file ≡ file
    → length (filter (others_of file) rs) < length rs
shorter_at [] file k d lt e = absurd (omega arith)
shorter_at (r ∷ rs) file zero d lt e =
    shorter_by (others_of file r) r rs (filter (others_of file) rs) (ap not (eq-eqb r.file file e)) (filter_shorter
    rs file)
shorter_at (r ∷ rs) file (suc k) d lt e =
    let less = shorter_at rs file k d (omega arith) e in
    let more = keep_suc (others_of file r) r (filter (others_of file) rs) in
    omega (arith, less, more)

pub not_in_end : (xs : List ℕ) (k f : ℕ) → length xs ≤ k → ¬ (Contains (drop k xs) f)
not_in_end xs k f past h = omega (arith, h.1, length-drop k xs)

pub written_back : (n : ℕ) (new rest : List ℕ) → n ≡ length new → take n (new ++ rest) ≡ new
written_back n new rest e = subst (λ k. take k (new ++ rest) ≡ new) (sym e) (take_at new rest _ refl)

pub shows_read : (file : List ℕ) (at count long : ℕ) (new : List ℕ) → length new ≡ long → long ≤ count
    → count ≡ min long (length file - at) → take count new ≡ take count (drop at file) → ShowsBytes file at new
shows_read file at count long new same all is bytes = record {
  within = λ j lt. omega (arith, lt, same, all, is);
  equal = λ j lt.
      let l : j < count = omega (arith, lt, same, all) in
      sym (get_or-drop at file j 0)
      ∙ sym (get_or-take count (drop at file) j 0 l)
      ∙ sym (ap (λ xs. get_or xs j 0) bytes)
      ∙ get_or-take count new j 0 l;
}

pub covered_next : (rs : List Range) (k : ℕ) (d : Range) (f i : ℕ) → k < length rs → Covered (take (k + 1) rs) f i
    → Covered (take k rs) f i ⊎ ((f ≡ (get_or rs k d).file) × InRange (get_or rs k d).at (get_or rs k d).len i)
covered_next rs k d f i lt h = covered_app (take k rs) (get_or rs k d) f i
    (subst (λ xs. Covered xs f i) (take_more rs k d lt) h)

pub covered_later : (rs : List Range) (k : ℕ) (d : Range) (f i : ℕ) → k < length rs
    → Covered (take k rs) f i ⊎ ((f ≡ (get_or rs k d).file) × InRange (get_or rs k d).at (get_or rs k d).len i)
    → Covered (take (k + 1) rs) f i
covered_later rs k d f i lt h = subst (λ xs. Covered xs f i) (sym (take_more rs k d lt))
    (⊎_elim (λ old. covered_old (take k rs) (get_or rs k d) f i old) (λ new. covered_new (take k rs) (get_or rs k d)
    f i new) h)

-- a range of another file holds nothing of this one
pub held_skip : (rs : List Range) (hs : List Held) (k : ℕ) (d : Range) (file : ℕ) → k < length rs
    → (get_or rs k d).file ≢ file → ((i : ℕ) → IsHeldByte hs i ↔ Covered (take k rs) file i)
    → (i : ℕ) → IsHeldByte hs i ↔ Covered (take (k + 1) rs) file i
held_skip rs hs k d file lt ne was i = (
  λ h. covered_later rs k d file i lt (inl ((was i).0 h)),
  λ h. ⊎_elim (λ old. (was i).1 old) (λ new. absurd (ne (sym new.0))) (covered_next rs k d file i lt h),
)

-- and one of this file is held
pub held_more : (rs : List Range) (hs : List Held) (k : ℕ) (d : Range) (file : ℕ) (part : Held) → k < length rs
    → (get_or rs k d).file ≡ file → part.at ≡ (get_or rs k d).at → length part.bytes.items ≡ (get_or rs k d).len
    → ((i : ℕ) → IsHeldByte hs i ↔ Covered (take k rs) file i)
    → (i : ℕ) → IsHeldByte (hs ++ part ∷ []) i ↔ Covered (take (k + 1) rs) file i
held_more rs hs k d file part lt same at long was i = (
  λ h. covered_later rs k d file i lt (⊎_elim
      (λ old. inl ((was i).0 old))
      (λ new. inr (sym same, (omega (arith, new.0, at), omega (arith, new.1, at, long))))
      ((held_app hs part i).0 h)),
  λ h. (held_app hs part i).1 (⊎_elim
      (λ old. inl ((was i).1 old))
      (λ new. inr (omega (arith, new.1.0, at), omega (arith, new.1.1, at, long)))
      (covered_next rs k d file i lt h)),
)
