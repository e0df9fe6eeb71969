-- Plans of changes, one change after another.
use Rattle.std.proofs.Common.{◌≡◌, ◌≢◌, ◌⊎◌, ℕ, zero, suc, ◌<◌, List, [], ◌∷◌, length, get_or, map, Bool, true, Some}
use Rattle.std.proofs.Common.{Option, refl, sym, ap, subst, ◌∙◌, inl, inr, arith}
use Rattle.std.specs.Prelude.{IsTrue}
use Rattle.std.specs.List.{AllZip, AllByRecursion}
use Rattle.std.specs.Str.{bytes_eq}
use Rattle.std.specs.Ordering.{is_lt}
use Rattle.std.specs.List.Sorted.{IsStrictlySortedBy}
use Rattle.std.proofs.lemmas.Bool.{cases_Bool}
use Rattle.std.proofs.lemmas.Slice.Eq.{bytes_eq-Decides}
use Rattle.per_base.specs.Names.{name_cmp, NamesAscend}
use Rattle.per_base.specs.declared.elements.StoreKind.{StoreKind}
use Rattle.per_base.specs.declared.elements.StoreKind.TheVariants.{Files}
use Rattle.per_base.specs.declared.elements.FileInfo.{FileInfo}
use Rattle.per_base.specs.declared.elements.Entry.{Entry}
use Rattle.block_files.specs.BlockSets.{AreDistinct}
use Rattle.index_text.specs.declared.entries.IndexEntry.{IndexEntry}
use Rattle.index_text.specs.Rules.{IsEntry, has_info}
use Rattle.element_state.specs.Changes.{insert_item, without_item, entry_by_name, entry_name, touched}
use Rattle.element_state.specs.Conditions.{IsGoodEntry}
use Rattle.element_state.specs.Kept.{IsHeaded}
use Rattle.element_store.specs.declared.jobs.Job.{Job}
use Rattle.element_store.specs.Plans.{HasAll, AreDisjoint, AreLaidApart}
use Rattle.element_store.specs.Commits.{AreBeside, IsCarriedFrom, IsWrittenBy}
use Rattle.element_store.specs.Changing.{named_by, IsSeenAs, AreStandingEntries, IsOwn, IsSoundEntry, IsPlanned}
use Rattle.element_store.specs.Changing.{touched_entry}
use Rattle.element_store.proofs.InOrder.{each_insert, each_without, ascends_without, zip_without, zip_names, found_here}
use Rattle.element_store.proofs.Places.{same_default, each_at, each_both, each_by_place, each_through, zip_at}
use Rattle.element_store.proofs.Places.{zip_through, zip_by_place}
use Rattle.element_store.proofs.PlanSteps.{each_map, placed_none}

-- ---- entries that are laid apart

disjoint_back : (xs ys : List ℕ) → AreDisjoint xs ys → AreDisjoint ys xs
disjoint_back xs ys apart i j lt less e = apart j i less lt (sym e)

pub laid_without : (name : List ℕ) (es : List IndexEntry) → AreLaidApart es
    → AreLaidApart (without_item named_by name es)
laid_without name [] laid = tt
laid_without name (e ∷ es) laid = elim (cases_Bool (bytes_eq e.name name)) [
  | inl t ↦ rw t (laid_without name es laid.2)
  | inr f ↦ rw f (
    laid.0,
    each_without named_by (λ (h : IndexEntry). AreDisjoint e.blocks h.blocks) name es laid.1,
    laid_without name es laid.2,
  )
]

pub laid_insert : (e : IndexEntry) (es : List IndexEntry) → AreDistinct e.blocks
    → AllByRecursion (λ (h : IndexEntry). AreDisjoint h.blocks e.blocks) es
    → AreLaidApart es → AreLaidApart (insert_item named_by e es)
laid_insert e [] distinct all laid = (distinct, tt, tt)
laid_insert e (h ∷ es) distinct all laid = elim (cases_Bool (is_lt (name_cmp h.name e.name))) [
  | inl t ↦ rw t (
    laid.0,
    each_insert named_by (λ (x : IndexEntry). AreDisjoint h.blocks x.blocks) e es all.0 laid.1,
    laid_insert e es distinct all.1 laid.2,
  )
  | inr f ↦ rw f (
    distinct,
    (
      disjoint_back h.blocks e.blocks all.0,
      each_map (λ (x : IndexEntry). AreDisjoint x.blocks e.blocks) (λ (x : IndexEntry). AreDisjoint e.blocks x.blocks)
          es
          (λ x apart. disjoint_back x.blocks e.blocks apart) all.1,
    ),
    laid,
  )
]

laid_as : (t : IndexEntry → IndexEntry) (es : List IndexEntry) → ((e : IndexEntry) → e.blocks ≡ (t e).blocks)
    → AreLaidApart es → AreLaidApart (map t es)
laid_as t [] same laid = tt
laid_as t (e ∷ es) same laid = (subst AreDistinct (same e) laid.0, moved es laid.1, laid_as t es same laid.2)
  where
    moved : (xs : List IndexEntry) → AllByRecursion (λ (h : IndexEntry). AreDisjoint e.blocks h.blocks) xs
        → AllByRecursion (λ (h : IndexEntry). AreDisjoint (t e).blocks h.blocks) (map t xs)
    moved [] all = tt
    moved (x ∷ xs) all = (
      subst (λ (bs : List ℕ). AreDisjoint bs (t x).blocks) (same e)
          (subst (λ (bs : List ℕ). AreDisjoint e.blocks bs) (same x) all.0),
      moved xs all.1,
    )

pub laid_disjoint : (es : List IndexEntry) (i j : ℕ) (a b : IndexEntry) → AreLaidApart es → i < length es
    → j < length es → i ≢ j → AreDisjoint (get_or es i a).blocks (get_or es j b).blocks
laid_disjoint [] i j a b laid lt less differ = absurd (omega (arith, lt))
laid_disjoint (e ∷ es) zero zero a b laid lt less differ = absurd (differ refl)
laid_disjoint (e ∷ es) zero (suc j) a b laid lt less differ =
    each_at (λ (h : IndexEntry). AreDisjoint e.blocks h.blocks) es j b laid.1 (omega (arith, less))
laid_disjoint (e ∷ es) (suc i) zero a b laid lt less differ =
    disjoint_back e.blocks (get_or es i a).blocks (each_at (λ (h : IndexEntry). AreDisjoint e.blocks h.blocks) es i a
    laid.1 (omega (arith, lt)))
laid_disjoint (e ∷ es) (suc i) (suc j) a b laid lt less differ =
    laid_disjoint es i j a b laid.2 (omega (arith, lt)) (omega (arith, less)) (λ same. differ (ap suc same))

pub laid_each : (es : List IndexEntry) → AreLaidApart es → AllByRecursion (λ (e : IndexEntry). AreDistinct e.blocks) es
laid_each [] laid = tt
laid_each (e ∷ es) laid = (laid.0, laid_each es laid.2)

name_in : (e : IndexEntry) (f : Entry) → IsHeaded e f → e.name ≡ f.name
name_in e f headed = ap (λ (h : List ℕ × Option FileInfo × ℕ × ℕ). h.0) headed

pub seen_names : (e : IndexEntry) (f : Entry) → IsSeenAs e f → named_by e ≡ entry_name f
seen_names e f s = name_in e f s.headed

pub views_ascend : (standing : List IndexEntry) (views : List Entry) → NamesAscend named_by standing
    → AllZip IsSeenAs standing views → NamesAscend entry_name views
views_ascend standing views sorted read = subst (λ (ns : List (List ℕ)). IsStrictlySortedBy name_cmp ns)
    (zip_names named_by entry_name IsSeenAs seen_names standing views read) sorted

module _ (kind : StoreKind) (standing : List IndexEntry) (views : List Entry) where
  abbrev pub Pair : List Job → IndexEntry → Entry → Type 0
  Pair jobs e f = IsWrittenBy jobs e f ⊎ IsCarriedFrom standing views e f

  pub pair_names : (jobs : List Job) (e : IndexEntry) (f : Entry) → Pair jobs e f → named_by e ≡ entry_name f
  pair_names jobs e f (inl w) = name_in e f w.headed
  pair_names jobs e f (inr c) = name_in e f c.headed

  -- ---- nothing is changed yet

  pub planned_start : (start : List Bool) → AreStandingEntries kind start standing views
      → IsPlanned kind standing views start start standing views []
  planned_start start st = record {
    entries = zip_by_place IsSeenAs (Pair []) standing views (λ k e f lt less one two s. inr (record {
      was = e;
      seen = f;
      beside = record { at = k; inside = lt; within = less; one = one; two = two };
      named = refl;
      place = refl;
      headed = s.headed;
      content = refl;
      lacking = inl refl;
    })) st.read;
    sound = each_by_place (λ (e : IndexEntry). IsEntry 2 kind e × HasAll start e.blocks)
        (IsSoundEntry kind standing start)
        standing
        (λ k e lt is both. record { rules = both.0; taken = both.1; own = own k e lt is })
        (each_both (IsEntry 2 kind) (λ (e : IndexEntry). HasAll start e.blocks)
        (λ (e : IndexEntry). IsEntry 2 kind e × HasAll start e.blocks) standing (λ e r t. (r, t)) st.rules
        st.taken);
    ascend = st.ascend;
    laid = st.laid;
    taken = st.taken;
    placed = placed_none start;
    shares = λ k d lt. absurd (omega (arith, lt));
    keeps = λ b is. is;
    capacity = refl;
  }
    where
      own : (k : ℕ) (e : IndexEntry) → k < length standing → get_or standing k e ≡ e → IsOwn standing e
      own k e lt is i d less differ =
          subst (λ (x : IndexEntry). AreDisjoint (get_or standing i d).blocks x.blocks) is
          (laid_disjoint standing i k d e st.laid less lt
          (λ same. differ (ap named_by (same_default standing i d e less ∙ ap (λ (n : ℕ). get_or standing n e) same
          ∙ is))))

  -- ---- an element is removed

  pub planned_remove : (start now : List Bool) (es : List IndexEntry) (fs : List Entry) (jobs : List Job)
      (name : List ℕ)
      → IsPlanned kind standing views start now es fs jobs
      → IsPlanned kind standing views start now (without_item named_by name es) (without_item entry_name name fs)
      jobs
  planned_remove start now es fs jobs name p = record {
    entries = zip_without named_by entry_name (Pair jobs) (pair_names jobs) name es fs p.entries;
    sound = each_without named_by (IsSoundEntry kind standing now) name es p.sound;
    ascend = ascends_without named_by name es p.ascend;
    laid = laid_without name es p.laid;
    taken = p.taken;
    placed = p.placed;
    shares = p.shares;
    keeps = p.keeps;
    capacity = p.capacity;
  }

  -- ---- an element is touched

  module _ (generation : ℕ) (name : List ℕ) (info : FileInfo) where
    touched_blocks : (e : IndexEntry) → e.blocks ≡ (touched_entry generation name info e).blocks
    touched_blocks e = elim (cases_Bool (bytes_eq e.name name)) [ inl t ↦ rw t refl | inr f ↦ rw f refl ]

    touched_name : (e : IndexEntry) → named_by (touched_entry generation name info e) ≡ named_by e
    touched_name e = elim (cases_Bool (bytes_eq e.name name)) [ inl t ↦ rw t refl | inr f ↦ rw f refl ]

    touched_names : (es : List IndexEntry) → map named_by (map (touched_entry generation name info) es)
        ≡ map named_by es
    touched_names [] = refl
    touched_names (e ∷ es) = ap (λ (n : List ℕ). n ∷ map named_by (map (touched_entry generation name info) es))
        (touched_name e) ∙ ap (λ (ns : List (List ℕ)). e.name ∷ ns) (touched_names es)

    sound_touched : (now : List Bool) (e : IndexEntry) → kind ≡ Files → IsSoundEntry kind standing now e
        → IsSoundEntry kind standing now (touched_entry generation name info e)
    sound_touched now e files s = elim (cases_Bool (bytes_eq e.name name)) [
      | inl t ↦ rw t (record {
        rules = record {
          name = s.rules.name;
          info = subst (λ (k : StoreKind). IsTrue (has_info k (Some info))) (sym files) refl;
          changed = refl;
          len = s.rules.len;
          hash = s.rules.hash;
          blocks = s.rules.blocks;
        };
        taken = s.taken;
        own = s.own;
      })
      | inr f ↦ rw f s
    ]

    good_seen : NamesAscend named_by standing → AllZip IsSeenAs standing views → IsGoodEntry (entry_by_name name views)
        → (was : IndexEntry) (seen : Entry)
        → AreBeside standing views was seen → was.name ≡ name → IsGoodEntry (Some seen)
    good_seen sorted read good was seen beside is =
        let s = zip_at IsSeenAs standing views beside.at was seen read beside.inside in
        let e : (get_or views beside.at seen).name ≡ name = sym (seen_names _ _ s) ∙ ap named_by beside.one ∙ is in
        subst IsGoodEntry (found_here entry_name name views beside.at seen (views_ascend standing views sorted read)
        beside.within
        (λ d. ap entry_name (same_default views beside.at d seen beside.within) ∙ e) (sym beside.two)) good

    pair_touched : (jobs : List Job) (e : IndexEntry) (f : Entry) → NamesAscend named_by standing
        → AllZip IsSeenAs standing views → IsGoodEntry (entry_by_name name views)
        → Pair jobs e f → Pair jobs (touched_entry generation name info e) (touched generation name info f)
    pair_touched jobs e f sorted read good pair =
        let same : bytes_eq f.name name ≡ bytes_eq e.name name =
        ap (λ (n : List ℕ). bytes_eq n name) (sym (pair_names jobs e f pair)) in
        elim (cases_Bool (bytes_eq e.name name)) [
          | inl t ↦ rw (t, same ∙ t) (again t pair)
          | inr n ↦ rw (n, same ∙ n) pair
        ]
      where
        again : bytes_eq e.name name ≡ true → Pair jobs e f
            → Pair jobs (record e { info = Some info; changed = generation })
            (record f { info = Some info; changed = generation; lacking = [] })
        again t (inl w) = inl (record {
          job = w.job;
          among = w.among;
          blocks = w.blocks;
          hash = w.hash;
          len = w.len;
          headed = ap (λ (h : List ℕ × Option FileInfo × ℕ × ℕ). (h.0, Some info, h.2, generation)) w.headed;
          content = w.content;
          lacking = refl;
        })
        again t (inr c) = inr (record {
          was = c.was;
          seen = c.seen;
          beside = c.beside;
          named = c.named;
          place = c.place;
          headed = ap (λ (h : List ℕ × Option FileInfo × ℕ × ℕ). (h.0, Some info, h.2, generation)) c.headed;
          content = c.content;
          lacking = inr (
            refl,
            good_seen sorted read good c.was c.seen c.beside
                (sym c.named ∙ (bytes_eq-Decides e.name name).0 t),
          );
        })

    pub planned_touch : (start now : List Bool) (es : List IndexEntry) (fs : List Entry) (jobs : List Job)
        → NamesAscend named_by standing → AllZip IsSeenAs standing views
        → kind ≡ Files → IsGoodEntry (entry_by_name name views) → IsPlanned kind standing views start now es fs jobs
        → IsPlanned kind standing views start now (map (touched_entry generation name info) es)
        (map (touched generation name info) fs) jobs
    planned_touch start now es fs jobs sorted read files good p = record {
      entries = zip_through (Pair jobs) (touched_entry generation name info) (touched generation name info) es fs
          (λ e f pair. pair_touched jobs e f sorted read good pair) p.entries;
      sound = each_through (IsSoundEntry kind standing now) (touched_entry generation name info) es
          (λ e s. sound_touched now e files s) p.sound;
      ascend = subst (λ (ns : List (List ℕ)). IsStrictlySortedBy name_cmp ns) (sym (touched_names es)) p.ascend;
      laid = laid_as (touched_entry generation name info) es touched_blocks p.laid;
      taken = p.taken;
      placed = p.placed;
      shares = p.shares;
      keeps = p.keeps;
      capacity = p.capacity;
    }
