-- Elements that are mended one after another.
use Rattle.std.proofs.Common.{◌≡◌, ◌≢◌, ℕ, zero, suc, ◌+◌, ◌-◌, ◌*◌, ◌<◌, ◌≤◌, List, [], ◌∷◌, length, get_or, take}
use Rattle.std.proofs.Common.{Bool, IsTrue, Option, Some, inl, refl, sym, ap, ◌∙◌, subst, arith, ⊎_elim, length-append}
use Rattle.std.proofs.Common.{eq-eqb}
use Rattle.std.specs.Prelude.{nat_eq, map, sum_by}
use Rattle.std.specs.List.{AllZip, AllByRecursion, Contains, IsDistinct}
use Rattle.std.proofs.lemmas.Map.Keys.{apart_from_distinct}
use Rattle.std.proofs.lemmas.Bool.{cases_eq, cases_lt}
use Rattle.std.proofs.lemmas.List.{get_or_default, get_or-map, take_all}
use Rattle.std.proofs.lemmas.List.Concat.{get_or-flat_map}
use Rattle.std.proofs.lemmas.List.Folds.{length-flat_map-take}
use Rattle.std.proofs.lemmas.List.Sums.{sum_by_more, sum_by_more_le}
use Rattle.per_base.specs.declared.elements.Entry.{Entry}
use Rattle.per_base.specs.declared.elements.Content.{Content}
use Rattle.per_base.specs.declared.elements.Content.TheVariants.{Good}
use Rattle.per_base.specs.Contents.{HasLength, blocks_for, readable_bytes}
use Rattle.disk_model.specs.Image.{Image}
use Rattle.disk_model.specs.Case.{Case, Follows}
use Rattle.disk_model.specs.Medium.{Medium, Quiet, IsLawful, Elapses, EachCase, OnlyReads, WritesNothing}
use Rattle.disk_model.specs.Frame.{Spares, KeepsCase}
use Rattle.disk_model.specs.Place.{area, IsNoArea}
use Rattle.disk_model.specs.lemmas.Frames.{keeps_none, keeps_tears}
use Rattle.disk_model.specs.Laws.{elapses_none, elapses_on, cases_on}
use Rattle.disk_model.specs.declared.place.Place.{Place}
use Rattle.m_of_n.specs.Vote.{voted}
use Rattle.block_files.specs.BlockSets.{IsNotAmong, AreDistinct}
use Rattle.block_files.specs.Areas.{NamedFull, area_of}
use Rattle.block_files.specs.Contents.{AreCopies, first_content}
use Rattle.block_files.specs.Writes.{Wrote, Tore, IsNoneOf}
use Rattle.index_text.specs.declared.entries.Index.{Index}
use Rattle.index_text.specs.declared.entries.IndexEntry.{IndexEntry}
use Rattle.index_text.specs.Rules.{IsIndex, IsEntry, blocks_of}
use Rattle.element_state.specs.declared.shapes.Shape.{Shape}
use Rattle.element_state.specs.Views.{entry_view, given, content_of}
use Rattle.element_state.specs.Chosen.{IsReadBy}
use Rattle.element_state.specs.Conditions.{IsMended}
use Rattle.element_state.specs.Written.{whole_cost}
use Rattle.element_laws.specs.Phases.{MendStartLaw, MendStepLaw, MendSyncLaw, IsMending, IsSparing, TakesMend}
use Rattle.element_laws.specs.Phases.{KeepsBlockBytes, KeepsBlocksWhole, lacked}
use Rattle.element_store.specs.Mends.{IsAsBefore, IsWholeIn, AreShown, MendsCase, SparesOthers, lacking_cost}
use Rattle.element_store.proofs.PlanSteps.{both_ways}
use Rattle.element_store.proofs.Shown.{content_good}
use Rattle.element_store.proofs.Working.{full_kept}

-- ---- lists side by side

pub zip_at : {X Y : Type 0} (R : X → Y → Type 0) (xs : List X) (ys : List Y) (i : ℕ) (x : X) (y : Y) → AllZip R xs ys
    → i < length xs → R (get_or xs i x) (get_or ys i y)
zip_at R [] ys i x y zip lt = absurd (omega (arith, lt))
zip_at R (a ∷ xs) [] i x y zip lt = absurd zip
zip_at R (a ∷ xs) (b ∷ ys) zero x y zip lt = zip.0
zip_at R (a ∷ xs) (b ∷ ys) (suc i) x y zip lt = zip_at R xs ys i x y zip.1 (omega (arith, lt))

pub zip_long : {X Y : Type 0} (R : X → Y → Type 0) (xs : List X) (ys : List Y) → AllZip R xs ys → length ys ≡ length xs
zip_long R [] [] zip = refl
zip_long R [] (b ∷ ys) zip = absurd zip
zip_long R (a ∷ xs) [] zip = absurd zip
zip_long R (a ∷ xs) (b ∷ ys) zip = ap suc (zip_long R xs ys zip.1)

pub zip_from : {X Y : Type 0} (R : X → Y → Type 0) (xs : List X) (ys : List Y) → length ys ≡ length xs
    → ((i : ℕ) (x : X) (y : Y) → i < length xs → R (get_or xs i x) (get_or ys i y)) → AllZip R xs ys
zip_from R [] [] long each = tt
zip_from R [] (b ∷ ys) long each = absurd (omega (arith, long))
zip_from R (a ∷ xs) [] long each = absurd (omega (arith, long))
zip_from R (a ∷ xs) (b ∷ ys) long each = (
  each 0 a b (omega arith),
  zip_from R xs ys (omega (arith, long)) (λ i x y lt. each (suc i) x y (omega (arith, lt))),
)

-- ---- blocks of different entries

-- where the blocks of an entry stand among all
before : (es : List IndexEntry) (i j : ℕ) (d : IndexEntry) → i < j → j < length es
    → length (blocks_of (take i es)) + length (get_or es i d).blocks ≤ length (blocks_of (take j es))
before [] i j d less lt = absurd (omega (arith, lt))
before (e ∷ es) i zero d less lt = absurd (omega (arith, less))
before (e ∷ es) zero (suc j) d less lt = let long = length-append e.blocks (blocks_of (take j es)) in
    omega (arith, long)
before (e ∷ es) (suc i) (suc j) d less lt =
    let one = length-append e.blocks (blocks_of (take i es)) in
    let two = length-append e.blocks (blocks_of (take j es)) in
    let rest = before es i j d (omega (arith, less)) (omega (arith, lt)) in
    omega (arith, one, two, rest)

-- two places of all the blocks
place_at : (es : List IndexEntry) (i : ℕ) (d : IndexEntry) → i < length es → (m : ℕ) → m < length (get_or es i d).blocks
    → (get_or (blocks_of es) (length (blocks_of (take i es)) + m) 0 ≡ get_or (get_or es i d).blocks m 0)
    × (length (blocks_of (take i es)) + m < length (blocks_of es))
place_at es i d lt m ltm =
    let f = λ (x : IndexEntry). x.blocks in
    let room = length-flat_map-take f es i d lt in
    (get_or-flat_map f es i m d 0 lt ltm, omega (arith, room, ltm))

never_same : (xs : List ℕ) (p q : ℕ) → IsDistinct nat_eq xs → p < q → q < length xs → get_or xs p 0 ≢ get_or xs q 0
never_same xs p q distinct less lt same = both_ways (nat_eq (get_or xs p 0) (get_or xs q 0))
    (eq-eqb (get_or xs p 0) (get_or xs q 0) same) (apart_from_distinct nat_eq xs p q 0 distinct less lt)

-- the blocks of one entry are none of another's
pub entries_apart : (es : List IndexEntry) (i j : ℕ) (d : IndexEntry) → IsDistinct nat_eq (blocks_of es) → i < length es
    → j < length es → i ≢ j
    → (m : ℕ) → m < length (get_or es i d).blocks → IsNotAmong (get_or es j d).blocks
    (get_or (get_or es i d).blocks m 0)
entries_apart es i j d distinct lti ltj other m ltm n ltn same =
    let a = place_at es i d lti m ltm in
    let b = place_at es j d ltj n ltn in
    let p = length (blocks_of (take i es)) + m in
    let q = length (blocks_of (take j es)) + n in
    let equal : get_or (blocks_of es) p 0 ≡ get_or (blocks_of es) q 0 = a.0 ∙ same ∙ sym b.0 in
    ⊎_elim
    (λ less. let room = before es i j d less ltj in never_same (blocks_of es) p q distinct (omega (arith, room, ltm))
    b.1 equal)
    (λ more. let room = before es j i d (omega (arith, more, other)) lti in
    never_same (blocks_of es) q p distinct (omega (arith, room, ltn)) a.1 (sym equal))
    (cases_lt i j)

-- and each is its own
pub entry_distinct : (es : List IndexEntry) (i : ℕ) (d : IndexEntry) → IsDistinct nat_eq (blocks_of es) → i < length es
    → AreDistinct (get_or es i d).blocks
entry_distinct es i d distinct lt m n less ltn same =
    let a = place_at es i d lt m (omega (arith, less, ltn)) in
    let b = place_at es i d lt n ltn in
    never_same (blocks_of es) (length (blocks_of (take i es)) + m) (length (blocks_of (take i es)) + n) distinct
    (omega (arith, less)) b.1 (a.0 ∙ same ∙ sym b.0)

pub rec_at : {X : Type 0} (P : X → Type 0) (xs : List X) (i : ℕ) (d : X) → AllByRecursion P xs → i < length xs
    → P (get_or xs i d)
rec_at P [] i d all lt = absurd (omega (arith, lt))
rec_at P (x ∷ xs) zero d all lt = all.0
rec_at P (x ∷ xs) (suc i) d all lt = rec_at P xs i d all.1 (omega (arith, lt))

-- ---- what whole writes keep, a crash keeps

less_blocks : (shape : Shape) (start now image : Image) (es : List IndexEntry)
    → AllByRecursion (λ (e : IndexEntry). (copy : ℕ) → copy < shape.place.copies → ¬ (TakesMend shape start e copy)
    → KeepsBlocksWhole e.blocks (now (area shape.place copy)) (image (area shape.place copy))) es
    → AllByRecursion (λ (e : IndexEntry). (copy : ℕ) → copy < shape.place.copies → ¬ (TakesMend shape start e copy)
    → KeepsBlockBytes e.blocks (now (area shape.place copy)) (image (area shape.place copy))) es
less_blocks shape start now image [] all = tt
less_blocks shape start now image (e ∷ es) all = (
  λ copy lt untaken. record {
    bytes = λ i j lti ltj inside. (all.0 copy lt untaken).bytes i j lti ltj;
    no_shorter =
        (all.0 copy lt untaken).no_shorter;
  },
  less_blocks shape start now image es all.1,
)

less_sparing : (shape : Shape) (start now image : Image) (index : Index)
    → IsSparing KeepsBlocksWhole shape start now index image → IsSparing KeepsBlockBytes shape start now index image
less_sparing shape start now image index s = record {
  slots = s.slots;
  kept =
      less_blocks shape start now image index.entries s.kept;
}

same_blocks : (shape : Shape) (start image : Image) (es : List IndexEntry)
    → AllByRecursion (λ (e : IndexEntry). (copy : ℕ) → copy < shape.place.copies → ¬ (TakesMend shape start e copy)
    → KeepsBlocksWhole e.blocks (image (area shape.place copy)) (image (area shape.place copy))) es
same_blocks shape start image [] = tt
same_blocks shape start image (e ∷ es) = (
  (λ copy lt untaken.
      record { bytes = λ i j lti small. refl; no_shorter = omega arith }),
  same_blocks shape start image es,
)

same_sparing : (shape : Shape) (start image : Image) (index : Index)
    → IsSparing KeepsBlocksWhole shape start image index image
same_sparing shape start image index = record {
  slots = λ f none. refl;
  kept =
      same_blocks shape start image index.entries;
}

-- ---- one more

pub record AreMended (told : Bool) (shape : Shape) (index : Index) (views : List Entry) (i : ℕ)
    (old now : Medium) : Type 0 where
  pub areas : IsTrue told → Spares (IsNoArea shape.place) old.image now.image
  pub full : IsTrue told → (x : ℕ) (e : IndexEntry) (f : Entry) → x < i → x < length index.entries
      → IsWholeIn now.image shape.place (get_or index.entries x e) (get_or views x f)
  pub spared : IsTrue told → SparesOthers shape index views old.image now.image
  pub here : (c : Case) → now.now c → MendsCase shape index views old.image c
  pub during : EachCase (MendsCase shape index views old.image) old now
  pub idle : IsTrue told → AllByRecursion (λ (f : Entry). IsMended f.content f.lacking) views → IsAsBefore old now
  pub written : now.written ≤ old.written + sum_by lacking_cost (take i views)
  pub time : Elapses old now
  pub passes : now.faults ≡ old.faults

pub few_none : (n size : ℕ) → n ≡ 0 → n * size ≡ 0
few_none n size none = let zero_times : 0 * size ≡ 0 = omega arith in ap (λ (m : ℕ). m * size) none ∙ zero_times

-- writes in no copy leave all as it was
in_none : (place : Place) (n : ℕ) (lacking : List ℕ) (old mid new : Medium) → lacking ≡ [] → n ≡ 0 → IsAsBefore old mid
    → ((f : ℕ) → IsNoneOf place lacking f → new.image f ≡ mid.image f) → new.written ≤ mid.written + n → Elapses mid new
    → IsAsBefore old new
in_none place n lacking old mid new none nothing was same at_most time = record {
  image = (λ j f. same f (none_of f) j) ∙ was.image;
  written = (let before = was.written in let later = time.written in omega (arith, at_most, nothing, before, later));
}
  where
    none_of : (f : ℕ) → IsNoneOf place lacking f
    none_of f i lt = let long = ap length none in absurd (omega (arith, lt, long))

-- what an element that is seen good on an image says of it
seen_good : (shape : Shape) (start : Image) (e : IndexEntry) (v : List ℕ)
    → (entry_view start shape.place shape.m e).content ≡ Good v → voted shape.m (given start shape.place e) ≡ Some v
unfolding entry_view
seen_good shape start e v good = content_good (voted shape.m (given start shape.place e))
    (first_content (given start shape.place e)) v good

good_seen : (shape : Shape) (start : Image) (e : IndexEntry) (v : List ℕ)
    → voted shape.m (given start shape.place e) ≡ Some v → (entry_view start shape.place shape.m e).content ≡ Good v
unfolding entry_view
good_seen shape start e v agreed = ap (λ (o : Option (List ℕ)).
    content_of o (first_content (given start shape.place e))) agreed

module _ (told : Bool) (shape : Shape) (index : Index) (views : List Entry) (rules : IsIndex index)
    (read : AllZip (IsReadBy shape.place.copies) index.entries views) where
  pub mended_none : MendStartLaw → (m : Medium) → IsLawful told m → Quiet m → AreMended told shape index views 0 m m
  mended_none starts m law quiet =
      let settled = λ (c : Case) (past : m.now c) (start : Image) (shown : AreShown shape index views start).
      starts shape start m.image index c (quiet c past) in
      record {
        areas = λ tells f none. refl;
        full = λ tells x e f less lt. absurd (omega (arith, less));
        spared = λ tells start shown. (starts shape start m.image index
            (record { base = m.image; full = m.image; left = m.image })
            (record { base = refl; full = refl; left = refl })).full;
        here = settled;
        during = λ c past. settled c (law.only_now c past);
        idle = λ tells mended. record { image = refl; written = refl };
        written = omega arith;
        time = elapses_none law;
        passes = refl;
      }

  -- areas of copies
  no_area : (copies : List ℕ) → AreCopies shape.place.copies copies → (f : ℕ)
      → IsNoArea shape.place f → IsNoneOf shape.place copies f
  no_area copies are f none i lt =
      let at = are i lt in
      none (get_or copies i 0 - 1) (omega (arith, at))

  -- an element that cannot be read is left alone
  pub mended_skip : (i : ℕ) (f : Entry) (old now : Medium) → i < length index.entries → f ≡ get_or views i f
      → ((v : List ℕ) → f.content ≡ Good v → ⊥)
      → AreMended told shape index views i old now → AreMended told shape index views (i + 1) old now
  mended_skip i f old now lt is_f never was = record {
    areas = was.areas;
    full = λ tells x d g less inside. ⊎_elim
        (λ at w is. (
        let long = zip_long (IsReadBy shape.place.copies) index.entries views read in
        let at_f : get_or views x g ≡ f = get_or_default views x g f (omega (arith, inside, long))
        ∙ ap (λ (k : ℕ). get_or views k f) at ∙ sym is_f in
        absurd (never w (sym (ap (λ (y : Entry). y.content) at_f) ∙ is))))
        (λ other. was.full tells x d g (omega (arith, less, other)) inside)
        (cases_eq x i);
    spared = was.spared;
    here = was.here;
    during = was.during;
    idle = was.idle;
    written = (
        let long = zip_long (IsReadBy shape.place.copies) index.entries views read in
        let more = sum_by_more lacking_cost views i f (omega (arith, lt, long)) in
        let before = was.written in
        omega (arith, before, more));
    time = was.time;
    passes = was.passes;
  }

  pub mended_all : (i : ℕ) (old now : Medium) → length index.entries ≤ i → AreMended told shape index views i old now
      → IsTrue told → AllZip (IsWholeIn now.image shape.place) index.entries views
  mended_all i old now past was tells = zip_from (IsWholeIn now.image shape.place) index.entries views
      (zip_long (IsReadBy shape.place.copies) index.entries views read)
      (λ x e f lt. was.full tells x e f (omega (arith, past, lt)) lt)

  pub mended_written : (i : ℕ) (old now : Medium) → length index.entries ≤ i
      → AreMended told shape index views i old now → now.written ≤ old.written + sum_by lacking_cost views
  mended_written i old now past was =
      let long = zip_long (IsReadBy shape.place.copies) index.entries views read in
      subst (λ (fs : List Entry). now.written ≤ old.written + sum_by lacking_cost fs)
      (take_all i views (omega (arith, past, long))) was.written

  pub read_at : (i : ℕ) (e : IndexEntry) (f : Entry) → i < length index.entries → e ≡ get_or index.entries i e
      → f ≡ get_or views i f → IsReadBy shape.place.copies e f
  read_at i e f lt is_e is_f = subst (λ (x : IndexEntry). IsReadBy shape.place.copies x f) (sym is_e)
      (subst (λ (y : Entry). IsReadBy shape.place.copies (get_or index.entries i e) y) (sym is_f)
      (zip_at (IsReadBy shape.place.copies) index.entries views i e f read lt))

  pub room_at : (i : ℕ) (e : IndexEntry) (f : Entry) (v : List ℕ) → i < length index.entries
      → e ≡ get_or index.entries i e → f ≡ get_or views i f → f.content ≡ Good v
      → length v ≤ 256 * length e.blocks
  room_at i e f v lt is_e is_f good =
      let is : HasLength (Good v) e.len =
      subst (λ (c : Content). HasLength c e.len) good (read_at i e f lt is_e is_f).value in
      let rule : IsEntry index.format index.kind e = subst (IsEntry index.format index.kind) (sym is_e)
      (rec_at (IsEntry index.format index.kind) index.entries i e rules.each lt) in
      let count = rule.blocks in
      omega (arith, is, count)

  pub cost_at : (i : ℕ) (e : IndexEntry) (f : Entry) (v : List ℕ) → i < length index.entries
      → e ≡ get_or index.entries i e → f ≡ get_or views i f → f.content ≡ Good v
      → length f.lacking * (256 * length e.blocks) ≡ lacking_cost f
  cost_at i e f v lt is_e is_f good =
      let is : HasLength (Good v) e.len =
      subst (λ (c : Content). HasLength c e.len) good (read_at i e f lt is_e is_f).value in
      let rule : IsEntry index.format index.kind e = subst (IsEntry index.format index.kind) (sym is_e)
      (rec_at (IsEntry index.format index.kind) index.entries i e rules.each lt) in
      ap (λ (n : ℕ). length f.lacking * (256 * n)) (rule.blocks ∙ ap blocks_for (sym is))
      ∙ ap (λ (bytes : List ℕ). length f.lacking * whole_cost bytes) (sym (ap readable_bytes good))

  pub distinct_at : (i : ℕ) (e : IndexEntry) → i < length index.entries → e ≡ get_or index.entries i e
      → AreDistinct e.blocks
  distinct_at i e lt is_e = subst (λ (x : IndexEntry). AreDistinct x.blocks) (sym is_e)
      (entry_distinct index.entries i e rules.blocks_apart lt)

  module _ (step : MendStepLaw) (i : ℕ) (e : IndexEntry) (f : Entry) (v : List ℕ) (old mid : Medium)
      (lt : i < length index.entries)
      (is_e : e ≡ get_or index.entries i e) (is_f : f ≡ get_or views i f) (good : f.content ≡ Good v) where
    reads : IsReadBy shape.place.copies e f
    reads = read_at i e f lt is_e is_f

    shown_at : (start : Image) → AreShown shape index views start → f ≡ entry_view start shape.place shape.m e
    shown_at start shown =
        is_f ∙ ap (λ (vs : List Entry). get_or vs i f) shown
        ∙ get_or-map (entry_view start shape.place shape.m) index.entries i e f lt
        ∙ ap (entry_view start shape.place shape.m) (sym is_e)

    has : Contains index.entries e
    has = (i, lt, sym is_e)

    one_step : (start : Image) (d c : Case) → AreShown shape index views start → IsMending shape start old.image index d
        → KeepsCase (IsNoneOf shape.place f.lacking) (IsNotAmong e.blocks) d c
        → IsMending shape start old.image index c
    one_step start d c shown was keeps =
        let same = shown_at start shown in
        let lack : f.lacking ≡ lacked shape start e = ap (λ (x : Entry). x.lacking) same in
        step shape start old.image index e v d c rules has
        (seen_good shape start e v (sym (ap (λ (x : Entry). x.content) same) ∙ good))
        (subst (λ (cs : List ℕ). AreCopies shape.place.copies cs) lack reads.lacking)
        was (subst (λ (cs : List ℕ). KeepsCase (IsNoneOf shape.place cs) (IsNotAmong e.blocks) d c) lack keeps)

    module _ (n : ℕ) (new : Medium) where
      pub still_during : (was : AreMended told shape index views i old mid) → Elapses mid new
          → Follows (KeepsCase (IsNoneOf shape.place f.lacking) (IsNotAmong e.blocks)) mid.now (new.since mid.moment)
          → EachCase (MendsCase shape index views old.image) old new
      still_during was time follows c past = ⊎_elim
          (λ before. was.during c before)
          (λ after start shown. let (d, here, keeps) = follows c after in
          one_step start d c shown (was.here d here start shown) keeps)
          (cases_on was.time time c past)

      pub torn_areas : AreMended told shape index views i old mid
          → Tore told (IsNoneOf shape.place f.lacking) (IsNotAmong e.blocks) n mid new
          → IsTrue told → Spares (IsNoArea shape.place) old.image new.image
      torn_areas was tore tells file none = (tore.tears tells).files file (no_area f.lacking reads.lacking file none)
          ∙ was.areas tells file none

      -- an element that is mended already lacks nothing
      nothing_lacks : AllByRecursion (λ (f : Entry). IsMended f.content f.lacking) views → f.lacking ≡ []
      nothing_lacks mended =
          let long = zip_long (IsReadBy shape.place.copies) index.entries views read in
          let its : IsMended f.content f.lacking = subst (λ (g : Entry). IsMended g.content g.lacking) (sym is_f)
          (rec_at (λ (f : Entry). IsMended f.content f.lacking) views i f mended (omega (arith, lt, long))) in
          subst (λ (x : Content). IsMended x f.lacking) good its

      pub torn_idle : AreMended told shape index views i old mid
          → Tore told (IsNoneOf shape.place f.lacking) (IsNotAmong e.blocks) n mid new
          → (f.lacking ≡ [] → n ≡ 0) → IsTrue told → AllByRecursion (λ (f : Entry). IsMended f.content f.lacking) views
          → IsAsBefore old new
      torn_idle was tore few tells mended = in_none shape.place n f.lacking old mid new (nothing_lacks mended)
          (few (nothing_lacks mended)) (was.idle tells mended)
          (tore.tears tells).files tore.written tore.time

      pub torn_written : n ≡ lacking_cost f → AreMended told shape index views i old mid
          → new.written ≤ mid.written + n → new.written ≤ old.written + sum_by lacking_cost views
      torn_written cost was tore =
          let long = zip_long (IsReadBy shape.place.copies) index.entries views read in
          let more = sum_by_more_le lacking_cost views i f (omega (arith, lt, long)) in
          let this = ap lacking_cost is_f in
          let before = was.written in
          omega (arith, before, tore, cost, this, more)

      pub mended_more : n ≡ lacking_cost f → (f.lacking ≡ [] → n ≡ 0)
          → Wrote told (IsNoneOf shape.place f.lacking) (IsNotAmong e.blocks) n mid new
          → (IsTrue told → NamedFull shape.place f.lacking e.blocks v new.image)
          → AreMended told shape index views i old mid → AreMended told shape index views (i + 1) old new
      mended_more cost few wrote whole was = record {
        areas = λ tells file none. (wrote.keeps tells).files file (no_area f.lacking reads.lacking file none)
            ∙ was.areas tells file none;
        full = λ tells x d g less inside. ⊎_elim
            (λ here. (
            let at_e : get_or index.entries x d ≡ e = get_or_default index.entries x d e inside
            ∙ ap (λ (k : ℕ). get_or index.entries k e) here ∙ sym is_e in
            let long = zip_long (IsReadBy shape.place.copies) index.entries views read in
            let at_f : get_or views x g ≡ f = get_or_default views x g f (omega (arith, inside, long))
            ∙ ap (λ (k : ℕ). get_or views k f) here ∙ sym is_f in
            subst (λ (y : IndexEntry). IsWholeIn new.image shape.place y (get_or views x g)) (sym at_e)
            (subst (λ (y : Entry). IsWholeIn new.image shape.place e y) (sym at_f)
            (λ w is. subst (λ (bs : List ℕ). NamedFull shape.place f.lacking e.blocks bs new.image)
            (same_value v w (sym good ∙ is)) (whole tells)))))
            (λ other w is k ltk.
            let same_d : get_or index.entries x d ≡ get_or index.entries x e =
            get_or_default index.entries x d e inside in
            full_kept (IsNoneOf shape.place f.lacking) (IsNotAmong e.blocks) mid.image new.image
            (area_of shape.place (get_or (get_or views x g).lacking k 0)) (get_or index.entries x d).blocks w
            (wrote.keeps tells)
            (λ m ltm. subst (λ (y : IndexEntry). IsNotAmong e.blocks (get_or y.blocks m 0)) (sym same_d)
            (subst (λ (y : IndexEntry). IsNotAmong y.blocks (get_or (get_or index.entries x e).blocks m 0)) (sym is_e)
            (entries_apart index.entries x i e rules.blocks_apart inside lt other m
            (subst (λ (y : IndexEntry). m < length y.blocks) same_d ltm))))
            (was.full tells x d g (omega (arith, less, other)) inside w is k ltk))
            (cases_eq x i);
        spared = λ tells start shown.
            (one_step start (record { base = old.image; full = mid.image; left = mid.image })
            (record { base = old.image; full = new.image; left = mid.image }) shown
            (record {
              base = same_sparing shape start old.image index;
              full = was.spared tells start shown;
              left = less_sparing shape start old.image mid.image index (was.spared tells start shown);
              durable = inl refl;
            })
            (record { base = refl; full = wrote.keeps tells; left = keeps_tears (keeps_none mid.image) })).full;
        here = λ c past start shown. (let (d, was_now, keeps) =
            wrote.now c past in one_step start d c shown (was.here d was_now start shown) keeps);
        during = still_during was wrote.time wrote.during;
        idle = λ tells mended. in_none shape.place n f.lacking old mid new (nothing_lacks mended)
            (few (nothing_lacks mended)) (was.idle tells mended)
            (wrote.keeps tells).files wrote.written wrote.time;
        written = (
            let long = zip_long (IsReadBy shape.place.copies) index.entries views read in
            let more = sum_by_more lacking_cost views i f (omega (arith, lt, long)) in
            let this = ap lacking_cost is_f in
            let before = was.written in
            let next = wrote.written in
            omega (arith, before, next, cost, this, more));
        time = elapses_on was.time wrote.time;
        passes = wrote.passes ∙ was.passes;
      }
        where
          same_value : (a b : List ℕ) → Good a ≡ Good b → a ≡ b
          same_value a b e = cc

-- ---- and a sync

-- contents that are whole in the copies that lacked them are mended
are_mended : (shape : Shape) (start image : Image) (es : List IndexEntry)
    → AllZip (IsWholeIn image shape.place) es (map (entry_view start shape.place shape.m) es)
    → AllByRecursion (λ (e : IndexEntry). (value : List ℕ) → voted shape.m (given start shape.place e) ≡ Some value
    → NamedFull shape.place (lacked shape start e) e.blocks value image) es
are_mended shape start image [] zip = tt
are_mended shape start image (e ∷ es) zip = (
  (λ value agreed. zip.0 value (good_seen shape start e value agreed)),
  are_mended shape start image es zip.1,
)

module _ (shape : Shape) (index : Index) (views : List Entry) (told : Bool) (old mid new : Medium)
    (law : IsLawful told mid)
    (during : EachCase (MendsCase shape index views old.image) old mid) (first : Elapses old mid)
    (next : Elapses mid new) where
  past_mid : (c : Case) → mid.now c → MendsCase shape index views old.image c
  past_mid c here = during c (law.counts_now old.moment c first.later here)

  -- a sync writes nothing
  pub idle_synced : {P : Type 0} → (P → IsAsBefore old mid) → WritesNothing mid new → P → IsAsBefore old new
  idle_synced was nothing p = record {
    image = nothing.image ∙ (was p).image;
    written =
        nothing.written ∙ (was p).written;
  }

  -- a sync that failed
  pub unsynced_during : OnlyReads mid new → EachCase (MendsCase shape index views old.image) old new
  unsynced_during reads c past = ⊎_elim (during c) (λ after. past_mid c (reads.during c after))
      (cases_on first next c past)

  -- one that did not
  pub synced_during : MendStartLaw → MendSyncLaw → SparesOthers shape index views old.image mid.image
      → AllZip (IsWholeIn mid.image shape.place) index.entries views → WritesNothing mid new → Quiet new
      → EachCase (MendsCase shape index views old.image) old new
  synced_during starts syncs spared whole nothing quiet c past = ⊎_elim (during c)
      (λ after. ⊎_elim (past_mid c) (λ here start shown.
      let settled = quiet c here in
      let begin = starts shape start old.image index (record { base = old.image; full = old.image; left = old.image })
      (record { base = refl; full = refl; left = refl }) in
      syncs shape start old.image index (record { base = old.image; full = mid.image; left = old.image }) c
      (record { base = begin.base; full = spared start shown; left = begin.left; durable = begin.durable })
      (are_mended shape start mid.image index.entries (subst
      (λ (vs : List Entry). AllZip (IsWholeIn mid.image shape.place) index.entries vs) shown whole))
      (record {
        base = settled.base ∙ nothing.image;
        full = settled.full ∙ nothing.image;
        left =
            settled.left ∙ nothing.image;
      }))
      (nothing.during c after))
      (cases_on first next c past)
