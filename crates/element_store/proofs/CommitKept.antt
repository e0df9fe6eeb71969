-- What a commit leaves at its end and at every moment: by the laws of the phases of a call.
use Rattle.std.proofs.Common.{◌≡◌, ◌⊎◌, ℕ, zero, suc, ◌+◌, ◌*◌, ◌<◌, ◌≤◌, List, [], ◌∷◌, length, get_or, Bool, true}
use Rattle.std.proofs.Common.{IsTrue, Some, refl, sym, ap, ◌∙◌, subst, arith, ⊎_elim, inl, inr}
use Rattle.std.proofs.Math.Nat.{mul-le-mul_left}
use Rattle.std.specs.List.{All, AllByRecursion, AllZip}
use Rattle.hash_guard.specs.SealedText.{header, sealed}
use Rattle.disk_model.specs.Image.{Image}
use Rattle.disk_model.specs.Place.{slot}
use Rattle.disk_model.specs.lemmas.Places.{slot_no_area}
use Rattle.guarded_cell.specs.Differing.{front_cost, texts_cost}
use Rattle.per_base.specs.declared.elements.Content.{Content}
use Rattle.per_base.specs.declared.elements.Entry.{Entry}
use Rattle.disk_model.specs.declared.place.Place.{Place}
use Rattle.disk_model.specs.Medium.{Medium, Quiet, Elapses, EachCase}
use Rattle.disk_model.specs.Frame.{Spares, IsSettledOn, Keeps}
use Rattle.disk_model.specs.Place.{IsNoArea, IsNoSlot, IsOutside}
use Rattle.disk_model.specs.lemmas.Frames.{case_less, keeps_less, settled_before, settled_less}
use Rattle.disk_model.specs.Laws.{cases_on}
use Rattle.disk_model.specs.lemmas.Places.{outside_no_slot, outside_no_area}
use Rattle.guarded_cell.specs.declared.cell.Cell.{Cell}
use Rattle.guarded_cell.specs.Cells.{place_of, CellAt, IsCellOf}
use Rattle.guarded_cell.specs.Register.{IsAlone, own}
use Rattle.guarded_cell.specs.Stops.{PutStops}
use Rattle.block_files.specs.Aside.{Where}
use Rattle.block_files.specs.BlockSets.{contains, Ascend}
use Rattle.block_files.specs.Contents.{AreCopies}
use Rattle.index_text.specs.declared.entries.Index.{Index}
use Rattle.index_text.specs.declared.entries.IndexEntry.{IndexEntry}
use Rattle.index_text.specs.Rules.{IsIndex, IsEntry}
use Rattle.index_text.specs.Sizes.{area_blocks, entry_length}
use Rattle.index_text.specs.lemmas.Lengths.{length-index_text}
use Rattle.std.specs.Prelude.{sum_by, Option}
use Rattle.std.proofs.lemmas.List.Sums.{sum_by-cons}
use Rattle.per_base.specs.declared.elements.StoreKind.{StoreKind}
use Rattle.per_base.specs.declared.elements.FileInfo.{FileInfo}
use Rattle.per_base.specs.declared.elements.Change.{Change}
use Rattle.per_base.specs.Contents.{blocks_for, HasLength}
use Rattle.index_text.specs.Spelling.{index_text}
use Rattle.element_state.specs.declared.shapes.Shape.{Shape}
use Rattle.element_state.specs.declared.shapes.View.{View}
use Rattle.element_state.specs.Fit.{fit_index}
use Rattle.element_state.specs.States.{State, Opens, whole_view}
use Rattle.element_state.specs.Changes.{after_changes, committed_by}
use Rattle.element_state.specs.Chosen.{IsReadBy}
use Rattle.element_state.specs.Clean.{IsClean}
use Rattle.element_state.specs.Conditions.{IsShape, IsInUse}
use Rattle.element_state.specs.Kept.{IsHeaded, IsKeptCase, KeptThroughout}
use Rattle.element_state.specs.Written.{commit_cost, IsWithin}
use Rattle.element_laws.specs.Phases.{IsAdopted, ContentsLaw, ContentsDoneLaw, IndexLaw}
use Rattle.element_laws.specs.Phases.{InUseLaw, CarriedLaw, IsContentWritten, IsCarried}
use Rattle.element_laws.specs.lemmas.Lists.{zip_with}
use Rattle.element_store.specs.declared.jobs.Job.{Job}
use Rattle.element_store.specs.declared.store.Store.{Store}
use Rattle.element_store.specs.Jobs.{IsJobWritten, HasShared, IsLeftByAll, IsJobsCase, jobs_cost}
use Rattle.element_store.specs.Plans.{HasAll, ArePlacedJobs}
use Rattle.element_store.specs.Stores.{IsUsed, view_in, store_generation}
use Rattle.element_store.specs.Commits.{IsWrittenBy, IsCarriedOver, IsCommitPlan}
use Rattle.element_store.specs.Committing.{listed_length, index_length}
use Rattle.element_store.proofs.PlanSteps.{left_of_placed, jobs_to_contents}
use Rattle.element_store.proofs.Around.{contents_around}
use Rattle.element_store.proofs.Fulls.{view_full}
use Rattle.element_store.proofs.Shown.{view_gives}
use Rattle.element_store.proofs.TakenBlocks.{taken_all}
use Rattle.element_store.proofs.Standing.{kind_is}
use Rattle.element_store.proofs.Committed.{IsPut, IsStill, IsPutOrStill, entries_of_plan, plan_shares, after_in_use}
use Rattle.element_store.proofs.Committed.{after_clean}

-- ---- the laws, at a storage in use

module _ (in_use : InUseLaw) (shape : Shape) (set now : List Bool) (index : Index) (v : View) (jobs : List Job)
    (is : IsShape shape) (rules : IsIndex index)
    (takes : AllByRecursion (λ (e : IndexEntry). HasAll set e.blocks) index.entries)
    (placed : ArePlacedJobs set now jobs)
    (old : Medium) (used : IsInUse shape old.image index v) where
  adopted : IsClean shape old.image → IsAdopted shape old.image old.image v.generation (index_text index) index
  adopted clean = in_use shape old.image index v clean used

  left : (k : ℕ) → contains set k ≡ true → IsLeftByAll jobs k
  left k taken = left_of_placed set now jobs placed k taken

  pub keeps_set : (mid : Medium) → Keeps (IsNoArea shape.place) (IsLeftByAll jobs) old.image
      mid.image
      → Keeps (IsNoArea shape.place) (λ k. contains set k ≡ true) old.image mid.image
  keeps_set mid keeps = keeps_less (λ f none. none) left keeps

  -- while the jobs are written
  pub jobs_kept : ContentsLaw → ContentsDoneLaw → (mid : Medium) (done : Type 0) (after : State)
      → (done → Keeps (IsNoArea shape.place) (IsLeftByAll jobs) old.image mid.image)
      → EachCase (IsJobsCase shape.place jobs old mid done) old mid
      → KeptThroughout shape after old mid
  jobs_kept contents contents_done mid done after keeps each quiet clean c past = ⊎_elim
      (λ some. let (d, was, step) = some in
      contents shape old.image old.image v.generation (index_text index) index (contains set) after d c is.some
      (adopted clean) rules takes (quiet d was)
      (case_less (λ f none. none) left step))
      (λ all.
      contents_done shape old.image old.image mid.image v.generation (index_text index) index (contains set) after c
      is.some (adopted clean) rules takes
      (keeps_set mid (keeps all.0)) all.1)
      (each c past)

  -- ---- and then the index

  module _ (carried : CarriedLaw) (mid : Medium) (next : Index) (entries : List Entry)
      (zip : AllZip (IsPutOrStill shape old.image mid.image index) next.entries entries) where
    written_of : (e : IndexEntry) (f : Entry) → IsPut shape mid.image e f → IsContentWritten shape mid.image e f
    written_of e f put =
        let seen = view_full mid.image shape.place shape.m e put.bytes is.some is.enough put.full put.hash put.len in
        record {
          headed = put.headed;
          value = put.bytes;
          good = put.content;
          whole = λ copy lt. view_gives mid.image shape.place shape.m e put.bytes (ap (λ (x : Entry). x.content) seen)
              (ap (λ (x : Entry). x.lacking) seen) copy lt;
        }

    carried_of : (e : IndexEntry) (f : Entry) → IsStill shape old.image index e f → IsCarried shape old.image index e f
    carried_of e f still = carried shape old.image index v still.was e f used still.there still.place still.headed
        still.content

    of_laws : AllZip (λ e f. IsContentWritten shape mid.image e f
        ⊎ IsCarried shape old.image index e f) next.entries entries
    of_laws = zip_with (IsPutOrStill shape old.image mid.image index)
        (λ e f. IsContentWritten shape mid.image e f ⊎ IsCarried shape old.image index e f) next.entries entries
        (λ e f i j r. ⊎_elim (λ put. inl (written_of e f put)) (λ still. inr (carried_of e f still)) r) zip

    pub index_kept : IndexLaw → (new : Medium) → fit_index shape (index_text next) ≡ Some next
        → Keeps (IsNoArea shape.place) (IsLeftByAll jobs) old.image mid.image
        → IsClean shape old.image
        → EachCase (PutStops shape.place (v.generation + 1) (index_text next) mid.image) mid
        new
        → EachCase (IsKeptCase shape old.image (Opens (whole_view shape (v.generation + 1) entries) [])) mid new
    index_kept law new fit keeps clean stops c past =
        law shape old.image old.image mid.image v.generation (index_text index) index (contains set) (index_text next)
        next
        (whole_view shape (v.generation + 1) entries) [] c is.some (adopted clean) rules takes (keeps_set mid keeps) fit
        refl of_laws (stops c past)

-- ---- a commit

committed_is : (shape : Shape) (v : View) (changes : List Change)
    → committed_by shape v changes ≡ whole_view shape (v.generation + 1)
    (after_changes (v.generation + 1) v.entries changes)
unfolding committed_by
committed_is shape v changes = refl

module _ (told : Bool) (store : Store) (changes : List Change) (now : List Bool) (next : Index) (jobs : List Job)
    (old : Medium)
    (used : IsUsed told old.image store) (plan : IsCommitPlan store.shape store.index (view_in store) changes store.used
    now next jobs) (tells : IsTrue told) where
  abbrev set : List Bool
  set = store.used

  abbrev shape : Shape
  shape = store.shape

  abbrev place : Place
  place = store.shape.place

  abbrev v : View
  v = view_in store

  abbrev after : List Entry
  after = after_changes (v.generation + 1) v.entries changes

  in_use_now : IsInUse shape old.image store.index v
  in_use_now = used.disk tells

  is : IsShape shape
  is = used.memory.shape

  rules : IsIndex store.index
  rules = used.memory.index.rules

  takes : AllByRecursion (λ (e : IndexEntry). HasAll store.used e.blocks) store.index.entries
  takes = taken_all (area_blocks store.shape.allowed) store.index.entries store.used used.memory.taken

  -- each copy has what the jobs share with it
  pub commit_shares : All (HasShared old.image place) jobs
  commit_shares = plan_shares shape old.image store.index v in_use_now rules jobs plan.shares

  module _ (mid : Medium) where
    -- while the jobs are written, also where a write fails
    pub commit_keeps_jobs : InUseLaw → ContentsLaw → ContentsDoneLaw → (done : Type 0) (state : State)
        → (done → Keeps (IsNoArea place) (IsLeftByAll jobs) old.image mid.image)
        → EachCase (IsJobsCase place jobs old mid done) old mid → KeptThroughout shape state old mid
    commit_keeps_jobs in_use contents contents_done done state keeps each =
        jobs_kept in_use shape set now store.index v jobs is rules takes plan.placed old in_use_now contents
        contents_done mid done state keeps each

    pub commit_around_jobs : (done : Type 0) → Quiet old
        → Spares (IsNoArea place) old.image mid.image
        → EachCase (IsJobsCase place jobs old mid done) old mid
        → EachCase (IsSettledOn (IsOutside place) old.image) old mid
    commit_around_jobs done quiet same each = contents_around place set old mid done quiet same
        (λ c past. jobs_to_contents place set now jobs old mid done done plan.placed (λ d. d) c
        (each c past))

  -- and the index after them
  module _ (mid new : Medium) (text : List ℕ) (spelled : text ≡ index_text next)
      (keeps : Keeps (IsNoArea place) (IsLeftByAll jobs) old.image mid.image)
      (done : All (IsJobWritten mid.image place) jobs) where
    zip : AllZip (IsPutOrStill shape old.image mid.image store.index) next.entries after
    zip = entries_of_plan shape old.image store.index v in_use_now mid.image jobs done next.entries after plan.entries

    module _ (before : Elapses old mid) (later : Elapses mid new) (all : Type 0)
        (each : EachCase (IsJobsCase place jobs old mid all) old mid)
        (stops : EachCase (PutStops (place_of store.cell) (store_generation store + 1)
        text mid.image) mid new) where
      stops_here : EachCase (PutStops place (v.generation + 1) (index_text next) mid.image) mid new
      stops_here = subst (λ (t : List ℕ). EachCase (PutStops place (v.generation + 1) t mid.image)
          mid new) spelled
          (subst (λ (p : Place). EachCase (PutStops p (v.generation + 1) text mid.image) mid new)
          used.memory.place stops)

      pub commit_keeps : InUseLaw → ContentsLaw → ContentsDoneLaw → CarriedLaw → IndexLaw
          → KeptThroughout shape (Opens (committed_by shape v changes) []) old new
      commit_keeps in_use contents contents_done carried law quiet clean c past = ⊎_elim
          (λ first. commit_keeps_jobs mid in_use contents contents_done all (Opens (committed_by shape v changes) [])
          (λ d. keeps) each quiet clean c first)
          (λ second. subst (λ (w : View). IsKeptCase shape old.image (Opens w []) c)
          (sym (committed_is shape v changes))
          (index_kept in_use shape set now store.index v jobs is rules takes plan.placed old in_use_now carried mid next
          after zip law new plan.text.fit keeps clean stops_here c second))
          (cases_on before later c past)

      pub commit_around : Quiet old → Spares (IsNoArea place) old.image mid.image
          → EachCase (IsSettledOn (IsOutside place) old.image) old new
      commit_around quiet same c past = ⊎_elim
          (commit_around_jobs mid all quiet same each c)
          (λ second. settled_before (λ f out. same f (outside_no_area place f out))
          (settled_less (λ f out. outside_no_slot place f out)
          (stops_here c second).elsewhere))
          (cases_on before later c past)

    module _ (cell : Cell) (of : IsCellOf (place_of store.cell) (store_generation store + 1) cell)
        (held : CellAt new.image cell text)
        (same : Spares (IsNoSlot (place_of store.cell)) mid.image new.image) where
      alone : IsAlone new.image place (v.generation + 1) (index_text next)
      alone =
          subst (λ (t : List ℕ). IsAlone new.image place (v.generation + 1) t) spelled
          (subst (λ (g : ℕ). IsAlone new.image place g text) of.counts
          (subst (λ (p : Place). IsAlone new.image p cell.generation text) (of.lies ∙ used.memory.place)
          held))

      same_here : Spares (IsNoSlot place) mid.image new.image
      same_here = subst (λ (p : Place). Spares (IsNoSlot p) mid.image new.image) used.memory.place same

      pub commit_in_use : IsInUse shape new.image next (committed_by shape v changes)
      commit_in_use = subst (λ (w : View). IsInUse shape new.image next w) (sym (committed_is shape v changes))
          (after_in_use shape old.image mid.image new.image set store.index v is in_use_now takes
          (keeps_less (λ f none. none) (λ k taken. left_of_placed set now jobs plan.placed k taken) keeps) same_here
          next after zip alone plan.text.fit)

      pub commit_clean : IsClean shape old.image → IsClean shape new.image
      commit_clean clean =
          after_clean shape old.image mid.image new.image set store.index v is in_use_now takes
          (keeps_less (λ f none. none) (λ k taken. left_of_placed set now jobs plan.placed k taken) keeps) same_here
          next after zip alone plan.text.fit clean

-- ---- what it writes, and the elements in memory

module _ (told : Bool) (store : Store) (changes : List Change) (now : List Bool) (next : Index) (jobs : List Job)
    (old : Medium)
    (used : IsUsed told old.image store) (plan : IsCommitPlan store.shape store.index (view_in store) changes store.used
    now next jobs) where
  module _ (mid : Medium) (first_cost : mid.written ≤ old.written + store.shape.place.copies * jobs_cost jobs) where
    abbrev cost : ℕ
    cost = commit_cost store.shape.kind (view_in store).entries changes

    -- the contents alone
    pub commit_written_jobs : mid.written ≤ old.written + store.shape.place.copies * cost
    commit_written_jobs =
        let few : store.shape.place.copies * jobs_cost jobs ≤ store.shape.place.copies * cost =
        mul-le-mul_left store.shape.place.copies plan.cost in
        omega (arith, first_cost, few)

    pub commit_written : (new : Medium) (text : List ℕ) → text ≡ index_text next
        → new.written ≤ mid.written + (place_of store.cell).copies * (header + length text + header)
        → IsWithin store.shape.place.copies cost (length (index_text next)) old.written new.written
    commit_written new text spelled then =
        let n = store.shape.place.copies in
        let l = length (index_text next) in
        let few : n * jobs_cost jobs ≤ n * cost = mul-le-mul_left n plan.cost in
        let split : n * (cost + l + 88) ≡ n * cost + n * (44 + l + 44) = omega arith in
        let here : new.written ≤ mid.written + n * (44 + l + 44) =
        subst (λ (t : List ℕ). new.written ≤ mid.written + n * (44 + length t + 44)) spelled
        (subst (λ (p : Place). new.written ≤ mid.written + p.copies * (44 + length text + 44)) used.memory.place then)
        in
        omega (arith, first_cost, few, split, here)

  texts_same : (place : Place) (parity : ℕ) (bytes : List ℕ) (a b : Image) → parity < 2
      → ((f : ℕ) → IsNoArea place f → b f ≡ a f) → (n : ℕ)
      → texts_cost place parity bytes b n ≡ texts_cost place parity bytes a n
  texts_same place parity bytes a b two same zero = refl
  texts_same place parity bytes a b two same (suc n) =
      let rest = texts_same place parity bytes a b two same n in
      let e = same (slot place n parity) (slot_no_area place n parity two) in
      let here : front_cost (b (slot place n parity)) bytes ≡ front_cost (a (slot place n parity)) bytes =
      ap (λ (s : List ℕ). front_cost s bytes) e in
      omega (arith, rest, here)

  module _ (mid : Medium) (first_cost : mid.written ≤ old.written + store.shape.place.copies * jobs_cost jobs)
      (spares : Spares (IsNoArea store.shape.place) old.image mid.image) where
    pub commit_differs : (new : Medium) (text : List ℕ) → text ≡ index_text next
        → new.written ≤ mid.written + texts_cost (place_of store.cell) (own (store_generation store + 1))
        (sealed (store_generation store + 1) text) mid.image (place_of store.cell).copies
        + (place_of store.cell).copies * header
        → new.written ≤ old.written
        + store.shape.place.copies * (commit_cost store.shape.kind (view_in store).entries changes + 44)
        + texts_cost store.shape.place (own (store_generation store + 1))
        (sealed (store_generation store + 1) (index_text next)) old.image store.shape.place.copies
    commit_differs new text spelled then =
        let n = store.shape.place.copies in
        let g = store_generation store + 1 in
        let c = commit_cost store.shape.kind (view_in store).entries changes in
        let few : n * jobs_cost jobs ≤ n * c = mul-le-mul_left n plan.cost in
        let split : n * (c + 44) ≡ n * c + n * 44 = omega arith in
        let at_place : new.written ≤ mid.written + texts_cost store.shape.place (own g) (sealed g text) mid.image n
        + n * 44 =
        subst (λ (p : Place). new.written ≤ mid.written + texts_cost p (own g) (sealed g text) mid.image p.copies
        + p.copies * 44) used.memory.place then in
        let here : new.written ≤ mid.written + texts_cost store.shape.place (own g) (sealed g (index_text next))
        mid.image n
        + n * 44 =
        subst (λ (t : List ℕ). new.written ≤ mid.written + texts_cost store.shape.place (own g) (sealed g t) mid.image n
        + n * 44) spelled at_place in
        let same : texts_cost store.shape.place (own g) (sealed g (index_text next)) mid.image n
        ≡ texts_cost store.shape.place (own g) (sealed g (index_text next)) old.image n =
        texts_same store.shape.place (own g) (sealed g (index_text next)) old.image mid.image (omega arith) spares n in
        omega (arith, first_cost, few, split, here, same)

  headed_read : (e : IndexEntry) (f : Entry) → IsHeaded e f → HasLength f.content e.len
      → AreCopies store.shape.place.copies f.lacking → Ascend f.lacking
      → IsReadBy store.shape.place.copies e f
  headed_read e f headed value copies ascend = record {
    name = λ j. (sym headed j).0;
    info = λ j. (sym headed j).1;
    changed = λ j. (sym headed j).3;
    len = λ j. (sym headed j).2;
    value = value;
    lacking = copies;
    ascend = ascend;
  }

  none_read : (e : IndexEntry) (f : Entry) → IsHeaded e f → HasLength f.content e.len → f.lacking ≡ []
      → IsReadBy store.shape.place.copies e f
  none_read e f headed value none = headed_read e f headed value
      (subst (λ (xs : List ℕ). AreCopies store.shape.place.copies xs) (sym none) (λ i lt. absurd (omega (arith, lt))))
      (subst Ascend (sym none) (λ i j less lt. absurd (omega (arith, lt))))

  written_read : (e : IndexEntry) (f : Entry) → IsWrittenBy jobs e f → IsReadBy store.shape.place.copies e f
  written_read e f w = none_read e f w.headed (subst (λ (x : Content). HasLength x e.len) (sym w.content) (sym w.len))
      w.lacking

  read_at : (es : List IndexEntry) (fs : List Entry) (k : ℕ) (e : IndexEntry) (f : Entry)
      → AllZip (IsReadBy store.shape.place.copies) es fs
      → k < length es → k < length fs → get_or es k e ≡ e → get_or fs k f ≡ f → IsReadBy store.shape.place.copies e f
  read_at [] fs k e f zip lt less one two = absurd (omega (arith, lt))
  read_at (x ∷ es) [] k e f zip lt less one two = absurd zip
  read_at (x ∷ es) (y ∷ fs) zero e f zip lt less one two =
      subst (λ (a : IndexEntry). IsReadBy store.shape.place.copies a f) one
      (subst (λ (b : Entry). IsReadBy store.shape.place.copies x b) two zip.0)
  read_at (x ∷ es) (y ∷ fs) (suc k) e f zip lt less one two =
      read_at es fs k e f zip.1 (omega (arith, lt)) (omega (arith, less)) one two

  carried_read : (e : IndexEntry) (f : Entry) → IsCarriedOver store.index (view_in store) e f
      → IsReadBy store.shape.place.copies e f
  carried_read e f c =
      let read = read_at store.index.entries store.entries.items c.beside.at c.was c.seen used.memory.entries
      c.beside.inside c.beside.within c.beside.one c.beside.two in
      let value : HasLength f.content e.len =
      subst (λ (n : ℕ). HasLength f.content n) (sym (ap (λ (at : Where). at.len) c.place))
      (subst (λ (x : Content). HasLength x c.was.len) (sym c.content) read.value) in
      ⊎_elim
      (λ same. headed_read e f c.headed value
      (subst (λ (xs : List ℕ). AreCopies store.shape.place.copies xs) (sym same) read.lacking)
      (subst Ascend (sym same) read.ascend))
      (λ none. none_read e f c.headed value none.0)
      c.lacking

  -- the elements after the commit are read by the next index
  pub commit_read : AllZip (IsReadBy store.shape.place.copies) next.entries
      (after_changes ((view_in store).generation + 1) (view_in store).entries changes)
  commit_read = zip_with (λ e f. IsWrittenBy jobs e f ⊎ IsCarriedOver store.index (view_in store) e f)
      (IsReadBy store.shape.place.copies) next.entries
      (after_changes ((view_in store).generation + 1) (view_in store).entries changes)
      (λ e f i j w. ⊎_elim (λ written. written_read e f written) (λ carried. carried_read e f carried) w) plan.entries

  -- ---- and how long the text of its index is

  listed : (kind : StoreKind) (e : IndexEntry) (f : Entry) → IsEntry 2 kind e → IsHeaded e f
      → entry_length 2 kind e ≡ listed_length kind f.name f.len
  listed kind e f rules headed =
      let name = ap (λ (h : List ℕ × Option FileInfo × ℕ × ℕ). length h.0) headed in
      let blocks = rules.blocks ∙ ap (λ (h : List ℕ × Option FileInfo × ℕ × ℕ). blocks_for h.2) headed in
      omega (arith, name, blocks)

  all_listed : (kind : StoreKind) (es : List IndexEntry) (fs : List Entry) → AllByRecursion (IsEntry 2 kind) es
      → AllZip (λ e f. IsWrittenBy jobs e f ⊎ IsCarriedOver store.index (view_in store) e f) es fs
      → sum_by (entry_length 2 kind) es ≡ sum_by (λ (f : Entry). listed_length kind f.name f.len) fs
  all_listed kind [] [] each pairs = refl
  all_listed kind [] (f ∷ fs) each pairs = absurd pairs
  all_listed kind (e ∷ es) [] each pairs = absurd pairs
  all_listed kind (e ∷ es) (f ∷ fs) each pairs =
      let headed : IsHeaded e f = ⊎_elim (λ written. written.headed) (λ carried. carried.headed) pairs.0 in
      sum_by-cons (entry_length 2 kind) e es ∙ ap (λ (n : ℕ). n + sum_by (entry_length 2 kind) es)
      (listed kind e f each.0 headed)
      ∙ ap (λ (n : ℕ). listed_length kind f.name f.len + n) (all_listed kind es fs each.1 pairs.1)
      ∙ sym (sum_by-cons (λ (x : Entry). listed_length kind x.name x.len) f fs)

  pub commit_length : next.format ≡ 2 → length (index_text next)
      ≡ index_length store.shape.kind (committed_by store.shape (view_in store) changes).entries
  commit_length two =
      let kind = kind_is store.shape.kind store.shape.allowed next plan.text.fits in
      let rules : AllByRecursion (IsEntry 2 store.shape.kind) next.entries =
      subst (λ (k : StoreKind). AllByRecursion (IsEntry 2 k) next.entries) kind
      (subst (λ (n : ℕ). AllByRecursion (IsEntry n next.kind) next.entries) two plan.text.rules.each) in
      length-index_text next plan.text.rules
      ∙ ap (λ (n : ℕ). 4 + sum_by (entry_length n next.kind) next.entries) two
      ∙ ap (λ (k : StoreKind). 4 + sum_by (entry_length 2 k) next.entries) kind
      ∙ ap (λ (n : ℕ). 4 + n) (all_listed store.shape.kind next.entries
      (after_changes ((view_in store).generation + 1) (view_in store).entries changes) rules plan.entries)
      ∙ sym (ap (λ (w : View). index_length store.shape.kind w.entries)
      (committed_is store.shape (view_in store) changes))
