-- A storage in use, as a plan of changes finds it, and the index of a plan.
use Rattle.std.proofs.Common.{◌≡◌, ◌≢◌, ℕ, ◌+◌, ◌-◌, ◌<◌, ◌≤◌, List, [], ◌∷◌, ◌++◌, length, get_or, Bool, true, eqb}
use Rattle.std.proofs.Common.{Some, Option, refl, sym, ap, subst, ◌∙◌, inl, inr, arith, length-append, eq-eqb}
use Rattle.std.specs.Prelude.{sum_by, nat_eq, nat_lt, nat_le, ◌&&◌}
use Rattle.std.specs.List.{AllZip, AllByRecursion, IsDistinct, list_all}
use Rattle.std.proofs.lemmas.Bool.{and_parts, and_from, le-leb}
use Rattle.std.proofs.lemmas.List.{get_or_append_left, get_or-append_right}
use Rattle.std.proofs.lemmas.List.Sums.{sum_by-cons}
use Rattle.std.proofs.lemmas.Map.Keys.{apart_from_distinct}
use Rattle.per_base.specs.declared.elements.StoreKind.{StoreKind}
use Rattle.per_base.specs.declared.elements.StoreKind.TheVariants.{Keys, Files}
use Rattle.per_base.specs.declared.elements.FileInfo.{FileInfo}
use Rattle.per_base.specs.declared.elements.Entry.{Entry}
use Rattle.per_base.specs.declared.elements.Change.{Change}
use Rattle.block_files.specs.BlockSets.{AreDistinct}
use Rattle.index_text.specs.declared.entries.Index.{Index}
use Rattle.index_text.specs.declared.entries.IndexEntry.{IndexEntry}
use Rattle.index_text.specs.Reading.{index_of}
use Rattle.index_text.specs.Rules.{IsEntry, IsIndex, blocks_of}
use Rattle.index_text.specs.Sizes.{Fits, fits, size_of, area_blocks}
use Rattle.index_text.specs.Spelling.{store_kind_code, index_text}
use Rattle.element_state.specs.declared.shapes.Shape.{Shape}
use Rattle.element_state.specs.declared.shapes.View.{View}
use Rattle.element_state.specs.Changes.{after_changes}
use Rattle.element_state.specs.Chosen.{IsReadBy}
use Rattle.element_state.specs.Conditions.{AreCommittable, IsChange}
use Rattle.element_state.specs.Conditions as conditions
use Rattle.element_state.specs.Written.{commit_cost, change_cost}
use Rattle.element_state.specs.Kept.{IsHeaded}
use Rattle.element_store.specs.declared.jobs.Job.{Job}
use Rattle.element_store.specs.declared.store.Store.{Store}
use Rattle.element_store.specs.Jobs.{jobs_cost}
use Rattle.element_store.specs.Plans.{HasAll, AreDisjoint, AreLaidApart}
use Rattle.element_store.specs.Spelled.{IsTextOf, index_with}
use Rattle.element_store.specs.Stores.{IsStore, AreTaken, view_in}
use Rattle.element_store.specs.Commits.{IsCommitPlan}
use Rattle.element_store.specs.Changing.{blocks_of_changes, IsSeenAs, AreStandingEntries, IsSoundEntry, IsPlanned}
use Rattle.element_store.specs.Changing.{IsTraced}
use Rattle.element_store.proofs.Places.{zip_length, zip_map}
use Rattle.element_store.proofs.PlanSteps.{each_map}
use Rattle.element_store.proofs.Made.{fit_of}
use Rattle.element_store.proofs.Ruled.{laid_distinct, blocks_below}
use Rattle.element_store.proofs.TakenBlocks.{taken_all, taken_room}
use Rattle.element_store.proofs.Room.{changes_fit}
use Rattle.guarded_cell.specs.Cells.{generation_of}
use Rattle.element_store.specs.Committing.{IsPrepared}
use Rattle.index_text.specs.lemmas.Lengths.{text_is_short}
use Rattle.hash_guard.specs.SealedText.{max_body}
use Rattle.block_files.specs.BlockSets.{free_of}
use Rattle.element_store.proofs.Changed.{Pair}

-- ---- blocks that are distinct are laid apart

rest_distinct : (xs ys : List ℕ) → IsDistinct nat_eq (xs ++ ys) → IsDistinct nat_eq ys
unfolding IsDistinct
rest_distinct [] ys d = d
rest_distinct (x ∷ xs) ys d = rest_distinct xs ys (tail x (xs ++ ys) d)
  where
    tail : (z : ℕ) (zs : List ℕ) → IsDistinct nat_eq (z ∷ zs) → IsDistinct nat_eq zs
    tail z zs h = h.1

differ : (zs : List ℕ) (i j : ℕ) → IsDistinct nat_eq zs → i < j → j < length zs → get_or zs i 0 ≢ get_or zs j 0
differ zs i j d less lt e =
    let n = apart_from_distinct nat_eq zs i j 0 d less lt in
    let y : nat_eq (get_or zs i 0) (get_or zs j 0) ≡ true = eq-eqb (get_or zs i 0) (get_or zs j 0) e in
    cc

front_distinct : (xs ys : List ℕ) → IsDistinct nat_eq (xs ++ ys) → AreDistinct xs
front_distinct xs ys d i j less lt e =
    let long = length-append xs ys in
    differ (xs ++ ys) i j d less (omega (arith, lt, long))
    (get_or_append_left xs ys 0 i (omega (arith, less, lt)) ∙ e ∙ sym (get_or_append_left xs ys 0 j lt))

both_disjoint : (xs ys : List ℕ) → IsDistinct nat_eq (xs ++ ys) → AreDisjoint xs ys
both_disjoint xs ys d i j lt less e =
    let long = length-append xs ys in
    let back : length xs + j ≡ length xs + j = refl in
    let at = get_or-append_right xs ys (length xs) (length xs + j) 0 refl (omega arith) in
    let sub : length xs + j - length xs ≡ j = omega arith in
    differ (xs ++ ys) i (length xs + j) d (omega (arith, lt)) (omega (arith, less, long))
    (get_or_append_left xs ys 0 i lt ∙ e ∙ sym (at ∙ ap (λ (k : ℕ). get_or ys k 0) sub))

split_disjoint : (xs : List ℕ) (es : List IndexEntry) → AreDisjoint xs (blocks_of es)
    → AllByRecursion (λ (f : IndexEntry). AreDisjoint xs f.blocks) es
split_disjoint xs [] all = tt
split_disjoint xs (e ∷ es) all =
    let long = length-append e.blocks (blocks_of es) in (
      λ i j lt less same. all i j lt (omega (arith, less, long))
          (same ∙ sym (get_or_append_left e.blocks (blocks_of es) 0 j less)),
      split_disjoint xs es (λ i j lt less same.
          let at = get_or-append_right e.blocks (blocks_of es) (length e.blocks) (length e.blocks + j) 0 refl
          (omega arith) in
          let sub : length e.blocks + j - length e.blocks ≡ j = omega arith in
          all i (length e.blocks + j) lt (omega (arith, less, long))
          (same ∙ sym (at ∙ ap (λ (k : ℕ). get_or (blocks_of es) k 0) sub))),
    )

laid_of : (es : List IndexEntry) → IsDistinct nat_eq (blocks_of es) → AreLaidApart es
laid_of [] d = tt
laid_of (e ∷ es) d = (
  front_distinct e.blocks (blocks_of es) d,
  split_disjoint e.blocks es (both_disjoint e.blocks (blocks_of es) d),
  laid_of es (rest_distinct e.blocks (blocks_of es) d),
)

-- ---- what stands

same_kind : (a b : StoreKind) → eqb (store_kind_code a) (store_kind_code b) ≡ true → a ≡ b
same_kind Keys Keys e = refl
same_kind Keys Files e = absurd cc
same_kind Files Keys e = absurd cc
same_kind Files Files e = refl

pub kind_is : (kind : StoreKind) (allowed : ℕ) (index : Index) → Fits kind allowed index → index.kind ≡ kind
kind_is kind allowed index fit =
    let small = and_parts (eqb (store_kind_code index.kind) (store_kind_code kind)
    && nat_le (size_of index.entries) allowed)
    (list_all (λ b. nat_lt b (area_blocks allowed)) (blocks_of index.entries)) fit in
    same_kind index.kind kind (and_parts (eqb (store_kind_code index.kind) (store_kind_code kind))
    (nat_le (size_of index.entries) allowed) small.0).0

in_format : (format : ℕ) (kind : StoreKind) (e : IndexEntry) → IsEntry format kind e → IsEntry 2 kind e
in_format format kind e r = record {
  name = r.name;
  info = r.info;
  changed = refl;
  len = r.len;
  hash = r.hash;
  blocks =
      r.blocks;
}

seen_as : (copies : ℕ) (e : IndexEntry) (f : Entry) → IsReadBy copies e f → IsSeenAs e f
seen_as copies e f r = record {
  headed = ap (λ (n : List ℕ). (n, e.info, e.len, e.changed)) (sym r.name)
      ∙ ap (λ (i : Option FileInfo). (f.name, i, e.len, e.changed)) (sym r.info)
      ∙ ap (λ (l : ℕ). (f.name, f.info, l, e.changed)) (sym r.len)
      ∙ ap (λ (c : ℕ). (f.name, f.info, f.len, c)) (sym r.changed);
  value = r.value;
}

pub standing_of : (store : Store) (set : List Bool) → IsStore store
    → AreTaken (area_blocks store.shape.allowed) store.index.entries set
    → AreStandingEntries store.shape.kind set store.index.entries store.entries.items
standing_of store set is taken = record {
  rules = subst (λ (k : StoreKind). AllByRecursion (IsEntry 2 k) store.index.entries)
      (kind_is store.shape.kind store.shape.allowed store.index is.index.fits)
      (each_map (IsEntry store.index.format store.index.kind) (IsEntry 2 store.index.kind) store.index.entries
      (λ e r. in_format store.index.format store.index.kind e r) is.index.rules.each);
  ascend = is.index.rules.names_ascend;
  laid = laid_of store.index.entries is.index.rules.blocks_apart;
  taken = taken_all (area_blocks store.shape.allowed) store.index.entries set taken;
  read = zip_map (IsReadBy store.shape.place.copies) IsSeenAs store.index.entries store.entries.items
      (λ e f r. seen_as store.shape.place.copies e f r) is.entries;
}

-- ---- the index of a plan

sizes : (kind : StoreKind) (standing : List IndexEntry) (views : List Entry) (jobs : List Job) (es : List IndexEntry)
    (fs : List Entry)
    → AllZip (Pair kind standing views jobs) es fs → size_of es ≡ conditions.size_of fs
sizes kind standing views jobs [] [] zip = refl
sizes kind standing views jobs [] (f ∷ fs) zip = absurd zip
sizes kind standing views jobs (e ∷ es) [] zip = absurd zip
sizes kind standing views jobs (e ∷ es) (f ∷ fs) zip =
    let one : length e.name + e.len ≡ length f.name + f.len = same zip.0 in
    let rest = sizes kind standing views jobs es fs zip.1 in
    let l = sum_by-cons (λ (x : IndexEntry). length x.name + x.len) e es in
    let r = sum_by-cons (λ (x : Entry). length x.name + x.len) f fs in
    omega (arith, one, rest, l, r)
  where
    by : IsHeaded e f → length e.name + e.len ≡ length f.name + f.len
    by headed = ap (λ (h : List ℕ × Option FileInfo × ℕ × ℕ). length h.0 + h.2) headed

    same : Pair kind standing views jobs e f → length e.name + e.len ≡ length f.name + f.len
    same (inl w) = by w.headed
    same (inr c) = by c.headed

module _ (shape : Shape) (index : Index) (v : View) (changes : List Change) (start now : List Bool)
    (es : List IndexEntry) (jobs : List Job)
    (are : AreCommittable shape v changes) (long : length start ≡ area_blocks shape.allowed)
    (p : IsPlanned shape.kind index.entries v.entries start now es (after_changes (v.generation + 1) v.entries changes)
    jobs) where
  pub next_rules : IsIndex (index_with shape.kind es)
  next_rules = record {
    known_format = refl;
    few = (let a = zip_length (Pair shape.kind index.entries v.entries jobs) es
        (after_changes (v.generation + 1) v.entries changes) p.entries in let b = are.few in omega (arith, a, b));
    each = each_map (IsSoundEntry shape.kind index.entries now) (IsEntry 2 shape.kind) es (λ e s. s.rules) p.sound;
    names_ascend = p.ascend;
    blocks_apart = laid_distinct es p.laid;
  }

  next_fits : fits shape.kind shape.allowed (index_with shape.kind es) ≡ true
  next_fits =
      let size = sizes shape.kind index.entries v.entries jobs es (after_changes (v.generation + 1) v.entries changes)
      p.entries in
      let small = are.small in
      and_from (eqb (store_kind_code shape.kind) (store_kind_code shape.kind) && nat_le (size_of es) shape.allowed)
      (list_all (λ b. nat_lt b (area_blocks shape.allowed)) (blocks_of es))
      (and_from (eqb (store_kind_code shape.kind) (store_kind_code shape.kind)) (nat_le (size_of es) shape.allowed)
      (eq-eqb (store_kind_code shape.kind) (store_kind_code shape.kind) refl)
      (le-leb (size_of es) shape.allowed (omega (arith, size, small))))
      (blocks_below now (area_blocks shape.allowed) es (p.capacity ∙ long)
      (each_map (IsSoundEntry shape.kind index.entries now) (λ (e : IndexEntry). HasAll now e.blocks) es
      (λ e s. s.taken) p.sound))

  pub next_text : (next : Index) (text : List ℕ) → next ≡ index_with shape.kind es → text ≡ index_text next
      → index_of text ≡ Some next → IsTextOf shape (index_text next) next
  next_text next text is spelled reads =
      let fit : fits shape.kind shape.allowed next ≡ true =
      subst (λ (i : Index). fits shape.kind shape.allowed i ≡ true) (sym is) next_fits in
      record {
        spelled = refl;
        rules = subst IsIndex (sym is) next_rules;
        fits = fit;
        fit = fit_of shape (index_text next) next (subst (λ (t : List ℕ). index_of t ≡ Some next) spelled reads) fit;
      }

  cost_is : commit_cost shape.kind v.entries changes ≡ sum_by (change_cost shape.kind v.entries) changes
  unfolding commit_cost
  cost_is = refl

  pub next_plan : (next : Index) (text : List ℕ) → next ≡ index_with shape.kind es → text ≡ index_text next
      → index_of text ≡ Some next
      → jobs_cost jobs ≤ sum_by (change_cost shape.kind v.entries) changes
      → IsCommitPlan shape index v changes start now next jobs
  next_plan next text is spelled reads cost = record {
    entries = subst (λ (i : Index). AllZip (Pair shape.kind index.entries v.entries jobs) i.entries
        (after_changes (v.generation + 1) v.entries changes)) (sym is) p.entries;
    placed = p.placed;
    text = next_text next text is spelled reads;
    shares = p.shares;
    cost = subst (λ (n : ℕ). jobs_cost jobs ≤ n) (sym cost_is) cost;
  }

-- ---- what is planned for a storage

module _ (store : Store) (changes : List Change) (i : List IndexEntry) (vs : List Entry) (g : ℕ) (set : List Bool)
    (is_i : i ≡ store.index.entries) (is_vs : vs ≡ store.entries.items) (is_g : g ≡ generation_of store.cell)
    (is_set : set ≡ store.used)
    (is : IsStore store) (are : AreCommittable store.shape (view_in store) changes) where
  taken_here : AreTaken (area_blocks store.shape.allowed) store.index.entries set
  taken_here = subst (λ (s : List Bool). AreTaken (area_blocks store.shape.allowed) store.index.entries s) (sym is_set)
      is.taken

  pub store_stands : AreStandingEntries store.shape.kind set i vs
  store_stands = subst (λ (es : List IndexEntry). AreStandingEntries store.shape.kind set es vs) (sym is_i)
      (subst (λ (fs : List Entry). AreStandingEntries store.shape.kind set store.index.entries fs) (sym is_vs)
      (standing_of store set is taken_here))

  pub store_may : AllByRecursion (IsChange store.shape.kind vs) changes
  store_may = subst (λ (fs : List Entry). AllByRecursion (IsChange store.shape.kind fs) changes) (sym is_vs) are.each

  pub store_room : blocks_of_changes changes ≤ free_of set
  store_room =
      let a = changes_fit store.shape (view_in store) changes are in
      let b = taken_room store.shape.kind store.shape.allowed store.index set taken_here is.index.rules is.index.fits in
      omega (arith, a, b)

  module _ (now : List Bool) (es : List IndexEntry) (jobs : List Job)
      (planned : IsPlanned store.shape.kind i vs set now es (after_changes (g + 1) vs changes) jobs) where
    planned_here : IsPlanned store.shape.kind store.index.entries (view_in store).entries set now es
        (after_changes ((view_in store).generation + 1) (view_in store).entries changes) jobs
    planned_here =
        subst (λ (n : ℕ). IsPlanned store.shape.kind store.index.entries store.entries.items set now es
        (after_changes (n + 1) store.entries.items changes) jobs) is_g
        (subst (λ (fs : List Entry). IsPlanned store.shape.kind store.index.entries fs set now es
        (after_changes (g + 1) fs changes) jobs) is_vs
        (subst (λ (xs : List IndexEntry). IsPlanned store.shape.kind xs vs set now es (after_changes (g + 1) vs changes)
        jobs) is_i planned))

    pub store_rules : IsIndex (index_with store.shape.kind es)
    store_rules = next_rules store.shape store.index (view_in store) changes set now es jobs are taken_here.capacity
        planned_here

    module _ (next : Index) (text : List ℕ) (next_is : next ≡ index_with store.shape.kind es)
        (spelled : text ≡ index_text next) (reads : index_of text ≡ Some next) where
      store_text : IsTextOf store.shape (index_text next) next
      store_text = next_text store.shape store.index (view_in store) changes set now es jobs are taken_here.capacity
          planned_here next text next_is spelled reads

      pub store_short : length text ≤ max_body
      store_short =
          let short = text_is_short store.shape.kind store.shape.allowed next store_text.rules store_text.fits
          is.shape.small in
          let a = ap length spelled in
          omega (arith, short, a)

      pub store_prepared : IsTraced i set now changes es → jobs_cost jobs
          ≤ sum_by (change_cost store.shape.kind vs) changes → IsPrepared store changes next text now jobs
      store_prepared traced cost = record {
        plan = subst (λ (s : List Bool). IsCommitPlan store.shape store.index (view_in store) changes s now next jobs)
            is_set
            (next_plan store.shape store.index (view_in store) changes set now es jobs are taken_here.capacity
            planned_here next text next_is spelled reads
            (subst (λ (fs : List Entry). jobs_cost jobs ≤ sum_by (change_cost store.shape.kind fs) changes) is_vs
            cost));
        spelled = spelled;
        format = ap (λ (x : Index). x.format) next_is;
        traced = subst (λ (s : List Bool). IsTraced store.index.entries s now changes next.entries) is_set
            (subst (λ (x : Index). IsTraced store.index.entries set now changes x.entries) (sym next_is)
            (subst (λ (xs : List IndexEntry). IsTraced xs set now changes es) is_i traced));
        capacity = planned_here.capacity ∙ taken_here.capacity;
      }
