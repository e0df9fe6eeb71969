-- A plan, one content more.
use Rattle.std.proofs.Common.{◌≡◌, ◌≢◌, ℕ, ◌*◌, ◌<◌, ◌≤◌, List, [], ◌∷◌, ◌++◌, length, get_or, Bool, true, false}
use Rattle.std.proofs.Common.{Option, refl, sym, ap, subst, ◌∙◌, inl, inr, arith}
use Rattle.std.specs.List.{AllZip}
use Rattle.std.specs.Str.{bytes_eq}
use Rattle.std.proofs.lemmas.Bool.{cases_Bool}
use Rattle.std.proofs.lemmas.List.Elements.{All-push}
use Rattle.sha2.specs.Sha256.{sha256}
use Rattle.sha2.proofs.Facts256.{length-sha256}
use Rattle.per_base.specs.declared.elements.StoreKind.{StoreKind}
use Rattle.per_base.specs.declared.elements.FileInfo.{FileInfo}
use Rattle.per_base.specs.declared.elements.Content.{Content}
use Rattle.per_base.specs.declared.elements.Content.TheVariants.{Good}
use Rattle.per_base.specs.declared.elements.Entry.{Entry}
use Rattle.per_base.specs.declared.elements.Fresh.{Fresh}
use Rattle.per_base.specs.Contents.{blocks_for, HasLength}
use Rattle.std.specs.Prelude.{IsTrue}
use Rattle.block_files.specs.Parts.{is_changed}
use Rattle.block_files.specs.BlockSets.{contains, AreDistinct, IsAdded, SharesBlocks}
use Rattle.block_files.specs.lemmas.PartLemmas.{same_part}
use Rattle.block_files.specs.lemmas.Partly.{length-part}
use Rattle.index_text.specs.declared.entries.IndexEntry.{IndexEntry}
use Rattle.index_text.specs.Rules.{IsEntry, has_info}
use Rattle.element_state.specs.Changes.{insert_item, without_item, entry_name}
use Rattle.index_text.specs.Contents.{SuitsKind}
use Rattle.element_state.specs.States.{fresh_entry, fresh_element}
use Rattle.element_store.specs.declared.jobs.Job.{Job}
use Rattle.element_store.specs.Plans.{HasAll, KeepsTaken, AreDisjoint, ArePlacedJobs, IsWrittenEntry}
use Rattle.element_store.specs.Commits.{AreBeside, SharesWith}
use Rattle.element_store.specs.Changing.{named_by, IsSeenAs, AreStandingEntries, IsEarlierContent, IsOwn, IsSoundEntry}
use Rattle.element_store.specs.Changing.{IsPlanned}
use Rattle.element_store.proofs.InOrder.{eq_names, each_without, ascends_put, apart_without, zip_insert, zip_without}
use Rattle.element_store.proofs.InOrder.{each_insert}
use Rattle.element_store.proofs.Places.{same_default, each_at, each_both, zip_at, zip_map, in_front, at_last}
use Rattle.element_store.proofs.PlanSteps.{each_map, both_ways, added_keeps, keeps_all, placed_push, none_same}
use Rattle.element_store.proofs.Changed.{Pair, pair_names, laid_disjoint, laid_each, laid_insert, laid_without}

-- ---- what is known of the earlier content

module _ (kind : StoreKind) (now : List Bool) (standing : List IndexEntry) (views : List Entry)
    (st : AreStandingEntries kind now standing views)
    (name bytes blocks : List ℕ) (earlier : IsEarlierContent kind standing views name bytes blocks) where
  long_by : (len : ℕ) (content : Content) → HasLength content len → content ≡ Good bytes → length bytes ≡ len
  long_by len content has is = subst (λ (c : Content). HasLength c len) is has

  pub earlier_room : length bytes ≤ 256 * length blocks
  earlier_room = elim earlier.is [
    | inl none ↦ (let a = ap length none.0 in omega (arith, a))
    | inr some ↦ (
        let (was, seen, beside, named, content, there) = some in
        let s = zip_at IsSeenAs standing views beside.at was seen st.read beside.inside in
        let has : HasLength seen.content (get_or standing beside.at was).len =
        subst (λ (f : Entry). HasLength f.content (get_or standing beside.at was).len) beside.two s.value in
        let a = long_by (get_or standing beside.at was).len seen.content has content in
        let rules = each_at (IsEntry 2 kind) standing beside.at was st.rules beside.inside in
        let b = rules.blocks in
        let e = ap length there in
        let w = ap (λ (x : IndexEntry). length x.blocks) beside.one in
        omega (arith, a, b, e, w))
  ]

  pub earlier_distinct : AreDistinct blocks
  earlier_distinct = elim earlier.is [
    | inl none ↦ subst AreDistinct (sym none.1) (λ i j less lt. absurd (omega (arith, lt)))
    | inr some ↦ (
        let (was, seen, beside, named, content, there) = some in
        let d = each_at (λ (e : IndexEntry). AreDistinct e.blocks) standing beside.at was (laid_each standing st.laid)
        beside.inside in
        subst AreDistinct (sym there) (subst (λ (e : IndexEntry). AreDistinct e.blocks) beside.one d))
  ]

  pub earlier_taken : HasAll now blocks
  earlier_taken = elim earlier.is [
    | inl none ↦ subst (HasAll now) (sym none.1) (λ i lt. absurd (omega (arith, lt)))
    | inr some ↦ (
        let (was, seen, beside, named, content, there) = some in
        let d = each_at (λ (e : IndexEntry). HasAll now e.blocks) standing beside.at was st.taken beside.inside in
        subst (HasAll now) (sym there) (subst (λ (e : IndexEntry). HasAll now e.blocks) beside.one d))
  ]

-- the set keeps what it has, and so what stands
pub standing_keeps : (kind : StoreKind) (now new : List Bool) (standing : List IndexEntry) (views : List Entry)
    → KeepsTaken now new
    → AreStandingEntries kind now standing views → AreStandingEntries kind new standing views
standing_keeps kind now new standing views keeps st = record {
  rules = st.rules;
  ascend = st.ascend;
  laid = st.laid;
  taken = each_map (λ (e : IndexEntry). HasAll now e.blocks) (λ (e : IndexEntry). HasAll new e.blocks) standing
      (λ e has. keeps_all now new e.blocks keeps has) st.taken;
  read = st.read;
}

-- ---- one content more

module _ (kind : StoreKind) (standing : List IndexEntry) (views : List Entry) (start now new : List Bool)
    (es : List IndexEntry) (fs : List Entry) (jobs : List Job)
    (generation : ℕ) (f : Fresh) (e : IndexEntry) (job : Job) (old_blocks : List ℕ)
    (st : AreStandingEntries kind now standing views) (fresh : SuitsKind kind f) (made : IsWrittenEntry generation f e)
    (earlier : IsEarlierContent kind standing views f.name job.was.now old_blocks)
    (shared : SharesBlocks job.bytes.now job.was.now old_blocks now job.blocks) (distinct : AreDistinct job.blocks)
    (added : IsAdded job.blocks now new)
    (is_blocks : e.blocks ≡ job.blocks) (is_bytes : job.bytes.now ≡ f.bytes)
    (p : IsPlanned kind standing views start now es fs jobs) where
  grows : KeepsTaken now new
  grows = added_keeps job.blocks now new added

  count : length job.blocks ≡ blocks_for (length job.bytes.now)
  count = sym (ap length is_blocks) ∙ made.count ∙ ap (λ (bs : List ℕ). blocks_for (length bs)) (sym is_bytes)

  -- a part that is not changed is in an old block of the element
  abbrev IsOld : ℕ → Type 0
  IsOld i = (was : IndexEntry) × (seen : Entry) × AreBeside standing views was seen × (was.name ≡ f.name)
      × (seen.content ≡ Good job.was.now)
      × (i < length was.blocks) × (get_or job.blocks i 0 ≡ get_or was.blocks i 0)

  inside_old : (i : ℕ) → i < length job.blocks → is_changed job.bytes.now job.was.now i ≡ false → i < length old_blocks
  inside_old i lt same =
      let a = ap length (same_part job.bytes.now job.was.now i same) in
      let b = length-part job.bytes.now i in
      let c = length-part job.was.now i in
      let room = earlier_room kind now standing views st f.name job.was.now old_blocks earlier in
      omega (arith, lt, count, a, b, c, room)

  old_at : (i : ℕ) → i < length job.blocks → is_changed job.bytes.now job.was.now i ≡ false → IsOld i
  old_at i lt same = elim earlier.is [
    | inl none ↦ absurd (none_same job.bytes.now i (let c = count in omega (arith, lt, c))
        (subst (λ (bs : List ℕ). is_changed job.bytes.now bs i ≡ false) none.0 same))
    | inr some ↦ (
        let (was, seen, beside, named, content, there) = some in
        let within = inside_old i lt same in
        let l = ap length there in (
          was,
          seen,
          beside,
          named,
          content,
          omega (arith, within, l),
          shared.equal i lt same ∙ ap (λ (bs : List ℕ). get_or bs i 0) there,
        ))
  ]

  -- the blocks of what stands were in the set, and one that is chosen was not
  chosen_apart : (b i : ℕ) → contains now b ≡ true → i < length job.blocks → is_changed job.bytes.now job.was.now i ≡
      true
      → b ≡ get_or job.blocks i 0 → ⊥
  chosen_apart b i taken lt is same = both_ways (contains now (get_or job.blocks i 0))
      (sym (ap (contains now) same) ∙ taken)
      (shared.fresh i lt is).1

  -- an entry of another name that has blocks of its own shares none with the new one
  apart_from : (h : IndexEntry) → HasAll now h.blocks → IsOwn standing h → h.name ≢ f.name
      → AreDisjoint h.blocks job.blocks
  apart_from h taken own differ i j lt less same = elim (cases_Bool (is_changed job.bytes.now job.was.now j)) [
    | inl t ↦ chosen_apart (get_or h.blocks i 0) j (taken i lt) less t same
    | inr n ↦ (
        let (was, seen, beside, named, content, within, there) = old_at j less n in
        let apart : (get_or standing beside.at was).name ≢ h.name
        → AreDisjoint (get_or standing beside.at was).blocks h.blocks = own beside.at was beside.inside in
        let apart_was : AreDisjoint was.blocks h.blocks = subst (λ (x : IndexEntry). AreDisjoint x.blocks h.blocks)
        beside.one
        (apart (λ e. differ (sym (sym named ∙ ap named_by (sym beside.one) ∙ e)))) in
        apart_was j i within lt (sym there ∙ sym same))
  ]

  -- the new entry shares none with a standing one of another name
  new_own : IsOwn standing e
  new_own k d lt differ i j less few same =
      let few_j : j < length job.blocks = subst (λ (bs : List ℕ). j < length bs) is_blocks few in
      let same_j : get_or (get_or standing k d).blocks i 0 ≡ get_or job.blocks j 0 =
      same ∙ ap (λ (bs : List ℕ). get_or bs j 0) is_blocks in
      let taken : HasAll now (get_or standing k d).blocks =
      each_at (λ (x : IndexEntry). HasAll now x.blocks) standing k d st.taken lt in
      elim (cases_Bool (is_changed job.bytes.now job.was.now j)) [
        | inl t ↦ chosen_apart (get_or (get_or standing k d).blocks i 0) j (taken i less) few_j t same_j
        | inr n ↦ (
            let (was, seen, beside, named, content, within, there) = old_at j few_j n in
            let other : k ≢ beside.at = λ at. differ (ap named_by
            (same_default standing k d was lt ∙ ap (λ (m : ℕ). get_or standing m was) at ∙ beside.one) ∙ named
            ∙ sym made.name) in
            let apart : AreDisjoint (get_or standing k d).blocks was.blocks =
            subst (λ (x : IndexEntry). AreDisjoint (get_or standing k d).blocks x.blocks) beside.one
            (laid_disjoint standing k beside.at d was st.laid lt beside.inside other) in
            apart i j less within (same_j ∙ there))
      ]

  new_rules : IsEntry 2 kind e
  new_rules = record {
    name = made.named;
    info = subst (λ i. IsTrue (has_info kind i)) (sym made.info) fresh.info;
    changed = refl;
    len = (let a = made.len in let b = fresh.small in omega (arith, a, b));
    hash = ap length made.hash ∙ length-sha256 f.bytes;
    blocks = made.count ∙ ap blocks_for (sym made.len);
  }

  new_pair : Pair kind standing views (jobs ++ job ∷ []) e (fresh_entry generation (fresh_element f))
  new_pair = inl (record {
    job = job;
    among = at_last jobs job;
    blocks = is_blocks;
    hash = made.hash ∙ ap sha256 (sym is_bytes);
    len = made.len ∙ ap length (sym is_bytes);
    headed = ap (λ (n : List ℕ). (n, e.info, e.len, e.changed)) made.name
        ∙ ap (λ (i : Option FileInfo). (f.name, i, e.len, e.changed)) made.info
        ∙ ap (λ (l : ℕ). (f.name, f.info, l, e.changed)) made.len
        ∙ ap (λ (c : ℕ). (f.name, f.info, length f.bytes, c)) made.changed;
    content = ap Good (sym is_bytes);
    lacking = refl;
  })

  pair_more : (x : IndexEntry) (y : Entry) → Pair kind standing views jobs x y
      → Pair kind standing views (jobs ++ job ∷ []) x y
  pair_more x y (inl w) = inl (record {
    job = w.job;
    among = in_front jobs job w.job w.among;
    blocks = w.blocks;
    hash = w.hash;
    len = w.len;
    headed = w.headed;
    content = w.content;
    lacking = w.lacking;
  })
  pair_more x y (inr c) = inr c

  sound_more : (x : IndexEntry) → IsSoundEntry kind standing now x → IsSoundEntry kind standing new x
  sound_more x s = record { rules = s.rules; taken = keeps_all now new x.blocks grows s.taken; own = s.own }

  pub planned_put : IsPlanned kind standing views start new (insert_item named_by e (without_item named_by e.name es))
      (insert_item entry_name (fresh_entry generation (fresh_element f)) (without_item entry_name f.name fs))
      (jobs ++ job ∷ [])
  planned_put = record {
    entries = zip_insert named_by entry_name (Pair kind standing views (jobs ++ job ∷ []))
        (pair_names kind standing views (jobs ++ job ∷ []))
        e (fresh_entry generation (fresh_element f)) (without_item named_by e.name es)
        (without_item entry_name f.name fs) new_pair
        (subst (λ (n : List ℕ). AllZip (Pair kind standing views (jobs ++ job ∷ [])) (without_item named_by n es)
        (without_item entry_name f.name fs)) (sym made.name)
        (zip_without named_by entry_name (Pair kind standing views (jobs ++ job ∷ []))
        (pair_names kind standing views (jobs ++ job ∷ [])) f.name es fs
        (zip_map (Pair kind standing views jobs) (Pair kind standing views (jobs ++ job ∷ [])) es fs pair_more
        p.entries)));
    sound = each_insert named_by (IsSoundEntry kind standing new) e (without_item named_by e.name es)
        (record { rules = new_rules; taken = subst (HasAll new) (sym is_blocks) added.added; own = new_own })
        (each_without named_by (IsSoundEntry kind standing new) e.name es
        (each_map (IsSoundEntry kind standing now) (IsSoundEntry kind standing new) es sound_more p.sound));
    ascend = ascends_put named_by e es p.ascend;
    laid = laid_insert e (without_item named_by e.name es) (subst AreDistinct (sym is_blocks) distinct)
        (each_both (IsSoundEntry kind standing now) (λ (h : IndexEntry). bytes_eq h.name e.name ≡ false)
        (λ (h : IndexEntry). AreDisjoint h.blocks e.blocks) (without_item named_by e.name es)
        (λ h s other. subst (λ (bs : List ℕ). AreDisjoint h.blocks bs) (sym is_blocks)
        (apart_from h s.taken s.own (λ same. not_both (bytes_eq h.name e.name)
        (eq_names h.name e.name (same ∙ sym made.name)) other)))
        (each_without named_by (IsSoundEntry kind standing now) e.name es p.sound) (apart_without named_by e.name es))
        (laid_without e.name es p.laid);
    taken = p.taken;
    placed = placed_more;
    shares = All-push (SharesWith standing views) jobs job p.shares shares_new;
    keeps = λ b is. grows b (p.keeps b is);
    capacity = added.capacity ∙ p.capacity;
  }
    where
      not_both : (b : Bool) → b ≡ true → b ≡ false → ⊥
      not_both b is isnt = cc

      placed_more : ArePlacedJobs start new (jobs ++ job ∷ [])
      placed_more = placed_push start now new jobs job p.keeps added
          (record { room = (let c = count in omega (arith, c)); distinct = distinct })
          (λ i lt is. (shared.fresh i lt is).1)
          (λ i lt same.
          let (was, seen, beside, named, content, within, there) = old_at i lt same in
          let taken : HasAll start was.blocks = subst (λ (x : IndexEntry). HasAll start x.blocks) beside.one
          (each_at (λ (x : IndexEntry). HasAll start x.blocks) standing beside.at was p.taken beside.inside) in
          ap (contains start) there ∙ taken i within)
          p.placed

      shares_new : SharesWith standing views job
      shares_new = elim earlier.is [
        | inl none ↦ inl none.0
        | inr some ↦ (
            let (was, seen, beside, named, content, there) = some in
            inr (record {
              was = was;
              seen = seen;
              beside = beside;
              content = content;
              shared = λ i lt same. (
                (let within = inside_old i lt same in let l =
                    ap length there in omega (arith, within, l)),
                shared.equal i lt same ∙ ap (λ (bs : List ℕ). get_or bs i 0) there,
              );
            }))
      ]
