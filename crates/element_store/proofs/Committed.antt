-- A storage after a commit: the contents that the jobs wrote, and those that stay where the standing index has them.
use Rattle.std.proofs.Common.{◌≡◌, ◌⊎◌, ℕ, zero, suc, ◌+◌, ◌*◌, ◌<◌, ◌≤◌, List, [], ◌∷◌, length, get_or, Bool, true}
use Rattle.std.proofs.Common.{false, cond, Option, Some, None, refl, sym, ap, ◌∙◌, subst, arith, ⊎_elim, inl, inr}
use Rattle.std.specs.Prelude.{map, is_some, flat_map}
use Rattle.std.specs.List.{All, AllByRecursion, AllZip, Contains, list_all}
use Rattle.std.specs.Str.{bytes_eq}
use Rattle.std.proofs.lemmas.Bool.{leb-true, and_from}
use Rattle.std.proofs.lemmas.List.{length-take-le}
use Rattle.sha2.specs.Sha256.{sha256}
use Rattle.per_base.specs.declared.elements.Scope.{Scope}
use Rattle.per_base.specs.declared.elements.Scope.TheVariants as scope
use Rattle.per_base.specs.declared.elements.Content.{Content}
use Rattle.per_base.specs.declared.elements.Content.TheVariants.{Good}
use Rattle.per_base.specs.declared.elements.Entry.{Entry}
use Rattle.disk_model.specs.declared.place.Place.{Place}
use Rattle.disk_model.specs.Image.{Image}
use Rattle.disk_model.specs.Frame.{Spares, Keeps}
use Rattle.disk_model.specs.Place.{area, IsNoSlot, IsNoArea}
use Rattle.disk_model.specs.lemmas.Places.{area_no_slot}
use Rattle.m_of_n.specs.Vote.{voted}
use Rattle.guarded_cell.specs.Register.{IsAlone}
use Rattle.guarded_cell.specs.Held.{copies_that}
use Rattle.guarded_cell.specs.lemmas.CopyLaws.{enough_pass, passing_enough}
use Rattle.guarded_cell.specs.lemmas.StopLaws.{at_least_map}
use Rattle.block_files.specs.Parts.{is_changed}
use Rattle.block_files.specs.BlockSets.{contains}
use Rattle.block_files.specs.Areas.{block, joined, has_all_bytes, IsFull, AllFull, HoldsPart, HoldsShared}
use Rattle.block_files.specs.Aside.{Where}
use Rattle.block_files.specs.Contents.{counting, contents, first_content, lacks, lacking}
use Rattle.block_files.specs.lemmas.AsideLaws.{joined_kept, within_grown, counting_same}
use Rattle.block_files.specs.lemmas.Everywhere.{shared_none}
use Rattle.block_files.specs.lemmas.Joined.{holds_from, length-blocks}
use Rattle.block_files.specs.lemmas.PartLemmas.{same_part}
use Rattle.block_files.specs.lemmas.Partly.{read_part}
use Rattle.block_files.specs.lemmas.Sharing.{same_inside}
use Rattle.index_text.specs.declared.entries.Index.{Index}
use Rattle.index_text.specs.declared.entries.IndexEntry.{IndexEntry}
use Rattle.index_text.specs.Rules.{IsIndex}
use Rattle.index_text.specs.Spelling.{index_text}
use Rattle.element_state.specs.declared.shapes.Shape.{Shape}
use Rattle.element_state.specs.declared.shapes.View.{View}
use Rattle.element_state.specs.Fit.{FitText, fit_index, fit_texts}
use Rattle.element_state.specs.Views.{entry_view, given, content_of, counts, holds_text, holds_all, supporters}
use Rattle.element_state.specs.Views.{qualifies}
use Rattle.element_state.specs.States.{Opens, whole_view}
use Rattle.element_state.specs.Clean.{where_of, counting_at, IsClean}
use Rattle.element_state.specs.Conditions.{IsShape, IsMended, IsInUse, IsGoodEntry}
use Rattle.element_state.specs.Kept.{IsHeaded}
use Rattle.element_laws.specs.Phases.{AreAgreed}
use Rattle.element_laws.specs.lemmas.Lists.{In, Contains-In, map-In, all_in, all_by, zip_with, zip_find, some_is}
use Rattle.element_laws.specs.lemmas.Lists.{not_none}
use Rattle.element_laws.specs.lemmas.Lists.{both_true, In-list_all, list_all-In}
use Rattle.element_laws.specs.lemmas.Phases.{opens_pick, room}
use Rattle.element_laws.specs.lemmas.Fits.{picked_parts}
use Rattle.element_laws.specs.lemmas.IndexLaws.{names_it}
use Rattle.element_laws.specs.lemmas.RebuildingLaws.{clean_alone}
use Rattle.element_store.specs.declared.jobs.Job.{Job}
use Rattle.element_store.specs.Jobs.{HasShared, IsJobWritten}
use Rattle.element_store.specs.Plans.{HasAll}
use Rattle.element_store.specs.Commits.{AreBeside, IsCarriedOver, IsWrittenBy, IsBesideOld, SharesOld}
use Rattle.element_store.proofs.Alone.{alone_text, texts_alone, opens_alone, supports_element, all_hold}
use Rattle.element_store.proofs.Fulls.{view_same, view_areas, view_full}
use Rattle.element_store.proofs.Shown.{view_gives}

-- ---- contents in blocks that whole writes leave alone

content_good : (image : Image) (place : Place) (m : ℕ) (e : IndexEntry) (value : List ℕ)
    → Some value ≡ voted m (given image place e)
    → (entry_view image place m e).content ≡ Good value
unfolding entry_view
content_good image place m e value is = ap (λ (o : Option (List ℕ)). content_of o (first_content (given image place e)))
    (sym is)

-- what a copy gives, where it has all of it, is what its blocks hold
joined_of : (file blocks : List ℕ) (len : ℕ) (hash bytes : List ℕ) → counting file blocks len hash ≡ Some bytes
    → joined file blocks len ≡ bytes
unfolding counting
joined_of file blocks len hash bytes counts = elim (bytes_eq (sha256 (joined file blocks len)) hash) as
    (λ b. cond b (Some (joined file blocks len)) None ≡ Some bytes → joined file blocks len ≡ bytes) [
      | true ↦ λ e. some_is (joined file blocks len) bytes e
      | false ↦ λ e. absurd (not_none bytes (sym e))
    ] counts

counted_full : (file blocks : List ℕ) (len : ℕ) (hash bytes : List ℕ) → len ≤ 256 * length blocks
    → counting file blocks len hash ≡ Some bytes
    → has_all_bytes file blocks len ≡ true → IsFull file blocks bytes
counted_full file blocks len hash bytes enough counts inside =
    let e = joined_of file blocks len hash bytes counts in
    let long : length bytes ≡ len = ap length (sym e) ∙ length-take-le len (flat_map (block file) blocks)
    (omega (arith, length-blocks file blocks, enough)) in
    record { bytes_are = ap (joined file blocks) long ∙ e; inside = ap (has_all_bytes file blocks) long ∙ inside }

-- the blocks of the set read as before
module _ (place : Place) (set : List Bool) (old mid : Image)
    (keeps : Keeps (IsNoArea place) (λ k. contains set k ≡ true) old mid) where
  counting_stays : (f : ℕ) (blocks : List ℕ) (len : ℕ) (hash : List ℕ) → HasAll set blocks
      → counting (mid f) blocks len hash ≡ counting (old f) blocks len hash
  counting_stays f blocks len hash has = counting_same (old f) (mid f) blocks len hash
      (joined_kept (old f) (mid f) blocks len (λ m j lt small. keeps.bytes f (get_or blocks m 0) j small (has m lt)))

  module _ (m : ℕ) (e : IndexEntry) (has : HasAll set e.blocks)
      (mended : IsMended (entry_view old place m e).content (entry_view old place m e).lacking) where
    lacks_alike : (v : Option (List ℕ)) (c : ℕ) → c < place.copies → v ≡ voted m (given old place e)
        → lacks v (counting (old (area place c)) e.blocks e.len e.hash)
        (has_all_bytes (mid (area place c)) e.blocks e.len)
        ≡ lacks v (counting (old (area place c)) e.blocks e.len e.hash)
        (has_all_bytes (old (area place c)) e.blocks e.len)
    lacks_alike None c lt is = refl
    lacks_alike (Some value) c lt is =
        let good = content_good old place m e value is in
        let none : (entry_view old place m e).lacking ≡ [] =
        subst (λ (x : Content). IsMended x (entry_view old place m e).lacking) good mended in
        let was = (view_gives old place m e value good none c lt).1 in
        let now = within_grown (old (area place c)) (mid (area place c)) e.blocks e.len
        (keeps.no_shorter (area place c)) was in
        ap (lacks (Some value) (counting (old (area place c)) e.blocks e.len e.hash)) (now ∙ sym was)

    view_stays : entry_view mid place m e ≡ entry_view old place m e
    view_stays = view_same old mid place m e (λ c lt. counting_stays (area place c) e.blocks e.len e.hash has)
        lacks_alike

-- ---- an entry beside an element

content_at : Image → Place → ℕ → Where → Content
content_at image place m at = content_of (voted m (contents place at.blocks at.len at.hash image))
    (first_content (contents place at.blocks at.len at.hash image))

lacking_at : Image → Place → ℕ → Where → List ℕ
lacking_at image place m at = lacking (voted m (contents place at.blocks at.len at.hash image))
    place at.blocks at.len at.hash image

-- what is seen of an entry goes by where its content is
seen_alike : (image : Image) (place : Place) (m : ℕ) (a b : IndexEntry) → where_of a ≡ where_of b
    → ((entry_view image place m a).content ≡ (entry_view image place m b).content)
    × ((entry_view image place m a).lacking ≡ (entry_view image place m b).lacking)
unfolding entry_view content_at lacking_at
seen_alike image place m a b same = (ap (content_at image place m) same, ap (lacking_at image place m) same)

view_is : (image : Image) (place : Place) (m : ℕ) (e : IndexEntry) (f : Entry) → IsHeaded e f
    → (entry_view image place m e).content ≡ f.content → (entry_view image place m e).lacking ≡ f.lacking
    → entry_view image place m e ≡ f
unfolding entry_view
view_is image place m e f headed content lack = λ j. record {
  name = (headed j).0;
  info = (headed j).1;
  changed = (headed j).3;
  len = (headed j).2;
  content = content j;
  lacking = lack j;
}

-- an entry of a content that is in its blocks in every copy
pub record IsPut (shape : Shape) (image : Image) (e : IndexEntry) (f : Entry) : Type 0 where
  pub bytes : List ℕ
  pub full : AllFull shape.place e.blocks bytes image
  pub hash : e.hash ≡ sha256 bytes
  pub len : e.len ≡ length bytes
  pub headed : IsHeaded e f
  pub content : f.content ≡ Good bytes
  pub lacking : f.lacking ≡ []

-- an entry whose content is seen as one of the earlier index is
pub record IsStill (shape : Shape) (image : Image) (index : Index) (e : IndexEntry) (f : Entry) : Type 0 where
  pub was : IndexEntry
  pub there : Contains index.entries was
  pub place : where_of e ≡ where_of was
  pub headed : IsHeaded e f
  pub content : f.content ≡ (entry_view image shape.place shape.m was).content
  pub lacking : f.lacking ≡ (entry_view image shape.place shape.m was).lacking

abbrev pub IsPutOrStill : Shape → (start now : Image) → Index → IndexEntry → Entry → Type 0
IsPutOrStill shape start now index e f = IsPut shape now e f ⊎ IsStill shape start index e f

-- ---- what a plan says of them

mapped_at : {X Y : Type 0} (f : X → Y) (xs : List X) (k : ℕ) (x : X) (y : Y) → k < length xs → get_or xs k x ≡ x
    → get_or (map f xs) k y ≡ y → y ≡ f x
mapped_at f [] k x y lt one two = absurd (omega (arith, lt))
mapped_at f (z ∷ xs) zero x y lt one two = sym two ∙ ap f one
mapped_at f (z ∷ xs) (suc k) x y lt one two = mapped_at f xs k x y (omega (arith, lt)) one two

module _ (shape : Shape) (old : Image) (index : Index) (v : View) (used : IsInUse shape old index v) where
  abbrev seen_of : IndexEntry → Entry
  seen_of e = entry_view old shape.place shape.m e

  seen_is : (was : IndexEntry) (seen : Entry) → AreBeside index.entries v.entries was seen → seen ≡ seen_of was
  seen_is was seen beside = mapped_at seen_of index.entries beside.at was seen beside.inside beside.one
      (subst (λ (es : List Entry). get_or es beside.at seen ≡ seen) used.entries beside.two)

  there_is : (was : IndexEntry) (seen : Entry) → AreBeside index.entries v.entries was seen → Contains index.entries was
  there_is was seen beside = (beside.at, beside.inside, beside.one)

  -- an element of a storage in use that is good lacks nothing
  pub mended_of : (was : IndexEntry) → Contains index.entries was → IsMended (seen_of was).content (seen_of was).lacking
  mended_of was there = all_in (λ (f : Entry). IsMended f.content f.lacking) (map seen_of index.entries)
      (subst (λ (es : List Entry). AllByRecursion (λ (f : Entry). IsMended f.content f.lacking) es) used.entries
      used.mended)
      (seen_of was) (map-In seen_of was index.entries (Contains-In was index.entries there))

  lacking_still : (was : IndexEntry) (seen f : Entry) → Contains index.entries was → seen ≡ seen_of was
      → (f.lacking ≡ seen.lacking) ⊎ ((f.lacking ≡ []) × IsGoodEntry (Some seen)) → f.lacking ≡ (seen_of was).lacking
  lacking_still was seen f there is (inl same) = same ∙ ap (λ (x : Entry). x.lacking) is
  lacking_still was seen f there is (inr both) =
      let (value, good) = both.1 in
      let there_good : (seen_of was).content ≡ Good value = ap (λ (x : Entry). x.content) (sym is) ∙ good in
      both.0 ∙ sym (subst (λ (x : Content). IsMended x (seen_of was).lacking) there_good (mended_of was there))

  still_of : (e : IndexEntry) (f : Entry) → IsCarriedOver index v e f → IsStill shape old index e f
  still_of e f carried =
      let is = seen_is carried.was carried.seen carried.beside in
      let there = there_is carried.was carried.seen carried.beside in
      record {
        was = carried.was;
        there = there;
        place = carried.place;
        headed = carried.headed;
        content = carried.content ∙ ap (λ (x : Entry). x.content) is;
        lacking = lacking_still carried.was carried.seen f there is carried.lacking;
      }

  put_of : (mid : Image) (jobs : List Job) → All (IsJobWritten mid shape.place) jobs
      → (e : IndexEntry) (f : Entry) → IsWrittenBy jobs e f → IsPut shape mid e f
  put_of mid jobs done e f written =
      let (k, lt, is) = written.among in
      let done_it : IsJobWritten mid shape.place written.job =
      subst (λ (job : Job). IsJobWritten mid shape.place job) is (done k written.job lt) in
      record {
        bytes = written.job.bytes.now;
        full = subst (λ (bs : List ℕ). AllFull shape.place bs written.job.bytes.now mid)
            (sym written.blocks) done_it;
        hash = written.hash;
        len = written.len;
        headed = written.headed;
        content = written.content;
        lacking = written.lacking;
      }

  pub entries_of_plan : (mid : Image) (jobs : List Job) → All (IsJobWritten mid shape.place) jobs
      → (es : List IndexEntry) (fs : List Entry)
      → AllZip (λ e f. IsWrittenBy jobs e f ⊎ IsCarriedOver index v e f) es fs
      → AllZip (IsPutOrStill shape old mid index) es fs
  entries_of_plan mid jobs done es fs zip = zip_with (λ e f. IsWrittenBy jobs e f ⊎ IsCarriedOver index v e f)
      (IsPutOrStill shape old mid index) es fs
      (λ e f i j w. ⊎_elim (λ written. inl (put_of mid jobs done e f written)) (λ carried. inr (still_of e f carried))
      w) zip

  -- ---- what is shared is there

  module _ (rules : IsIndex index) where
    -- a good element has all of its bytes in each copy
    old_full : (was : IndexEntry) (value : List ℕ) → Contains index.entries was → (seen_of was).content ≡ Good value
        → (c : ℕ) → c < shape.place.copies
        → IsFull (old (area shape.place c)) was.blocks value
    old_full was value there good c lt =
        let none : (seen_of was).lacking ≡ [] = subst (λ (x : Content). IsMended x (seen_of was).lacking) good
        (mended_of was there) in
        let gives = view_gives old shape.place shape.m was value good none c lt in
        counted_full (old (area shape.place c)) was.blocks was.len was.hash value
        (room index rules was (Contains-In was index.entries there)) gives.0 gives.1

    shared_byte : (job : Job) (b : IsBesideOld index v job) (c : ℕ) → c < shape.place.copies → (i : ℕ)
        → i < length job.blocks
        → is_changed job.bytes.now job.was.now i ≡ false → HoldsPart (old (area shape.place c)) job.blocks
        job.bytes.now i
    shared_byte job b c few i lt alike j small inside =
        let there = there_is b.was b.seen b.beside in
        let good : (seen_of b.was).content ≡ Good job.was.now =
        ap (λ (x : Entry). x.content) (sym (seen_is b.was b.seen b.beside)) ∙ b.content in
        let full = old_full b.was job.was.now there good c few in
        let within_was = same_inside job.bytes.now job.was.now i j alike small inside in
        let at = b.shared i lt alike in
        let held = holds_from (old (area shape.place c)) b.was.blocks job.was.now full i at.0 j small within_was
        in
        let here = ap (λ (k : ℕ). get_or (old (area shape.place c)) (256 * k + j) 0) at.1 in
        let e = at.1 in
        let part = sym (read_part job.was.now i j small) ∙ ap (λ (xs : List ℕ). get_or xs j 0)
        (sym (same_part job.bytes.now job.was.now i alike)) ∙ read_part job.bytes.now i j small in
        (omega (arith, held.0, e), here ∙ held.1 ∙ part)

    -- so each copy has what a job shares with it
    shared_one : (job : Job) → SharesOld index v job → HasShared old shape.place job
    shared_one job (inl whole) = λ c few.
        subst (λ (was : List ℕ). HoldsShared (old (area shape.place c)) job.blocks job.bytes.now was) (sym whole)
        (shared_none (old (area shape.place c)) job.blocks job.bytes.now)
    shared_one job (inr b) = λ c few i lt alike j small inside. shared_byte job b c few i lt alike j small inside

    pub plan_shares : (jobs : List Job) → All (SharesOld index v) jobs
        → All (HasShared old shape.place) jobs
    plan_shares jobs shares k d lt = shared_one (get_or jobs k d) (shares k d lt)

-- ---- after the commit

module _ (shape : Shape) (old mid new : Image) (set : List Bool) (index : Index) (v : View) (is : IsShape shape)
    (used : IsInUse shape old index v)
    (takes : AllByRecursion (λ (e : IndexEntry). HasAll set e.blocks) index.entries)
    (keeps : Keeps (IsNoArea shape.place) (λ k. contains set k ≡ true) old mid)
    (same : Spares (IsNoSlot shape.place) mid new) where
  abbrev old_of : IndexEntry → Entry
  old_of e = entry_view old shape.place shape.m e

  abbrev new_of : IndexEntry → Entry
  new_of e = entry_view new shape.place shape.m e

  areas : (c : ℕ) → c < shape.place.copies → new (area shape.place c) ≡ mid (area shape.place c)
  areas c lt = same (area shape.place c) (area_no_slot shape.place c)

  some : 1 ≤ shape.place.copies
  some = (let a = is.some in let b = is.enough in omega (arith, a, b))

  put_seen : (e : IndexEntry) (f : Entry) → IsPut shape mid e f → new_of e ≡ f
  put_seen e f put =
      let seen = view_areas mid new shape.place shape.m e areas
      ∙ view_full mid shape.place shape.m e put.bytes is.some is.enough put.full put.hash put.len in
      view_is new shape.place shape.m e f put.headed (ap (λ (x : Entry). x.content) seen ∙ sym put.content)
      (ap (λ (x : Entry). x.lacking) seen ∙ sym put.lacking)

  put_gives : (e : IndexEntry) (f : Entry) (put : IsPut shape mid e f) (c : ℕ) → c < shape.place.copies
      → counting_at new shape.place c (where_of e) ≡ Some put.bytes
  put_gives e f put c lt =
      let seen = put_seen e f put in
      (view_gives new shape.place shape.m e put.bytes (ap (λ (x : Entry). x.content) seen ∙ put.content)
      (ap (λ (x : Entry). x.lacking) seen ∙ put.lacking) c lt).0

  blocks_in : (e : IndexEntry) (f : Entry) → IsStill shape old index e f → HasAll set e.blocks
  blocks_in e f still = subst (λ (bs : List ℕ). HasAll set bs) (sym (ap (λ (at : Where). at.blocks) still.place))
      (all_in (λ (x : IndexEntry). HasAll set x.blocks) index.entries takes still.was
      (Contains-In still.was index.entries still.there))

  still_gives : (e : IndexEntry) (f : Entry) (still : IsStill shape old index e f) (c : ℕ) → c < shape.place.copies
      → counting_at new shape.place c (where_of e) ≡ counting_at old shape.place c (where_of still.was)
  still_gives e f still c lt =
      ap (λ (file : List ℕ). counting file e.blocks e.len e.hash) (areas c lt)
      ∙ counting_stays shape.place set old mid keeps (area shape.place c) e.blocks e.len
      e.hash (blocks_in e f still)
      ∙ ap (counting_at old shape.place c) still.place

  still_seen : (e : IndexEntry) (f : Entry) → IsStill shape old index e f → new_of e ≡ f
  still_seen e f still =
      let alike = seen_alike old shape.place shape.m e still.was still.place in
      let mended : IsMended (old_of e).content (old_of e).lacking =
      subst (λ (x : Content). IsMended x (old_of e).lacking) (sym alike.0)
      (subst (λ (xs : List ℕ). IsMended (old_of still.was).content xs) (sym alike.1)
      (mended_of shape old index v used still.was still.there)) in
      let seen = view_areas mid new shape.place shape.m e areas
      ∙ view_stays shape.place set old mid keeps shape.m e (blocks_in e f still)
      mended in
      view_is new shape.place shape.m e f still.headed
      (ap (λ (x : Entry). x.content) seen ∙ alike.0 ∙ sym still.content)
      (ap (λ (x : Entry). x.lacking) seen ∙ alike.1 ∙ sym still.lacking)

  entry_seen : (e : IndexEntry) (f : Entry) → IsPutOrStill shape old mid index e f → new_of e ≡ f
  entry_seen e f (inl put) = put_seen e f put
  entry_seen e f (inr still) = still_seen e f still

  shown : (es : List IndexEntry) (fs : List Entry) → AllZip (IsPutOrStill shape old mid index) es fs
      → fs ≡ map new_of es
  shown [] [] zip = refl
  shown [] (f ∷ fs) zip = absurd zip
  shown (e ∷ es) [] zip = absurd zip
  shown (e ∷ es) (f ∷ fs) zip = ap (λ (x : Entry). x ∷ fs) (sym (entry_seen e f zip.0))
      ∙ ap (λ (xs : List Entry). new_of e ∷ xs) (shown es fs zip.1)

  entry_mended : (e : IndexEntry) (f : Entry) → IsPutOrStill shape old mid index e f → IsMended f.content f.lacking
  entry_mended e f (inl put) = subst (λ (x : Content). IsMended x f.lacking) (sym put.content) put.lacking
  entry_mended e f (inr still) =
      subst (λ (x : Content). IsMended x f.lacking) (sym still.content)
      (subst (λ (xs : List ℕ). IsMended (old_of still.was).content xs) (sym still.lacking)
      (mended_of shape old index v used still.was still.there))

  all_mended : (es : List IndexEntry) (fs : List Entry) → AllZip (IsPutOrStill shape old mid index) es fs
      → AllByRecursion (λ (f : Entry). IsMended f.content f.lacking) fs
  all_mended [] [] zip = tt
  all_mended [] (f ∷ fs) zip = absurd zip
  all_mended (e ∷ es) [] zip = absurd zip
  all_mended (e ∷ es) (f ∷ fs) zip = (entry_mended e f zip.0, all_mended es fs zip.1)

  -- ---- the storage opens

  abbrev text_before : FitText
  text_before = alone_text old shape v.generation (index_text index) index some used.alone used.fit

  qualified : qualifies old shape text_before ≡ true
  qualified =
      let (r, e, x) = opens_pick shape old v [] used.opens in
      let parts = picked_parts (qualifies old shape) (fit_texts shape old) r e in
      let h : In r.0 (text_before ∷ []) = subst (λ (ts : List FitText). In r.0 ts)
      (texts_alone old shape v.generation (index_text index) index some used.alone used.fit)
      (parts.1 r.0 (inl refl)) in
      ⊎_elim (λ here. subst (λ (t : FitText). qualifies old shape t ≡ true) (sym here) parts.2) (λ none. absurd none) h

  entry_counts : (c : ℕ) → c < shape.place.copies → list_all (λ e. counts old shape.place e c) index.entries ≡ true
      → (e : IndexEntry) (f : Entry) → IsPutOrStill shape old mid index e f → counts new shape.place e c ≡ true
  entry_counts c lt all e f (inl put) = ap is_some (put_gives e f put c lt)
  entry_counts c lt all e f (inr still) = ap is_some (still_gives e f still c lt)
      ∙ list_all-In (λ (x : IndexEntry). counts old shape.place x c) still.was index.entries all
      (Contains-In still.was index.entries still.there)

  module _ (next : Index) (entries : List Entry) (zip : AllZip (IsPutOrStill shape old mid index) next.entries entries)
    where
      all_count : (c : ℕ) → c < shape.place.copies → list_all (λ e. counts old shape.place e c) index.entries ≡ true
          → list_all (λ e. counts new shape.place e c) next.entries ≡ true
      all_count c lt all = In-list_all (λ (e : IndexEntry). counts new shape.place e c) next.entries
          (λ e h. let (f, k, r) = zip_find (IsPutOrStill shape old mid index) next.entries entries e zip h in
          entry_counts c lt all e f r)

      -- ---- and its place is clean

      entry_agreed : IsClean shape old → (e : IndexEntry) (f : Entry) → IsPutOrStill shape old mid index e f
          → AreAgreed shape new e
      entry_agreed clean e f (inl put) a b s t la lb one two =
          some_is s t (sym one ∙ put_gives e f put a la ∙ sym (put_gives e f put b lb) ∙ two)
      entry_agreed clean e f (inr still) a b s t la lb one two =
          clean.alike (where_of still.was) a b s t
          (names_it shape old 0 v.generation (index_text index) index some (used.alone.held 0 some) used.fit
          (where_of still.was)
          (map-In where_of still.was index.entries (Contains-In still.was index.entries still.there)))
          la lb (sym (still_gives e f still a la) ∙ one) (sym (still_gives e f still b lb) ∙ two)

      module _ (alone : IsAlone new shape.place (v.generation + 1) (index_text next))
          (fit : fit_index shape (index_text next) ≡ Some next) where
        abbrev text_after : FitText
        text_after = alone_text new shape (v.generation + 1) (index_text next) next some alone fit

        supported : (s : Scope) → shape.scope ≡ s → shape.m ≤ length (supporters s new shape.place text_after)
        supported scope.Element e =
            let long = supports_element new shape (v.generation + 1) (index_text next) next some alone fit in
            let b = is.enough in
            omega (arith, long, b)
        supported scope.Storage e =
            let le : shape.m ≤ length (copies_that (holds_all old shape.place text_before) shape.place.copies) =
            subst (λ (s : Scope). shape.m ≤ length (supporters s old shape.place text_before)) e
            (leb-true shape.m (length (supporters shape.scope old shape.place text_before)) qualified) in
            passing_enough (holds_all new shape.place text_after) shape.place.copies shape.m
            (at_least_map (λ c. holds_all old shape.place text_before c ≡ true)
            (λ c. holds_all new shape.place text_after c ≡ true) shape.place.copies shape.m
            (λ c lt all. and_from (holds_text new shape.place text_after c)
            (list_all (λ e. counts new shape.place e c) next.entries)
            (all_hold new shape.place (v.generation + 1) (index_text next) some alone c lt)
            (all_count c lt (both_true (holds_text old shape.place text_before c)
            (list_all (λ e. counts old shape.place e c) index.entries) all).1))
            (enough_pass (holds_all old shape.place text_before) shape.place.copies shape.m le))

        pub after_in_use : IsInUse shape new next (whole_view shape (v.generation + 1) entries)
        after_in_use = record {
          alone = alone;
          fit = fit;
          opens = opens_alone new shape (v.generation + 1) (index_text next) next some alone fit
              (supported shape.scope refl)
              ∙ ap (λ (fs : List Entry). Opens (whole_view shape (v.generation + 1) fs) [])
              (sym (shown next.entries entries zip));
          sole = refl;
          entries = shown next.entries entries zip;
          mended = all_mended next.entries entries zip;
        }

        pub after_clean : IsClean shape old → IsClean shape new
        after_clean clean = clean_alone shape new (v.generation + 1) (index_text next) next alone fit
            (all_by (AreAgreed shape new) next.entries
            (λ e h. let (f, k, r) = zip_find (IsPutOrStill shape old mid index) next.entries entries e zip h in
            entry_agreed clean e f r))
