-- A storage that is rebuilt beside the text at which it opened, or beside the one that is its salvage.
use Rattle.std.proofs.Common.{◌≡◌, ◌⊎◌, ℕ, ◌+◌, ◌<◌, List, [], ◌∷◌, Bool, true, false, Option, Some, None, refl, sym}
use Rattle.std.proofs.Common.{ap, ◌∙◌, subst, arith, ⊎_elim, inl}
use Rattle.std.specs.Prelude.{map, find}
use Rattle.std.specs.List.{AllByRecursion, AllZip}
use Rattle.per_base.specs.declared.elements.Entry.{Entry}
use Rattle.per_base.specs.declared.elements.Fresh.{Fresh}
use Rattle.disk_model.specs.declared.place.Place.{Place}
use Rattle.disk_model.specs.Image.{Image}
use Rattle.disk_model.specs.Medium.{Medium, Quiet, Elapses, EachCase, IsIdle}
use Rattle.disk_model.specs.Frame.{Spares, Keeps}
use Rattle.disk_model.specs.Place.{area, IsNoArea, IsNoSlot}
use Rattle.disk_model.specs.lemmas.Frames.{settled_on}
use Rattle.disk_model.specs.Laws.{goes_on}
use Rattle.disk_model.specs.lemmas.Places.{area_no_slot}
use Rattle.guarded_cell.specs.Register.{Holds, IsAlone, IsKeptAlone}
use Rattle.guarded_cell.specs.Stops.{PutStops, KeepStops}
use Rattle.block_files.specs.BlockSets.{contains}
use Rattle.index_text.specs.declared.entries.Index.{Index}
use Rattle.index_text.specs.declared.entries.IndexEntry.{IndexEntry}
use Rattle.index_text.specs.Rules.{IsIndex}
use Rattle.element_state.specs.declared.shapes.Shape.{Shape}
use Rattle.element_state.specs.Chosen.{chosen, or_first}
use Rattle.element_state.specs.Clean.{IsClean}
use Rattle.element_state.specs.Conditions.{IsInUse, IsShape}
use Rattle.element_state.specs.Fit.{FitText, fit_index, fit_texts}
use Rattle.element_state.specs.Kept.{heading, IsKeptCase, KeptThroughout, IsHeaded}
use Rattle.element_state.specs.States.{State, store_at, fresh_entry, fresh_map, fresh_view, fresh_state}
use Rattle.element_state.specs.Views.{entry_view, qualifies}
use Rattle.element_laws.specs.Phases.{IsOfPlace, UntouchedLaw, OpensAt, OpenedLaw, IsCorruptAt, CorruptLaw, IsSalvageAt}
use Rattle.element_laws.specs.Phases.{IsAdopted, IsGivenUp, AdoptLaw, KeepLaw, ContentsLaw, ContentsDoneLaw, IndexLaw}
use Rattle.element_laws.specs.Phases.{GivenUpLaw, TakesNamed, TakenBlocksLaw, RebuiltContentsLaw, RebuiltDoneLaw}
use Rattle.element_laws.specs.Phases.{RebuiltIndexLaw, IsContentWritten, IsCarried}
use Rattle.element_laws.specs.lemmas.Lists.{In, zip_with, some_is, not_false, not_none}
use Rattle.element_laws.specs.lemmas.Fits.{fit_at, fit-In, fit-spelled}
use Rattle.element_store.specs.Plans.{HasAll}
use Rattle.element_store.specs.Spelled.{ShowsFresh, IsTextOf, IsContentsCase}
use Rattle.element_store.specs.Rebuilds.{IsGround}
use Rattle.element_store.proofs.Made.{shown_still, made_in_use, made_opens}
use Rattle.element_store.proofs.Fulls.{view_areas}
use Rattle.element_store.proofs.Shown.{view_gives}

-- ---- at which text

opened_by : (texts : List FitText) (o : Option FitText) (text : FitText) → or_first texts o ≡ Some (true, text)
    → o ≡ Some text
opened_by texts (Some t) text e = ap (λ (x : FitText). Some x)
    (ap (λ (p : Bool × FitText). p.1) (some_is (true, t) (true, text) e))
opened_by [] None text e = cc
opened_by (t ∷ texts) None text e = absurd (not_false (ap (λ (p : Bool × FitText). p.0)
    (some_is (false, t) (true, text) e)))

none_by : (texts : List FitText) (o : Option FitText) → or_first texts o ≡ None → (o ≡ None) × (texts ≡ [])
none_by texts (Some t) e = cc
none_by [] None e = (refl, refl)
none_by (t ∷ texts) None e = cc

module _ (shape : Shape) (start : Image) where
  pub opened_at : OpenedLaw → (text : FitText) → chosen start shape ≡ Some (true, text)
      → OpensAt shape start text.0.generation text.0.text text.1
  unfolding chosen
  opened_at law text is = law shape start text (opened_by (fit_texts shape start)
      (find (qualifies start shape) (fit_texts shape start)) text is)

  pub none_at : CorruptLaw → chosen start shape ≡ None → IsCorruptAt shape start
  unfolding chosen
  none_at law is = law shape start (none_by (fit_texts shape start)
      (find (qualifies start shape) (fit_texts shape start)) is).0

  -- where no text fits a clean place, none is held
  pub none_held : IsClean shape start → chosen start shape ≡ None → (copy g : ℕ) (t : List ℕ)
      → copy < shape.place.copies → Holds start shape.place copy g t → ⊥
  unfolding chosen
  none_held clean is copy g t lt held =
      let (index, fit) = clean.fit copy g t lt held in
      let none = (none_by (fit_texts shape start) (find (qualifies start shape) (fit_texts shape start)) is).1 in
      subst (λ (ts : List FitText). In (fit_at start shape g t index) ts) none
      (fit-In start shape copy g t index lt held fit)

-- ---- ready for contents

module _ (shape : Shape) (start now : Image) (set : List Bool) (is : IsShape shape) where
  -- beside the text at which it opened
  pub ready_opened : ContentsLaw → ContentsDoneLaw → IndexLaw → (g : ℕ) (text : List ℕ) (index : Index)
      → IsAdopted shape start now g text index → IsIndex index
      → AllByRecursion (λ (e : IndexEntry). HasAll set e.blocks) index.entries → IsGround shape start now set (g + 1)
  ready_opened contents contents_done law g text index adopted rules takes = record {
    during = λ after old c settled keeps. contents shape start now g text index (contains set) after old c is.some
        adopted
        rules takes settled keeps;
    done = λ then after c keeps settled. contents_done shape start now then g text index (contains set) after c is.some
        adopted rules takes keeps settled;
    index = λ then next new_index view others c keeps fit generation_is written stops.
        law shape start now then g text index (contains set) next new_index view others c is.some adopted rules takes
        keeps
        fit generation_is
        (zip_with (IsContentWritten shape then) (λ e f. IsContentWritten shape then e f
        ⊎ IsCarried shape start index e f)
        new_index.entries view.entries (λ e f i j w. inl w) written) stops;
  }

  -- beside what is held of a corrupt one
  pub ready_given_up : RebuiltContentsLaw → RebuiltDoneLaw → RebuiltIndexLaw → (g : ℕ) → IsGivenUp shape start now
      → TakesNamed (contains set) shape.place now
      → ((copy h : ℕ) (u : List ℕ) → copy < shape.place.copies → Holds now shape.place copy h u → h < g)
      → ((text : FitText) → IsSalvageAt shape start text → g ≡ text.0.generation + 1) → IsGround shape start now set g
  ready_given_up contents contents_done law g given_up takes below next_is = record {
    during = λ after old c settled keeps. contents shape start now (contains set) after old c is.some given_up takes
        settled keeps;
    done = λ then after c keeps settled. contents_done shape start now then (contains set) after c is.some given_up
        takes
        keeps settled;
    index = λ then next new_index view others c keeps fit generation_is written stops.
        law shape start now then (contains set) g next new_index view others c is.some given_up takes below next_is
        keeps
        fit generation_is written stops;
  }

  -- beside its salvage
  pub ready_salvaged : GivenUpLaw → TakenBlocksLaw → RebuiltContentsLaw → RebuiltDoneLaw → RebuiltIndexLaw
      → (text : FitText)
      → IsClean shape start → IsSalvageAt shape start text
      → fit_index shape text.0.text ≡ Some text.1 → IsIndex text.1
      → AllByRecursion (λ (e : IndexEntry). HasAll set e.blocks) text.1.entries
      → IsKeptAlone shape.place text.0.generation text.0.text start now
      → Spares (IsNoSlot shape.place) start now
      → IsGround shape start now set (text.0.generation + 1)
  ready_salvaged given_up taken contents contents_done law text clean salvage fit rules takes alone areas =
      let (up, only) = given_up shape start now text clean salvage alone areas in
      ready_given_up contents contents_done law (text.0.generation + 1) up
      (taken shape.place now text.0.text text.1 (contains set) (λ copy h u lt held. (only copy h u lt held).1)
      (fit-spelled shape text.0.text text.1 fit) rules takes)
      (λ copy h u lt held. let e = (only copy h u lt held).0 in omega (arith, e))
      (λ other is. ap (λ (x : FitText). x.0.generation + 1)
      (ap (λ (p : Bool × FitText). p.1) (some_is (false, text) (false, other) (sym salvage ∙ is))))

-- beside nothing
pub ready_none : CorruptLaw → RebuiltContentsLaw → RebuiltDoneLaw → RebuiltIndexLaw
    → (shape : Shape) (start : Image) (set : List Bool) → IsShape shape → IsClean shape start
    → chosen start shape ≡ None → IsGround shape start start set 1
ready_none corrupt contents contents_done law shape start set is clean none =
    let nothing = none_held shape start clean none in
    ready_given_up shape start start set is contents contents_done law 1
    (record {
      clean = clean;
      corrupt = none_at shape start corrupt none;
      less = λ copy lt h u held. held;
      salvage = λ text is copy lt spared held. held;
      areas = λ f out. refl;
    })
    (λ at named. absurd (nothing named.copy named.generation named.text named.inside named.held))
    (λ copy h u lt held. absurd (nothing copy h u lt held))
    (λ text is. absurd (not_none (false, text) (sym is ∙ none)))

-- ---- until it is ready

module _ (shape : Shape) (is : IsShape shape) (state : State) where
  -- while nothing is written
  pub idle_kept : UntouchedLaw → (old mid : Medium) → (Quiet old → IsIdle old mid) → KeptThroughout shape state old mid
  idle_kept untouched old mid idle quiet clean c past =
      untouched shape old.image state c is.some clean (settled_on (IsOfPlace shape.place) ((idle quiet).during c past))

  -- while its text is adopted
  pub adopt_kept : UntouchedLaw → AdoptLaw → OpenedLaw → (old mid new : Medium) (text : FitText) → Elapses old mid
      → Elapses mid new → (Quiet old → IsIdle old mid) → mid.image ≡ old.image
      → chosen old.image shape ≡ Some (true, text) → EachCase
      (PutStops shape.place text.0.generation text.0.text mid.image) mid new
      → KeptThroughout shape state old new
  adopt_kept untouched adopt opened old mid new text before later idle same chose stops quiet clean =
      goes_on (IsKeptCase shape old.image state) before later (idle_kept untouched old mid idle quiet clean)
      (λ c past. adopt shape old.image text.0.generation text.0.text text.1 state c is.some clean
      (opened_at shape old.image opened text chose)
      (subst (λ (im : Image). PutStops shape.place text.0.generation text.0.text im c) same
      (stops c past)))

  -- while all texts but its salvage are taken away
  pub keep_kept : UntouchedLaw → KeepLaw → (old mid new : Medium) (text : FitText) → Elapses old mid → Elapses mid new
      → (Quiet old → IsIdle old mid) → mid.image ≡ old.image
      → chosen old.image shape ≡ Some (false, text) → EachCase
      (KeepStops shape.place text.0.generation text.0.text mid.image) mid new
      → KeptThroughout shape state old new
  keep_kept untouched keep old mid new text before later idle same chose stops quiet clean =
      goes_on (IsKeptCase shape old.image state) before later (idle_kept untouched old mid idle quiet clean)
      (λ c past. keep shape old.image text state c is.some clean chose
      (subst (λ (im : Image). KeepStops shape.place text.0.generation text.0.text im c) same
      (stops c past)))

-- ---- contents, and their index

unfold_view : (image : Image) (place : Place) (m : ℕ) (e : IndexEntry) → IsHeaded e (entry_view image place m e)
unfolding entry_view
unfold_view image place m e = refl

-- contents that are shown are written
written_fresh : (shape : Shape) (then : Image) (g : ℕ) (contents : List Fresh) (entries : List IndexEntry)
    → ShowsFresh then shape.place shape.m g contents entries
    → AllZip (IsContentWritten shape then) entries (map (fresh_entry g) (fresh_map contents))
written_fresh shape then g [] [] zip = tt
written_fresh shape then g [] (e ∷ es) zip = absurd zip
written_fresh shape then g (f ∷ fs) [] zip = absurd zip
written_fresh shape then g (f ∷ fs) (e ∷ es) zip = (
  record {
    headed = unfold_view then shape.place shape.m e ∙ ap heading zip.0;
    value = f.bytes;
    good = refl;
    whole = λ copy lt. view_gives then shape.place shape.m e f.bytes (ap (λ (x : Entry). x.content) zip.0)
        (ap (λ (x : Entry). x.lacking) zip.0) copy lt;
  },
  written_fresh shape then g fs es zip.1,
)

module _ (shape : Shape) (start : Image) (set : List Bool) (g : ℕ) (contents : List Fresh) (old mid : Medium)
    (ready : IsGround shape start old.image set g) (quiet : Quiet old) where
  pub contents_kept : (state : State) (done : Type 0) → (done
      → Keeps (IsNoArea shape.place) (λ k. contains set k ≡ true) old.image mid.image)
      → EachCase (IsContentsCase shape.place set old mid done) old mid
      → EachCase (IsKeptCase shape start state) old mid
  contents_kept state done keeps each c past = ⊎_elim
      (λ some. let (d, was, step) = some in ready.during state d c (quiet d was) step)
      (λ all. ready.done mid.image state c (keeps all.0) all.1)
      (each c past)

  pub rebuilt_kept : (new : Medium) (text : List ℕ) (index : Index) → IsTextOf shape text index
      → Keeps (IsNoArea shape.place) (λ k. contains set k ≡ true) old.image mid.image
      → ShowsFresh mid.image shape.place shape.m g contents index.entries
      → EachCase (PutStops shape.place g text mid.image) mid new
      → EachCase (IsKeptCase shape start (fresh_state g (fresh_map contents))) mid new
  unfolding fresh_state
  rebuilt_kept new text index spelled keeps shown stops c past =
      ready.index mid.image text index (fresh_view g (fresh_map contents)) [] c keeps spelled.fit refl
      (written_fresh shape mid.image g contents index.entries shown) (stops c past)

-- ---- at its end

module _ (mid image : Image) (shape : Shape) (g : ℕ) (contents : List Fresh) (index : Index) (text : List ℕ)
    (is : IsShape shape) (spelled : IsTextOf shape text index)
    (alone : IsAlone image shape.place g text)
    (same : Spares (IsNoSlot shape.place) mid image)
    (shown : ShowsFresh mid shape.place shape.m g contents index.entries) where
  pub rebuilt_opens : store_at image shape ≡ fresh_state g (fresh_map contents)
  unfolding fresh_state
  rebuilt_opens = made_opens shape image g contents index is
      (subst (λ (t : List ℕ). IsAlone image shape.place g t) spelled.spelled alone)
      (subst (λ (t : List ℕ). fit_index shape t ≡ Some index) spelled.spelled spelled.fit)
      (shown_still mid image shape.place shape.m g
      (λ e. view_areas mid image shape.place shape.m e (λ c lt.
      same (area shape.place c) (area_no_slot shape.place c)))
      contents index.entries shown)

  pub rebuilt_in_use : IsInUse shape image index (fresh_view g (fresh_map contents))
  rebuilt_in_use = made_in_use shape image g contents index is
      (subst (λ (t : List ℕ). IsAlone image shape.place g t) spelled.spelled alone)
      (subst (λ (t : List ℕ). fit_index shape t ≡ Some index) spelled.spelled spelled.fit)
      (shown_still mid image shape.place shape.m g
      (λ e. view_areas mid image shape.place shape.m e (λ c lt.
      same (area shape.place c) (area_no_slot shape.place c)))
      contents index.entries shown)
