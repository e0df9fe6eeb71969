-- One storage of an application changes: what reads of its files give of the application, at the end and at every
-- moment, and what stays in use.
use Rattle.std.proofs.Common.{◌≡◌, ◌≢◌, ℕ, ◌+◌, ◌<◌, ◌≤◌, List, ◌++◌, length, map, Bool, IsTrue, Option, Some}
use Rattle.std.proofs.Common.{option_map, slice_get, slice_set, refl, sym, ap, ◌∙◌, subst, inl, inr, ⊎_elim, arith}
use Rattle.std.proofs.lemmas.Bool.{cases_eq, cases_lt}
use Rattle.std.proofs.lemmas.Option.{slice_get-map, slice_get_within}
use Rattle.disk_model.specs.Frame.{IsSettledOn, Spares}
use Rattle.disk_model.specs.Image.{Image}
use Rattle.disk_model.specs.Laws.{goes_none}
use Rattle.disk_model.specs.Medium.{IsLawful, Medium}
use Rattle.disk_model.specs.Place.{IsOutside}
use Rattle.disk_model.specs.lemmas.Frames.{settled_less, settled_on}
use Rattle.deployment_model.specs.Data.{StorageData}
use Rattle.element_state.specs.Clean.{IsClean}
use Rattle.element_state.specs.declared.shapes.Shape.{Shape}
use Rattle.element_state.specs.States.{State, store_at}
use Rattle.element_laws.specs.Phases.{IsOfPlace}
use Rattle.element_maps.specs.Storages.{IsStoring}
use Rattle.element_store.specs.Stores as stores
use Rattle.deploy_laws.specs.Places.{IsBeside, IsFileOf, IsNoFileOf, Named, shapes_if, shapes_in, storage_shape}
use Rattle.deploy_laws.specs.Places.{storage_file}
use Rattle.deploy_laws.specs.Apps.{App, IsCleanApp, Says, absent, app_at, installed, nothing, says_at, shapes_named}
use Rattle.deploy_laws.specs.Stands.{StandsCase}
use Rattle.deploy.specs.declared.roots.Root.{Root}
use Rattle.deploy.specs.Laws.{IsRootFile}
use Rattle.deploy.specs.Roots.{RootAt, root_says}
use Rattle.open_storages.specs.declared.opens.Open.{Open}
use Rattle.open_storages.specs.Opens.{config_in, store_in}
use Rattle.run_model.specs.Found.{with_storage_state}
use Rattle.per_runtime.specs.declared.storages.finding.Located.{Located}
use Rattle.per_runtime.specs.declared.storages.slots.OpenSlots.{OpenSlots}
use Rattle.per_runtime.specs.storages.Answers.{CallsTo}
use Rattle.per_runtime.specs.storages.Finding.{IsLocated, config_of, found_on, shape_at}
use Rattle.per_runtime.specs.storages.Slots.{IsOpenAt, IsResting, active_in, slot_at}
use Rattle.per_runtime.specs.storages.StorageLaws.{StorageLaws}
use Rattle.per_runtime.proofs.storage_lemmas.SlotLaws.{all_at, get_append, get_set, get_set_other, length_set, set_same}
use Rattle.per_runtime.proofs.storage_lemmas.SlotLaws.{there}

-- ---- files

module _ (app bank number : ℕ) (ltb : bank ≤ 1) (ltn : number < 16) where
  -- those of no other application, of the root and of another storage are beside it
  app_beside : (f : ℕ) → IsNoFileOf app f → IsBeside app bank number f
  app_beside f aside = ⊎_elim (λ low. inl (omega (arith, low))) (λ high. inr (omega (arith, high, ltb, ltn))) aside

  root_beside : (f : ℕ) → IsRootFile app f → IsBeside app bank number f
  root_beside f is = let high = is.1 in inl (omega (arith, high))

  other_beside : (other f : ℕ) → other ≢ number → storage_file app bank other ≤ f → f < storage_file app bank other + 32
      → IsBeside app bank number f
  other_beside other f ne low high = ⊎_elim (λ below. inl (omega (arith, low, high, below)))
      (λ above. inr (omega (arith, low, high, above, ne))) (cases_lt other number)

-- ---- what the disk says of an application whose root is in use

installed_as : (says : Says) (v : Named) → active_in says ≡ Some v
    → (g : ℕ) × (previous : Option Named) × (says ≡ installed g v previous)
installed_as nothing v is = absurd cc
installed_as (absent g) v is = absurd cc
installed_as (installed g w previous) v is = let e : w ≡ v =
    grind arith in (g, previous, ap (λ (x : Named). installed g x previous) e)

pub says_of : (image : Image) (app : ℕ) → (app_at image app).says ≡ says_at image app
unfolding app_at
says_of image app = refl

states_of : (image : Image) (app : ℕ) → (app_at image app).states
    ≡ map (store_at image) (shapes_named app (says_at image app))
unfolding app_at
states_of image app = refl

shapes_of : (app g : ℕ) (v : Named) (previous : Option Named)
    → shapes_named app (installed g v previous) ≡ shapes_in app v ++ shapes_if app previous
unfolding shapes_named
shapes_of app g v previous = refl

-- ---- a disk that is not called

module _ (laws : StorageLaws) (told : Bool) (m : Medium) (law : IsLawful told m) (app : ℕ) (lt : app < 8) where
  pub idle_calls : CallsTo app (app_at m.image app) m m
  idle_calls = record {
    any_moment = λ quiet clean. goes_none (StandsCase app (app_at m.image app) (app_at m.image app)) law
        (λ c now. laws.untouched app m.image c lt clean (settled_on (IsFileOf app) (quiet c now)));
    outside = λ quiet. goes_none (IsSettledOn (IsNoFileOf app) m.image) law
        (λ c now. settled_on (IsNoFileOf app) (quiet c now));
    elsewhere = λ f aside. refl;
  }

-- ---- a storage of the active version

module _ (laws : StorageLaws) (app : ℕ) (lt : app < 8) (g : ℕ) (v : Named) (previous : Option Named) (number : ℕ)
    (s : StorageData)
    (at : slice_get v.deployment.storages number ≡ Some s) (ltb : v.bank ≤ 1) (ltn : number < 16) where
  abbrev here : Shape
  here = storage_shape app v.bank number s

  shape_there : (says : Says) → says ≡ installed g v previous → slice_get (shapes_named app says) number ≡ Some here
  shape_there says is = ap (λ (x : Says). slice_get (shapes_named app x) number) is
      ∙ ap (λ (xs : List Shape). slice_get xs number) (shapes_of app g v previous)
      ∙ get_append (shapes_in app v) (shapes_if app previous) number here (laws.numbers app number v s at)

  -- its state is the one by its number
  state_there : (image : Image) → says_at image app ≡ installed g v previous
      → slice_get (app_at image app).states number ≡ Some (store_at image here)
  state_there image is = ap (λ (xs : List State). slice_get xs number) (states_of image app)
      ∙ slice_get-map (store_at image) (shapes_named app (says_at image app)) number
      ∙ ap (option_map (store_at image)) (shape_there (says_at image app) is)

  clean_there : (image : Image) → says_at image app ≡ installed g v previous → IsCleanApp app image → IsClean here image
  clean_there image is clean = all_at (λ shape. IsClean shape image) (shapes_named app (says_at image app)) number here
      clean.storages (shape_there (says_at image app) is)

  outside_of : (f : ℕ) → IsBeside app v.bank number f → IsOutside here.place f
  outside_of f beside = laws.beside app v.bank number f s lt ltb ltn beside

  module _ (old new : Image) (spared : Spares (IsOutside here.place) old new) where
    elsewhere_spared : Spares (IsNoFileOf app) old new
    elsewhere_spared f aside = spared f (outside_of f (app_beside app v.bank number ltb ltn f aside))

    root_spared : Spares (IsRootFile app) old new
    root_spared f is = spared f (outside_of f (root_beside app v.bank number ltb ltn f is))

    beside_spared : Spares (λ f. IsFileOf app f × IsBeside app v.bank number f) old new
    beside_spared f is = spared f (outside_of f is.1)

    other_spared : (k : ℕ) (t : StorageData) → slice_get v.deployment.storages k ≡ Some t → k < 16 → k ≢ number
        → Spares (IsOfPlace (storage_shape app v.bank k t).place) old new
    other_spared k t is ltk ne f of =
        let inside = laws.files app v.bank k f t lt ltb ltk of in
        spared f (outside_of f (other_beside app v.bank number ltb ltn k f ne inside.0 inside.1))

    -- the application is the same but for this storage
    stored_here : says_at old app ≡ installed g v previous
        → (app_at new app ≡ record (app_at old app) {
          states =
              slice_set (app_at old app).states number (store_at new here);
        })
        × (IsCleanApp app old → IsClean here new → IsCleanApp app new)
    stored_here is = laws.stored app g number old new v previous s lt is at beside_spared

  -- every moment of a call on it
  storing_here : (told : Bool) → IsTrue told → (after : State) (old new : Medium)
      → says_at old.image app ≡ installed g v previous → IsStoring told here after old new
      → CallsTo app (record (app_at old.image app) { states = slice_set (app_at old.image app).states number after })
      old new
  storing_here told tells after old new is storing = record {
    any_moment = λ quiet clean c since. laws.storing app g number old.image v previous s after c lt clean is at
        (settled_less (λ f p. outside_of f p.1)
        (storing.outside tells quiet c since))
        (storing.any_moment tells quiet (clean_there old.image is clean) c since);
    outside = λ quiet c since. settled_less
        (λ f aside. outside_of f (app_beside app v.bank number ltb ltn f aside)) (storing.outside tells quiet c since);
    elsewhere = elsewhere_spared old.image new.image (storing.elsewhere tells);
  }

  -- ---- what is open

  module _ (told : Bool) (old new : Image) (spared : IsTrue told
      → Spares (IsOutside here.place) old new) where
    open_stays : (k : ℕ) (o : Open) → k < 16 → k ≢ number → IsOpenAt told old app v k o → IsOpenAt told new app v k o
    open_stays k o ltk ne is = record {
      configured = is.configured;
      placed = is.placed;
      used = laws.use_stays told (store_in o) old new
          (λ tells. subst (λ (sh : Shape). Spares (IsOfPlace sh.place) old new) (sym is.placed)
          (other_spared old new (spared tells) k (config_in o) is.configured ltk ne)) is.used;
      kind = is.kind;
      shows = is.shows;
    }

    module _ (root : Root) (says : root_says root ≡ installed g v previous) (was is : OpenSlots) (x : Option Open)
        (rest : IsResting told old app root was)
        (set : is.open.items ≡ slice_set was.open.items number x)
        (newly : (o : Open) → x ≡ Some o → IsOpenAt told new app v number o) where
      active_is : active_in (root_says root) ≡ Some v
      active_is = ap active_in says

      this_one : (k : ℕ) (o : Open) → k ≡ number → slice_get is.open.items k ≡ Some (Some o)
          → IsOpenAt told new app v k o
      this_one k o e at_k =
          let in_it : slice_get is.open.items number ≡ Some x =
          ap (λ (xs : List (Option Open)). slice_get xs number) set
          ∙ get_set was.open.items number x (let room = rest.open_on.room in omega (arith, room, ltn)) in
          let same : Some x ≡ Some (Some o) = sym in_it ∙ ap (slice_get is.open.items) (sym e) ∙ at_k in
          let it : x ≡ Some o = grind arith in
          subst (λ (n : ℕ). IsOpenAt told new app v n o) (sym e) (newly o it)

      another : (k : ℕ) (o : Open) → k ≢ number → slice_get is.open.items k ≡ Some (Some o)
          → IsOpenAt told new app v k o
      another k o ne at_k =
          let stood : slice_get was.open.items k ≡ Some (Some o) =
          sym (get_set_other was.open.items number k x ne)
          ∙ ap (λ (xs : List (Option Open)). slice_get xs k) (sym set) ∙ at_k in
          let was_open = rest.open_on.each k o stood in
          let within = slice_get_within was.open.items k (Some o) stood in
          let same : Some was_open.0 ≡ Some v = sym was_open.1 ∙ active_is in
          let it : was_open.0 ≡ v = grind arith in
          open_stays k o (let room = rest.open_on.room in omega (arith, room, within)) ne
          (subst (λ (w : Named). IsOpenAt told old app w k o) it was_open.2)

      resting_here : IsResting told new app root is
      resting_here = record {
        below = rest.below;
        root_at = laws.root_stays told app old new root lt (λ tells. root_spared old new (spared tells)) rest.root_at;
        open_on = record {
          room = ap length set ∙ length_set was.open.items number x ∙ rest.open_on.room;
          each = λ k o at_k. (
            v,
            active_is,
            ⊎_elim (λ e. this_one k o e at_k) (λ ne. another k o ne at_k)
                (cases_eq k number),
          );
        };
      }

-- ---- the same of a storage that was found

pub shape_is : (app : ℕ) (says : Says) (l : Located) (located : IsLocated app says l)
    → storage_shape app located.version.bank l.number (config_of l) ≡ shape_at l
shape_is app says l located = ap (λ (a : ℕ). storage_shape a located.version.bank l.number (config_of l))
    (sym located.app_is)
    ∙ ap (λ (b : ℕ). storage_shape l.app b l.number (config_of l)) located.bank

-- a storage in the state that it is in
same_state : (a : App) (number : ℕ) (state : State) → slice_get a.states number ≡ Some state
    → record a { states = slice_set a.states number state } ≡ a
same_state a number state is = ap (λ (xs : List State). record a { states = xs }) (set_same a.states number state is)

module _ (laws : StorageLaws) (app : ℕ) (root : Root) (l : Located) (located : IsLocated app (root_says root) l) where
  below : app < 8
  below = subst (λ (a : ℕ). a < 8) located.app_is located.within.below

  in_bank : located.version.bank ≤ 1
  in_bank = subst (λ (b : ℕ). b ≤ 1) (sym located.bank) located.within.in_bank

  told_spares : (told : Bool) (old new : Image) → (IsTrue told
      → Spares (IsOutside (shape_at l).place) old new)
      → IsTrue told → Spares (IsOutside (storage_shape app located.version.bank l.number (config_of l)).place) old new
  told_spares told old new spared tells = subst (λ (sh : Shape).
      Spares (IsOutside sh.place) old new) (sym (shape_is app (root_says root) l located))
      (spared tells)

  -- its shape is the one by its number of those that the root names
  pub shape_by_number : slice_get (shapes_named app (root_says root)) l.number ≡ Some (shape_at l)
  shape_by_number = let i = installed_as (root_says root) located.version located.active in
      shape_there laws app below i.0 located.version i.1 l.number (config_of l) located.place in_bank
      located.within.in_slots (root_says root) i.2
      ∙ ap (λ (sh : Shape). Some sh) (shape_is app (root_says root) l located)

  -- what the root says is what its image says
  pub says_on : (told : Bool) (image : Image) → RootAt told image app root → IsTrue told
      → says_at image app ≡ root_says root
  says_on told image at tells = sym (says_of image app)
      ∙ ap (λ (a : App). a.says) (laws.in_use image app root at.memory (at.disk tells))

  module _ (told : Bool) (tells : IsTrue told) (image : Image) (at : RootAt told image app root) where
    installed_is : (g : ℕ) × (previous : Option Named) × (says_at image app ≡ installed g located.version previous)
    installed_is = let i = installed_as (root_says root) located.version located.active in
        (i.0, i.1, says_on told image at tells ∙ i.2)

    -- the state of the storage, by its number
    pub state_at : slice_get (app_at image app).states l.number ≡ Some (store_at image (shape_at l))
    state_at = let i = installed_is in subst (λ (sh : Shape). slice_get (app_at image app).states l.number
        ≡ Some (store_at image sh)) (shape_is app (root_says root) l located)
        (state_there laws app below i.0 located.version i.1 l.number (config_of l) located.place in_bank
        located.within.in_slots image i.2)

    -- to be in the state that it is in changes nothing
    pub stays_so : with_storage_state (app_at image app) (found_on image l) (store_at image (shape_at l))
        ≡ app_at image app
    stays_so = same_state (app_at image app) l.number (store_at image (shape_at l)) state_at

    pub clean_at : IsCleanApp app image → IsClean (shape_at l) image
    clean_at clean = let i = installed_is in subst (λ (sh : Shape). IsClean sh image)
        (shape_is app (root_says root) l located)
        (clean_there laws app below i.0 located.version i.1 l.number (config_of l) located.place in_bank
        located.within.in_slots image i.2 clean)

    -- at every moment of a call on it the application stands between what it was and itself with this storage in its
    -- next state
    pub storing_calls : (after : State) (old new : Medium) → old.image ≡ image
        → IsStoring told (shape_at l) after old new
        → CallsTo app (with_storage_state (app_at image app) (found_on image l) after) old new
    storing_calls after old new on storing = let i = installed_is in
        subst (λ (im : Image). CallsTo app (with_storage_state (app_at im app) (found_on im l) after) old new) on
        (storing_here laws app below i.0 located.version i.1 l.number (config_of l) located.place in_bank
        located.within.in_slots told tells after old new
        (ap (λ (im : Image). says_at im app) on ∙ i.2)
        (subst (λ (sh : Shape). IsStoring told sh after old new) (sym (shape_is app (root_says root) l located))
        storing))

    -- afterwards it is the same but for this storage
    pub stored_app : (new : Image) → Spares (IsOutside (shape_at l).place) image new
        → (app_at new app ≡ with_storage_state (app_at image app) (found_on image l) (store_at new (shape_at l)))
        × (IsCleanApp app image → IsClean (shape_at l) new → IsCleanApp app new)
    stored_app new spared = let i = installed_is in
        subst (λ (sh : Shape). (app_at new app ≡ record (app_at image app) {
          states =
              slice_set (app_at image app).states l.number (store_at new sh);
        })
        × (IsCleanApp app image → IsClean sh new → IsCleanApp app new))
        (shape_is app (root_says root) l located)
        (stored_here laws app below i.0 located.version i.1 l.number (config_of l) located.place in_bank
        located.within.in_slots image new
        (told_spares told image new (λ t. spared) tells) i.2)

  -- the application at rest with this slot set or emptied, after files of this storage alone changed
  pub resting_after : (told : Bool) (old new : Image) → (IsTrue told
      → Spares (IsOutside (shape_at l).place) old new)
      → (was is : OpenSlots) (x : Option Open) → IsResting told old app root was
      → is.open.items ≡ slice_set was.open.items l.number x
      → ((o : Open) → x ≡ Some o → IsOpenAt told new app located.version l.number o) → IsResting told new app root is
  resting_after told old new spared was is x rest set newly = let i =
      installed_as (root_says root) located.version located.active in
      resting_here laws app below i.0 located.version i.1 l.number (config_of l) located.place in_bank
      located.within.in_slots told old new (told_spares told old new spared)
      root i.2 was is x rest set newly

  -- what is open in its slot is this storage
  pub open_there : (told : Bool) (image : Image) (was : OpenSlots) (o : Open) → IsResting told image app root was
      → slot_at was l.number ≡ Some o
      → (config_in o ≡ config_of l) × (stores.store_shape (store_in o) ≡ shape_at l)
      × IsOpenAt told image app located.version l.number o
  open_there told image was o rest at =
      let found = rest.open_on.each l.number o (there was l.number o at) in
      let same : Some found.0 ≡ Some located.version = sym found.1 ∙ located.active in
      let it : found.0 ≡ located.version = grind arith in
      let is_open : IsOpenAt told image app located.version l.number o =
      subst (λ (w : Named). IsOpenAt told image app w l.number o) it found.2 in
      let both : Some (config_in o) ≡ Some (config_of l) = sym is_open.configured ∙ located.place in
      let config : config_in o ≡ config_of l = grind arith in (
        config,
        is_open.placed ∙ ap (λ (s : StorageData). storage_shape app located.version.bank l.number s) config
            ∙ shape_is app (root_says root) l located,
        is_open,
      )
