-- A storage of an application is on its way to another state, or came to one, and nothing else of the application is
-- touched.
use Rattle.std.proofs.Common.{◌≡◌, ℕ, zero, suc, ◌+◌, ◌<◌, ◌≤◌, List, [], ◌∷◌, ◌++◌, length, Option, Some, None, refl}
use Rattle.std.proofs.Common.{sym, ap, ◌∙◌, subst, slice_get, slice_set, arith}
use Rattle.std.specs.Prelude.{map, ⊤}
use Rattle.std.specs.List.{AllByRecursion}
use Rattle.std.proofs.lemmas.List.{length-map}
use Rattle.disk_model.specs.Image.{Image}
use Rattle.disk_model.specs.Case.{Case}
use Rattle.disk_model.specs.Frame.{IsSettledOn, Spares}
use Rattle.disk_model.specs.lemmas.Frames.{settled_less}
use Rattle.deployment_model.specs.Conditions.{IsStorage}
use Rattle.deployment_model.specs.Data.{StorageData}
use Rattle.element_state.specs.declared.shapes.Shape.{Shape}
use Rattle.element_state.specs.Clean.{IsClean}
use Rattle.element_state.specs.Kept.{IsKeptMending}
use Rattle.element_state.specs.States.{State, store_at}
use Rattle.element_laws.specs.Apart.{FrameLaw}
use Rattle.element_laws.specs.Phases.{IsOfPlace, UntouchedLaw}
use Rattle.deploy_laws.specs.Places.{Named, root_place, storage_shape, shapes_from, shapes_in, IsFileOf, IsBeside}
use Rattle.deploy_laws.specs.Apps.{Says, installed, says_at, app_at, shapes_named, AreClean, IsCleanApp, IsInBank}
use Rattle.deploy_laws.specs.Apps.{AreVersions}
use Rattle.deploy_laws.specs.Stands.{AreKept, StandsCase}
use Rattle.deploy_laws.proofs.Covered.{AreCovered, named_covers}
use Rattle.deploy_laws.proofs.Files.{IsFit, all_fit, all_in, joined, root_own, root_beside, storage_own, storage_beside}
use Rattle.deploy_laws.proofs.Frames.{StandingLaw, app_becomes, app_clean_by, same_states, still_clean}
use Rattle.deploy_laws.proofs.Kept.{stay}
use Rattle.deploy_laws.proofs.Untouched.{app_says, app_states, stands_resting}

-- ---- all storages but the one at a place of a list

abbrev pub AllBut : (Shape → Type 0) → List Shape → ℕ → Type 0
AllBut P [] k = ⊤
AllBut P (s ∷ ss) zero = AllByRecursion P ss
AllBut P (s ∷ ss) (suc k) = P s × AllBut P ss k

but_joined : (P : Shape → Type 0) (xs ys : List Shape) (k : ℕ) → k < length xs → AllBut P xs k → AllByRecursion P ys
    → AllBut P (xs ++ ys) k
but_joined P [] ys k lt h all = absurd (omega (arith, lt))
but_joined P (x ∷ xs) ys zero lt h all = joined P xs ys h all
but_joined P (x ∷ xs) ys (suc k) lt h all = let less : k < length xs =
    omega (arith, lt) in (h.0, but_joined P xs ys k less h.1 all)

module _ (app bank : ℕ) (P : Shape → Type 0) where
  from_above : (start : ℕ) (ss : List StorageData) → ((number : ℕ) (s : StorageData) → start ≤ number → number < 16
      → IsStorage s → P (storage_shape app bank number s))
      → start + length ss ≤ 16 → AllByRecursion IsStorage ss → AllByRecursion P (shapes_from app bank start ss)
  from_above start [] each le keeps = tt
  from_above start (s ∷ ss) each le keeps = (
    each start s (omega arith) (omega (arith, le)) keeps.0,
    from_above (suc start) ss (λ number t above lt is. each number t (omega (arith, above)) lt is)
        (omega (arith, le)) keeps.1,
  )

  but_from : (start k : ℕ) (ss : List StorageData) → ((number : ℕ) (s : StorageData) → number < 16
      → ¬ (number ≡ start + k) → IsStorage s → P (storage_shape app bank number s))
      → start + length ss ≤ 16 → AllByRecursion IsStorage ss → AllBut P (shapes_from app bank start ss) k
  but_from start k [] each le keeps = tt
  but_from start zero (s ∷ ss) each le keeps =
      from_above (suc start) ss (λ number t above lt is. each number t lt (λ e. omega (arith, e, above)) is)
      (omega (arith, le)) keeps.1
  but_from start (suc k) (s ∷ ss) each le keeps = (
    each start s (omega (arith, le)) (λ e. omega (arith, e)) keeps.0,
    but_from (suc start) k ss (λ number t lt differs is. each number t lt (λ e. differs (omega (arith, e))) is)
        (omega (arith, le)) keeps.1,
  )

count_from : (app bank start : ℕ) (ss : List StorageData) → length (shapes_from app bank start ss) ≡ length ss
count_from app bank start [] = refl
count_from app bank start (s ∷ ss) = ap suc (count_from app bank (suc start) ss)

-- ---- the storage of a number, and the others that a root names

same_some : {A : Type 0} (x y : A) → Some x ≡ Some y → x ≡ y
same_some x y e = cc

not_some : {A : Type 0} (x : A) → None ≡ Some x → ⊥
not_some x e = absurd cc

pub by_number : (app bank start number : ℕ) (ss : List StorageData) (s : StorageData) → slice_get ss number ≡ Some s
    → slice_get (shapes_from app bank start ss) number ≡ Some (storage_shape app bank (start + number) s)
by_number app bank start number [] s e = absurd (not_some s e)
by_number app bank start zero (x ∷ xs) s e =
    let zeroth : start ≡ start + 0 = omega arith in
    subst (λ (n : ℕ). Some (storage_shape app bank start x) ≡ Some (storage_shape app bank n s)) zeroth
    (ap (λ (y : StorageData). Some (storage_shape app bank start y)) (same_some x s e))
by_number app bank start (suc number) (x ∷ xs) s e =
    let next : suc start + number ≡ start + suc number = omega arith in
    subst (λ (n : ℕ). slice_get (shapes_from app bank (suc start) xs) number ≡ Some (storage_shape app bank n s)) next
    (by_number app bank (suc start) number xs s e)

pub number_in : (app bank number : ℕ) (ss : List StorageData) (s : StorageData) → slice_get ss number ≡ Some s
    → slice_get (shapes_from app bank 0 ss) number ≡ Some (storage_shape app bank number s)
number_in app bank number ss s e =
    let zeroth : 0 + number ≡ number = omega arith in
    subst (λ (n : ℕ). slice_get (shapes_from app bank 0 ss) number ≡ Some (storage_shape app bank n s)) zeroth
    (by_number app bank 0 number ss s e)

get_below : {A : Type 0} (xs : List A) (n : ℕ) (x : A) → slice_get xs n ≡ Some x → n < length xs
get_below [] n x e = absurd (not_some x e)
get_below (y ∷ ys) zero x e = omega arith
get_below (y ∷ ys) (suc n) x e = let less = get_below ys n x e in omega (arith, less)

get_joined : {A : Type 0} (xs ys : List A) (n : ℕ) (x : A) → slice_get xs n ≡ Some x → slice_get (xs ++ ys) n ≡ Some x
get_joined [] ys n x e = absurd (not_some x e)
get_joined (z ∷ zs) ys zero x e = e
get_joined (z ∷ zs) ys (suc n) x e = get_joined zs ys n x e

module _ (app g number : ℕ) (active : Named) (previous : Option Named) (s : StorageData) (lt : app < 8)
    (there : slice_get active.deployment.storages number ≡ Some s) where
  abbrev its : Shape
  its = storage_shape app active.bank number s

  its_number : number < length active.deployment.storages
  its_number = get_below active.deployment.storages number s there

  its_shape : slice_get (shapes_named app (installed g active previous)) number ≡ Some its
  unfolding shapes_named
  its_shape = get_joined (shapes_in app active) _ number its
      (number_in app active.bank number active.deployment.storages s there)

  module _ (P : Shape → Type 0) (each : (bank i : ℕ) (t : StorageData) → bank ≤ 1 → i < 16
      → (bank ≡ active.bank → i ≡ number → ⊥) → IsStorage t → P (storage_shape app bank i t)) where
    its_bank : IsInBank active → AllBut P (shapes_in app active) number
    its_bank is = let keeps = is.keeps in let few = keeps.few in
        but_from app active.bank P 0 number active.deployment.storages
        (λ i t lti differs is_storage. each active.bank i t is.in_bank lti (λ same e. differs (omega (arith, e)))
        is_storage) (omega (arith, few)) keeps.each

    below : number < length (shapes_in app active)
    below = let count = count_from app active.bank 0 active.deployment.storages in let its =
        its_number in omega (arith, count, its)

    but_named : AreVersions (installed g active previous)
        → AllBut P (shapes_named app (installed g active previous)) number
    unfolding shapes_named
    but_named versions = go previous versions
      where
        go : (p : Option Named) → AreVersions (installed g active p)
            → AllBut P (shapes_named app (installed g active p)) number
        go None is = but_joined P (shapes_in app active) [] number below (its_bank is) tt
        go (Some v) is = let of_previous = is.of_previous in let of_active = is.of_active in let other =
            is.apart in let in_bank = of_active.in_bank in
            but_joined P (shapes_in app active) (shapes_in app v) number below (its_bank of_active)
            (all_in app v P of_previous (λ i t lti keeps. each v.bank i t of_previous.in_bank lti
            (λ same e. omega (arith, same, other, in_bank)) keeps))

-- ---- one storage is on its way

module _ (untouched : UntouchedLaw) (start : Image) (c : Case) (damaged : List ℕ) (image : Image) (shape : Shape)
    (after : State) (kept : IsKeptMending shape start after c) where
  pub record StayBut (shapes : List Shape) (k : ℕ) : Type 0 where
    pub kept_all : AreKept image damaged shapes (map (store_at start) shapes)
        (slice_set (map (store_at start) shapes) k after)
    pub all_clean : AreClean image shapes

  stay_but : (shapes : List Shape) (k : ℕ) → slice_get shapes k ≡ Some shape → AreCovered c damaged image shapes
      → AllByRecursion IsFit shapes → AreClean start shapes
      → AllBut (λ other. IsSettledOn (IsOfPlace other.place) start c) shapes k → StayBut shapes k
  stay_but [] k is covers fit clean others = absurd (not_some shape is)
  stay_but (s ∷ ss) zero is covers fit clean others =
      let it = subst (λ (x : Shape). IsKeptMending x start after c) (sym (same_some s shape is)) kept
      covers.sound.0.no_twins covers.sound.0.pieces damaged image covers.decayed.0 in
      let rest = stay untouched start c damaged image ss (map (store_at start) ss) (length-map ss (store_at start))
      (record { sound = covers.sound.1; decayed = covers.decayed.1 }) fit.1 clean.1 others in
      record { kept_all = (it.kept, rest.kept); all_clean = (it.clean, rest.clean) }
  stay_but (s ∷ ss) (suc k) is covers fit clean others =
      let it = untouched s start (store_at start s) c fit.0 clean.0 others.0 covers.sound.0.pieces damaged
      image covers.decayed.0 in
      let rest = stay_but ss k is (record { sound = covers.sound.1; decayed = covers.decayed.1 }) fit.1 clean.1 others.1
      in
      record { kept_all = (it.kept, rest.kept_all); all_clean = (it.clean, rest.all_clean) }

module _ (versions_law : (image : Image) (app : ℕ) → AreVersions (says_at image app)) (app g number : ℕ)
    (active : Named) (previous : Option Named) (s : StorageData)
    (lt : app < 8) (there : slice_get active.deployment.storages number ≡ Some s) where
  module _ (start : Image) (says : says_at start app ≡ installed g active previous) where
    versions : AreVersions (installed g active previous)
    versions = subst AreVersions says (versions_law start app)

    few_storages : number < 16
    few_storages = go previous versions
      where
        count : IsInBank active → number < 16
        count is = let keeps = is.keeps in let few = keeps.few in let its =
            its_number app g number active previous s lt there in omega (arith, few, its)

        go : (p : Option Named) → AreVersions (installed g active p) → number < 16
        go None is = count is
        go (Some v) is = count is.of_active

    active_bank : active.bank ≤ 1
    active_bank = go previous versions
      where
        go : (p : Option Named) → AreVersions (installed g active p) → active.bank ≤ 1
        go None is = is.in_bank
        go (Some v) is = is.of_active.in_bank

    others_beside : (bank i : ℕ) (t : StorageData) → bank ≤ 1 → i < 16 → (bank ≡ active.bank → i ≡ number → ⊥) → (f : ℕ)
        → IsOfPlace (storage_shape app bank i t).place f
        → IsFileOf app f × IsBeside app active.bank number f
    others_beside bank i t ltb lti differs f of = (
      storage_own app bank i t lt ltb lti f of,
      storage_beside app bank i t lt ltb lti active.bank number f active_bank few_storages differs of,
    )

    shape_is : slice_get (shapes_named app (says_at start app)) number ≡ Some (storage_shape app active.bank number s)
    shape_is = ap (λ (x : Says). slice_get (shapes_named app x) number) says
        ∙ its_shape app g number active previous s lt there

    others_by : (P : Shape → Type 0) → ((bank i : ℕ) (t : StorageData) → bank ≤ 1 → i < 16
        → (bank ≡ active.bank → i ≡ number → ⊥) → IsStorage t → P (storage_shape app bank i t))
        → AllBut P (shapes_named app (says_at start app)) number
    others_by P each = subst (λ (x : Says). AllBut P (shapes_named app x) number) (sym says)
        (but_named app g number active previous s lt there P each versions)

    pub storing : UntouchedLaw → IsCleanApp app start → (after : State) (c : Case)
        → IsSettledOn (λ file. IsFileOf app file × IsBeside app active.bank number file) start c
        → IsKeptMending (storage_shape app active.bank number s) start after c
        → StandsCase app (app_at start app) (record (app_at start app) {
          states =
              slice_set (app_at start app).states number after;
        }) c
    storing untouched clean after c settled kept sound damaged image decays =
        let fit = all_fit app lt (says_at start app) (versions_law start app) in
        let others = others_by (λ other. IsSettledOn (IsOfPlace other.place) start c)
        (λ bank i t ltb lti differs is. settled_less (λ f of. others_beside bank i t ltb lti differs f of) settled) in
        let both = λ (e : says_at image app ≡ says_at start app).
        stay_but untouched start c damaged image (storage_shape app active.bank number s) after kept
        (shapes_named app (says_at start app)) number shape_is
        (named_covers app c sound damaged image decays (says_at start app) e) fit clean.storages others in
        stands_resting untouched app start c clean fit sound damaged image decays
        (settled_less (λ f of. (root_own app f lt of, root_beside app active.bank number f lt of)) settled)
        (record (app_at start app) { states = slice_set (app_at start app).states number after }) (app_says start app)
        (λ e. (both e).all_clean)
        (λ e. subst (λ (xs : List State). AreKept image damaged (shapes_named app (says_at start app))
        (map (store_at start) (shapes_named app (says_at start app))) (slice_set xs number after))
        (sym (app_states start app)) (both e).kept_all)

    -- ---- one storage came to another state

    module _ (frame : FrameLaw) (new : Image) where
      stored_states : (shapes : List Shape) (k : ℕ) (shape : Shape) → slice_get shapes k ≡ Some shape
          → AllBut (λ other. Spares (IsOfPlace other.place) start new) shapes k
          → map (store_at new) shapes ≡ slice_set (map (store_at start) shapes) k (store_at new shape)
      stored_states [] k shape is others = absurd (not_some shape is)
      stored_states (x ∷ xs) zero shape is others =
          ap (λ (y : Shape). store_at new y ∷ map (store_at new) xs) (same_some x shape is)
          ∙ ap (λ (ss : List State). store_at new shape ∷ ss) (same_states frame start new xs others)
      stored_states (x ∷ xs) (suc k) shape is others =
          ap (λ (st : State). st ∷ map (store_at new) xs) (frame x start new others.0).state
          ∙ ap (λ (ss : List State). store_at start x ∷ ss) (stored_states xs k shape is others.1)

      stored_clean : (shapes : List Shape) (k : ℕ) (shape : Shape) → slice_get shapes k ≡ Some shape
          → AllBut (λ other. Spares (IsOfPlace other.place) start new) shapes k
          → AreClean start shapes → IsClean shape new → AreClean new shapes
      stored_clean [] k shape is others clean it = tt
      stored_clean (x ∷ xs) zero shape is others clean it = (
        subst (λ (y : Shape). IsClean y new) (sym (same_some x shape is)) it,
        still_clean frame start new xs others clean.1,
      )
      stored_clean (x ∷ xs) (suc k) shape is others clean it =
          ((frame x start new others.0).clean clean.0, stored_clean xs k shape is others.1 clean.1 it)

      module _ (standing_law : StandingLaw) (spared : Spares
          (λ file. IsFileOf app file × IsBeside app active.bank number file) start new) where
        root_spared : Spares (IsOfPlace (root_place app)) start new
        root_spared f of = spared f (root_own app f lt of, root_beside app active.bank number f lt of)

        others_spared : AllBut (λ other. Spares (IsOfPlace other.place) start new)
            (shapes_named app (says_at start app)) number
        others_spared = others_by (λ other. Spares (IsOfPlace other.place) start new)
            (λ bank i t ltb lti differs is f of. spared f (others_beside bank i t ltb lti differs f of))

        pub stored : (app_at new app ≡ record (app_at start app) {
          states =
              slice_set (app_at start app).states number (store_at new (storage_shape app active.bank number s));
        })
            × (IsCleanApp app start → IsClean (storage_shape app active.bank number s) new → IsCleanApp app new)
        stored = (
          app_becomes app start new root_spared standing_law
              (slice_set (app_at start app).states number (store_at new (storage_shape app active.bank number s)))
              (stored_states (shapes_named app (says_at start app)) number
              (storage_shape app active.bank number s) shape_is
              others_spared
              ∙ ap (λ (xs : List State). slice_set xs number (store_at new (storage_shape app active.bank number s)))
              (sym (app_states start app))),
          λ clean it. app_clean_by app start new root_spared standing_law
              (stored_clean (shapes_named app (says_at start app)) number
              (storage_shape app active.bank number s) shape_is
              others_spared clean.storages it) clean.root,
        )
