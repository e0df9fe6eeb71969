-- The next version is made in a bank in which none is, and then the root is written once: what every moment, and the
-- end, leave of the application.
use denote.Ref.{Bor}
use Rattle.std.proofs.Common.{◌≡◌, ℕ, ◌+◌, ◌-◌, ◌≤◌, ◌<◌, List, [], ◌∷◌, ◌++◌, suc, ◌⊎◌, Bool, IsTrue, Option, Some}
use Rattle.std.proofs.Common.{None, refl, sym, ap, ◌∙◌, subst, inl, inr, ⊎_elim, arith}
use Rattle.std.specs.Prelude.{IfOk, OnOk, Result, Ok, Err, map, option_map}
use Rattle.std.specs.List.{AllByRecursion}
use Rattle.std.specs.Option.{ForSome}
use Rattle.std.proofs.lemmas.Bool.{cases_lt}
use Rattle.std.proofs.lemmas.List.{append-nil, map-append}
use Rattle.per_base.specs.declared.elements.Fresh.{Fresh}
use Rattle.disk_model.specs.Frame.{Spares}
use Rattle.disk_model.specs.Image.{Image}
use Rattle.disk_model.specs.Laws.{goes_on}
use Rattle.disk_model.specs.Medium.{EachCase, Elapses, Medium, Quiet}
use Rattle.disk_model.specs.Place.{IsNoSlot}
use Rattle.guarded_cell.specs.Cells.{CellAt, IsCellOf, generation_of as counted, place_of}
use Rattle.guarded_cell.specs.declared.cell.Cell.{Cell}
use Rattle.guarded_cell.specs.Register.{IsAlone}
use Rattle.guarded_cell.specs.Stops.{PutStops}
use Rattle.deployment_model.specs.Data.{StorageData}
use Rattle.element_state.specs.Clean.{IsClean}
use Rattle.element_state.specs.States.{State, fresh_map, fresh_state, store_at}
use Rattle.element_state.specs.declared.shapes.Shape.{Shape}
use Rattle.element_laws.specs.Phases.{IsOfPlace}
use Rattle.root_text.specs.RootText.{IfVersion, IsRoot, IsVersion, Version, root_text}
use Rattle.root_text.specs.RootText as text
use Rattle.root_text.specs.Views.{version_said}
use Rattle.root_text.specs.declared.versions.VersionText.{VersionText}
use Rattle.update_plan.specs.Plans.{AllFit}
use Rattle.deploy_laws.specs.Apps.{AreClean, AreOn, App, IsCleanApp, IsFree, Says, app_at, says_generation}
use Rattle.deploy_laws.specs.Apps.{named_in_bank, says_at, says_by, shapes_named}
use Rattle.deploy_laws.specs.Laws.{AloneCleanLaw, AloneFrameLaw, AloneLaw, CreatingLaw, RootAloneLaw, RootFilesLaw}
use Rattle.deploy_laws.specs.Laws.{RootSlotsLaw, VersionsLaw, WritingLaw}
use Rattle.deploy_laws.specs.Places.{IsOutsideBank, first_file, root_place, shapes_from, shapes_if, shapes_in}
use Rattle.deploy_laws.specs.Places.{storage_file}
use Rattle.deploy_laws.specs.Stands.{IsLater, StandsCase, StandsThroughout, next_root}
use Rattle.deploy_rows.specs.Rows.{made_states}
use Rattle.deploy.specs.declared.errors.Stop.{Stop}
use Rattle.deploy.specs.Clauses.{IsBesideNext, IsNoRootSlot, Leaves}
use Rattle.deploy.specs.Made.{AreMade}
use Rattle.deploy.specs.Next.{next_app, root_before}
use Rattle.deploy.specs.Remaining.{IsBesideCommit, IsBesideRest}
use Rattle.deploy.proofs.InUse.{AgainLaw, alone_cell, app_says, app_that, cell_alone, held_app, written_app}
use Rattle.deploy.proofs.InUse.{written_clean}
use Rattle.deploy.proofs.Leaves.{leaves_less, leaves_on}
use Rattle.deploy.proofs.MadeStorages.{bank_in_rest}
use Rattle.deploy.proofs.Writes.{write_stands}

-- of others_stand
abbrev pub FreeBankLaw : Type 0
FreeBankLaw = (app bank : ℕ) (old new : Image) → app < 8 → bank ≤ 1 → IsFree bank (says_at old app)
    → Spares (IsOutsideBank app bank) old new
    → (app_at new app ≡ app_at old app) × (IsCleanApp app old → IsCleanApp app new)

-- ---- the version before it

pub if_behind : (previous : Option (Bor VersionText)) → ForSome previous
    (λ (v : Bor VersionText). IsVersion (version_said v.now))
    → IfVersion (option_map (λ (v : Bor VersionText). version_said v.now) previous)
if_behind None has = tt
if_behind (Some v) has = has v refl

-- ---- the root over which it is made

before_is_root : (bank : ℕ) (previous : Option Version) → IfVersion previous → IsRoot (root_before bank previous)
before_is_root bank None is = tt
before_is_root bank (Some v) is = record { in_bank = omega arith; of_active = is; of_previous = tt }

before_is_free : (g bank : ℕ) (previous : Option Version) → bank ≤ 1
    → IsFree bank (says_by g (Some (root_before bank previous)))
before_is_free g bank None le = tt
before_is_free g bank (Some v) le = λ (same : 1 - bank ≡ bank). absurd (omega (arith, le, same))

before_counts : (g bank : ℕ) (previous : Option Version)
    → says_generation (says_by g (Some (root_before bank previous))) ≡ g
before_counts g bank None = refl
before_counts g bank (Some v) = refl

before_names : (app g bank : ℕ) (previous : Option Version)
    → shapes_named app (says_by g (Some (root_before bank previous)))
    ≡ shapes_if app (option_map (named_in_bank (1 - bank)) previous)
unfolding shapes_named
before_names app g bank None = refl
before_names app g bank (Some v) = append-nil (shapes_in app (named_in_bank (1 - bank) v))

next_names : (app g bank : ℕ) (v : Version) (previous : Option Version)
    → shapes_named app (says_by g (Some (text.installed bank v previous)))
    ≡ shapes_in app (named_in_bank bank v) ++ shapes_if app (option_map (named_in_bank (1 - bank)) previous)
unfolding shapes_named
next_names app g bank v previous = refl

-- ---- storages that are made

joined : (P : Shape → Type 0) (xs ys : List Shape) → AllByRecursion P xs → AllByRecursion P ys
    → AllByRecursion P (xs ++ ys)
joined P [] ys all more = more
joined P (x ∷ xs) ys all more = (all.0, joined P xs ys all.1 more)

made_clean : (image : Image) (app bank number : ℕ) (ss : List StorageData) (contents : List (List Fresh))
    → AllFit ss contents
    → AreMade image (shapes_from app bank number ss) contents → AreClean image (shapes_from app bank number ss)
made_clean image app bank number [] contents fit made = tt
made_clean image app bank number (s ∷ ss) [] fit made = absurd made
made_clean image app bank number (s ∷ ss) (c ∷ cs) fit made =
    (made.1, made_clean image app bank (suc number) ss cs fit.1 made.2)

states_made : (image : Image) (app bank number : ℕ) (ss : List StorageData) (contents : List (List Fresh))
    → AllFit ss contents
    → AreMade image (shapes_from app bank number ss) contents
    → map (store_at image) (shapes_from app bank number ss) ≡ made_states contents
states_made image app bank number [] [] fit made = refl
states_made image app bank number [] (c ∷ cs) fit made = absurd fit
states_made image app bank number (s ∷ ss) [] fit made = absurd made
states_made image app bank number (s ∷ ss) (c ∷ cs) fit made =
    ap (λ (state : State). state ∷ map (store_at image) (shapes_from app bank (suc number) ss)) made.0
    ∙ ap (λ (states : List State). fresh_state 1 (fresh_map c) ∷ states)
    (states_made image app bank (suc number) ss cs fit.1 made.2)

-- ---- the application

app_states : (image : Image) (app : ℕ) → (app_at image app).states
    ≡ map (store_at image) (shapes_named app (says_at image app))
unfolding app_at
app_states image app = refl

module _ (again : AgainLaw) (alone : AloneLaw) (app g bank : ℕ) (v : Version) (previous : Option Version)
    (contents : List (List Fresh))
    (lt : app < 8) (le : bank ≤ 1) (is : IsVersion v) (has : IfVersion previous) where
  abbrev pub before : text.Root
  before = root_before bank previous

  abbrev pub next : text.Root
  next = text.installed bank v previous

  next_is_root : IsRoot next
  next_is_root = record { in_bank = le; of_active = is; of_previous = has }

  abbrev pub after : Image → App
  after start = next_app (g + 1) bank v previous contents (app_at start app)

  module _ (start : Image) (held : IsAlone start (root_place app) g (root_text before)) where
    pub app_before : app_at start app ≡ app_that start app (says_by g (Some before))
    app_before = held_app again alone start app g before (before_is_root bank previous has) held

    pub says_before : says_at start app ≡ says_by g (Some before)
    says_before = sym (app_says start app) ∙ ap (λ (a : App). a.says) app_before

    pub states_before : (app_at start app).states ≡ map (store_at start)
        (shapes_if app (option_map (named_in_bank (1 - bank)) previous))
    states_before = ap (λ (a : App). a.states) app_before
        ∙ ap (λ (shapes : List Shape). map (store_at start) shapes) (before_names app g bank previous)

    pub free : IsFree bank (says_at start app)
    free = subst (λ (s : Says). IsFree bank s) (sym says_before) (before_is_free g bank previous le)

    pub comes_later : IsLater (app_at start app) (after start)
    comes_later =
        let counts : says_generation (app_at start app).says ≡ g =
        ap (λ (a : App). says_generation a.says) app_before ∙ before_counts g bank previous in
        next_root (omega (arith, counts))

  -- ---- storages are made

  -- the root's files are none of the bank's
  root_outside : RootFilesLaw → (f : ℕ) → IsOfPlace (root_place app) f → IsOutsideBank app bank f
  root_outside files f of =
      let in_root = files app f lt of in
      let low = in_root.1 in
      inl (omega (arith, low))

  module _ (framed : AloneFrameLaw) (files : RootFilesLaw) (keeps : FreeBankLaw) (start mid : Image)
      (held : IsAlone start (root_place app) g (root_text before))
      (spared : Spares (IsOutsideBank app bank) start mid) where
    pub held_still : IsAlone mid (root_place app) g (root_text before)
    held_still = framed app g (root_text before) start mid (λ f of. spared f (root_outside files f of)) held

    pub app_still : app_at mid app ≡ app_at start app
    app_still = (keeps app bank start mid lt le (free start held) spared).0

    pub clean_still : IsCleanApp app start → IsCleanApp app mid
    clean_still = (keeps app bank start mid lt le (free start held) spared).1

    -- what is named stays as it was, and what is made is beside it
    module _ (fit : AllFit v.deployment.storages contents)
        (made : AreMade mid (shapes_from app bank 0 v.deployment.storages) contents) where
      pub states_next : map (store_at mid) (shapes_named app (says_by (g + 1) (Some next))) ≡ (after start).states
      states_next = ap (λ (shapes : List Shape). map (store_at mid) shapes) (next_names app (g + 1) bank v previous)
          ∙ map-append (store_at mid) (shapes_in app (named_in_bank bank v))
          (shapes_if app (option_map (named_in_bank (1 - bank)) previous))
          ∙ ap (λ (states : List State). states ++ map (store_at mid)
          (shapes_if app (option_map (named_in_bank (1 - bank)) previous)))
          (states_made mid app bank 0 v.deployment.storages contents fit made)
          ∙ ap (λ (states : List State). made_states contents ++ states)
          (sym (states_before mid held_still) ∙ ap (λ (a : App). a.states) app_still)

      named_clean : (previous ≡ None) ⊎ IsCleanApp app start
          → AreClean mid (shapes_if app (option_map (named_in_bank (1 - bank)) previous))
      named_clean (inl none) = subst (λ (p : Option Version).
          AreClean mid (shapes_if app (option_map (named_in_bank (1 - bank)) p))) (sym none) tt
      named_clean (inr clean) = subst (λ (shapes : List Shape). AreClean mid shapes)
          (ap (λ (s : Says). shapes_named app s) (says_before mid held_still) ∙ before_names app g bank previous)
          (clean_still clean).storages

      pub on_next : (previous ≡ None) ⊎ IsCleanApp app start
          → AreOn mid (shapes_named app (says_by (g + 1) (Some next))) (after start).states
      on_next were = record {
        clean = subst (λ (shapes : List Shape). AreClean mid shapes) (sym (next_names app (g + 1) bank v previous))
            (joined (λ (shape : Shape). IsClean shape mid) (shapes_in app (named_in_bank bank v))
            (shapes_if app (option_map (named_in_bank (1 - bank)) previous))
            (made_clean mid app bank 0 v.deployment.storages contents fit made) (named_clean were));
        states_are = states_next;
      }

      module _ (versions : VersionsLaw) (slots : RootSlotsLaw) (aside : RootAloneLaw) (clean : AloneCleanLaw)
          (last : Image)
          (written : Spares (IsNoSlot (root_place app)) mid last)
          (now : IsAlone last (root_place app) (g + 1) (root_text next)) where
        pub app_after : app_at last app ≡ after start
        app_after = written_app again alone versions slots aside clean app (g + 1) next mid last lt next_is_root written
            now
            ∙ ap (λ (states : List State). record { says = says_by (g + 1) (Some next); lacking = []; states = states })
            states_next

        pub clean_after : (previous ≡ None) ⊎ IsCleanApp app start → IsCleanApp app last
        clean_after were =
            written_clean again alone versions slots aside clean app (g + 1) next mid last lt next_is_root written now
            (on_next were).clean

  -- ---- every moment

  module _ (creating : CreatingLaw) (told : Bool) (old mid : Medium)
      (outside : Leaves told (IsOutsideBank app bank) old mid)
      (held : IsTrue told → IsAlone old.image (root_place app) g (root_text before)) where
    pub stands_making : IsTrue told → StandsThroughout app (after old.image) old mid
    stands_making tells quiet clean c past = creating app bank old.image (after old.image) c lt le clean
        (free old.image (held tells))
        (outside.throughout tells quiet c past) (comes_later old.image (held tells))

    module _ (framed : AloneFrameLaw) (files : RootFilesLaw) (keeps : FreeBankLaw) (writing : WritingLaw) (new : Medium)
        (time : Elapses old mid)
        (later : Elapses mid new) (quiets : Quiet old → Quiet mid) (fit : AllFit v.deployment.storages contents)
        (made : IsTrue told → AreMade mid.image (shapes_from app bank 0 v.deployment.storages) contents)
        (puts : IsTrue told → Quiet mid → EachCase (PutStops (root_place app) (g + 1) (root_text next)
        mid.image) mid new) where
      pub stands_written : IsTrue told → StandsThroughout app (after old.image) old new
      stands_written tells quiet clean =
          let spared = outside.at_the_end tells in
          goes_on (StandsCase app (app_at old.image app) (after old.image)) time later (stands_making tells quiet clean)
          (λ c past. subst (λ (a : App). StandsCase app a (after old.image) c)
          (app_still framed files keeps old.image mid.image (held tells) spared)
          (write_stands again writing app g next (root_text before) lt next_is_root (after old.image) refl mid new
          (clean_still framed files keeps old.image mid.image (held tells) spared clean)
          (held_still framed files keeps old.image mid.image (held tells) spared)
          (on_next framed files keeps old.image mid.image (held tells) spared fit (made tells) (inr clean))
          (puts tells (quiets quiet)) c past))

-- ---- files

pub leaves_writing : (told : Bool) (app g : ℕ) (t : List ℕ) (old new : Medium)
    → (IsTrue told → Spares (IsNoSlot (root_place app)) old.image new.image)
    → (IsTrue told → Quiet old → EachCase (PutStops (root_place app) g t old.image) old new)
    → Leaves told (IsNoRootSlot app) old new
leaves_writing told app g t old new spared puts = record {
  at_the_end = spared;
  throughout =
      λ tells quiet c past. (puts tells quiet c past).elsewhere;
}

module _ (told : Bool) (app bank built count : ℕ) where
  pub leaves_making : (old new : Medium) → Leaves told (IsBesideRest app bank built count) old new
      → Leaves told (IsBesideCommit app bank built count) old new
  leaves_making old new outside = leaves_less told (IsBesideRest app bank built count)
      (IsBesideCommit app bank built count) old new (λ f is. is.1) outside

  pub leaves_next : (old mid new : Medium) → Elapses old mid → Elapses mid new → (Quiet old → Quiet mid)
      → Leaves told (IsBesideRest app bank built count) old mid → Leaves told (IsNoRootSlot app) mid new
      → Leaves told (IsBesideCommit app bank built count) old new
  leaves_next old mid new time later quiets outside root =
      leaves_on told (IsBesideCommit app bank built count) old mid new time later quiets (leaves_making old mid outside)
      (leaves_less told (IsNoRootSlot app) (IsBesideCommit app bank built count) mid new (λ f is. is.0) root)

  module _ (old new : Medium) (leaves : Leaves told (IsBesideCommit app bank built count) old new) where
    -- with no storage remaining
    pub leaves_root : count ≤ built → Leaves told (IsNoRootSlot app) old new
    leaves_root none = leaves_less told (IsBesideCommit app bank built count) (IsNoRootSlot app) old new
        (λ f no. (no, nothing_remains f)) leaves
      where
        nothing_remains : (f : ℕ) → IsBesideRest app bank built count f
        nothing_remains f = ⊎_elim (λ below. inl below) (λ above. inr (omega (arith, above, none)))
            (cases_lt f (storage_file app bank built))

    -- the storages are in the bank
    pub leaves_whole : count ≤ 16 → Leaves told (IsBesideNext app bank) old new
    leaves_whole few = leaves_less told (IsBesideCommit app bank built count) (IsBesideNext app bank) old new
        (λ f is. (is.0, bank_in_rest app bank built count few f is.1)) leaves

-- ---- the register that was written

pub on_written : (r : Result Cell Stop) (P : Type 0) (image : Image) (app g : ℕ) (t : List ℕ)
    → IfOk r (IsCellOf (root_place app) g) → IfOk r (λ next. CellAt image next t)
    → (IsAlone image (root_place app) g t → P) → OnOk r P
on_written (Err e) P image app g t lies held then = tt
on_written (Ok next) P image app g t lies held then =
    then (subst (λ (n : ℕ). IsAlone image (root_place app) n t) lies.counts
    (cell_alone image app next t lies.lies held))

-- a register of the root keeps its text while only files of a bank change
pub root_kept : AloneFrameLaw → RootFilesLaw → (app bank : ℕ) (old new : Image) (cell : Cell) (t : List ℕ) → app < 8
    → Spares (IsOutsideBank app bank) old new
    → place_of cell ≡ root_place app → CellAt old cell t → CellAt new cell t
root_kept framed files app bank old new cell t lt spared lies at = alone_cell new app cell t lies
    (framed app (counted cell) t old new
    (λ f of. spared f (let in_root = files app f lt of in let low : f < first_file app + 12 =
    in_root.1 in inl (omega (arith, low))))
    (cell_alone old app cell t lies at))
