-- The storage that was found by what is seen of a root, as it is found in the application that was seen.
use Rattle.std.proofs.Common.{◌≡◌, ℕ, ◌<◌, ◌≤◌, Bool, true, false, List, [], map, Option, Some, None, Result, Ok, Err}
use Rattle.std.proofs.Common.{option_map, length, slice_get, slice_index_or, refl, sym, ap, ◌∙◌, subst, true≢false}
use Rattle.std.specs.Prelude.{IfErr, IsTrue}
use Rattle.std.proofs.lemmas.Option.{slice_get-map, slice_get_read}
use Rattle.per_base.specs.declared.errors.PerError.{PerError}
use Rattle.disk_model.specs.Image.{Image}
use Rattle.deployment_model.specs.Data.{StorageData, storage_data}
use Rattle.deployment_model.specs.declared.configs.StorageConfig.{StorageConfig}
use Rattle.element_state.specs.declared.shapes.Shape.{Shape}
use Rattle.element_state.specs.States.{State, store_at}
use Rattle.deploy_laws.specs.Places.{Named}
use Rattle.deploy_laws.specs.Apps.{App, Says, absent, app_at, installed, nothing, root_sole, says_at}
use Rattle.deploy.specs.Views.{RootSeen, bad, no_version, seen_at, seen_by, versions}
use Rattle.run_model.specs.Found.{found_at, found_in, found_with, storage_in}
use Rattle.per_backup.specs.Clauses.{IsAppSeen}
use Rattle.per_backup.specs.Finding.{IsIn, IsLocatedAs, IsMissingStorage, IsOut, IsStorageOf, config_of, found_as}
use Rattle.per_backup.specs.declared.finding.Located.{Located}
use Rattle.per_backup.specs.StorageLaws.{BackupLaws}
use Rattle.per_backup.proofs.Stored.{says_of, state_there}

-- ---- an application of which this was seen

abbrev says_so : RootSeen → Says
says_so bad = nothing
says_so (no_version lacking sole) = absent 0
says_so (versions active previous lacking sole) = installed 0 active previous

abbrev app_so : RootSeen → List State → App
app_so look states = record { says = says_so look; lacking = []; states = states }

-- ---- none is found

out_by : (look : RootSeen) (name : List ℕ) (e : PerError) → IsOut name look e
    → (says : Says) (lacking : List ℕ) (sole : Bool) → look ≡ seen_by says lacking sole
    → (states : List State) → found_in says states name None ≡ Err e
out_by look name e out nothing lacking sole is states =
    ap (λ (x : PerError). Err x) (sym (subst (λ (l : RootSeen). IsOut name l e) is out))
out_by look name e out (absent g) lacking sole is states =
    ap (λ (x : PerError). Err x) (sym (subst (λ (l : RootSeen). IsOut name l e) is out))
out_by look name e out (installed g active previous) lacking sole is states =
    let so = subst (λ (l : RootSeen). IsOut name l e) is out in
    ap (found_at active states None) so.0 ∙ ap (λ (x : PerError). Err x) (sym so.1)

out_so : (look : RootSeen) (name : List ℕ) (e : PerError) → IsOut name look e
    → found_in (says_so look) [] name None ≡ Err e
out_so bad name e out = ap (λ (x : PerError). Err x) (sym out)
out_so (no_version lacking sole) name e out = ap (λ (x : PerError). Err x) (sym out)
out_so (versions active previous lacking sole) name e out =
    ap (found_at active [] None) out.0 ∙ ap (λ (x : PerError). Err x) (sym out.1)

pub missing : (told : Bool) (image : Image) (app : ℕ) (name : List ℕ) (look : RootSeen)
    → (IsTrue told → look ≡ seen_at image app)
    → (e : PerError) → IsOut name look e → IsMissingStorage told image app name e
missing true image app name look seen e out = (
  app_at image app,
  λ tells. refl,
  out_by look name e out (app_at image app).says (app_at image app).lacking (root_sole image app) (seen refl)
      (app_at image app).states,
)
missing false image app name look seen e out = (
  app_so look [],
  λ tells. absurd (true≢false (sym tells)),
  out_so look name e out,
)

-- ---- one is found

-- the root says what was seen
says_seen : (active : Named) (previous : Option Named) (lacking : List ℕ) (sole : Bool) (says : Says)
    (others : List ℕ) (alone : Bool)
    → versions active previous lacking sole ≡ seen_by says others alone
    → (g : ℕ) × (before : Option Named) × (says ≡ installed g active before)
says_seen active previous lacking sole nothing others alone is = absurd cc
says_seen active previous lacking sole (absent g) others alone is = absurd cc
says_seen active previous lacking sole (installed g v before) others alone is = let e : v ≡ active =
    cc in (g, before, ap (λ (x : Named). installed g x before) e)

found_so : (active : Named) (states : List State) (found : Option ℕ) (number : ℕ) (s : StorageData) (state : State)
    → found ≡ Some number
    → slice_get active.deployment.storages number ≡ Some s → slice_get states number ≡ Some state
    → found_at active states None found ≡ Ok (record { bank = active.bank; number = number; config = s; state = state })
found_so active states found number s state by at is = ap (found_at active states None) by
    ∙ ap (λ (c : Option StorageData). found_with active.bank number None c (slice_get states number)) at
    ∙ ap (λ (x : Option State). found_with active.bank number None (Some s) x) is

module _ (laws : BackupLaws) (image : Image) (app : ℕ) (name : List ℕ) (active : Named) (l : Located)
    (of : IsStorageOf app name active l) where
  named_there : (g : ℕ) (previous : Option Named) → says_at image app ≡ installed g active previous → (state : State)
      → state ≡ store_at image l.shape
      → storage_in (app_at image app) name None ≡ Ok (found_as active of.number l state)
  named_there g previous says state is =
      ap (λ (x : Says). found_in x (app_at image app).states name None) (says_of image app ∙ says)
      ∙ found_so active (app_at image app).states _ of.number (config_of l) state of.by_name of.config
      (state_there laws app g active previous of.number (config_of l) of.config image says
      ∙ ap (λ (x : State). Some x) (ap (store_at image) (sym of.shape) ∙ sym is))

  named_so : (previous : Option Named) (lacking : List ℕ) (sole : Bool) (state : State)
      → storage_in (app_so (versions active previous lacking sole)
      (map (λ (s : StorageData). state) active.deployment.storages)) name None
      ≡ Ok (found_as active of.number l state)
  named_so previous lacking sole state = found_so active
      (map (λ (s : StorageData). state) active.deployment.storages) _ of.number (config_of l) state of.by_name of.config
      (slice_get-map (λ (s : StorageData). state) active.deployment.storages of.number
      ∙ ap (option_map (λ (s : StorageData). state)) of.config)

pub located : BackupLaws → (told : Bool) (image : Image) (app : ℕ) (name : List ℕ) (look : RootSeen)
    → (IsTrue told → look ≡ seen_at image app)
    → (l : Located) → IsIn app name look l → IsLocatedAs told image app name l
located laws told image app name bad seen l of = absurd of
located laws told image app name (no_version lacking sole) seen l of = absurd of
located laws told image app name (versions active previous lacking sole) seen l of = record {
  active = active;
  of = of;
  says = says;
  named = named told refl;
}
  where
    says : IsTrue told → (g : ℕ) × (before : Option Named) × (says_at image app ≡ installed g active before)
    says tells = let s = says_seen active previous lacking sole (app_at image app).says (app_at image app).lacking
        (root_sole image app) (seen tells) in
        (s.0, s.1, sym (says_of image app) ∙ s.2)

    named : (b : Bool) → b ≡ told → (state : State) → (IsTrue told → state ≡ store_at image l.shape)
        → (it : App) × IsAppSeen told image app it × (storage_in it name None ≡ Ok (found_as active of.number l state))
    named true is state at = let s = says (sym is) in
        (app_at image app, λ tells. refl, named_there laws image app name active l of s.0 s.1 s.2 state (at (sym is)))
    named false is state at = (
      app_so (versions active previous lacking sole) (map (λ (s : StorageData). state) active.deployment.storages),
      λ tells. absurd (true≢false (sym (is ∙ tells))),
      named_so laws image app name active l of previous lacking sole state,
    )

-- ---- by their numbers

pub config_there : (storages ys : List StorageConfig) (n : ℕ) (s : StorageConfig) → ys ≡ storages → n < length storages
    → s ≡ slice_index_or ys n s
    → slice_get (map storage_data storages) n ≡ Some (storage_data s)
config_there storages ys n s e lt is = slice_get-map storage_data storages n
    ∙ ap (option_map storage_data) (slice_get_read storages (length storages) n s refl lt
    (is ∙ ap (λ (xs : List StorageConfig). slice_index_or xs n s) e))

pub weaker_err : {X E : Type 0} (r : Result X E) (P Q : E → Type 0) → ((e : E) → P e → Q e) → IfErr r P → IfErr r Q
weaker_err (Ok x) P Q leads p = tt
weaker_err (Err e) P Q leads p = leads e p
