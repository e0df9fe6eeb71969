-- The rows of an export and an import, by the storage that is found.
use Rattle.std.proofs.Common.{◌≡◌, ℕ, ◌+◌, ◌<◌, ◌≤◌, Bool, true, false, cond, List, [], ◌∷◌, length, Option, Some, None}
use Rattle.std.proofs.Common.{Result, Ok, Err, slice_get, slice_set, refl, sym, ap, ◌∙◌, subst, true≢false, arith}
use Rattle.std.specs.Prelude.{IsErr, IsOk, is_err, is_ok}
use Rattle.per_base.specs.declared.errors.PerError.{PerError}
use Rattle.disk_model.specs.Image.{Image}
use Rattle.deployment_model.specs.Conditions.{IsStorage}
use Rattle.deployment_model.specs.Data.{StorageData}
use Rattle.deployment_model.specs.Lookups.{storage_number}
use Rattle.element_state.specs.States.{State}
use Rattle.deploy_laws.specs.Places.{Named, storage_shape}
use Rattle.deploy_laws.specs.Apps.{App, AreVersions, Says, absent, app_at, installed, nothing, says_at}
use Rattle.deploy_laws.specs.Stands.{IsLater, same_root}
use Rattle.deploy_rows.specs.Recovering.{after_state}
use Rattle.deploy_rows.specs.Rows.{◌>>=◌, AnswersRow, after}
use Rattle.run_model.specs.Found.{FoundStorage, found_at, found_in, found_with, shape_in, storage_in, with_storage_state}
use Rattle.per_backup.specs.Backups.{exporting, importing, importing_into, text_from}
use Rattle.per_backup.specs.StorageLaws.{BackupLaws}
use Rattle.per_backup.proofs.Lists.{all_at, length_set, ok_same}
use Rattle.per_backup.proofs.Stored.{says_of}

-- ---- a storage that is found, or none

pub one_found : (a : App) (name : List ℕ) (f g : FoundStorage) → storage_in a name None ≡ Ok f
    → storage_in a name None ≡ Ok g → f ≡ g
one_found a name f g is so = ok_same f g (sym is ∙ so)

pub exporting_found : (a : App) (name : List ℕ) (f : FoundStorage) → storage_in a name None ≡ Ok f
    → exporting a name ≡ text_from f.config f.state
unfolding exporting
exporting_found a name f is = ap (λ (r : Result FoundStorage PerError). r >>= λ g. text_from g.config g.state) is

pub exporting_missing : (a : App) (name : List ℕ) (e : PerError) → storage_in a name None ≡ Err e
    → exporting a name ≡ Err e
unfolding exporting
exporting_missing a name e is = ap (λ (r : Result FoundStorage PerError). r >>= λ g. text_from g.config g.state) is

-- the application with a state, if it is one
abbrev pub with_row : App → FoundStorage → Result State PerError → Result App PerError
with_row a f row = row >>= λ state. Ok (with_storage_state a f state)

pub importing_found : (a : App) (name text : List ℕ) (f : FoundStorage) → storage_in a name None ≡ Ok f
    → importing_into a name text ≡ with_row a f (importing f.config f.state text)
unfolding importing_into
importing_found a name text f is = ap (λ (r : Result FoundStorage PerError). r >>= λ g.
    importing g.config g.state text >>= λ state. Ok (with_storage_state a g state)) is

pub importing_missing : (a : App) (name text : List ℕ) (e : PerError) → storage_in a name None ≡ Err e
    → importing_into a name text ≡ Err e
unfolding importing_into
importing_missing a name text e is = ap (λ (r : Result FoundStorage PerError). r >>= λ g.
    importing g.config g.state text >>= λ state. Ok (with_storage_state a g state)) is

-- ---- what a row leads to

pub answers_row : (a : App) (f : FoundStorage) (refused : Option PerError) (row : Result State PerError)
    → AnswersRow refused row
    → AnswersRow refused (with_row a f row)
answers_row a f None (Ok state) answers = tt
answers_row a f None (Err e) answers = absurd answers
answers_row a f (Some e) (Ok state) answers = absurd answers
answers_row a f (Some e) (Err g) answers = answers

pub after_row : (a : App) (f : FoundStorage) (row : Result State PerError) → with_storage_state a f f.state ≡ a
    → after a (with_row a f row) ≡ with_storage_state a f (after_state f.state row)
after_row a f (Ok state) same = refl
after_row a f (Err e) same = sym same

pub row_refused : (a : App) (f : FoundStorage) (row : Result State PerError) → IsErr (with_row a f row) → IsErr row
row_refused a f (Ok state) err = err
row_refused a f (Err e) err = refl

pub row_done : (refused : Option PerError) (row : Result State PerError) → AnswersRow refused row → IsOk row
    → refused ≡ None
row_done None row answers ok = refl
row_done (Some e) (Ok state) answers ok = absurd answers
row_done (Some e) (Err g) answers ok = absurd (true≢false (sym ok))

pub row_goes : (a : App) (f : FoundStorage) (row : Result State PerError) (e : PerError) → with_row a f row ≡ Err e
    → IsOk row → ⊥
row_goes a f (Ok state) e is ok = absurd cc
row_goes a f (Err g) e is ok = true≢false (sym ok)

-- it has as many storages as before, under the same root
later_row : (a : App) (f : FoundStorage) (row : Result State PerError) → IsLater a (after a (with_row a f row))
later_row a f (Ok state) = same_root refl (length_set a.states f.number state)
later_row a f (Err e) = same_root refl refl

later_by : (a : App) (name text : List ℕ) (found : Result FoundStorage PerError) → storage_in a name None ≡ found
    → IsLater a (after a (importing_into a name text))
later_by a name text (Ok f) is = subst (λ (r : Result App PerError). IsLater a (after a r))
    (sym (importing_found a name text f is)) (later_row a f (importing f.config f.state text))
later_by a name text (Err e) is = subst (λ (r : Result App PerError). IsLater a (after a r))
    (sym (importing_missing a name text e is)) (same_root refl refl)

pub later_import : (a : App) (name text : List ℕ) → IsLater a (after a (importing_into a name text))
later_import a name text = later_by a name text (storage_in a name None) refl

-- ---- what is found is a storage of a version

record IsPart (v : Named) (f : FoundStorage) : Type 0 where
  pub bank : f.bank ≡ v.bank
  pub config : slice_get v.deployment.storages f.number ≡ Some f.config

part_with : (v : Named) (number : ℕ) (config : Option StorageData) → slice_get v.deployment.storages number ≡ config
    → (state : Option State) (f : FoundStorage)
    → found_with v.bank number None config state ≡ Ok f → IsPart v f
part_with v number (Some s) at (Some state) f is =
    let same : f ≡ record { bank = v.bank; number = number; config = s; state = state } =
    ok_same f (record { bank = v.bank; number = number; config = s; state = state }) (sym is) in
    subst (λ (g : FoundStorage). IsPart v g) (sym same) (record { bank = refl; config = at })
part_with v number (Some s) at None f is = absurd cc
part_with v number None at state f is = absurd cc

part_at : (v : Named) (states : List State) (number : Option ℕ) (f : FoundStorage) → found_at v states None number ≡ Ok f
    → IsPart v f
part_at v states None f is = absurd cc
part_at v states (Some number) f is = part_with v number (slice_get v.deployment.storages number) refl
    (slice_get states number) f is

active_keeps : (says : Says) (g : ℕ) (v : Named) (previous : Option Named) → says ≡ installed g v previous
    → AreVersions says → AreVersions (installed g v previous)
active_keeps says g v previous is are = subst AreVersions is are

storages_keep : (g : ℕ) (v : Named) (previous : Option Named) → AreVersions (installed g v previous)
    → (number : ℕ) (s : StorageData) → slice_get v.deployment.storages number ≡ Some s → IsStorage s
storages_keep g v None are number s at = all_at IsStorage v.deployment.storages number s are.keeps.each at
storages_keep g v (Some previous) are number s at = all_at IsStorage v.deployment.storages number s
    are.of_active.keeps.each at

found_keeps : (says : Says) (states : List State) (name : List ℕ) (f : FoundStorage) → AreVersions says
    → found_in says states name None ≡ Ok f → IsStorage f.config
found_keeps nothing states name f are is = absurd cc
found_keeps (absent g) states name f are is = absurd cc
found_keeps (installed g v previous) states name f are is =
    let part = part_at v states (storage_number v.deployment name) f is in
    storages_keep g v previous are f.number f.config part.config

shape_m : (app bank number : ℕ) (s : StorageData) → (storage_shape app bank number s).m ≡ s.m
unfolding storage_shape
shape_m app bank number s = refl

-- at least one of its copies has to agree
pub some_agree : BackupLaws → (image : Image) (app : ℕ) (name : List ℕ) (f : FoundStorage)
    → storage_in (app_at image app) name None ≡ Ok f → 1 ≤ (shape_in app f).m
some_agree laws image app name f is =
    let keeps = found_keeps (app_at image app).says (app_at image app).states name f
    (subst AreVersions (sym (says_of image app)) (laws.versions image app)) is in
    subst (λ (m : ℕ). 1 ≤ m) (sym (shape_m app f.bank f.number f.config)) keeps.some_agree
