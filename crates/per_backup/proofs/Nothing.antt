-- Calls that change nothing: what they keep of an application, and what follows them.
use Rattle.std.proofs.Common.{◌≡◌, ℕ, ◌<◌, ◌≤◌, Bool, List, Option, Some, None, Result, Ok, Err, refl, sym, ap, ◌∙◌}
use Rattle.std.proofs.Common.{subst}
use Rattle.std.specs.Prelude.{IsErr, IsOk, IsTrue}
use Rattle.per_base.specs.declared.errors.PerError.{PerError}
use Rattle.disk_model.specs.Frame.{IsSettledOn, Spares}
use Rattle.disk_model.specs.Image.{Image}
use Rattle.disk_model.specs.Laws.{goes_on, idle_on}
use Rattle.disk_model.specs.Medium.{EachCase, Elapses, IsIdle, Medium, Quiet}
use Rattle.disk_model.specs.lemmas.Frames.{settled_on}
use Rattle.deployment_model.specs.Data.{StorageData}
use Rattle.element_laws.specs.Phases.{IsOfPlace}
use Rattle.element_state.specs.Clean.{IsClean}
use Rattle.element_state.specs.declared.shapes.Shape.{Shape}
use Rattle.element_state.specs.Kept.{IsKeptCase, KeptThroughout}
use Rattle.element_state.specs.States.{State, store_at}
use Rattle.deploy_laws.specs.Places.{IsFileOf, IsNoFileOf}
use Rattle.deploy_laws.specs.Apps.{App, IsCleanApp, app_at}
use Rattle.deploy_laws.specs.Stands.{StandsCase, StandsThroughout}
use Rattle.deploy_rows.specs.Rows.{AnswersRow, after}
use Rattle.deploy_laws.specs.Stands.{ChangesNothing}
use Rattle.run_model.specs.Found.{FoundStorage, shape_in, storage_in}
use Rattle.per_backup.specs.Backups.{importing, importing_into}
use Rattle.per_backup.specs.declared.finding.Located.{Located}
use Rattle.per_backup.specs.Clauses.{Imported, IsAppSeen, KeepsSettled}
use Rattle.per_backup.specs.Finding.{IsLocatedAs, IsMissingStorage, config_of, found_as}
use Rattle.per_backup.specs.StorageLaws.{BackupLaws}
use Rattle.per_backup.proofs.Rows.{importing_found, importing_missing, later_import, row_goes, some_agree, with_row}

pub nothing_on : {old mid new : Medium} → Elapses old mid → ChangesNothing old mid → Elapses mid new
    → ChangesNothing mid new → ChangesNothing old new
nothing_on {old} {mid} {new} before first later next = record {
  image = next.image ∙ first.image;
  written = next.written ∙ first.written;
  idle = λ quiet. idle_on before (first.idle quiet) later (next.idle (first.idle quiet).quiet);
}

-- ---- while nothing changes

module _ (laws : BackupLaws) (app : ℕ) (lt : app < 8) (name text : List ℕ) (old new : Medium)
    (nothing : ChangesNothing old new) where
  kept_so : (shape : Shape) (state : State) → 1 ≤ shape.m → KeptThroughout shape state old new
  kept_so shape state some quiet clean c past = laws.untouched shape old.image state c some clean
      (settled_on (IsOfPlace shape.place) ((nothing.idle quiet).during c past))

  -- each moment of an import
  pub nothing_keeps : KeepsSettled app name text old new
  nothing_keeps = record {
    kept = λ f found. kept_so (shape_in app f) _ (some_agree laws old.image app name f found);
    elsewhere = λ f found file out. ap (λ (im : Image). im file) nothing.image;
    outside = λ f found quiet c past. settled_on _ ((nothing.idle quiet).during c past);
    stands = λ quiet clean c past. laws.still app old.image _ c lt clean
        (settled_on (IsFileOf app) ((nothing.idle quiet).during c past))
        (later_import (app_at old.image app) name text);
    beside = λ quiet c past. settled_on (IsNoFileOf app) ((nothing.idle quiet).during c past);
    refused = λ err. nothing;
  }

  -- and the end of one that is refused
  pub nothing_imported : (e : PerError) → importing_into (app_at old.image app) name text ≡ Err e
      → Imported app name text old new
  nothing_imported e err = record {
    world = ap (λ (im : Image). app_at im app) nothing.image ∙ sym (ap (after (app_at old.image app)) err);
    clean = λ f found ok. absurd (row_goes (app_at old.image app) f (importing f.config f.state text) e
        (sym (importing_found (app_at old.image app) name text f found) ∙ err) ok);
    stays_clean = λ clean. subst (λ (im : Image). IsCleanApp app im) (sym nothing.image) clean;
  }

-- ---- what follows

module _ (laws : BackupLaws) (old mid new : Medium) (before : Elapses old mid) (nothing : ChangesNothing old mid)
    (later : Elapses mid new) where
  pub then_kept : (shape : Shape) (state : State) → 1 ≤ shape.m → KeptThroughout shape state mid new
      → KeptThroughout shape state old new
  then_kept shape state some keeps quiet clean = goes_on (IsKeptCase shape old.image state) before later
      (λ c past. laws.untouched shape old.image state c some clean
      (settled_on (IsOfPlace shape.place) ((nothing.idle quiet).during c past)))
      (subst (λ (im : Image). EachCase (IsKeptCase shape im state) mid new) nothing.image
      (keeps (nothing.idle quiet).quiet (subst (λ (im : Image). IsClean shape im) (sym nothing.image) clean)))

  pub then_outside : (Files : ℕ → Type 0) → (Quiet mid → EachCase (IsSettledOn Files mid.image) mid new) → Quiet old
      → EachCase (IsSettledOn Files old.image) old new
  then_outside Files outside quiet = goes_on (IsSettledOn Files old.image) before later
      (λ c past. settled_on Files ((nothing.idle quiet).during c past))
      (subst (λ (im : Image). EachCase (IsSettledOn Files im) mid new) nothing.image
      (outside (nothing.idle quiet).quiet))

  pub then_spares : (Files : ℕ → Type 0) → Spares Files mid.image new.image → Spares Files old.image new.image
  then_spares Files spares file out = spares file out ∙ ap (λ (im : Image). im file) nothing.image

-- ---- a refusal before the storage is touched

-- the application that was seen refuses
abbrev pub Refuses : (told : Bool) → Image → ℕ → (name text : List ℕ) → PerError → Type 0
Refuses told image app name text e = (it : App) × IsAppSeen told image app it × (importing_into it name text ≡ Err e)

pub missing_refuses : (told : Bool) (image : Image) (app : ℕ) (name text : List ℕ) (e : PerError)
    → IsMissingStorage told image app name e → Refuses told image app name text e
missing_refuses told image app name text e missing = (
  missing.0,
  missing.1,
  importing_missing missing.0 name text e missing.2,
)

-- a row that refuses whatever the state is
abbrev pub IsRefusedRow : StorageData → (text : List ℕ) → PerError → Type 0
IsRefusedRow s text e = (state : State) → importing s state text ≡ Err e

pub early_refuses : (told : Bool) (image : Image) (app : ℕ) (name text : List ℕ) (e : PerError) (l : Located)
    → IsLocatedAs told image app name l
    → ((state : State) → importing (config_of l) state text ≡ Err e) → Refuses told image app name text e
early_refuses told image app name text e l located row =
    let there = store_at image l.shape in
    let found = located.named there (λ tells. refl) in (
      found.0,
      found.1,
      importing_found found.0 name text (found_as located.active located.of.number l there) found.2
          ∙ ap (λ (r : Result State PerError). with_row found.0 (found_as located.active located.of.number l there) r)
          (row there),
    )

pub refuses_answers : (told : Bool) (image : Image) (app : ℕ) (name text : List ℕ) (e : PerError)
    → Refuses told image app name text e
    → (it : App) × IsAppSeen told image app it × AnswersRow (Some e) (importing_into it name text)
refuses_answers told image app name text e given = (
  given.0,
  given.1,
  subst (λ (r : Result App PerError). AnswersRow (Some e) r) (sym given.2) refl,
)

pub refuses_there : (told : Bool) (image : Image) (app : ℕ) (name text : List ℕ) (e : PerError)
    → Refuses told image app name text e → IsTrue told
    → importing_into (app_at image app) name text ≡ Err e
refuses_there told image app name text e given tells =
    subst (λ (it : App). importing_into it name text ≡ Err e) (given.1 tells) given.2
