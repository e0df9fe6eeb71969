-- What the calls after a sync keep, said of the sync and them.
use Rattle.std.proofs.Common.{◌≡◌, ℕ, Bool, true, false, List, None, Result, Ok, Err, sym, ap, ◌∙◌, subst, inl}
use Rattle.std.proofs.Common.{true≢false}
use Rattle.std.specs.Prelude.{IfOk, IsErr, IsSome, IsTrue, OnErr, OnOk, is_err}
use Rattle.disk_model.specs.Case.{IsSettledAt}
use Rattle.disk_model.specs.Frame.{IsSettledOn, Spares}
use Rattle.disk_model.specs.Image.{Image}
use Rattle.disk_model.specs.Medium.{EachCase, Elapses, IsLawful, Medium, OnlyReads, Quiet, WritesNothing}
use Rattle.disk_model.specs.Place.{IsOutside}
use Rattle.element_state.specs.Clean.{IsClean}
use Rattle.element_state.specs.Kept.{IsKeptCase}
use Rattle.per_base.specs.declared.errors.PerError.{PerError}
use Rattle.deploy_laws.specs.Apps.{App, IsCleanApp, app_at}
use Rattle.deploy_laws.specs.Places.{IsNoFileOf}
use Rattle.deploy_laws.specs.Stands.{StandsCase}
use Rattle.deploy_rows.specs.Recovering.{after_state}
use Rattle.deploy_rows.specs.Rows.{after}
use Rattle.deploy_laws.specs.Stands.{ChangesNothing}
use Rattle.run_model.specs.Found.{FoundStorage, shape_in, storage_in}
use Rattle.run_model.specs.Lives.{LooksOnly, after_sync, looks_unsynced}
use Rattle.per_backup.specs.Backups.{importing, importing_into}
use Rattle.per_backup.specs.Clauses.{ImportKeeps, Imported, IsAppSeen, KeepsSettled}

-- ---- a result that was tested

pub on_err : {T E P : Type 0} → (r : Result T E) → is_err r ≡ true → OnErr r P → P
on_err (Ok x) is p = absurd (true≢false (sym is))
on_err (Err e) is p = p

pub on_ok : {T E P : Type 0} → (r : Result T E) → is_err r ≡ false → OnOk r P → P
on_ok (Ok x) is p = p
on_ok (Err e) is p = absurd (true≢false is)

pub passes_on : {T E : Type 0} (r : Result T E) (a b c : ℕ) → b ≡ a → OnOk r (c ≡ b) → OnOk r (c ≡ a)
passes_on (Ok t) a b c first is = is ∙ first
passes_on (Err e) a b c first is = tt

-- ---- the sync failed

pub unsynced_keeps : (app : ℕ) (name text : List ℕ) (old new : Medium) → OnlyReads old new
    → ImportKeeps app name text old new
unsynced_keeps app name text old new reads = record {
  kept = λ f found clean c s. inl (reads.during c s);
  elsewhere = λ f found file out. ap (λ (im : Image). im file) reads.image;
  outside = λ f found c s. inl (reads.during c s);
  stands = λ clean c s. inl (reads.during c s);
  beside = λ c s. inl (reads.during c s);
  refused = λ err. looks_unsynced old new reads;
}

-- ---- it succeeded

module _ (told : Bool) (old mid new : Medium) (lawful : IsLawful told mid) (time : Elapses old mid)
    (nothing : WritesNothing old mid) (quiet : Quiet mid)
    (later : Elapses mid new) where
  pub then_looks : ChangesNothing mid new → LooksOnly old new
  then_looks changes = record {
    image = changes.image ∙ nothing.image;
    written = changes.written ∙ nothing.written;
    during = after_sync (IsSettledAt old.image) lawful time nothing later
        (subst (λ (im : Image). EachCase (IsSettledAt im) mid new) nothing.image (changes.idle quiet).during);
  }

  -- what was seen after the sync was seen
  pub then_seen : (app : ℕ) (it : App) → IsAppSeen told mid.image app it → IsAppSeen told old.image app it
  then_seen app it seen tells = seen tells ∙ ap (λ (im : Image). app_at im app) nothing.image

  module _ (app : ℕ) (name text : List ℕ) where
    there : (f : FoundStorage) → storage_in (app_at old.image app) name None ≡ Ok f
        → storage_in (app_at mid.image app) name None ≡ Ok f
    there f found = subst (λ (im : Image). storage_in (app_at im app) name None ≡ Ok f) (sym nothing.image) found

    pub then_keeps : KeepsSettled app name text mid new → ImportKeeps app name text old new
    then_keeps keeps = record {
      kept = λ f found clean. after_sync (IsKeptCase (shape_in app f) old.image
          (after_state f.state (importing f.config f.state text))) lawful time nothing later
          (subst (λ (im : Image). IsClean (shape_in app f) im → EachCase (IsKeptCase (shape_in app f) im
          (after_state f.state (importing f.config f.state text))) mid new) nothing.image
          (keeps.kept f (there f found) quiet) clean);
      elsewhere = λ f found. subst (λ (im : Image). Spares (IsOutside (shape_in app f).place) im new.image)
          nothing.image (keeps.elsewhere f (there f found));
      outside = λ f found. after_sync (IsSettledOn (IsOutside (shape_in app f).place) old.image) lawful time nothing
          later (subst (λ (im : Image). EachCase (IsSettledOn (IsOutside (shape_in app f).place) im) mid new)
          nothing.image (keeps.outside f (there f found) quiet));
      stands = λ clean. after_sync (StandsCase app (app_at old.image app)
          (after (app_at old.image app) (importing_into (app_at old.image app) name text))) lawful time nothing later
          (subst (λ (im : Image). IsCleanApp app im → EachCase (StandsCase app (app_at im app)
          (after (app_at im app) (importing_into (app_at im app) name text))) mid new) nothing.image
          (keeps.stands quiet) clean);
      beside = after_sync (IsSettledOn (IsNoFileOf app) old.image) lawful time nothing later
          (subst (λ (im : Image). EachCase (IsSettledOn (IsNoFileOf app) im) mid new) nothing.image
          (keeps.beside quiet));
      refused = λ err. then_looks (keeps.refused (subst (λ (im : Image).
          IsErr (importing_into (app_at im app) name text)) (sym nothing.image) err));
    }

    pub then_imported : Imported app name text mid new → Imported app name text old new
    then_imported is = record {
      world = subst (λ (im : Image). app_at new.image app
          ≡ after (app_at im app) (importing_into (app_at im app) name text)) nothing.image is.world;
      clean = λ f found. is.clean f (there f found);
      stays_clean = subst (λ (im : Image). IsCleanApp app im → IsCleanApp app new.image) nothing.image is.stays_clean;
    }

-- ---- however it ended

pub each_ok : {T E : Type 0} (P Q : T → Type 0) (r : Result T E) → ((t : T) → P t → Q t) → IfOk r P → IfOk r Q
each_ok P Q (Ok t) less is = less t is
each_ok P Q (Err e) less is = tt

pub on_each : {T E P Q : Type 0} (r : Result T E) → (P → Q) → OnOk r P → OnOk r Q
on_each (Ok t) less is = less is
on_each (Err e) less is = tt
