-- What an export and an import promise.
use Rattle.std.specs.declared.alloc.Global.{Global}
use Rattle.std.specs.Prelude.{◌≡◌, ◌≤◌, ℕ, ◌+◌, List, Vec, Bool, IsTrue, Option, None, Some, Result, Ok, Err, IsErr}
use Rattle.std.specs.Prelude.{IsOk}
use Rattle.per_base.specs.declared.elements.Fresh.{Fresh}
use Rattle.per_base.specs.declared.elements.StoreKind.{StoreKind}
use Rattle.per_base.specs.declared.errors.PerError.{PerError}
use Rattle.disk_model.specs.Frame.{IsSettledOn, Spares}
use Rattle.disk_model.specs.Image.{Image}
use Rattle.disk_model.specs.Medium.{EachCase, Medium, Quiet}
use Rattle.disk_model.specs.Place.{IsOutside}
use Rattle.element_state.specs.Clean.{IsClean}
use Rattle.element_state.specs.declared.shapes.Shape.{Shape}
use Rattle.element_state.specs.declared.shapes.View.{View}
use Rattle.element_state.specs.Kept.{IsKeptCase, KeptThroughout}
use Rattle.element_state.specs.Read.{IsView}
use Rattle.element_store.specs.Rebuilds.{rebuilding_cost}
use Rattle.deploy_laws.specs.Apps.{App, IsCleanApp, app_at}
use Rattle.deploy_laws.specs.Places.{IsNoFileOf}
use Rattle.deploy_laws.specs.Stands.{StandsCase, StandsThroughout}
use Rattle.deploy_rows.specs.Recovering.{after_state}
use Rattle.deploy_rows.specs.Rows.{after}
use Rattle.deploy_laws.specs.Stands.{ChangesNothing}
use Rattle.run_model.specs.Found.{FoundStorage, shape_in, storage_in}
use Rattle.run_model.specs.Lives.{LooksOnly}
use Rattle.run_model.specs.Moments.{OrBefore}
use Rattle.export_text.specs.declared.exports.Export.{Export}
use Rattle.export_text.specs.Exports.{export_of}
use Rattle.per_backup.specs.declared.exporting.Exported.{Exported}
use Rattle.per_backup.specs.declared.exporting.Exported.TheVariants.{Octets, Refused}
use Rattle.per_backup.specs.Backups.{importing, importing_into}

-- the application that a call saw: where the disk's bytes are modelled, the one that is on it
abbrev pub IsAppSeen : (told : Bool) → Image → ℕ → App → Type 0
IsAppSeen told image app it = IsTrue told → it ≡ app_at image app

-- the bytes of an export, or why it was refused
abbrev pub exported_as : Exported → Result (List ℕ) PerError
exported_as (Octets bytes) = Ok bytes
exported_as (Refused e) = Err e

-- the elements of a view as those of an export, as a list
abbrev pub fresh_items : Result (Vec Fresh Global) PerError → Result (List Fresh) PerError
fresh_items (Ok contents) = Ok contents.items
fresh_items (Err e) = Err e

-- a view of a storage of this kind
abbrev pub IsViewFor : StoreKind → View → Type 0
IsViewFor kind v = (shape : Shape) × (shape.kind ≡ kind) × IsView shape v

-- ---- an import

-- what an import costs of an export that a text spells, into a storage with that many copies: a rebuild with its
-- contents; nothing where the text spells none
abbrev pub importing_cost : (copies : ℕ) → Option Export → ℕ
importing_cost copies None = 0
importing_cost copies (Some x) = rebuilding_cost copies x.contents

-- no more than that was written of this text into the storage of this name
abbrev pub WritesImport : ℕ → (name text : List ℕ) → (old new : Medium) → Type 0
WritesImport app name text old new = (f : FoundStorage) → storage_in (app_at old.image app) name None ≡ Ok f
    → new.written ≤ old.written + importing_cost f.config.n (export_of text)

-- Every moment of an import, however it ends: each crash meanwhile may also leave what one before the call might have
-- left (`OrBefore`).
pub record ImportKeeps (app : ℕ) (name text : List ℕ) (old new : Medium) : Type 0 where
  -- the storage stands between what it was and what is imported
  pub kept : (f : FoundStorage) → storage_in (app_at old.image app) name None ≡ Ok f
      → IsClean (shape_in app f) old.image → EachCase (OrBefore old (IsKeptCase (shape_in app f) old.image
      (after_state f.state (importing f.config f.state text)))) old new
  -- all other files stay, at the end and at any moment
  pub elsewhere : (f : FoundStorage) → storage_in (app_at old.image app) name None ≡ Ok f
      → Spares (IsOutside (shape_in app f).place) old.image new.image
  pub outside : (f : FoundStorage) → storage_in (app_at old.image app) name None ≡ Ok f
      → EachCase (OrBefore old (IsSettledOn (IsOutside (shape_in app f).place) old.image)) old new
  -- so the application stands between what it was and itself with the imported storage
  pub stands : IsCleanApp app old.image → EachCase (OrBefore old (StandsCase app (app_at old.image app)
      (after (app_at old.image app) (importing_into (app_at old.image app) name text)))) old new
  -- and no file of another one changes
  pub beside : EachCase (OrBefore old (IsSettledOn (IsNoFileOf app) old.image)) old new
  -- and where the import is refused nothing changes
  pub refused : IsErr (importing_into (app_at old.image app) name text) → LooksOnly old new

-- The same of the calls after the sync with which an import begins, where nothing is pending.
pub record KeepsSettled (app : ℕ) (name text : List ℕ) (old new : Medium) : Type 0 where
  pub kept : (f : FoundStorage) → storage_in (app_at old.image app) name None ≡ Ok f
      → KeptThroughout (shape_in app f) (after_state f.state (importing f.config f.state text)) old new
  pub elsewhere : (f : FoundStorage) → storage_in (app_at old.image app) name None ≡ Ok f
      → Spares (IsOutside (shape_in app f).place) old.image new.image
  pub outside : (f : FoundStorage) → storage_in (app_at old.image app) name None ≡ Ok f → Quiet old
      → EachCase (IsSettledOn (IsOutside (shape_in app f).place) old.image) old new
  pub stands : StandsThroughout app (after (app_at old.image app) (importing_into (app_at old.image app) name text)) old
      new
  pub beside : Quiet old → EachCase (IsSettledOn (IsNoFileOf app) old.image) old new
  pub refused : IsErr (importing_into (app_at old.image app) name text) → ChangesNothing old new

-- An import that ended: the application is the one with the imported storage, or the same where it was refused.
pub record Imported (app : ℕ) (name text : List ℕ) (old new : Medium) : Type 0 where
  pub world : app_at new.image app ≡ after (app_at old.image app) (importing_into (app_at old.image app) name text)
  -- the place of what was imported is clean, whatever it was before, and those of the application stay so
  pub clean : (f : FoundStorage) → storage_in (app_at old.image app) name None ≡ Ok f
      → IsOk (importing f.config f.state text) → IsClean (shape_in app f) new.image
  pub stays_clean : IsCleanApp app old.image → IsCleanApp app new.image
