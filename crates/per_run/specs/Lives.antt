-- The jobs of the program as steps of a life: an audit, a listing and an export look, and so does an import whose input
-- is not read whole; any other import is one of a storage of the application, or of another one. Of a run it is
-- `ran_of`; a run that stays is one on the disk that it started on.
use Rattle.std.specs.Prelude.{◌≡◌, ℕ, List, Bool, true, false, IsTrue}
use Rattle.std.proofs.Common.{refl, subst, ⊎_elim}
use Rattle.disk_model.specs.Medium.{EachCase, Medium}
use Rattle.deploy_laws.specs.Apps.{IsCleanApp, app_at}
use Rattle.deploy_laws.specs.Stands.{StandsCase}
use Rattle.deploy_rows.specs.Rows.{after}
use Rattle.run_model.specs.Converters.{Converters}
use Rattle.run_model.specs.Edges.{Edges}
use Rattle.run_model.specs.Lines.{lines_of}
use Rattle.run_model.specs.Lives.{Job, imports, imports_beside, looks, runs}
use Rattle.run_model.specs.Moments.{AreSoundDoubts, OrBefore}
use Rattle.run_model.specs.Runs.{without_sink}
use Rattle.run_model.specs.Starting.{which}
use Rattle.per_backup.specs.Backups.{importing_into}
use Rattle.per_backup.specs.Clauses.{ImportKeeps}
use Rattle.per_list.specs.declared.forms.Form.{Form}
use Rattle.per_run.specs.Jobs.{Audits, Exports, Imports, Lists, Outputs}
use Rattle.per_run.specs.Serves.{Serve, lines_in, turns_in}

module _ (converters : Converters) (app : ℕ) (told : Bool) (status : ℕ) where
  pub of_audit : (before after : Outputs) → Audits told status before after
      → Job converters app before.disk after.disk
  of_audit before after audit = looks audit.stays

  pub of_listing : (form : Form) (before after : Outputs) → Lists told form status before after
      → Job converters app before.disk after.disk
  of_listing form before after listing = looks listing.stays

  pub of_export : (other : ℕ) (name : List ℕ) (before after : Outputs) → Exports told other name status before after
      → Job converters app before.disk after.disk
  of_export other name before after export = looks export.stays

  anew : (other : ℕ) (name text : List ℕ) (old new : Medium) → ImportKeeps other name text old new
      → Job converters app old new
  anew other name text old new keeps = ⊎_elim
      (λ same. imports (after (app_at old.image app) (importing_into (app_at old.image app) name text))
      (subst (λ (k : ℕ). IsCleanApp k old.image → EachCase (OrBefore old (StandsCase k (app_at old.image k)
      (after (app_at old.image k) (importing_into (app_at old.image k) name text)))) old new) same keeps.stands))
      (λ differs. imports_beside other differs keeps.beside)
      (which other app)

  pub of_import : (other : ℕ) (name : List ℕ) (before after : Edges Medium) → IsTrue told
      → Imports told other name status before after → Job converters app before.disk after.disk
  of_import other name before after tells import = by import.ended refl
    where
      by : (ended : Bool) → import.ended ≡ ended → Job converters app before.disk after.disk
      by true is = anew other name import.given before.disk after.disk ((import.made is).keeps tells)
      by false is = looks (import.uncalled is).stays

  -- where what its failed commands read is sound
  pub of_serve : (before after : Edges Medium) (tells : IsTrue told)
      → (serve : Serve told converters status before after)
      → AreSoundDoubts app (serve.disk tells).reached → Job converters app before.disk after.disk
  of_serve before after tells serve sound = runs (record {
    ending = serve.ending;
    handling = without_sink (lines_in serve.heard) (lines_of false serve.given) (turns_in serve.heard);
    disk = serve.disk tells;
    sound = sound;
  })
