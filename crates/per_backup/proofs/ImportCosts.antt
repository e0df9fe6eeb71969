-- How many bytes an import writes.
use Rattle.std.proofs.Common.{◌≡◌, ℕ, ◌+◌, ◌≤◌, Bool, IsTrue, List, Option, Some, None, refl, sym, ap, ◌∙◌, arith}
use Rattle.std.specs.Prelude.{Ok, option_map}
use Rattle.per_base.specs.declared.elements.Fresh.{Fresh}
use Rattle.disk_model.specs.Image.{Image}
use Rattle.disk_model.specs.Medium.{Medium}
use Rattle.deployment_model.specs.Data.{StorageData}
use Rattle.deploy_laws.specs.Apps.{App, app_at}
use Rattle.element_state.specs.States.{store_at}
use Rattle.element_store.specs.Rebuilds.{rebuilding_cost}
use Rattle.export_text.specs.declared.exports.Export.{Export}
use Rattle.export_text.specs.Exports.{export_of}
use Rattle.run_model.specs.Found.{FoundStorage, storage_in}
use Rattle.per_backup.specs.declared.finding.Located.{Located}
use Rattle.per_backup.specs.Clauses.{WritesImport, importing_cost}
use Rattle.per_backup.specs.Finding.{IsLocatedAs, config_of, found_as}
use Rattle.per_backup.proofs.Rows.{one_found}

-- where nothing was written
pub nothing_within : (app : ℕ) (name text : List ℕ) (old new : Medium) → new.written ≡ old.written
    → WritesImport app name text old new
nothing_within app name text old new same f found = omega (arith, same)

-- what is located is configured as what is found
found_config : (told : Bool) (image : Image) (app : ℕ) (name : List ℕ) (l : Located) → IsLocatedAs told image app name l
    → IsTrue told → (f : FoundStorage) → storage_in (app_at image app) name None ≡ Ok f → config_of l ≡ f.config
found_config told image app name l is tells f found =
    let (it, seen, at) = is.named (store_at image l.shape) (λ t. refl) in
    ap (λ (g : FoundStorage). g.config) (one_found it name
    (found_as is.active is.of.number l (store_at image l.shape)) f at
    (ap (λ (a : App). storage_in a name None) (seen tells) ∙ found))

spelled_cost : (copies : ℕ) (x : Option Export) (contents : List Fresh)
    → option_map (λ (e : Export). e.contents) x ≡ Some contents
    → importing_cost copies x ≡ rebuilding_cost copies contents
spelled_cost copies None contents never = cc
spelled_cost copies (Some x) contents is =
    let same : x.contents ≡ contents = cc in
    ap (rebuilding_cost copies) same

-- where it was rebuilt
pub import_within : (told : Bool) (app : ℕ) (name text : List ℕ) (old mid new : Medium) (l : Located)
    (contents : List Fresh) → IsLocatedAs told old.image app name l → mid.written ≡ old.written
    → option_map (λ (x : Export). x.contents) (export_of text) ≡ Some contents
    → new.written ≤ mid.written + rebuilding_cost (config_of l).n contents
    → IsTrue told → WritesImport app name text old new
import_within told app name text old mid new l contents is looked spelled written tells f found =
    let of = found_config told old.image app name l is tells f found in
    let cost : importing_cost f.config.n (export_of text) ≡ rebuilding_cost (config_of l).n contents =
    spelled_cost f.config.n (export_of text) contents spelled
    ∙ sym (ap (λ (s : StorageData). rebuilding_cost s.n contents) of) in
    omega (arith, looked, written, cost)

-- after a sync
pub synced_within : (app : ℕ) (name text : List ℕ) (old mid new : Medium) → mid.image ≡ old.image
    → mid.written ≡ old.written → WritesImport app name text mid new → WritesImport app name text old new
synced_within app name text old mid new same looked within f found =
    let here = within f (ap (λ (im : Image). storage_in (app_at im app) name None) same ∙ found) in
    omega (arith, here, looked)
