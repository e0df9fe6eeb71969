-- The places of an application's root and storages, and what of them reads on.
use Rattle.std.proofs.Common.{◌≡◌, ◌≢◌, ℕ, suc, ◌+◌, ◌*◌, ◌<◌, ◌≤◌, List, [], ◌∷◌, length, Some}
use Rattle.std.proofs.Common.{None, subst, inl, inr, arith}
use Rattle.disk_model.specs.Image.{Image}
use Rattle.guarded_cell.specs.lemmas.StopLaws.{alone_only}
use Rattle.deployment_model.specs.Data.{StorageData}
use Rattle.element_state.specs.declared.shapes.Shape.{Shape}
use Rattle.deploy_laws.specs.Apps.{absent, AreVersions, installed, IsInBank, nothing, Says, says_at, shapes_named}
use Rattle.deploy_laws.specs.Laws.{VersionsLaw}
use Rattle.deploy_laws.specs.Places.{Named, root_place, shapes_from, shapes_in, storage_shape}
use Rattle.element_laws.specs.lemmas.Lists.{Contains-In, In, In-append}
use Rattle.loss_laws.specs.Laws.{AloneRootsLaw, AppsLaw, RootsLaw, StoragesLaw, StoragesOfOneLaw}
use Rattle.flash_laws.specs.Outvotes.{IsPlaced, Outvotes}
use Rattle.loss_laws.proofs.Roots.{root_reads_on, text_reads_on}
use Rattle.loss_laws.proofs.Storages.{reads_on, reads_on_clean}

-- ---- places

root_placed : (app : ℕ) → app < 8 → IsPlaced (root_place app)
root_placed app lt = record { first = omega (arith, lt); copies = omega arith }

storage_placed : (app bank number : ℕ) (s : StorageData) → app < 8 → bank ≤ 1 → number < 16
    → IsPlaced (storage_shape app bank number s).place
unfolding storage_shape
storage_placed app bank number s lt low small = record {
  first = omega (arith, lt, low, small);
  copies = omega arith;
}

placed_from : (app bank number : ℕ) (ss : List StorageData) → app < 8 → bank ≤ 1 → number + length ss ≤ 16
    → (shape : Shape) → In shape (shapes_from app bank number ss) → IsPlaced shape.place
placed_from app bank number [] lt low few shape h = absurd h
placed_from app bank number (s ∷ ss) lt low few shape (inl e) =
    subst (λ (x : Shape). IsPlaced x.place) e (storage_placed app bank number s lt low (omega (arith, few)))
placed_from app bank number (s ∷ ss) lt low few shape (inr h) =
    placed_from app bank (suc number) ss lt low (omega (arith, few)) shape h

placed_in : (app : ℕ) (v : Named) → app < 8 → IsInBank v → (shape : Shape) → In shape (shapes_in app v)
    → IsPlaced shape.place
placed_in app v lt is shape h = let few = is.keeps.few in
    placed_from app v.bank 0 v.deployment.storages lt is.in_bank (omega (arith, few)) shape h

placed_named : (app : ℕ) (s : Says) → app < 8 → AreVersions s → (shape : Shape) → In shape (shapes_named app s)
    → IsPlaced shape.place
unfolding shapes_named
placed_named app nothing lt are shape h = absurd h
placed_named app (absent g) lt are shape h = absurd h
placed_named app (installed g active None) lt are shape h = elim (In-append shape (shapes_in app active) [] h)
    [ inl of ↦ placed_in app active lt are shape of | inr none ↦ absurd none ]
placed_named app (installed g active (Some previous)) lt are shape h =
    elim (In-append shape (shapes_in app active) (shapes_in app previous) h) [
      | inl of ↦ placed_in app active lt are.of_active shape of
      | inr of ↦ placed_in app previous lt are.of_previous shape of
    ]

-- ---- what reads on

pub storages : StoragesLaw
storages old new outvoted shape view placed two few was = reads_on old new shape outvoted.lost (omega (arith, two)) few
    (λ c k lt apart small. outvoted.spares shape.place c k placed lt apart small) view was two

pub of_one : StoragesOfOneLaw
of_one old new outvoted shape view placed one few was clean least = reads_on_clean old new shape outvoted.lost one few
    (λ c k lt apart small. outvoted.spares shape.place c k placed lt apart small) view was clean least

module _ (old new : Image) (outvoted : Outvotes old new) (app : ℕ) (lt : app < 8) where
  root_files : (c k : ℕ) → c < 3 → c ≢ outvoted.lost → k < 4
      → new ((root_place app).first + 4 * c + k) ≡ old ((root_place app).first + 4 * c + k)
  root_files c k inside apart small = outvoted.spares (root_place app) c k (root_placed app lt) inside apart small

pub roots : RootsLaw
roots old new outvoted app lt whole = root_reads_on old new app outvoted.lost (root_files old new outvoted app lt) whole

pub alone_roots : AloneRootsLaw
alone_roots old new outvoted app g text lt alone = text_reads_on old new app outvoted.lost
    (root_files old new outvoted app lt) g text (record {
      hold = λ c inside. alone.held c inside;
      only = λ c h t inside v. alone_only old (root_place app) g text alone c inside h t v;
    })

pub apps : VersionsLaw → StoragesLaw → RootsLaw → AppsLaw
apps versions of_storages of_roots old new outvoted = record {
  lost = outvoted.lost;
  apps = λ app lt whole. record {
    root = of_roots old new outvoted app lt whole;
    storages = λ shape view named two few was. of_storages old new outvoted shape view
        (placed_named app (says_at new app) lt (versions new app) shape
        (Contains-In shape (shapes_named app (says_at new app)) named)) two few was;
  };
}
