-- Storages that are made before the root is written.
use Rattle.std.proofs.Common.{◌≡◌, ◌⊎◌, ℕ, ◌+◌, ◌≤◌, List, [], ◌∷◌, drop, Bool, inl, inr, refl, sym, subst, arith}
use Rattle.std.specs.Prelude.{Option, None, Result, Ok, map}
use Rattle.per_base.specs.declared.elements.Fresh.{Fresh}
use Rattle.per_base.specs.declared.errors.PerError.{PerError}
use Rattle.disk_model.specs.Laws.{elapses_none, elapses_on}
use Rattle.disk_model.specs.Medium.{Elapses, IsIdle, IsLawful, Medium, Quiet}
use Rattle.deployment_model.specs.Data.{DeploymentData, StorageData, deployment_data, storage_data}
use Rattle.root_text.specs.declared.versions.VersionText.{VersionText}
use Rattle.deploy_laws.specs.Places.{shapes_from}
use Rattle.deploy_rows.specs.Costs.{making_costs, root_cost, said_storages, storages_said}
use Rattle.deploy_rows.specs.Rows.{deployment_of, initial_all}
use Rattle.deploy.specs.declared.roots.Root.{Root}
use Rattle.deploy.specs.declared.updating.Staged.{Staged}
use Rattle.deploy.specs.Building.{staged_progress, staged_root, staged_text}
use Rattle.deploy.specs.Clauses.{IsNoRootSlot, Leaves}
use Rattle.deploy.specs.Making.{IsInNone, Making, RootComesLast, contents_by, contents_said, making_from}
use Rattle.deploy.specs.Roots.{SaysDeployment, free_bank, previous_texts, root_texts}
use Rattle.deploy.proofs.Leaves.{leaves_less, leaves_none}
use Rattle.deploy.proofs.MadePlaces.{costs_from, none_from}
use Rattle.deploy.proofs.OneUpdate.{leaves_then}
use Rattle.deploy.proofs.RootLens.{none_written, then_most}
use Rattle.deploy.proofs.Told.{told_read}

-- a disk that is quiet later if it was quiet at some moment, is so if it was quiet at a moment from which on it stays so
quiet_before : {D : Type 0} (old mid made : Medium) (end new : D) → (Quiet old → Quiet mid)
    → (Quiet mid → Quiet made) ⊎ (new ≡ end) → (Quiet old → Quiet made) ⊎ (new ≡ end)
quiet_before {D} old mid made end new first (inl next) = inl (λ quiet. next (first quiet))
quiet_before {D} old mid made end new first (inr same) = inr same

module _ {D : Type 0} (medium : D → Medium) (told : Bool) (app : ℕ) (making : Making) where
  -- no call writes no root
  pub last_none : (disk : D) → IsLawful told (medium disk) → RootComesLast medium told app making disk disk
  last_none disk law = record {
    made = disk;
    storages = leaves_none told (IsInNone making.shapes) (medium disk) law;
    costs = none_written (medium disk).written making.cost;
    before = elapses_none law;
    durable = inr refl;
    root = leaves_none told (IsNoRootSlot app) (medium disk) law;
    once = none_written (medium disk).written (root_cost making.manifests);
    after = elapses_none law;
  }

  -- nor does one that ends with the storages
  pub last_made : (old new : D) → IsLawful told (medium new)
      → Leaves told (IsInNone making.shapes) (medium old) (medium new)
      → (medium new).written ≤ (medium old).written + making.cost
      → Elapses (medium old) (medium new) → RootComesLast medium told app making old new
  last_made old new law storages costs time = record {
    made = new;
    storages = storages;
    costs = costs;
    before = time;
    durable = inr refl;
    root = leaves_none told (IsNoRootSlot app) (medium new) law;
    once = none_written (medium new).written (root_cost making.manifests);
    after = elapses_none law;
  }

  -- calls before it that read alone
  pub last_then : (old mid new : D) → Elapses (medium old) (medium mid)
      → (Quiet (medium old) → IsIdle (medium old) (medium mid)) → (medium mid).image ≡ (medium old).image
      → (medium mid).written ≡ (medium old).written
      → RootComesLast medium told app making mid new → RootComesLast medium told app making old new
  last_then old mid new first idle same still last = record {
    made = last.made;
    storages = leaves_then app (medium old) (medium mid) (medium last.made) first last.before idle same told
        (IsInNone making.shapes) last.storages;
    costs = then_most (medium old).written (medium mid).written (medium last.made).written making.cost still
        last.costs;
    before = elapses_on first last.before;
    durable = quiet_before (medium old) (medium mid) (medium last.made) last.made new (λ quiet. (idle quiet).quiet)
        last.durable;
    root = last.root;
    once = last.once;
    after = last.after;
  }

module _ {D : Type 0} (medium : D → Medium) (told : Bool) (app : ℕ) where
  -- what is so of the storages from a number on is so of all
  pub last_more : (bank built : ℕ) (ss : List StorageData) (cs : List (List Fresh)) (ms : List (List ℕ)) (old new : D)
      → RootComesLast medium told app (making_from app bank built ss cs ms) old new
      → RootComesLast medium told app (making_from app bank 0 ss cs ms) old new
  last_more bank built ss cs ms old new last =
      let some : (medium last.made).written ≤ (medium old).written + making_costs (drop built ss) (drop built cs) =
      last.costs in
      let less = costs_from ss cs built in
      let all : (medium last.made).written ≤ (medium old).written + making_costs ss cs = omega (arith, some, less) in
      record {
        made = last.made;
        storages = leaves_less told (IsInNone (drop built (shapes_from app bank 0 ss)))
            (IsInNone (shapes_from app bank 0 ss)) (medium old) (medium last.made)
            (λ f none. none_from f (shapes_from app bank 0 ss) built none) last.storages;
        costs = all;
        before = last.before;
        durable = last.durable;
        root = last.root;
        once = last.once;
        after = last.after;
      }

  -- of the deployment that a manifest says
  pub said_last : (manifest : List ℕ) (v : VersionText) (now : ℕ) (old new : D)
      → deployment_of manifest ≡ Ok (deployment_data v.deployment) → v.text ≡ manifest
      → RootComesLast medium told app (making_from app 0 0 (map storage_data v.deployment.storages)
      (initial_all now (deployment_data v.deployment)) (v.text ∷ [])) old new
      → RootComesLast medium told app (making_from app 0 0 (storages_said manifest) (contents_said now manifest)
      (manifest ∷ [])) old new
  said_last manifest v now old new said text last = subst (λ (r : Result DeploymentData PerError).
      RootComesLast medium told app (making_from app 0 0 (said_storages r) (contents_by now r) (manifest ∷ []))
      old new) (sym said)
      (subst (λ (t : List ℕ). RootComesLast medium told app
      (making_from app 0 0 (map storage_data v.deployment.storages)
      (initial_all now (deployment_data v.deployment)) (t ∷ [])) old new) text last)

  -- of an update that began
  pub led_last : (r : Root) (manifest : List ℕ) (s : Staged) (old mid new : D)
      → s.app ≡ app → staged_root s ≡ r → staged_text s ≡ manifest → SaysDeployment s.version
      → Elapses (medium old) (medium mid) → (Quiet (medium old) → IsIdle (medium old) (medium mid))
      → (medium mid).image ≡ (medium old).image → (medium mid).written ≡ (medium old).written
      → RootComesLast medium told s.app (making_from s.app (free_bank (staged_root s)) (staged_progress s).built
      (staged_progress s).deployment.storages (staged_progress s).contents
      (staged_text s ∷ root_texts (staged_root s))) mid new
      → RootComesLast medium told app (making_from app (free_bank r) 0 (storages_said manifest)
      (staged_progress s).contents (manifest ∷ root_texts r)) old new
  led_last r manifest s old mid new of_app over text offers first idle same still last =
      let said = subst (λ (t : List ℕ). deployment_of t ≡ Ok (deployment_data s.version.deployment)) text
      (told_read s.version.text (deployment_data s.version.deployment) offers.said) in
      let of = subst (λ (n : ℕ). RootComesLast medium told n (making_from n (free_bank (staged_root s)) s.built
      (map storage_data s.version.deployment.storages) s.contents.items
      (staged_text s ∷ root_texts (staged_root s))) mid new) of_app last in
      let here = subst (λ (x : Root). RootComesLast medium told app (making_from app (free_bank x) s.built
      (map storage_data s.version.deployment.storages) s.contents.items (staged_text s ∷ root_texts x)) mid new) over
      of in
      let called = subst (λ (t : List ℕ). RootComesLast medium told app (making_from app (free_bank r) s.built
      (map storage_data s.version.deployment.storages) s.contents.items (t ∷ root_texts r)) mid new) text here in
      let all = last_more (free_bank r) s.built (map storage_data s.version.deployment.storages) s.contents.items
      (manifest ∷ root_texts r) mid new called in
      last_then medium told app
      (making_from app (free_bank r) 0 (storages_said manifest) s.contents.items (manifest ∷ root_texts r))
      old mid new first idle same still
      (subst (λ (d : Result DeploymentData PerError). RootComesLast medium told app (making_from app (free_bank r) 0
      (said_storages d) s.contents.items (manifest ∷ root_texts r)) mid new) (sym said) all)

-- the root over which an update began has one version
pub committed_last : {D : Type 0} (medium : D → Medium) (told : Bool) (s : Staged) (cs : List (List Fresh)) (old new : D)
    → cs ≡ s.contents.items → s.root.previous ≡ None
    → RootComesLast medium told s.app (making_from s.app (free_bank (staged_root s)) s.built
    (map storage_data s.version.deployment.storages) cs (s.version.text ∷ s.root.active.text ∷ [])) old new
    → RootComesLast medium told s.app (making_from s.app (free_bank (staged_root s)) (staged_progress s).built
    (staged_progress s).deployment.storages (staged_progress s).contents
    (staged_text s ∷ root_texts (staged_root s))) old new
committed_last {D} medium told s cs old new is alone last =
    let here = subst (λ (xs : List (List Fresh)). RootComesLast medium told s.app
    (making_from s.app (free_bank (staged_root s)) s.built (map storage_data s.version.deployment.storages) xs
    (s.version.text ∷ s.root.active.text ∷ [])) old new) is last in
    subst (λ (p : Option VersionText). RootComesLast medium told s.app
    (making_from s.app (free_bank (staged_root s)) s.built (map storage_data s.version.deployment.storages)
    s.contents.items (s.version.text ∷ s.root.active.text ∷ previous_texts p)) old new) (sym alone) here
