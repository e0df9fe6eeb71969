-- An update in progress: one more storage is made in the other bank, and the application stands as it was.
use Rattle.std.proofs.Common.{◌≡◌, ℕ, suc, ◌+◌, ◌-◌, ◌≤◌, ◌<◌, List, length, take, get_or, Bool, IsTrue, refl, sym, ap}
use Rattle.std.proofs.Common.{◌∙◌, subst, arith}
use Rattle.std.specs.Prelude.{cond, map}
use Rattle.std.proofs.lemmas.Bool.{le-ltb, lt-ltb}
use Rattle.per_base.specs.declared.elements.Fresh.{Fresh}
use Rattle.disk_model.specs.Frame.{Spares}
use Rattle.disk_model.specs.Image.{Image}
use Rattle.disk_model.specs.Medium.{Medium}
use Rattle.deployment_model.specs.Data.{storage_data}
use Rattle.deployment_model.specs.declared.configs.StorageConfig.{StorageConfig}
use Rattle.element_state.specs.Clean.{IsClean}
use Rattle.element_state.specs.States.{fresh_map, fresh_state, store_at}
use Rattle.element_laws.specs.Apart.{FrameLaw}
use Rattle.deploy_laws.specs.Apps.{IsCleanApp, IsFree, Says, app_at, says_at}
use Rattle.deploy_laws.specs.Laws.{AloneFrameLaw, AloneLaw, CreatingLaw, RootFilesLaw, StorageFilesLaw}
use Rattle.deploy_laws.specs.Places.{IsBeside, IsOutsideBank, shapes_from, storage_shape}
use Rattle.deploy_laws.specs.Stands.{StandsThroughout, same_root}
use Rattle.deploy_rows.specs.Rows.{InProgress, one_more}
use Rattle.deploy.specs.declared.roots.Root.TheVariants as root
use Rattle.deploy.specs.declared.updating.Staged.{Staged}
use Rattle.deploy.specs.Building.{IsStaged, StagedAt}
use Rattle.deploy.specs.Clauses.{Leaves}
use Rattle.deploy.specs.Made.{AreMade}
use Rattle.deploy.specs.Roots.{IsRootOn}
use Rattle.deploy.proofs.InUse.{AgainLaw, in_use_says}
use Rattle.deploy.proofs.Leaves.{leaves_less}
use Rattle.deploy.proofs.MadeStorages.{beside_in_bank, earlier_spared, few_contents, made_more, made_stays}
use Rattle.deploy.proofs.NextVersion.{FreeBankLaw, root_kept}
use Rattle.deploy.proofs.UpdateRow.{says_one}

-- ---- one more is counted

pub counts_one : (p : InProgress) → p.built < length p.contents → one_more p ≡ record p { built = p.built + 1 }
counts_one p lt =
    let on : suc p.built ≡ p.built + 1 = omega arith in
    ap (λ (b : Bool). record p { built = cond b (suc p.built) p.built }) (lt-ltb p.built (length p.contents) lt)
    ∙ ap (λ (n : ℕ). record p { built = n }) on

pub counts_none : (p : InProgress) → length p.contents ≤ p.built → one_more p ≡ p
counts_none p le = ap (λ (b : Bool). record p { built = cond b (suc p.built) p.built })
    (le-ltb p.built (length p.contents) le)

-- ---- what is needed to make it

module _ (app : ℕ) (s : Staged) (memory : IsStaged app s) where
  pub other_in_bank : 1 - s.root.bank ≤ 1
  other_in_bank = omega arith

  pub few_storages : (length s.contents.items ≤ 16) × (length s.contents.items ≡ length s.version.deployment.storages)
  few_storages = few_contents s.version.deployment s.contents.items memory.offers.keeps memory.fit

  -- ---- the disk

  module _ (again : AgainLaw) (alone : AloneLaw) (told : Bool) (old : Image)
      (on : IsTrue told → IsRootOn old app (root.Installed s.root)) where
    pub other_free : IsTrue told → IsFree (1 - s.root.bank) (says_at old app)
    other_free tells =
        let in_bank = memory.root.1.in_bank in
        subst (λ (says : Says). IsFree (1 - s.root.bank) says)
        (sym (in_use_says again alone old app (root.Installed s.root) memory.root (on tells)
        ∙ says_one s.root memory.no_previous))
        (λ (same : s.root.bank ≡ 1 - s.root.bank). absurd (omega (arith, in_bank, same)))

    module _ (keeps : FreeBankLaw) (new : Image) (spared : IsTrue told
        → Spares (IsOutsideBank app (1 - s.root.bank)) old new) where
      pub app_same : IsTrue told → app_at new app ≡ app_at old app
      app_same tells = (keeps app (1 - s.root.bank) old new memory.below other_in_bank (other_free tells)
          (spared tells)).0

      pub clean_same : IsTrue told → IsCleanApp app old → IsCleanApp app new
      clean_same tells = (keeps app (1 - s.root.bank) old new memory.below other_in_bank (other_free tells)
          (spared tells)).1

  module _ (again : AgainLaw) (alone : AloneLaw) (creating : CreatingLaw) (told : Bool) (old new : Medium)
      (on : IsTrue told → IsRootOn old.image app (root.Installed s.root))
      (outside : Leaves told (IsOutsideBank app (1 - s.root.bank)) old new) where
    pub stands_same : IsTrue told → StandsThroughout app (app_at old.image app) old new
    stands_same tells quiet clean c past = creating app (1 - s.root.bank) old.image (app_at old.image app) c
        memory.below other_in_bank clean
        (other_free again alone told old.image on tells) (outside.throughout tells quiet c past) (same_root refl refl)

pub outside_bank : (told : Bool) (app bank number : ℕ) (old new : Medium) → number < 16
    → Leaves told (IsBeside app bank number) old new
    → Leaves told (IsOutsideBank app bank) old new
outside_bank told app bank number old new few leaves =
    leaves_less told (IsBeside app bank number) (IsOutsideBank app bank) old new (beside_in_bank app bank number few)
    leaves

-- ---- one more is made

module _ (frame : FrameLaw) (storages : StorageFilesLaw) (framed : AloneFrameLaw) (files : RootFilesLaw) (told : Bool)
    (old new : Image) (app : ℕ) (s t : Staged)
    (at : StagedAt told old app s) (some : s.built < length s.contents.items)
    (is : t ≡ record s { built = s.built + 1 })
    (spared : IsTrue told → Spares (IsBeside app (1 - s.root.bank) s.built) old new) (x : StorageConfig)
    (fs : List Fresh)
    (here : x ≡ get_or s.version.deployment.storages s.built x) (its : fs ≡ get_or s.contents.items s.built fs)
    (state : IsTrue told → store_at new (storage_shape app (1 - s.root.bank) s.built (storage_data x))
    ≡ fresh_state 1 (fresh_map fs))
    (clean : IsTrue told → IsClean (storage_shape app (1 - s.root.bank) s.built (storage_data x)) new) where
  few : s.built < 16
  few =
      let count = few_storages app s at.memory in
      let low = count.0 in
      omega (arith, low, some)

  within : s.built < length s.version.deployment.storages
  within =
      let count = few_storages app s at.memory in
      let same = count.1 in
      omega (arith, same, some)

  pub staged_more : StagedAt told new app t
  staged_more =
      let on : suc s.built ≡ s.built + 1 = omega arith in
      subst (λ (u : Staged). StagedAt told new app u) (sym is) (record {
        memory = record {
          of_app = at.memory.of_app;
          below = at.memory.below;
          root = at.memory.root;
          no_previous = at.memory.no_previous;
          not_worn = at.memory.not_worn;
          offers = at.memory.offers;
          fit = at.memory.fit;
          within = omega (arith, some);
        };
        root_on = λ tells. root_kept framed files app (1 - s.root.bank) old new s.root.cell _ at.memory.below
            (λ f out. spared tells f (beside_in_bank app (1 - s.root.bank) s.built few f out)) at.memory.root.0.place
            (at.root_on tells);
        made = λ tells. subst (λ (n : ℕ). AreMade new (take n
            (shapes_from app (1 - s.root.bank) 0 (map storage_data s.version.deployment.storages)))
            (take n s.contents.items)) on
            (made_more new app (1 - s.root.bank) x fs s.version.deployment.storages s.contents.items 0 s.built s.built
            (omega arith) within some here its
            (made_stays frame app (1 - s.root.bank) s.built old new
            (earlier_spared storages app (1 - s.root.bank) s.built old new at.memory.below
            (other_in_bank app s at.memory) (omega (arith, few)) (spared tells))
            (map storage_data s.version.deployment.storages) s.contents.items 0 s.built (omega arith) (at.made tells))
            (state tells) (clean tells));
      })
