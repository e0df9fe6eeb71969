-- Places that are clean, and copies of the root that lack it.
use Rattle.std.proofs.Common.{◌≡◌, ◌⊎◌, ℕ, ◌+◌, List, [], Some, sym, ap, ◌∙◌, subst, inl, inr, arith}
use Rattle.std.specs.List.{Contains}
use Rattle.disk_model.specs.Image.{Image}
use Rattle.disk_model.specs.Damage.{AtLeast}
use Rattle.guarded_cell.specs.Register.{IsAlone}
use Rattle.guarded_cell.specs.lemmas.StopLaws.{at_least_map, alone_only}
use Rattle.root_text.specs.RootText.{Root, root_of}
use Rattle.deploy_laws.specs.Apps.{Says, nothing, App, says_by, says_at, app_at, shapes_named, IsCleanApp, AreClean}
use Rattle.deploy_laws.specs.Stands.{Stands, IsRootSpared}
use Rattle.deploy_laws.proofs.Said.{alone_says, is_nothing}
use Rattle.deploy_laws.specs.Places.{root_place}

pub alone_clean : (app g : ℕ) (text : List ℕ) (root : Root) (image : Image) → IsAlone image (root_place app) g text
    → root_of text ≡ Some root
    → AreClean image (shapes_named app (says_by g (Some root))) → IsCleanApp app image
alone_clean app g text root image alone read storages = record {
  root = record {
    one_each = λ a b h s u lta ltb va vb. (alone_only image (root_place app) g text alone a lta h s va).1
        ∙ sym (alone_only image (root_place app) g text alone b ltb h u vb).1;
    root = λ copy h t lt v. (root, ap root_of (alone_only image (root_place app) g text alone copy lt h t v).1 ∙ read);
  };
  storages = subst (λ (s : Says). AreClean image (shapes_named app s))
      (sym (alone_says image app g text alone ∙ ap (says_by g) read)) storages;
}

-- a root that says nothing names no storage
none_clean : (app : ℕ) (image : Image) (s : Says) → s ≡ nothing → AreClean image (shapes_named app s)
unfolding shapes_named
none_clean app image s none = subst (λ (x : Says). AreClean image (shapes_named app x)) (sym none) tt

module _ (app : ℕ) (start image : Image) (after : App)
    (spared : ¬ ((app_at start app).says ≡ nothing) → AtLeast (IsRootSpared app [] (app_at start app).lacking) 3 2)
    (stands : Stands app image [] (app_at start app) after) where
  named : (says_at image app ≡ nothing) ⊎ (says_at image app ≡ after.says)
      → AreClean image (shapes_named app (says_at image app))
  named (inl none) = none_clean app image (says_at image app) none
  named (inr is) = stands.clean (inr is)

  storages : ((app_at start app).says ≡ nothing) ⊎ ¬ ((app_at start app).says ≡ nothing)
      → AreClean image (shapes_named app (says_at image app))
  storages (inl none) = named (stands.bad none)
  storages (inr some) = stands.clean (stands.root some (spared some))

  pub stands_clean : IsCleanApp app image
  stands_clean = record { root = stands.clean_root; storages = storages (is_nothing (app_at start app).says) }

none_in : (n : ℕ) → Contains [] n → ⊥
none_in n found = let below = found.1 in omega (arith, below)

-- copies of the root that lack it matter to nothing but whether two are left
pub root_mend : (app : ℕ) (image : Image) (damaged : List ℕ) (before after : App)
    → Stands app image damaged (record before { lacking = [] }) after → Stands app image damaged before after
root_mend app image damaged before after stands = record {
  bad = stands.bad;
  root = λ some enough. stands.root some (at_least_map (IsRootSpared app damaged before.lacking)
      (IsRootSpared app damaged []) 3 2 (λ copy lt spared. (spared.0, λ found. none_in (copy + 1) found)) enough);
  same = stands.same;
  old = stands.old;
  new = stands.new;
  clean_root = stands.clean_root;
  clean = stands.clean;
}
