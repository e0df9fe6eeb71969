-- The root of an application is written.
use Rattle.std.proofs.Common.{◌≡◌, ℕ, ◌+◌, ◌<◌, List, Some, refl, sym, ap, ◌∙◌, subst, arith}
use Rattle.disk_model.specs.Image.{Image}
use Rattle.disk_model.specs.Case.{Case}
use Rattle.guarded_cell.specs.Register.{IsAlone}
use Rattle.guarded_cell.specs.Stops.{PutStops}
use Rattle.element_laws.specs.Phases.{UntouchedLaw}
use Rattle.root_text.specs.RootText.{Root, root_of}
use Rattle.root_text.specs.RootText as text
use Rattle.deploy_laws.specs.Apps.{App, says_by, app_at, shapes_named, says_generation, AreVersions, AreOn, IsCleanApp}
use Rattle.deploy_laws.specs.Stands.{StandsCase}
use Rattle.deploy_laws.proofs.Covered.{root_sound, root_decays, named_covers}
use Rattle.deploy_laws.proofs.Files.{all_fit, beside_untouched}
use Rattle.deploy_laws.proofs.Kept.{stay_as}
use Rattle.deploy_laws.proofs.Said.{alone_says, says_some}
use Rattle.deploy_laws.proofs.Standing.{IsBetween, stands_putting}
use Rattle.deploy_laws.proofs.Untouched.{app_says}
use Rattle.deploy_laws.specs.Places.{root_place}

-- of every text
abbrev pub SaidLaw : Type 0
SaidLaw = (g : ℕ) (t : List ℕ) → AreVersions (says_by g (root_of t))

generation_is : (g : ℕ) (r : Root) → says_generation (says_by g (Some r)) ≡ g
generation_is g text.absent = refl
generation_is g (text.installed bank active previous) = refl

-- the storages that its root names, on this image
own_on : (app : ℕ) (start : Image) → IsCleanApp app start
    → AreOn start (shapes_named app (app_at start app).says) (app_at start app).states
unfolding app_at
own_on app start clean = record { clean = clean.storages; states_are = refl }

module _ (said : SaidLaw) (app g : ℕ) (lt : app < 8) (t next : List ℕ) (root : Root) (start : Image) (after : App)
    (clean : IsCleanApp app start)
    (alone : IsAlone start (root_place app) g t) (is_next : root_of next ≡ Some root)
    (says_next : after.says ≡ says_by (g + 1) (Some root)) where
  abbrev before : App
  before = app_at start app

  its_root : (r : Root) × (root_of t ≡ Some r)
  its_root = clean.root.root 0 g t (omega arith) (alone.held 0 (omega arith))

  says_before : before.says ≡ says_by g (root_of t)
  says_before = app_says start app ∙ alone_says start app g t alone

  next_says : after.says ≡ says_by (g + 1) (root_of next)
  next_says = says_next ∙ ap (says_by (g + 1)) (sym is_next)

  old_generation : says_generation before.says ≡ g
  old_generation = let (r, read) = its_root in ap says_generation (says_before ∙ ap (says_by g) read)
      ∙ generation_is g r

  new_generation : says_generation after.says ≡ g + 1
  new_generation = ap says_generation says_next ∙ generation_is (g + 1) root

  between : IsBetween app g t next before after start
  between = record {
    leaves = record {
      alone = alone;
      is_root = its_root;
      says = says_before;
      something_next = λ none. says_some (g + 1) root (sym says_next ∙ none);
      differs = λ same. let old = old_generation in let new =
          new_generation in let one : says_generation after.says ≡ says_generation before.says =
          ap says_generation same in omega (arith, old, new, one);
    };
    is_next = (root, is_next);
    says_next = next_says;
  }

  pub writing : UntouchedLaw → AreOn start (shapes_named app after.says) after.states → (c : Case)
      → PutStops (root_place app) (g + 1) next start c → StandsCase app before after c
  writing untouched on_next c puts sound damaged image decays =
      let versions : AreVersions before.says = subst AreVersions (sym says_before) (said g t) in
      let versions_next : AreVersions after.says = subst AreVersions (sym next_says) (said (g + 1) next) in
      let on = own_on app start clean in
      stands_putting app g t next before after start between damaged image c puts
      (root_sound app c sound damaged image decays) (root_decays app c sound damaged image decays)
      (λ e. stay_as untouched start c damaged image (shapes_named app before.says) before.states
      (named_covers app c sound damaged image decays before.says e)
      (all_fit app lt before.says versions) on.clean (beside_untouched app lt before.says versions start c
      puts.elsewhere) on.states_are)
      (λ e. stay_as untouched start c damaged image (shapes_named app after.says) after.states
      (named_covers app c sound damaged image decays after.says e)
      (all_fit app lt after.says versions_next) on_next.clean
      (beside_untouched app lt after.says versions_next start c puts.elsewhere) on_next.states_are)
