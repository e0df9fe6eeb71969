-- What is committed over a root with one version is the row of an update.
use Rattle.std.proofs.Common.{◌≡◌, ℕ, suc, ◌+◌, ◌-◌, ◌≤◌, List, [], ◌∷◌, ◌++◌, length, take, Option, None, Some, refl}
use Rattle.std.proofs.Common.{sym, ap, ◌∙◌, subst, arith}
use Rattle.std.specs.Prelude.{map, option_map}
use Rattle.std.proofs.lemmas.List.{append-nil, length-map, take_all}
use Rattle.per_base.specs.declared.elements.Fresh.{Fresh}
use Rattle.disk_model.specs.Image.{Image}
use Rattle.guarded_cell.specs.Cells.{CellAt, generation_of}
use Rattle.deployment_model.specs.Data.{StorageData, deployment_data}
use Rattle.element_state.specs.States.{State, store_at}
use Rattle.element_state.specs.declared.shapes.Shape.{Shape}
use Rattle.root_text.specs.declared.versions.VersionText.{VersionText}
use Rattle.root_text.specs.RootText.{root_text}
use Rattle.root_text.specs.RootText as text
use Rattle.root_text.specs.Views.{version_said}
use Rattle.deploy_laws.specs.Apps.{App, Says, app_at, installed, named_in_bank, shapes_named}
use Rattle.deploy_laws.specs.Laws.{AloneLaw}
use Rattle.deploy_laws.specs.Places.{Named, shapes_from, shapes_in}
use Rattle.deploy_rows.specs.Rows.{InProgress, made_states, storage_count, updated_app}
use Rattle.deploy.specs.declared.roots.Installed.{Installed}
use Rattle.deploy.specs.declared.roots.Root.TheVariants as root
use Rattle.deploy.specs.Next.{next_app, root_before}
use Rattle.deploy.specs.Roots.{IsRootOf, IsRootOn, root_app, root_says}
use Rattle.deploy.proofs.InUse.{AgainLaw, in_use}

-- ---- the row

by_says : (p : InProgress) (g : ℕ) (active : Named) (previous : Option Named) (lacking : List ℕ) (states : List State)
    (s : Says)
    → s ≡ installed g active previous
    → updated_app p (record { says = s; lacking = lacking; states = states }) ≡ record {
      says = installed (g + 1) (record { bank = 1 - active.bank; deployment = p.deployment }) (Some active);
      lacking = [];
      states = made_states p.contents ++ take (storage_count active) states;
    }
unfolding updated_app
by_says p g active previous lacking states s is = subst
    (λ (t : Says). updated_app p (record { says = t; lacking = lacking; states = states }) ≡ record {
      says = installed (g + 1) (record { bank = 1 - active.bank; deployment = p.deployment }) (Some active);
      lacking = [];
      states = made_states p.contents ++ take (storage_count active) states;
    }) (sym is) refl

pub committed : (p : InProgress) (g : ℕ) (active : Named) (previous : Option Named) (a : App)
    → a.says ≡ installed g active previous
    → updated_app p a ≡ record {
      says = installed (g + 1) (record { bank = 1 - active.bank; deployment = p.deployment }) (Some active);
      lacking = [];
      states = made_states p.contents ++ take (storage_count active) a.states;
    }
committed p g active previous a is = by_says p g active previous a.lacking a.states a.says is

-- ---- a root with one version

-- the update to a version, with these contents
abbrev progress_of : VersionText → List (List Fresh) → ℕ → InProgress
progress_of v contents built = record {
  manifest = v.text;
  deployment = deployment_data v.deployment;
  contents = contents;
  built = built;
}

pub other_bank : (bank : ℕ) → bank ≤ 1 → 1 - (1 - bank) ≡ bank
other_bank bank le = omega (arith, le)

pub says_one : (i : Installed) → i.previous ≡ None → root_says (root.Installed i)
    ≡ installed (generation_of i.cell) (named_in_bank i.bank (version_said i.active)) None
says_one i none = ap (λ (p : Option VersionText). installed (generation_of i.cell)
    (named_in_bank i.bank (version_said i.active))
    (option_map (λ (v : VersionText). named_in_bank (1 - i.bank) (version_said v)) p)) none

-- it is what the next version is made over
pub held_before : (image : Image) (i : Installed) → i.bank ≤ 1 → i.previous ≡ None
    → CellAt image i.cell (root_text (text.installed i.bank (version_said i.active)
    (option_map version_said i.previous)))
    → CellAt image i.cell (root_text (root_before (1 - i.bank) (Some (version_said i.active))))
held_before image i le none at =
    subst (λ (bank : ℕ). CellAt image i.cell (root_text (text.installed bank (version_said i.active) None)))
    (sym (other_bank i.bank le))
    (subst (λ (p : Option VersionText). CellAt image i.cell
    (root_text (text.installed i.bank (version_said i.active) (option_map version_said p)))) none at)

-- ---- the application

length_shapes : (app bank number : ℕ) (ss : List StorageData) → length (shapes_from app bank number ss) ≡ length ss
length_shapes app bank number [] = refl
length_shapes app bank number (s ∷ ss) = ap suc (length_shapes app bank (suc number) ss)

names_one : (app g : ℕ) (v : Named) → shapes_named app (installed g v None) ≡ shapes_in app v
unfolding shapes_named
names_one app g v = append-nil (shapes_in app v)

module _ (again : AgainLaw) (alone : AloneLaw) (image : Image) (app : ℕ) (i : Installed)
    (of : IsRootOf app (root.Installed i))
    (on : IsRootOn image app (root.Installed i)) (none : i.previous ≡ None) where
  abbrev pub active : Named
  active = named_in_bank i.bank (version_said i.active)

  pub app_says_one : (app_at image app).says ≡ installed (generation_of i.cell) active None
  app_says_one = ap (λ (a : App). a.says) (in_use again alone image app (root.Installed i) of on) ∙ says_one i none

  pub states_one : (app_at image app).states ≡ map (store_at image) (shapes_in app active)
  states_one = ap (λ (a : App). a.states) (in_use again alone image app (root.Installed i) of on)
      ∙ ap (λ (s : Says). map (store_at image) (shapes_named app s)) (says_one i none)
      ∙ ap (λ (shapes : List Shape). map (store_at image) shapes) (names_one app (generation_of i.cell) active)

  -- the states are those of the one version
  pub all_states : take (storage_count active) (app_at image app).states ≡ (app_at image app).states
  all_states =
      let long : length (app_at image app).states ≡ storage_count active = ap length states_one
      ∙ length-map (shapes_in app active) (store_at image) ∙ length_shapes app i.bank 0 active.deployment.storages in
      take_all (storage_count active) (app_at image app).states (omega (arith, long))

  abbrev pub with_one : (bank : ℕ) → VersionText → List State → App
  with_one bank v states = record {
    says = installed (generation_of i.cell + 1) (named_in_bank (1 - i.bank) (version_said v))
        (Some (named_in_bank bank (version_said i.active)));
    lacking = [];
    states = states;
  }

  -- the next version joins it as the row has it
  pub next_committed : (v : VersionText) (contents : List (List Fresh)) (built : ℕ)
      → next_app (generation_of i.cell + 1) (1 - i.bank) (version_said v) (Some (version_said i.active)) contents
      (app_at image app)
      ≡ updated_app (progress_of v contents built) (app_at image app)
  next_committed v contents built =
      ap (λ (bank : ℕ). with_one bank v (made_states contents ++ (app_at image app).states))
      (other_bank i.bank of.1.in_bank)
      ∙ ap (λ (states : List State). with_one i.bank v (made_states contents ++ states)) (sym all_states)
      ∙ sym (committed (progress_of v contents built)
      (generation_of i.cell) active None
      (app_at image app) app_says_one)

-- what the next root says, as the row has it
pub says_committed : (i j : Installed) (v : VersionText) (contents : List (List Fresh)) (built : ℕ) → i.bank ≤ 1
    → i.previous ≡ None
    → generation_of j.cell ≡ generation_of i.cell + 1 → j.bank ≡ 1 - i.bank → j.active ≡ v → j.previous ≡ Some i.active
    → root_says (root.Installed j) ≡ (updated_app (record {
      manifest = v.text;
      deployment = deployment_data v.deployment;
      contents =
          contents;
      built = built;
    }) (root_app (root.Installed i) [])).says
says_committed i j v contents built le none counts in_bank of_active of_previous =
    ap (λ (p : Option VersionText). installed (generation_of j.cell) (named_in_bank j.bank (version_said j.active))
    (option_map (λ (w : VersionText). named_in_bank (1 - j.bank) (version_said w)) p)) of_previous
    ∙ ap (λ (w : VersionText). installed (generation_of j.cell) (named_in_bank j.bank (version_said w))
    (Some (named_in_bank (1 - j.bank) (version_said i.active)))) of_active
    ∙ ap (λ (bank : ℕ). installed (generation_of j.cell) (named_in_bank bank (version_said v))
    (Some (named_in_bank (1 - bank) (version_said i.active)))) in_bank
    ∙ ap (λ (g : ℕ). installed g (named_in_bank (1 - i.bank) (version_said v))
    (Some (named_in_bank (1 - (1 - i.bank)) (version_said i.active)))) counts
    ∙ ap (λ (bank : ℕ). installed (generation_of i.cell + 1) (named_in_bank (1 - i.bank) (version_said v))
    (Some (named_in_bank bank (version_said i.active)))) (other_bank i.bank le)
    ∙ sym (ap (λ (a : App). a.says) (committed (record {
      manifest = v.text;
      deployment = deployment_data v.deployment;
      contents =
          contents;
      built = built;
    }) (generation_of i.cell)
    (named_in_bank i.bank (version_said i.active)) None (root_app (root.Installed i) []) (says_one i none)))
