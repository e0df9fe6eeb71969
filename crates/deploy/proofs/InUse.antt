-- A root in use: what an image says of the application where its text is held alone.
use Rattle.std.proofs.Common.{◌≡◌, ℕ, ◌-◌, ◌<◌, List, [], Option, Some, None, refl, sym, ap, ◌∙◌, subst}
use Rattle.std.specs.Prelude.{map, option_map}
use Rattle.disk_model.specs.Frame.{Spares}
use Rattle.disk_model.specs.Image.{Image}
use Rattle.disk_model.specs.Place.{IsNoSlot}
use Rattle.disk_model.specs.declared.place.Place.{Place}
use Rattle.guarded_cell.specs.Cells.{CellAt, generation_of, place_of}
use Rattle.guarded_cell.specs.declared.cell.Cell.{Cell}
use Rattle.guarded_cell.specs.Register.{IsAlone}
use Rattle.guarded_cell.specs.Held.{standing}
use Rattle.element_state.specs.States.{State, store_at}
use Rattle.root_text.specs.declared.versions.VersionText.{VersionText}
use Rattle.root_text.specs.RootText.{IsRoot, IfVersion, root_of, root_text}
use Rattle.root_text.specs.RootText as text
use Rattle.root_text.specs.Views.{version_said}
use Rattle.deploy_laws.specs.Apps.{AreClean, AreVersions, App, IsCleanApp, Says, app_at, installed, root_lacking}
use Rattle.deploy_laws.specs.Apps.{named_in_bank, nothing, says_at, says_by, shapes_named}
use Rattle.deploy_laws.specs.Laws.{AloneCleanLaw, AloneLaw, RootAloneLaw, RootSlotsLaw, VersionsLaw}
use Rattle.deploy_laws.specs.Places.{IsNoRootFile, Named, root_place}
use Rattle.deploy.specs.declared.roots.Installed as parts
use Rattle.deploy.specs.declared.roots.Root.{Root}
use Rattle.deploy.specs.declared.roots.Root.TheVariants.{Bad, Absent, Installed}
use Rattle.deploy.specs.Roots.{AreParts, IfKept, IsRootOf, IsRootOn, root_says}

-- ---- what its text says

-- the root that the parts make
abbrev pub text_of : parts.Installed → text.Root
text_of i = text.installed i.bank (version_said i.active) (option_map version_said i.previous)

if_version : (previous : Option VersionText) → IfKept previous → IfVersion (option_map version_said previous)
if_version None kept = tt
if_version (Some v) kept = kept.said

pub parts_are_root : (i : parts.Installed) → AreParts i → IsRoot (text_of i)
parts_are_root i are = record {
  in_bank = are.in_bank;
  of_active = are.active.said;
  of_previous =
      if_version i.previous are.previous;
}

previous_named : (bank : ℕ) (previous : Option VersionText)
    → option_map (named_in_bank (1 - bank)) (option_map version_said previous)
    ≡ option_map (λ v. named_in_bank (1 - bank) (version_said v)) previous
previous_named bank None = refl
previous_named bank (Some v) = refl

pub parts_say : (i : parts.Installed) → says_by (generation_of i.cell) (Some (text_of i)) ≡ root_says (Installed i)
parts_say i = ap (λ (p : Option Named). installed (generation_of i.cell)
    (named_in_bank i.bank (version_said i.active)) p)
    (previous_named i.bank i.previous)

-- ---- where it is

pub cell_alone : (image : Image) (app : ℕ) (cell : Cell) (t : List ℕ) → place_of cell ≡ root_place app
    → CellAt image cell t
    → IsAlone image (root_place app) (generation_of cell) t
cell_alone image app cell t lies at = subst (λ (p : Place). IsAlone image p (generation_of cell) t) lies
    at

pub alone_cell : (image : Image) (app : ℕ) (cell : Cell) (t : List ℕ) → place_of cell ≡ root_place app
    → IsAlone image (root_place app) (generation_of cell) t → CellAt image cell t
alone_cell image app cell t lies at = subst (λ (p : Place). IsAlone image p (generation_of cell) t)
    (sym lies) at

-- ---- what the image says

pub app_says : (image : Image) (app : ℕ) → (app_at image app).says ≡ says_at image app
unfolding app_at
app_says image app = refl

-- the application that says this, of which no copy lacks the root
abbrev pub app_that : Image → ℕ → Says → App
app_that image app says = record { says = says; lacking = []; states = map (store_at image) (shapes_named app says) }

pub bad_app : (image : Image) (app : ℕ) → says_at image app ≡ nothing → app_at image app ≡ app_that image app nothing
unfolding app_at
bad_app image app none = ap (λ (s : Says). record {
  says = s;
  lacking = root_lacking image app s (standing image (root_place app) 2);
  states = map (store_at image) (shapes_named app s);
}) none

-- of root_text
abbrev pub AgainLaw : Type 0
AgainLaw = (r : text.Root) → IsRoot r → root_of (root_text r) ≡ Some r

module _ (again : AgainLaw) (alone : AloneLaw) (image : Image) (app : ℕ) where
  -- a root's text that is held alone
  pub held_app : (g : ℕ) (r : text.Root) → IsRoot r → IsAlone image (root_place app) g (root_text r)
      → app_at image app ≡ app_that image app (says_by g (Some r))
  held_app g r is held = alone app g (root_text r) image held
      ∙ ap (λ (o : Option text.Root). app_that image app (says_by g o)) (again r is)

  -- a root in use
  pub in_use : (root : Root) → IsRootOf app root → IsRootOn image app root
      → app_at image app ≡ app_that image app (root_says root)
  in_use Bad of on = bad_app image app on
  in_use (Absent cell) of on = held_app (generation_of cell) text.absent tt
      (cell_alone image app cell (root_text text.absent) of.place on)
  in_use (Installed i) of on =
      held_app (generation_of i.cell) (text_of i) (parts_are_root i of.1)
      (cell_alone image app i.cell (root_text (text_of i)) of.0.place on)
      ∙ ap (λ (s : Says). app_that image app s) (parts_say i)

  pub in_use_says : (root : Root) → IsRootOf app root → IsRootOn image app root → says_at image app ≡ root_says root
  in_use_says root of on = sym (app_says image app) ∙ ap (λ (a : App). a.says) (in_use root of on)

-- ---- the root is written

module _ (again : AgainLaw) (alone : AloneLaw) (versions : VersionsLaw) (slots : RootSlotsLaw) (aside : RootAloneLaw)
    (clean : AloneCleanLaw)
    (app g : ℕ) (r : text.Root) (old new : Image) (lt : app < 8) (is : IsRoot r)
    (spared : Spares (IsNoSlot (root_place app)) old new)
    (held : IsAlone new (root_place app) g (root_text r)) where
  abbrev pub next : Says
  next = says_by g (Some r)

  next_versions : AreVersions next
  next_versions = subst AreVersions (sym (app_says new app)
      ∙ ap (λ (a : App). a.says) (held_app again alone new app g r is held)) (versions new app)

  -- only files of the root changed
  pub root_spared : Spares (IsNoRootFile app) old new
  root_spared f beside = spared f (slots app f lt beside)

  -- the application is what the root says, and its storages are as they were
  pub written_app : app_at new app ≡ app_that old app next
  written_app = held_app again alone new app g r is held
      ∙ ap (λ (states : List State). record { says = next; lacking = []; states = states })
      (aside app next old new lt next_versions root_spared).0

  pub written_clean : AreClean old (shapes_named app next) → IsCleanApp app new
  written_clean were = clean app g (root_text r) r new held (again r is)
      ((aside app next old new lt next_versions root_spared).1 were)
