-- What a disk's image says of an application.
use Rattle.std.specs.Prelude.{◌≡◌, ◌<◌, ◌≤◌, ℕ, ◌-◌, List, [], ◌++◌, map, length, nat_le, Bool, Option, Some, None}
use Rattle.std.specs.Prelude.{option_map, ⊤}
use Rattle.std.specs.List.{AllByRecursion}
use Rattle.disk_model.specs.Image.{Image}
use Rattle.deployment_model.specs.Conditions.{IsDeployment}
use Rattle.guarded_cell.specs.declared.looking.Seen.{Seen}
use Rattle.guarded_cell.specs.Register.{Holds, IsOneEach}
use Rattle.guarded_cell.specs.Held.{held, standing, lacking}
use Rattle.element_state.specs.declared.shapes.Shape.{Shape}
use Rattle.element_state.specs.States.{State, store_at}
use Rattle.element_state.specs.Clean.{IsClean}
use Rattle.root_text.specs.RootText.{Root, Version, root_of}
use Rattle.root_text.specs.RootText as text
use Rattle.deploy_laws.specs.Places.{Named, root_place, shapes_in, shapes_if, copies_of_root, agreeing_of_root}

-- what the root of an application says: nothing that counts; that nothing is installed; or the active version and the
-- previous one, with the generation of its text
pub data Says : Type 0 where
  nothing : Says
  absent : (generation : ℕ) → Says
  installed : (generation : ℕ) (active : Named) (previous : Option Named) → Says

-- the storages of an application that its root names, when it says this: those of the active version by their numbers,
-- and then those of the previous one
unfoldable pub shapes_named : ℕ → Says → List Shape
shapes_named app nothing = []
shapes_named app (absent g) = []
shapes_named app (installed g active previous) = shapes_in app active ++ shapes_if app previous

-- an application: what its root says, the copies that lack the root, counted from 1, and the state of each storage that
-- the root names
pub record App : Type 0 where
  pub says : Says
  pub lacking : List ℕ
  pub states : List State

-- the generation that a root has; one that says nothing counts as 0
abbrev pub says_generation : Says → ℕ
says_generation nothing = 0
says_generation (absent g) = g
says_generation (installed g active previous) = g

-- ---- reading an image

-- a version of a root's text, in this bank; the previous version is in the other bank than the active one
abbrev pub named_in_bank : ℕ → Version → Named
named_in_bank bank v = record { bank = bank; deployment = v.deployment }

-- what a root says whose text has this generation and is read as this; a text that is not a root's says nothing
abbrev pub says_by : ℕ → Option Root → Says
says_by g None = nothing
says_by g (Some text.absent) = absent g
says_by g (Some (text.installed bank active previous)) =
    installed g (named_in_bank bank active) (option_map (named_in_bank (1 - bank)) previous)

-- what a root says by the text that stands, if one does
abbrev pub says_in : Option Seen → Says
says_in None = nothing
says_in (Some seen) = says_by seen.generation (root_of seen.text)

-- what the root of an application says on an image: that on which two of its three copies agree, and nothing without
unfoldable pub says_at : Image → ℕ → Says
says_at image app = says_in (standing image (root_place app) agreeing_of_root)

-- the copies, counted from 1, that lack the text that stands, of a root that says something
abbrev pub root_lacking : Image → ℕ → Says → Option Seen → List ℕ
root_lacking image app nothing seen = []
root_lacking image app (absent g) None = []
root_lacking image app (absent g) (Some seen) = lacking image (root_place app) seen.generation seen.text
root_lacking image app (installed g active previous) None = []
root_lacking image app (installed g active previous) (Some seen) =
    lacking image (root_place app) seen.generation seen.text

-- what an image says of an application
unfoldable pub app_at : Image → ℕ → App
app_at image app = record {
  says = says_at image app;
  lacking = root_lacking image app (says_at image app) (standing image (root_place app) agreeing_of_root);
  states = map (store_at image) (shapes_named app (says_at image app));
}

-- the application whose root says this in every copy, with its storages as they are on an image
abbrev pub app_saying : Image → ℕ → Says → App
app_saying image app says = record { says = says; lacking = []; states = map (store_at image) (shapes_named app says) }

-- no text is held in the root's place beside the one that stands
abbrev pub root_sole : Image → ℕ → Bool
root_sole image app = nat_le (length (held image (root_place app))) 1

-- ---- versions

-- the version is in a bank and obeys the rules of deployments
pub record IsInBank (v : Named) : Type 0 where
  pub in_bank : v.bank ≤ 1
  pub keeps : IsDeployment v.deployment

-- both versions are in a bank and obey the rules; the previous one is in the other bank than the active one
pub record AreInTwoBanks (active previous : Named) : Type 0 where
  pub of_active : IsInBank active
  pub of_previous : IsInBank previous
  pub apart : previous.bank ≡ 1 - active.bank

-- each version that a root names is in its bank and obeys the rules of deployments
abbrev pub AreVersions : Says → Type 0
AreVersions nothing = ⊤
AreVersions (absent g) = ⊤
AreVersions (installed g active None) = IsInBank active
AreVersions (installed g active (Some previous)) = AreInTwoBanks active previous

-- no version that it names is in this bank
abbrev pub IsFree : (bank : ℕ) → Says → Type 0
IsFree bank nothing = ⊤
IsFree bank (absent g) = ⊤
IsFree bank (installed g active None) = ¬ (active.bank ≡ bank)
IsFree bank (installed g active (Some previous)) = ¬ (active.bank ≡ bank) × ¬ (previous.bank ≡ bank)

-- ---- places that are clean

-- every text that is held in the root's place is a root's, and no two have one generation
pub record IsCleanRoot (app : ℕ) (image : Image) : Type 0 where
  pub one_each : IsOneEach image (root_place app)
  pub root : (copy generation : ℕ) (text : List ℕ) → copy < copies_of_root
      → Holds image (root_place app) copy generation text
      → (root : Root) × (root_of text ≡ Some root)

-- the places of these storages are clean on the image
abbrev pub AreClean : Image → List Shape → Type 0
AreClean image shapes = AllByRecursion (λ shape. IsClean shape image) shapes

-- the places of an application are clean: its root's, and those that its root names
pub record IsCleanApp (app : ℕ) (image : Image) : Type 0 where
  pub root : IsCleanRoot app image
  pub storages : AreClean image (shapes_named app (says_at image app))

-- storages whose places are clean and whose states are these
pub record AreOn (image : Image) (shapes : List Shape) (states : List State) : Type 0 where
  pub clean : AreClean image shapes
  pub states_are : map (store_at image) shapes ≡ states
