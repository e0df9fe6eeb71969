-- Opening a root: what looking leaves of the application, and what bringing every copy to the text that stands leaves
-- of it.
use Rattle.std.proofs.Common.{◌≡◌, ℕ, ◌<◌, Bool, Some, refl, sym, ap, ◌∙◌, subst}
use Rattle.std.specs.Prelude.{IsTrue, Result, Ok}
use Rattle.disk_model.specs.Case.{Case}
use Rattle.disk_model.specs.Frame.{IsSettledOn, Spares}
use Rattle.disk_model.specs.Image.{Image}
use Rattle.disk_model.specs.Laws.{goes_on}
use Rattle.disk_model.specs.Medium.{EachCase, Elapses, IsIdle, Medium, Quiet}
use Rattle.disk_model.specs.Place.{IsNoSlot}
use Rattle.disk_model.specs.lemmas.Frames.{settled_on}
use Rattle.guarded_cell.specs.declared.looking.Seen.{Seen}
use Rattle.guarded_cell.specs.Held.{standing}
use Rattle.guarded_cell.specs.Register.{IsAlone}
use Rattle.guarded_cell.specs.Stops.{PutStops}
use Rattle.root_text.specs.RootText.{IsRoot, root_text}
use Rattle.root_text.specs.RootText as text
use Rattle.deploy_laws.specs.Apps.{AreClean, IsCleanApp, Says, app_at, nothing, says_at, says_by, shapes_named}
use Rattle.deploy_laws.specs.Laws.{AloneCleanLaw, AloneLaw, OpeningLaw, RootAloneLaw, RootSlotsLaw, StillAppLaw}
use Rattle.deploy_laws.specs.Laws.{VersionsLaw}
use Rattle.deploy_laws.specs.Places.{IsFileOf, root_place}
use Rattle.deploy_laws.specs.Stands.{StandsCase}
use Rattle.deploy_rows.specs.Rows.{reopened}
use Rattle.deploy.specs.declared.errors.Stop.{Stop}
use Rattle.deploy.specs.declared.roots.Root.{Root}
use Rattle.deploy.specs.declared.roots.Root.TheVariants.{Bad, Absent, Installed}
use Rattle.deploy.specs.Clauses.{IsNoRootSlot, Leaves, StandsOnTheWay}
use Rattle.deploy.specs.Roots.{RootAt, root_says}
use Rattle.deploy.proofs.InUse.{AgainLaw, app_that, bad_app, written_app, written_clean}

-- ---- files of which nothing is pending

-- ---- looking

pub look_leaves : (told : Bool) (Files : ℕ → Type 0) (old new : Medium) → new.image ≡ old.image
    → (Quiet old → IsIdle old new)
    → Leaves told Files old new
look_leaves told Files old new same idle = record {
  at_the_end = λ tells f is. ap (λ (i : Image). i f) same;
  throughout = λ tells quiet c past. settled_on Files ((idle quiet).during c past);
}

pub look_stands : (still : StillAppLaw) (app : ℕ) → app < 8 → (old new : Medium) → (Quiet old → IsIdle old new)
    → StandsOnTheWay app old new
look_stands still app lt old new idle quiet clean next later c past =
    still app old.image next c lt clean (settled_on (IsFileOf app) ((idle quiet).during c past)) later

-- ---- and then bringing every copy to the text that stands

module _ (app : ℕ) (lt : app < 8) (told : Bool) (seen : Seen) (old mid new : Medium) (same : mid.image ≡ old.image)
    (idle : Quiet old → IsIdle old mid)
    (first : Elapses old mid) (next : Elapses mid new)
    (puts : IsTrue told → Quiet mid → EachCase (PutStops (root_place app) seen.generation seen.text mid.image)
    mid new) where
  puts_then : IsTrue told → Quiet old → (c : Case) → new.since mid.moment c
      → PutStops (root_place app) seen.generation seen.text old.image c
  puts_then tells quiet c past =
      subst (λ (i : Image). PutStops (root_place app) seen.generation seen.text i c) same
      (puts tells (idle quiet).quiet c past)

  pub brought_stands : (still : StillAppLaw) (opening : OpeningLaw) → IsTrue told
      → standing old.image (root_place app) 2 ≡ Some seen
      → StandsOnTheWay app old new
  brought_stands still opening tells stands quiet clean after later =
      goes_on (StandsCase app (app_at old.image app) after) first next
      (look_stands still app lt old mid idle quiet clean after later)
      (λ c past. opening app seen old.image after c lt clean stands (puts_then tells quiet c past) later)

  pub brought_leaves : (IsTrue told → Spares (IsNoSlot (root_place app)) mid.image new.image)
      → Leaves told (IsNoRootSlot app) old new
  brought_leaves elsewhere = record {
    at_the_end = λ tells f no. elsewhere tells f no ∙ ap (λ (i : Image). i f) same;
    throughout = λ tells quiet. goes_on (IsSettledOn (IsNoRootSlot app) old.image) first next
        (λ c past. settled_on (IsNoRootSlot app) ((idle quiet).during c past))
        (λ c past. (puts_then tells quiet c past).elsewhere);
  }

-- ---- the application afterwards

reopened_is : (image : Image) (app : ℕ) → app_that image app (says_at image app) ≡ reopened (app_at image app)
unfolding app_at
reopened_is image app = refl

-- a bad root is as it was
pub bad_reopened : (old new : Image) (app : ℕ) → new ≡ old → says_at old app ≡ nothing
    → app_at new app ≡ reopened (app_at old app)
bad_reopened old new app same none = ap (λ (i : Image). app_at i app) same ∙ bad_app old app none
    ∙ ap (λ (s : Says). app_that old app s) (sym none) ∙ reopened_is old app

pub bad_at : (told : Bool) (old new : Image) (app : ℕ) → new ≡ old → (IsTrue told → says_at old app ≡ nothing)
    → RootAt told new app Bad
bad_at told old new app same none = record {
  memory = tt;
  disk = λ tells. subst (λ (i : Image). says_at i app ≡ nothing) (sym same) (none tells);
}

pub still_clean : (old new : Image) (app : ℕ) → new ≡ old → IsCleanApp app old → IsCleanApp app new
still_clean old new app same was = subst (λ (i : Image). IsCleanApp app i) (sym same) was

-- a root that says something is not bad
abbrev pub IsBad : Result Root Stop → Type 0
IsBad result = result ≡ Ok Bad

says_some : (g : ℕ) (r : text.Root) → nothing ≡ says_by g (Some r) → ⊥
says_some g text.absent e = absurd cc
says_some g (text.installed bank active previous) e = absurd cc

-- where a root was found, it is not said that there is none
pub found_none : (said : Says) (g : ℕ) (r : text.Root) → said ≡ says_by g (Some r) → said ≡ nothing → ⊥
found_none said g r found none = says_some g r (sym none ∙ found)

pub not_bad : (root : Root) (g : ℕ) (r : text.Root) → root_says root ≡ says_by g (Some r) → IsBad (Ok root) → ⊥
not_bad Bad g r says is = says_some g r says
not_bad (Absent cell) g r says is = absurd cc
not_bad (Installed i) g r says is = absurd cc

module _ (again : AgainLaw) (alone : AloneLaw) (versions : VersionsLaw) (slots : RootSlotsLaw) (aside : RootAloneLaw)
    (clean : AloneCleanLaw)
    (app g : ℕ) (r : text.Root) (old mid new : Image) (lt : app < 8) (is : IsRoot r) (same : mid ≡ old)
    (spared : Spares (IsNoSlot (root_place app)) mid new)
    (held : IsAlone new (root_place app) g (root_text r)) (says : says_at old app ≡ says_by g (Some r)) where
  spared_since : Spares (IsNoSlot (root_place app)) old new
  spared_since = subst (λ (i : Image). Spares (IsNoSlot (root_place app)) i new) same spared

  pub brought_app : app_at new app ≡ reopened (app_at old app)
  brought_app = written_app again alone versions slots aside clean app g r old new lt is spared_since held
      ∙ ap (λ (s : Says). app_that old app s) (sym says) ∙ reopened_is old app

  pub brought_clean : IsCleanApp app old → IsCleanApp app new
  brought_clean was = written_clean again alone versions slots aside clean app g r old new lt is spared_since held
      (subst (λ (s : Says). AreClean old (shapes_named app s)) says was.storages)
