-- What stands in a root's place, by the texts that its copies hold.
use Rattle.std.proofs.Common.{◌≡◌, ℕ, suc, ◌+◌, ◌≤◌, List, [], ◌∷◌, ◌++◌, Bool, true, false, not, cond, Option, Some}
use Rattle.std.proofs.Common.{None, find, refl, sym, ap, ◌∙◌, subst, ⊎_elim, arith}
use Rattle.std.specs.Prelude.{◌==◌, IfSome}
use Rattle.std.specs.List.{All, list_any}
use Rattle.std.proofs.lemmas.Bool.{cases_Bool, cond-true, cond-false}
use Rattle.disk_model.specs.Image.{Image}
use Rattle.disk_model.specs.declared.place.Place.{Place}
use Rattle.guarded_cell.specs.declared.looking.Seen.{Seen}
use Rattle.guarded_cell.specs.Held.{copies_that, held, holds, lacking, standing, standing_in}
use Rattle.guarded_cell.specs.Shown.{Chooses}
use Rattle.root_text.specs.RootText as text
use Rattle.root_text.specs.Views.{root_said}
use Rattle.deployment_model.specs.Conditions.{IsDeployment}
use Rattle.deployment_model.specs.Data.{DeploymentData}
use Rattle.manifest.specs.Reading.{deployment_in}
use Rattle.deploy_laws.specs.Apps.{Says, app_at, nothing, root_lacking, root_sole, says_at, says_by, says_in}
use Rattle.deploy_laws.specs.Places.{root_place}
use Rattle.deploy.specs.declared.standing.Standing.{Standing}
use Rattle.deploy.specs.Standing.{IfSpelled, IsFirstOfTwoCopies, IsFoundAmong, IsSpelled}
use Rattle.guarded_cell.specs.Slots.{IsSlotsOf}
use Rattle.guarded_cell.specs.declared.slots.Slots.{Slots}
use Rattle.deploy.specs.Views.{ShowsVersions, bad, seen_at, seen_by}
use Rattle.deploy.proofs.InUse.{app_says}

-- ---- of a list

-- what is found in a list is as all of it
pub found_is : {X : Type 0} (P : X → Type 0) (test : X → Bool) (xs : List X) (x : X) → find test xs ≡ Some x → All P xs
    → P x
found_is P test [] x e every = absurd cc
found_is P test (y ∷ ys) x e every = ⊎_elim
    (λ passes. let same : Some y ≡ Some x = sym (cond-true (test y) (Some y) (find test ys) passes) ∙ e in
    let it : y ≡ x = cc in subst P it (every 0 y (omega arith)))
    (λ fails. found_is P test ys x (sym (cond-false (test y) (Some y) (find test ys) fails) ∙ e)
    (λ k d lt. every (suc k) d (omega (arith, lt))))
    (cases_Bool (test y))

pub no_first : (seens : List Seen) (found : Option Standing) → found ≡ None → IsFoundAmong seens found
    → IsFoundAmong seens None
no_first seens found is among = subst (λ (o : Option Standing). IsFoundAmong seens o) is among

pub is_first : (seens : List Seen) (found : Option Standing) (s : Standing) → found ≡ Some s → IsFoundAmong seens found
    → IsFirstOfTwoCopies seens s
is_first seens found s is among = subst (λ (o : Option Standing). IsFoundAmong seens o) is among

pub is_marked : (P : Standing → Type 0) (found : Option Standing) (s : Standing) → found ≡ Some s → IfSome found P → P s
is_marked P found s is marked = subst (λ (o : Option Standing). IfSome o P) is marked

pub slots_at : (place : Place) (app : ℕ) (image : Image) (slots : Slots) (found : Option Standing)
    → place ≡ root_place app → IsSlotsOf image place slots → IfSome found (λ s. s.slots ≡ slots)
    → IfSome found (λ s. IsSlotsOf image (root_place app) s.slots)
slots_at place app image slots None same are marked = tt
slots_at place app image slots (Some s) same are marked =
    subst (IsSlotsOf image (root_place app)) (sym marked)
    (subst (λ (p : Place). IsSlotsOf image p slots) same are)

pub is_spelled : (found : Option Standing) (s : Standing) → found ≡ Some s → IfSpelled found → IsSpelled s
is_spelled found s is spelled = subst IfSpelled is spelled

-- ---- of an image

-- what is found among the texts that a look at the root's place gave
pub among_at : (place : Place) (app : ℕ) (image : Image) (seens : List Seen) (found : Option Standing)
    → place ≡ root_place app
    → seens ≡ held image place → IsFoundAmong seens found
    → IsFoundAmong (held image (root_place app)) found
among_at place app image seens found same are among =
    subst (λ (xs : List Seen). IsFoundAmong xs found) (are ∙ ap (λ (p : Place). held image p) same) among

-- of guarded_cell
abbrev pub AmongLaw : Type 0
AmongLaw = (image : Image) (place : Place) (m : ℕ) → standing image place m
    ≡ standing_in m (held image place)

abbrev pub ChoosesLaw : Type 0
ChoosesLaw = (image : Image) (place : Place) (m : ℕ) → 1 ≤ m → Chooses image place m (standing image place m)

-- the texts that the copies of the root hold
abbrev pub texts_at : Image → ℕ → List Seen
texts_at image app = held image (root_place app)

module _ (among : AmongLaw) (image : Image) (app : ℕ) where
  says_among : says_at image app ≡ says_in (standing_in 2 (texts_at image app))
  unfolding says_at
  says_among = ap says_in (among image (root_place app) 2)

  pub none_says : IsFoundAmong (texts_at image app) None → says_at image app ≡ nothing
  none_says none = says_among ∙ none

  module _ (s : Standing) (first : IsFirstOfTwoCopies (texts_at image app) s) where
    pub found_stands : standing image (root_place app) 2 ≡ Some s.seen
    found_stands = among image (root_place app) 2 ∙ first.stands

    pub found_says : says_at image app ≡ says_by s.seen.generation (Some (root_said s.says))
    found_says = says_among ∙ ap says_in first.stands ∙ ap (λ (r : Option text.Root). says_by s.seen.generation r)
        first.said

-- ---- the copies that lack it

-- those of three copies that are not in a list
abbrev pub others : List ℕ → List ℕ
others numbers = copies_that (λ copy. not (list_any (λ number. number == copy + 1) numbers)) 3

-- three copies, by whether each is one
abbrev three : (a b c : Bool) → List ℕ
three a b c = (([] ++ cond a (1 ∷ []) []) ++ cond b (2 ∷ []) []) ++ cond c (3 ∷ []) []

others_of : (a b c : Bool) → others (three a b c) ≡ three (not a) (not b) (not c)
others_of false false false = refl
others_of false false true = refl
others_of false true false = refl
others_of false true true = refl
others_of true false false = refl
others_of true false true = refl
others_of true true false = refl
others_of true true true = refl

others_fail : (test : ℕ → Bool) → others (copies_that test 3) ≡ copies_that (λ copy. not (test copy)) 3
others_fail test = others_of (test 0) (test 1) (test 2)

lacking_of : (image : Image) (app : ℕ) (r : text.Root) (g : ℕ) (seen : Seen)
    → root_lacking image app (says_by g (Some r)) (Some seen)
    ≡ lacking image (root_place app) seen.generation seen.text
lacking_of image app text.absent g seen = refl
lacking_of image app (text.installed bank active previous) g seen = refl

app_lacking : (image : Image) (app : ℕ) → (app_at image app).lacking
    ≡ root_lacking image app (says_at image app) (standing image (root_place app) 2)
unfolding app_at
app_lacking image app = refl

module _ (chooses : ChoosesLaw) (image : Image) (app : ℕ) (seen : Seen)
    (stands : standing image (root_place app) 2 ≡ Some seen) where
  lacking_is : others seen.copies ≡ lacking image (root_place app) seen.generation seen.text
  unfolding lacking
  lacking_is = ap others ((chooses image (root_place app) 2 (omega arith)).copies_are seen stands)
      ∙ others_fail (λ copy. holds image (root_place app) copy (seen.generation, seen.text))

  pub app_lacks : (r : text.Root) → says_at image app ≡ says_by seen.generation (Some r)
      → (app_at image app).lacking ≡ others seen.copies
  app_lacks r says = app_lacking image app
      ∙ ap (λ (s : Says). root_lacking image app s (standing image (root_place app) 2)) says
      ∙ ap (λ (o : Option Seen). root_lacking image app (says_by seen.generation (Some r)) o) stands
      ∙ lacking_of image app r seen.generation seen
      ∙ sym lacking_is

-- ---- what is seen

pub bad_seen : (image : Image) (app : ℕ) → says_at image app ≡ nothing → bad ≡ seen_at image app
bad_seen image app none = sym (ap (λ (s : Says). seen_by s (app_at image app).lacking (root_sole image app))
    (app_says image app ∙ none))

pub root_is_seen : (image : Image) (app : ℕ) (says : Says) (numbers : List ℕ) (sole : Bool)
    → says_at image app ≡ says
    → numbers ≡ (app_at image app).lacking → sole ≡ root_sole image app
    → seen_by says numbers sole ≡ seen_at image app
root_is_seen image app says numbers sole is lacks alone =
    ap (λ (s : Says). seen_by s numbers sole) (sym (app_says image app ∙ is))
    ∙ ap (λ (ns : List ℕ). seen_by (app_at image app).says ns sole) lacks
    ∙ ap (λ (b : Bool). seen_by (app_at image app).says (app_at image app).lacking b) alone

-- ---- the versions that are seen

-- of manifest
abbrev pub KeepsLaw : Type 0
KeepsLaw = (text : List ℕ) (d : DeploymentData) → deployment_in text ≡ Some d → IsDeployment d

pub shows_versions : KeepsLaw → (r : text.Root) → text.IsRoot r → (g : ℕ) (lacking : List ℕ) (sole : Bool)
    → ShowsVersions (seen_by (says_by g (Some r)) lacking sole)
shows_versions keeps text.absent is g lacking sole = tt
shows_versions keeps (text.installed bank active None) is g lacking sole =
    record { in_bank = is.in_bank; keeps = keeps active.text active.deployment is.of_active }
shows_versions keeps (text.installed bank active (Some previous)) is g lacking sole = let low =
    is.in_bank in record {
      of_active = record { in_bank = is.in_bank; keeps = keeps active.text active.deployment is.of_active };
      of_previous = record {
        in_bank = omega (arith, low);
        keeps =
            keeps previous.text previous.deployment is.of_previous;
      };
      apart = refl;
    }
