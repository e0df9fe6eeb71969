-- What a root says, by the texts that its copies hold.
use Rattle.std.proofs.Common.{◌≡◌, ◌⊎◌, ℕ, zero, suc, ◌+◌, ◌<◌, List, [], ◌∷◌, ◌++◌, true, false, not, cond, Option}
use Rattle.std.proofs.Common.{Some, None, refl, sym, ap, ◌∙◌, inl, inr, arith}
use Rattle.std.specs.Prelude.{map, Bool}
use Rattle.std.proofs.lemmas.Bool.{cond-false}
use Rattle.disk_model.specs.Image.{Image}
use Rattle.guarded_cell.specs.declared.looking.Seen.{Seen}
use Rattle.guarded_cell.specs.Register.{Holds, IsHeldBy, IsStanding, HasNoStanding, IsOneEach, IsAlone}
use Rattle.guarded_cell.specs.Held.{holds, standing, lacking, copies_that}
use Rattle.guarded_cell.specs.lemmas.HeldLaws.{standing_stands, standing_none, stands_standing, is_holds}
use Rattle.guarded_cell.specs.lemmas.StopLaws.{at_least_one, alone_only}
use Rattle.root_text.specs.RootText.{Root, root_of}
use Rattle.root_text.specs.RootText as text
use Rattle.element_state.specs.States.{store_at}
use Rattle.deploy_laws.specs.Apps.{Says, nothing, absent, installed, App, says_by, says_in, says_at, root_lacking}
use Rattle.deploy_laws.specs.Apps.{shapes_named, app_at}
use Rattle.deploy_laws.specs.Places.{root_place}

-- a root says something
pub says_some : (g : ℕ) (r : Root) → says_by g (Some r) ≡ nothing → ⊥
says_some g text.absent e = absurd cc
says_some g (text.installed bank active previous) e = absurd cc

pub is_nothing : (s : Says) → (s ≡ nothing) ⊎ ¬ (s ≡ nothing)
is_nothing nothing = inl refl
is_nothing (absent g) = inr (λ e. absurd cc)
is_nothing (installed g active previous) = inr (λ e. absurd cc)

-- what stands is what a root says
pub record Says-as (image : Image) (app g : ℕ) (t : List ℕ) : Type 0 where
  pub held : IsHeldBy image (root_place app) 2 g t
  pub says : says_at image app ≡ says_by g (root_of t)

abbrev pub SaysNone : Image → ℕ → Type 0
SaysNone image app = (says_at image app ≡ nothing) × HasNoStanding image (root_place app) 2

says_cases_in : (image : Image) (app : ℕ) (answer : Option Seen) → standing image (root_place app) 2 ≡ answer
    → says_at image app ≡ says_in answer
    → SaysNone image app ⊎ ((g : ℕ) × (t : List ℕ) × Says-as image app g t)
says_cases_in image app None e says = inl (says, standing_none image (root_place app) 2 (omega arith) e)
says_cases_in image app (Some seen) e says =
    inr (
      seen.generation,
      seen.text,
      record {
        held = (standing_stands image (root_place app) 2 seen (omega arith)
            e).enough;
        says = says;
      },
    )

pub says_is : (image : Image) (app : ℕ) → says_at image app ≡ says_in (standing image (root_place app) 2)
unfolding says_at
says_is image app = refl

-- nothing stands, or it says what some text says that two copies hold
pub says_cases : (image : Image) (app : ℕ) → SaysNone image app ⊎ ((g : ℕ) × (t : List ℕ) × Says-as image app g t)
says_cases image app = says_cases_in image app (standing image (root_place app) 2) refl (says_is image app)

-- ---- a text that is held alone

module _ (image : Image) (app g : ℕ) (t : List ℕ) (alone : IsAlone image (root_place app) g t) where
  alone_one : IsOneEach image (root_place app)
  alone_one a b h s u lta ltb va vb =
      (alone_only image (root_place app) g t alone a lta h s va).1
      ∙ sym (alone_only image (root_place app) g t alone b ltb h u vb).1

  three_hold : IsHeldBy image (root_place app) 2 g t
  three_hold = inl (alone.held 2 (omega arith), inl (alone.held 1 (omega arith), tt))

  alone_stands : IsStanding image (root_place app) 2 g t
  alone_stands = record {
    enough = three_hold;
    greatest = λ h u some. let (c, lt, v) = at_least_one (λ c. Holds image (root_place app) c h u) 3 2
        (omega arith) some
        in
        let same = (alone_only image (root_place app) g t alone c lt h u v).0 in omega (arith, same);
  }

  pub alone_says : says_at image app ≡ says_by g (root_of t)
  alone_says =
      let (seen, e, same_g, same_t) = stands_standing image (root_place app) 2 g t (omega arith) alone_one alone_stands
      in
      says_is image app ∙ ap says_in e ∙ ap (λ (h : ℕ). says_by h (root_of seen.text)) same_g
      ∙ ap (λ (u : List ℕ). says_by g (root_of u)) same_t

-- ---- no copy lacks it

none_that : (test : ℕ → Bool) (n : ℕ) → ((c : ℕ) → c < n → test c ≡ false) → copies_that test n ≡ []
none_that test zero never = refl
none_that test (suc n) never =
    ap (λ (xs : List ℕ). xs ++ cond (test n) ((n + 1) ∷ []) []) (none_that test n (λ c lt. never c (omega (arith, lt))))
    ∙ cond-false (test n) ((n + 1) ∷ []) [] (never n (omega arith))

not_passing : (b : Bool) → b ≡ true → not b ≡ false
not_passing b e = ap not e

module _ (image : Image) (app g : ℕ) (t : List ℕ) (alone : IsAlone image (root_place app) g t) where
  nobody_lacks : lacking image (root_place app) g t ≡ []
  unfolding lacking
  nobody_lacks = none_that (λ copy. not (holds image (root_place app) copy (g, t))) 3
      (λ c lt. not_passing (holds image (root_place app) c (g, t))
      (is_holds image (root_place app) c (g, t) (alone.held c lt)))

  lacking_none : (says : Says) (seen : Seen) → seen.generation ≡ g → seen.text ≡ t
      → root_lacking image app says (Some seen) ≡ []
  lacking_none nothing seen same_g same_t = refl
  lacking_none (absent h) seen same_g same_t = ap (λ (x : ℕ). lacking image (root_place app) x seen.text) same_g
      ∙ ap (λ (u : List ℕ). lacking image (root_place app) g u) same_t ∙ nobody_lacks
  lacking_none (installed h active previous) seen same_g same_t =
      ap (λ (x : ℕ). lacking image (root_place app) x seen.text) same_g
      ∙ ap (λ (u : List ℕ). lacking image (root_place app) g u) same_t ∙ nobody_lacks

  -- the application as this text says it
  abbrev pub app_by : Says → App
  app_by says = record { says = says; lacking = []; states = map (store_at image) (shapes_named app says) }

  app_is : (answer : Option Seen) (says : Says) → standing image (root_place app) 2 ≡ answer → says_at image app ≡ says
      → root_lacking image app says answer ≡ [] → app_at image app ≡ app_by says
  unfolding app_at
  app_is answer says e is none =
      ap (λ (s : Says). record {
        says = s;
        lacking = root_lacking image app s (standing image (root_place app) 2);
        states = map (store_at image) (shapes_named app s);
      }) is
      ∙ ap (λ (o : Option Seen). record {
        says = says;
        lacking = root_lacking image app says o;
        states =
            map (store_at image) (shapes_named app says);
      }) e
      ∙ ap (λ (l : List ℕ). record { says = says; lacking = l; states = map (store_at image) (shapes_named app says) })
      none

  pub alone_app : app_at image app ≡ app_by (says_by g (root_of t))
  alone_app =
      let (seen, e, same_g, same_t) = stands_standing image (root_place app) 2 g t (omega arith)
      (alone_one image app g t alone) (alone_stands image app g t alone) in
      app_is (Some seen) (says_by g (root_of t)) e (alone_says image app g t alone)
      (lacking_none (says_by g (root_of t)) seen same_g same_t)
