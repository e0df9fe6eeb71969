-- An application is what its own files hold.
use Rattle.std.proofs.Common.{◌≡◌, ℕ, zero, suc, ◌+◌, ◌<◌, ◌≤◌, List, [], ◌∷◌, ◌++◌, Bool, not, cond, Option, Some}
use Rattle.std.proofs.Common.{None, refl, sym, ap, ◌∙◌, subst, arith}
use Rattle.std.specs.Prelude.{map}
use Rattle.disk_model.specs.Image.{Image}
use Rattle.disk_model.specs.Place.{slot}
use Rattle.disk_model.specs.Frame.{Spares}
use Rattle.disk_model.specs.declared.place.Place.{Place}
use Rattle.hash_guard.specs.SealedText.{VerifiesAs, verified}
use Rattle.guarded_cell.specs.declared.looking.Seen.{Seen}
use Rattle.guarded_cell.specs.Register.{Holds, IsAlone, IsBlank, own, other}
use Rattle.guarded_cell.specs.Held.{holds, is_slot_text, lacking, copies_that, standing}
use Rattle.guarded_cell.specs.Stands.{SameSlots}
use Rattle.element_state.specs.declared.shapes.Shape.{Shape}
use Rattle.element_state.specs.States.{State, store_at}
use Rattle.element_laws.specs.Apart.{FrameLaw}
use Rattle.element_laws.specs.Phases.{IsOfPlace}
use Rattle.deploy_laws.specs.Places.{root_place, IsFileOf, IsOutsideBank}
use Rattle.deploy_laws.specs.Apps.{Says, nothing, absent, installed, App, says_in, says_at, app_at, root_lacking}
use Rattle.deploy_laws.specs.Apps.{shapes_named, AreVersions, IsFree, IsCleanRoot, IsCleanApp, AreClean}
use Rattle.deploy_laws.proofs.Files.{AreSpared, root_own, root_outside, own_spared, apart_spared}
use Rattle.deploy_laws.proofs.Said.{says_is}

-- of guarded_cell
abbrev pub StandingLaw : Type 0
StandingLaw = (place : Place) (m : ℕ) (old new : Image) → SameSlots place old new
    → standing new place m ≡ standing old place m

-- ---- storages of which no file changes

module _ (frame : FrameLaw) (old new : Image) where
  pub same_states : (shapes : List Shape) → AreSpared old new shapes
      → map (store_at new) shapes ≡ map (store_at old) shapes
  same_states [] spared = refl
  same_states (shape ∷ shapes) spared = ap (λ (s : State). s ∷ map (store_at new) shapes)
      (frame shape old new spared.0).state ∙ ap (λ (ss : List State). store_at old shape ∷ ss)
      (same_states shapes spared.1)

  pub still_clean : (shapes : List Shape) → AreSpared old new shapes → AreClean old shapes → AreClean new shapes
  still_clean [] spared clean = tt
  still_clean (shape ∷ shapes) spared clean = (
    (frame shape old new spared.0).clean clean.0,
    still_clean shapes spared.1 clean.1,
  )

-- ---- the root

same_copies : (f g : ℕ → Bool) (n : ℕ) → ((c : ℕ) → c < n → f c ≡ g c) → copies_that f n ≡ copies_that g n
same_copies f g zero same = refl
same_copies f g (suc n) same =
    ap (λ (xs : List ℕ). xs ++ cond (f n) ((n + 1) ∷ []) []) (same_copies f g n (λ c lt. same c (omega (arith, lt))))
    ∙ ap (λ (b : Bool). copies_that g n ++ cond b ((n + 1) ∷ []) []) (same n (omega arith))

own_small : (g : ℕ) → own g < 2
own_small g = omega arith

other_small : (g : ℕ) → other g < 2
other_small g = omega arith

module _ (app : ℕ) (old new : Image) (spared : Spares (IsOfPlace (root_place app)) old new) where
  same_slot : SameSlots (root_place app) old new
  same_slot copy parity lt ltp = spared (slot (root_place app) copy parity)
      (record { copy = copy; kind = parity; inside = omega (arith, lt); small = omega (arith, ltp); is = omega arith })

  pub still_alone : (g : ℕ) (text : List ℕ) → IsAlone old (root_place app) g text → IsAlone new (root_place app) g text
  still_alone g text alone = record {
    held = λ copy lt. subst (λ (bytes : List ℕ). VerifiesAs bytes g text)
        (sym (same_slot copy (own g) lt (own_small g))) (alone.held copy lt);
    blank = λ copy lt. subst IsBlank (sym (same_slot copy (other g) lt (other_small g))) (alone.blank copy lt);
  }

  lacking_same : (g : ℕ) (t : List ℕ) → lacking new (root_place app) g t ≡ lacking old (root_place app) g t
  unfolding lacking
  lacking_same g t = same_copies (λ copy. not (holds new (root_place app) copy (g, t)))
      (λ copy. not (holds old (root_place app) copy (g, t))) 3
      (λ copy lt. ap (λ (bytes : List ℕ). not (is_slot_text (g, t) (verified bytes)))
      (same_slot copy (own g) lt (own_small g)))

  lacking_in_same : (says : Says) (seen : Option Seen) → root_lacking new app says seen ≡ root_lacking old app says seen
  lacking_in_same nothing seen = refl
  lacking_in_same (absent g) None = refl
  lacking_in_same (absent g) (Some seen) = lacking_same seen.generation seen.text
  lacking_in_same (installed g active previous) None = refl
  lacking_in_same (installed g active previous) (Some seen) = lacking_same seen.generation seen.text

  was_held : (copy g : ℕ) (t : List ℕ) → copy < 3 → Holds new (root_place app) copy g t
      → Holds old (root_place app) copy g t
  was_held copy g t lt v = subst (λ (bytes : List ℕ). VerifiesAs bytes g t) (same_slot copy (own g) lt (own_small g)) v

  pub root_still_clean : IsCleanRoot app old → IsCleanRoot app new
  root_still_clean clean = record {
    one_each = λ a b h s u lta ltb va vb. clean.one_each a b h s u lta ltb (was_held a h s lta va)
        (was_held b h u ltb vb);
    root = λ copy h t lt v. clean.root copy h t lt (was_held copy h t lt v);
  }

  module _ (standing_law : StandingLaw) where
    found_same : standing new (root_place app) 2 ≡ standing old (root_place app) 2
    found_same = standing_law (root_place app) 2 old new same_slot

    pub says_frame : says_at new app ≡ says_at old app
    says_frame = says_is new app ∙ ap says_in found_same ∙ sym (says_is old app)

    -- with these states of its storages
    abbrev pub with_states : List State → App
    with_states states = record (app_at old app) { states = states }

    app_with : (states : List State) → map (store_at new) (shapes_named app (says_at old app)) ≡ states
        → app_at new app ≡ with_states states
    unfolding app_at
    app_with states same =
        ap (λ (s : Says). record {
          says = s;
          lacking = root_lacking new app s (standing new (root_place app) 2);
          states =
              map (store_at new) (shapes_named app s);
        }) says_frame
        ∙ ap (λ (o : Option Seen). record {
          says = says_at old app;
          lacking =
              root_lacking new app (says_at old app) o;
          states =
              map (store_at new) (shapes_named app (says_at old app));
        }) found_same
        ∙ ap (λ (l : List ℕ). record {
          says = says_at old app;
          lacking = l;
          states =
              map (store_at new) (shapes_named app (says_at old app));
        })
        (lacking_in_same (says_at old app) (standing old (root_place app) 2))
        ∙ ap (λ (ss : List State). record {
          says = says_at old app;
          lacking =
              root_lacking old app (says_at old app) (standing old (root_place app) 2);
          states = ss;
        }) same

    pub app_becomes : (states : List State) → map (store_at new) (shapes_named app (says_at old app)) ≡ states
        → app_at new app ≡ record (app_at old app) { states = states }
    app_becomes states same = app_with states same

    pub app_clean_by : AreClean new (shapes_named app (says_at old app)) → IsCleanRoot app old → IsCleanApp app new
    app_clean_by storages root = record {
      root = root_still_clean root;
      storages = subst (λ (s : Says). AreClean new (shapes_named app s)) (sym says_frame) storages;
    }

    module _ (frame : FrameLaw) (storages : AreSpared old new (shapes_named app (says_at old app))) where
      own_states : app_at old app ≡ record (app_at old app) {
        states =
            map (store_at old) (shapes_named app (says_at old app));
      }
      unfolding app_at
      own_states = refl

      pub app_same : (app_at new app ≡ app_at old app) × (IsCleanApp app old → IsCleanApp app new)
      app_same = (
        app_becomes (map (store_at old) (shapes_named app (says_at old app)))
            (same_states frame old new (shapes_named app (says_at old app)) storages) ∙ sym own_states,
        λ clean. app_clean_by (still_clean frame old new (shapes_named app (says_at old app)) storages clean.storages)
            clean.root,
      )

-- ---- all files of an application, or all but those of a bank in which no version is

module _ (standing_law : StandingLaw) (frame : FrameLaw) (app : ℕ) (old new : Image) (lt : app < 8)
    (versions : AreVersions (says_at old app)) where
  pub app_frame : Spares (IsFileOf app) old new → (app_at new app ≡ app_at old app)
      × (IsCleanApp app old → IsCleanApp app new)
  app_frame spared = app_same app old new (λ f of. spared f (root_own app f lt of)) standing_law frame
      (own_spared app lt (says_at old app) versions old new spared)

  pub free_bank : (bank : ℕ) → bank ≤ 1 → IsFree bank (says_at old app) → Spares (IsOutsideBank app bank) old new
      → (app_at new app ≡ app_at old app) × (IsCleanApp app old → IsCleanApp app new)
  free_bank bank le free spared = app_same app old new (λ f of. spared f (root_outside app bank f lt of)) standing_law
      frame
      (apart_spared app lt (says_at old app) versions bank le free old new spared)
