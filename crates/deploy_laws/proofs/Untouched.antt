-- An application that nobody touches stands as it was.
use Rattle.std.proofs.Common.{◌≡◌, ℕ, ◌+◌, ◌<◌, List, length, Option, Some, None, refl, sym, ap, ◌∙◌, subst, inl}
use Rattle.std.proofs.Common.{⊎_elim, arith}
use Rattle.std.specs.Prelude.{map}
use Rattle.std.proofs.lemmas.Bool.{cases_Bool}
use Rattle.std.specs.List.{AllByRecursion, Contains}
use Rattle.disk_model.specs.Image.{Image}
use Rattle.disk_model.specs.Case.{Case}
use Rattle.disk_model.specs.Damage.{IsUndamaged, AtLeast, DecaysFor}
use Rattle.disk_model.specs.Frame.{IsSettledOn}
use Rattle.guarded_cell.specs.declared.looking.Seen.{Seen}
use Rattle.guarded_cell.specs.Register.{Holds, IsHeldBy, IsStanding, HasNoStanding}
use Rattle.guarded_cell.specs.Held.{standing, lacking, holds}
use Rattle.guarded_cell.specs.lemmas.HeldLaws.{standing_stands, standing_none, stands_standing, none_standing}
use Rattle.guarded_cell.specs.lemmas.HeldLaws.{is_lacking}
use Rattle.guarded_cell.specs.lemmas.HeldLaws.{holds_is, is_holds}
use Rattle.guarded_cell.specs.lemmas.SeenLaws.{never_both}
use Rattle.guarded_cell.specs.Stops.{PutStops, IsOldOrNew}
use Rattle.guarded_cell.specs.lemmas.StopLaws.{at_least_map, at_least_one, put_stands}
use Rattle.element_state.specs.declared.shapes.Shape.{Shape}
use Rattle.element_state.specs.States.{State, store_at}
use Rattle.element_state.specs.Clean.{IsPiece}
use Rattle.element_laws.specs.Phases.{IsOfPlace, UntouchedLaw}
use Rattle.root_text.specs.RootText.{Root, root_of}
use Rattle.deploy_laws.specs.Places.{root_place}
use Rattle.deploy_laws.specs.Apps.{Says, nothing, absent, installed, App, says_by, says_in, says_at, app_at}
use Rattle.deploy_laws.specs.Apps.{root_lacking}
use Rattle.deploy_laws.specs.Apps.{shapes_named, IsCleanRoot, IsCleanApp, AreClean}
use Rattle.deploy_laws.specs.Pieces.{IsSoundApp, DecaysApp}
use Rattle.deploy_laws.proofs.Covered.{root_sound, root_decays, named_covers}
use Rattle.deploy_laws.specs.Stands.{Stands, IsRootSpared, AreKept}
use Rattle.deploy_laws.proofs.Copies.{slots_sound, slots_decay, untouched_back, untouched_on}
use Rattle.deploy_laws.proofs.Files.{IsFit, AreUntouched}
use Rattle.deploy_laws.proofs.Said.{says_some, says_is}
use Rattle.deploy_laws.proofs.Kept.{StayTo, stay}

some_same : (x y : Seen) → Some x ≡ Some y → x ≡ y
some_same x y e = cc

not_none : (x : Seen) → (o : Option Seen) → o ≡ None → o ≡ Some x → ⊥
not_none x o e f = absurd cc

-- ---- a root of which a stop leaves no more than was held

module _ (app : ℕ) (start : Image) (clean : IsCleanApp app start) (damaged : List ℕ) (image : Image)
    (known : (copy h : ℕ) (t : List ℕ) → copy < 3 → Holds image (root_place app) copy h t
    → (a : ℕ) × (a < 3) × Holds start (root_place app) a h t)
    (none : standing start (root_place app) 2 ≡ None → HasNoStanding image (root_place app) 2)
    (still : (seen : Seen) → standing start (root_place app) 2 ≡ Some seen
    → AtLeast (λ copy. IsUndamaged damaged (root_place app) copy
    × Holds start (root_place app) copy seen.generation seen.text) 3 2
    → IsStanding image (root_place app) 2 seen.generation seen.text)
    (all_clean : says_at image app ≡ says_at start app → AreClean image (shapes_named app (says_at start app))) where
  agree : (h : ℕ) (s u : List ℕ) → (a : ℕ) × (a < 3) × Holds start (root_place app) a h s
      → (b : ℕ) × (b < 3) × Holds start (root_place app) b h u → s ≡ u
  agree h s u x y = let (a, lta, va) = x in let (b, ltb, vb) = y in clean.root.one_each a b h s u lta ltb va vb

  reads : (h : ℕ) (t : List ℕ) → (a : ℕ) × (a < 3) × Holds start (root_place app) a h t
      → (root : Root) × (root_of t ≡ Some root)
  reads h t x = let (a, lta, va) = x in clean.root.root a h t lta va

  root_clean : IsCleanRoot app image
  root_clean = record {
    one_each = λ a b h s u lta ltb va vb. agree h s u (known a h s lta va) (known b h u ltb vb);
    root = λ copy h t lt v. reads h t (known copy h t lt v);
  }

  none_left : standing start (root_place app) 2 ≡ None → says_at image app ≡ nothing
  none_left e = says_is image app ∙ ap says_in (none_standing image (root_place app) 2 (none e))

  -- it stood, and two of its copies are spared
  stays : (seen : Seen) → standing start (root_place app) 2 ≡ Some seen
      → AtLeast (λ copy. IsUndamaged damaged (root_place app) copy
      × Holds start (root_place app) copy seen.generation seen.text) 3 2 → says_at image app ≡ says_at start app
  stays seen e enough =
      let (new, is, same_g, same_t) = stands_standing image (root_place app) 2 seen.generation seen.text (omega arith)
      root_clean.one_each (still seen e enough) in
      says_is image app ∙ ap says_in is ∙ ap (λ (h : ℕ). says_by h (root_of new.text)) same_g
      ∙ ap (λ (u : List ℕ). says_by seen.generation (root_of u)) same_t
      ∙ sym (says_is start app ∙ ap says_in e)

  -- the copies that lack the root are those that do not hold what stood
  lacks : (seen : Seen) → standing start (root_place app) 2 ≡ Some seen → (says : Says) → ¬ (says ≡ nothing)
      → root_lacking start app says (standing start (root_place app) 2)
      ≡ lacking start (root_place app) seen.generation seen.text
  lacks seen e nothing some = absurd (some refl)
  lacks seen e (absent g) some = ap (root_lacking start app (absent g)) e
  lacks seen e (installed g active previous) some = ap (root_lacking start app (installed g active previous)) e

  app_parts : (app_at start app).lacking ≡ root_lacking start app (says_at start app)
      (standing start (root_place app) 2)
  unfolding app_at
  app_parts = refl

  root_stays : (answer : Option Seen) → standing start (root_place app) 2 ≡ answer → ¬ (says_at start app ≡ nothing)
      → AtLeast (IsRootSpared app damaged (app_at start app).lacking) 3 2 → says_at image app ≡ says_at start app
  root_stays None e some enough = absurd (some (says_is start app ∙ ap says_in e))
  root_stays (Some seen) e some enough =
      let is : (app_at start app).lacking ≡ lacking start (root_place app) seen.generation seen.text =
      app_parts ∙ lacks seen e (says_at start app) some in
      stays seen e (at_least_map (IsRootSpared app damaged (app_at start app).lacking)
      (λ copy. IsUndamaged damaged (root_place app) copy
      × Holds start (root_place app) copy seen.generation seen.text) 3 2
      (λ copy lt spared. (
        spared.0,
        holder seen copy lt (λ inside.
            spared.1 (subst (λ (l : List ℕ). Contains l (copy + 1)) (sym is) inside)),
      )) enough)
    where
      holder : (seen : Seen) (copy : ℕ) → copy < 3 → ¬ (Contains
          (lacking start (root_place app) seen.generation seen.text) (copy + 1))
          → Holds start (root_place app) copy seen.generation seen.text
      holder seen copy lt not_in = ⊎_elim
          (λ yes. holds_is start (root_place app) copy (seen.generation, seen.text) yes)
          (λ no. absurd (not_in (is_lacking start (root_place app) seen.generation seen.text copy lt
          (λ v. never_both (holds start (root_place app) copy (seen.generation, seen.text))
          (is_holds start (root_place app) copy (seen.generation, seen.text) v) no))))
          (cases_Bool (holds start (root_place app) copy (seen.generation, seen.text)))

  -- what is read says something
  bad_stays : (answer : Option Seen) → standing start (root_place app) 2 ≡ answer → says_at start app ≡ nothing
      → says_at image app ≡ nothing
  bad_stays None e none = none_left e
  bad_stays (Some seen) e none =
      let (copy, lt, v) = at_least_one (λ copy. Holds start (root_place app) copy seen.generation seen.text) 3 2
      (omega arith) (standing_stands start (root_place app) 2 seen (omega arith) e).enough in
      let (root, read) = clean.root.root copy seen.generation seen.text lt v in
      absurd (says_some seen.generation root (sym (ap (says_by seen.generation) read)
      ∙ sym (says_is start app ∙ ap says_in e) ∙ none))

  pub stands_kept : (after : App) → after.says ≡ says_at start app
      → (says_at image app ≡ says_at start app → AreKept image damaged (shapes_named app (says_at start app))
      (map (store_at start) (shapes_named app (says_at start app))) after.states)
      → Stands app image damaged (app_at start app) after
  unfolding app_at
  stands_kept after says kept = record {
    bad = λ none. inl (bad_stays (standing start (root_place app) 2) refl none);
    root = λ some enough. inl (root_stays (standing start (root_place app) 2) refl some enough);
    same = λ e same. kept e;
    old = λ e differs. absurd (differs says);
    new = λ e differs. absurd (differs says);
    clean_root = root_clean;
    clean = λ e. ⊎_elim (λ was. named was) (λ was. named (was ∙ says)) e;
  }
    where
      named : says_at image app ≡ says_at start app → AreClean image (shapes_named app (says_at image app))
      named was = subst (λ (s : Says). AreClean image (shapes_named app s)) (sym was) (all_clean was)

pub app_says : (start : Image) (app : ℕ) → (app_at start app).says ≡ says_at start app
unfolding app_at
app_says start app = refl

pub app_states : (start : Image) (app : ℕ) → (app_at start app).states
    ≡ map (store_at start) (shapes_named app (says_at start app))
unfolding app_at
app_states start app = refl

-- ---- nobody touches it

module _ (untouched : UntouchedLaw) (app : ℕ) (start : Image) (c : Case) (clean : IsCleanApp app start)
    (fit : AllByRecursion IsFit (shapes_named app (says_at start app))) (sound : IsSoundApp app c)
    (damaged : List ℕ) (image : Image) (decays : DecaysApp app damaged c.left image) where
  abbrev shapes : List Shape
  shapes = shapes_named app (says_at start app)

  d : DecaysFor (IsPiece (root_place app)) damaged c.left image
  d = root_decays app c sound damaged image decays

  storages : AreUntouched start c shapes → (after : List State) → length after ≡ length shapes
      → says_at image app ≡ says_at start app
      → StayTo image damaged shapes (map (store_at start) shapes) after
  storages rest after count e = stay untouched start c damaged image shapes after count
      (named_covers app c sound damaged image decays (says_at start app) e) fit clean.storages rest

  module _ (resting : IsSettledOn (IsOfPlace (root_place app)) start c) where
    pub back : (copy h : ℕ) (t : List ℕ) → copy < 3 → Holds image (root_place app) copy h t
        → Holds start (root_place app) copy h t
    back copy h t lt v = untouched_back (root_place app) damaged c.left image d start c resting refl copy h t lt v

    pub held_back : (h : ℕ) (t : List ℕ) → IsHeldBy image (root_place app) 2 h t → IsHeldBy start (root_place app) 2 h t
    held_back h t some = at_least_map (λ copy. Holds image (root_place app) copy h t)
        (λ copy. Holds start (root_place app) copy h t) 3 2 (λ copy lt v. back copy h t lt v) some

    -- the root is at rest, and each storage is kept on its way to a state
    pub stands_resting : (after : App) → after.says ≡ says_at start app
        → (says_at image app ≡ says_at start app → AreClean image shapes)
        → (says_at image app ≡ says_at start app → AreKept image damaged shapes (map (store_at start) shapes)
        after.states) → Stands app image damaged (app_at start app) after
    stands_resting after says all_clean kept = stands_kept app start clean damaged image
        (λ copy h t lt v. (copy, lt, back copy h t lt v))
        (λ e h t some. standing_none start (root_place app) 2 (omega arith) e h t (held_back h t some))
        (λ seen e enough.
        let stood = standing_stands start (root_place app) 2 seen (omega arith) e in
        record {
          enough = at_least_map (λ copy. IsUndamaged damaged (root_place app) copy
              × Holds start (root_place app) copy seen.generation seen.text)
              (λ copy. Holds image (root_place app) copy seen.generation seen.text) 3 2
              (λ copy lt both. untouched_on (root_place app) damaged c.left image d start c resting refl copy
              seen.generation seen.text lt both.0 both.1) enough;
          greatest = λ h t some. stood.greatest h t (held_back h t some);
        })
        all_clean after says kept

    pub stands_untouched : AreUntouched start c shapes → (after : App) → after.says ≡ says_at start app
        → length after.states ≡ length shapes
        → Stands app image damaged (app_at start app) after
    stands_untouched rest after says count = stands_resting after says (λ e. (storages rest after.states count e).clean)
        (λ e. (storages rest after.states count e).kept)

  -- the text that stands is brought to every copy
  module _ (seen : Seen) (stood : standing start (root_place app) 2 ≡ Some seen)
      (puts : PutStops (root_place app) seen.generation seen.text start c)
      (beside : AreUntouched start c shapes) where
    is_standing : IsStanding start (root_place app) 2 seen.generation seen.text
    is_standing = standing_stands start (root_place app) 2 seen (omega arith) stood

    stop : IsOldOrNew (root_place app) seen.generation seen.text damaged start image
    stop = puts.slots (slots_sound (root_place app) c (root_sound app c sound damaged image decays)) damaged image
        (slots_decay (root_place app) damaged c.left image d)

    it_is : (other : Seen) → standing start (root_place app) 2 ≡ Some other → other ≡ seen
    it_is other e = some_same other seen (sym e ∙ stood)

    pub stands_opening : (after : App) → after.says ≡ says_at start app → length after.states ≡ length shapes
        → Stands app image damaged (app_at start app) after
    stands_opening after says count = stands_kept app start clean damaged image
        (λ copy h t lt v. ⊎_elim
        (λ was. (copy, lt, was))
        (λ new. let (a, lta, va) = at_least_one (λ copy. Holds start (root_place app) copy seen.generation seen.text)
        3 2
        (omega arith) is_standing.enough in (
          a,
          lta,
          subst (λ (x : ℕ). Holds start (root_place app) a x t) (sym new.0)
              (subst (λ (u : List ℕ). Holds start (root_place app) a seen.generation u) (sym new.1) va),
        ))
        (stop.known copy lt h t v))
        (λ e. absurd (not_none seen (standing start (root_place app) 2) e stood))
        (λ other e enough. subst (λ (s : Seen). IsStanding image (root_place app) 2 s.generation s.text)
        (sym (it_is other e))
        (put_stands (root_place app) 2 seen.generation seen.text damaged start image is_standing stop
        (subst (λ (s : Seen). AtLeast (λ copy. IsUndamaged damaged (root_place app) copy
        × Holds start (root_place app) copy s.generation s.text) 3 2) (it_is other e) enough)))
        (λ e. (storages beside after.states count e).clean) after says
        (λ e. (storages beside after.states count e).kept)
