-- An application that nobody touches stands on its way to whatever may come of it: damage brings up no root of a
-- greater generation.
use Rattle.std.proofs.Common.{◌≡◌, ◌⊎◌, ℕ, ◌+◌, ◌<◌, ◌≤◌, List, [], length, Option, Some, None, refl, sym, ap, ◌∙◌}
use Rattle.std.proofs.Common.{subst, inl, inr, ⊎_elim, arith}
use Rattle.std.specs.List.{AllByRecursion, Contains}
use Rattle.disk_model.specs.Image.{Image}
use Rattle.disk_model.specs.Case.{Case}
use Rattle.disk_model.specs.Damage.{AtLeast}
use Rattle.guarded_cell.specs.declared.looking.Seen.{Seen}
use Rattle.guarded_cell.specs.Register.{Holds, IsHeldBy, IsStanding}
use Rattle.guarded_cell.specs.Held.{standing, lacking}
use Rattle.guarded_cell.specs.lemmas.StopLaws.{at_least_map}
use Rattle.guarded_cell.specs.lemmas.HeldLaws.{standing_stands, lacking_is}
use Rattle.disk_model.specs.Frame.{IsSettledOn}
use Rattle.element_laws.specs.Phases.{IsOfPlace, UntouchedLaw}
use Rattle.root_text.specs.RootText.{Root, root_of}
use Rattle.root_text.specs.RootText as text
use Rattle.deploy_laws.specs.Places.{root_place}
use Rattle.deploy_laws.specs.Apps.{Says, nothing, absent, installed, App, says_by, says_in, says_at, app_at}
use Rattle.deploy_laws.specs.Apps.{root_lacking}
use Rattle.deploy_laws.specs.Apps.{shapes_named, says_generation, IsCleanApp}
use Rattle.deploy_laws.proofs.Files.{IsFit, AreUntouched}
use Rattle.deploy_laws.specs.Pieces.{IsSoundApp, DecaysApp}
use Rattle.deploy_laws.proofs.Covered.{root_sound, root_decays}
use Rattle.deploy_laws.specs.Stands.{Stands, IsRootSpared, IsLater, same_root, next_root}
use Rattle.deploy_laws.proofs.Said.{is_nothing, says_is}
use Rattle.deploy_laws.proofs.Untouched.{app_says, app_states, stands_untouched, stands_opening, held_back}
use Rattle.deploy_laws.proofs.Copies.{slots_sound, slots_decay}
use Rattle.guarded_cell.specs.Stops.{PutStops, IsOldOrNew}
use Rattle.std.proofs.lemmas.Bool.{cases_lt}
use Rattle.std.proofs.lemmas.List.{length-map}
use Rattle.element_state.specs.States.{store_at}

-- what a text of a generation says has this generation, or none
no_greater : (g : ℕ) (r : Option Root) → says_generation (says_by g r) ≤ g
no_greater g None = omega arith
no_greater g (Some text.absent) = omega arith
no_greater g (Some (text.installed bank active previous)) = omega arith

own_generation : (g : ℕ) (r : Option Root) → ¬ (says_by g r ≡ nothing) → says_generation (says_by g r) ≡ g
own_generation g None some = absurd (some refl)
own_generation g (Some text.absent) some = refl
own_generation g (Some (text.installed bank active previous)) some = refl

-- ---- a root of a greater generation

module _ (app : ℕ) (start : Image) (damaged : List ℕ) (image : Image)
    (still : Stands app image damaged (app_at start app) (app_at start app))
    (found : ¬ (says_at start app ≡ nothing) → says_generation (says_at image app)
    ≤ says_generation (says_at start app))
    (after : App) where
  says : (app_at start app).says ≡ says_at start app
  says = app_says start app

  -- the image does not say what a root of a greater generation says
  never : says_generation (app_at start app).says < says_generation after.says → says_at image app ≡ after.says
      → (says_at start app ≡ nothing) ⊎ ¬ (says_at start app ≡ nothing) → ⊥
  never greater e (inl none) =
      let is_none : after.says ≡ nothing = ⊎_elim (λ x. sym e ∙ x) (λ x. sym e ∙ x ∙ says ∙ none)
      (still.bad (says ∙ none)) in
      let zero_now : says_generation after.says ≡ 0 = ap says_generation is_none in
      omega (arith, greater, zero_now)
  never greater e (inr some) =
      let small : says_generation (says_at image app) ≤ says_generation (says_at start app) = found some in
      let is : says_generation (says_at image app) ≡ says_generation after.says = ap says_generation e in
      let own : says_generation (app_at start app).says ≡ says_generation
      (says_at start app) = ap says_generation says in
      omega (arith, greater, small, is, own)

  pub stands_greater : says_generation (app_at start app).says < says_generation after.says
      → Stands app image damaged (app_at start app) after
  stands_greater greater = record {
    bad = λ none. inl (⊎_elim (λ x. x) (λ x. x ∙ none) (still.bad none));
    root = λ some enough. inl (⊎_elim (λ x. x) (λ x. x) (still.root some enough));
    same = λ e same. absurd (let no : says_generation after.says ≡ says_generation (app_at start app).says =
        ap says_generation same in omega (arith, greater, no));
    old = λ e differs. still.same e refl;
    new = λ e differs. absurd (never greater e (is_nothing (says_at start app)));
    clean_root = still.clean_root;
    clean = λ e. ⊎_elim (λ x. still.clean (inl x)) (λ x. absurd (never greater x (is_nothing (says_at start app)))) e;
  }

states_count : (app : ℕ) (start : Image) → length (app_at start app).states
    ≡ length (shapes_named app (says_at start app))
states_count app start = ap length (app_states start app)
    ∙ length-map (shapes_named app (says_at start app)) (store_at start)

-- ---- nobody touches it

module _ (untouched : UntouchedLaw) (app : ℕ) (start : Image) (c : Case) (clean : IsCleanApp app start)
    (fit : AllByRecursion IsFit (shapes_named app (says_at start app))) (sound : IsSoundApp app c)
    (damaged : List ℕ) (image : Image) (decays : DecaysApp app damaged c.left image)
    (storages : AreUntouched start c (shapes_named app (says_at start app))) where
  module _ (root : IsSettledOn (IsOfPlace (root_place app)) start c) where
    -- the generation of what is found is no greater
    found_of : (answer : Option Seen) → standing start (root_place app) 2 ≡ answer → (found : Option Seen)
        → standing image (root_place app) 2 ≡ found → ¬ (says_at start app ≡ nothing)
        → says_generation (says_at image app) ≤ says_generation (says_at start app)
    found_of None e found f some = absurd (some (says_is start app ∙ ap says_in e))
    found_of (Some seen) e None f some = subst (λ (s : Says). says_generation s ≤ says_generation (says_at start app))
        (sym (says_is image app ∙ ap says_in f)) (omega arith)
    found_of (Some seen) e (Some new) f some =
        let stood : IsStanding start (root_place app) 2 seen.generation seen.text =
        standing_stands start (root_place app) 2 seen (omega arith) e in
        let there : IsStanding image (root_place app) 2 new.generation new.text =
        standing_stands image (root_place app) 2 new (omega arith) f in
        let below : new.generation ≤ seen.generation = stood.greatest new.generation new.text
        (held_back untouched app start c clean fit sound damaged image decays root new.generation new.text there.enough)
        in
        let is : says_at image app ≡ says_by new.generation (root_of new.text) = says_is image app ∙ ap says_in f in
        let was : says_at start app ≡ says_by seen.generation (root_of seen.text) = says_is start app ∙ ap says_in e in
        let small : says_generation (says_at image app) ≤ new.generation =
        subst (λ (s : Says). says_generation s ≤ new.generation) (sym is)
        (no_greater new.generation (root_of new.text)) in
        let own : says_generation (says_at start app) ≡ seen.generation =
        ap says_generation was ∙ own_generation seen.generation (root_of seen.text) (λ none. some (was ∙ none)) in
        omega (arith, below, small, own)

    pub rests_later : (after : App) → IsLater (app_at start app) after
        → Stands app image damaged (app_at start app) after
    rests_later after (same_root is count) = stands_untouched untouched app start c clean fit sound damaged image decays
        root storages after (is ∙ app_says start app) (count ∙ states_count app start)
    rests_later after (next_root greater) = stands_greater app start damaged image
        (stands_untouched untouched app start c clean fit sound damaged image decays root storages (app_at start app)
        (app_says start app) (states_count app start))
        (λ some. found_of (standing start (root_place app) 2) refl (standing image (root_place app) 2) refl some) after
        greater

  -- ---- the text of its root is brought to every copy

  module _ (seen : Seen) (stood : standing start (root_place app) 2 ≡ Some seen)
      (puts : PutStops (root_place app) seen.generation seen.text start c) where
    at_start : IsStanding start (root_place app) 2 seen.generation seen.text
    at_start = standing_stands start (root_place app) 2 seen (omega arith) stood

    stopped : IsOldOrNew (root_place app) seen.generation seen.text damaged start image
    stopped = puts.slots (slots_sound (root_place app) c (root_sound app c sound damaged image decays)) damaged image
        (slots_decay (root_place app) damaged c.left image (root_decays app c sound damaged image decays))

    -- a text of a greater generation that two copies hold was held by two before
    no_more : (h : ℕ) (t : List ℕ) → IsHeldBy image (root_place app) 2 h t → h ≤ seen.generation
    no_more h t some = ⊎_elim
        (λ above. let le : h ≤ seen.generation = at_start.greatest h t
        (at_least_map (λ copy. Holds image (root_place app) copy h t) (λ copy. Holds start (root_place app) copy h t)
        3 2
        (λ copy lt v. ⊎_elim (λ was. was) (λ new. absurd (let same : h ≡ seen.generation =
        new.0 in omega (arith, above, same))) (stopped.known copy lt h t v)) some) in le)
        (λ not_above. omega (arith, not_above))
        (cases_lt seen.generation h)

    found_so : (found : Option Seen) → standing image (root_place app) 2 ≡ found → ¬ (says_at start app ≡ nothing)
        → says_generation (says_at image app) ≤ says_generation (says_at start app)
    found_so None f some = subst (λ (s : Says). says_generation s ≤ says_generation (says_at start app))
        (sym (says_is image app ∙ ap says_in f)) (omega arith)
    found_so (Some new) f some =
        let there : IsStanding image (root_place app) 2 new.generation new.text =
        standing_stands image (root_place app) 2 new (omega arith) f in
        let below : new.generation ≤ seen.generation = no_more new.generation new.text there.enough in
        let is : says_at image app ≡ says_by new.generation (root_of new.text) = says_is image app ∙ ap says_in f in
        let was : says_at start app ≡ says_by seen.generation (root_of seen.text) =
        says_is start app ∙ ap says_in stood in
        let small : says_generation (says_at image app) ≤ new.generation =
        subst (λ (s : Says). says_generation s ≤ new.generation) (sym is)
        (no_greater new.generation (root_of new.text)) in
        let own : says_generation (says_at start app) ≡ seen.generation =
        ap says_generation was ∙ own_generation seen.generation (root_of seen.text) (λ none. some (was ∙ none)) in
        omega (arith, below, small, own)

    pub opens_later : (after : App) → IsLater (app_at start app) after
        → Stands app image damaged (app_at start app) after
    opens_later after (same_root is count) = stands_opening untouched app start c clean fit sound damaged image decays
        seen stood puts storages after (is ∙ app_says start app) (count ∙ states_count app start)
    opens_later after (next_root greater) = stands_greater app start damaged image
        (stands_opening untouched app start c clean fit sound damaged image decays seen stood puts storages
        (app_at start app) (app_says start app) (states_count app start))
        (λ some. found_so (standing image (root_place app) 2) refl some) after greater

-- ---- what stands in two copies is spared where nothing is damaged

holders : (app : ℕ) (start : Image) (seen : Seen) → (copy : ℕ) → copy < 3
    → Holds start (root_place app) copy seen.generation seen.text
    → ¬ (Contains (lacking start (root_place app) seen.generation seen.text) (copy + 1))
holders app start seen copy lt v inside = (lacking_is start (root_place app) seen.generation seen.text copy inside).1 v

none_in : (n : ℕ) → Contains [] n → ⊥
none_in n found = omega (arith, found.1)

lacks : (app : ℕ) (start : Image) (seen : Seen) → standing start (root_place app) 2 ≡ Some seen → (says : Says)
    → ¬ (says ≡ nothing)
    → root_lacking start app says (standing start (root_place app) 2)
    ≡ lacking start (root_place app) seen.generation seen.text
lacks app start seen e nothing some = absurd (some refl)
lacks app start seen e (absent g) some = ap (root_lacking start app (absent g)) e
lacks app start seen e (installed g active previous) some = ap (root_lacking start app (installed g active previous)) e

app_lacking : (app : ℕ) (start : Image) → (app_at start app).lacking
    ≡ root_lacking start app (says_at start app) (standing start (root_place app) 2)
unfolding app_at
app_lacking app start = refl

spared_of : (app : ℕ) (start : Image) (answer : Option Seen) → standing start (root_place app) 2 ≡ answer
    → ¬ (says_at start app ≡ nothing) → AtLeast (IsRootSpared app [] (app_at start app).lacking) 3 2
spared_of app start None e some = absurd (some (says_is start app ∙ ap says_in e))
spared_of app start (Some seen) e some =
    let is : (app_at start app).lacking ≡ lacking start (root_place app) seen.generation seen.text =
    app_lacking app start ∙ lacks app start seen e (says_at start app) some in
    subst (λ (l : List ℕ). AtLeast (IsRootSpared app [] l) 3 2) (sym is)
    (at_least_map (λ copy. Holds start (root_place app) copy seen.generation seen.text)
    (IsRootSpared app [] (lacking start (root_place app) seen.generation seen.text)) 3 2
    (λ copy lt v. ((λ k small found. none_in _ found), holders app start seen copy lt v))
    (standing_stands start (root_place app) 2 seen (omega arith) e).enough)

pub root_stands : (app : ℕ) (start : Image) → ¬ ((app_at start app).says ≡ nothing)
    → AtLeast (IsRootSpared app [] (app_at start app).lacking) 3 2
root_stands app start some = spared_of app start (standing start (root_place app) 2) refl
    (λ none. some (app_says start app ∙ none))
