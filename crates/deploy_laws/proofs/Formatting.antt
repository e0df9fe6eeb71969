-- A bad root that is formatted.
use Rattle.std.proofs.Common.{◌≡◌, ◌⊎◌, ℕ, ◌<◌, List, [], Option, Some, None, refl, sym, ap, ◌∙◌, subst, inl, inr}
use Rattle.std.proofs.Common.{⊎_elim, arith}
use Rattle.std.specs.Prelude.{map}
use Rattle.disk_model.specs.Image.{Image}
use Rattle.disk_model.specs.Case.{Case}
use Rattle.disk_model.specs.Damage.{IsSoundFor, DecaysFor}
use Rattle.guarded_cell.specs.declared.looking.Seen.{Seen}
use Rattle.guarded_cell.specs.Register.{Holds, HasNoStanding}
use Rattle.guarded_cell.specs.Held.{standing}
use Rattle.guarded_cell.specs.lemmas.HeldLaws.{standing_stands, standing_none}
use Rattle.guarded_cell.specs.Stops.{FormatStops, HoldsLess}
use Rattle.guarded_cell.specs.lemmas.StopLaws.{at_least_map, at_least_one}
use Rattle.element_state.specs.States.{store_at}
use Rattle.root_text.specs.RootText.{Root, root_of}
use Rattle.root_text.specs.RootText as text
use Rattle.deploy_laws.specs.Places.{root_place}
use Rattle.element_state.specs.Clean.{IsPiece}
use Rattle.deploy_laws.specs.Apps.{Says, nothing, absent, says_by, says_in, says_at, app_at, shapes_named, IsCleanRoot}
use Rattle.deploy_laws.specs.Apps.{IsCleanApp, AreClean}
use Rattle.deploy_laws.specs.Stands.{Stands, AreKept}
use Rattle.deploy_laws.proofs.Copies.{slots_sound, slots_decay}
use Rattle.deploy_laws.proofs.Said.{says_some, says_is, says_cases}

module _ (app : ℕ) (next : List ℕ) (start : Image) (c : Case) (clean : IsCleanApp app start)
    (bad : says_at start app ≡ nothing) (is_next : root_of next ≡ Some text.absent)
    (stops : FormatStops (root_place app) 1 next start c) (sound : IsSoundFor (IsPiece (root_place app)) c)
    (damaged : List ℕ) (image : Image) (decays : DecaysFor (IsPiece (root_place app)) damaged c.left image) where
  -- nothing stood
  nothing_stood : HasNoStanding start (root_place app) 2
  nothing_stood = go (standing start (root_place app) 2) refl
    where
      go : (answer : Option Seen) → standing start (root_place app) 2 ≡ answer → HasNoStanding start (root_place app) 2
      go None e = standing_none start (root_place app) 2 (omega arith) e
      go (Some seen) e =
          let (copy, lt, v) = at_least_one (λ copy. Holds start (root_place app) copy seen.generation seen.text) 3 2
          (omega arith) (standing_stands start (root_place app) 2 seen (omega arith) e).enough in
          let (root, read) = clean.root.root copy seen.generation seen.text lt v in
          absurd (says_some seen.generation root (sym (ap (says_by seen.generation) read)
          ∙ sym (says_is start app ∙ ap says_in e) ∙ bad))

  abbrev Only : Type 0
  Only = (copy : ℕ) → copy < 3 → (g : ℕ) (t : List ℕ) → Holds image (root_place app) copy g t → (g ≡ 1) × (t ≡ next)

  stop : HoldsLess (root_place app) start image ⊎ Only
  stop = stops.slots (slots_sound (root_place app) c sound) damaged image
      (slots_decay (root_place app) damaged c.left image decays)

  says : (says_at image app ≡ nothing) ⊎ (says_at image app ≡ absent 1)
  says = ⊎_elim
      (λ none. inl none.0)
      (λ some. let (h, t, it) = some in
      ⊎_elim
      (λ less. absurd (nothing_stood h t (at_least_map (λ copy. Holds image (root_place app) copy h t)
      (λ copy. Holds start (root_place app) copy h t) 3 2 (λ copy lt v. less copy lt h t v) it.held)))
      (λ only. let (copy, lt, v) = at_least_one (λ copy. Holds image (root_place app) copy h t) 3 2
      (omega arith) it.held
      in
      let same = only copy lt h t v in
      inr (it.says ∙ ap (λ (x : ℕ). says_by x (root_of t)) same.0 ∙ ap (λ (u : List ℕ). says_by 1 (root_of u)) same.1
      ∙ ap (says_by 1) is_next))
      stop)
      (says_cases image app)

  root : IsCleanRoot app image
  root = ⊎_elim
      (λ less. record {
        one_each = λ a b h s u lta ltb va vb. clean.root.one_each a b h s u lta ltb (less a lta h s va)
            (less b ltb h u vb);
        root = λ copy h t lt v. clean.root.root copy h t lt (less copy lt h t v);
      })
      (λ only. record {
        one_each = λ a b h s u lta ltb va vb. (only a lta h s va).1 ∙ sym (only b ltb h u vb).1;
        root = λ copy h t lt v. (text.absent, ap root_of (only copy lt h t v).1 ∙ is_next);
      })
      stop

  none_clean : (s : Says) → says_at image app ≡ s → AreClean image (shapes_named app s)
      → AreClean image (shapes_named app (says_at image app))
  none_clean s e it = subst (λ (s : Says). AreClean image (shapes_named app s)) (sym e) it

  none_kept : (s : Says) → s ≡ nothing → AreKept image damaged (shapes_named app s)
      (map (store_at start) (shapes_named app s)) (map (store_at start) (shapes_named app s))
  unfolding shapes_named
  none_kept s e = subst (λ (s : Says). AreKept image damaged (shapes_named app s)
      (map (store_at start) (shapes_named app s)) (map (store_at start) (shapes_named app s))) (sym e) tt

  pub stands_formatting : Stands app image damaged (app_at start app)
      (record { says = absent 1; lacking = []; states = [] })
  unfolding app_at shapes_named
  stands_formatting = record {
    bad = λ none. says;
    root = λ some enough. absurd (some bad);
    same = λ e same. absurd (says_some 1 text.absent (same ∙ bad));
    old = λ e differs. none_kept (says_at start app) bad;
    new = λ e differs. tt;
    clean_root = root;
    clean = λ e. ⊎_elim (λ none. none_clean nothing none tt) (λ some. none_clean (absent 1) some tt) says;
  }
