-- A stop while every copy of a root that says nothing is brought to a text that some copy holds, and then damage.
use Rattle.std.proofs.Common.{◌≡◌, ◌⊎◌, ℕ, zero, suc, ◌<◌, List, Option, Some, None, refl, sym, ap, ◌∙◌, subst, inl}
use Rattle.std.proofs.Common.{inr, ⊎_elim, arith}
use Rattle.std.specs.Prelude.{map}
use Rattle.disk_model.specs.Image.{Image}
use Rattle.disk_model.specs.Case.{Case}
use Rattle.disk_model.specs.Damage.{AtLeast}
use Rattle.guarded_cell.specs.declared.looking.Seen.{Seen}
use Rattle.guarded_cell.specs.Held.{standing}
use Rattle.guarded_cell.specs.Register.{HasNoStanding, Holds}
use Rattle.guarded_cell.specs.Stops.{IsOldOrNew, PutStops}
use Rattle.guarded_cell.specs.lemmas.HeldLaws.{standing_none, standing_stands}
use Rattle.guarded_cell.specs.lemmas.StopLaws.{at_least_one}
use Rattle.element_state.specs.Clean.{in_slot}
use Rattle.element_state.specs.States.{store_at}
use Rattle.element_laws.specs.Phases.{UntouchedLaw}
use Rattle.root_text.specs.RootText.{Root, root_of}
use Rattle.root_text.specs.RootText as text
use Rattle.deploy_laws.specs.Places.{root_place}
use Rattle.deploy_laws.specs.Apps.{AreClean, App, IsCleanApp, IsCleanRoot, Says, app_at, app_saying}
use Rattle.deploy_laws.specs.Apps.{nothing, says_at, says_by, says_in, shapes_named}
use Rattle.deploy_laws.specs.Laws.{CoveredLaw, StorageFilesLaw, VersionsLaw}
use Rattle.deploy_laws.specs.Pieces.{DecaysApp, IsSoundApp, of_root}
use Rattle.deploy_laws.specs.Stands.{AreKept, Stands}
use Rattle.root_recovery.proofs.Storages.{AreStill, all_beside, still}

-- of at least m copies each is one that it was, or something is so
split : (P Q : ℕ → Type 0) (N : Type 0) (n m : ℕ) → ((c : ℕ) → c < n → P c → Q c ⊎ N) → AtLeast P n m
    → AtLeast Q n m ⊎ N
split P Q N n zero each some = inl tt
split P Q N zero (suc m) each some = absurd some
split P Q N (suc n) (suc m) each some = ⊎_elim
    (λ both. ⊎_elim
    (λ this. ⊎_elim (λ rest. inl (inl (this, rest))) (λ so. inr so)
    (split P Q N n m (λ c lt. each c (omega (arith, lt))) both.1))
    (λ so. inr so)
    (each n (omega arith) both.0))
    (λ others. ⊎_elim (λ rest. inl (inr rest)) (λ so. inr so)
    (split P Q N n (suc m) (λ c lt. each c (omega (arith, lt))) others))
    some

pub says_some : (g : ℕ) (r : Root) → says_by g (Some r) ≡ nothing → ⊥
says_some g text.absent e = absurd cc
says_some g (text.installed bank active previous) e = absurd cc

pub says_is : (image : Image) (app : ℕ) → says_at image app ≡ says_in (standing image (root_place app) 2)
unfolding says_at
says_is image app = refl

pub app_says : (image : Image) (app : ℕ) → (app_at image app).says ≡ says_at image app
unfolding app_at
app_says image app = refl

module _ (covers : CoveredLaw) (untouched : UntouchedLaw) (versions : VersionsLaw) (files : StorageFilesLaw)
    (app : ℕ) (lt : app < 8) (g : ℕ) (t : List ℕ) (r : Root) (start : Image) (c : Case)
    (clean : IsCleanApp app start) (bad : says_at start app ≡ nothing)
    (holder : (copy : ℕ) × (copy < 3) × Holds start (root_place app) copy g t) (said : root_of t ≡ Some r)
    (puts : PutStops (root_place app) g t start c) (storages : AreClean start (shapes_named app (says_by g (Some r))))
    (sound : IsSoundApp app c) (damaged : List ℕ) (image : Image) (decays : DecaysApp app damaged c.left image) where
  abbrev after : App
  after = app_saying start app (says_by g (Some r))

  stop : IsOldOrNew (root_place app) g t damaged start image
  stop = puts.slots (λ x p. (sound (root_place app) (inl (of_root refl))).pieces (in_slot x) p) damaged image
      (record {
        others = (decays (root_place app) (of_root refl)).others;
        pieces = λ x p. (decays (root_place app) (of_root refl)).pieces (in_slot x) p;
      })

  -- what is held was held
  known : (copy h : ℕ) (u : List ℕ) → copy < 3 → Holds image (root_place app) copy h u
      → (a : ℕ) × (a < 3) × Holds start (root_place app) a h u
  known copy h u ltc v = ⊎_elim
      (λ was. (copy, ltc, was))
      (λ new. let (a, lta, va) = holder in (
        a,
        lta,
        subst (λ (x : ℕ). Holds start (root_place app) a x u) (sym new.0)
            (subst (λ (w : List ℕ). Holds start (root_place app) a g w) (sym new.1) va),
      ))
      (stop.known copy ltc h u v)

  agree : (h : ℕ) (s u : List ℕ) → (a : ℕ) × (a < 3) × Holds start (root_place app) a h s
      → (b : ℕ) × (b < 3) × Holds start (root_place app) b h u → s ≡ u
  agree h s u x y = let (a, lta, va) = x in let (b, ltb, vb) = y in clean.root.one_each a b h s u lta ltb va vb

  is_root : (h : ℕ) (u : List ℕ) → (a : ℕ) × (a < 3) × Holds start (root_place app) a h u
      → (root : Root) × (root_of u ≡ Some root)
  is_root h u x = let (a, lta, va) = x in clean.root.root a h u lta va

  root_clean : IsCleanRoot app image
  root_clean = record {
    one_each = λ a b h s u lta ltb va vb. agree h s u (known a h s lta va) (known b h u ltb vb);
    root = λ copy h u ltc v. is_root h u (known copy h u ltc v);
  }

  -- no text stood, for all that is held are roots
  nothing_stood : (answer : Option Seen) → standing start (root_place app) 2 ≡ answer
      → HasNoStanding start (root_place app) 2
  nothing_stood None e = standing_none start (root_place app) 2 (omega arith) e
  nothing_stood (Some seen) e =
      let (copy, ltc, v) = at_least_one (λ copy. Holds start (root_place app) copy seen.generation seen.text) 3 2
      (omega arith) (standing_stands start (root_place app) 2 seen (omega arith) e).enough in
      let (root, read) = clean.root.root copy seen.generation seen.text ltc v in
      absurd (says_some seen.generation root (sym (ap (says_by seen.generation) read)
      ∙ sym (says_is start app ∙ ap says_in e) ∙ bad))

  abbrev IsFound : Type 0
  IsFound = (says_at image app ≡ nothing) ⊎ (says_at image app ≡ says_by g (Some r))

  found_of : (answer : Option Seen) → standing image (root_place app) 2 ≡ answer → IsFound
  found_of None e = inl (says_is image app ∙ ap says_in e)
  found_of (Some seen) e = ⊎_elim
      (λ were. absurd (nothing_stood (standing start (root_place app) 2) refl seen.generation seen.text were))
      (λ new. inr (says_is image app ∙ ap says_in e
      ∙ ap (λ (h : ℕ). says_by h (root_of seen.text)) new.0 ∙ ap (λ (u : List ℕ). says_by g (root_of u)) new.1
      ∙ ap (says_by g) said))
      (split (λ copy. Holds image (root_place app) copy seen.generation seen.text)
      (λ copy. Holds start (root_place app) copy seen.generation seen.text)
      ((seen.generation ≡ g) × (seen.text ≡ t)) 3 2
      (λ copy ltc v. stop.known copy ltc seen.generation seen.text v)
      (standing_stands image (root_place app) 2 seen (omega arith) e).enough)

  found : IsFound
  found = found_of (standing image (root_place app) 2) refl

  -- the storages that it names
  named : says_at image app ≡ says_by g (Some r) → AreStill image start damaged (shapes_named app (says_by g (Some r)))
  named is = subst (λ (s : Says). AreClean start (shapes_named app s)
      → AreStill image start damaged (shapes_named app s)) is
      (λ cleans. still untouched app start c damaged image puts.elsewhere (shapes_named app (says_at image app))
      (λ shape at. covers app c damaged image shape sound decays at)
      (all_beside files app lt (says_at image app) (versions image app)) cleans)
      storages

  none_clean : says_at image app ≡ nothing → AreClean image (shapes_named app (says_at image app))
  unfolding shapes_named
  none_clean is = subst (λ (s : Says). AreClean image (shapes_named app s)) (sym is) tt

  none_kept : AreKept image damaged (shapes_named app (says_at start app)) (app_at start app).states
      (app_at start app).states
  unfolding shapes_named app_at
  none_kept = subst (λ (s : Says). AreKept image damaged (shapes_named app s)
      (map (store_at start) (shapes_named app s)) (map (store_at start) (shapes_named app s))) (sym bad) tt

  was : (app_at start app).says ≡ nothing
  was = app_says start app ∙ bad

  pub stands : Stands app image damaged (app_at start app) after
  stands = record {
    bad = λ none. found;
    root = λ some enough. absurd (some was);
    same = λ e same. absurd (says_some g r (same ∙ was));
    old = λ e differs. subst (λ (s : Says). AreKept image damaged (shapes_named app s) (app_at start app).states
        (app_at start app).states) (sym (app_says start app)) none_kept;
    new = λ e differs. (named e).kept;
    clean_root = root_clean;
    clean = λ e. ⊎_elim none_clean
        (λ is. subst (λ (s : Says). AreClean image (shapes_named app s)) (sym is) (named is).clean) found;
  }
