-- How an application stands after a stop while its root is written.
use Rattle.std.proofs.Common.{◌≡◌, ◌⊎◌, ℕ, ◌+◌, ◌<◌, List, Some, sym, ap, ◌∙◌, subst, inl, inr, ⊎_elim, arith}
use Rattle.disk_model.specs.Image.{Image}
use Rattle.disk_model.specs.Case.{Case}
use Rattle.disk_model.specs.Damage.{IsUndamaged, AtLeast, IsSoundFor, DecaysFor}
use Rattle.guarded_cell.specs.Register.{Holds, IsAlone}
use Rattle.guarded_cell.specs.Stops.{PutStops, IsOldOrNew}
use Rattle.guarded_cell.specs.lemmas.StopLaws.{at_least_map, at_least_one, alone_only, write_stands}
use Rattle.element_state.specs.Clean.{IsPiece}
use Rattle.root_text.specs.RootText.{Root, root_of}
use Rattle.deploy_laws.specs.Places.{root_place}
use Rattle.deploy_laws.specs.Apps.{Says, nothing, App, says_by, says_at, shapes_named, IsCleanRoot, AreClean}
use Rattle.deploy_laws.specs.Stands.{Stands, IsRootSpared}
use Rattle.deploy_laws.proofs.Copies.{slots_sound, slots_decay}
use Rattle.deploy_laws.proofs.Said.{says_some, says_cases}
use Rattle.deploy_laws.proofs.Kept.{StayTo}

-- the root is in use with a text, and the call in progress leads to another one
pub record IsLeaving (app g : ℕ) (text : List ℕ) (before after : App) (start : Image) : Type 0 where
  pub alone : IsAlone start (root_place app) g text
  pub is_root : (root : Root) × (root_of text ≡ Some root)
  pub says : before.says ≡ says_by g (root_of text)
  pub something_next : ¬ (after.says ≡ nothing)
  pub differs : ¬ (after.says ≡ before.says)

-- the next one is known
pub record IsBetween (app g : ℕ) (text next : List ℕ) (before after : App) (start : Image) : Type 0 where
  pub leaves : IsLeaving app g text before after start
  pub is_next : (root : Root) × (root_of next ≡ Some root)
  pub says_next : after.says ≡ says_by (g + 1) (root_of next)

-- what is found of the root
abbrev pub IsFoundAs : Image → ℕ → (before after : App) → (NewKept : Type 0) → Type 0
IsFoundAs image app before after NewKept = (says_at image app ≡ nothing)
    ⊎ ((says_at image app ≡ before.says) ⊎ ((says_at image app ≡ after.says) × NewKept))

pub leaving_something : (app g : ℕ) (text : List ℕ) (before after : App) (start : Image)
    → IsLeaving app g text before after start → ¬ (before.says ≡ nothing)
leaving_something app g text before after start is none = let (root, read) = is.is_root in
    says_some g root (sym (ap (says_by g) read) ∙ sym is.says ∙ none)

module _ (app g : ℕ) (text : List ℕ) (before after : App) (start : Image) (is : IsLeaving app g text before after start)
    (damaged : List ℕ) (image : Image) where
  something : ¬ (before.says ≡ nothing)
  something = leaving_something app g text before after start is

  -- the conclusion by its parts
  module _ (found : IsFoundAs image app before after (StayTo image damaged (shapes_named app after.says) after.states
      after.states))
      (spared : AtLeast (IsRootSpared app damaged before.lacking) 3 2 → ¬ (says_at image app ≡ nothing))
      (old : says_at image app ≡ before.says → StayTo image damaged (shapes_named app before.says) before.states
      before.states) (root : IsCleanRoot app image) where
    named_clean : (says : Says) → says_at image app ≡ says → AreClean image (shapes_named app says)
        → AreClean image (shapes_named app (says_at image app))
    named_clean says e clean = subst (λ (s : Says). AreClean image (shapes_named app s)) (sym e) clean

    new_kept : says_at image app ≡ after.says → StayTo image damaged (shapes_named app after.says) after.states
        after.states
    new_kept e = ⊎_elim
        (λ none. absurd (is.something_next (sym e ∙ none)))
        (λ some. ⊎_elim (λ was. absurd (is.differs (sym e ∙ was))) (λ new. new.1) some)
        found

    pub stands_by : Stands app image damaged before after
    stands_by = record {
      bad = λ none. absurd (something none);
      root = λ some enough. ⊎_elim (λ none. absurd (spared enough none)) (λ some. ⊎_elim inl (λ new. inr new.0) some)
          found;
      same = λ e same. absurd (is.differs same);
      old = λ e differs. (old e).kept;
      new = λ e differs. (new_kept e).kept;
      clean_root = root;
      clean = λ e. ⊎_elim (λ was. named_clean before.says was (old was).clean)
          (λ new. named_clean after.says new (new_kept new).clean) e;
    }

-- ---- while the root is written

module _ (app g : ℕ) (text next : List ℕ) (before after : App) (now : Image)
    (is : IsBetween app g text next before after now) (damaged : List ℕ) (image : Image) (c : Case)
    (puts : PutStops (root_place app) (g + 1) next now c) (sound : IsSoundFor (IsPiece (root_place app)) c)
    (decays : DecaysFor (IsPiece (root_place app)) damaged c.left image) where
  stop : IsOldOrNew (root_place app) (g + 1) next damaged now image
  stop = puts.slots (slots_sound (root_place app) c sound) damaged image
      (slots_decay (root_place app) damaged c.left image decays)

  known : (copy h : ℕ) (t : List ℕ) → copy < 3 → Holds image (root_place app) copy h t
      → ((h ≡ g) × (t ≡ text)) ⊎ ((h ≡ g + 1) × (t ≡ next))
  known copy h t lt v = ⊎_elim (λ was. inl (alone_only now (root_place app) g text is.leaves.alone copy lt h t was)) inr
      (stop.known copy lt h t v)

  old_or_new : (says_at image app ≡ nothing) ⊎ ((says_at image app ≡ before.says) ⊎ (says_at image app ≡ after.says))
  old_or_new = ⊎_elim
      (λ none. inl none.0)
      (λ some. let (h, t, it) = some in
      let (copy, lt, v) = at_least_one (λ copy. Holds image (root_place app) copy h t) 3 2 (omega arith) it.held in
      inr (⊎_elim
      (λ same. inl (it.says ∙ ap (λ (x : ℕ). says_by x (root_of t)) same.0
      ∙ ap (λ (u : List ℕ). says_by g (root_of u)) same.1 ∙ sym is.leaves.says))
      (λ same. inr (it.says ∙ ap (λ (x : ℕ). says_by x (root_of t)) same.0
      ∙ ap (λ (u : List ℕ). says_by (g + 1) (root_of u)) same.1 ∙ sym is.says_next))
      (known copy h t lt v)))
      (says_cases image app)

  put_spared : AtLeast (IsRootSpared app damaged before.lacking) 3 2 → ¬ (says_at image app ≡ nothing)
  put_spared enough none = ⊎_elim
      (λ no. write_stands (root_place app) 2 g text next damaged now image (omega arith) is.leaves.alone stop
      (at_least_map (IsRootSpared app damaged before.lacking) (λ copy. IsUndamaged damaged (root_place app) copy) 3 2
      (λ copy lt spared. spared.0) enough) no.1)
      (λ some. let (h, t, it) = some in
      let (copy, lt, v) = at_least_one (λ copy. Holds image (root_place app) copy h t) 3 2 (omega arith) it.held in
      ⊎_elim
      (λ same. leaving_something app g text before after now is.leaves
      (is.leaves.says ∙ ap (λ (u : List ℕ). says_by g (root_of u)) (sym same.1)
      ∙ ap (λ (x : ℕ). says_by x (root_of t)) (sym same.0) ∙ sym it.says ∙ none))
      (λ same. is.leaves.something_next (is.says_next ∙ ap (λ (u : List ℕ). says_by (g + 1) (root_of u)) (sym same.1)
      ∙ ap (λ (x : ℕ). says_by x (root_of t)) (sym same.0) ∙ sym it.says ∙ none))
      (known copy h t lt v))
      (says_cases image app)

  agree : (h : ℕ) (s u : List ℕ) → ((h ≡ g) × (s ≡ text)) ⊎ ((h ≡ g + 1) × (s ≡ next))
      → ((h ≡ g) × (u ≡ text)) ⊎ ((h ≡ g + 1) × (u ≡ next)) → s ≡ u
  agree h s u (inl a) (inl b) = a.1 ∙ sym b.1
  agree h s u (inl a) (inr b) = let x = a.0 in let y = b.0 in absurd (omega (arith, x, y))
  agree h s u (inr a) (inl b) = let x = a.0 in let y = b.0 in absurd (omega (arith, x, y))
  agree h s u (inr a) (inr b) = a.1 ∙ sym b.1

  put_clean : IsCleanRoot app image
  put_clean = record {
    one_each = λ a b h s u lta ltb va vb. agree h s u (known a h s lta va) (known b h u ltb vb);
    root = λ copy h t lt v. ⊎_elim
        (λ same. subst (λ (u : List ℕ). (root : Root) × (root_of u ≡ Some root)) (sym same.1) is.leaves.is_root)
        (λ same. subst (λ (u : List ℕ). (root : Root) × (root_of u ≡ Some root)) (sym same.1) is.is_next)
        (known copy h t lt v);
  }

  pub stands_putting : (says_at image app ≡ before.says
      → StayTo image damaged (shapes_named app before.says) before.states before.states)
      → (says_at image app ≡ after.says → StayTo image damaged (shapes_named app after.says) after.states after.states)
      → Stands app image damaged before after
  stands_putting old new = stands_by app g text before after now is.leaves damaged image
      (⊎_elim inl (λ some. inr (⊎_elim inl (λ e. inr (e, new e)) some)) old_or_new) put_spared old put_clean
