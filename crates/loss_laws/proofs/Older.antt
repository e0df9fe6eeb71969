-- A root in whose slots nothing newer came up: what stood stands, or an older text, or none.
use Rattle.std.proofs.Common.{◌≡◌, ◌⊎◌, ℕ, zero, suc, ◌+◌, ◌<◌, ◌≤◌, List, Option, Some, None, refl, sym, ap, ◌∙◌, subst}
use Rattle.std.proofs.Common.{inl, inr, ⊎_elim, arith}
use Rattle.std.proofs.lemmas.Bool.{cases_lt}
use Rattle.hash_guard.specs.Laws.{verifies_once}
use Rattle.hash_guard.specs.SealedText.{VerifiesAs}
use Rattle.disk_model.specs.Damage.{AtLeast}
use Rattle.disk_model.specs.Image.{Image}
use Rattle.disk_model.specs.Place.{slot}
use Rattle.disk_model.specs.declared.place.Place.{Place}
use Rattle.flash_disk.specs.FlashFiles.{flash_files}
use Rattle.guarded_cell.specs.declared.looking.Seen.{Seen}
use Rattle.guarded_cell.specs.Held.{standing}
use Rattle.guarded_cell.specs.Register.{Holds, IsHeldBy, IsStanding, own}
use Rattle.guarded_cell.specs.lemmas.HeldLaws.{standing_none, standing_stands}
use Rattle.root_text.specs.RootText.{root_of}
use Rattle.deploy_laws.specs.Apps.{says_at, says_by, says_in}
use Rattle.deploy_laws.specs.Places.{root_place}
use Rattle.loss_laws.specs.Spared.{BringsNoNewer, IsSameOrOlderRoot, LostRootsLaw, OlderRootsLaw}
use Rattle.loss_laws.proofs.Roots.{says_is}
use Rattle.loss_laws.proofs.Spared.{FilesLaw}

-- ---- two majorities have a copy in common

at_most : (P : ℕ → Type 0) (n m : ℕ) → AtLeast P n m → m ≤ n
at_most P n zero some = omega arith
at_most P zero (suc m) some = absurd some
at_most P (suc n) (suc m) some = ⊎_elim
    (λ both. let le = at_most P n m both.1 in omega (arith, le))
    (λ rest. let le = at_most P n (suc m) rest in omega (arith, le))
    some

in_common : (P Q : ℕ → Type 0) (n a b : ℕ) → n < a + b → AtLeast P n a → AtLeast Q n b
    → (c : ℕ) × (c < n) × P c × Q c
in_common P Q n zero b many one two = let le = at_most Q n b two in absurd (omega (arith, le, many))
in_common P Q n (suc a) zero many one two = let le = at_most P n (suc a) one in absurd (omega (arith, le, many))
in_common P Q zero (suc a) (suc b) many one two = absurd one
in_common P Q (suc n) (suc a) (suc b) many one two = ⊎_elim
    (λ here. ⊎_elim
    (λ there. (n, omega arith, here.0, there.0))
    (λ rest.
    let (c, lt, p, q) = in_common P Q n a (suc b) (omega (arith, many)) here.1 rest in (c, omega (arith, lt), p, q))
    two)
    (λ rest. ⊎_elim
    (λ there.
    let (c, lt, p, q) = in_common P Q n (suc a) b (omega (arith, many)) rest there.1 in (c, omega (arith, lt), p, q))
    (λ other.
    let (c, lt, p, q) = in_common P Q n (suc a) (suc b) (omega (arith, many)) rest other in
    (c, omega (arith, lt), p, q))
    two)
    one

-- two texts of one generation that more than half of the copies hold are one
one_text : (image : Image) (place : Place) (m g : ℕ) (s t : List ℕ) → place.copies < m + m
    → IsHeldBy image place m g s → IsHeldBy image place m g t → s ≡ t
one_text image place m g s t most one two =
    let (c, lt, its, other) = in_common (λ c. Holds image place c g s) (λ c. Holds image place c g t) place.copies m m
    most one two in
    (verifies_once (image (slot place c (own g))) g g s t its other).1

-- where each of them is Q, or there is an X, that many are Q, or there is an X
all_or : (X : Type 0) (P Q : ℕ → Type 0) (n m : ℕ) → ((c : ℕ) → c < n → P c → X ⊎ Q c) → AtLeast P n m
    → X ⊎ AtLeast Q n m
all_or X P Q n zero each some = inr tt
all_or X P Q zero (suc m) each some = absurd some
all_or X P Q (suc n) (suc m) each some = ⊎_elim
    (λ both. ⊎_elim inl
    (λ q. ⊎_elim inl (λ qs. inr (inl (q, qs))) (all_or X P Q n m (λ c lt. each c (omega (arith, lt))) both.1))
    (each n (omega arith) both.0))
    (λ rest. ⊎_elim inl (λ qs. inr (inr qs)) (all_or X P Q n (suc m) (λ c lt. each c (omega (arith, lt))) rest))
    some

-- ---- a root

module _ (image : Image) (app g : ℕ) (text : List ℕ) (stands : IsStanding image (root_place app) 2 g text) where
  says_text_in : (answer : Option Seen) → standing image (root_place app) 2 ≡ answer
      → says_at image app ≡ says_by g (root_of text)
  says_text_in None e = absurd (standing_none image (root_place app) 2 (omega arith) e g text stands.enough)
  says_text_in (Some seen) e =
      let its = standing_stands image (root_place app) 2 seen (omega arith) e in
      let low = its.greatest g text stands.enough in
      let high = stands.greatest seen.generation seen.text its.enough in
      let same : seen.generation ≡ g = omega (arith, low, high) in
      let alike : seen.text ≡ text = one_text image (root_place app) 2 g seen.text text (omega arith)
      (subst (λ (h : ℕ). IsHeldBy image (root_place app) 2 h seen.text) same its.enough) stands.enough in
      says_is image app ∙ ap says_in e ∙ ap (λ (h : ℕ). says_by h (root_of seen.text)) same
      ∙ ap (λ (t : List ℕ). says_by g (root_of t)) alike

  -- what stands, the root says
  says_text : says_at image app ≡ says_by g (root_of text)
  says_text = says_text_in (standing image (root_place app) 2) refl

module _ (old new : Image) (app g : ℕ) (text : List ℕ) (stood : IsStanding old (root_place app) 2 g text)
    (brings : BringsNoNewer (root_place app) g text old new) where
  abbrev IsItOrOlder : ℕ → List ℕ → Type 0
  IsItOrOlder h t = (h < g) ⊎ ((h ≡ g) × (t ≡ text))

  -- what two copies hold now is what stood, or it is older
  it_or_older : (h : ℕ) (t : List ℕ) → IsHeldBy new (root_place app) 2 h t → IsItOrOlder h t
  it_or_older h t some = ⊎_elim (λ it. it)
      (λ held.
      let le = stood.greatest h t held in
      ⊎_elim inl
      (λ no.
      let same : h ≡ g = omega (arith, le, no) in
      inr (
        same,
        one_text old (root_place app) 2 g t text (omega arith)
            (subst (λ (x : ℕ). IsHeldBy old (root_place app) 2 x t) same held) stood.enough,
      ))
      (cases_lt h g))
      (all_or (IsItOrOlder h t) (λ c. Holds new (root_place app) c h t) (λ c. Holds old (root_place app) c h t) 3 2
      (λ c lt v. ⊎_elim (λ less. inl (inl less)) (λ more. ⊎_elim (λ same. inl (inr same)) inr more) (brings c h t lt v))
      some)

  by_answer : (answer : Option Seen) → standing new (root_place app) 2 ≡ answer → IsSameOrOlderRoot app g text old new
  by_answer None e = inr (inr (standing_none new (root_place app) 2 (omega arith) e, says_is new app ∙ ap says_in e))
  by_answer (Some seen) e =
      let its = standing_stands new (root_place app) 2 seen (omega arith) e in
      ⊎_elim
      (λ less. inr (inl (
        seen.generation,
        seen.text,
        less,
        record { stands = its; says = says_text new app seen.generation seen.text its },
      )))
      (λ same.
      let still : IsStanding new (root_place app) 2 g text =
      subst (λ (h : ℕ). IsStanding new (root_place app) 2 h text) same.0
      (subst (λ (t : List ℕ). IsStanding new (root_place app) 2 seen.generation t) same.1 its) in
      inl (
        record { stands = still; says = says_text new app g text still },
        says_text new app g text still ∙ sym (says_text old app g text stood),
      ))
      (it_or_older seen.generation seen.text its.enough)

  reads_older : IsSameOrOlderRoot app g text old new
  reads_older = by_answer (standing new (root_place app) 2) refl

pub older_roots : OlderRootsLaw
older_roots old new app g text stood brings = reads_older old new app g text stood brings

-- ---- from flash

pub lost_roots : FilesLaw → LostRootsLaw
lost_roots files old new blocks app g text loses stood lost =
    reads_older (flash_files old blocks) (flash_files new blocks) app g text stood
    (λ copy h t lt v. ⊎_elim inl
    (λ more. inr (⊎_elim inl
    (λ spared. inr (subst (λ bytes. VerifiesAs bytes h t)
    (files old new blocks (slot (root_place app) copy (own h)) loses spared) v))
    more))
    (lost copy h t lt v))
