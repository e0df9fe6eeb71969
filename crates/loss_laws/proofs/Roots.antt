-- A root that was whole, where the files of one copy were lost: the text that it had stands, which alone has enough
-- copies.
use Rattle.std.proofs.Common.{◌≡◌, ◌≢◌, ℕ, zero, suc, ◌+◌, ◌*◌, ◌<◌, ◌≤◌, List, [], ◌∷◌, length, Bool, true}
use Rattle.std.proofs.Common.{false, Option, Some, None, refl, sym, ap, ◌∙◌, subst, ⊎_elim, arith}
use Rattle.std.proofs.lemmas.Bool.{cases_Bool, cases_eq, leb-true}
use Rattle.std.specs.List.{Contains}
use Rattle.hash_guard.specs.SealedText.{VerifiesAs}
use Rattle.disk_model.specs.Image.{Image}
use Rattle.disk_model.specs.declared.place.Place.{Place}
use Rattle.guarded_cell.specs.declared.looking.Seen.{Seen}
use Rattle.guarded_cell.specs.Held.{held, holds, lacking, standing}
use Rattle.guarded_cell.specs.Register.{Holds, IsHeldBy, own}
use Rattle.guarded_cell.specs.lemmas.HeldLaws.{by_holding, held_all, held_by, holds_is, is_holds, is_lacking}
use Rattle.guarded_cell.specs.lemmas.HeldLaws.{lacking_is, standing_none, standing_stands}
use Rattle.guarded_cell.specs.lemmas.SeenLaws.{found}
use Rattle.root_text.specs.RootText.{root_of}
use Rattle.deploy_laws.specs.Apps.{absent, app_at, installed, nothing, root_lacking, Says, says_at, says_by}
use Rattle.deploy_laws.specs.Apps.{says_in}
use Rattle.deploy_laws.specs.Places.{root_place}
use Rattle.element_laws.specs.lemmas.Lists.{nothing_listed}
use Rattle.loss_laws.specs.ReadsOn.{OnlyLost, RootReadsOn}
use Rattle.loss_laws.specs.Whole.{IsWholeRoot}
use Rattle.loss_laws.proofs.Lists.{another, most_pass}

-- ---- a text that all copies but one hold alone

module _ (image : Image) (place : Place) (lost m g : ℕ) (text : List ℕ) (two : 2 ≤ m) (few : m < place.copies)
    (hold : (c : ℕ) → c < place.copies → c ≢ lost → Holds image place c g text)
    (only : (c h : ℕ) (t : List ℕ) → c < place.copies → c ≢ lost → Holds image place c h t → (h ≡ g) × (t ≡ text)) where
  held_still : IsHeldBy image place m g text
  held_still =
      let most = most_pass (λ c. holds image place c (g, text)) place.copies lost
      (λ c lt apart. is_holds image place c (g, text) (hold c lt apart)) in
      held_by image place m (g, text) (omega (arith, most, few))

  held_only : (h : ℕ) (t : List ℕ) → IsHeldBy image place m h t → (h ≡ g) × (t ≡ text)
  held_only h t some =
      let many = by_holding image place m (h, t) some in
      let (c, lt, apart, is) = another (λ c. holds image place c (h, t)) place.copies lost (omega (arith, many, two)) in
      only c h t lt apart (holds_is image place c (h, t) is)

  pub stands_still : (seen : Seen) × (standing image place m ≡ Some seen) × (seen.generation ≡ g) × (seen.text ≡ text)
  stands_still = go (standing image place m) refl
    where
      go : (answer : Option Seen) → standing image place m ≡ answer
          → (seen : Seen) × (standing image place m ≡ Some seen) × (seen.generation ≡ g) × (seen.text ≡ text)
      go None e = absurd (standing_none image place m (omega (arith, two)) e g text held_still)
      go (Some seen) e =
          let stands = standing_stands image place m seen (omega (arith, two)) e in
          let same = held_only seen.generation seen.text stands.enough in (seen, e, same.0, same.1)

  -- no copy lacks it but the lost one
  pub lacking_still : OnlyLost lost (lacking image place g text)
  lacking_still c listed =
      let (lt, never) = lacking_is image place g text c listed in
      ⊎_elim (λ last. last) (λ apart. absurd (never (hold c lt apart))) (cases_eq c lost)

-- ---- a root that is whole

pub says_is : (image : Image) (app : ℕ) → says_at image app ≡ says_in (standing image (root_place app) 2)
unfolding says_at
says_is image app = refl

lacking_of : (image : Image) (app : ℕ)
    → (app_at image app).lacking ≡ root_lacking image app (says_at image app) (standing image (root_place app) 2)
unfolding app_at
lacking_of image app = refl

its_lacking : (image : Image) (app : ℕ) (s : Says) (seen : Seen) → ¬ (s ≡ nothing)
    → root_lacking image app s (Some seen) ≡ lacking image (root_place app) seen.generation seen.text
its_lacking image app nothing seen some = absurd (some refl)
its_lacking image app (absent g) seen some = refl
its_lacking image app (installed g active previous) seen some = refl

-- whatever the root says, no more copies lack it than its text
less_lacking : (image : Image) (app lost : ℕ) (s : Says) (seen : Seen)
    → OnlyLost lost (lacking image (root_place app) seen.generation seen.text)
    → OnlyLost lost (root_lacking image app s (Some seen))
less_lacking image app lost nothing seen only c listed = absurd (nothing_listed (c + 1) listed)
less_lacking image app lost (absent g) seen only c listed = only c listed
less_lacking image app lost (installed g active previous) seen only c listed = only c listed

one_item : (xs : List Seen) (a b : Seen) → length xs ≤ 1 → Contains xs a → Contains xs b → a ≡ b
one_item [] a b few (k, lt, e) other = absurd (omega (arith, lt))
one_item (x ∷ []) a b few (zero, lt, e) (zero, ltb, f) = sym e ∙ f
one_item (x ∷ []) a b few (zero, lt, e) (suc k, ltb, f) = absurd (omega (arith, ltb))
one_item (x ∷ []) a b few (suc k, lt, e) other = absurd (omega (arith, lt))
one_item (x ∷ y ∷ xs) a b few here other = absurd (omega (arith, few))

-- the text of a whole root: each copy holds it, and no other
pub record IsItsText (image : Image) (app g : ℕ) (text : List ℕ) : Type 0 where
  pub hold : (c : ℕ) → c < 3 → Holds image (root_place app) c g text
  pub only : (c h : ℕ) (t : List ℕ) → c < 3 → Holds image (root_place app) c h t → (h ≡ g) × (t ≡ text)

module _ (image : Image) (app : ℕ) (whole : IsWholeRoot image app) where
  module _ (seen : Seen) (e : standing image (root_place app) 2 ≡ Some seen) where
    none_lacks : lacking image (root_place app) seen.generation seen.text ≡ []
    none_lacks = sym (its_lacking image app (says_at image app) seen whole.says)
        ∙ ap (root_lacking image app (says_at image app)) (sym e) ∙ sym (lacking_of image app) ∙ whole.lacking

    all_hold : (c : ℕ) → c < 3 → Holds image (root_place app) c seen.generation seen.text
    all_hold c lt = ⊎_elim
        (λ yes. holds_is image (root_place app) c (seen.generation, seen.text) yes)
        (λ no. absurd (nothing_listed (c + 1) (subst (λ (l : List ℕ). Contains l (c + 1)) none_lacks
        (is_lacking image (root_place app) seen.generation seen.text c lt
        (λ v. never_both (holds image (root_place app) c (seen.generation, seen.text))
        (is_holds image (root_place app) c (seen.generation, seen.text) v) no)))))
        (cases_Bool (holds image (root_place app) c (seen.generation, seen.text)))
      where
        never_both : (b : Bool) → b ≡ true → b ≡ false → ⊥
        never_both b one two = cc

    here : Contains (held image (root_place app)) seen
    unfolding standing
    here = (found 2 (held image (root_place app)) seen e).0

    hold_only : (c h : ℕ) (t : List ℕ) → c < 3 → Holds image (root_place app) c h t
        → (h ≡ seen.generation) × (t ≡ seen.text)
    hold_only c h t lt v =
        let any = held_all image (root_place app) c h t lt v in
        let same : any.1 ≡ seen = one_item (held image (root_place app)) any.1 seen
        (leb-true (length (held image (root_place app))) 1 whole.sole) (any.0, any.2, any.3) here in (
          sym any.4.0 ∙ ap (λ (s : Seen). s.generation) same,
          sym any.4.1 ∙ ap (λ (s : Seen). s.text) same,
        )

  its_text_in : (answer : Option Seen) → standing image (root_place app) 2 ≡ answer
      → (g : ℕ) × (text : List ℕ) × IsItsText image app g text
  its_text_in None e = absurd (whole.says (says_is image app ∙ ap says_in e))
  its_text_in (Some seen) e = (seen.generation, seen.text, record { hold = all_hold seen e; only = hold_only seen e })

  pub its_text : (g : ℕ) × (text : List ℕ) × IsItsText image app g text
  its_text = its_text_in (standing image (root_place app) 2) refl

-- where all copies but one hold a text alone, the root says it
module _ (image : Image) (app lost g : ℕ) (text : List ℕ)
    (hold : (c : ℕ) → c < 3 → c ≢ lost → Holds image (root_place app) c g text)
    (only : (c h : ℕ) (t : List ℕ) → c < 3 → c ≢ lost → Holds image (root_place app) c h t
    → (h ≡ g) × (t ≡ text)) where
  it_stands : (seen : Seen) × (standing image (root_place app) 2 ≡ Some seen) × (seen.generation ≡ g)
      × (seen.text ≡ text)
  it_stands = stands_still image (root_place app) lost 2 g text (omega arith) (omega arith) hold only

  pub says_it : says_at image app ≡ says_by g (root_of text)
  says_it =
      let (seen, e, same_g, same_t) = it_stands in
      says_is image app ∙ ap says_in e ∙ ap (λ (h : ℕ). says_by h (root_of seen.text)) same_g
      ∙ ap (λ (t : List ℕ). says_by g (root_of t)) same_t

  pub lost_lacks : OnlyLost lost (app_at image app).lacking
  lost_lacks =
      let (seen, e, same_g, same_t) = it_stands in
      subst (OnlyLost lost)
      (ap (root_lacking image app (says_at image app)) (sym e) ∙ sym (lacking_of image app))
      (less_lacking image app lost (says_at image app) seen
      (subst (λ (h : ℕ). OnlyLost lost (lacking image (root_place app) h seen.text)) (sym same_g)
      (subst (λ (t : List ℕ). OnlyLost lost (lacking image (root_place app) g t)) (sym same_t)
      (lacking_still image (root_place app) lost 2 g text (omega arith) (omega arith) hold only))))

-- ---- the files of one copy are lost

module _ (old new : Image) (app lost : ℕ)
    (same : (c k : ℕ) → c < 3 → c ≢ lost → k < 4
    → new ((root_place app).first + 4 * c + k) ≡ old ((root_place app).first + 4 * c + k)) where
  module _ (g : ℕ) (text : List ℕ) (its : IsItsText old app g text) where
    says_before : says_at old app ≡ says_by g (root_of text)
    says_before = says_it old app lost g text (λ c lt apart. its.hold c lt) (λ c h t lt apart v. its.only c h t lt v)

    hold_now : (c : ℕ) → c < 3 → c ≢ lost → Holds new (root_place app) c g text
    hold_now c lt apart = subst (λ s. VerifiesAs s g text) (sym (same c (own g) lt apart (omega arith)))
        (its.hold c lt)

    only_now : (c h : ℕ) (t : List ℕ) → c < 3 → c ≢ lost → Holds new (root_place app) c h t → (h ≡ g) × (t ≡ text)
    only_now c h t lt apart v = its.only c h t lt
        (subst (λ s. VerifiesAs s h t) (same c (own h) lt apart (omega arith)) v)

    pub text_reads_on : RootReadsOn app lost old new
    text_reads_on = record {
      says = says_it new app lost g text hold_now only_now ∙ sym says_before;
      lacking = lost_lacks new app lost g text hold_now only_now;
    }

  pub root_reads_on : IsWholeRoot old app → RootReadsOn app lost old new
  root_reads_on whole = let it = its_text old app whole in text_reads_on it.0 it.1 it.2
