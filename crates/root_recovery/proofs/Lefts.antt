-- What is left of a root, in words of what its copies hold.
use Rattle.std.proofs.Common.{◌≡◌, ℕ, ◌+◌, ◌<◌, ◌≤◌, List, length, get_or, Bool, true, false, Option, Some, None, find}
use Rattle.std.proofs.Common.{refl, sym, ap, ◌∙◌, subst, ⊎_elim, arith}
use Rattle.std.specs.Prelude.{is_some}
use Rattle.std.proofs.lemmas.Bool.{cases_lt}
use Rattle.disk_model.specs.Image.{Image}
use Rattle.disk_model.specs.declared.place.Place.{Place}
use Rattle.guarded_cell.specs.declared.looking.Seen.{Seen}
use Rattle.guarded_cell.specs.Held.{copies_that, held, holds}
use Rattle.guarded_cell.specs.Register.{Holds}
use Rattle.guarded_cell.specs.Shown.{ShowsTexts}
use Rattle.guarded_cell.specs.lemmas.CopyLaws.{first_passing, some_passes}
use Rattle.guarded_cell.specs.lemmas.HeldLaws.{holds_is, is_holds}
use Rattle.root_text.specs.RootText.{Root, root_of}
use Rattle.deploy_laws.specs.Places.{root_place}
use Rattle.deploy_laws.specs.Apps.{Says, says_at}
use Rattle.deploy_laws.specs.Apps as says
use Rattle.root_recovery.specs.Left.{HoldsRoot, IsRootLeft, IsRowOf}
use Rattle.root_recovery.specs.Recoveries.{is_root_text, left_at, recovery_at, recovery_by, taking, taking_root}
use Rattle.root_recovery.proofs.Finding.{IsFirst, find_first, find_none, first_is}

-- of guarded_cell
abbrev pub ShowsLaw : Type 0
ShowsLaw = (image : Image) (place : Place) → ShowsTexts image place (held image place)

pub left_is : (image : Image) (app : ℕ) → left_at image app ≡ find is_root_text (held image (root_place app))
unfolding left_at
left_is image app = refl

pub recovering_is : (image : Image) (app : ℕ) → recovery_at image app ≡ recovery_by (says_at image app) (left_at image app)
unfolding recovery_at
recovering_is image app = refl

module _ (shows : ShowsLaw) (image : Image) (app : ℕ) where
  abbrev texts : List Seen
  texts = held image (root_place app)

  -- where a text stands among those that are held
  record IsListed (generation : ℕ) (text : List ℕ) : Type 0 where
    pub at : ℕ
    pub seen : Seen
    pub within : at < length texts
    pub is : get_or texts at seen ≡ seen
    pub counts : seen.generation ≡ generation
    pub same : seen.text ≡ text

  listed : (copy generation : ℕ) (text : List ℕ) → HoldsRoot image app copy generation text → IsListed generation text
  listed copy generation text it =
      let (k, x, lt, is, same) = (shows image (root_place app)).every copy generation text it.inside it.held in
      record { at = k; seen = x; within = lt; is = is; counts = same.0; same = same.1 }

  -- it passes, for it says a root
  is_one : (copy generation : ℕ) (text : List ℕ) (it : HoldsRoot image app copy generation text)
      (l : IsListed generation text) → is_root_text l.seen ≡ true
  is_one copy generation text it l = ap (λ (t : List ℕ). is_some (root_of t)) l.same ∙ ap is_some it.said

  never : (b : Bool) → b ≡ true → b ≡ false → ⊥
  never b passes fails = absurd cc

  none_left : find is_root_text texts ≡ None → (copy generation : ℕ) (text : List ℕ)
      → ¬ (HoldsRoot image app copy generation text)
  none_left none copy generation text it =
      let l = listed copy generation text it in
      never (is_root_text l.seen) (is_one copy generation text it l)
      (sym (ap is_root_text l.is) ∙ find_none is_root_text texts none l.at l.seen l.within)

  module _ (seen : Seen) (found : find is_root_text texts ≡ Some seen) where
    first : IsFirst is_root_text texts seen
    first = find_first is_root_text texts seen found

    pub copies_are : seen.copies ≡ copies_that (λ copy. holds image (root_place app) copy (seen.generation, seen.text)) 3
    copies_are = first_is is_root_text (λ (s : Seen). s.copies
        ≡ copies_that (λ copy. holds image (root_place app) copy (s.generation, s.text)) 3) texts seen first
        (shows image (root_place app)).copies_are

    some : 1 ≤ length seen.copies
    some = first_is is_root_text (λ (s : Seen). 1 ≤ length s.copies) texts seen first
        (shows image (root_place app)).some

    -- a copy that holds it
    pub holder : (copy : ℕ) × (copy < 3) × Holds image (root_place app) copy seen.generation seen.text
    holder = let (copy, lt, holding) = some_passes
        (λ copy. holds image (root_place app) copy (seen.generation, seen.text)) 3
        (subst (λ (cs : List ℕ). 1 ≤ length cs) copies_are some) in (
          copy,
          lt,
          holds_is image (root_place app) copy (seen.generation, seen.text) holding,
        )

    -- no root stands before it
    behind : (copy generation : ℕ) (text : List ℕ) (it : HoldsRoot image app copy generation text)
        (l : IsListed generation text) → first.at ≤ l.at
    behind copy generation text it l = ⊎_elim
        (λ before. absurd (never (is_root_text l.seen) (is_one copy generation text it l)
        (sym (ap is_root_text l.is) ∙ first.before l.at l.seen before)))
        (λ behind. behind)
        (cases_lt l.at first.at)

    -- it is the one that was found, or comes after it
    same_place : (generation : ℕ) (text : List ℕ) (l : IsListed generation text) → l.at ≡ first.at → seen ≡ l.seen
    same_place generation text l e = sym (first.is l.seen) ∙ ap (λ (k : ℕ). get_or texts k l.seen) (sym e) ∙ l.is

    greatest : (copy h : ℕ) (other : List ℕ) → HoldsRoot image app copy h other → h ≤ seen.generation
    greatest copy h other it =
        let l = listed copy h other it in
        let le = behind copy h other it l in
        ⊎_elim
        (λ less.
        let falls = (shows image (root_place app)).descends first.at l.at l.seen less l.within in
        let here : (get_or texts l.at l.seen).generation ≡ h = ap (λ (s : Seen). s.generation) l.is ∙ l.counts in
        let there : (get_or texts first.at l.seen).generation ≡ seen.generation =
        ap (λ (s : Seen). s.generation) (first.is l.seen) in
        omega (arith, falls, here, there))
        (λ same.
        let one : seen.generation ≡ h =
        ap (λ (s : Seen). s.generation) (same_place h other l (omega (arith, le, same))) ∙ l.counts in
        omega (arith, one))
        (cases_lt first.at l.at)

    lowest : (copy : ℕ) (other : List ℕ) → HoldsRoot image app copy seen.generation other → ¬ (other ≡ seen.text)
        → (lower : ℕ) × (lower < copy) × Holds image (root_place app) lower seen.generation seen.text
    lowest copy other it differs =
        let shown = shows image (root_place app) in
        let l = listed copy seen.generation other it in
        let le = behind copy seen.generation other it l in
        ⊎_elim
        (λ less.
        let test : ℕ → Bool = λ c. holds image (root_place app) c (seen.generation, seen.text) in
        let others : ℕ → Bool = λ c. holds image (root_place app) c (l.seen.generation, l.seen.text) in
        let theirs : l.seen.copies ≡ copies_that others 3 =
        subst (λ (s : Seen). s.copies ≡ copies_that (λ c. holds image (root_place app) c (s.generation, s.text)) 3)
        l.is (shown.copies_are l.at l.seen l.within) in
        let more : 1 ≤ length l.seen.copies =
        subst (λ (s : Seen). 1 ≤ length s.copies) l.is (shown.some l.at l.seen l.within) in
        let (c, lt, holding, at, none) = first_passing test 3
        (subst (λ (cs : List ℕ). 1 ≤ length cs) copies_are some) in
        let (b, blt, b_holding, b_at, b_none) = first_passing others 3
        (subst (λ (cs : List ℕ). 1 ≤ length cs) theirs more) in
        let before : get_or (get_or texts first.at l.seen).copies 0 0 < get_or (get_or texts l.at l.seen).copies 0 0 =
        shown.firsts first.at l.at l.seen less l.within
        (ap (λ (s : Seen). s.generation) l.is ∙ l.counts ∙ sym (ap (λ (s : Seen). s.generation) (first.is l.seen))) in
        let its_first : get_or (get_or texts first.at l.seen).copies 0 0 ≡ c + 1 =
        ap (λ (s : Seen). get_or s.copies 0 0) (first.is l.seen) ∙ ap (λ (cs : List ℕ). get_or cs 0 0) copies_are
        ∙ at in
        let their_first : get_or (get_or texts l.at l.seen).copies 0 0 ≡ b + 1 =
        ap (λ (s : Seen). get_or s.copies 0 0) l.is ∙ ap (λ (cs : List ℕ). get_or cs 0 0) theirs ∙ b_at in
        let holds_other : others copy ≡ true =
        is_holds image (root_place app) copy (l.seen.generation, l.seen.text)
        (subst (λ (h : ℕ). Holds image (root_place app) copy h l.seen.text) (sym l.counts)
        (subst (λ (t : List ℕ). Holds image (root_place app) copy seen.generation t) (sym l.same) it.held)) in
        let least : b ≤ copy = ⊎_elim
        (λ below. absurd (never (others copy) holds_other (b_none copy below)))
        (λ above. above)
        (cases_lt copy b) in (
          c,
          omega (arith, before, its_first, their_first, least),
          holds_is image (root_place app) c (seen.generation, seen.text) holding,
        ))
        (λ same. absurd (differs (sym (ap (λ (s : Seen). s.text)
        (same_place seen.generation other l (omega (arith, le, same))) ∙ l.same))))
        (cases_lt first.at l.at)

    pub left_of : says_at image app ≡ says.nothing → (root : Root) → root_of seen.text ≡ Some root
        → IsRootLeft image app seen.generation root seen.copies
    left_of nothing root said = record {
      nothing_said = nothing;
      text = seen.text;
      said = said;
      copies_are = copies_are;
      some = some;
      greatest = greatest;
      lowest = lowest;
    }

  -- what is found passes, so that it says a root
  found_says : (seen : Seen) → find is_root_text texts ≡ Some seen → root_of seen.text ≡ None → ⊥
  found_says seen found none = never (is_root_text seen) (first seen found).passes (ap is_some none)

  row_by_text : (seen : Seen) → find is_root_text texts ≡ Some seen → says_at image app ≡ says.nothing
      → (read : Option Root) → root_of seen.text ≡ read → IsRowOf image app (taking (Some seen))
  row_by_text seen found nothing None is = absurd (found_says seen found is)
  row_by_text seen found nothing (Some root) is =
      subst (λ (o : Option Root). IsRowOf image app (taking_root seen o)) (sym is) (left_of seen found nothing root is)

  row_by_left : says_at image app ≡ says.nothing → (left : Option Seen) → find is_root_text texts ≡ left
      → IsRowOf image app (taking left)
  row_by_left nothing None is = record { nothing_said = nothing; none = none_left is }
  row_by_left nothing (Some seen) is = row_by_text seen is nothing (root_of seen.text) refl

  row_by_says : (s : Says) → says_at image app ≡ s → IsRowOf image app (recovery_by s (left_at image app))
  row_by_says says.nothing is = row_by_left is (left_at image app) (sym (left_is image app))
  row_by_says (says.absent g) is = λ none. absurd cc
  row_by_says (says.installed g active previous) is = λ none. absurd cc

  pub is_row : IsRowOf image app (recovery_at image app)
  is_row = subst (IsRowOf image app) (sym (recovering_is image app)) (row_by_says (says_at image app) refl)
