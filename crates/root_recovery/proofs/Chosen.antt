-- From what is chosen among the texts that were seen to the row.
use Rattle.std.proofs.Common.{◌≡◌, ℕ, List, true, false, Option, Some, None, find, refl, sym, ap, ◌∙◌, subst}
use Rattle.std.specs.Prelude.{is_some}
use Rattle.disk_model.specs.Image.{Image}
use Rattle.disk_model.specs.declared.place.Place.{Place}
use Rattle.guarded_cell.specs.declared.looking.Seen.{Seen}
use Rattle.guarded_cell.specs.Held.{held, standing, standing_in}
use Rattle.root_text.specs.RootText.{Root, root_of}
use Rattle.root_text.specs.RootText as text
use Rattle.root_text.specs.Views.{root_said}
use Rattle.deploy_laws.specs.Places.{root_place}
use Rattle.deploy_laws.specs.Apps.{App, Says, app_at, app_saying, says_at, says_by, says_in}
use Rattle.deploy_laws.specs.Apps as says
use Rattle.root_recovery.specs.declared.choosing.Choice.{Choice}
use Rattle.root_recovery.specs.declared.recovering.Recovered.{Recovered}
use Rattle.root_recovery.specs.declared.recovering.Recovery.TheVariants.{Taken}
use Rattle.root_recovery.specs.Choices.{IsChoice, IsTakenOf, stands_as_root}
use Rattle.root_recovery.specs.Recoveries.{RootRow, after_recovery, after_row, is_root_text, left_at, none_left, reads}
use Rattle.root_recovery.specs.Recoveries.{recovery_at, recovery_by, row_answered, takes, taking, taking_root}
use Rattle.root_recovery.proofs.Lefts.{left_is, recovering_is}

-- ---- whether a root reads

readable_by : (g : ℕ) (read : Option Root) (left : Option Seen) → is_some read ≡ true
    → recovery_by (says_by g read) left ≡ reads
readable_by g None left e = absurd cc
readable_by g (Some text.absent) left e = refl
readable_by g (Some (text.installed bank active previous)) left e = refl

readable_row : (stands left : Option Seen) → stands_as_root stands ≡ true → recovery_by (says_in stands) left ≡ reads
readable_row None left e = absurd cc
readable_row (Some seen) left e = readable_by seen.generation (root_of seen.text) left e

unread_by : (g : ℕ) (read : Option Root) → is_some read ≡ false → says_by g read ≡ says.nothing
unread_by g None e = refl
unread_by g (Some root) e = absurd cc

unread_says : (stands : Option Seen) → stands_as_root stands ≡ false → says_in stands ≡ says.nothing
unread_says None e = refl
unread_says (Some seen) e = unread_by seen.generation (root_of seen.text) e

-- ---- the row

-- of guarded_cell
abbrev pub AmongLaw : Type 0
AmongLaw = (image : Image) (place : Place) (m : ℕ) → standing image place m ≡ standing_in m (held image place)

module _ (among : AmongLaw) (image : Image) (app : ℕ) where
  says_among : says_at image app ≡ says_in (standing_in 2 (held image (root_place app)))
  unfolding says_at
  says_among = ap says_in (among image (root_place app) 2)

  pub row_reads : stands_as_root (standing_in 2 (held image (root_place app))) ≡ true → recovery_at image app ≡ reads
  row_reads e = recovering_is image app ∙ ap (λ (s : Says). recovery_by s (left_at image app)) says_among
      ∙ readable_row (standing_in 2 (held image (root_place app))) (left_at image app) e

  module _ (unread : stands_as_root (standing_in 2 (held image (root_place app))) ≡ false) where
    pub says_nothing : says_at image app ≡ says.nothing
    says_nothing = says_among ∙ unread_says (standing_in 2 (held image (root_place app))) unread

    row_taking : recovery_at image app ≡ taking (find is_root_text (held image (root_place app)))
    row_taking = recovering_is image app ∙ ap (λ (s : Says). recovery_by s (left_at image app)) says_nothing
        ∙ ap taking (left_is image app)

    pub row_none : find is_root_text (held image (root_place app)) ≡ None → recovery_at image app ≡ none_left
    row_none e = row_taking ∙ ap taking e

    pub row_takes : (seen : Seen) (root : Root) → find is_root_text (held image (root_place app)) ≡ Some seen
        → root_of seen.text ≡ Some root → recovery_at image app ≡ takes seen.generation root seen.copies
    row_takes seen root e said = row_taking ∙ ap taking e ∙ ap (taking_root seen) said

    pub left_row : (seen : Seen) (recovered : Recovered) → IsTakenOf (held image (root_place app)) seen recovered
        → takes seen.generation (root_said recovered.says) seen.copies ≡ row_answered (Taken recovered)
    left_row seen recovered left =
        ap (λ (g : ℕ). takes g (root_said recovered.says) seen.copies) (sym left.counts)
        ∙ ap (takes recovered.generation (root_said recovered.says)) (sym left.copies_are)

-- what was chosen among the texts that a look at the root's place gave
pub choice_at : (place : Place) (app : ℕ) (image : Image) (items texts : List Seen) (found choice : Choice)
    → place ≡ root_place app → items ≡ held image place → texts ≡ items → found ≡ choice → IsChoice texts found
    → IsChoice (held image (root_place app)) choice
choice_at place app image items texts found choice same are given is chosen =
    subst (λ (xs : List Seen). IsChoice xs choice) (given ∙ are ∙ ap (λ (p : Place). held image p) same)
    (subst (IsChoice texts) is chosen)

-- ---- the application afterwards

after_is : (image : Image) (app : ℕ) → after_recovery image app ≡ after_row image app (recovery_at image app)
unfolding after_recovery
after_is image app = refl

pub after_by : (image : Image) (app : ℕ) (row : RootRow) → recovery_at image app ≡ row
    → after_recovery image app ≡ after_row image app row
after_by image app row is = after_is image app ∙ ap (after_row image app) is
