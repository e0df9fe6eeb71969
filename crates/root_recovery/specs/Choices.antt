-- What is chosen among the texts that were seen.
use Rattle.std.specs.Prelude.{◌≡◌, List, find, Bool, false, Option, Some, None}
use denote.Ref.{Bor}
use Rattle.guarded_cell.specs.declared.looking.Seen.{Seen}
use Rattle.guarded_cell.specs.Held.{standing_in}
use Rattle.root_text.specs.declared.versions.RootSays.{RootSays}
use Rattle.root_text.specs.RootText.{IsRoot, root_of, root_text}
use Rattle.root_text.specs.Views.{root_said}
use Rattle.deploy_laws.specs.Places.{agreeing_of_root}
use Rattle.root_recovery.specs.declared.recovering.Recovered.{Recovered}
use Rattle.root_recovery.specs.declared.choosing.Choice.{Choice}
use Rattle.root_recovery.specs.declared.choosing.Choice.TheVariants.{Reads, NoneLeft, Takes}
use Rattle.root_recovery.specs.Recoveries.{is_root_text}

-- there is a text, and it says a root
abbrev pub stands_as_root : Option Seen → Bool
stands_as_root None = false
stands_as_root (Some seen) = is_root_text seen

-- this root was read of the text
pub record IsReadFrom (seen : Seen) (says : RootSays) : Type 0 where
  pub said : root_of seen.text ≡ Some (root_said says)
  pub rules : IsRoot (root_said says)
  pub spelled : seen.text ≡ root_text (root_said says)

-- the text of which a root was read
abbrev pub seen_taken : Bor Seen × RootSays → Seen
seen_taken found = found.0.now

-- it is the first of the texts that says a root, where two copies hold none, and gives this
pub record IsTakenOf (seens : List Seen) (seen : Seen) (recovered : Recovered) : Type 0 where
  pub unread : stands_as_root (standing_in agreeing_of_root seens) ≡ false
  pub first : find is_root_text seens ≡ Some seen
  pub read : IsReadFrom seen recovered.says
  pub counts : recovered.generation ≡ seen.generation
  pub copies_are : recovered.copies ≡ seen.copies

-- what is chosen among these texts: none where two copies hold a root, or where no text says one
abbrev pub IsChoice : List Seen → Choice → Type 0
IsChoice seens Reads = stands_as_root (standing_in agreeing_of_root seens) ≡ Bool.true
IsChoice seens NoneLeft = (stands_as_root (standing_in agreeing_of_root seens) ≡ false)
    × (find is_root_text seens ≡ None)
IsChoice seens (Takes seen recovered) = IsTakenOf seens seen.now recovered
