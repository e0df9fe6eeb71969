-- What stands among the texts that a root's copies hold.
use Rattle.std.specs.Prelude.{◌≡◌, List, length, nat_le, Option, Some, None, ⊤}
use Rattle.guarded_cell.specs.Held.{standing_in}
use Rattle.guarded_cell.specs.Seens.{IsSealable}
use Rattle.guarded_cell.specs.declared.looking.Seen.{Seen}
use Rattle.root_text.specs.RootText.{IsRoot, root_of, root_text}
use Rattle.root_text.specs.Views.{root_said}
use Rattle.deploy_laws.specs.Apps.{nothing, says_in}
use Rattle.deploy_laws.specs.Places.{agreeing_of_root}
use Rattle.deploy.specs.declared.standing.Standing.{Standing}

-- what was read is a root, of which the text is the one text, and that text can be sealed again
pub record IsSpelled (s : Standing) : Type 0 where
  pub sealable : IsSealable s.seen
  pub rules : IsRoot (root_said s.says)
  pub spelled : s.seen.text ≡ root_text (root_said s.says)

-- where a root was found, it and its text are such
abbrev pub IfSpelled : Option Standing → Type 0
IfSpelled None = ⊤
IfSpelled (Some s) = IsSpelled s

-- two copies hold its text, the first such one of the texts that are held, and the text says the root that was read
pub record IsFirstOfTwoCopies (seens : List Seen) (s : Standing) : Type 0 where
  pub stands : standing_in agreeing_of_root seens ≡ Some s.seen
  pub said : root_of s.seen.text ≡ Some (root_said s.says)
  pub sole : s.sole ≡ nat_le (length seens) 1

-- none is found where what stands says nothing
abbrev pub IsFoundAmong : List Seen → Option Standing → Type 0
IsFoundAmong seens None = says_in (standing_in agreeing_of_root seens) ≡ nothing
IsFoundAmong seens (Some s) = IsFirstOfTwoCopies seens s
