-- What a recovery takes of a root that does not read, and what it makes of the application.
use Rattle.std.specs.Prelude.{ℕ, ◌+◌, ◌*◌, List, find, is_some, Bool, Option, Some, None, ⊤}
use Rattle.hash_guard.specs.SealedText.{header}
use Rattle.disk_model.specs.Image.{Image}
use Rattle.guarded_cell.specs.declared.looking.Seen.{Seen}
use Rattle.guarded_cell.specs.Held.{held}
use Rattle.guarded_cell.specs.Register.{IsAlone}
use Rattle.root_text.specs.RootText.{Root, root_of, root_text}
use Rattle.root_text.specs.Views.{root_said}
use Rattle.deploy_laws.specs.Places.{root_place}
use Rattle.deploy_laws.specs.Apps.{App, Says, app_at, app_saying, says_at, says_by}
use Rattle.deploy_laws.specs.Apps as says
use Rattle.root_recovery.specs.declared.recovering.Recovery.{Recovery}
use Rattle.root_recovery.specs.declared.recovering.Recovery.TheVariants.{Reads, NoneLeft, Taken}

-- the root reads; or no copy holds one; or this one is taken, under its generation, of the copies that hold it, counted
-- from 1
pub data RootRow : Type 0 where
  reads : RootRow
  none_left : RootRow
  takes : (generation : ℕ) (root : Root) (copies : List ℕ) → RootRow

-- ---- what is left of a root

-- the text says a root
abbrev pub is_root_text : Seen → Bool
is_root_text seen = is_some (root_of seen.text)

-- the first of the texts that copies hold which says a root: they come with the greatest generation first, and at one
-- generation in the order of their first copies
unfoldable pub left_at : Image → ℕ → Option Seen
left_at image app = find is_root_text (held image (root_place app))

-- a text that was seen is taken if it says a root
abbrev pub taking_root : Seen → Option Root → RootRow
taking_root seen None = none_left
taking_root seen (Some root) = takes seen.generation root seen.copies

-- the text that is left is taken, where one is
abbrev pub taking : Option Seen → RootRow
taking None = none_left
taking (Some seen) = taking_root seen (root_of seen.text)

-- ---- a recovery

-- what is recovered of a root that says this, of which this is left: only one that says nothing is
abbrev pub recovery_by : Says → Option Seen → RootRow
recovery_by says.nothing left = taking left
recovery_by (says.absent g) left = reads
recovery_by (says.installed g active previous) left = reads

-- what a recovery takes on this image of an application's root, or why it takes none
unfoldable pub recovery_at : Image → ℕ → RootRow
recovery_at image app = recovery_by (says_at image app) (left_at image app)

-- the application after this row
abbrev pub after_row : Image → ℕ → RootRow → App
after_row image app reads = app_at image app
after_row image app none_left = app_at image app
after_row image app (takes g root copies) = app_saying image app (says_by g (Some root))

-- the application afterwards: as the root says that was taken, its storages as they were; else the same
unfoldable pub after_recovery : Image → ℕ → App
after_recovery image app = after_row image app (recovery_at image app)

-- ---- what is answered

-- what a recovery answered, as a row: which root was taken, or why none was
abbrev pub row_answered : Recovery → RootRow
row_answered Reads = reads
row_answered NoneLeft = none_left
row_answered (Taken recovered) = takes recovered.generation (root_said recovered.says) recovered.copies

-- no root was taken
abbrev pub IsRefused : RootRow → Type 0
IsRefused reads = ⊤
IsRefused none_left = ⊤
IsRefused (takes g root copies) = ⊥

-- a root that was taken is held by every copy, and no slot holds anything else
abbrev pub IsHeldByAll : Image → ℕ → RootRow → Type 0
IsHeldByAll image app reads = ⊤
IsHeldByAll image app none_left = ⊤
IsHeldByAll image app (takes g root copies) = IsAlone image (root_place app) g (root_text root)

-- the most bytes that are written: into each of the three copies a root's text, of at most 131,084 bytes, with its
-- header, and a blank, as long as a header
abbrev pub most_written : ℕ
most_written = 3 * (header + 131084 + header)
