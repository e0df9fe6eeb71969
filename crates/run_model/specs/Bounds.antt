-- What each command of a run wrote at most, and which files it may have changed.
use Rattle.std.specs.Prelude.{◌≡◌, ◌≤◌, ◌+◌, List, [], ◌∷◌, Bool, true, false, Option, Some, None, ⊤}
use Rattle.disk_model.specs.Frame.{Spares}
use Rattle.command_text.specs.declared.calls.Event.{Event}
use Rattle.command_text.specs.declared.replies.Reply.{Reply}
use Rattle.run_model.specs.Converters.{Converters}
use Rattle.run_model.specs.Costs.{roots_cost}
use Rattle.run_model.specs.Runtimes.{CostsBy, IsBesideNamed, IsElsewhere, IsNoRoot, is_refusal, only_looks}
use Rattle.run_model.specs.Runtimes.{writes_none}
use Rattle.run_model.specs.Turns.{DiskBytes, Turn}
use Rattle.run_model.specs.Worlds.{World}
use Rattle.run_model.specs.Writes.{AllNeedNothing, IsCommandWithin, LeavesRoots, OnlyOpens}

-- a command that was answered so, or of which no reply is known: it only looks, or it is refused and no root is opened
-- before it
abbrev pub is_without_writes : World → Event → Option Reply → Bool
is_without_writes w e None = only_looks w e
is_without_writes w e (Some reply) = writes_none w e reply

-- the command was refused, and not for a device that failed
abbrev pub was_refused : Option Reply → Bool
was_refused None = false
was_refused (Some reply) = is_refusal reply.answer

-- One command, from the world before it, with its reply where it was answered: no file of another application changes,
-- and where it names a storage none beside those of that storage; where it is one that writes nothing, no byte is
-- written and reads give what they gave; a call that makes a session durable writes no more than what differs, and the
-- next index; every call writes no more than it costs (`call_cost`), and beside slots of the root no file changes but in
-- the places of the storages that it makes or names; and one that is refused writes no more than the opening of its
-- root, where that is to be opened.
pub record IsBounded (converters : Converters) (w : World) (e : Event) (reply : Option Reply)
    (old new : DiskBytes) : Type 0 where
  pub elsewhere : Spares (IsElsewhere e) old.image new.image
  pub place : Spares (IsBesideNamed w e) old.image new.image
  pub unwritten : is_without_writes w e reply ≡ true → new ≡ old
  pub written : CostsBy w e old.written new.written
  pub within : IsCommandWithin converters w e old new
  pub opens : was_refused reply ≡ true → OnlyOpens w e old new
  pub later : old.written ≤ new.written

-- the start: only slots of roots change, of none that needs nothing, and no more is written than the eight roots cost,
-- each once; and nothing where none needs anything
pub record StartsWithin (old new : DiskBytes) : Type 0 where
  pub roots : Spares IsNoRoot old.image new.image
  pub written : new.written ≤ old.written + roots_cost old.image 8
  pub left : LeavesRoots old.image new.image
  pub already : AllNeedNothing old.image → new ≡ old
  pub later : old.written ≤ new.written

-- the commands that were answered, one after another
abbrev pub AreBounded : Converters → World → DiskBytes → List Turn → Type 0
AreBounded converters w old [] = ⊤
AreBounded converters w old (t ∷ ts) =
    IsBounded converters w t.event (Some t.reply) old t.bytes
    × AreBounded converters t.world t.bytes ts

-- the bytes after the last of them
abbrev pub bytes_after : DiskBytes → List Turn → DiskBytes
bytes_after old [] = old
bytes_after old (t ∷ ts) = bytes_after t.bytes ts

-- a command in progress, of which no reply is known
abbrev pub IsBegunWithin : Converters → World → Event → (old new : DiskBytes) → Type 0
IsBegunWithin converters w e old new = IsBounded converters w e None old new
