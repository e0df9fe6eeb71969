-- The commands of a run that were answered, with their replies and the worlds after them.
use Rattle.std.specs.Prelude.{◌≡◌, ◌≢◌, ◌≤◌, ℕ, List, [], ◌∷◌, map, ⊤}
use Rattle.std.specs.List.{flat_map}
use Rattle.disk_model.specs.Image.{Image}
use Rattle.disk_model.specs.Medium.{Medium}
use Rattle.per_base.specs.Causes.{Rose}
use Rattle.per_base.specs.declared.errors.PerError.TheVariants as error
use Rattle.command_text.specs.declared.calls.Event.{Event}
use Rattle.command_text.specs.declared.replies.Answer.TheVariants as answer
use Rattle.command_text.specs.declared.replies.Reply.{Reply}
use Rattle.command_text.specs.Replies.{reply_text}
use Rattle.run_model.specs.Converters.{Converters}
use Rattle.run_model.specs.Steps.{StepsTo}
use Rattle.run_model.specs.Worlds.{World}

-- the bytes of a disk at one moment: what reads give, and how many were written up to then
pub record DiskBytes : Type 0 where
  pub image : Image
  pub written : ℕ

-- the bytes of a disk as the model knows it now
abbrev pub bytes_now : Medium → DiskBytes
bytes_now m = record { image = m.image; written = m.written }

-- a command that was answered: its reply, and the world after it
pub record Turn : Type 0 where
  pub event : Event
  pub reply : Reply
  -- the disk's count of failures after it
  pub faults : ℕ
  -- the disk's bytes after it
  pub bytes : DiskBytes
  pub world : World

-- the turn that ends here
abbrev pub turn : Event → Reply → Medium → World → Turn
turn e reply m w = record { event = e; reply = reply; faults = m.faults; bytes = bytes_now m; world = w }

-- the commands of turns, in order
abbrev pub events_of : List Turn → List Event
events_of turns = map (λ (t : Turn). t.event) turns

-- their replies
abbrev pub replies_of : List Turn → List Reply
replies_of turns = map (λ (t : Turn). t.reply) turns

-- the worlds after them
abbrev pub worlds_of : List Turn → List World
worlds_of turns = map (λ (t : Turn). t.world) turns

-- the texts of all replies, in order
abbrev pub replies_text : List Turn → List ℕ
replies_text turns = flat_map reply_text (replies_of turns)

-- each command leads from the world before it to the world after it
abbrev pub Follow : Converters → World → List Turn → Type 0
Follow converters w [] = ⊤
Follow converters w (t ∷ ts) = StepsTo converters w t.event t.reply t.world × Follow converters t.world ts

-- a command is answered that the device failed where the count of failures rose in it, and only there
pub record IsBlamed (before now : ℕ) (reply : Reply) : Type 0 where
  pub later : before ≤ now
  pub cause : reply.answer ≡ answer.Error error.PhysicalStorageFailure → Rose before now
  pub passes : reply.answer ≢ answer.Error error.PhysicalStorageFailure → now ≡ before

-- each of these commands is answered that the device failed just where the count rose in it, and between them it stayed
abbrev pub AreBlamed : (before : ℕ) → List Turn → (after : ℕ) → Type 0
AreBlamed before [] after = after ≡ before
AreBlamed before (t ∷ ts) after = IsBlamed before t.faults t.reply × AreBlamed t.faults ts after

-- The failures of a run: those of its answered commands, and after the last of them none where the run was whole, which
-- is every one but a run whose start the device failed.
pub record CountsFailures (Whole : Type 0) (before : ℕ) (turns : List Turn) (after : ℕ) : Type 0 where
  pub last : ℕ
  pub blamed : AreBlamed before turns last
  pub later : last ≤ after
  pub passes : Whole → after ≡ last
