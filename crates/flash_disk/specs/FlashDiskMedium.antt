-- What is said of a disk over a flash: its files are those that the newest records denote, and what a crash of the
-- flash leaves is what a crash of the disk leaves, where no page passes its hash by chance.
use Rattle.std.specs.Prelude.{◌≡◌, ℕ, ◌+◌, ◌≤◌, Bool, IsTrue, List, [], ◌∷◌, if◌then◌else◌}
use Rattle.disk_model.specs.Image.{Image, put_image}
use Rattle.disk_model.specs.Case.{Case}
use Rattle.disk_model.specs.Medium.{Medium}
use Rattle.flash_model.specs.Pages.{IsPlain}
use Rattle.flash_model.specs.State.{Announced, FlashState, FlashCase}
use Rattle.flash_model.specs.FlashMedium.{FlashMedium}
use Rattle.flash_disk.specs.FlashFiles.{flash_files}
use Rattle.flash_disk.specs.FlashView.{FlashView}
use Rattle.flash_disk.specs.Looks.{still_case}
use Rattle.flash_disk.specs.Newest.{places}
use Rattle.flash_disk.specs.Standing.{IsAgreed}
use Rattle.flash_disk.specs.Throughout.{KeepsUsable, KeepsAgreed, UsableSince, AgreedSince}
use Rattle.flash_disk.specs.Apart.{StandApart}
use Rattle.flash_disk.specs.KeepsApart.{ApartSince}

-- the files after these writes
abbrev pub put_announced : Image → List Announced → Image
put_announced image [] = image
put_announced image (w ∷ ws) = put_announced (put_image image w.file w.at w.bytes) ws

-- the case of a disk for a case of its flash
abbrev pub disk_case : ℕ → FlashCase → Case
disk_case blocks c = record {
  base = flash_files c.settled blocks;
  full = put_announced (flash_files c.settled blocks) c.announced;
  left = flash_files c.left blocks;
}

-- a case of the flash in which no page passes its hash by chance
abbrev pub IsCaseOf : ℕ → FlashCase → Case → Type 0
IsCaseOf blocks f c = IsPlain f.before f.whole f.left × (c ≡ disk_case blocks f)

-- the case that leaves what reads gave after at least t of the flash's calls
abbrev pub GaveFiles : FlashMedium → ℕ → Case → Type 0
GaveFiles m t c = (s : FlashState) × m.since t (still_case s) × (c ≡ disk_case m.blocks (still_case s))

-- what reads give; a flash that is not modelled says nothing of its pages, not even that a read leaves them alone
abbrev pub files_told : (told : Bool) → FlashMedium → Image
files_told told m = if told then flash_files m.state.pages m.blocks else (λ f. [])

-- A disk over this flash, with this count of its own faults and of the bytes that were written. One that is not
-- modelled has no clock: that a moment counts among those since an earlier one is known of a modelled flash alone.
abbrev pub flash_disk_medium : (told : Bool) → FlashMedium → (own written : ℕ) → Medium
flash_disk_medium told m own written = record {
  image = files_told told m;
  now = λ c. IsTrue told × (c ≡ disk_case m.blocks (still_case m.state));
  moment = if told then m.moment else 0;
  since = λ t c. IsTrue told × ((f : FlashCase) × m.since t f × IsCaseOf m.blocks f c);
  gave = λ t c. IsTrue told × GaveFiles m t c;
  opens = λ t. IsTrue told → UsableSince m t;
  agrees = λ t. IsTrue told → AgreedSince m t;
  apart = λ t. IsTrue told → ApartSince m t;
  faults = m.faults + own;
  written = written;
}

-- what is said of a disk that is seen so
abbrev pub disk_seen : {F : Type 0} → (told : Bool) → (F → FlashMedium) → FlashView F → Medium
disk_seen told medium v = flash_disk_medium told (medium v.flash) v.own v.written

-- A disk that was just opened over this flash: from now on what a stop leaves at any moment can be opened again. If the
-- flash had no rivals it goes on taking writes, and if it has 16 blocks or more and the copies stood apart they do so
-- as long as there is room.
pub record IsJustOpened (told : Bool) (m : FlashMedium) (disk : Medium) : Type 0 where
  pub opens : disk.opens disk.moment
  pub agrees : (IsTrue told → IsAgreed m.state.pages (places m.blocks)) → disk.agrees disk.moment
  pub apart : 16 ≤ m.blocks → (IsTrue told → StandApart m.state.pages m.blocks) → disk.apart disk.moment

-- a call that changes no page: no fault is its own, it uses no number, no rivals come, and a crash meanwhile leaves
-- what can be opened
pub record ChangesNoPage {F : Type 0} (told : Bool) (medium : F → FlashMedium) (old new : FlashView F) : Type 0 where
  pub own : new.own ≡ old.own
  pub numbers : new.sequence ≡ old.sequence
  pub pages : IsTrue told → (medium new.flash).state.pages ≡ (medium old.flash).state.pages
  pub usable : IsTrue told → KeepsUsable (medium old.flash) (medium new.flash)
  pub agreed : IsTrue told → KeepsAgreed (medium old.flash) (medium new.flash)
