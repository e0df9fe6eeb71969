-- A folder of the operating system at one moment, and what calls do to it. Files go by their numbers, and bytes in
-- them are counted from 0.
use Rattle.std.specs.Prelude.{◌≡◌, ◌⊎◌, ◌↔◌, ℕ, ◌+◌, ◌-◌, ◌<◌, ◌≤◌, List, [], length, slice_index, take, drop}
use Rattle.disk_model.specs.Image.{put_image, TornImage}
use Rattle.disk_model.specs.Case.{Case}
use Rattle.disk_model.specs.Medium.{Medium, Elapses, OnlyReads}
use Rattle.system_model.specs.declared.reading.Reading.{Reading}
use Rattle.system_model.specs.declared.reading.Reading.TheVariants.{Bytes, Unreadable}

-- All that is said of the folder at one moment. A power loss is the crash of `disk`; the end of a process is none, and
-- changes nothing here. What is free or lost, and which names are durable, no process knows by itself.
pub record SystemMedium : Type 1 where
  -- what reads give, what a power loss may leave, the clock: the folder as a disk
  pub disk : Medium
  -- the name of this file is durable: its entry in the folder outlasts a power loss, or there is none
  pub named : ℕ → Type 0
  -- free, by file and byte: this byte of this file was written since the last sync that covered it, in whatever
  -- process: a power loss may leave anything there
  pub free : ℕ → ℕ → Type 0
  -- lost, by file and byte: a failed sync may have dropped what was written there: no later sync covers it, and reads
  -- may give anything, until it is written again
  pub lost : ℕ → ℕ → Type 0

-- every power loss now leaves of this file what reads give
abbrev pub IsSafe : Medium → ℕ → Type 0
IsSafe m f = (c : Case) → m.now c → c.left f ≡ m.image f

-- the byte i is one of the n bytes from `at` on
abbrev pub InRange : (at n i : ℕ) → Type 0
InRange at n i = (at ≤ i) × (i < at + n)

-- nothing of the file is lost
abbrev pub IsWhole : SystemMedium → ℕ → Type 0
IsWhole m f = (i : ℕ) → ¬ (m.lost f i)

-- nothing of the file is free
abbrev pub HasNothingFree : SystemMedium → ℕ → Type 0
HasNothingFree m f = (i : ℕ) → ¬ (m.free f i)

-- a file of which nothing is lost or free is safe where its name is durable, whether its bytes or its name became so
-- first
abbrev pub SavesFiles : SystemMedium → Type 0
SavesFiles m = (f : ℕ) → IsWhole m f → HasNothingFree m f → m.named f → IsSafe m.disk f

-- the folder does not have the file: no byte of it is read, none comes up after a power loss, and none is free
pub record IsAbsent (m : SystemMedium) (f : ℕ) : Type 0 where
  pub empty : m.disk.image f ≡ []
  pub safe : IsSafe m.disk f
  pub still : HasNothingFree m f

-- a file with these bytes has those from the byte `at` on
pub record ShowsBytes (file : List ℕ) (at : ℕ) (bytes : List ℕ) : Type 0 where
  pub within : (j : ℕ) → j < length bytes → at + j < length file
  pub equal : (j : ℕ) → j < length bytes → slice_index file (at + j) ≡ slice_index bytes j

-- a write of the disk is announced, in one case of a power loss: in `full` it counts as done whole, and nothing is
-- written yet
pub record AnnounceCase (file at : ℕ) (bytes : List ℕ) (old new : Case) : Type 0 where
  pub base : new.base ≡ old.base
  pub full : new.full ≡ put_image old.full file at bytes
  pub left : new.left ≡ old.left

-- n bytes are handed to the system for this file from `at` on, in one case of a power loss: any part of them may be
-- left
pub record TearCase (file at n : ℕ) (old new : Case) : Type 0 where
  pub base : new.base ≡ old.base
  pub full : new.full ≡ old.full
  pub left : TornImage file at n old.left new.left

-- a call that changes no byte, after which no power loss leaves what none left before, and which makes nothing free or
-- lost, and no name less durable
pub record Looks (old new : SystemMedium) : Type 0 where
  pub reads : OnlyReads old.disk new.disk
  pub time : Elapses old.disk new.disk
  pub named : (f : ℕ) → old.named f → new.named f
  pub free : (f i : ℕ) → new.free f i ↔ old.free f i
  pub lost : (f i : ℕ) → new.lost f i → old.lost f i

-- how many bytes a read gave; those that cannot be read are not given
abbrev pub read_count : Reading → ℕ
read_count (Bytes n) = n
read_count (Unreadable n) = 0

-- a read of at most `room` bytes that gave the first n of `out`: some from `at` on, and none only at the end
pub record GivesBytes (file : List ℕ) (at room : ℕ) (out : List ℕ) (n : ℕ) : Type 0 where
  pub within : n ≤ length file - at
  pub bytes : take n out ≡ take n (drop at file)
  pub ends : n ≡ 0 → (room ≡ 0) ⊎ (length file ≤ at)

-- n bytes from `at` on that cannot be read: where the file has them they are zeros
pub record GivesNone (file : List ℕ) (at n : ℕ) : Type 0 where
  pub some : 0 < n
  pub zeros : (j : ℕ) → j < n → slice_index file (at + j) ≡ 0

-- what a read says of the bytes of the file
abbrev pub ReadGives : (file : List ℕ) (at room : ℕ) (out : List ℕ) → Reading → Type 0
ReadGives file at room out (Bytes n) = GivesBytes file at room out n
ReadGives file at room out (Unreadable n) = GivesNone file at n
