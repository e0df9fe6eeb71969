-- What a stretch of writes of the system does that serve one write of the disk: these bytes into the file, from the
-- byte `at` on. `told`: the bytes of the system are modelled.
use Rattle.std.specs.Prelude.{◌≡◌, ◌⊎◌, ◌↔◌, ℕ, Bool, IsTrue, List, length, take}
use Rattle.disk_model.specs.Image.{put_image, TornImage}
use Rattle.disk_model.specs.Case.{Case, Follows, WriteOrNot}
use Rattle.disk_model.specs.Medium.{Medium, Elapses, OnlyReads}
use Rattle.system_model.specs.SystemMedium.{SystemMedium, InRange, TearCase, ShowsBytes}

-- the first n of these bytes are written, and nothing else: they are free, and not lost; a power loss may leave any
-- part of them, and meanwhile of all the bytes
pub record WritesBytes (told : Bool) (file at : ℕ) (bytes : List ℕ) (n : ℕ) (old new : SystemMedium) : Type 0 where
  pub image : IsTrue told → new.disk.image ≡ put_image old.disk.image file at (take n bytes)
  pub now : Follows (TearCase file at n) old.disk.now new.disk.now
  pub during : Follows (TearCase file at (length bytes)) old.disk.now (new.disk.since old.disk.moment)
  pub time : Elapses old.disk new.disk
  pub named : (f : ℕ) → old.named f → new.named f
  pub frees : IsTrue told → (f i : ℕ) → new.free f i ↔ (old.free f i ⊎ ((f ≡ file) × InRange at n i))
  pub lost : (f i : ℕ) → new.lost f i → old.lost f i
  pub found : IsTrue told → (i : ℕ) → InRange at n i → ¬ (new.lost file i)

-- where the file has these bytes already, and all of them are free, to write them again changes nothing, and no power
-- loss leaves what none left before
abbrev pub WritesAgain : (told : Bool) (file at : ℕ) (bytes : List ℕ) (old new : SystemMedium) → Type 0
WritesAgain told file at bytes old new =
    (IsTrue told → (i : ℕ) → InRange at (length bytes) i → old.free file i)
    → (IsTrue told → ShowsBytes (old.disk.image file) at bytes) → OnlyReads old.disk new.disk

-- one case of a power loss after a write of the disk of which the first n bytes were written: in `full` it counts as
-- done whole, and what was written may be torn
pub record PutCase (file at : ℕ) (bytes : List ℕ) (n : ℕ) (old new : Case) : Type 0 where
  pub base : new.base ≡ old.base
  pub full : new.full ≡ put_image old.full file at bytes
  pub left : TornImage file at n old.left new.left

-- a write of the disk of which the first n bytes were written
pub record PutsBytes (told : Bool) (file at : ℕ) (bytes : List ℕ) (n : ℕ) (old new : Medium) : Type 0 where
  pub image : IsTrue told → new.image ≡ put_image old.image file at (take n bytes)
  pub now : Follows (PutCase file at bytes n) old.now new.now
  pub during : Follows (WriteOrNot file at bytes) old.now (new.since old.moment)
  pub time : Elapses old new
