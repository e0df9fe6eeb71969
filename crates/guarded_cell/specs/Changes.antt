-- What the calls on a register change and write, whether they come to their end or stop on the way, and what a stop at
-- any moment of them leaves. `told`: the bytes of the disk are modelled. `old` and `new` are the disk before the call
-- and after it. A blank takes a header's bytes.
use Rattle.std.specs.Prelude.{◌≡◌, ℕ, ◌+◌, ◌*◌, ◌≤◌, List, length, Bool, IsTrue}
use Rattle.hash_guard.specs.SealedText.{header, max_body, sealed}
use Rattle.disk_model.specs.Medium.{Medium, Quiet, EachCase, Elapses}
use Rattle.disk_model.specs.Frame.{Spares}
use Rattle.disk_model.specs.Place.{IsNoSlot}
use Rattle.disk_model.specs.declared.place.Place.{Place}
use Rattle.guarded_cell.specs.Register.{IsAlone, own}
use Rattle.guarded_cell.specs.Differing.{texts_cost}
use Rattle.guarded_cell.specs.Held.{standing}
use Rattle.guarded_cell.specs.Rights.{IsRight, IsRightFor, IsClear}
use Rattle.guarded_cell.specs.Stops.{PutStops, KeepStops, FormatStops}
use Rattle.guarded_cell.specs.Opens.{OpenStops}

-- A text is put into every copy under this generation. Only slots of the place change, and a stop at any moment leaves
-- every copy what it held or every copy the text. At most a sealed text and a blank are written for each copy.
pub record PutsText (told : Bool) (place : Place) (generation : ℕ) (text : List ℕ) (old new : Medium) : Type 0 where
  pub elsewhere : IsTrue told → Spares (IsNoSlot place) old.image new.image
  pub any_moment : IsTrue told → Quiet old
      → EachCase (PutStops place generation text old.image) old new
  pub written : new.written ≤ old.written + place.copies * (header + length text + header)
  -- where zeros stand in place of a slot's header, only the runs of the text are written that differ, and the blanks
  pub differing : IsTrue told → new.written ≤ old.written
      + texts_cost place (own generation) (sealed generation text) old.image place.copies + place.copies * header
  pub time : Elapses old new

-- Every copy is brought to a text: it is put where a copy lacks it. No slot that is right already changes: one that
-- holds the text, or a blank one of the other parity. Where every copy holds the text alone, nothing is written.
pub record Brings (told : Bool) (place : Place) (generation : ℕ) (text : List ℕ) (old new : Medium) : Type 0 where
  pub puts : PutsText told place generation text old new
  pub right : IsTrue told → Spares (IsRight old.image place generation text) old.image new.image
  pub already : IsTrue told → IsAlone old.image place generation text → new.written ≡ old.written

-- Every text but this one is taken away. Only slots of the place change, and none that is clear already: one that holds
-- no other text, or a blank one of the other parity. At any moment the copies that held the text hold it. At most two
-- blanks are written for each copy.
pub record Clears (told : Bool) (place : Place) (generation : ℕ) (text : List ℕ) (old new : Medium) : Type 0 where
  pub elsewhere : IsTrue told → Spares (IsNoSlot place) old.image new.image
  pub right : IsTrue told → Spares (IsClear old.image place generation text) old.image new.image
  pub any_moment : IsTrue told → Quiet old
      → EachCase (KeepStops place generation text old.image) old new
  pub written : new.written ≤ old.written + place.copies * (header + header)
  pub time : Elapses old new

-- A register is formatted with a text, under generation 1. Only slots of the place change, and a stop at any moment
-- leaves only what was held or only the text. At most two blanks and the sealed text are written for each copy.
pub record FormatsRegister (told : Bool) (place : Place) (text : List ℕ) (old new : Medium) : Type 0 where
  pub elsewhere : IsTrue told → Spares (IsNoSlot place) old.image new.image
  pub any_moment : IsTrue told → Quiet old
      → EachCase (FormatStops place 1 text old.image) old new
  pub written : new.written ≤ old.written + place.copies * (header + header + (header + length text))
  pub time : Elapses old new

-- Every copy is brought to the text that stands, which at least m copies hold, if one does. Only slots of the place
-- change, and none that is right already (as in `Brings`), and a stop at any moment leaves every copy what it held or
-- every copy the text that stood. At most the longest sealed text and a blank are written for each copy.
pub record OpensRegister (told : Bool) (place : Place) (m : ℕ) (old new : Medium) : Type 0 where
  pub elsewhere : IsTrue told → Spares (IsNoSlot place) old.image new.image
  pub right : IsTrue told
      → Spares (IsRightFor (standing old.image place m) old.image place) old.image
      new.image
  pub any_moment : IsTrue told → Quiet old → EachCase (OpenStops place m old.image) old new
  pub at_most : new.written ≤ old.written + place.copies * (header + max_body + header)
  pub time : Elapses old new
