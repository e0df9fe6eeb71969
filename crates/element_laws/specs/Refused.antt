-- What a stop may not leave, by small states that nothing may lead to: one element, in every copy, and no damage. `g`
-- and `h` are generations, `was` is the value that stands, and `is` the one that a call is to put in its place.
use Rattle.std.specs.Prelude.{◌≢◌, ℕ, ◌+◌, ◌<◌, ◌≤◌, List, [], ◌∷◌, true, Option, Some, None}
use Rattle.per_base.specs.declared.elements.Entry.{Entry}
use Rattle.per_base.specs.declared.elements.Content.{Content}
use Rattle.per_base.specs.declared.elements.Content.TheVariants.{Good, Bad}
use Rattle.element_state.specs.declared.shapes.Shape.{Shape}
use Rattle.element_state.specs.declared.shapes.View.{View}
use Rattle.element_state.specs.States.{Opens, Corrupt}
use Rattle.element_state.specs.Kept.{Kept}

-- an element `a` of one byte, which these copies, counted from 1, lack
abbrev pub element : Content → (lacking : List ℕ) → Entry
element content lacking = record {
  name = 97 ∷ [];
  info = None;
  changed = 1;
  len = 1;
  content = content;
  lacking =
      lacking;
}

-- a view of this element alone
abbrev pub one : (generation : ℕ) → Content → View
one generation content = record {
  generation = generation;
  lacking = [];
  sole = true;
  entries =
      element content [] ∷ [];
}

-- a view of this element alone, which one copy, counted from 0, lacks
abbrev pub lacking_one : (generation copy : ℕ) → Content → View
lacking_one generation copy content = record {
  generation = generation;
  lacking = [];
  sole = true;
  entries =
      element content ((copy + 1) ∷ []) ∷ [];
}

-- an index that was written before its contents: it stands, and its element cannot be read
abbrev pub IndexFirst : Type 0
IndexFirst = (shape : Shape) (g : ℕ) (was is : List ℕ) → shape.m ≤ shape.place.copies
    → ¬ (Kept shape [] (Opens (one (g + 1) (Bad None)) []) (Opens (one g (Good was)) [])
    (Opens (one (g + 1) (Good is)) []))

-- an index that was written before its contents, while a corrupt storage is rebuilt
abbrev pub IndexFirstRebuilt : Type 0
IndexFirstRebuilt = (shape : Shape) (g : ℕ) (salvage : Option View) (is : List ℕ) → shape.m ≤ shape.place.copies
    → ¬ (Kept shape [] (Opens (one g (Bad None)) []) (Corrupt salvage []) (Opens (one g (Good is)) []))

-- new contents in blocks of the index that stands: its element cannot be read
abbrev pub OldOverwritten : Type 0
OldOverwritten = (shape : Shape) (g : ℕ) (was is : List ℕ) → shape.m ≤ shape.place.copies
    → ¬ (Kept shape [] (Opens (one g (Bad None)) []) (Opens (one g (Good was)) []) (Opens (one (g + 1) (Good is)) []))

-- another value than the one that was synchronised
abbrev pub OtherValue : Type 0
OtherValue = (shape : Shape) (g : ℕ) (was is other : List ℕ) → other ≢ was
    → ¬ (Kept shape [] (Opens (one g (Good other)) []) (Opens (one g (Good was)) []) (Opens (one (g + 1) (Good is)) []))

-- a text beside the one that stands that was never the storage's: later damage would bring it up
abbrev pub Planted : Type 0
Planted = (shape : Shape) (g h : ℕ) (was is never : List ℕ) → h ≢ g → h ≢ g + 1
    → ¬ (Kept shape [] (Opens (one g (Good was)) (one h (Good never) ∷ [])) (Opens (one g (Good was)) [])
    (Opens (one (g + 1) (Good is)) []))

-- a copy of an element lost without damage to it
abbrev pub CopyEaten : Type 0
CopyEaten = (shape : Shape) (g copy : ℕ) (was is : List ℕ) → copy < shape.place.copies
    → ¬ (Kept shape [] (Opens (lacking_one g copy (Good was)) []) (Opens (one g (Good was)) [])
    (Opens (one (g + 1) (Good is)) []))

-- another text that is held, and that enough copies came to support by what was mended before the index was adopted:
-- the storage opens at it
abbrev pub OtherRaised : Type 0
OtherRaised = (shape : Shape) (g h : ℕ) (was other : List ℕ) (others rest : List View) → shape.m ≤ shape.place.copies
    → h ≢ g
    → ¬ (Kept shape [] (Opens (one h (Good other)) rest) (Opens (one g (Good was)) others)
    (Opens (one g (Good was)) []))

-- contents in blocks of the salvage of a corrupt storage, or beside a text that was not given up: the storage opens at
-- what it did not open at
abbrev pub SalvageRaised : Type 0
SalvageRaised = (shape : Shape) (g : ℕ) (was is : List ℕ) (others rest : List View)
    → ¬ (Kept shape [] (Opens (one g (Good was)) rest) (Corrupt (Some (one g (Bad None))) others)
    (Opens (one (g + 1) (Good is)) []))

-- a corrupt storage blanked before it is rebuilt: its salvage is lost
abbrev pub SalvageLost : Type 0
SalvageLost = (shape : Shape) (g : ℕ) (was is : List ℕ) → 1 ≤ shape.place.copies
    → ¬ (Kept shape [] (Corrupt None []) (Corrupt (Some (one g (Good was))) []) (Opens (one (g + 1) (Good is)) []))
