-- What a stop and damage may leave of a storage, beside its states before and after the call in progress.
use Rattle.std.specs.Prelude.{◌≡◌, ◌⊎◌, ℕ, ◌+◌, ◌<◌, List, [], ◌∷◌, ◌++◌, map, false, Option, Some, None, ⊤}
use Rattle.std.specs.List.{AllZip, AllByRecursion, Contains}
use Rattle.per_base.specs.declared.elements.Scope.TheVariants as scope
use Rattle.per_base.specs.declared.elements.FileInfo.{FileInfo}
use Rattle.per_base.specs.declared.elements.Content.{Content}
use Rattle.per_base.specs.declared.elements.Content.TheVariants.{Good, Bad}
use Rattle.per_base.specs.declared.elements.Entry.{Entry}
use Rattle.disk_model.specs.Image.{Image}
use Rattle.disk_model.specs.Case.{Case}
use Rattle.disk_model.specs.Damage.{DecaysFor, IsSoundFor, IsUndamaged, AtLeast}
use Rattle.disk_model.specs.Medium.{Medium, Quiet, EachCase}
use Rattle.guarded_cell.specs.Register.{Holds}
use Rattle.index_text.specs.declared.entries.IndexEntry.{IndexEntry}
use Rattle.element_state.specs.declared.shapes.Shape.{Shape}
use Rattle.element_state.specs.declared.shapes.View.{View}
use Rattle.element_state.specs.States.{State, Opens, Corrupt, store_at, salvage_of, others_of}
use Rattle.element_state.specs.Fit.{FitText}
use Rattle.element_state.specs.Views.{view_of}
use Rattle.element_state.specs.Clean.{HasNoTwins, IsPiece, IsClean}
use Rattle.element_state.specs.Chosen.{chosen}

-- ---- views beside one another

-- all that is known of an element but its content: name, info, length and generation of the last change
abbrev pub heading : Entry → List ℕ × Option FileInfo × ℕ × ℕ
heading e = (e.name, e.info, e.len, e.changed)

-- the entry and the element have the same name, info, length and generation of the last change
abbrev pub IsHeaded : IndexEntry → Entry → Type 0
IsHeaded e f = (e.name, e.info, e.len, e.changed) ≡ heading f

-- the same generation, and elements of the same headings
pub record SameHeadings (v w : View) : Type 0 where
  pub generation : v.generation ≡ w.generation
  pub entries : map heading v.entries ≡ map heading w.entries

-- a content that may be left of another: the same value, a salvage of the same bytes, or nothing
abbrev pub IsLeftOf : (left there : Content) → Type 0
IsLeftOf (Good value) there = there ≡ Good value
IsLeftOf (Bad None) there = ⊤
IsLeftOf (Bad (Some salvage)) there = (there ≡ Good salvage) ⊎ (there ≡ Bad (Some salvage))

-- a view that may be left of another
pub record IsFrom (left there : View) : Type 0 where
  pub same : SameHeadings left there
  pub contents : AllZip (λ e f. IsLeftOf e.content f.content) left.entries there.entries

-- a view that may be left of one of these
abbrev pub IsFromOneOf : View → List View → Type 0
IsFromOneOf left [] = ⊥
IsFromOneOf left (there ∷ views) = IsFrom left there ⊎ IsFromOneOf left views

-- ---- copies that are left

-- the damage, to files of these numbers, spares the copy, counted from 0; and the copy is not among those, counted from
-- 1, that lacked the thing
abbrev pub IsSpared : Shape → (damaged lacking : List ℕ) → (copy : ℕ) → Type 0
IsSpared shape damaged lacking copy = IsUndamaged damaged shape.place copy × ¬ (Contains lacking (copy + 1))

-- as many copies as must agree are spared and did not lack it
abbrev pub HasEnough : Shape → (damaged lacking : List ℕ) → Type 0
HasEnough shape damaged lacking = AtLeast (IsSpared shape damaged lacking) shape.place.copies shape.m

-- an element that was good, with enough copies left of it, is good with the same value; with storage scope the copies
-- of the storage are enough
abbrev pub KeepsGood : Shape → (damaged : List ℕ) → (left there : View) → Type 0
KeepsGood shape damaged left there = AllZip (λ e f. (value : List ℕ) → f.content ≡ Good value
    → (shape.scope ≡ scope.Storage) ⊎ HasEnough shape damaged f.lacking → e.content ≡ Good value) left.entries
    there.entries

-- an undamaged copy that did not lack a good element does not lack it
abbrev pub CostsNoCopy : Shape → (damaged : List ℕ) → (left there : View) → Type 0
CostsNoCopy shape damaged left there = AllZip (λ e f. (value : List ℕ) (copy : ℕ) → f.content ≡ Good value
    → copy < shape.place.copies
    → IsSpared shape damaged f.lacking copy → ¬ (Contains e.lacking (copy + 1))) left.entries there.entries

-- ---- what is left of a storage

-- a view, where there is one
abbrev pub views_in : Option View → List View
views_in None = []
views_in (Some v) = v ∷ []

-- the view that a state opens at or has as salvage, and those of its other texts
abbrev pub all_views : State → List View
all_views state = views_in (salvage_of state) ++ others_of state

-- it opens at the view before, or at the one after and then no copy was lost on the way
abbrev pub StaysAs : Shape → (damaged : List ℕ) → (left before : View) → (after : State) → Type 0
StaysAs shape damaged left before after =
    (SameHeadings left before × KeepsGood shape damaged left before)
    ⊎ (¬ (SameHeadings left before) × (v : View) × (others : List View) × (after ≡ Opens v others)
    × SameHeadings left v × KeepsGood shape damaged left v × CostsNoCopy shape damaged left v)

-- it opens at the view of after, with each good element of which enough copies are left, and no copy was lost on the
-- way
abbrev pub BecomesAs : Shape → (damaged : List ℕ) → (left : View) → (after : State) → Type 0
BecomesAs shape damaged left (Opens v others) = SameHeadings left v × KeepsGood shape damaged left v
    × CostsNoCopy shape damaged left v
BecomesAs shape damaged left (Corrupt salvage others) = ⊥

-- with enough copies left of a storage that opens, it opens; one that was corrupt opens at most at the view of after
abbrev pub StaysOpen : Shape → (damaged : List ℕ) → (left before after : State) → Type 0
StaysOpen shape damaged left (Opens v others) after = HasEnough shape damaged v.lacking
    → (w : View) × (rest : List View) × (left ≡ Opens w rest) × StaysAs shape damaged w v after
StaysOpen shape damaged left (Corrupt salvage others) after =
    (w : View) (rest : List View) → left ≡ Opens w rest → BecomesAs shape damaged w after

-- of each text with the headings of the view before, also one that later damage may bring up, the stop has left the
-- contents and cost no copy
abbrev pub CopiesStay : Shape → (damaged : List ℕ) → (left before : State) → Type 0
CopiesStay shape damaged left (Opens v others) = AllByRecursion (λ w. SameHeadings w v → IsFrom w v
    × CostsNoCopy shape damaged w v) (all_views left)
CopiesStay shape damaged left (Corrupt salvage others) = ⊤

-- with enough copies left of it, in either scope, an element that was good is good with the same value
abbrev pub KeepsEach : Shape → (damaged : List ℕ) → (left there : View) → Type 0
KeepsEach shape damaged left there = AllZip (λ e f. (value : List ℕ) → f.content ≡ Good value
    → HasEnough shape damaged f.lacking → e.content ≡ Good value)
    left.entries there.entries

-- what is left of a view, also where too few copies of its text are left to open at: the same headings, each good
-- element of which enough copies are left, and no copy was lost on the way
pub record IsLeftAs (shape : Shape) (damaged : List ℕ) (left there : View) : Type 0 where
  pub same : SameHeadings left there
  pub good : KeepsEach shape damaged left there
  pub copies : CostsNoCopy shape damaged left there

-- the view is left of the one of after
abbrev pub IsLeftAfter : Shape → (damaged : List ℕ) → (left : View) → (after : State) → Type 0
IsLeftAfter shape damaged left (Opens v others) = IsLeftAs shape damaged left v
IsLeftAfter shape damaged left (Corrupt salvage others) = ⊥

-- some copy is spared and did not lack it
abbrev pub HasOne : Shape → (damaged lacking : List ℕ) → Type 0
HasOne shape damaged lacking = (copy : ℕ) × (copy < shape.place.copies) × IsSpared shape damaged lacking copy

-- with one copy left of the salvage of a corrupt storage, it has this salvage, or the view of after in its place; by
-- who holds its text this is said of images below
abbrev pub SalvageStays : Shape → (damaged : List ℕ) → (left before after : State) → Type 0
SalvageStays shape damaged left (Opens v others) after = ⊤
SalvageStays shape damaged left (Corrupt None others) after = ⊤
SalvageStays shape damaged left (Corrupt (Some v) others) after = HasOne shape damaged v.lacking
    → (w : View) × (salvage_of left ≡ Some w) × (IsLeftAs shape damaged w v ⊎ IsLeftAfter shape damaged w after)

-- What a stop, and then damage to files of these numbers, leave of a storage that was in one state and on its way to
-- another.
pub record Kept (shape : Shape) (damaged : List ℕ) (left before after : State) : Type 0 where
  -- every text that fits, and not only the one that it opens at, denotes something known: later damage may bring it
  -- up
  pub known : AllByRecursion (λ w. IsFromOneOf w (all_views before ++ views_in (salvage_of after))) (all_views left)
  pub stays : StaysOpen shape damaged left before after
  pub copies : CopiesStay shape damaged left before
  pub salvage : SalvageStays shape damaged left before after

-- ---- what is left on an image, of a storage as it was on another

-- a copy held this text at the start, and the damage spares it, whatever contents it lacked
abbrev pub HasHolder : Shape → (start : Image) → (damaged : List ℕ) → FitText → Type 0
HasHolder shape start damaged text = (copy : ℕ) × (copy < shape.place.copies)
    × IsUndamaged damaged shape.place copy
    × Holds start shape.place copy text.0.generation text.0.text

-- with one copy left that holds the text of the salvage of a corrupt storage, it has this salvage, or the view of after
-- in its place
abbrev pub KeepsSalvage : Shape → (start : Image) → (damaged : List ℕ) → (left after : State) → Type 0
KeepsSalvage shape start damaged left after = (text : FitText) → chosen start shape ≡ Some (false, text)
    → HasHolder shape start damaged text
    → (w : View) × (salvage_of left ≡ Some w) × (IsLeftAs shape damaged w (view_of start shape text)
    ⊎ IsLeftAfter shape damaged w after)

-- What a stop and damage leave on an image of a storage that was on its way to another state: it is kept, and the place
-- stays clean.
pub record IsKeptOn (shape : Shape) (damaged : List ℕ) (start image : Image) (after : State) : Type 0 where
  pub kept : Kept shape damaged (store_at image shape) (store_at start shape) after
  pub salvage : KeepsSalvage shape start damaged (store_at image shape) after
  pub clean : IsClean shape image

-- ---- every moment of a call

-- a crash in this case, and any damage after it, keeps a storage on its way to another state, if no torn piece passes
-- its hash by chance
abbrev pub IsKeptCase : Shape → (start : Image) → (after : State) → Case → Type 0
IsKeptCase shape start after c = IsSoundFor (IsPiece shape.place) c → (damaged : List ℕ) (image : Image)
    → DecaysFor (IsPiece shape.place) damaged c.left image → IsKeptOn shape damaged start image after

-- `IsKeptCase` where contents may be mended in place: then no two contents may have the same hash either
abbrev pub IsKeptMending : Shape → (start : Image) → (after : State) → Case → Type 0
IsKeptMending shape start after c = HasNoTwins shape.place c → IsKeptCase shape start after c

-- a crash at any moment of calls, and damage after it, keeps a storage on its way to another state, if at their start
-- nothing was pending and the place was clean
abbrev pub KeptThroughout : Shape → (after : State) → (old new : Medium) → Type 0
KeptThroughout shape after old new = Quiet old → IsClean shape old.image
    → EachCase (IsKeptCase shape old.image after) old new

-- `KeptThroughout` for calls that may mend contents in place: then no two contents may have the same hash either
abbrev pub KeptWhileMending : Shape → (after : State) → (old new : Medium) → Type 0
KeptWhileMending shape after old new = Quiet old → IsClean shape old.image
    → EachCase (IsKeptMending shape old.image after) old new
