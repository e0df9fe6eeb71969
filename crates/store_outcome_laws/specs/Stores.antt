-- What no call on a storage leaves, beside the clause that excludes it: one statement for each mistake. Where a stop is
-- spoken of, the storage has one element, in every copy: `g` is its generation, `was` what the element held and `is`
-- what it is to hold. `old` and `new` are the bytes written before and after, `index` is the length of the index, and
-- `copies` the number of copies; `s` is an open storage, `v` its view, and `others` are views of the other texts.
use Rattle.std.specs.Prelude.{◌≡◌, ℕ, ◌+◌, ◌-◌, ◌*◌, ◌^◌, ◌<◌, ◌≤◌, List, [], ◌∷◌, length, Bool, IsTrue, Some, None}
use Rattle.std.specs.Prelude.{Result, IsErrOf}
use Rattle.std.specs.List.{Contains}
use Rattle.per_base.specs.declared.elements.Change.TheVariants.{Put}
use Rattle.per_base.specs.declared.elements.Content.TheVariants.{Good, Bad}
use Rattle.per_base.specs.declared.elements.Entry.{Entry}
use Rattle.per_base.specs.declared.elements.Fresh.{Fresh}
use Rattle.per_base.specs.declared.elements.StoreKind.{StoreKind}
use Rattle.per_base.specs.declared.elements.StoreKind.TheVariants.{Files}
use Rattle.per_base.specs.Causes.{Rose}
use Rattle.per_base.specs.Contents.{blocks_for}
use Rattle.disk_model.specs.Case.{Case}
use Rattle.disk_model.specs.Damage.{DecaysFor}
use Rattle.disk_model.specs.declared.place.Place.{Place}
use Rattle.disk_model.specs.Frame.{IsSettledOn}
use Rattle.disk_model.specs.Image.{Image}
use Rattle.disk_model.specs.Medium.{Medium, Quiet}
use Rattle.disk_model.specs.Place.{IsNoSlot}
use Rattle.guarded_cell.specs.Register.{Holds}
use Rattle.block_files.specs.Aside.{Where}
use Rattle.block_files.specs.Parts.{changed_blocks}
use Rattle.index_text.specs.Spelling.{index_text}
use Rattle.element_state.specs.declared.errors.StoreError.{StoreError}
use Rattle.element_state.specs.declared.errors.StoreError.TheVariants as store
use Rattle.element_state.specs.declared.shapes.Shape.{Shape}
use Rattle.element_state.specs.declared.shapes.View.{View}
use Rattle.element_state.specs.Clean.{IsClean, IsNamed, IsPiece, IsSound}
use Rattle.element_state.specs.Kept.{KeptThroughout}
use Rattle.element_state.specs.States.{State, Opens, Corrupt, store_at}
use Rattle.element_state.specs.Written.{IsWithin, commit_cost, content_named}
use Rattle.element_laws.specs.Refused.{one}
use Rattle.element_store.specs.declared.store.Store.{Store}
use Rattle.element_store.specs.Committing.{index_in}
use Rattle.element_store.specs.Creates.{IsUntorn}
use Rattle.element_store.specs.Stores.{IsUsed, store_shape, view_in}

-- ---- what is written

-- of a changed file the blocks of 256 bytes that are equal are written too, beside the index with its head of 44 bytes
-- and a blank as long
abbrev pub EqualBlocksWritten : Type 0
EqualBlocksWritten = (copies index old new : ℕ) (entries : List Entry) (f : Fresh) (was : List ℕ)
    → IsWithin copies (commit_cost Files entries (Put f ∷ [])) index old new
    → content_named f.name entries ≡ Some (Good was) → changed_blocks f.bytes was < blocks_for (length f.bytes) → 1
    ≤ copies
    → ¬ (new ≡ old + copies * (256 * blocks_for (length f.bytes) + index + 88))

-- a content that did not change is written: more than the index, its head and a blank, where nothing changed
abbrev pub UnchangedWritten : Type 0
UnchangedWritten = (copies index old new : ℕ) (kind : StoreKind) (entries : List Entry)
    → IsWithin copies (commit_cost kind entries []) index old new → ¬ (old + copies * (index + 88) < new)

-- a failed write, which counts, is answered as one for which there was no memory
abbrev pub FailureAsNoMemory : Type 0
FailureAsNoMemory = (result : Result Store StoreError) (before after : ℕ)
    → (IsErrOf result store.OutOfMemory → after ≡ before) → Rose before after → before < 2 ^ 64 - 1
    → ¬ (IsErrOf result store.OutOfMemory)

-- ---- what is in the copies at the end of a commit, and of an opening

-- a copy lacks the index: only as many as must agree have it
abbrev pub FewCopies : Type 0
FewCopies = (told : Bool) (image : Image) (s : Store) (copy : ℕ) → IsUsed told image s → IsTrue told
    → copy < (store_shape s).place.copies
    → ¬ (¬ (Holds image (store_shape s).place copy (view_in s).generation (index_text (index_in s))))

-- only enough copies have a content, or a copy that lacked it is not mended
abbrev pub CopyLacks : Type 0
CopyLacks = (told : Bool) (image : Image) (s : Store) (v : View) (others : List View) (e : Entry)
    (value rest : List ℕ) (copy : ℕ) → IsUsed told image s → IsTrue told
    → store_at image (store_shape s) ≡ Opens v others
    → Contains v.entries e → e.content ≡ Good value → ¬ (e.lacking ≡ copy ∷ rest)

-- ---- what a stop leaves

-- a moment of a call, from a storage in this state on its way to that one, and what a crash then left without damage
pub record IsMomentOfCall {D : Type 0} (medium : D → Medium) (shape : Shape) (before after : State)
    (image : Image) : Type 0
  where
    pub disk : D
    pub later : D
    pub case : Case
    pub kept : KeptThroughout shape after (medium disk) (medium later)
    pub quiet : Quiet (medium disk)
    pub clean : IsClean shape (medium disk).image
    pub since : (medium later).since (medium disk).moment case
    pub sound : IsSound shape.place case
    pub left : DecaysFor (IsPiece shape.place) [] case.left image
    pub was : store_at (medium disk).image shape ≡ before

module _ {D : Type 0} (medium : D → Medium) where
  -- the index comes before its contents are durable
  abbrev pub ContentsNotDurable : Type 0
  ContentsNotDurable = (shape : Shape) (g : ℕ) (was is : List ℕ) (image : Image) → shape.m ≤ shape.place.copies
      → IsMomentOfCall medium shape (Opens (one g (Good was)) []) (Opens (one (g + 1) (Good is)) []) image
      → ¬ (store_at image shape ≡ Opens (one (g + 1) (Bad None)) [])

  -- a commit writes into blocks of the index that stands
  abbrev pub StandingOverwritten : Type 0
  StandingOverwritten = (shape : Shape) (g : ℕ) (was is : List ℕ) (image : Image) → shape.m ≤ shape.place.copies
      → IsMomentOfCall medium shape (Opens (one g (Good was)) []) (Opens (one (g + 1) (Good is)) []) image
      → ¬ (store_at image shape ≡ Opens (one g (Bad None)) [])

  -- a rebuild blanks everything before it writes
  abbrev pub BlankedFirst : Type 0
  BlankedFirst = (shape : Shape) (g : ℕ) (was is : List ℕ) (image : Image) → 1 ≤ shape.place.copies
      → IsMomentOfCall medium shape (Corrupt (Some (one g (Good was))) []) (Opens (one (g + 1) (Good is)) []) image
      → ¬ (store_at image shape ≡ Corrupt None [])

-- contents are written before the old texts are given up: at some moment what is no slot is unsettled, and a text names
-- contents
abbrev pub TextsNotGivenUp : Type 0
TextsNotGivenUp = (place : Place) (c : Case) (at : Where) → IsUntorn place c
    → ((image : Image) → ¬ (IsSettledOn (IsNoSlot place) image c)) → ¬ (IsNamed place c.left at)
