-- What a stop in each phase of a call leaves of a storage: the statements of the laws.
--
-- In each `start` is the image when the call began; `now` the one after the index was adopted, or all texts but that of
-- the salvage were given up; `then` the one after contents were made durable; `after` the state that the call leads to;
-- `old` and `c` cases of a crash; `taken` says which blocks no write touches; `index` is what the text
-- spells that the copies hold, and `new_index` what the next text spells. `shape` is the storage as it is configured;
-- `text` is one that is held, `next` the one to be written, and `generation` that of `text`, or of `next` where a
-- storage is rebuilt (`h` and `u`: any generation and text that a copy holds); `view` is what a storage opens at, and
-- `others` are the views of its other texts that fit.
use Rattle.std.specs.Prelude.{◌≡◌, ◌⊎◌, ℕ, ◌+◌, ◌*◌, ◌<◌, ◌≤◌, List, [], length, slice_index, map, Bool, true, false}
use Rattle.std.specs.Prelude.{Option, Some, find, None}
use Rattle.std.specs.List.{AllByRecursion, AllZip, Contains}
use Rattle.per_base.specs.declared.elements.Entry.{Entry}
use Rattle.per_base.specs.declared.elements.Content.TheVariants.{Good}
use Rattle.disk_model.specs.declared.place.Place.{Place}
use Rattle.disk_model.specs.Image.{Image}
use Rattle.disk_model.specs.Case.{Case, IsSettledAt}
use Rattle.disk_model.specs.Damage.{DecaysFor}
use Rattle.disk_model.specs.Frame.{Spares, IsSettledOn, Keeps, KeepsCase}
use Rattle.m_of_n.specs.Vote.{voted}
use Rattle.block_files.specs.BlockSets.{IsNotAmong}
use Rattle.block_files.specs.Contents.{AreCopies}
use Rattle.block_files.specs.Writes.{IsNoneOf}
use Rattle.disk_model.specs.Place.{area, IsNoSlot, IsNoArea}
use Rattle.guarded_cell.specs.Register.{Holds, IsAlone, IsKeptAlone}
use Rattle.guarded_cell.specs.Stops.{PutStops, KeepStops, HoldsLess, KeepsText}
use Rattle.block_files.specs.Areas.{has_all_bytes, NamedFull}
use Rattle.block_files.specs.Aside.{Where}
use Rattle.index_text.specs.Reading.{index_of}
use Rattle.index_text.specs.declared.entries.Index.{Index}
use Rattle.index_text.specs.declared.entries.IndexEntry.{IndexEntry}
use Rattle.index_text.specs.Rules.{IsIndex}
use Rattle.element_state.specs.declared.shapes.Shape.{Shape}
use Rattle.element_state.specs.declared.shapes.View.{View}
use Rattle.element_state.specs.Fit.{FitText, fit_index, fit_texts}
use Rattle.element_state.specs.Views.{qualifies, entry_view, given}
use Rattle.element_state.specs.States.{State, Opens, Corrupt, store_at}
use Rattle.element_state.specs.Clean.{where_of, counting_at, IsNamed, IsPiece, IsClean, IsSound}
use Rattle.element_state.specs.Chosen.{chosen}
use Rattle.element_state.specs.Conditions.{IsMended, IsInUse}
use Rattle.index_text.specs.Spelling.{index_text}
use Rattle.element_state.specs.Kept.{Kept, IsKeptCase, IsKeptMending, IsHeaded}

-- ---- what nobody touched

-- the file is a slot (kind 0 or 1) or the area (kind 2) of a copy of the place, each of which has four numbers
pub record IsOfPlace (place : Place) (file : ℕ) : Type 0 where
  pub copy : ℕ
  pub kind : ℕ
  pub inside : copy < place.copies
  pub small : kind < 3
  pub is : file ≡ place.first + 4 * copy + kind

-- damage alone keeps a storage, and its place clean
abbrev pub DamageLaw : Type 0
DamageLaw = (shape : Shape) (start left : Image) (damaged : List ℕ) → 1 ≤ shape.m → IsClean shape start
    → DecaysFor (IsPiece shape.place) damaged start left
    → Kept shape damaged (store_at left shape) (store_at start shape) (store_at start shape) × IsClean shape left

-- a storage of which nobody touches a file is kept while others call, whatever its next state is to be
abbrev pub UntouchedLaw : Type 0
UntouchedLaw = (shape : Shape) (start : Image) (after : State) (c : Case) → 1 ≤ shape.m → IsClean shape start
    → IsSettledOn (IsOfPlace shape.place) start c
    → IsKeptCase shape start after c

-- ---- where a storage stands

-- a storage opens at this text, which spells this index
pub record OpensAt (shape : Shape) (start : Image) (generation : ℕ) (text : List ℕ) (index : Index) : Type 0 where
  pub copy : ℕ
  pub inside : copy < shape.place.copies
  pub held : Holds start shape.place copy generation text
  pub fit : fit_index shape text ≡ Some index
  pub view : View
  pub others : List View
  pub opens : store_at start shape ≡ Opens view others
  pub generation_is : view.generation ≡ generation

-- a storage opens at the first of its texts that qualifies, which is one that enough copies support
abbrev pub OpenedLaw : Type 0
OpenedLaw = (shape : Shape) (start : Image) (text : FitText)
    → find (qualifies start shape) (fit_texts shape start) ≡ Some text
    → OpensAt shape start text.0.generation text.0.text text.1

-- it is corrupt
abbrev pub IsCorruptAt : Shape → Image → Type 0
IsCorruptAt shape start = (salvage : Option View) × (others : List View)
    × (store_at start shape ≡ Corrupt salvage others)

-- a storage of which no text qualifies is corrupt
abbrev pub CorruptLaw : Type 0
CorruptLaw = (shape : Shape) (start : Image) → find (qualifies start shape) (fit_texts shape start) ≡ None
    → IsCorruptAt shape start

-- From a clean start at which a storage opens at a text, its place came to hold this text alone, in every copy, with
-- the contents as they were.
pub record IsAdopted (shape : Shape) (start now : Image) (generation : ℕ) (text : List ℕ) (index : Index) : Type 0 where
  pub clean : IsClean shape start
  pub opens : OpensAt shape start generation text index
  pub alone : IsAlone now shape.place generation text
  pub areas : Spares (IsNoSlot shape.place) start now

-- the text is that of the salvage: none qualifies, and it is the first that fits
abbrev pub IsSalvageAt : Shape → Image → FitText → Type 0
IsSalvageAt shape start text = chosen start shape ≡ Some (false, text)

-- From a clean start at which a storage is corrupt, copies came to hold less, with the contents as they were; each
-- still holds the text of the salvage.
pub record IsGivenUp (shape : Shape) (start now : Image) : Type 0 where
  pub clean : IsClean shape start
  pub corrupt : IsCorruptAt shape start
  pub less : HoldsLess shape.place start now
  pub salvage : (text : FitText) → IsSalvageAt shape start text
      → KeepsText shape.place text.0.generation text.0.text [] start now
  pub areas : Spares (IsNoSlot shape.place) start now

-- ---- the index is adopted, or given up but for one text

-- a stop while every copy is brought to the text at which a storage opens keeps it
abbrev pub AdoptLaw : Type 0
AdoptLaw = (shape : Shape) (start : Image) (generation : ℕ) (text : List ℕ) (index : Index) (after : State) (c : Case)
    → 1 ≤ shape.m → IsClean shape start
    → OpensAt shape start generation text index → PutStops shape.place generation text start c
    → IsKeptCase shape start after c

-- a stop while every text is taken away but that of the salvage of a corrupt storage keeps it
abbrev pub KeepLaw : Type 0
KeepLaw = (shape : Shape) (start : Image) (text : FitText) (after : State) (c : Case) → 1 ≤ shape.m
    → IsClean shape start → IsSalvageAt shape start text
    → KeepStops shape.place text.0.generation text.0.text start c
    → IsKeptCase shape start after c

-- ---- contents are written

-- the blocks of the index are in the set
abbrev pub TakesBlocks : (taken : ℕ → Bool) → Index → Type 0
TakesBlocks taken index = AllByRecursion (λ (e : IndexEntry). (i : ℕ) → i < length e.blocks
    → taken (slice_index e.blocks i) ≡ true) index.entries

-- a stop while contents are written, into blocks outside those of the text that is held alone, keeps a storage
abbrev pub ContentsLaw : Type 0
ContentsLaw = (shape : Shape) (start now : Image) (generation : ℕ) (text : List ℕ) (index : Index) (taken : ℕ → Bool)
    (after : State) (old c : Case) → 1 ≤ shape.m
    → IsAdopted shape start now generation text index → IsIndex index → TakesBlocks taken index
    → IsSettledAt now old → KeepsCase (IsNoArea shape.place) (λ k. taken k ≡ true) old c
    → IsKeptCase shape start after c

-- a stop after contents were made durable, in blocks outside those of the text that is held alone, keeps a storage
abbrev pub ContentsDoneLaw : Type 0
ContentsDoneLaw = (shape : Shape) (start now then : Image) (generation : ℕ) (text : List ℕ) (index : Index)
    (taken : ℕ → Bool) (after : State) (c : Case) → 1 ≤ shape.m
    → IsAdopted shape start now generation text index → IsIndex index → TakesBlocks taken index
    → Keeps (IsNoArea shape.place) (λ k. taken k ≡ true) now then → IsSettledAt then c
    → IsKeptCase shape start after c

-- ---- the index is written

-- every copy gives this value under the entry, and has all of its bytes
abbrev pub AllWhole : Shape → Image → IndexEntry → List ℕ → Type 0
AllWhole shape image e value = (copy : ℕ) → copy < shape.place.copies
    → (counting_at image shape.place copy (where_of e) ≡ Some value)
    × (has_all_bytes (image (area shape.place copy)) e.blocks e.len ≡ true)

-- an entry and its element, whose content was written in every copy
pub record IsContentWritten (shape : Shape) (now : Image) (e : IndexEntry) (f : Entry) : Type 0 where
  pub headed : IsHeaded e f
  pub value : List ℕ
  pub good : f.content ≡ Good value
  pub whole : AllWhole shape now e value

-- an entry and its element, whose content stays where the earlier index has it, as it was; no copy lacked one that was
-- good
pub record IsCarried (shape : Shape) (start : Image) (earlier : Index) (e : IndexEntry) (f : Entry) : Type 0 where
  pub headed : IsHeaded e f
  pub named : Contains (map where_of earlier.entries) (where_of e)
  pub content : f.content ≡ (entry_view start shape.place shape.m e).content
  pub mended : IsMended (entry_view start shape.place shape.m e).content
      (entry_view start shape.place shape.m e).lacking

-- a stop while the index is written under the next generation, after its contents, keeps a storage: each new content is
-- whole in every copy, and the others stay
abbrev pub IndexLaw : Type 0
IndexLaw = (shape : Shape) (start now then : Image) (generation : ℕ) (text : List ℕ) (index : Index) (taken : ℕ → Bool)
    (next : List ℕ) (new_index : Index)
    (view : View) (others : List View) (c : Case) → 1 ≤ shape.m
    → IsAdopted shape start now generation text index → IsIndex index → TakesBlocks taken index
    → Keeps (IsNoArea shape.place) (λ k. taken k ≡ true) now then
    → fit_index shape next ≡ Some new_index → view.generation ≡ generation + 1
    → AllZip (λ e f. IsContentWritten shape then e f ⊎ IsCarried shape start index e f) new_index.entries view.entries
    → PutStops shape.place (generation + 1) next then c
    → IsKeptCase shape start (Opens view others) c

-- ---- a corrupt storage is rebuilt

-- after all texts but that of the salvage were taken away, copies hold less, and only that one
abbrev pub GivenUpLaw : Type 0
GivenUpLaw = (shape : Shape) (start now : Image) (text : FitText) → IsClean shape start → IsSalvageAt shape start text
    → IsKeptAlone shape.place text.0.generation text.0.text start now
    → Spares (IsNoSlot shape.place) start now
    → IsGivenUp shape start now
    × ((copy h : ℕ) (u : List ℕ) → copy < shape.place.copies → Holds now shape.place copy h u
    → (h ≡ text.0.generation) × (u ≡ text.0.text))

-- the contents that held indexes name are in blocks of the set, and fill no more than these
abbrev pub TakesNamed : (taken : ℕ → Bool) → Place → Image → Type 0
TakesNamed taken place image = (at : Where) → IsNamed place image at
    → ((i : ℕ) → i < length at.blocks → taken (slice_index at.blocks i) ≡ true) × (at.len ≤ 256 * length at.blocks)

-- where one text alone is held, the contents that held indexes name are those of its index
abbrev pub TakenBlocksLaw : Type 0
TakenBlocksLaw = (place : Place) (image : Image) (text : List ℕ) (index : Index) (taken : ℕ → Bool)
    → ((copy h : ℕ) (u : List ℕ) → copy < place.copies → Holds image place copy h u → u ≡ text)
    → index_of text ≡ Some index → IsIndex index → TakesBlocks taken index → TakesNamed taken place image

-- a stop while contents are written, into blocks that no held index names, keeps a corrupt storage
abbrev pub RebuiltContentsLaw : Type 0
RebuiltContentsLaw = (shape : Shape) (start now : Image) (taken : ℕ → Bool) (after : State) (old c : Case) → 1 ≤ shape.m
    → IsGivenUp shape start now → TakesNamed taken shape.place now
    → IsSettledAt now old → KeepsCase (IsNoArea shape.place) (λ k. taken k ≡ true) old c
    → IsKeptCase shape start after c

-- a stop after contents were made durable, in blocks that no held index names, keeps a corrupt storage
abbrev pub RebuiltDoneLaw : Type 0
RebuiltDoneLaw = (shape : Shape) (start now then : Image) (taken : ℕ → Bool) (after : State) (c : Case) → 1 ≤ shape.m
    → IsGivenUp shape start now → TakesNamed taken shape.place now
    → Keeps (IsNoArea shape.place) (λ k. taken k ≡ true) now then → IsSettledAt then c
    → IsKeptCase shape start after c

-- A stop while the index of a rebuilt storage is written keeps it, under a generation above those that are held: where
-- there is a salvage the next one, so that each copy that holds its text holds it until all have the new one.
abbrev pub RebuiltIndexLaw : Type 0
RebuiltIndexLaw = (shape : Shape) (start now then : Image) (taken : ℕ → Bool) (generation : ℕ) (next : List ℕ)
    (new_index : Index)
    (view : View) (others : List View) (c : Case) → 1 ≤ shape.m
    → IsGivenUp shape start now → TakesNamed taken shape.place now
    → ((copy h : ℕ) (u : List ℕ) → copy < shape.place.copies → Holds now shape.place copy h u → h < generation)
    → ((text : FitText) → IsSalvageAt shape start text → generation ≡ text.0.generation + 1)
    → Keeps (IsNoArea shape.place) (λ k. taken k ≡ true) now then
    → fit_index shape next ≡ Some new_index → view.generation ≡ generation
    → AllZip (IsContentWritten shape then) new_index.entries view.entries
    → PutStops shape.place generation next then c
    → IsKeptCase shape start (Opens view others) c

-- ---- places that are clean

-- no two copies give different bytes under the entry
abbrev pub AreAgreed : Shape → Image → IndexEntry → Type 0
AreAgreed shape image e = (a b : ℕ) (s t : List ℕ) → a < shape.place.copies → b < shape.place.copies
    → counting_at image shape.place a (where_of e) ≡ Some s → counting_at image shape.place b (where_of e) ≡ Some t
    → s ≡ t

-- a place is clean where a text that fits is held alone, and copies agree on each content of its index
abbrev pub CleanLaw : Type 0
CleanLaw = (shape : Shape) (image : Image) (generation : ℕ) (text : List ℕ) (index : Index)
    → IsAlone image shape.place generation text → fit_index shape text ≡ Some index
    → AllByRecursion (AreAgreed shape image) index.entries → IsClean shape image

-- what was adopted is clean
abbrev pub AdoptedLaw : Type 0
AdoptedLaw = (shape : Shape) (start now : Image) (generation : ℕ) (text : List ℕ) (index : Index)
    → IsAdopted shape start now generation text index → IsClean shape now

-- a case in which nothing is pending is sound, where the place is clean
abbrev pub SoundLaw : Type 0
SoundLaw = (shape : Shape) (image : Image) (c : Case) → IsSettledAt image c → IsClean shape image
    → IsSound shape.place c

-- where nothing is pending and the place is clean, what is kept in the case is kept on the image
abbrev pub SettledLaw : Type 0
SettledLaw = (shape : Shape) (start image : Image) (after : State) (c : Case) → IsSettledAt image c
    → IsClean shape image
    → IsKeptMending shape start after c → Kept shape [] (store_at image shape) (store_at start shape) after

-- ---- contents are mended in place

-- after writes that a crash may have cut short, an area has what it had in these blocks, and is no shorter
pub record KeepsBlockBytes (blocks : List ℕ) (old new : List ℕ) : Type 0 where
  pub bytes : (i j : ℕ) → i < length blocks → j < 256 → 256 * slice_index blocks i + j < length old
      → slice_index new (256 * slice_index blocks i + j) ≡ slice_index old (256 * slice_index blocks i + j)
  pub no_shorter : length old ≤ length new

-- the same after whole writes, and past its old end too, where zeros are read
pub record KeepsBlocksWhole (blocks : List ℕ) (old new : List ℕ) : Type 0 where
  pub bytes : (i j : ℕ) → i < length blocks → j < 256
      → slice_index new (256 * slice_index blocks i + j) ≡ slice_index old (256 * slice_index blocks i + j)
  pub no_shorter : length old ≤ length new

-- the copies that lacked the content of an entry at the start
abbrev pub lacked : Shape → Image → IndexEntry → List ℕ
lacked shape start e = (entry_view start shape.place shape.m e).lacking

-- the copy lacked a content on which enough copies agree, and is mended
pub record TakesMend (shape : Shape) (start : Image) (e : IndexEntry) (copy : ℕ) : Type 0 where
  pub value : List ℕ
  pub agreed : voted shape.m (given start shape.place e) ≡ Some value
  pub listed : Contains (lacked shape start e) (copy + 1)

-- no slot changed, and in each area the blocks of contents that are not mended there stand as they were
pub record IsSparing (keeps : (blocks old new : List ℕ) → Type 0) (shape : Shape) (start now : Image) (index : Index)
    (image : Image) : Type 0 where
  pub slots : Spares (IsNoArea shape.place) now image
  pub kept : AllByRecursion (λ (e : IndexEntry). (copy : ℕ) → copy < shape.place.copies
      → ¬ (TakesMend shape start e copy)
      → keeps e.blocks (now (area shape.place copy)) (image (area shape.place copy))) index.entries

-- the copies that lacked a content on which enough copies agree have all of it
abbrev pub HasMended : Shape → (start image : Image) → Index → Type 0
HasMended shape start image index = AllByRecursion (λ (e : IndexEntry). (value : List ℕ)
    → voted shape.m (given start shape.place e) ≡ Some value
    → NamedFull shape.place (lacked shape start e) e.blocks value image) index.entries

-- a case while contents are mended: what is durable is as before, or all of them mended
pub record IsMending (shape : Shape) (start now : Image) (index : Index) (c : Case) : Type 0 where
  pub base : IsSparing KeepsBlocksWhole shape start now index c.base
  pub full : IsSparing KeepsBlocksWhole shape start now index c.full
  pub left : IsSparing KeepsBlockBytes shape start now index c.left
  pub durable : (c.base ≡ now) ⊎ HasMended shape start c.base index

-- at its beginning a mending is under way: nothing is mended yet, and nothing is pending
abbrev pub MendStartLaw : Type 0
MendStartLaw = (shape : Shape) (start now : Image) (index : Index) (c : Case) → IsSettledAt now c
    → IsMending shape start now index c

-- a mending stays under way when a content is written again, whole or cut short, in the copies that lacked it
abbrev pub MendStepLaw : Type 0
MendStepLaw = (shape : Shape) (start now : Image) (index : Index) (e : IndexEntry) (value : List ℕ) (old new : Case)
    → IsIndex index → Contains index.entries e
    → voted shape.m (given start shape.place e) ≡ Some value → AreCopies shape.place.copies (lacked shape start e)
    → IsMending shape start now index old
    → KeepsCase (IsNoneOf shape.place (lacked shape start e)) (IsNotAmong e.blocks) old new
    → IsMending shape start now index new

-- a mending stays under way after a sync, once all contents are mended
abbrev pub MendSyncLaw : Type 0
MendSyncLaw = (shape : Shape) (start now : Image) (index : Index) (old new : Case) → IsMending shape start now index old
    → HasMended shape start old.full index → IsSettledAt old.full new → IsMending shape start now index new

-- a stop while contents are mended in the copies that lack them, after the text was adopted, keeps a storage
abbrev pub MendLaw : Type 0
MendLaw = (shape : Shape) (start now : Image) (generation : ℕ) (text : List ℕ) (index : Index) (after : State)
    (c : Case) → 1 ≤ shape.m
    → IsAdopted shape start now generation text index → IsIndex index → IsMending shape start now index c
    → IsKeptMending shape start after c

-- ---- a storage in use

-- a storage in use on a clean image stands as one that was just adopted
abbrev pub InUseLaw : Type 0
InUseLaw = (shape : Shape) (image : Image) (index : Index) (v : View) → IsClean shape image
    → IsInUse shape image index v
    → IsAdopted shape image image v.generation (index_text index) index

-- in a storage in use an entry that keeps the blocks, length and hash of an old one, beside an element that keeps its
-- content, is carried
abbrev pub CarriedLaw : Type 0
CarriedLaw = (shape : Shape) (image : Image) (index : Index) (v : View) (old e : IndexEntry) (f : Entry)
    → IsInUse shape image index v → Contains index.entries old
    → where_of e ≡ where_of old → IsHeaded e f → f.content ≡ (entry_view image shape.place shape.m old).content
    → IsCarried shape image index e f

-- an element that is readable, and that no copy lacks, is whole in every copy
abbrev pub WholeLaw : Type 0
WholeLaw = (shape : Shape) (image : Image) (e : IndexEntry) (value : List ℕ)
    → (entry_view image shape.place shape.m e).content ≡ Good value
    → (entry_view image shape.place shape.m e).lacking ≡ [] → AllWhole shape image e value
