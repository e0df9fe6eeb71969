-- What is read where pages were lost, by what they held: on any number of blocks, and with any number of copies.
use Rattle.std.specs.Prelude.{◌≡◌, ◌⊎◌, ◌<◌, ◌≤◌, ℕ, List, [], Option, Some}
use Rattle.std.specs.List.{AllZip}
use Rattle.per_base.specs.declared.elements.Content.TheVariants.{Bad, Good}
use Rattle.per_base.specs.declared.elements.Entry.{Entry}
use Rattle.per_base.specs.declared.elements.Scope.TheVariants as scope
use Rattle.disk_model.specs.Image.{Image}
use Rattle.disk_model.specs.Place.{slot}
use Rattle.disk_model.specs.declared.place.Place.{Place}
use Rattle.flash_model.specs.Pages.{Pages}
use Rattle.flash_disk.specs.Emptied.{LosesAnyPages}
use Rattle.flash_disk.specs.FlashFiles.{flash_files}
use Rattle.flash_disk.specs.Newest.{places}
use Rattle.flash_laws.specs.Lost.{SparesFile}
use Rattle.guarded_cell.specs.Register.{HasNoStanding, Holds, IsStanding, own}
use Rattle.block_files.specs.Aside.{Where}
use Rattle.element_state.specs.Clean.{counting_at}
use Rattle.element_state.specs.declared.shapes.Shape.{Shape}
use Rattle.element_state.specs.declared.shapes.View.{View}
use Rattle.element_state.specs.States.{State, Corrupt, Opens, store_at}
use Rattle.element_laws.specs.Phases.{IsOfPlace}
use Rattle.root_text.specs.RootText.{root_of}
use Rattle.deploy_laws.specs.Apps.{nothing, says_at, says_by}
use Rattle.deploy_laws.specs.Places.{agreeing_of_root, copies_of_root, root_place}

-- each record that counted for a file of this place is where it was
abbrev pub SparesPlace : Place → (old new : Pages) → (blocks : ℕ) → Type 0
SparesPlace place old new blocks = (file : ℕ) → IsOfPlace place file → SparesFile old new (places blocks) file

-- each record that counted for a slot of this place is where it was
abbrev pub SparesSlots : Place → (old new : Pages) → (blocks : ℕ) → Type 0
SparesSlots place old new blocks = (copy parity : ℕ) → copy < place.copies → parity < 2
    → SparesFile old new (places blocks) (slot place copy parity)

-- what copy a gave under one entry's length, hash and blocks (`at`) before, and what copy b gives under them after, is
-- the same
abbrev pub KeepTwins : Place → (old new : Image) → Type 0
KeepTwins place old new = (at : Where) (a b : ℕ) (s t : List ℕ) → a < place.copies → b < place.copies
    → counting_at old place a at ≡ Some s → counting_at new place b at ≡ Some t → t ≡ s

-- an element is listed as it was, and if it had a value it has this one or is corrupt, with or without bytes that are
-- left of it (`salvage`)
pub record IsKeptOrCorrupt (now was : Entry) : Type 0 where
  pub name : now.name ≡ was.name
  pub info : now.info ≡ was.info
  pub changed : now.changed ≡ was.changed
  pub len : now.len ≡ was.len
  pub content : (value : List ℕ) → was.content ≡ Good value
      → (now.content ≡ Good value) ⊎ ((salvage : Option (List ℕ)) × (now.content ≡ Bad salvage))

-- A storage opens under the generation that it had, each element as it was or corrupt, or it is corrupt as a whole. It
-- opens where its scope is each element, so that one that is corrupt does not make the whole corrupt.
pub record ReadsOrRefuses (shape : Shape) (was : View) (state : State) : Type 0 where
  pub view : View
  pub is : (state ≡ Opens view []) ⊎ (state ≡ Corrupt (Some view) [])
  pub element : shape.scope ≡ scope.Element → state ≡ Opens view []
  pub generation : view.generation ≡ was.generation
  pub each : AllZip IsKeptOrCorrupt view.entries was.entries

-- whichever text a copy holds after the loss, some copy held it before, or it is of a lesser generation than this one
abbrev pub BringsOlder : Place → (generation : ℕ) → (old new : Image) → Type 0
BringsOlder place generation old new = (copy g : ℕ) (text : List ℕ) → copy < place.copies
    → Holds new place copy g text → (g < generation)
    ⊎ ((c : ℕ) × (c < place.copies) × Holds old place c g text)

-- a view is of a lesser generation, or of the same, and each element is as it was or corrupt
abbrev pub IsSameOrOlder : (now was : View) → Type 0
IsSameOrOlder now was = (now.generation < was.generation)
    ⊎ ((now.generation ≡ was.generation) × AllZip IsKeptOrCorrupt now.entries was.entries)

-- whichever text a copy holds after the loss, it is of a lesser generation than this text, or it is this text, or the
-- same copy held it before
abbrev pub BringsNoNewer : Place → (generation : ℕ) → List ℕ → (old new : Image) → Type 0
BringsNoNewer place generation text old new = (copy g : ℕ) (t : List ℕ) → copy < place.copies
    → Holds new place copy g t → (g < generation) ⊎ (((g ≡ generation) × (t ≡ text)) ⊎ Holds old place copy g t)

-- a root says what this text says, and this text stands: two copies hold it, and no two hold one of a greater
-- generation
pub record SaysText (app : ℕ) (image : Image) (generation : ℕ) (text : List ℕ) : Type 0 where
  pub stands : IsStanding image (root_place app) agreeing_of_root generation text
  pub says : says_at image app ≡ says_by generation (root_of text)

-- A root whose text this was says what it said, and the text stands still; or it says what one of a lesser generation
-- says, which stands; or nothing, and no text stands.
abbrev pub IsSameOrOlderRoot : (app generation : ℕ) → List ℕ → (old new : Image) → Type 0
IsSameOrOlderRoot app generation text old new =
    (SaysText app new generation text × (says_at new app ≡ says_at old app))
    ⊎ (((g : ℕ) × (t : List ℕ) × (g < generation) × SaysText app new g t)
    ⊎ (HasNoStanding new (root_place app) agreeing_of_root × (says_at new app ≡ nothing)))

-- ---- the laws

-- a storage of whose files no record that counted was lost reads as before
abbrev pub SparedStoragesLaw : Type 0
SparedStoragesLaw = (old new : Pages) (blocks : ℕ) (shape : Shape) → LosesAnyPages old new
    → SparesPlace shape.place old new blocks
    → store_at (flash_files new blocks) shape ≡ store_at (flash_files old blocks) shape

-- a root of whose files no record that counted was lost says what it said
abbrev pub SparedRootsLaw : Type 0
SparedRootsLaw = (old new : Pages) (blocks app : ℕ) → LosesAnyPages old new
    → SparesPlace (root_place app) old new blocks
    → says_at (flash_files new blocks) app ≡ says_at (flash_files old blocks) app

-- A storage of whose slots no record that counted was lost reads no older value: each element is as it was or corrupt,
-- or the storage is.
abbrev pub SparedSlotsLaw : Type 0
SparedSlotsLaw = (old new : Pages) (blocks : ℕ) (shape : Shape) (view : View) → LosesAnyPages old new → 1 ≤ shape.m
    → SparesSlots shape.place old new blocks
    → KeepTwins shape.place (flash_files old blocks) (flash_files new blocks)
    → store_at (flash_files old blocks) shape ≡ Opens view []
    → ReadsOrRefuses shape view (store_at (flash_files new blocks) shape)

-- Whatever was lost, a storage that opens does so under a lesser generation, or under its own with each element as it
-- was or corrupt, if what the loss brought up in its slots is older: with one copy too. A bank that was made again may
-- bring up greater generations.
abbrev pub OlderLaw : Type 0
OlderLaw = (old new : Image) (shape : Shape) (view : View) → 1 ≤ shape.m → KeepTwins shape.place old new
    → BringsOlder shape.place view.generation old new → store_at old shape ≡ Opens view []
    → (now : View) (others : List View) → store_at new shape ≡ Opens now others → IsSameOrOlder now view

-- Whatever was lost, a root at which a text stood, of generation g, says what it said, or what one of a lesser
-- generation says, which two copies hold, or nothing, if what the loss brought up in its slots is older. A text of a
-- greater generation that one copy held may stay in this copy, but not come up in another.
abbrev pub OlderRootsLaw : Type 0
OlderRootsLaw = (old new : Image) (app g : ℕ) (text : List ℕ)
    → IsStanding old (root_place app) agreeing_of_root g text → BringsNoNewer (root_place app) g text old new
    → IsSameOrOlderRoot app g text old new

-- After any loss of pages of a flash with this many blocks that is asked only of the slots of which a record that
-- counted was lost: a text t that a copy holds in one is of a lesser generation h than g, or it is the text that stood.
abbrev pub LostRootsLaw : Type 0
LostRootsLaw = (old new : Pages) (blocks app g : ℕ) (text : List ℕ) → LosesAnyPages old new
    → IsStanding (flash_files old blocks) (root_place app) agreeing_of_root g text
    → ((copy h : ℕ) (t : List ℕ) → copy < copies_of_root → Holds (flash_files new blocks) (root_place app) copy h t
    → (h < g) ⊎ (((h ≡ g) × (t ≡ text)) ⊎ SparesFile old new (places blocks) (slot (root_place app) copy (own h))))
    → IsSameOrOlderRoot app g text (flash_files old blocks) (flash_files new blocks)
