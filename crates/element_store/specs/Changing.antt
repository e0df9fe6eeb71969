-- Plans of changes on their way: what stands before them, and what the plan is after some of them.
use Rattle.std.specs.Prelude.{◌≡◌, ◌≢◌, ◌⊎◌, ℕ, ◌*◌, ◌≤◌, List, [], length, Bool, true, cond, Option, Some, sum_by, ⊤}
use Rattle.std.specs.List.{All, AllZip, AllByRecursion}
use Rattle.std.specs.Str.{bytes_eq}
use Rattle.per_base.specs.declared.elements.StoreKind.{StoreKind}
use Rattle.per_base.specs.declared.elements.FileInfo.{FileInfo}
use Rattle.per_base.specs.declared.elements.Content.TheVariants.{Good}
use Rattle.per_base.specs.declared.elements.Entry.{Entry}
use Rattle.per_base.specs.declared.elements.Change.{Change}
use Rattle.per_base.specs.declared.elements.Change.TheVariants.{Put, Remove, Touch}
use Rattle.per_base.specs.Changes.{changed_name}
use Rattle.per_base.specs.Contents.{blocks_for, HasLength}
use Rattle.per_base.specs.Names.{NamesAscend}
use Rattle.disk_model.specs.Orders.{named_in}
use Rattle.block_files.specs.Parts.{changed_blocks}
use Rattle.block_files.specs.BlockSets.{contains}
use Rattle.index_text.specs.declared.entries.IndexEntry.{IndexEntry}
use Rattle.index_text.specs.Rules.{IsEntry, blocks_of}
use Rattle.element_state.specs.Changes.{item_at}
use Rattle.element_state.specs.Written.{cost_beside, content_named}
use Rattle.element_state.specs.Kept.{IsHeaded}
use Rattle.element_store.specs.declared.jobs.Job.{Job}
use Rattle.element_store.specs.Plans.{HasAll, KeepsTaken, AreDisjoint, AreLaidApart, ArePlacedJobs}
use Rattle.element_store.specs.Commits.{AreBeside, IsCarriedFrom, IsWrittenBy, SharesWith}

-- the name of an entry
abbrev pub named_by : IndexEntry → List ℕ
named_by e = e.name

-- the blocks that a change takes at most
abbrev pub change_blocks : Change → ℕ
change_blocks (Put f) = blocks_for (length f.bytes)
change_blocks (Remove name) = 0
change_blocks (Touch name info) = 0

-- the blocks that changes take together at most
abbrev pub blocks_of_changes : List Change → ℕ
blocks_of_changes changes = sum_by change_blocks changes

-- an element was read by this entry
pub record IsSeenAs (e : IndexEntry) (f : Entry) : Type 0 where
  pub headed : IsHeaded e f
  pub value : HasLength f.content e.len

-- Entries that keep the rules, each with its element, whose blocks a set has.
pub record AreStandingEntries (kind : StoreKind) (set : List Bool) (standing : List IndexEntry)
    (views : List Entry) : Type 0
  where
    pub rules : AllByRecursion (IsEntry 2 kind) standing
    pub ascend : NamesAscend named_by standing
    pub laid : AreLaidApart standing
    pub taken : AllByRecursion (λ (e : IndexEntry). HasAll set e.blocks) standing
    pub read : AllZip IsSeenAs standing views

-- the content of a name beside which a new one is written, with its blocks; or nothing
pub record IsEarlierContent (kind : StoreKind) (standing : List IndexEntry) (views : List Entry)
    (name bytes blocks : List ℕ) : Type 0 where
  pub is : ((bytes ≡ []) × (blocks ≡ []))
      ⊎ ((was : IndexEntry) × (seen : Entry) × AreBeside standing views was seen × (was.name ≡ name)
      × (seen.content ≡ Good bytes) × (blocks ≡ was.blocks))
  pub cost : (new : List ℕ) → 256 * changed_blocks new bytes ≤ cost_beside kind (content_named name views) new

-- no block is one of a standing entry of another name
abbrev pub IsOwn : List IndexEntry → IndexEntry → Type 0
IsOwn standing e = All (λ (was : IndexEntry). was.name ≢ e.name → AreDisjoint was.blocks e.blocks) standing

-- an entry that keeps the rules, with blocks of its own in the set
pub record IsSoundEntry (kind : StoreKind) (standing : List IndexEntry) (now : List Bool)
    (e : IndexEntry) : Type 0 where
  pub rules : IsEntry 2 kind e
  pub taken : HasAll now e.blocks
  pub own : IsOwn standing e

-- The entries of the next index with their elements, and the jobs that write contents, after some changes.
pub record IsPlanned (kind : StoreKind) (standing : List IndexEntry) (views : List Entry) (start now : List Bool)
    (next : List IndexEntry) (elements : List Entry) (jobs : List Job) : Type 0 where
  pub entries : AllZip (λ e f. IsWrittenBy jobs e f ⊎ IsCarriedFrom standing views e f) next elements
  pub sound : AllByRecursion (IsSoundEntry kind standing now) next
  pub ascend : NamesAscend named_by next
  pub laid : AreLaidApart next
  pub taken : AllByRecursion (λ (e : IndexEntry). HasAll start e.blocks) standing
  pub placed : ArePlacedJobs start now jobs
  pub shares : All (SharesWith standing views) jobs
  pub keeps : KeepsTaken start now
  pub capacity : length now ≡ length start

-- the entry of a name
abbrev pub entry_of_name : List ℕ → List IndexEntry → Option IndexEntry
entry_of_name name entries = item_at named_by name entries

-- each of the changes is of another name
abbrev pub AreOfOthers : List Change → List ℕ → Type 0
AreOfOthers changes name = All (λ change. changed_name change ≢ name) changes

-- an entry whose name no change has is as it was
abbrev pub KeepsOthers : List Change → (old new : List IndexEntry) → Type 0
KeepsOthers changes old new = (name : List ℕ) → AreOfOthers changes name
    → entry_of_name name new ≡ entry_of_name name old

-- what the set has now and did not have then is blocks of these entries
abbrev pub IsGrownBy : List IndexEntry → (then now : List Bool) → Type 0
IsGrownBy entries then now = (b : ℕ) → contains now b ≡ true
    → (contains then b ≡ true) ⊎ (named_in (blocks_of entries) b ≡ true)

-- what comes of standing entries and of the set of their blocks by changes: what no change names stays, and the set has
-- grown by the next entries
pub record IsTraced (standing : List IndexEntry) (start now : List Bool) (changes : List Change)
    (next : List IndexEntry) : Type 0 where
  pub others : KeepsOthers changes standing next
  pub grown : IsGrownBy next start now

-- the entry with another info, if it has the name
abbrev pub touched_entry : (generation : ℕ) → List ℕ → FileInfo → IndexEntry → IndexEntry
touched_entry generation name info e = cond (bytes_eq e.name name) (record e { info = Some info; changed = generation })
    e

-- the content of a change is no longer than that of a file
abbrev pub IsSmallChange : Change → Type 0
IsSmallChange (Put f) = length f.bytes ≤ 1048576
IsSmallChange (Remove name) = ⊤
IsSmallChange (Touch name info) = ⊤
