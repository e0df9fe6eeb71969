-- The states of the hasher on the way through contents, and which contents they are of.
use Rattle.std.specs.Prelude.{◌≡◌, ℕ, List, Some, ⊤}
use Rattle.sha2.specs.Sha256.{sha256}
use Rattle.per_base.specs.declared.elements.Content.TheVariants.{Good}
use Rattle.per_base.specs.declared.elements.Entry.{Entry}
use Rattle.per_base.specs.declared.elements.Change.{Change}
use Rattle.per_base.specs.declared.elements.Change.TheVariants.{Put, Remove, Touch}
use Rattle.block_files.specs.States.{AreStatesOf}
use Rattle.block_files.specs.declared.hashing.Hashed.{Hashed}
use Rattle.element_state.specs.Changes.{entry_by_name}
use Rattle.element_store.specs.declared.hashing.KeptStates.{KeptStates}

-- the hash of what a change puts, and states on the way to it
abbrev pub IsHashedAs : Change → Hashed → Type 0
IsHashedAs (Put f) hashed = (hashed.hash ≡ sha256 f.bytes) × AreStatesOf f.bytes hashed.states.items
IsHashedAs (Remove name) hashed = ⊤
IsHashedAs (Touch name info) hashed = ⊤

-- states of the content that the element of their name has, where it can be read
abbrev pub AreOfElement : List Entry → KeptStates → Type 0
AreOfElement entries kept = (f : Entry) (bytes : List ℕ) → entry_by_name kept.name entries ≡ Some f
    → f.content ≡ Good bytes → AreStatesOf bytes kept.states.items
