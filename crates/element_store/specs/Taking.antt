-- Sets of the blocks of entries, as some are taken out.
use Rattle.std.specs.Prelude.{◌≡◌, ◌⊎◌, ◌&&◌, ℕ, List, Bool, true, not}
use Rattle.disk_model.specs.Orders.{named_in}
use Rattle.block_files.specs.BlockSets.{contains}
use Rattle.index_text.specs.declared.entries.IndexEntry.{IndexEntry}
use Rattle.index_text.specs.Rules.{blocks_of}

-- the new set has what the old one had but for these blocks
abbrev pub Loses : List ℕ → (old new : List Bool) → Type 0
Loses blocks old new = (b : ℕ) → contains new b ≡ (contains old b && not (named_in blocks b))

-- each block of the set is one of some of these entries or of some of those
abbrev pub AreOfEither : List IndexEntry → List IndexEntry → List Bool → Type 0
AreOfEither these those set = (b : ℕ) → contains set b ≡ true
    → (named_in (blocks_of these) b ≡ true) ⊎ (named_in (blocks_of those) b ≡ true)
