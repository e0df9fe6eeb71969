-- How many records that count a flash has, and of how many copies they are.
use Rattle.std.specs.Prelude.{ℕ, ◌<◌}
use Rattle.disk_model.specs.Damage.{AtLeast}
use Rattle.flash_model.specs.Pages.{Pages}
use Rattle.flash_disk.specs.Newest.{places}
use Rattle.flash_disk.specs.Apart.{HoldsOneCopy, Counts}

-- in each block nothing counts but files of one of the first few copies
abbrev pub StandAmong : Pages → (blocks copies : ℕ) → Type 0
StandAmong pages blocks copies = (block : ℕ) → (copy : ℕ) × (copy < copies)
    × HoldsOneCopy pages (places blocks) block copy

-- at least this many pages of a flash of that many blocks hold a record that counts
abbrev pub CountInAll : Pages → (blocks count : ℕ) → Type 0
CountInAll pages blocks count = AtLeast (λ place. Counts pages (places blocks) place) (places blocks) count
