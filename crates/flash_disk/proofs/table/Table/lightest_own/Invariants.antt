use Rattle.std.proofs.Common.{◌≢◌, ◌⊎◌, ℕ, ◌≤◌, ◌<◌}
use Rattle.flash_disk.specs.Known.{load_known}
use Rattle.flash_disk.specs.LedApart.{IsUnmarked}
use Rattle.flash_disk.proofs.table.Table.lightest_own.Given as goal

abbrev pub invariant-loop-block : goal.invariant-loop-block
invariant-loop-block l = (l.best ≢ l.but → (l.best < l.self.blocks) × IsUnmarked l.foreign l.best
    × (load_known l.self l.best < 64))
    × ((b : ℕ) → b < l.block → b ≢ l.but → IsUnmarked l.foreign b → (64 ≤ load_known l.self b)
    ⊎ ((l.best ≢ l.but) × (load_known l.self l.best ≤ load_known l.self b)))
