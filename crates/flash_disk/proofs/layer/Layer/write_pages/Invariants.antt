use Rattle.std.proofs.Common.{◌≡◌, ◌<◌, ◌≤◌, ◌+◌, ◌*◌, ◌-◌, ◌/◌, length, true}
use Rattle.std.specs.Prelude.{IsTrue, IsFalse}
use Rattle.std.specs.Int.{div_ceil}
use Rattle.flash_disk.specs.Apart.{copy_of}
use Rattle.flash_disk.specs.KeepsApart.{KeepsApart}
use Rattle.flash_disk.specs.Does.{Does}
use Rattle.flash_disk.specs.Steps.{IsSure}
use Rattle.flash_disk.specs.Writes.{LeavesTorn}
use Rattle.flash_disk.specs.Known.{page_len}
use Rattle.flash_disk.specs.Counted.{missing}
use Rattle.flash_disk.specs.Entries.{Affords}
use Rattle.flash_disk.proofs.Writing.{WroteSoFar}
use Rattle.flash_disk.proofs.Accounting.{Counted}
use Rattle.flash_disk.proofs.layer.Layer.write_pages.Given as goal

abbrev pub decreases-loop-done : goal.decreases-loop-done
decreases-loop-done g l = length l.bytes - l.done

abbrev pub invariant-loop-done : goal.invariant-loop-done
invariant-loop-done g l = record {
  within : l.done ≤ length l.bytes;
  ready : IsSure g.F.Flash.told g.F.Flash.medium l.self;
  wrote : g.F.Flash.told ≡ true → WroteSoFar (g.F.Flash.medium l.initial.self.flash) (g.F.Flash.medium l.self.flash)
      l.file l.at l.bytes l.len l.done;
  does : g.F.Flash.told ≡ true → Does (LeavesTorn l.file l.at (length l.bytes) (g.F.Flash.medium l.initial.self.flash))
      (g.F.Flash.medium l.initial.self.flash) (g.F.Flash.medium l.self.flash);
  apart : g.F.Flash.told ≡ true → KeepsApart (copy_of l.file) (g.F.Flash.medium l.initial.self.flash)
      (g.F.Flash.medium l.self.flash);
  numbered : l.done + 256 * l.initial.self.state.sequence ≤ 256 * l.self.state.sequence;
  counts : Counted g.F.Flash.told g.F.Flash.medium l.done l.initial.self l.self;
  no_rivals : g.F.Flash.told ≡ true → 0 < l.done → IsFalse l.initial.self.state.has_rivals;
  cleared : 0 < l.done → IsTrue l.self.state.cleared;
  affords : g.F.Flash.told ≡ true → Affords l.self.state.table l.file (l.at / 256)
      (div_ceil (l.at + length l.bytes) 256 - l.at / 256);
  as_many : g.F.Flash.told ≡ true
      → missing l.self.state.table l.file (l.at / 256) (div_ceil (l.at + length l.bytes) 256 - l.at / 256)
      + page_len l.self.state.table
      ≡ missing l.initial.self.state.table l.file (l.at / 256) (div_ceil (l.at + length l.bytes) 256 - l.at / 256)
      + page_len l.initial.self.state.table;
}
