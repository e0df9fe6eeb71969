use Rattle.std.proofs.Common.{◌≡◌, ◌<◌, ℕ, true}
use Rattle.flash_record.specs.PageRecord.{record_in}
use Rattle.flash_disk.specs.Kept.{in_ranges, spares_record}
use Rattle.flash_disk.proofs.Steps.{LookedOn}
use Rattle.flash_disk.proofs.layer.Layer.holds_other.Given as goal

abbrev pub invariant-loop-at : goal.invariant-loop-at
invariant-loop-at g l =
    let m = g.F.Flash.medium l.initial.self.flash in
    record {
      reads : LookedOn g.F.Flash.told g.F.Flash.medium l.initial.self l.self;
      kept : g.F.Flash.told ≡ true → l.block < m.blocks → (p : ℕ) → p < l.at
          → spares_record (in_ranges l.kept) (record_in (m.state.pages l.block p)) ≡ true;
    }
