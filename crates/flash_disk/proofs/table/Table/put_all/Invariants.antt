use Rattle.std.proofs.Common.{◌≡◌, ◌≢◌, ◌≤◌, ℕ, take}
use Rattle.std.specs.Prelude.{All, IsSome}
use Rattle.std.specs.Map.{update_all}
use Rattle.flash_disk.specs.declared.table.FilePage.{FilePage}
use Rattle.flash_disk.specs.Known.{same_page, known, page_len, HasCapacity, SameBounds}
use Rattle.flash_disk.specs.Counted.{entries_in, IsInside, IsCountedTable}
use Rattle.flash_disk.proofs.table.Table.put_all.Given as goal

abbrev pub invariant-loop-new : goal.invariant-loop-new
invariant-loop-new l = record {
  bounds : SameBounds l.initial.self l.self;
  puts : All (λ new. IsSome (known l.initial.self new.0)) l.news → HasCapacity l.initial.self
      → HasCapacity l.self
      × (page_len l.self ≡ page_len l.initial.self)
      × ((k : FilePage) → IsSome (known l.initial.self k) → IsSome (known l.self k))
      × ((k : FilePage) → known l.self k ≡ update_all same_page (known l.initial.self) (take l.new-index l.news) k);
  counted : (blocks : ℕ) → All (λ new. IsInside blocks new.1) l.news → IsCountedTable blocks l.initial.self
      → IsCountedTable blocks l.self;
  no_more : (block : ℕ) → All (λ new. new.1.place.block ≢ block) l.news
      → entries_in l.self block ≤ entries_in l.initial.self block;
}
