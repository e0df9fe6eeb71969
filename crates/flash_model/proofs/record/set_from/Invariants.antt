use Rattle.std.proofs.Common.{◌≡◌, ◌⊎◌, ℕ, ◌<◌, ◌≤◌, ◌+◌, get_or, length}
use Rattle.flash_model.specs.Pages.{blank_page}
use Rattle.flash_model.proofs.record.set_from.Given as goal

abbrev pub invariant-loop-j : goal.invariant-loop-j
invariant-loop-j l =
    (length l.pages.items ≡ length l.initial.pages.items)
    × ((k : ℕ) → k < l.j → get_or l.pages.items (l.from + k) blank_page ≡ l.page)
    × ((i : ℕ) → (i < l.from) ⊎ (l.from + 64 ≤ i) → get_or l.pages.items i blank_page
    ≡ get_or l.initial.pages.items i blank_page)
