-- A flash whose pages are all blank.
use Rattle.std.specs.Prelude.{◌≡◌, ℕ, ◌<◌}
use Rattle.flash_model.specs.Pages.{Pages, blank_page}

-- each of the 64 pages of each block of a flash of that many blocks is blank
abbrev pub IsBlankFlash : Pages → ℕ → Type 0
IsBlankFlash pages blocks = (b p : ℕ) → b < blocks → p < 64 → pages b p ≡ blank_page
