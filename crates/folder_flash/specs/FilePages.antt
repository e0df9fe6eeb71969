-- The pages of a flash in a file, and what a write of some of them leaves.
use Rattle.std.specs.Prelude.{◌≡◌, ◌≢◌, ◌⊎◌, ℕ, ◌+◌, ◌-◌, ◌*◌, ◌≤◌, min, List, ◌++◌, length, take, drop, nat_lt}
use Rattle.std.specs.Prelude.{if◌then◌else◌}
use Rattle.disk_model.specs.Image.{Image, TornImage}
use Rattle.flash_model.specs.Pages.{Pages, blank_page}
use Rattle.system_model.specs.SystemMedium.{SystemMedium}
use Rattle.folder_disk.specs.FolderView.{FolderView}

-- where a page begins in the file
abbrev pub page_start : (block page : ℕ) → ℕ
page_start block page = (64 * block + page) * 512

-- the bytes of a page; what the file lacks is blank
unfoldable pub file_page : List ℕ → (block page : ℕ) → List ℕ
file_page file block page = take 512 (drop (page_start block page) file ++ blank_page)

-- the pages of the file, 64 for each block
abbrev pub file_pages : List ℕ → Pages
file_pages file b p = if nat_lt p 64 then file_page file b p else blank_page

-- What a write of n bytes of the file 0 leaves that was cut short: the range may hold anything, and where the file
-- ended before it all up to the range as well.
abbrev pub TornFile : (at n : ℕ) → (old new : Image) → Type 0
TornFile at n old new = TornImage 0 (min (length (old 0)) at) (at + n - min (length (old 0)) at) old new

-- the file reaches this place, or had the page whole
abbrev pub IsPageSpared : (file : List ℕ) (at b p : ℕ) → Type 0
IsPageSpared file at b p = (at ≤ length file) ⊎ (page_start b p + 512 ≤ length file)

-- what programming a page that is cut short leaves: each other page as it was, but for those that the file lacked up to
-- this one
abbrev pub TornPageOf : (block page : ℕ) → (old new : List ℕ) → Type 0
TornPageOf block page old new = (b p : ℕ) → (b ≢ block) ⊎ (p ≢ page) → IsPageSpared old (page_start block page) b p
    → file_pages new b p ≡ file_pages old b p

-- the same of a block that is erased
abbrev pub TornBlockOf : (block : ℕ) → (old new : List ℕ) → Type 0
TornBlockOf block old new = (b p : ℕ) → b ≢ block → IsPageSpared old (page_start block 0) b p
    → file_pages new b p ≡ file_pages old b p

-- ---- what is seen of a flash

-- the bytes of the flash's file, file 0 of the folder, as its system has them
abbrev pub file_seen : {S : Type 0} → (S → SystemMedium) → FolderView S → List ℕ
file_seen medium v = (medium v.system).disk.image 0

-- the same as pages
abbrev pub pages_seen : {S : Type 0} → (S → SystemMedium) → FolderView S → Pages
pages_seen medium v = file_pages (file_seen medium v)
