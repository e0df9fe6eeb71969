-- What the pages of a flash hold, and what programming and erasing make of them, whole or cut short.
use Rattle.std.specs.Prelude.{◌≡◌, ◌≢◌, ◌⊎◌, ℕ, ◌==◌, ◌&&◌, List, replicate, if◌then◌else◌}
use Rattle.hash_guard.specs.SealedText.{VerifiesAs}

-- the bytes of each page: `pages b p` is page p of block b, both counted from 0
abbrev pub Pages : Type 0
Pages = ℕ → ℕ → List ℕ

-- what an erased page reads as
unfoldable pub blank_page : List ℕ
blank_page = replicate 512 255

-- the pages (first argument), but with these bytes in page `page` of block `block`
abbrev pub program_page : Pages → ℕ → ℕ → List ℕ → Pages
program_page pages block page bytes b p = if (b == block && p == page) then bytes else pages b p

-- the pages (first argument), but with every page of this block blank
abbrev pub erase_block : Pages → ℕ → Pages
erase_block pages block b p = if b == block then blank_page else pages b p

-- cut short, programming leaves any bytes in the page `page` of `block`, and every other page as it was
abbrev pub TornPage : ℕ → ℕ → Pages → Pages → Type 0
TornPage block page old new = (b p : ℕ) → (b ≢ block) ⊎ (p ≢ page) → new b p ≡ old b p

-- cut short, erasing leaves any bytes in the block, and every page of the others as it was
abbrev pub TornBlock : ℕ → Pages → Pages → Type 0
TornBlock block old new = (b p : ℕ) → b ≢ block → new b p ≡ old b p

-- No page passes its hash by chance: what the start of one verifies as, it verified as before the call, or verifies as
-- once the call is done whole. After the text anything may stand.
abbrev pub IsPlain : (before whole left : Pages) → Type 0
IsPlain before whole left = (b p generation : ℕ) (body : List ℕ) → VerifiesAs (left b p) generation body
    → VerifiesAs (before b p) generation body ⊎ VerifiesAs (whole b p) generation body
