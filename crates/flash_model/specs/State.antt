-- What a flash holds and what was announced to it, and what a crash leaves of it.
use Rattle.std.specs.Prelude.{◌≡◌, ℕ, List, [], ◌∷◌, ◌++◌}
use Rattle.flash_model.specs.Pages.{Pages, program_page, erase_block, TornPage, TornBlock, IsPlain}

-- a write that was announced: these bytes into a file from a byte on
pub record Announced : Type 0 where
  pub file : ℕ
  pub at : ℕ
  pub bytes : List ℕ

-- A flash between two calls: its pages, the pages as it was last settled, and the writes that were announced since
-- then.
pub record FlashState : Type 0 where
  pub pages : Pages
  pub settled : Pages
  pub announced : List Announced

-- One case of a crash: the pages before the call in progress, as that call done whole would leave them, and as the
-- crash leaves them. Between two calls all three are the same. `settled` and `announced` are those of the flash then.
pub record FlashCase : Type 0 where
  pub before : Pages
  pub whole : Pages
  pub left : Pages
  pub settled : Pages
  pub announced : List Announced

-- ---- what calls make of it

-- one more write is announced: these bytes into the file of this number, from the byte `at` on
abbrev pub announce_write : FlashState → ℕ → ℕ → List ℕ → FlashState
announce_write s file at bytes = record s {
  announced =
      s.announced ++ (record { file = file; at = at; bytes = bytes }) ∷ [];
}

-- the pages as they are count as settled, and nothing is announced
abbrev pub settle_pages : FlashState → FlashState
settle_pages s = record { pages = s.pages; settled = s.pages; announced = [] }

-- page `page` of block `block` holds these bytes; nothing else changed
abbrev pub programmed : FlashState → ℕ → ℕ → List ℕ → FlashState
programmed s block page bytes = record s { pages = program_page s.pages block page bytes }

-- every page of this block is blank; nothing else changed
abbrev pub erased : FlashState → ℕ → FlashState
erased s block = record s { pages = erase_block s.pages block }

-- ---- what a crash leaves

-- a crash between two calls leaves what there was: `c` is that case of the flash `s`
pub record IsStill (s : FlashState) (c : FlashCase) : Type 0 where
  pub before : c.before ≡ s.pages
  pub whole : c.whole ≡ s.pages
  pub left : c.left ≡ s.pages
  pub settled : c.settled ≡ s.settled
  pub announced : c.announced ≡ s.announced

-- a crash in a call that changes pages: done whole it makes `done` of them, and `Tears old left` says what the crash
-- may make of the old ones
pub record IsCutShort (done : Pages) (Tears : Pages → Pages → Type 0) (s : FlashState) (c : FlashCase) : Type 0 where
  pub before : c.before ≡ s.pages
  pub whole : c.whole ≡ done
  pub left : Tears s.pages c.left
  pub settled : c.settled ≡ s.settled
  pub announced : c.announced ≡ s.announced

-- a crash while page `page` of block `block` is programmed with these bytes: the page may hold anything
abbrev pub ProgramCase : ℕ → ℕ → List ℕ → FlashState → FlashCase → Type 0
ProgramCase block page bytes s c = IsCutShort (program_page s.pages block page bytes) (TornPage block page) s c

-- a crash while this block is erased: its pages may hold anything
abbrev pub EraseCase : ℕ → FlashState → FlashCase → Type 0
EraseCase block s c = IsCutShort (erase_block s.pages block) (TornBlock block) s c

-- ---- what a call that failed leaves: what a crash in it leaves, and nothing that passes its hash by chance

-- `done` is what the call would have made of the pages, `Tears old left` what a crash in it may make of them
pub record IsLeftBy (done : Pages) (Tears : Pages → Pages → Type 0) (old new : FlashState) : Type 0 where
  pub torn : Tears old.pages new.pages
  pub plain : IsPlain old.pages done new.pages
  pub settled : new.settled ≡ old.settled
  pub announced : new.announced ≡ old.announced

-- of a call that was to program page `page` of block `block` with these bytes
abbrev pub FailsToProgram : ℕ → ℕ → List ℕ → FlashState → FlashState → Type 0
FailsToProgram block page bytes old new = IsLeftBy (program_page old.pages block page bytes) (TornPage block page) old
    new

-- of a call that was to erase this block
abbrev pub FailsToErase : ℕ → FlashState → FlashState → Type 0
FailsToErase block old new = IsLeftBy (erase_block old.pages block) (TornBlock block) old new
