-- The table leads to the newest records once the spare block is left, and so knows how long each file is.
use Rattle.std.proofs.Common.{◌≡◌, ℕ, ◌≤◌, ◌+◌, refl, sym, subst, ◌∙◌, inl, inr, ⊎_elim, arith}
use Rattle.std.specs.Prelude.{Option, Some, None}
use Rattle.flash_model.specs.Pages.{Pages}
use Rattle.flash_disk.specs.declared.table.FilePage.{FilePage}
use Rattle.flash_disk.specs.declared.table.Newest.{Newest}
use Rattle.flash_disk.specs.declared.table.Table.{Table}
use Rattle.flash_disk.specs.Newest.{Placed, newest}
use Rattle.flash_disk.specs.FlashFiles.{IsFileLen}
use Rattle.std.specs.HashMap.{get, hash_map_len, spare}
use Rattle.flash_disk.specs.Known.{same_page, known, limit_of, len_known, IsLongest}
use Rattle.flash_disk.specs.Learnt.{LedOf, IsLed, KnowsLengths}

module _ (pages : Pages) (n : ℕ) where
  module _ (file : ℕ) where
    abbrev key_of : ℕ → FilePage
    key_of page = record { file = file; page = page }

    most_by : (table : Table) (len page : ℕ) → IsLongest table.newest file len → (x : Placed) → (k : Option Newest)
        → known table (key_of page) ≡ k → LedOf pages n k (Some x) → x.says.len ≤ len
    most_by table len page is x None none says = absurd says
    most_by table len page is x (Some e) found says = let le = is.most (key_of page) e found refl in let same =
        says.leads.len in omega (arith, le, same)

    one_by : (key : FilePage) (e : Newest) (len : ℕ) → key.file ≡ file → len ≡ e.len → (b : Option Placed)
        → newest pages key.file key.page n ≡ b → LedOf pages n (Some e) b
        → (page : ℕ) × (x : Placed) × (newest pages file page n ≡ Some x) × (len ≡ x.says.len)
    one_by key e len of_file is None none says = absurd says
    one_by key e len of_file is (Some x) found says =
        (key.page, x, subst (λ f. newest pages f key.page n ≡ Some x) of_file found, is ∙ says.leads.len)

    -- the length that the table knows is that of the file
    pub len_is : (table : Table) (len : ℕ) → IsLed pages n table → IsLongest table.newest file len
        → IsFileLen pages n file len
    len_is table len led is = record {
      most = λ page x found. most_by table len page is x (known table (key_of page)) refl
          (subst (LedOf pages n (known table (key_of page))) found (led.says (key_of page)));
      one = ⊎_elim
          (λ none. inl none)
          (λ some. inr (one_by some.0 some.1 len some.3 some.4 (newest pages some.0.file some.0.page n) refl
          (subst (λ k. LedOf pages n k (newest pages some.0.file some.0.page n)) some.2 (led.says some.0))))
          is.one;
    }

  pub same_newest : (old new : Table) → IsLed pages n old → new.newest ≡ old.newest → limit_of new ≡ limit_of old
      → IsLed pages n new
  same_newest old new led same limit = record {
    says = λ key. subst (λ m. LedOf pages n (get same_page m key) (newest pages key.file key.page n)) (sym same)
        (led.says key);
    room = subst (λ m. new.limit ≤ hash_map_len m + spare m) (sym same)
        (subst (λ l. l ≤ hash_map_len old.newest + spare old.newest) (sym limit) led.room);
    fits = subst (λ m. hash_map_len m ≤ new.limit) (sym same)
        (subst (λ l. hash_map_len old.newest ≤ l) (sym limit) led.fits);
  }

  -- the lengths were taken from the entries
  pub measured : (old new : Table) → IsLed pages n old → new.newest ≡ old.newest → limit_of new ≡ limit_of old
      → ((file : ℕ) → IsLongest old.newest file (len_known new file)) → KnowsLengths pages n new
  measured old new led same limit longest = record {
    led = same_newest old new led same limit;
    lens = λ file. len_is file old (len_known new file) led (longest file);
  }
