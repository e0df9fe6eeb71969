-- Tables with entries of the same pages, and with one page more, and tables with the same bounds.
use Rattle.std.proofs.Common.{◌≡◌, ◌+◌, cond, refl, sym, ap, ◌∙◌, arith}
use Rattle.std.specs.Prelude.{Bool, true, false, is_some}
use Rattle.flash_disk.specs.declared.table.FilePage.{FilePage}
use Rattle.flash_disk.specs.declared.table.Table.{Table}
use Rattle.flash_disk.specs.Known.{same_page, known, page_len, limit_of, SameBounds}
use Rattle.flash_disk.specs.Entries.{SameEntries, Occupies}
use Rattle.flash_disk.proofs.Learning.{same_page_is}

pub same_entries : (t : Table) → SameEntries t t
same_entries t = record { has = λ key. refl; len = refl; limit = refl }

pub same_entries_then : (a b c : Table) → SameEntries a b → SameEntries b c → SameEntries a c
same_entries_then a b c first second = record {
  has = λ key. second.has key ∙ first.has key;
  len = second.len ∙ first.len;
  limit = second.limit ∙ first.limit;
}

-- a page more after no change
pub occupies_after : (a b c : Table) (key : FilePage) → SameEntries a b → Occupies b c key → Occupies a c key
occupies_after a b c key same more = record {
  has = λ k. more.has k ∙ ap (λ had. cond (same_page key k) true had) (same.has k);
  len = more.len ∙ ap (λ n. n + cond (is_some (known b key)) 0 1) same.len
      ∙ ap (λ had. page_len a + cond had 0 1) (same.has key);
  limit = more.limit ∙ same.limit;
}

had_by : (table : Table) (key k : FilePage) → is_some (known table key) ≡ true → (same : Bool) → same_page key k ≡ same
    → cond same true (is_some (known table k)) ≡ is_some (known table k)
had_by table key k had true same = sym (ap (λ q. is_some (known table q)) (sym (same_page_is key k same)) ∙ had)
had_by table key k had false same = refl

-- a page that had an entry before is none more
pub occupies_known : (a b : Table) (key : FilePage) → is_some (known a key) ≡ true → Occupies a b key → SameEntries a b
occupies_known a b key had more = record {
  has = λ k. more.has k ∙ had_by a key k had (same_page key k) refl;
  len = more.len ∙ ap (λ some. page_len a + cond some 0 1) had ∙ omega arith;
  limit = more.limit;
}

-- ---- bounds

pub bounds_same : {a b : Table} → b ≡ a → SameBounds a b
bounds_same same = record {
  limit = ap limit_of same;
  lens = ap (λ t. t.lens) same;
  blocks = ap (λ t. t.blocks) same;
}

pub bounds_then : {a b c : Table} → SameBounds a b → SameBounds b c → SameBounds a c
bounds_then first second = record {
  limit = second.limit ∙ first.limit;
  lens = second.lens ∙ first.lens;
  blocks = second.blocks ∙ first.blocks;
}
