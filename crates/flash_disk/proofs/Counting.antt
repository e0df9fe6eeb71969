-- How many entries lead into each block when entries are put into a table.
use Rattle.std.proofs.Common.{◌≡◌, ◌≢◌, ℕ, ◌+◌, ◌-◌, ◌<◌, ◌≤◌, Bool, true, false, cond, List, length, slice_index_or}
use Rattle.std.proofs.Common.{Result, Ok, Err, refl, sym, ap, subst, ◌∙◌, arith, eq-eqb}
use Rattle.std.specs.Prelude.{Option, Some, None, nat_eq, IfOk, All, is_ok}
use Rattle.std.specs.List.{sum_by}
use Rattle.std.specs.Map.{values_of, set_value}
use Rattle.std.specs.HashMap.{HashMap, PutsEntry, get, values, hash_map_len}
use Rattle.std.proofs.lemmas.Bool.{true≢false, ne_eqb}
use Rattle.std.proofs.lemmas.Option.{same_Some}
use Rattle.std.proofs.lemmas.Map.Entries.{sum_by_puts_entry, sum_by-set_value, sum_by-remove_entry, length-values_of}
use Rattle.std.proofs.lemmas.List.Sums.{sum_by-le}
use Rattle.flash_disk.specs.declared.table.FilePage.{FilePage}
use Rattle.flash_disk.specs.declared.table.Newest.{Newest}
use Rattle.flash_disk.specs.declared.table.Table.{Table}
use Rattle.flash_disk.specs.Known.{same_page, known, page_len, limit_of, load_known, SetsEntry, SameRecords}
use Rattle.flash_disk.specs.Counted.{leads_into, had_in, entries_in, IsInside, IsCountedTable}

module _ {S : Type 0} (block : ℕ) (m n : HashMap FilePage Newest S) (key : FilePage) (w : Newest) where
  abbrev Counts : Type 0
  Counts = sum_by (leads_into block) (values n) + had_in block (get same_page m key)
      ≡ sum_by (leads_into block) (values m) + leads_into block w

  pub replaced : (v : Newest) → get same_page m key ≡ Some v → n.entries ≡ set_value (same_page key) m.entries w
      → Counts
  replaced v is written =
      let sum = sum_by-set_value (leads_into block) (same_page key) m.entries v w is in
      subst (λ es. sum_by (leads_into block) (values_of es) + had_in block (get same_page m key)
      ≡ sum_by (leads_into block) (values m) + leads_into block w) (sym written)
      (subst (λ o. sum_by (leads_into block) (values_of (set_value (same_page key) m.entries w)) + had_in block o
      ≡ sum_by (leads_into block) (values m) + leads_into block w) (sym is) sum)

  pub inserted : {E : Type 0} (result : Result (Option Newest) E) → is_ok result ≡ true
      → IfOk result (λ old. old ≡ get same_page m key)
      → IfOk result (PutsEntry same_page m n key w) → Counts
  inserted (Ok old) ok was puts = subst (λ o. sum_by (leads_into block) (values n) + had_in block o
      ≡ sum_by (leads_into block) (values m) + leads_into block w) was
      (sum_by_puts_entry (leads_into block) same_page m n key w old was puts)
  inserted (Err e) ok was puts = absurd (true≢false (sym ok))

-- an entry is one of those that are counted
pub had_le : (block : ℕ) (table : Table) (key : FilePage) → had_in block (known table key) ≤ entries_in table block
had_le block table key = omega (arith, sum_by-remove_entry (leads_into block) (same_page key) table.newest.entries)

one_at_most : (b : Bool) → cond b 1 0 ≤ 1
one_at_most true = omega arith
one_at_most false = omega arith

pub leads_le : (block : ℕ) (e : Newest) → leads_into block e ≤ 1
leads_le block e = one_at_most (nat_eq e.place.block block)

all_of : {X : Type 0} → (P : X → Type 0) → ((x : X) → P x) → (xs : List X) → All P xs
all_of P all xs = λ k d within. all (slice_index_or xs k d)

pub entries_le : (table : Table) (block : ℕ) → entries_in table block ≤ page_len table
entries_le table block =
    let vs = values table.newest in
    let sum = sum_by-le (leads_into block) 1 vs (all_of (λ e. leads_into block e ≤ 1) (leads_le block) vs) in
    omega (arith, sum, length-values_of table.newest.entries)

-- nothing of the counts changed
pub same_counted : (blocks : ℕ) (old new : Table) → IsCountedTable blocks old → SameRecords old new
    → limit_of new ≡ limit_of old
    → ((block : ℕ) → entries_in new block ≡ entries_in old block) → new.load ≡ old.load → new.blocks ≡ old.blocks
    → IsCountedTable blocks new
same_counted blocks old new counted same limit entries load blocks_are = record {
  some = counted.some;
  few = counted.few;
  blocks_are = blocks_are ∙ counted.blocks_are;
  loads = ap (λ v. length v.items) load ∙ counted.loads;
  limit = limit ∙ counted.limit;
  fits = same.fits counted.fits;
  inside = λ key e is. counted.inside key e (sym (same.known_is key) ∙ is);
  counts = λ block below. ap (λ v. slice_index_or v.items block 0) load
      ∙ (counted.counts block below ∙ sym (entries block));
}

-- two tables that differ in their counts alone
pub record Recounts (old new : Table) : Type 0 where
  pub newest : new.newest ≡ old.newest
  pub blocks : new.blocks ≡ old.blocks
  pub loads : length new.load.items ≡ length old.load.items
  pub limit : limit_of new ≡ limit_of old

pub recounts_refl : (table : Table) → Recounts table table
recounts_refl table = record { newest = refl; blocks = refl; loads = refl; limit = refl }

module _ (blocks : ℕ) (old mid less new : Table) (key : FilePage) (e : Newest) (counted : IsCountedTable blocks old)
    (inside : IsInside blocks e)
    (puts : SetsEntry old mid key e) (limit : limit_of mid ≡ limit_of old)
    (sums : (block : ℕ) → entries_in mid block + had_in block (known old key)
    ≡ entries_in old block + leads_into block e)
    (load : mid.load ≡ old.load) (blocks_are : mid.blocks ≡ old.blocks) where
  inside_by : (k : FilePage) (f : Newest) (b : Bool) → cond b (Some e) (known old k) ≡ Some f → IsInside blocks f
  inside_by k f true is = subst (IsInside blocks) (same_Some e f is) inside
  inside_by k f false is = counted.inside k f is

  pub put_counted : Recounts mid less → ((block : ℕ) → load_known less block
      ≡ load_known mid block - had_in block (known old key))
      → Recounts less new
      → (load_known less e.place.block < 4294967295 → e.place.block < length less.load.items → (block : ℕ)
      → load_known new block ≡ load_known less block + leads_into block e)
      → IsCountedTable blocks new
  put_counted first fewer second more =
      let newest : new.newest ≡ mid.newest = second.newest ∙ first.newest in
      let loads_mid : length mid.load.items ≡ blocks = ap (λ v. length v.items) load ∙ counted.loads in
      let loads_less : length less.load.items ≡ blocks = first.loads ∙ loads_mid in
      let was : (block : ℕ) → load_known mid block ≡ load_known old block =
      λ block. ap (λ v. slice_index_or v.items block 0) load in
      let same_limit : limit_of new ≡ limit_of old = second.limit ∙ (first.limit ∙ limit) in
      let here = e.place.block in
      let at_most : load_known less here < 4294967295 =
      (let a = fewer here in let b = was here in let c = counted.counts here inside.place in let d =
      entries_le old here in let f = counted.fits in
      let l = counted.limit in let few = counted.few in omega (arith, a, b, c, d, f, l, few)) in
      let within : here < length less.load.items = (let i = inside.place in omega (arith, i, loads_less)) in
      let more_now = more at_most within in
      record {
        some = counted.some;
        few = counted.few;
        blocks_are = second.blocks ∙ (first.blocks ∙ (blocks_are ∙ counted.blocks_are));
        loads = second.loads ∙ loads_less;
        limit = same_limit ∙ counted.limit;
        fits = (let fits = puts.fits counted.fits in let len : page_len new ≡ page_len mid =
            ap (λ m. hash_map_len m) newest in omega (arith, fits, len, same_limit, limit));
        inside = λ k f is. inside_by k f (same_page key k)
            (sym (puts.known_is k) ∙ (ap (λ m. get same_page m k) (sym newest) ∙ is));
        counts = λ block below.
            (let now : entries_in new block ≡ entries_in mid block =
            ap (λ m. sum_by (leads_into block) (values m)) newest in
            let a = more_now block in let b = fewer block in let c = was block in let d =
            counted.counts block below in let h = had_le block old key in let s = sums block in
            omega (arith, now, a, b, c, d, h, s));
      }

-- the counts after the old entry was left out of them
pub fewer_by : (blocks : ℕ) (old mid less : Table) (key : FilePage) (v : Newest) → known old key ≡ Some v
    → (v.place.block < length mid.load.items → (block : ℕ)
    → load_known less block ≡ load_known mid block - leads_into block v)
    → IsCountedTable blocks old → mid.load ≡ old.load → (block : ℕ)
    → load_known less block ≡ load_known mid block - had_in block (known old key)
fewer_by blocks old mid less key v is fewer counted load block =
    let loads : length mid.load.items ≡ blocks = ap (λ q. length q.items) load ∙ counted.loads in
    let within : v.place.block < length mid.load.items =
    (let i = (counted.inside key v is).place in omega (arith, i, loads)) in
    subst (λ o. load_known less block ≡ load_known mid block - had_in block o) (sym is) (fewer within block)

pub none_fewer : (old mid less : Table) (key : FilePage) → known old key ≡ None → less ≡ mid
    → (block : ℕ) → load_known less block ≡ load_known mid block - had_in block (known old key)
none_fewer old mid less key none same block = subst (λ o. load_known less block ≡ load_known mid block - had_in block o)
    (sym none)
    (let e : load_known less block ≡ load_known mid block = ap (λ t. load_known t block) same in omega (arith, e))

-- an entry that leads into another block leaves no more in this one
pub put_no_more : (old new : Table) (key : FilePage) (e : Newest) (block : ℕ) → e.place.block ≢ block
    → entries_in new block + had_in block (known old key) ≡ entries_in old block + leads_into block e
    → entries_in new block ≤ entries_in old block
put_no_more old new key e block apart sum =
    let zero : leads_into block e ≡ 0 = ap (λ b. cond b 1 0) (ne_eqb e.place.block block apart) in
    omega (arith, sum, zero)

-- one that led into the block and leads into another leaves one less
pub put_one_less : (old new : Table) (key : FilePage) (was e : Newest) (block : ℕ) → known old key ≡ Some was
    → was.place.block ≡ block → e.place.block ≢ block
    → entries_in new block + had_in block (known old key) ≡ entries_in old block + leads_into block e
    → entries_in new block + 1 ≡ entries_in old block
put_one_less old new key was e block is at apart sum =
    let zero : leads_into block e ≡ 0 = ap (λ b. cond b 1 0) (ne_eqb e.place.block block apart) in
    let one : had_in block (known old key) ≡ 1 = ap (had_in block) is
    ∙ ap (λ b. cond b 1 0) (eq-eqb was.place.block block at) in
    omega (arith, sum, zero, one)

-- where an entry leads into a block, one is counted
pub one_leads : (table : Table) (key : FilePage) (e : Newest) (block : ℕ) → known table key ≡ Some e
    → e.place.block ≡ block → 1 ≤ entries_in table block
one_leads table key e block is at =
    let le = had_le block table key in
    let one : had_in block (known table key) ≡ 1 = ap (had_in block) is
    ∙ ap (λ b. cond b 1 0) (eq-eqb e.place.block block at) in
    omega (arith, le, one)
