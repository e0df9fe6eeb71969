-- Some block other than the spare one has room for a record: not all of them can have a whole block of the entries.
use Rattle.std.proofs.Common.{◌≡◌, ◌≢◌, ◌⊎◌, ℕ, zero, suc, ◌+◌, ◌*◌, ◌<◌, ◌≤◌, Bool, true, false, cond, List, [], ◌∷◌}
use Rattle.std.proofs.Common.{length, vec_len, Result, Ok, Err, OnErr, refl, sym, ap, subst, ⊎_elim, arith}
use Rattle.std.specs.Prelude.{Some, is_ok, unwrap_or, option_map, nat_eq, nat_lt, ◌&&◌}
use Rattle.std.specs.List.{sum_by}
use Rattle.std.specs.HashMap.{values}
use Rattle.std.proofs.lemmas.Bool.{true≢false, cases_lt, cases_eq}
use Rattle.std.proofs.lemmas.Bool.Decides.{nat_tests}
use Rattle.std.proofs.lemmas.Map.Entries.{length-values_of, sum_by-remove_entry}
use Rattle.std.proofs.lemmas.List.Sums.{sum_by-cons, sum_by-le-sum_by}
use Rattle.flash_disk.specs.declared.table.FilePage.{FilePage}
use Rattle.flash_disk.specs.declared.table.Newest.{Newest}
use Rattle.flash_disk.specs.declared.table.Table.{Table}
use Rattle.flash_disk.specs.declared.layer.LayerState.{LayerState}
use Rattle.flash_disk.specs.Known.{same_page, known, load_known}
use Rattle.flash_disk.specs.Counted.{leads_into, entries_in, lies_below, copied_below, IsCountedTable}

-- ---- sums over blocks

abbrev sum_below : (ℕ → ℕ) → ℕ → ℕ
sum_below f zero = 0
sum_below f (suc n) = sum_below f n + f n

one_block : (block n : ℕ) → sum_below (λ b. cond (nat_eq block b) 1 0) n ≤ cond (nat_lt block n) 1 0
one_block block zero = omega arith
one_block block (suc n) = let before = one_block block n in grind (arith, nat_tests)

nothing_below : (n : ℕ) → sum_below (λ b. sum_by (leads_into b) []) n ≤ 0
nothing_below zero = omega arith
nothing_below (suc n) = let before = nothing_below n in omega (arith, before)

one_more : (e : Newest) (es : List Newest) (n : ℕ)
    → sum_below (λ b. sum_by (leads_into b) (e ∷ es)) n ≡ sum_below (λ b. leads_into b e) n
    + sum_below (λ b. sum_by (leads_into b) es) n
one_more e es zero = refl
one_more e es (suc n) =
    let before = one_more e es n in let here = sum_by-cons (leads_into n) e es in
    omega (arith, before, here)

below_one : (b : Bool) → cond b 1 0 ≤ 1
below_one true = omega arith
below_one false = omega arith

-- all blocks together have no more entries than there are
spread : (es : List Newest) (n : ℕ) → sum_below (λ b. sum_by (leads_into b) es) n ≤ length es
spread [] n = nothing_below n
spread (e ∷ es) n =
    let rest = spread es n in let more = one_more e es n in
    let one : sum_below (λ b. leads_into b e) n ≤ cond (nat_lt e.place.block n) 1 0 = one_block e.place.block n in
    let most = below_one (nat_lt e.place.block n) in
    omega (arith, rest, more, one, most)

all_heavy : (f : ℕ → ℕ) (n : ℕ) → ((b : ℕ) → b < n → 64 ≤ f b) → 64 * n ≤ sum_below f n
all_heavy f zero heavy = omega arith
all_heavy f (suc n) heavy =
    let before = all_heavy f n (λ b below. heavy b (omega (arith, below))) in let here = heavy n (omega arith) in
    omega (arith, before, here)

others_heavy : (f : ℕ → ℕ) (spare n : ℕ) → ((b : ℕ) → b < n → b ≢ spare → 64 ≤ f b) → 64 * n ≤ sum_below f n + 64
others_heavy f spare zero heavy = omega arith
others_heavy f spare (suc n) heavy = ⊎_elim
    (λ same.
    (let before = all_heavy f n (λ b below. heavy b (omega (arith, below)) (λ at. omega (arith, at, same, below))) in
    omega (arith, before)))
    (λ apart.
    (let before = others_heavy f spare n (λ b below. heavy b (omega (arith, below))) in let here =
    heavy n (omega arith) apart in omega (arith, before, here)))
    (cases_eq n spare)

-- a block has fewer entries than a block has pages if it is the lightest but for the spare one, or has been seen to
pub light_enough : (blocks : ℕ) (table : Table) (spare lightest : ℕ) → IsCountedTable blocks table
    → (lightest ≢ spare → lightest < table.blocks)
    → ((b : ℕ) → b < table.blocks → b ≢ spare → (lightest ≢ spare)
    × ((load_known table lightest < 64) ⊎ (load_known table lightest ≤ load_known table b)))
    → (lightest ≢ spare) × (lightest < blocks) × (entries_in table lightest < 64)
light_enough blocks table spare lightest counted within least =
    let same = counted.blocks_are in
    let some = counted.some in
    let inside : (b : ℕ) → b < blocks → b < table.blocks = λ b below. (omega (arith, below, same)) in
    let other : lightest ≢ spare = ⊎_elim
    (λ first. (least 1 (inside 1 (omega (arith, some))) (λ one. omega (arith, one, first))).0)
    (λ later. (least 0 (inside 0 (omega (arith, some))) (λ none. later (sym none))).0)
    (cases_eq spare 0) in
    let below : lightest < blocks = (let w = within other in omega (arith, w, same)) in (
      other,
      below,
      ⊎_elim
          (λ light. light)
          (λ heavy.
          (let all = others_heavy (entries_in table) spare blocks (λ b less apart.
          (let mine = counted.counts lightest below in let its = counted.counts b less in ⊎_elim
          (λ light. absurd (omega (arith, light, mine, heavy)))
          (λ le. omega (arith, le, mine, its, heavy))
          (least b (inside b less) apart).1)) in
          let sum : sum_below (entries_in table) blocks ≤ length (values table.newest) =
          spread (values table.newest) blocks in
          let long = length-values_of table.newest.entries in
          let fits = counted.fits in let limit = counted.limit in
          absurd (omega (arith, all, sum, long, fits, limit, some))))
          (cases_lt (entries_in table lightest) 64),
    )

-- ---- what was copied out of a block

sums_le : (f h g : Newest → ℕ) (es : List Newest) → ((e : Newest) → f e + h e ≤ g e)
    → sum_by f es + sum_by h es ≤ sum_by g es
sums_le f h g [] le = omega arith
sums_le f h g (e ∷ es) le =
    let rest = sums_le f h g es le in let here = le e in
    let a = sum_by-cons f e es in let b = sum_by-cons h e es in let c = sum_by-cons g e es in
    omega (arith, rest, here, a, b, c)

abbrev lies_at : (block page : ℕ) → Newest → ℕ
lies_at block page e = cond (nat_eq e.place.block block && nat_eq e.place.page page) 1 0

below_next : (a b p q : ℕ) → cond (nat_eq a b && nat_lt p q) 1 0 + cond (nat_eq a b && nat_eq p q) 1 0
    ≤ cond (nat_eq a b && nat_lt p (q + 1)) 1 0
below_next a b p q = grind (arith, nat_tests)

below_all : (a b p q : ℕ) → cond (nat_eq a b && nat_lt p q) 1 0 ≤ cond (nat_eq a b) 1 0
below_all a b p q = grind (arith, nat_tests)

below_later : (a b p q : ℕ) → cond (nat_eq a b && nat_lt p q) 1 0 ≤ cond (nat_eq a b && nat_lt p (q + 1)) 1 0
below_later a b p q = grind (arith, nat_tests)

lies_here : (a b p q : ℕ) → a ≡ b → p ≡ q → 1 ≤ cond (nat_eq a b && nat_eq p q) 1 0
lies_here a b p q block page = grind (arith, nat_tests)

-- an entry that leads into the next page is one more
pub copied_more : (table : Table) (block page : ℕ) (key : FilePage) (e : Newest) → known table key ≡ Some e
    → e.place.block ≡ block → e.place.page ≡ page
    → copied_below table block page + 1 ≤ copied_below table block (page + 1)
copied_more table block page key e is here at =
    let es = values table.newest in
    let sums = sums_le (lies_below block page) (lies_at block page) (lies_below block (page + 1)) es
    (λ f. below_next f.place.block block f.place.page page) in
    let removed = sum_by-remove_entry (lies_at block page) (same_page key) table.newest.entries in
    let weight : unwrap_or (option_map (lies_at block page) (known table key)) 0 ≡ lies_at block page e =
    ap (λ o. unwrap_or (option_map (lies_at block page) o) 0) is in
    let one : 1 ≤ lies_at block page e = lies_here e.place.block block e.place.page page here at in
    let has : 1 ≤ sum_by (lies_at block page) es = omega (arith, removed, weight, one) in
    omega (arith, sums, has)

pub copied_later : (table : Table) (block page : ℕ) → copied_below table block page
    ≤ copied_below table block (page + 1)
copied_later table block page = sum_by-le-sum_by (lies_below block page) (lies_below block (page + 1))
    (values table.newest) (λ e. below_later e.place.block block e.place.page page)

pub copied_in : (table : Table) (block page : ℕ) → copied_below table block page ≤ entries_in table block
copied_in table block page = sum_by-le-sum_by (lies_below block page) (leads_into block) (values table.newest)
    (λ e. below_all e.place.block block e.place.page page)

pub few_same : (s u : LayerState) (block page : ℕ) → u ≡ s → vec_len s.moved ≤ copied_below s.table block page
    → vec_len u.moved ≤ copied_below s.table block (page + 1)
few_same s u block page same few =
    let moved : vec_len u.moved ≡ vec_len s.moved = ap (λ q. vec_len q.moved) same in
    let later = copied_later s.table block page in omega (arith, moved, later, few)

pub few_more : (table : Table) (block page : ℕ) (key : FilePage) (e : Newest) → known table key ≡ Some e
    → e.place.block ≡ block → e.place.page ≡ page
    → (n m : ℕ) → n ≤ copied_below table block page → m ≤ n + 1 → m ≤ copied_below table block (page + 1)
few_more table block page key e is here at n m few more = let one =
    copied_more table block page key e is here at in omega (arith, one, few, more)

-- what an error says
pub of_err : {T E P : Type 0} → (result : Result T E) → is_ok result ≡ false → OnErr result P → P
of_err (Ok x) failed says = absurd (true≢false failed)
of_err (Err e) failed says = says

-- one page more of the block was seen to
pub fewer_copied : (start s u : LayerState) (block page : ℕ) → s.table ≡ start.table
    → vec_len s.moved ≤ copied_below start.table block page
    → (vec_len s.moved ≤ copied_below s.table block page → vec_len u.moved ≤ copied_below s.table block (page + 1))
    → vec_len u.moved ≤ copied_below start.table block (page + 1)
fewer_copied start s u block page same few next =
    subst (λ t. vec_len u.moved ≤ copied_below t block (page + 1)) same
    (next (subst (λ t. vec_len s.moved ≤ copied_below t block page) (sym same) few))
