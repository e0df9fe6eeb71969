-- A block into which many entries lead: one leads into each of as many of its pages.
use Rattle.std.proofs.Common.{◌≡◌, ℕ, zero, suc, ◌+◌, ◌*◌, ◌<◌, ◌≤◌, List, [], ◌∷◌, Bool, true, false, cond, refl}
use Rattle.std.proofs.Common.{sym, ap, subst, ◌∙◌, inl, inr, ⊎_elim, arith}
use Rattle.std.specs.Prelude.{Some, nat_eq, nat_lt, ◌&&◌}
use Rattle.std.specs.List.{IsDistinct, list_any, sum_by}
use Rattle.std.specs.Map.{keys_of, values_of, lookup}
use Rattle.std.specs.HashMap.{IsUnique}
use Rattle.std.proofs.lemmas.Bool.{cases_Bool, eqb-true, ne_eqb, and_parts}
use Rattle.std.proofs.lemmas.Bool.Decides.{nat_tests}
use Rattle.std.proofs.lemmas.Option.{same_Some, none-some}
use Rattle.std.proofs.lemmas.List.Sums.{sum_by-cons}
use Rattle.flash_model.specs.Pages.{Pages}
use Rattle.flash_record.specs.PageRecord.{PageRecord}
use Rattle.flash_disk.specs.declared.table.FilePage.{FilePage}
use Rattle.flash_disk.specs.declared.table.Newest.{Newest}
use Rattle.flash_disk.specs.declared.table.Table.{Table}
use Rattle.flash_disk.specs.Newest.{record_at, places}
use Rattle.flash_disk.specs.Known.{same_page, page_of, known, load_known}
use Rattle.flash_disk.specs.Counted.{leads_into, entries_in, lies_below, copied_below, IsCountedTable}
use Rattle.flash_disk.specs.Learnt.{number, IsLed}
use Rattle.disk_model.specs.Damage.{AtLeast}
use Rattle.flash_disk.specs.Sound.{LeavesOut}
use Rattle.flash_disk.specs.Apart.{Counts, HoldsCounting}
use Rattle.flash_disk.proofs.Learning.{same_page_refl}
use Rattle.flash_disk.proofs.Lengths.{Entry, not_found, lift_by, none_passes, one_passes}
use Rattle.flash_disk.proofs.Moving.{record_of}
use Rattle.flash_disk.proofs.Holding.{leads_to}

-- ---- entries of a list whose keys differ

sum_entries : (f g : Newest → ℕ) (es : List Entry) → IsDistinct same_page (keys_of es)
    → ((key : FilePage) (e : Newest) → lookup (same_page key) es ≡ Some e → f e ≤ g e)
    → sum_by f (values_of es) ≤ sum_by g (values_of es)
unfolding IsDistinct
sum_entries f g [] distinct le = omega arith
sum_entries f g (e ∷ es) distinct le =
    let rest = sum_entries f g es distinct.1
    (λ key w there. le key w (lift_by e es distinct.0 key w there (same_page key e.0) refl)) in
    let here = le e.0 e.1 (rw (same_page_refl e.0) refl) in
    let a = sum_by-cons f e.1 (values_of es) in let b = sum_by-cons g e.1 (values_of es) in
    omega (arith, rest, here, a, b)

abbrev nothing : Newest → ℕ
nothing e = 0

sum_nothing : (vs : List Newest) → sum_by nothing vs ≡ 0
sum_nothing [] = refl
sum_nothing (v ∷ vs) = let rest = sum_nothing vs in let a = sum_by-cons nothing v vs in
    let here : nothing v ≡ 0 = refl in omega (arith, rest, a, here)

abbrev counts_as : (Newest → Bool) → Newest → ℕ
counts_as test e = cond (test e) 1 0

not_counted : (b : Bool) → b ≡ false → cond b 1 0 ≤ 0
not_counted b is = rw is (omega arith)

counted_once : (b : Bool) → cond b 1 0 ≤ 1
counted_once true = omega arith
counted_once false = omega arith

-- where none passes a test, none is counted
none_counted : (test : Newest → Bool) (es : List Entry) → IsDistinct same_page (keys_of es)
    → ((key : FilePage) (e : Newest) → lookup (same_page key) es ≡ Some e → test e ≡ false)
    → sum_by (counts_as test) (values_of es) ≡ 0
none_counted test es distinct none =
    let le = sum_entries (counts_as test) nothing es distinct
    (λ key e there. not_counted (test e) (none key e there)) in
    let zeros = sum_nothing (values_of es) in omega (arith, le, zeros)

abbrev IsSingle : (Newest → Bool) → List Entry → Type 0
IsSingle test es = (k w : FilePage) (e f : Newest) → lookup (same_page k) es ≡ Some e
    → lookup (same_page w) es ≡ Some f → test e ≡ true → test f ≡ true → k ≡ w

-- where only those of one key do, one is counted at most
one_counted : (test : Newest → Bool) (es : List Entry) → IsDistinct same_page (keys_of es) → IsSingle test es
    → sum_by (counts_as test) (values_of es) ≤ 1
unfolding IsDistinct
one_counted test [] distinct single = omega arith
one_counted test (e ∷ es) distinct single =
    let lifted = λ (key : FilePage) (w : Newest) (there : lookup (same_page key) es ≡ Some w).
    lift_by e es distinct.0 key w there (same_page key e.0) refl in
    let first : lookup (same_page e.0) (e ∷ es) ≡ Some e.1 = rw (same_page_refl e.0) refl in
    let a = sum_by-cons (counts_as test) e.1 (values_of es) in
    let here = counted_once (test e.1) in
    ⊎_elim
    (λ yes.
    (let rest = none_counted test es distinct.1 (λ key w there. ⊎_elim
    (λ passes. absurd (none-some w (sym (not_found e.0 es distinct.0)
    ∙ subst (λ (k : FilePage). lookup (same_page k) es ≡ Some w)
    (single key e.0 w e.1 (lifted key w there) first passes yes) there)))
    (λ no. no)
    (cases_Bool (test w))) in
    omega (arith, rest, a, here)))
    (λ no.
    (let rest = one_counted test es distinct.1 (λ k w f g at there one other.
    single k w f g (lifted k f at) (lifted w g there) one other) in
    let none = not_counted (test e.1) no in
    omega (arith, rest, a, none)))
    (cases_Bool (test e.1))

-- ---- pages of a block

abbrev leads_at : (block page : ℕ) → Newest → Bool
leads_at block page e = nat_eq e.place.block block && nat_eq e.place.page page

sums_ge : (f g h : Newest → ℕ) (es : List Newest) → ((e : Newest) → g e ≤ f e + h e)
    → sum_by g es ≤ sum_by f es + sum_by h es
sums_ge f g h [] le = omega arith
sums_ge f g h (e ∷ es) le =
    let rest = sums_ge f g h es le in let here = le e in
    let a = sum_by-cons f e es in let b = sum_by-cons h e es in let c = sum_by-cons g e es in
    omega (arith, rest, here, a, b, c)

at_next : (a b p q : ℕ) → cond (nat_eq a b && nat_lt p (q + 1)) 1 0
    ≤ cond (nat_eq a b && nat_lt p q) 1 0 + cond (nat_eq a b && nat_eq p q) 1 0
at_next a b p q = grind (arith, nat_tests)

all_below : (a b p : ℕ) → p < 64 → cond (nat_eq a b) 1 0 ≤ cond (nat_eq a b && nat_lt p 64) 1 0
all_below a b p small = grind (arith, nat_tests)

none_below : (a b p : ℕ) → cond (nat_eq a b && nat_lt p 0) 1 0 ≤ 0
none_below a b p = grind (arith, nat_tests)

module _ (pages : Pages) (blocks : ℕ) (table : Table) (led : IsLed pages (places blocks) table)
    (counted : IsCountedTable blocks table) (unique : IsUnique same_page table.newest) (block : ℕ)
    (within : block < blocks) where
  small : (key : FilePage) (e : Newest) → known table key ≡ Some e → e.place.page < 64
  small key e is = (leads_to pages blocks table led key e is).2.leads.small

  single : (page : ℕ) → IsSingle (leads_at block page) table.newest.entries
  single page k w e f is there one other =
      let first = record_of pages (places blocks) table led k e is in
      let second = record_of pages (places blocks) table led w f there in
      let a = and_parts (nat_eq e.place.block block) (nat_eq e.place.page page) one in
      let b = and_parts (nat_eq f.place.block block) (nat_eq f.place.page page) other in
      let e_block = eqb-true e.place.block block a.0 in
      let e_page = eqb-true e.place.page page a.1 in
      let f_block = eqb-true f.place.block block b.0 in
      let f_page = eqb-true f.place.page page b.1 in
      let same : number e.place ≡ number f.place = omega (arith, e_block, e_page, f_block, f_page) in
      let says : first.0.says ≡ second.0.says = same_Some first.0.says second.0.says
      (sym first.1.leads.there ∙ (ap (record_at pages) same ∙ second.1.leads.there)) in
      sym first.2 ∙ (ap (λ (r : PageRecord). page_of r) says ∙ second.2)

  abbrev at : ℕ → ℕ
  at page = sum_by (counts_as (leads_at block page)) (values_of table.newest.entries)

  none_yet : copied_below table block 0 ≤ 0
  none_yet =
      let le = sum_entries (lies_below block 0) nothing table.newest.entries unique
      (λ key e there. none_below e.place.block block e.place.page) in
      let zeros = sum_nothing (values_of table.newest.entries) in omega (arith, le, zeros)

  one_page : (q : ℕ) → copied_below table block (q + 1) ≤ copied_below table block q + at q
  one_page q = sums_ge (lies_below block q) (lies_below block (q + 1)) (counts_as (leads_at block q))
      (values_of table.newest.entries) (λ e. at_next e.place.block block e.place.page q)

  one_record : (q : ℕ) → at q ≤ 1
  one_record q = one_counted (leads_at block q) table.newest.entries unique (single q)

  -- where an entry leads into a page, it holds a record that counts
  led_into : (q : ℕ) → list_any (leads_at block q) (values_of table.newest.entries) ≡ true
      → Counts pages (places blocks) (64 * block + q)
  led_into q some =
      let found = one_passes (leads_at block q) table.newest.entries unique some in
      let to = leads_to pages blocks table led found.0 found.1 found.2 in
      let parts = and_parts (nat_eq found.1.place.block block) (nat_eq found.1.place.page q) found.3 in
      let block_is = eqb-true found.1.place.block block parts.0 in
      let page_is = eqb-true found.1.place.page q parts.1 in
      let here : number found.1.place ≡ 64 * block + q = omega (arith, block_is, page_is) in (
        found.0.file,
        found.0.page,
        to.0,
        to.1,
        ap (record_at pages) (sym here) ∙ to.2.leads.there,
      )

  none_into : (q : ℕ) → list_any (leads_at block q) (values_of table.newest.entries) ≡ false → at q ≡ 0
  none_into q none = none_counted (leads_at block q) table.newest.entries unique
      (λ key e there. none_passes (leads_at block q) key e table.newest.entries none there)

  -- as many pages hold one as entries lead into them
  as_many : (n k : ℕ) → k ≤ copied_below table block n
      → AtLeast (λ p. Counts pages (places blocks) (64 * block + p)) n k
  as_many n zero le = tt
  as_many zero (suc k) le = let none = none_yet in absurd (omega (arith, le, none))
  as_many (suc n) (suc k) le =
      let step : suc n ≡ n + 1 = omega arith in
      let next : copied_below table block (suc n) ≡ copied_below table block (n + 1) =
      ap (λ q. copied_below table block q) step in
      let more = one_page n in let one = one_record n in ⊎_elim
      (λ some. inl (led_into n some, as_many n k (omega (arith, le, next, more, one))))
      (λ none. let free = none_into n none in inr (as_many n (suc k) (omega (arith, le, next, more, free))))
      (cases_Bool (list_any (leads_at block n) (values_of table.newest.entries)))

  -- as many pages of a block hold one as the table counts
  pub holds_counting : (count : ℕ) → count ≤ load_known table block
      → HoldsCounting pages (places blocks) block count
  holds_counting count enough =
      let all = sum_entries (leads_into block) (lies_below block 64) table.newest.entries unique
      (λ key e there. all_below e.place.block block e.place.page (small key e there)) in
      let load = counted.counts block within in
      as_many 64 count (omega (arith, all, load, enough))

-- no entry that leads into a block is counted where there is none
pub none_lead : (table : Table) (block : ℕ) → IsUnique same_page table.newest → LeavesOut table block
    → entries_in table block ≡ 0
none_lead table block unique leaves = none_counted (λ e. nat_eq e.place.block block) table.newest.entries unique
    (λ key e there. ne_eqb e.place.block block (leaves key e there))
