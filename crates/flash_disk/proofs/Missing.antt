-- How many pages of a file have no entry, counted page by page.
use Rattle.std.proofs.Common.{◌≡◌, ℕ, suc, ◌+◌, ◌-◌, ◌≤◌, cond, refl, sym, ap, subst, ◌∙◌, arith}
use Rattle.std.specs.Prelude.{Bool, true, false, Option, Some, None, is_none, is_some, not, nat_le, IsTrue}
use Rattle.std.proofs.lemmas.Bool.{true≢false}
use Rattle.std.proofs.lemmas.Bool.Decides.{nat_tests}
use Rattle.flash_disk.specs.declared.table.FilePage.{FilePage}
use Rattle.flash_disk.specs.declared.table.Newest.{Newest}
use Rattle.flash_disk.specs.declared.table.Table.{Table}
use Rattle.flash_disk.specs.Known.{known}
use Rattle.flash_disk.specs.Counted.{missing}

none_is : (none : Bool) (found : Option Newest) → is_some found ≡ not none → none ≡ is_none found
none_is true None is = refl
none_is true (Some e) is = absurd (true≢false is)
none_is false None is = absurd (true≢false (sym is))
none_is false (Some e) is = refl

-- the test of the room for them
pub fits_in : (new room misses limit len : ℕ) → misses ≡ new → room ≡ limit - len
    → (IsTrue (nat_le new room) → misses ≤ limit - len) × (misses ≤ limit - len → IsTrue (nat_le new room))
fits_in new room misses limit len same is = (λ fits. grind (arith, nat_tests), λ less. grind (arith, nat_tests))

module _ (table : Table) (file from page n m : ℕ) (next : m ≡ suc n) (here : from + n ≡ page) where
  abbrev key : FilePage
  key = record { file = file; page = page }

  more : missing table file from m ≡ missing table file from n + cond (is_none (known table key)) 1 0
  more = subst (λ q. missing table file from q ≡ missing table file from n + cond (is_none (known table key)) 1 0)
      (sym next)
      (ap (λ p. let k : FilePage = record { file = file; page = p } in
      missing table file from n + cond (is_none (known table k)) 1 0) here)

  -- the page has no entry, or has one
  pub one_missing : (none : Bool) (found : Option Newest) → is_some found ≡ not none → found ≡ known table key
      → missing table file from m ≡ missing table file from n + cond none 1 0
  one_missing none found is same = more ∙ ap (λ b. missing table file from n + cond b 1 0)
      (sym (none_is none found is ∙ ap is_none same))
