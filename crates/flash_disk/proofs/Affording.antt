-- Room for the pages of a write, while its pages are written.
use Rattle.std.proofs.Common.{◌≡◌, ℕ, zero, suc, ◌+◌, ◌<◌, ◌≤◌, ◌⊎◌, Bool, true, false, cond, refl, sym, ap, subst, ◌∙◌}
use Rattle.std.proofs.Common.{inl, inr, ⊎_elim, arith, true≢false}
use Rattle.std.specs.Prelude.{Option, Some, None, is_none, is_some}
use Rattle.std.proofs.lemmas.Bool.{cases_lt}
use Rattle.flash_disk.specs.declared.table.FilePage.{FilePage}
use Rattle.flash_disk.specs.declared.table.Newest.{Newest}
use Rattle.flash_disk.specs.declared.table.Table.{Table}
use Rattle.flash_disk.specs.Known.{same_page, known, page_len}
use Rattle.flash_disk.specs.Counted.{missing}
use Rattle.flash_disk.specs.Learnt.{HasPlace}
use Rattle.flash_disk.specs.Entries.{Occupies, Affords}
use Rattle.flash_disk.proofs.Learning.{same_page_is, same_page_refl}
use Rattle.flash_disk.proofs.Entries.{occupies_known}

below_suc : (j n : ℕ) → j < suc n → (j < n) ⊎ (j ≡ n)
below_suc j n within = ⊎_elim inl (λ past. inr (let e : j ≡ n = omega arith in e)) (cases_lt j n)

none_by : (a b : Option Newest) → is_some a ≡ is_some b → is_none a ≡ is_none b
none_by None None same = refl
none_by None (Some e) same = absurd (true≢false (sym same))
none_by (Some d) None same = absurd (true≢false same)
none_by (Some d) (Some e) same = refl

none_of : (a : Option Newest) → is_some a ≡ false → is_none a ≡ true
none_of None none = refl
none_of (Some e) none = absurd (true≢false none)

not_none : (a : Option Newest) → is_some a ≡ true → is_none a ≡ false
not_none None some = absurd (true≢false (sym some))
not_none (Some e) some = refl

some_or_none : (a : Option Newest) → (is_some a ≡ true) ⊎ (is_some a ≡ false)
some_or_none None = inr refl
some_or_none (Some e) = inl refl

bool_cases : (b : Bool) → (b ≡ true) ⊎ (b ≡ false)
bool_cases true = inl refl
bool_cases false = inr refl

abbrev one_if : Bool → ℕ
one_if b = cond b 1 0

module _ (file from : ℕ) where
  abbrev at : ℕ → FilePage
  at i = record { file = file; page = from + i }

  -- pages that have entries in both tables, or in neither
  pub same_missing : (old new : Table) (n : ℕ) → ((i : ℕ) → i < n
      → is_some (known new (at i)) ≡ is_some (known old (at i)))
      → missing new file from n ≡ missing old file from n
  same_missing old new zero same = refl
  same_missing old new (suc n) same =
      let before = same_missing old new n (λ i below. same i (omega (arith, below))) in
      let here = ap one_if (none_by (known new (at n)) (known old (at n)) (same n (omega arith))) in
      omega (arith, before, here)

  -- a page without an entry is one that is missing
  one_lacks : (table : Table) (n k : ℕ) → k < n → is_none (known table (at k)) ≡ true → 1 ≤ missing table file from n
  one_lacks table zero k within none = absurd (omega (arith, within))
  one_lacks table (suc n) k within none = ⊎_elim
      (λ before. (let rest = one_lacks table n k before none in omega (arith, rest)))
      (λ here. (let one = ap one_if (ap (λ i. is_none (known table (at i))) (sym here) ∙ none) in omega (arith, one)))
      (below_suc k n within)

  -- each page in the range has a place
  pub affords_place : (table : Table) (n k page : ℕ) → Affords table file from n → k < n → from + k ≡ page
      → HasPlace table (record { file = file; page = page })
  affords_place table n k page affords within is = subst (λ p. HasPlace table (record { file = file; page = p })) is
      (⊎_elim
      (λ some. inl some)
      (λ none. (let one = one_lacks table n k within (none_of (known table (at k)) none) in
      inr (omega (arith, one, affords))))
      (some_or_none (known table (at k))))

  module _ (old new : Table) (k : ℕ) (more : Occupies old new (at k)) where
    -- the others have entries where they had
    apart : (i : ℕ) → (i ≡ k → ⊥) → is_some (known new (at i)) ≡ is_some (known old (at i))
    apart i other = ⊎_elim
        (λ same. absurd (other (let page = ap (λ (q : FilePage). q.page) (same_page_is (at k) (at i) same) in
        omega (arith, page))))
        (λ differ. more.has (at i) ∙ ap (λ b. cond b true (is_some (known old (at i)))) differ)
        (bool_cases (same_page (at k) (at i)))

    one_fewer : is_some (known old (at k)) ≡ false → (n : ℕ) → k < n
        → missing new file from n + 1 ≡ missing old file from n
    one_fewer none zero within = absurd (omega (arith, within))
    one_fewer none (suc n) within = ⊎_elim
        (λ before.
        (let rest = one_fewer none n before in
        let here = ap one_if (none_by (known new (at n)) (known old (at n))
        (apart n (λ same. omega (arith, same, before)))) in
        omega (arith, rest, here)))
        (λ last.
        (let rest = same_missing old new n (λ i below. apart i (λ same. omega (arith, same, below, last))) in
        let now = more.has (at k) ∙ ap (λ b. cond b true (is_some (known old (at k)))) (same_page_refl (at k)) in
        let has = ap one_if (ap (λ i. is_none (known new (at i))) (sym last) ∙ not_none (known new (at k)) now) in
        let lacked = ap one_if (ap (λ i. is_none (known old (at i))) (sym last) ∙ none_of (known old (at k)) none) in
        omega (arith, rest, has, lacked)))
        (below_suc k n within)

    occupies_here : (n : ℕ) → k < n → missing new file from n + page_len new ≡ missing old file from n + page_len old
    occupies_here n within = ⊎_elim
        (λ some.
        (let same = occupies_known old new (at k) some more in
        let misses = same_missing old new n (λ i below. same.has (at i)) in
        let len = same.len in
        omega (arith, misses, len)))
        (λ none.
        (let fewer = one_fewer none n within in
        let len : page_len new ≡ page_len old + 1 = more.len ∙ ap (λ b. page_len old + cond b 0 1) none in
        omega (arith, fewer, len)))
        (some_or_none (known old (at k)))

  -- when one of them is written, an entry more is a page less that has none
  pub as_many : (old new : Table) (n k page : ℕ) → k < n → from + k ≡ page
      → Occupies old new (record { file = file; page = page })
      → missing new file from n + page_len new ≡ missing old file from n + page_len old
  as_many old new n k page within is more = occupies_here old new k
      (subst (λ p. Occupies old new (record { file = file; page = p })) (sym is) more) n within

  -- and there is still room for all
  pub affords_more : (old new : Table) (n k page : ℕ) → k < n → from + k ≡ page
      → Occupies old new (record { file = file; page = page })
      → Affords old file from n → Affords new file from n
  affords_more old new n k page within is more affords =
      let many = as_many old new n k page within is more in
      let limit = more.limit in
      omega (arith, many, limit, affords)
