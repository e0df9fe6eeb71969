-- The greatest number of a record so far, when one place more is learnt.
use Rattle.std.proofs.Common.{◌≡◌, ℕ, suc, ◌+◌, Result, Ok, Err, OnOk, sym, ap, subst, ◌∙◌, inl, inr, ⊎_elim, arith}
use Rattle.std.proofs.Common.{add-one}
use Rattle.std.specs.Prelude.{Some, max}
use Rattle.std.proofs.lemmas.Bool.{cases_lt}
use Rattle.std.proofs.lemmas.Option.{same_Some}
use Rattle.flash_model.specs.Pages.{Pages}
use Rattle.flash_record.specs.PageRecord.{PageRecord}
use Rattle.flash_disk.specs.Newest.{record_at}
use Rattle.flash_disk.specs.Learnt.{IsTop}
use Rattle.flash_disk.proofs.Learning.{below_suc}

-- what holds in any case holds where there is a value
pub on_ok : {T E P : Type 0} (r : Result T E) → P → OnOk r P
on_ok (Ok x) holds = holds
on_ok (Err e) holds = tt

-- before the first place is learnt it is 0
pub top_of_none : (pages : Pages) (top : ℕ) → top ≡ 0 → IsTop pages 0 top
top_of_none pages top is = record { most = λ j q within here. absurd (omega (arith, within)); one = inl is }

module _ (pages : Pages) (n top : ℕ) (is : IsTop pages n top) where
  -- the place has this record
  pub top_taken : (r : PageRecord) → record_at pages n ≡ Some r → IsTop pages (suc n) (max top r.sequence)
  top_taken r here = record {
    most = λ j q within there. ⊎_elim
        (λ below. (let le = is.most j q below there in omega (arith, le)))
        (λ last. (let same : q.sequence ≡ r.sequence = ap (λ z. z.sequence)
        (same_Some q r (sym (subst (λ k. record_at pages k ≡ Some q) last there) ∙ here)) in
        omega (arith, same)))
        (below_suc j n within);
    one = ⊎_elim
        (λ less. inr (n, r, omega arith, here, omega (arith, less)))
        (λ more. ⊎_elim
        (λ none. inl (omega (arith, more, none)))
        (λ some. inr (
          some.0,
          some.1,
          (let lt = some.2 in omega (arith, lt)),
          some.3,
          (let same = some.4 in omega (arith, more, same)),
        ))
        is.one)
        (cases_lt top r.sequence);
  }

  -- and this is the number of it or of those before, whichever is greater
  pub next_top : (r : PageRecord) → record_at pages n ≡ Some r → (next : ℕ) → next ≡ max top r.sequence
      → IsTop pages (n + 1) next
  next_top r here next same = rw (add-one n) (subst (IsTop pages (suc n)) (sym same) (top_taken r here))
