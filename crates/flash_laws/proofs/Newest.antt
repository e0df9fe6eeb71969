-- That the newest record of a page is the one with the greatest number, and of those the first.
use Rattle.std.specs.Prelude.{◌≡◌, ◌⊎◌, ℕ, zero, suc, ◌<◌, ◌≤◌, Bool, true, false, cond, Option, Some, None, nat_lt}
use Rattle.std.proofs.Common.{refl, sym, ap, subst, ◌∙◌, inl, inr, ⊎_elim, arith, true≢false}
use Rattle.std.proofs.lemmas.Bool.{ltb-true, ltb-false, cases_lt}
use Rattle.std.proofs.lemmas.Option.{same_Some, none-some}
use Rattle.flash_model.specs.Pages.{Pages}
use Rattle.flash_record.specs.PageRecord.{PageRecord}
use Rattle.flash_disk.specs.Newest.{Placed, record_at, is_of, newer, with_record, newest, IsNewest, IsNewestOf}

below_suc : (j n : ℕ) → j < suc n → (j < n) ⊎ (j ≡ n)
below_suc j n within = ⊎_elim inl (λ past. inr (let e : j ≡ n = omega arith in e)) (cases_lt j n)

module _ (pages : Pages) (file page n : ℕ) where
  abbrev placed : PageRecord → Placed
  placed r = record { place = n; says = r }

  -- place n has no record of the page
  abbrev Other : Type 0
  Other = (r : PageRecord) → record_at pages n ≡ Some r → is_of file page r ≡ true → ⊥

  kept : Other → (best : Option Placed) → IsNewestOf pages file page n best → IsNewestOf pages file page (suc n) best
  kept other None none = λ j r within is of_page. ⊎_elim
      (λ below. none j r below is of_page)
      (λ last. other r (subst (λ k. record_at pages k ≡ Some r) last is) of_page)
      (below_suc j n within)
  kept other (Some x) is_newest = record {
    of_page = is_newest.of_page;
    within = (let lt = is_newest.within in omega arith);
    there = is_newest.there;
    most = λ j r within is of_page. ⊎_elim
        (λ below. is_newest.most j r below is of_page)
        (λ last. absurd (other r (subst (λ k. record_at pages k ≡ Some r) last is) of_page))
        (below_suc j n within);
    first = is_newest.first;
  }

  taken : (r : PageRecord) → record_at pages n ≡ Some r → is_of file page r ≡ true
      → ((j : ℕ) (q : PageRecord) → j < n → record_at pages j ≡ Some q → is_of file page q ≡ true
      → q.sequence < r.sequence)
      → IsNewest pages file page (suc n) (placed r)
  taken r here of_page less = record {
    of_page = of_page;
    within = omega arith;
    there = here;
    most = λ j q within is of_q. ⊎_elim
        (λ below. (let lt = less j q below is of_q in omega arith))
        (λ last. (let same : r ≡ q = same_Some r q (sym here ∙ subst (λ k. record_at pages k ≡ Some q) last is) in
        let e : r.sequence ≡ q.sequence = ap (λ z. z.sequence) same in omega arith))
        (below_suc j n within);
    first = less;
  }

  stays : (r : PageRecord) → record_at pages n ≡ Some r → (x : Placed) → IsNewest pages file page n x
      → r.sequence ≤ x.says.sequence
      → IsNewest pages file page (suc n) x
  stays r here x is_newest less = record {
    of_page = is_newest.of_page;
    within = (let lt = is_newest.within in omega arith);
    there = is_newest.there;
    most = λ j q within is of_q. ⊎_elim
        (λ below. is_newest.most j q below is of_q)
        (λ last. (let same : r ≡ q = same_Some r q (sym here ∙ subst (λ k. record_at pages k ≡ Some q) last is) in
        let e : r.sequence ≡ q.sequence = ap (λ z. z.sequence) same in omega arith))
        (below_suc j n within);
    first = is_newest.first;
  }

  by_number : (r : PageRecord) → record_at pages n ≡ Some r → is_of file page r ≡ true → (x : Placed)
      → IsNewest pages file page n x
      → (b : Bool) → nat_lt x.says.sequence r.sequence ≡ b
      → IsNewestOf pages file page (suc n) (cond b (Some (placed r)) (Some x))
  by_number r here of_page x is_newest true less = taken r here of_page
      (λ j q within is of_q. (let most = is_newest.most j q within is of_q in let lt =
      ltb-true x.says.sequence r.sequence less in omega arith))
  by_number r here of_page x is_newest false more = stays r here x is_newest (ltb-false x.says.sequence r.sequence more)

  by_page : (r : PageRecord) → record_at pages n ≡ Some r → (best : Option Placed) → IsNewestOf pages file page n best
      → (b : Bool) → is_of file page r ≡ b → IsNewestOf pages file page (suc n) (cond b (newer best (placed r)) best)
  by_page r here best is_newest false other = kept
      (λ q is of_q. true≢false (sym of_q ∙ (ap (is_of file page) (same_Some q r (sym is ∙ here)) ∙ other))) best
      is_newest
  by_page r here None none true of_page = taken r here of_page (λ j q within is of_q. absurd (none j q within is of_q))
  by_page r here (Some x) is_newest true of_page = by_number r here of_page x is_newest
      (nat_lt x.says.sequence r.sequence) refl

  step : (o : Option PageRecord) → record_at pages n ≡ o → (best : Option Placed) → IsNewestOf pages file page n best
      → IsNewestOf pages file page (suc n) (with_record file page n o best)
  step None here best is_newest = kept (λ q is of_q. none-some q (sym here ∙ is)) best is_newest
  step (Some r) here best is_newest = by_page r here best is_newest (is_of file page r) refl

pub newest_is : (pages : Pages) (file page n : ℕ) → IsNewestOf pages file page n (newest pages file page n)
newest_is pages file page zero = λ j r within is of_page. omega arith
newest_is pages file page (suc n) = step pages file page n (record_at pages n) refl (newest pages file page n)
    (newest_is pages file page n)
