-- How long a file of a flash is.
use Rattle.std.specs.Prelude.{◌≡◌, ◌⊎◌, ℕ, zero, suc, ◌<◌, ◌≤◌, ◌&&◌, Bool, true, false, max, cond, Option}
use Rattle.std.specs.Prelude.{Some, None, nat_eq}
use Rattle.std.proofs.Common.{refl, sym, ap, subst, ◌∙◌, inl, inr, ⊎_elim, arith, true≢false, eq-eqb}
use Rattle.std.proofs.lemmas.Bool.{cases_lt, eqb-true}
use Rattle.std.proofs.lemmas.Option.{same_Some}
use Rattle.flash_model.specs.Pages.{Pages}
use Rattle.flash_record.specs.PageRecord.{PageRecord}
use Rattle.flash_disk.specs.Newest.{Placed, record_at, newest, IsNewest, IsNewestOf}
use Rattle.flash_laws.proofs.Newest.{newest_is}
use Rattle.flash_disk.specs.FlashFiles.{lies_at, len_in_place, longest_below, file_len}
use Rattle.flash_disk.specs.FlashFiles.{IsFileLen}

pub both_parts : (a b : Bool) → (a && b) ≡ true → (a ≡ true) × (b ≡ true)
both_parts true true e = (refl, refl)
both_parts true false e = absurd (true≢false (sym e))
both_parts false b e = absurd (true≢false (sym e))

module _ (pages : Pages) (n file : ℕ) where
  -- the newest record of a page of the file counts in its place
  counts : (page : ℕ) (x : Placed) → newest pages file page n ≡ Some x
      → (x.place < n) × (len_in_place pages n file x.place (record_at pages x.place) ≡ x.says.len)
  counts page x is =
      let is_newest : IsNewest pages file page n x = subst (IsNewestOf pages file page n) is
      (newest_is pages file page n) in
      let parts = both_parts (nat_eq x.says.file file) (nat_eq x.says.page page) is_newest.of_page in
      let f : x.says.file ≡ file = eqb-true x.says.file file parts.0 in
      let p : x.says.page ≡ page = eqb-true x.says.page page parts.1 in
      let own : newest pages x.says.file x.says.page n ≡ Some x =
      subst (λ q. newest pages q x.says.page n ≡ Some x) (sym f)
      (subst (λ q. newest pages file q n ≡ Some x) (sym p) is) in (
        is_newest.within,
        rw is_newest.there (rw (own, eq-eqb x.says.file file f, eq-eqb x.place x.place refl) refl),
      )

  reaches : (k j : ℕ) → j < k → len_in_place pages n file j (record_at pages j) ≤ longest_below pages n file k
  reaches zero j within = absurd (omega arith)
  reaches (suc k) j within = ⊎_elim
      (λ below. let le = reaches k j below in omega arith)
      (λ past. let e : k ≡ j = omega arith in subst (λ q. len_in_place pages n file q (record_at pages q)
      ≤ max (longest_below pages n file k) (len_in_place pages n file k (record_at pages k))) e (omega arith))
      (cases_lt j k)

  -- a newest record of a page of the file says so
  abbrev Says : ℕ → Type 0
  Says len = (len ≡ 0) ⊎ ((page : ℕ) × (x : Placed) × (newest pages file page n ≡ Some x) × (len ≡ x.says.len))

  by_lies : (i : ℕ) (r : PageRecord) → record_at pages i ≡ Some r → r.file ≡ file → (best : Option Placed)
      → newest pages r.file r.page n ≡ best
      → IsNewestOf pages r.file r.page n best → lies_at i best ≡ true → Says r.len
  by_lies i r here f None is is_newest lies = absurd (true≢false (sym lies))
  by_lies i r here f (Some x) is is_newest lies = inr (
    r.page,
    x,
    subst (λ q. newest pages q r.page n ≡ Some x) f is,
    (let e : x.place ≡ i = eqb-true x.place i lies in
        let same : r ≡ x.says = same_Some r x.says (sym here ∙ (ap (record_at pages) (sym e) ∙ is_newest.there)) in
        ap (λ q. q.len) same),
  )

  by_test : (i : ℕ) (r : PageRecord) → record_at pages i ≡ Some r → (b : Bool)
      → (nat_eq r.file file && lies_at i (newest pages r.file r.page n)) ≡ b → Says (cond b r.len 0)
  by_test i r here false is = inl refl
  by_test i r here true is =
      let parts = both_parts (nat_eq r.file file) (lies_at i (newest pages r.file r.page n)) is in
      by_lies i r here (eqb-true r.file file parts.0) (newest pages r.file r.page n) refl
      (newest_is pages r.file r.page n) parts.1

  at_place : (i : ℕ) (o : Option PageRecord) → record_at pages i ≡ o → Says (len_in_place pages n file i o)
  at_place i None here = inl refl
  at_place i (Some r) here = by_test i r here (nat_eq r.file file && lies_at i (newest pages r.file r.page n)) refl

  greater : (a b : ℕ) → Says a → Says b → Says (max a b)
  greater a b says_a says_b = ⊎_elim
      (λ less. let e : b ≡ max a b = omega arith in subst Says e says_b)
      (λ more. let e : a ≡ max a b = omega arith in subst Says e says_a)
      (cases_lt a b)

  says_one : (k : ℕ) → Says (longest_below pages n file k)
  says_one zero = inl refl
  says_one (suc k) = greater (longest_below pages n file k) (len_in_place pages n file k (record_at pages k))
      (says_one k)
      (at_place k (record_at pages k) refl)

  pub file_len_is : IsFileLen pages n file (file_len pages n file)
  unfolding file_len
  file_len_is = record {
    most = λ page x is. let at = counts page x is in let le = reaches n x.place at.0 in let e = at.1 in omega arith;
    one = says_one n;
  }

  at_most : (a b : ℕ) → IsFileLen pages n file a → IsFileLen pages n file b → a ≤ b
  at_most a b is_a is_b = ⊎_elim
      (λ none. omega (arith, none))
      (λ some. let le = is_b.most some.0 some.1 some.2 in let e = some.3 in omega (arith, le, e))
      is_a.one

  -- a file has one length
  pub one_len : (len : ℕ) → IsFileLen pages n file len → len ≡ file_len pages n file
  one_len len is =
      let le = at_most len (file_len pages n file) is file_len_is in
      let ge = at_most (file_len pages n file) len file_len_is is in omega (arith, le, ge)
