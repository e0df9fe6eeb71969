-- What programming a page or erasing a block leaves of the records, whole or cut short, where no page passes its hash
-- by chance.
use Rattle.std.proofs.Common.{◌≡◌, ◌≢◌, ◌⊎◌, ℕ, ◌+◌, ◌*◌, ◌/◌, ◌%◌, ◌<◌, List, cond, refl, sym, ap, subst, ◌∙◌, inl}
use Rattle.std.proofs.Common.{inr, ⊎_elim, arith, eq-eqb}
use Rattle.std.specs.Prelude.{Option, Some, None, nat_eq}
use Rattle.std.proofs.lemmas.Bool.{cases_eq, ne_eqb, and_from, and_left, and_right}
use Rattle.std.proofs.lemmas.Option.{same_Some, none-some}
use Rattle.flash_model.specs.Pages.{Pages, blank_page, program_page, erase_block, TornPage, TornBlock, IsPlain}
use Rattle.flash_record.specs.PageRecord.{PageRecord, record_in}
use Rattle.flash_record.specs.Blank.{blank_is_none}
use Rattle.flash_record.specs.lemmas.Bodies.{record_in-plain}
use Rattle.flash_disk.specs.declared.table.FlashPage.{FlashPage}
use Rattle.flash_disk.specs.Newest.{record_at}
use Rattle.flash_disk.specs.Learnt.{number, AddsRecord}
use Rattle.flash_disk.specs.Standing.{KeepsRecords}
use Rattle.flash_disk.proofs.Learning.{record_at_place}
use Rattle.flash_disk.proofs.Standing.{is_newest_of, HasSameRecords}
use Rattle.flash_disk.proofs.Sparing.{LiesElsewhere}

-- a page is no record, or the one that it was, or the one that the call done whole leaves there
pub plain_page : (before whole left : Pages) → IsPlain before whole left → (b p : ℕ)
    → (record_in (left b p) ≡ None) ⊎ ((record_in (left b p) ≡ record_in (before b p))
    ⊎ (record_in (left b p) ≡ record_in (whole b p)))
plain_page before whole left plain b p = record_in-plain (left b p) (before b p) (whole b p) (plain b p)

-- ---- a page was programmed

-- all places but one have the records that they had, and that one has none, or this one
pub record IsTorn (old left : Pages) (i : ℕ) (r : Option PageRecord) : Type 0 where
  pub elsewhere : (j : ℕ) → j ≢ i → record_at left j ≡ record_at old j
  pub here : (record_at left i ≡ None) ⊎ (record_at left i ≡ r)

module _ (old : Pages) (block page : ℕ) where
  -- every other place has the record that it had
  pub torn_elsewhere : (left : Pages) → TornPage block page old left → (j : ℕ) → j ≢ 64 * block + page
      → record_at left j ≡ record_at old j
  torn_elsewhere left torn j apart = ap record_in (torn (j / 64) (j % 64) (⊎_elim
      (λ here. inr (λ there. apart (let e : j ≡ 64 * block + page = omega (arith, here, there) in e)))
      (λ other. inl other)
      (cases_eq (j / 64) block)))

  -- a page in which anything was left
  pub torn_page : (left : Pages) → TornPage block page old left
      → IsTorn old left (64 * block + page) (record_at left (64 * block + page))
  torn_page left torn = record { elsewhere = torn_elsewhere left torn; here = inr refl }

  module _ (bytes : List ℕ) where
    whole_page : program_page old block page bytes block page ≡ bytes
    whole_page = ap (λ t. cond t bytes (old block page))
        (and_from (nat_eq block block) (nat_eq page page) (eq-eqb block block refl) (eq-eqb page page refl))

    -- done whole it changes no more than cut short
    pub whole_torn : TornPage block page old (program_page old block page bytes)
    whole_torn b p apart = ap (λ t. cond t bytes (old b p)) (⊎_elim
        (λ other. and_left (nat_eq b block) (nat_eq p page) (ne_eqb b block other))
        (λ other. and_right (nat_eq b block) (nat_eq p page) (ne_eqb p page other))
        apart)

  module _ (small : page < 64) (blank : old block page ≡ blank_page) where
    -- a blank page has no record
    pub nothing_there : record_at old (64 * block + page) ≡ None
    nothing_there = record_at_place old block page small ∙ (ap record_in blank ∙ blank_is_none)

    torn_here : (left : Pages) (bytes : List ℕ) → IsPlain old (program_page old block page bytes) left
        → (record_at left (64 * block + page) ≡ None) ⊎ (record_at left (64 * block + page) ≡ record_in bytes)
    torn_here left bytes plain = let at = record_at_place left block page small in ⊎_elim
        (λ none. inl (at ∙ none))
        (λ some. ⊎_elim
        (λ was. inl (at ∙ (was ∙ (ap record_in blank ∙ blank_is_none))))
        (λ done. inr (at ∙ (done ∙ ap record_in (whole_page bytes))))
        some)
        (plain_page old (program_page old block page bytes) left plain block page)

    -- a blank page was programmed, which was cut short
    pub torn_program : (left : Pages) (bytes : List ℕ) → TornPage block page old left
        → IsPlain old (program_page old block page bytes) left
        → IsTorn old left (64 * block + page) (record_in bytes)
    torn_program left bytes torn plain = record {
      elsewhere = torn_elsewhere left torn;
      here =
          torn_here left bytes plain;
    }

  module _ (small : page < 64) (bytes : List ℕ) where
    -- the page has the record that was programmed
    pub whole_here : record_at (program_page old block page bytes) (64 * block + page) ≡ record_in bytes
    whole_here = record_at_place (program_page old block page bytes) block page small ∙ ap record_in (whole_page bytes)

    -- and all others have what they had
    pub whole_program : IsTorn old (program_page old block page bytes) (64 * block + page) (record_in bytes)
    whole_program = record {
      elsewhere = torn_elsewhere (program_page old block page bytes) (whole_torn bytes);
      here =
          inr whole_here;
    }

-- a record that is there is the one that was programmed
pub torn_is : (old left : Pages) (i : ℕ) (r q : PageRecord) → IsTorn old left i (Some r) → record_at left i ≡ Some q
    → q ≡ r
torn_is old left i r q torn there = ⊎_elim
    (λ none. absurd (none-some q (sym none ∙ there)))
    (λ here. same_Some q r (sym there ∙ here))
    torn.here

module _ (old left : Pages) (i : ℕ) (r : Option PageRecord) (nothing : record_at old i ≡ None)
    (torn : IsTorn old left i r) where
  -- where no record came to be none changed
  pub torn_same : record_at left i ≡ None → HasSameRecords old left
  torn_same none j = ⊎_elim
      (λ here. subst (λ k. record_at left k ≡ record_at old k) (sym here) (none ∙ sym nothing))
      (λ apart. torn.elsewhere j apart)
      (cases_eq j i)

module _ (old left : Pages) (n : ℕ) (place : FlashPage) (r : PageRecord) (small : place.page < 64)
    (within : number place < n)
    (nothing : record_at old (number place) ≡ None)
    (newer : (j : ℕ) (q : PageRecord) → j < n → record_at old j ≡ Some q → q.sequence < r.sequence) where
  -- a newer record was added, or no record changed
  pub torn_adds : IsTorn old left (number place) (Some r) → HasSameRecords old left ⊎ AddsRecord old left n place r
  torn_adds torn = ⊎_elim
      (λ none. inl (torn_same old left (number place) (Some r) nothing torn none))
      (λ here. inr (record {
        small = small;
        within = within;
        nothing = nothing;
        here = here;
        elsewhere =
            torn.elsewhere;
        newer = newer;
      }))
      torn.here

  -- a record that is there was added
  pub torn_adds_there : IsTorn old left (number place) (Some r) → (q : PageRecord)
      → record_at left (number place) ≡ Some q → AddsRecord old left n place q
  torn_adds_there torn q there = record {
    small = small;
    within = within;
    nothing = nothing;
    here = there;
    elsewhere = torn.elsewhere;
    newer = λ j p inside was. subst (λ (z : PageRecord). p.sequence < z.sequence)
        (sym (torn_is old left (number place) r q torn there)) (newer j p inside was);
  }

module _ (old : Pages) (n : ℕ) (place : FlashPage) (bytes : List ℕ) (r : PageRecord) (small : place.page < 64)
    (within : number place < n)
    (blank : old place.block place.page ≡ blank_page) (is : record_in bytes ≡ Some r)
    (newer : (j : ℕ) (q : PageRecord) → j < n → record_at old j ≡ Some q → q.sequence < r.sequence) where
  -- a newer record was to be added, which was cut short: it was, or no record changed
  pub torn_add : (left : Pages) → TornPage place.block place.page old left
      → IsPlain old (program_page old place.block place.page bytes) left
      → HasSameRecords old left ⊎ AddsRecord old left n place r
  torn_add left torn plain = torn_adds old left n place r small within
      (nothing_there old place.block place.page small blank) newer
      (subst (IsTorn old left (number place)) is (torn_program old place.block place.page small blank left bytes torn
      plain))

  -- a newer record was added
  pub whole_add : AddsRecord old (program_page old place.block place.page bytes) n place r
  whole_add = record {
    small = small;
    within = within;
    nothing = nothing_there old place.block place.page small blank;
    here = whole_here old place.block place.page small bytes ∙ is;
    elsewhere = (let whole = whole_program old place.block place.page small bytes in whole.elsewhere);
    newer = newer;
  }

module _ (old left : Pages) (n i k : ℕ) (r : PageRecord) (nothing : record_at old i ≡ None) (inside : k < n)
    (copied : record_at old k ≡ Some r) where
  -- a place without a record has none, or has a copy of one that was there
  pub copy_keeps : IsTorn old left i (Some r) → KeepsRecords old left n
  copy_keeps torn = record {
    only = λ j q within there. ⊎_elim
        (λ here. (let now : record_at left i ≡ Some q = subst (λ m. record_at left m ≡ Some q) here there in ⊎_elim
        (λ none. absurd (none-some q (sym none ∙ now)))
        (λ copy. (k, inside, copied ∙ (sym copy ∙ now)))
        torn.here))
        (λ apart. (j, within, sym (torn.elsewhere j apart) ∙ there))
        (cases_eq j i);
    stays = λ file page x found. (let is = is_newest_of old file page n x found in (
      x.place,
      is.within,
      torn.elsewhere x.place (λ here.
          none-some x.says (sym nothing ∙ subst (λ m. record_at old m ≡ Some x.says) here is.there)) ∙ is.there,
    ));
  }

module _ (old : Pages) (n k : ℕ) (place : FlashPage) (bytes : List ℕ) (r : PageRecord) (small : place.page < 64)
    (blank : old place.block place.page ≡ blank_page) (is : record_in bytes ≡ Some r) (inside : k < n)
    (copied : record_at old k ≡ Some r) where
  -- a record was to be copied, which was cut short
  pub torn_copy : (left : Pages) → TornPage place.block place.page old left
      → IsPlain old (program_page old place.block place.page bytes) left → KeepsRecords old left n
  torn_copy left torn plain = copy_keeps old left n (number place) k r
      (nothing_there old place.block place.page small blank) inside copied
      (subst (IsTorn old left (number place)) is (torn_program old place.block place.page small blank left bytes torn
      plain))

  -- a record was copied
  pub whole_copy : KeepsRecords old (program_page old place.block place.page bytes) n
  whole_copy = copy_keeps old (program_page old place.block place.page bytes) n (number place) k r
      (nothing_there old place.block place.page small blank) inside copied
      (subst (IsTorn old (program_page old place.block place.page bytes) (number place)) is
      (whole_program old place.block place.page small bytes))

-- ---- a block was erased

-- each record that is left stands where it stood, and outside the block all are left
pub record LosesIn (block : ℕ) (old left : Pages) : Type 0 where
  pub only : (j : ℕ) (q : PageRecord) → record_at left j ≡ Some q → record_at old j ≡ Some q
  pub apart : (j : ℕ) → j / 64 ≢ block → record_at left j ≡ record_at old j

module _ (old : Pages) (block : ℕ) where
  pub erased_page : (b p : ℕ) → b ≡ block → erase_block old block b p ≡ blank_page
  erased_page b p here = ap (λ t. cond t blank_page (old b p)) (eq-eqb b block here)

  -- done whole it changes no more than cut short
  pub whole_torn_block : TornBlock block old (erase_block old block)
  whole_torn_block b p other = ap (λ t. cond t blank_page (old b p)) (ne_eqb b block other)

  -- no record is left in an erased block
  pub nothing_left : (j : ℕ) → j / 64 ≡ block → record_at (erase_block old block) j ≡ None
  nothing_left j here = ap record_in (erased_page (j / 64) (j % 64) here) ∙ blank_is_none

  pub torn_only : (left : Pages) → TornBlock block old left → IsPlain old (erase_block old block) left
      → (j : ℕ) (q : PageRecord) → record_at left j ≡ Some q → record_at old j ≡ Some q
  torn_only left torn plain j q there = ⊎_elim
      (λ here. ⊎_elim
      (λ none. absurd (none-some q (sym none ∙ there)))
      (λ some. ⊎_elim
      (λ was. sym was ∙ there)
      (λ done. absurd (none-some q (sym (done ∙ nothing_left j here) ∙ there)))
      some)
      (plain_page old (erase_block old block) left plain (j / 64) (j % 64)))
      (λ other. ap record_in (sym (torn (j / 64) (j % 64) other)) ∙ there)
      (cases_eq (j / 64) block)

  -- the block was erased, which was cut short
  pub torn_erase : (left : Pages) → TornBlock block old left → IsPlain old (erase_block old block) left
      → LosesIn block old left
  torn_erase left torn plain = record {
    only = torn_only left torn plain;
    apart = λ j other. ap record_in (torn (j / 64) (j % 64) other);
  }

  -- the block was erased
  pub whole_erase : LosesIn block old (erase_block old block)
  whole_erase = record {
    only = λ j q there. ⊎_elim
        (λ here. absurd (none-some q (sym (nothing_left j here) ∙ there)))
        (λ other. ap record_in (sym (whole_torn_block (j / 64) (j % 64) other)) ∙ there)
        (cases_eq (j / 64) block);
    apart = λ j other. ap record_in (whole_torn_block (j / 64) (j % 64) other);
  }

module _ (old left : Pages) (n block : ℕ) (elsewhere : LiesElsewhere old n block) (loses : LosesIn block old left) where
  -- nothing was lost that counts
  pub erase_keeps : KeepsRecords old left n
  erase_keeps = record {
    only = λ j q within there. (j, within, loses.only j q there);
    stays = λ file page x found. (let copy = elsewhere file page x found in
        (copy.0, copy.1, loses.apart copy.0 copy.2 ∙ copy.3));
  }
