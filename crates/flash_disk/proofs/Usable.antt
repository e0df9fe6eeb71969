-- Which records are needed, and whether a flash can be a disk.
use Rattle.std.proofs.Common.{◌≡◌, ℕ, zero, suc, ◌+◌, ◌-◌, ◌*◌, ◌%◌, ◌<◌, ◌≤◌, Bool, true, false, refl, sym, ap, subst}
use Rattle.std.proofs.Common.{◌∙◌, true≢false, ⊎_elim, arith}
use Rattle.std.specs.Prelude.{Option, Some, None, is_some, IsTrue, ◌↔◌}
use Rattle.std.proofs.lemmas.Bool.{cases_lt}
use Rattle.std.proofs.lemmas.Option.{same_Some, none-some}
use Rattle.flash_model.specs.Pages.{Pages}
use Rattle.flash_record.specs.PageRecord.{PageRecord}
use Rattle.flash_disk.specs.declared.table.FlashPage.{FlashPage}
use Rattle.flash_disk.specs.declared.table.Newest.{Newest}
use Rattle.flash_disk.specs.declared.table.Table.{Table}
use Rattle.flash_disk.specs.Newest.{Placed, record_at, newest, page_count, IsCopyOf, IsNewest, IsNewestOf, IsNeeded}
use Rattle.flash_disk.specs.Newest.{NeedsPlace, IsSpare, places, page_limit, FindsSpare, IsUsable}
use Rattle.flash_disk.proofs.NewestLaws.{newest_is}
use Rattle.flash_disk.specs.Known.{page_of, known, limit_of}
use Rattle.flash_disk.specs.Learnt.{number, TwinSays, Learns, LearnsOf, HasLearnt, LearnsNext, LearnsAll}
use Rattle.flash_disk.proofs.Learning.{best_of}

-- more places have no fewer pages
pub more_pages : (pages : Pages) (k m limit : ℕ) → limit < page_count pages m → limit < page_count pages (k + m)
more_pages pages zero m limit less = let e : zero + m ≡ m = omega arith in rw e less
more_pages pages (suc k) m limit less = let e : suc k + m ≡ suc (k + m) = omega arith in
    rw e (let less' = more_pages pages k m limit less in omega arith)

pub up_to : (pages : Pages) (m n limit : ℕ) → m ≤ n → limit < page_count pages m → limit < page_count pages n
up_to pages m n limit le less = let e : (n - m) + m ≡ n =
    omega arith in subst (λ k. limit < page_count pages k) e (more_pages pages (n - m) m limit less)

pub some_not_none : (twin : Option FlashPage) → is_some twin ≡ true → twin ≡ None → ⊥
some_not_none None some none = true≢false (sym some)
some_not_none (Some place) some none = none-some place (sym none)

pub not_some : (twin : Option FlashPage) → is_some twin ≡ false → twin ≡ None
not_some None none = refl
not_some (Some place) none = absurd (true≢false none)

module _ (pages : Pages) (n : ℕ) where
  needed_is : (x : Placed) → IsNeeded pages n x → IsNewest pages x.says.file x.says.page n x
  needed_is x needed = subst (IsNewestOf pages x.says.file x.says.page n) needed.newest_is
      (newest_is pages x.says.file x.says.page n)

  -- a place without a record
  pub none_needed : (i : ℕ) → record_at pages i ≡ None → NeedsPlace pages n i → ⊥
  none_needed i empty (x, needed, at) = none-some x.says
      (sym empty ∙ (ap (record_at pages) (sym at) ∙ (needed_is x needed).there))

  module _ (i : ℕ) (r : PageRecord) (here : record_at pages i ≡ Some r) where
    says_here : (x : Placed) → IsNeeded pages n x → x.place ≡ i → x.says ≡ r
    says_here x needed at = same_Some x.says r (sym (needed_is x needed).there ∙ (ap (record_at pages) at ∙ here))

    newest_here : (x : Placed) → IsNeeded pages n x → x.place ≡ i → newest pages r.file r.page n ≡ Some x
    newest_here x needed at = subst (λ q. newest pages q.file q.page n ≡ Some x) (says_here x needed at)
        needed.newest_is

    nothing : (b : Option Placed) → b ≡ newest pages r.file r.page n → (k : Option Newest) → k ≡ None
        → LearnsOf pages n k b → b ≡ None
    nothing None is k none says = refl
    nothing (Some x) is k none says = absurd (subst (λ z. LearnsOf pages n z (Some x)) none says)

    -- a record of whose page nothing is known
    pub unknown_needed : (table : Table) → HasLearnt pages n table → known table (page_of r) ≡ None
        → NeedsPlace pages n i → ⊥
    unknown_needed table learnt none (x, needed, at) = none-some x
        (sym (nothing (newest pages r.file r.page n) refl (known table (page_of r)) none (learnt.says (page_of r)))
        ∙ newest_here x needed at)

    module _ (table : Table) (e : Newest) (learnt : HasLearnt pages n table)
        (known_is : known table (page_of r) ≡ Some e) where
      abbrev found : (x : Placed) × (newest pages r.file r.page n ≡ Some x) × Learns pages n e x
          × IsNewest pages r.file r.page n x
      found = best_of pages n r table e learnt known_is

      alone : (twin : Option FlashPage) → e.twin ≡ twin → twin ≡ None → (j : ℕ) → IsCopyOf pages n found.0 j → ⊥
      alone twin is none = subst (TwinSays pages n found.0) (is ∙ none) found.2.twin

      pub small : e.place.page < 64
      small = found.2.leads.small

      pub is_needed : e.twin ≡ None → number e.place ≡ i → NeedsPlace pages n i
      is_needed none at = (
        found.0,
        record {
          newest_is = subst (λ q. newest pages q.file q.page n ≡ Some found.0)
              (same_Some r found.0.says (sym here ∙ (ap (record_at pages) (sym at ∙ found.2.place) ∙ found.3.there)))
              found.1;
          alone = alone e.twin refl none;
        },
        sym found.2.place ∙ at,
      )

      pub needed_place : NeedsPlace pages n i → number e.place ≡ i
      needed_place (x, needed, at) = found.2.place ∙ (ap (λ z. z.place)
          (same_Some found.0 x (sym found.1 ∙ newest_here x needed at)) ∙ at)

      no_twin : (x : Placed) → found.0 ≡ x → IsNeeded pages n x → (twin : Option FlashPage)
          → TwinSays pages n found.0 twin
          → twin ≡ None
      no_twin x same needed None says = refl
      no_twin x same needed (Some place) says = absurd (needed.alone (number place)
          (subst (λ z. IsCopyOf pages n z (number place)) same says.1))

      pub needed_alone : NeedsPlace pages n i → e.twin ≡ None
      needed_alone (x, needed, at) = no_twin x (same_Some found.0 x (sym found.1 ∙ newest_here x needed at)) needed
          e.twin found.2.twin

  -- a block of which no place holds a needed record is spare
  pub spare_block : (block : ℕ) → ((p : ℕ) → p < 64 → NeedsPlace pages n (64 * block + p) → ⊥) → IsSpare pages n block
  spare_block block none x needed at = none (x.place % 64) (omega arith)
      (x, needed, (let e : x.place ≡ 64 * block + x.place % 64 = omega (arith, at) in e))

-- what the opening says of a flash
pub usable : (pages : Pages) (blocks : ℕ) (table : Table) (spare : ℕ) → limit_of table ≡ page_limit blocks
    → HasLearnt pages (places blocks) table
    → FindsSpare pages blocks spare true → IsUsable pages blocks
usable pages blocks table spare limit learnt finds = record {
  fits = (let count = learnt.count in let fits = learnt.fits in omega (arith, count, fits, limit));
  block = spare;
  within = finds.0;
  spare = finds.1;
}

-- what a call that saw the same flash and table says
module _ (pages seen : Pages) (same : seen ≡ pages) where
  pub learnt_there : (n : ℕ) (table : Table) → HasLearnt pages n table → HasLearnt seen n table
  learnt_there n table learnt = subst (λ q. HasLearnt q n table) (sym same) learnt

  pub next_full : (n m limit : ℕ) (old new : Table) (done : Bool) → done ≡ false → limit_of old ≡ limit
      → LearnsNext seen n old new done → n ≤ m
      → limit < page_count pages m
  next_full n m limit old new done fails limit_is learns le = up_to pages n m limit le
      (subst (λ l. l < page_count pages n) limit_is (subst (λ q. limit_of old < page_count q n) same
      (subst (LearnsNext seen n old new) fails learns)))

  pub all_full : (n m limit' limit : ℕ) (table : Table) (done : Bool) → done ≡ false → limit' ≡ limit
      → LearnsAll seen n limit' table done → n ≤ m
      → limit < page_count pages m
  all_full n m limit' limit table done fails limit_is learns le = up_to pages n m limit le
      (subst (λ l. l < page_count pages n) limit_is (subst (λ q. limit' < page_count q n) same
      (subst (LearnsAll seen n limit' table) fails learns)))

  module _ (b b' : ℕ) (blocks_same : b' ≡ b) (t t' : Table) (table_same : t' ≡ t) where
    pub known_there : HasLearnt pages (places b) t → HasLearnt seen (places b') t'
    known_there learnt = subst (λ q. HasLearnt q (places b') t') (sym same)
        (subst (λ k. HasLearnt pages (places k) t') (sym blocks_same)
        (subst (HasLearnt pages (places b)) (sym table_same) learnt))

    pub not_needed : (i : ℕ) (done : Bool) → done ≡ false → (IsTrue done ↔ NeedsPlace seen (places b') i)
        → NeedsPlace pages (places b) i → ⊥
    not_needed i done fails says needs = true≢false (sym (says.1
        (subst (λ q. NeedsPlace q (places b') i) (sym same)
        (subst (λ k. NeedsPlace pages (places k) i) (sym blocks_same) needs))) ∙ fails)

-- one more of the first places, or blocks, of which none is so
pub one_more : (P : ℕ → Type 0) (n : ℕ) → ((p : ℕ) → p < n → P p → ⊥) → (P n → ⊥) → (p : ℕ) → p < n + 1 → P p → ⊥
one_more P n none last p within holds = ⊎_elim (λ below. none p below holds)
    (λ past. last (let e : p ≡ n = omega arith in subst P e holds)) (cases_lt p n)
