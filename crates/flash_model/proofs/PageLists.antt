-- The pages of a flash in a list, 64 for each block.
use Rattle.std.proofs.Common.{◌≡◌, ◌≢◌, ◌⊎◌, ℕ, ◌+◌, ◌*◌, ◌<◌, ◌≤◌, List, replicate, true, false, get_or, refl, sym, ap}
use Rattle.std.proofs.Common.{◌∙◌, subst, inl, inr, ⊎_elim, arith, cond, nat_lt, eq-eqb, ne_eqb}
use Rattle.std.proofs.lemmas.List.{get_or-replicate, get_or_past, length-replicate}
use Rattle.std.proofs.lemmas.Bool.{cases_lt, cases_eq, lt-ltb, le-ltb}
use Rattle.std.proofs.Math.Path.{fun_ext}
use Rattle.flash_model.specs.Pages.{blank_page, erase_block}
use Rattle.flash_model.specs.History.{pages_of}

-- what a list of blank pages holds
pub all_blank : (count : ℕ) → pages_of (replicate count blank_page) ≡ (λ b p. blank_page)
all_blank count = fun_ext (λ b. fun_ext (λ p. at_page b p))
  where
    within : (i : ℕ) → get_or (replicate count blank_page) i blank_page ≡ blank_page
    within i = ⊎_elim
        (λ inside. get_or-replicate count i blank_page blank_page inside)
        (λ past. get_or_past (replicate count blank_page) i blank_page
        (omega (arith, length-replicate {A = List ℕ} count blank_page)))
        (cases_lt i count)

    at_page : (b p : ℕ) → cond (nat_lt p 64) (get_or (replicate count blank_page) (64 * b + p) blank_page) blank_page
        ≡ blank_page
    at_page b p = elim (nat_lt p 64) as (λ v. cond v (get_or (replicate count blank_page) (64 * b + p) blank_page)
        blank_page ≡ blank_page)
        [ true ↦ within (64 * b + p) | false ↦ refl ]

-- a block whose 64 pages were made blank
pub block_blank : (old new : List (List ℕ)) (block : ℕ)
    → ((j : ℕ) → j < 64 → get_or new (64 * block + j) blank_page ≡ blank_page)
    → ((i : ℕ) → (i < 64 * block) ⊎ (64 * block + 64 ≤ i) → get_or new i blank_page ≡ get_or old i blank_page)
    → pages_of new ≡ erase_block (pages_of old) block
block_blank old new block inside outside = fun_ext (λ b.
    fun_ext (λ p. ⊎_elim (here b p) (there b p) (cases_eq b block)))
  where
    within : (b p : ℕ) → (p < 64 → get_or new (64 * b + p) blank_page ≡ blank_page) → pages_of new b p ≡ blank_page
    within b p blank = ⊎_elim
        (λ lt. subst (λ v. cond v (get_or new (64 * b + p) blank_page) blank_page ≡ blank_page) (sym (lt-ltb p 64 lt))
        (blank lt))
        (λ le. subst (λ v. cond v (get_or new (64 * b + p) blank_page) blank_page ≡ blank_page) (sym (le-ltb p 64 le))
        refl)
        (cases_lt p 64)

    alike : (b p : ℕ) → (p < 64 → get_or new (64 * b + p) blank_page ≡ get_or old (64 * b + p) blank_page)
        → pages_of new b p ≡ pages_of old b p
    alike b p same = ⊎_elim
        (λ lt. ap (λ bytes. cond (nat_lt p 64) bytes blank_page) (same lt))
        (λ le. subst (λ v. cond v (get_or new (64 * b + p) blank_page) blank_page
        ≡ cond v (get_or old (64 * b + p) blank_page) blank_page) (sym (le-ltb p 64 le)) refl)
        (cases_lt p 64)

    here : (b p : ℕ) → b ≡ block → pages_of new b p ≡ erase_block (pages_of old) block b p
    here b p e = within b p (λ lt. subst (λ k. get_or new (64 * k + p) blank_page ≡ blank_page) (sym e) (inside p lt))
        ∙ sym (ap (λ v. cond v blank_page (pages_of old b p)) (eq-eqb b block e))

    apart : (b p : ℕ) → b ≢ block → p < 64 → (64 * b + p < 64 * block) ⊎ (64 * block + 64 ≤ 64 * b + p)
    apart b p ne lt = ⊎_elim (λ less. inl (omega arith)) (λ le. inr (omega arith)) (cases_lt b block)

    there : (b p : ℕ) → b ≢ block → pages_of new b p ≡ erase_block (pages_of old) block b p
    there b p ne = alike b p (λ lt. outside (64 * b + p) (apart b p ne lt))
        ∙ sym (ap (λ v. cond v blank_page (pages_of old b p)) (ne_eqb b block ne))
