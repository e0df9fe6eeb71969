-- The ranges that are kept have every file but those that are given up.
use Rattle.std.proofs.Common.{◌≡◌, ◌⊎◌, ℕ, zero, suc, ◌+◌, ◌-◌, ◌/◌, ◌<◌, ◌≤◌, List, [], ◌∷◌, ◌++◌, Bool, true}
use Rattle.std.proofs.Common.{false, refl, sym, ap, subst, ◌∙◌, inl, inr, ⊎_elim, arith, append_assoc}
use Rattle.std.proofs.Common.{true≢false, cond}
use Rattle.std.specs.Prelude.{Some, None, ◌||◌}
use Rattle.std.proofs.lemmas.Bool.{cases_eq, cases_lt}
use Rattle.std.proofs.lemmas.Bool.Decides.{nat_tests}
use Rattle.std.proofs.lemmas.List.Folds.{list_any-append}
use Rattle.disk_model.specs.Image.{Image}
use Rattle.flash_disk.specs.declared.forgetting.FileRange.{FileRange}
use Rattle.flash_disk.specs.Kept.{lies_in, in_ranges}
use Rattle.deploy_laws.specs.Apps.{Says, nothing, absent, installed, AreVersions, IsFree, app_at, root_sole, says_at}
use Rattle.deploy_laws.specs.Places.{first_file, storage_file}
use Rattle.deploy.specs.Views.{RootSeen, bad, no_version, versions, seen_at, seen_by}
use Rattle.flash_reclaim.specs.Naming.{IsFreeBank, IsFileGivenUp, first_free, count_free, free_range, kept_of, kept_below}
use Rattle.flash_reclaim.specs.Naming.{all_kept, is_whole}

-- ---- tests

or_left : (a b : Bool) → a ≡ true → (a || b) ≡ true
or_left true b is = refl
or_left false b is = absurd (true≢false (sym is))

or_right : (a b : Bool) → b ≡ true → (a || b) ≡ true
or_right true b is = refl
or_right false b is = is

or_none : (a b : Bool) → a ≡ false → b ≡ false → (a || b) ≡ false
or_none true b one two = absurd (true≢false one)
or_none false b one two = two

pub has_file : (file : ℕ) (r : FileRange) → r.first ≤ file → file < r.end → lies_in file r ≡ true
has_file file r from below = grind (arith, nat_tests)

pub lacks_file : (file : ℕ) (r : FileRange) → (file < r.first) ⊎ (r.end ≤ file) → lies_in file r ≡ false
lacks_file file r out = grind (arith, nat_tests)

-- ---- the banks that are free

record IsFreeBy (says : Says) (lacking : List ℕ) (sole : Bool) (bank : ℕ) : Type 0 where
  known : ¬ (says ≡ nothing)
  whole : lacking ≡ []
  sole_is : sole ≡ true
  free : IsFree bank says

-- the bank is among those that are free
abbrev IsCounted : RootSeen → ℕ → Type 0
IsCounted seen bank = (first_free seen ≤ bank) × (bank < first_free seen + count_free seen)

abbrev IsUncounted : RootSeen → ℕ → Type 0
IsUncounted seen bank = (bank < first_free seen) ⊎ (first_free seen + count_free seen ≤ bank)

none_counted : (first bank : ℕ) → (bank < first) ⊎ (first + 0 ≤ bank)
none_counted first bank = ⊎_elim (λ less. inl less) (λ more. inr (omega (arith, more))) (cases_lt bank first)

abbrev Decided : (says : Says) (lacking : List ℕ) (sole : Bool) (bank : ℕ) → Type 0
Decided says lacking sole bank = (IsFreeBy says lacking sole bank × IsCounted (seen_by says lacking sole) bank)
    ⊎ ((IsFreeBy says lacking sole bank → ⊥) × IsUncounted (seen_by says lacking sole) bank)

decide : (says : Says) (lacking : List ℕ) (sole : Bool) → AreVersions says → (bank : ℕ) → bank ≤ 1
    → Decided says lacking sole bank
decide nothing lacking sole of bank few = inr (λ free. free.known refl, none_counted 0 bank)
decide (absent g) [] true of bank few = inl (
  record { known = λ is. cc; whole = refl; sole_is = refl; free = tt },
  (omega arith, omega (arith, few)),
)
decide (absent g) [] false of bank few = inr (λ free. true≢false (sym free.sole_is), none_counted 0 bank)
decide (absent g) (x ∷ xs) sole of bank few = inr (λ free. (let is = free.whole in cc), none_counted 0 bank)
decide (installed g active None) [] true of bank few =
    let low = of.in_bank in ⊎_elim
    (λ same. inr (
      λ free. free.free (sym same),
      ⊎_elim (λ none. inl (omega (arith, none, same))) (λ some. inr (omega (arith, some, same, few)))
          (cases_eq bank 0),
    ))
    (λ other. inl (
      record { known = λ is. cc; whole = refl; sole_is = refl; free = λ same. other (sym same) },
      (omega (arith, other, low, few), omega (arith, other, low, few)),
    ))
    (cases_eq bank active.bank)
decide (installed g active None) [] false of bank few =
    inr (λ free. true≢false (sym free.sole_is), none_counted (1 - active.bank) bank)
decide (installed g active None) (x ∷ xs) sole of bank few =
    inr (λ free. (let is = free.whole in cc), none_counted (1 - active.bank) bank)
decide (installed g active (Some previous)) lacking sole of bank few =
    let low = of.of_active.in_bank in
    let apart = of.apart in
    inr (
      λ free. ⊎_elim (λ same. free.free.0 same) (λ other. free.free.1 (omega (arith, other, low, apart, few)))
          (cases_eq active.bank bank),
      none_counted (1 - active.bank) bank,
    )

first_small : (seen : RootSeen) → first_free seen ≤ 1
first_small bad = omega arith
first_small (no_version lacking sole) = omega arith
first_small (versions active previous lacking sole) = omega arith

at_most : (b : Bool) (most : ℕ) → cond b most 0 ≤ most
at_most true most = omega arith
at_most false most = omega arith

-- there are two banks
two_banks : (seen : RootSeen) → first_free seen + count_free seen ≤ 2
two_banks bad = omega arith
two_banks (no_version lacking sole) = let most = at_most (is_whole lacking sole) 2 in omega (arith, most)
two_banks (versions active None lacking sole) = let most = at_most (is_whole lacking sole) 1 in omega (arith, most)
two_banks (versions active (Some previous) lacking sole) = omega arith

pub says_is : (image : Image) (app : ℕ) → (app_at image app).says ≡ says_at image app
unfolding app_at
says_is image app = refl

-- ---- the lists of ranges

range_is : (a b : FileRange) → a.first ≡ b.first → a.end ≡ b.end → a ≡ b
range_is a b first end = λ i. record { first = first i; end = end i }

as_below : (image : Image) (app : ℕ) → kept_below image app ++ kept_of app (seen_at image app) ≡ kept_below image (suc app)
unfolding kept_below
as_below image app = refl

pub none_below : (image : Image) (items : List FileRange) → items ≡ [] → items ≡ kept_below image 0
unfolding kept_below
none_below image items none = none

-- those of one application more
pub one_more : (image : Image) (app : ℕ) (items more both : List FileRange) (low high : FileRange)
    → items ≡ kept_below image app → more ≡ items ++ low ∷ [] → both ≡ more ++ high ∷ [] → low.first ≡ first_file app
    → low.end ≡ (free_range app (seen_at image app)).first → high.first ≡ (free_range app (seen_at image app)).end
    → high.end ≡ first_file app + 4096 → both ≡ kept_below image (app + 1)
one_more image app items more both low high are more_is both_is one two three four =
    let seen = seen_at image app in
    let low_is : low ≡ record { first = first_file app; end = (free_range app seen).first } =
    range_is low (record { first = first_file app; end = (free_range app seen).first }) one two in
    let high_is : high ≡ record { first = (free_range app seen).end; end = first_file app + 4096 } =
    range_is high (record { first = (free_range app seen).end; end = first_file app + 4096 }) three four in
    both_is ∙ (ap (λ (xs : List FileRange). xs ++ high ∷ []) more_is ∙ (append_assoc items (low ∷ []) (high ∷ [])
    ∙ ((λ i. are i ++ low_is i ∷ high_is i ∷ []) ∙ (as_below image app
    ∙ ap (kept_below image) (let next : suc app ≡ app + 1 = omega arith in next)))))

-- and those of no application
pub with_rest : (image : Image) (items : List FileRange) (rest : FileRange) → items ≡ kept_below image 8
    → rest.first ≡ 32768 → rest.end ≡ 4294967295 → items ++ rest ∷ [] ≡ all_kept image
unfolding all_kept
with_rest image items rest are one two =
    let rest_is : rest ≡ record { first = 32768; end = 4294967295 } =
    range_is rest (record { first = 32768; end = 4294967295 }) one two in
    λ i. are i ++ rest_is i ∷ []

-- ---- the ranges of each application

module _ (file : ℕ) where
  first_has : (app : ℕ) (seen : RootSeen) → first_file app ≤ file → file < (free_range app seen).first
      → in_ranges (kept_of app seen) file ≡ true
  first_has app seen from below =
      let low : FileRange = record { first = first_file app; end = (free_range app seen).first } in
      let high : FileRange = record { first = (free_range app seen).end; end = first_file app + 4096 } in
      or_left (lies_in file low) (lies_in file high || false) (has_file file low from below)

  last_has : (app : ℕ) (seen : RootSeen) → (free_range app seen).end ≤ file → file < first_file app + 4096
      → in_ranges (kept_of app seen) file ≡ true
  last_has app seen from below =
      let low : FileRange = record { first = first_file app; end = (free_range app seen).first } in
      let high : FileRange = record { first = (free_range app seen).end; end = first_file app + 4096 } in
      or_right (lies_in file low) (lies_in file high || false)
      (or_left (lies_in file high) false (has_file file high from below))

  neither_has : (app : ℕ) (seen : RootSeen) → (file < first_file app) ⊎ ((free_range app seen).first ≤ file)
      → (file < (free_range app seen).end) ⊎ (first_file app + 4096 ≤ file) → in_ranges (kept_of app seen) file ≡ false
  neither_has app seen one two =
      let low : FileRange = record { first = first_file app; end = (free_range app seen).first } in
      let high : FileRange = record { first = (free_range app seen).end; end = first_file app + 4096 } in
      or_none (lies_in file low) (lies_in file high || false) (lacks_file file low one)
      (or_none (lies_in file high) false (lacks_file file high two) refl)

  module _ (image : Image) where
    below_has : (apps k : ℕ) → k < apps → in_ranges (kept_of k (seen_at image k)) file ≡ true
        → in_ranges (kept_below image apps) file ≡ true
    unfolding kept_below
    below_has zero k lt is = absurd (omega (arith, lt))
    below_has (suc app) k lt is =
        list_any-append (lies_in file) (kept_below image app) (kept_of app (seen_at image app)) ∙ ⊎_elim
        (λ less. or_left (in_ranges (kept_below image app) file) (in_ranges (kept_of app (seen_at image app)) file)
        (below_has app k less is))
        (λ last. or_right (in_ranges (kept_below image app) file) (in_ranges (kept_of app (seen_at image app)) file)
        (subst (λ z. in_ranges (kept_of z (seen_at image z)) file ≡ true) (omega (arith, last, lt)) is))
        (cases_lt k app)

    below_none : (apps : ℕ) → ((k : ℕ) → k < apps → in_ranges (kept_of k (seen_at image k)) file ≡ false)
        → in_ranges (kept_below image apps) file ≡ false
    unfolding kept_below
    below_none zero none = refl
    below_none (suc app) none =
        list_any-append (lies_in file) (kept_below image app) (kept_of app (seen_at image app))
        ∙ or_none (in_ranges (kept_below image app) file) (in_ranges (kept_of app (seen_at image app)) file)
        (below_none app (λ k lt. none k (omega (arith, lt)))) (none app (omega arith))

-- ---- the ranges of all

module _ (image : Image) (of : (app : ℕ) → AreVersions (says_at image app)) where
  -- whether a bank is free
  pub decided : (app bank : ℕ) → bank ≤ 1
      → (IsFreeBank image app bank × IsCounted (seen_at image app) bank)
      ⊎ ((IsFreeBank image app bank → ⊥) × IsUncounted (seen_at image app) bank)
  decided app bank few = ⊎_elim
      (λ yes. inl (
        record {
          known = λ is. yes.0.known (says_is image app ∙ is);
          whole = yes.0.whole;
          sole = yes.0.sole_is;
          free = subst (IsFree bank) (says_is image app) yes.0.free;
        },
        yes.1,
      ))
      (λ no. inr (
        λ free. no.0 (record {
          known = λ is. free.known (sym (says_is image app) ∙ is);
          whole = free.whole;
          sole_is = free.sole;
          free = subst (IsFree bank) (sym (says_is image app)) free.free;
        }),
        no.1,
      ))
      (decide (app_at image app).says (app_at image app).lacking (root_sole image app)
      (subst AreVersions (sym (says_is image app)) (of app)) bank few)

  module _ (file : ℕ) where
    module _ (app bank : ℕ) (within : app < 8) (few : bank ≤ 1) (from : storage_file app bank 0 ≤ file)
        (below : file < storage_file app bank 0 + 512) (not : IsFileGivenUp image file → ⊥)
        (past : (free_range app (seen_at image app)).first ≤ file)
        (before : file < (free_range app (seen_at image app)).end) where
      no_bank : ⊥
      no_bank = ⊎_elim
          (λ yes. not (record {
            app = app;
            bank = bank;
            app_within = within;
            bank_within = few;
            free = yes.0;
            from = from;
            below = below;
          }))
          (λ no. ⊎_elim (λ less. omega (arith, less, below, past)) (λ more. omega (arith, more, from, before)) no.1)
          (decided app bank few)

    of_app : (app : ℕ) → app < 8 → first_file app ≤ file → file < first_file app + 4096
        → (IsFileGivenUp image file → ⊥) → in_ranges (kept_of app (seen_at image app)) file ≡ true
    of_app app within from below not =
        let seen = seen_at image app in
        let most = two_banks seen in ⊎_elim
        (λ before. first_has file app seen from before)
        (λ past. ⊎_elim
        (λ inside. absurd (⊎_elim
        (λ low. no_bank app 0 within (omega arith) (omega (arith, past)) (omega (arith, low)) not past inside)
        (λ high. ⊎_elim
        (λ near. no_bank app 1 within (omega arith) (omega (arith, high)) (omega (arith, near)) not past inside)
        (λ far. omega (arith, far, inside, most))
        (cases_lt file (storage_file app 1 0 + 512)))
        (cases_lt file (storage_file app 1 0))))
        (λ after. last_has file app seen after below)
        (cases_lt file (free_range app seen).end))
        (cases_lt file (free_range app seen).first)

    -- a file that is not given up is kept
    pub kept_true : file < 4294967295 → (IsFileGivenUp image file → ⊥) → in_ranges (all_kept image) file ≡ true
    unfolding all_kept
    kept_true few not =
        let rest : FileRange = record { first = 32768; end = 4294967295 } in
        list_any-append (lies_in file) (kept_below image 8) (rest ∷ []) ∙ ⊎_elim
        (λ less. or_left (in_ranges (kept_below image 8) file) (in_ranges (rest ∷ []) file)
        (below_has file image 8 (file / 4096) (omega (arith, less))
        (of_app (file / 4096) (omega (arith, less)) (omega arith) (omega arith) not)))
        (λ past. or_right (in_ranges (kept_below image 8) file) (in_ranges (rest ∷ []) file)
        (or_left (lies_in file rest) false (has_file file rest past few)))
        (cases_lt file 32768)

    module _ (up : IsFileGivenUp image file) where
      no_app : (k : ℕ) → k < 8 → in_ranges (kept_of k (seen_at image k)) file ≡ false
      no_app k lt =
          let seen = seen_at image k in
          let small = first_small seen in
          let from = up.from in
          let below = up.below in
          let few = up.bank_within in ⊎_elim
          (λ same. ⊎_elim
          (λ yes. (let one : first_free seen ≤ up.bank =
          subst (λ z. first_free (seen_at image z) ≤ up.bank) (sym same) yes.1.0 in
          let two : up.bank < first_free seen + count_free seen =
          subst (λ z. up.bank < first_free (seen_at image z) + count_free (seen_at image z)) (sym same) yes.1.1 in
          neither_has file k seen (inr (omega (arith, one, from, same))) (inl (omega (arith, two, below, same)))))
          (λ no. absurd (no.0 up.free))
          (decided up.app up.bank few))
          (λ other. ⊎_elim
          (λ less. neither_has file k seen (inr (omega (arith, less, from, small))) (inr (omega (arith, less, from))))
          (λ more. neither_has file k seen (inl (omega (arith, more, other, below, few)))
          (inl (omega (arith, more, other, below, few))))
          (cases_lt k up.app))
          (cases_eq k up.app)

      -- and one that is given up is not
      pub given_false : in_ranges (all_kept image) file ≡ false
      unfolding all_kept
      given_false =
          let rest : FileRange = record { first = 32768; end = 4294967295 } in
          let within = up.app_within in
          let below = up.below in
          let few = up.bank_within in
          list_any-append (lies_in file) (kept_below image 8) (rest ∷ [])
          ∙ or_none (in_ranges (kept_below image 8) file) (in_ranges (rest ∷ []) file)
          (below_none file image 8 no_app)
          (or_none (lies_in file rest) false (lacks_file file rest (inl (omega (arith, within, below, few)))) refl)
