-- Two blocks that may be joined: the lightest of a copy, and the lightest of the others.
use Rattle.std.proofs.Common.{◌≡◌, ◌≢◌, ◌⊎◌, ℕ, ◌+◌, ◌<◌, ◌≤◌, List, length, sym, subst, ◌∙◌, ⊎_elim, arith}
use Rattle.std.specs.Prelude.{slice_index}
use Rattle.std.proofs.lemmas.Bool.{cases_eq}
use Rattle.flash_disk.specs.declared.table.Table.{Table}
use Rattle.flash_disk.specs.Known.{load_known}
use Rattle.flash_disk.specs.LedApart.{LeadsOnly, IsUnmarked, IsPair, HasNoPair}

module _ (table : Table) (spare copy : ℕ) (marks marked : List ℕ) (first second : ℕ) where
  abbrev pub IsOwn : List ℕ → ℕ → Type 0
  IsOwn free block = block ≢ spare → (block < table.blocks) × IsUnmarked free block × (load_known table block < 64)

  abbrev pub IsLightest : List ℕ → ℕ → Type 0
  IsLightest free best = (block : ℕ) → block < table.blocks → block ≢ spare → IsUnmarked free block
      → (64 ≤ load_known table block) ⊎ ((best ≢ spare) × (load_known table best ≤ load_known table block))

  module _ (long : length marked ≡ length marks) (here : first < length marks → slice_index marked first ≡ 1)
      (others : (b : ℕ) → b ≢ first → slice_index marked b ≡ slice_index marks b) (first_own : IsOwn marks first)
      (second_own : IsOwn marked second) where
    pub is_pair : ((block : ℕ) → IsUnmarked marks block → LeadsOnly table copy block) → first ≢ spare → second ≢ spare
        → load_known table first + load_known table second < 64 → IsPair table spare first second
    is_pair own other second_other few =
        let one = first_own other in
        let two = second_own second_other in
        let inside = one.1.0 in
        let apart : first ≢ second = λ same.
        (let marked_is = here inside in
        let free : slice_index marked first ≡ 0 = subst (λ b. slice_index marked b ≡ 0) (sym same) two.1.1 in
        omega (arith, marked_is, free)) in record {
          copy = copy;
          within = one.0;
          second_within = two.0;
          other = other;
          second_other = second_other;
          apart = apart;
          own = own first one.1;
          second_own = own second (
            (let below = two.1.0 in omega (arith, below, long)),
            sym (others second (λ same. apart (sym same))) ∙ two.1.1,
          );
          few = few;
        }

    still_free : (b : ℕ) → b ≢ first → IsUnmarked marks b → IsUnmarked marked b
    still_free b apart free = ((let below = free.0 in omega (arith, below, long)), others b apart ∙ free.1)

    module _ (foreign : (block : ℕ) → block < table.blocks → LeadsOnly table copy block → IsUnmarked marks block)
        (first_lightest : IsLightest marks first) (second_lightest : IsLightest marked second)
        (why : (first ≡ spare) ⊎ ((second ≡ spare) ⊎ (64 ≤ load_known table first + load_known table second))) where
      -- two others of which each is no lighter than one of them
      both : (a b : ℕ) → (first ≢ spare) × (load_known table first ≤ load_known table b)
          → (second ≢ spare) × (load_known table second ≤ load_known table a)
          → 64 ≤ load_known table a + load_known table b
      both a b one two = ⊎_elim
          (λ none. absurd (one.0 none))
          (λ more. ⊎_elim
          (λ none. absurd (two.0 none))
          (λ many. (let le = one.1 in let less = two.1 in omega (arith, many, le, less)))
          more)
          why

      pub no_pair : HasNoPair table spare copy
      no_pair a b below b_below other b_other apart only b_only =
          let free = foreign a below only in
          let b_free = foreign b b_below b_only in
          ⊎_elim
          (λ heavy. omega (arith, heavy))
          (λ light. ⊎_elim
          (λ heavy. omega (arith, heavy))
          (λ b_light. ⊎_elim
          (λ same. ⊎_elim
          (λ heavy. omega (arith, heavy))
          (λ two. (let sum = both b a light two in omega (arith, sum)))
          (second_lightest b b_below b_other (still_free b (λ is. apart (same ∙ sym is)) b_free)))
          (λ differs. ⊎_elim
          (λ heavy. omega (arith, heavy))
          (λ two. both a b b_light two)
          (second_lightest a below other (still_free a differs free)))
          (cases_eq a first))
          (first_lightest b b_below b_other b_free))
          (first_lightest a below other free)
