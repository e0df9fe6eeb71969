-- Which blocks are marked, entry by entry.
use Rattle.std.proofs.Common.{◌≡◌, ◌≢◌, ◌⊎◌, ℕ, ◌+◌, ◌<◌, ◌≤◌, List, [], ◌∷◌, length, replicate, sym, subst, ◌∙◌}
use Rattle.std.proofs.Common.{inl, inr, ⊎_elim, arith}
use Rattle.std.specs.Prelude.{Some, slice_index}
use Rattle.std.specs.Map.{lookup}
use Rattle.std.proofs.lemmas.Bool.{cases_eq, cases_lt}
use Rattle.std.proofs.lemmas.Option.{none-some}
use Rattle.std.proofs.lemmas.List.{get_or-replicate, length-replicate}
use Rattle.flash_disk.specs.declared.table.FilePage.{FilePage}
use Rattle.flash_disk.specs.declared.table.Newest.{Newest}
use Rattle.flash_disk.specs.declared.table.Table.{Table}
use Rattle.flash_disk.specs.Known.{same_page, known, load_known}
use Rattle.flash_disk.specs.Apart.{copy_of}
use Rattle.flash_disk.specs.LedApart.{LeadsOnly, IsUnmarked}
use Rattle.flash_disk.proofs.Lengths.{Entry, passed}

-- an entry of the copy, or one whose block is marked
abbrev pub IsSeen : (copy : ℕ) → List ℕ → FilePage → Newest → Type 0
IsSeen copy marks key entry = (copy_of key.file ≡ copy) ⊎ (entry.place.block < length marks
    → slice_index marks entry.place.block ≡ 1)

-- one entry more is seen
pub seen_more : (copy : ℕ) (old new : List ℕ) (key k : FilePage) (entry e : Newest) (es all : List Entry)
    → all ≡ (k, e) ∷ es → IsSeen copy new k e
    → ((w : FilePage) (v : Newest) → IsSeen copy old w v → IsSeen copy new w v)
    → (lookup (same_page key) all ≡ Some entry) ⊎ IsSeen copy old key entry
    → (lookup (same_page key) es ≡ Some entry) ⊎ IsSeen copy new key entry
seen_more copy old new key k entry e es all is own keeps before = ⊎_elim
    (λ left. ⊎_elim
    (λ here. inr (subst (λ (q : FilePage). IsSeen copy new q entry) (sym here.0)
    (subst (λ (w : Newest). IsSeen copy new k w) here.1 own)))
    (λ there. inl there)
    (passed key k entry e es all is left))
    (λ seen. inr (keeps key entry seen))
    before

-- nothing is marked at first
pub unmarked : (n block : ℕ) → block < n → IsUnmarked (replicate n 0) block
unmarked n block below = let long = length-replicate {A = ℕ} n 0 in
    (omega (arith, below, long), get_or-replicate {A = ℕ} n block 0 0 below)

module _ (copy : ℕ) (old new : List ℕ) (block : ℕ) (long : length new ≡ length old)
    (here : block < length old → slice_index new block ≡ 1)
    (others : (b : ℕ) → b ≢ block → slice_index new b ≡ slice_index old b) where
  -- an entry of the block that is marked is seen
  pub is_seen : (w : FilePage) (v : Newest) → v.place.block ≡ block → IsSeen copy new w v
  is_seen w v at = inr (λ inside. subst (λ b. slice_index new b ≡ 1) (sym at) (here (omega (arith, at, inside, long))))

  -- what was seen stays so when a block is marked
  pub seen_stays : (w : FilePage) (v : Newest) → IsSeen copy old w v → IsSeen copy new w v
  seen_stays w v seen = ⊎_elim
      inl
      (λ marked. inr (λ inside. ⊎_elim
      (λ same. subst (λ b. slice_index new b ≡ 1) (sym same) (here (omega (arith, same, inside, long))))
      (λ apart. others v.place.block apart ∙ marked (omega (arith, inside, long)))
      (cases_eq v.place.block block)))
      seen

  -- a block into which only entries of the copy lead is not marked for one of another
  pub own_stays : (table : Table) (k : FilePage) (e : Newest) → known table k ≡ Some e → e.place.block ≡ block
      → copy_of k.file ≢ copy → (b : ℕ) → LeadsOnly table copy b → IsUnmarked old b → IsUnmarked new b
  own_stays table k e is at foreign b only free = ⊎_elim
      (λ same. absurd (foreign (only k e is (at ∙ sym same))))
      (λ apart. (let inside = free.0 in omega (arith, inside, long), others b apart ∙ free.1))
      (cases_eq b block)

-- at the end all are seen
pub seen_all : (copy : ℕ) (marks : List ℕ) (key : FilePage) (entry : Newest) (left : List Entry) → left ≡ []
    → (lookup (same_page key) left ≡ Some entry) ⊎ IsSeen copy marks key entry → IsSeen copy marks key entry
seen_all copy marks key entry left none seen = ⊎_elim
    (λ some. absurd (none-some entry (subst (λ l. lookup (same_page key) l ≡ Some entry) none some)))
    (λ is. is)
    seen

-- ---- the lightest block that is not marked

module _ (table : Table) (marks : List ℕ) (but : ℕ) where
  abbrev pub IsBestOwn : (block best : ℕ) → Type 0
  IsBestOwn block best = (best ≢ but → (best < table.blocks) × IsUnmarked marks best × (load_known table best < 64))
      × ((b : ℕ) → b < block → b ≢ but → IsUnmarked marks b → (64 ≤ load_known table b)
      ⊎ ((best ≢ but) × (load_known table best ≤ load_known table b)))

  pub better : (block best : ℕ) → block < table.blocks → IsBestOwn block best
      → (block ≢ but) × IsUnmarked marks block × (load_known table block < 64)
      × (best ≢ but → load_known table block ≤ load_known table best) → IsBestOwn (block + 1) block
  better block best within is good = (
    (λ other. (within, good.1, good.2)),
    (λ b below other free. ⊎_elim
        (λ before. ⊎_elim
        (λ heavy. inl heavy)
        (λ was. let le = was.1 in let less = good.3 was.0 in inr (good.0, omega (arith, le, less)))
        (is.1 b before other free))
        (λ past. let e : block ≡ b = omega (arith, past, below) in
        inr (good.0, subst (λ q. load_known table block ≤ load_known table q) e (omega arith)))
        (cases_lt b block)),
  )

  pub no_better : (block best : ℕ) → IsBestOwn block best
      → (block ≢ but → IsUnmarked marks block → (64 ≤ load_known table block)
      ⊎ ((best ≢ but) × (load_known table best ≤ load_known table block))) → IsBestOwn (block + 1) best
  no_better block best is worse = (
    is.0,
    (λ b below other free. ⊎_elim
        (λ before. is.1 b before other free)
        (λ past. let e : block ≡ b = omega (arith, past, below) in
        subst (λ q. (64 ≤ load_known table q) ⊎ ((best ≢ but) × (load_known table best ≤ load_known table q))) e
        (worse (λ same. other (sym e ∙ same)) (subst (IsUnmarked marks) (sym e) free)))
        (cases_lt b block)),
  )
