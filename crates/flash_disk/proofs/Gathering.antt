-- A block whose records are moved for a copy: it is one of the copy alone, or there is no room for the copy; so the
-- copies stay apart.
use Rattle.std.proofs.Common.{◌≡◌, ◌≢◌, ℕ, ◌+◌, ◌*◌, ◌/◌, ◌%◌, ◌<◌, ◌≤◌, Bool, sym, subst, inl, inr, ⊎_elim, arith}
use Rattle.std.specs.Prelude.{IsTrue}
use Rattle.std.specs.HashMap.{IsUnique}
use Rattle.std.proofs.lemmas.Bool.{cases_eq, cases_lt}
use Rattle.flash_model.specs.FlashMedium.{FlashMedium, IsLawfulFlash, FlashElapses}
use Rattle.flash_disk.specs.declared.table.Table.{Table}
use Rattle.flash_disk.specs.declared.layer.LayerState.{LayerState}
use Rattle.flash_disk.specs.Newest.{places}
use Rattle.flash_disk.specs.Known.{same_page, load_known}
use Rattle.flash_disk.specs.Sound.{IsSoundLayer}
use Rattle.flash_disk.specs.Apart.{HoldsOneCopy, HasNoRoom}
use Rattle.flash_disk.specs.LedApart.{LeadsOnly, HasNoPair}
use Rattle.flash_disk.specs.KeepsApart.{KeepsApart, HasHome}
use Rattle.flash_disk.proofs.Filled.{holds_counting}
use Rattle.flash_disk.proofs.Holding.{leads_only, mixes_apart, no_room_now}

-- there are 8 copies: a block of a ninth has no newest record
none_own : (table : Table) (own copy block : ℕ) → 8 ≤ own → LeadsOnly table own block → LeadsOnly table copy block
none_own table own copy block past only = λ key e is at.
    let same : key.file / 4 % 8 ≡ own = only key e is at in absurd (omega (arith, same, past))

module _ (m : FlashMedium) (s : LayerState) (sound : IsSoundLayer m s) (copy : ℕ)
    (unique : IsUnique same_page s.table.newest)
    (heavy : (block : ℕ) → block < s.table.blocks → block ≢ s.spare → LeadsOnly s.table copy block
    → 57 ≤ load_known s.table block) (pairless : (own : ℕ) → own < 8 → HasNoPair s.table s.spare own) where
  inside : (block : ℕ) → block < m.blocks → block < s.table.blocks
  inside block below = let blocks_are = sound.counted.blocks_are in omega (arith, below, blocks_are)

  fill_one : (first second own : ℕ) → first < m.blocks → second < m.blocks → first ≢ s.spare → second ≢ s.spare
      → first ≢ second → LeadsOnly s.table own first → LeadsOnly s.table own second
      → 64 ≤ load_known s.table first + load_known s.table second
  fill_one first second own below second_below other second_other apart only second_only = ⊎_elim
      (λ few. pairless own few first second (inside first below) (inside second second_below) other second_other apart
      only second_only)
      (λ past.
      (let a = heavy first (inside first below) other (none_own s.table own copy first past only) in
      let b = heavy second (inside second second_below) second_other (none_own s.table own copy second past
      second_only) in
      omega (arith, a, b)))
      (cases_lt own 8)

  -- there is no room for the copy where each block of it is packed and no two of any can be joined
  pub no_room : HasNoRoom m.state.pages m.blocks copy
  no_room =
      let pages = m.state.pages in
      let led = sound.knows.led in
      record {
        spare = s.spare;
        within = sound.within;
        is_spare = sound.is_spare;
        packed = λ block below apart only. holds_counting pages m.blocks s.table led sound.counted unique block below
            57 (heavy block (inside block below) apart (leads_only pages m.blocks s.table led block copy only));
        unjoined = λ first second own below second_below other second_other apart only second_only. record {
          some = load_known s.table first;
          others = load_known s.table second;
          many = fill_one first second own below second_below other second_other apart
              (leads_only pages m.blocks s.table led first own only)
              (leads_only pages m.blocks s.table led second own second_only);
          in_first = holds_counting pages m.blocks s.table led sound.counted unique first below
              (load_known s.table first) (omega arith);
          in_second = holds_counting pages m.blocks s.table led sound.counted unique second second_below
              (load_known s.table second) (omega arith);
        };
      }

module _ (copy : ℕ) (told : Bool) (m now : FlashMedium) (lawful : IsLawfulFlash told m) (tells : IsTrue told)
    (time : FlashElapses m now) (table : Table) (spare own victim : ℕ)
    (light : own ≢ spare → (own < table.blocks) × (load_known table own < 64) × LeadsOnly table copy own)
    (none : own ≡ spare → 16 ≤ m.blocks → HasNoRoom m.state.pages m.blocks copy)
    (taken : own ≢ spare → own < table.blocks → load_known table own < 64 → victim ≡ own) where
  victim_only : own ≢ spare → LeadsOnly table copy victim
  victim_only other = let is = light other in subst (LeadsOnly table copy) (sym (taken other is.0 is.1)) is.2

  pub gathered_apart : (LeadsOnly table copy victim → KeepsApart copy m now) → KeepsApart copy m now
  gathered_apart moved = ⊎_elim
      (λ nothing. mixes_apart copy m now (λ many stand. no_room_now copy told m now lawful tells time stand
      (none nothing many)))
      (λ other. moved (victim_only other))
      (cases_eq own spare)

  pub gathered_home : (block : ℕ)
      → (LeadsOnly table copy victim → HoldsOneCopy now.state.pages (places now.blocks) block copy)
      → HasHome copy m now block
  gathered_home block holds many stand = ⊎_elim
      (λ nothing. inr (no_room_now copy told m now lawful tells time stand (none nothing many)))
      (λ other. inl (holds (victim_only other)))
      (cases_eq own spare)
