-- Why a write fails though the flash does not, and what holds where it does not fail.
use Rattle.std.proofs.Common.{◌≡◌, ◌⊎◌, ℕ, ◌+◌, ◌-◌, ◌/◌, ◌≤◌, sym, subst, ◌∙◌, inl, inr, ⊎_elim, arith}
use Rattle.std.specs.Prelude.{◌<◌, IsFalse}
use Rattle.std.specs.Int.{div_ceil}
use Rattle.flash_model.specs.Pages.{Pages}
use Rattle.flash_model.specs.State.{FlashState}
use Rattle.flash_model.specs.FlashMedium.{FlashMedium}
use Rattle.flash_disk.specs.declared.layer.LayerState.{LayerState}
use Rattle.flash_disk.specs.Newest.{places, page_count, page_limit}
use Rattle.flash_disk.specs.Standing.{IsAgreed, HasRivals}
use Rattle.flash_disk.specs.Sound.{IsSoundLayer}
use Rattle.flash_disk.specs.Known.{page_len, limit_of}
use Rattle.flash_disk.specs.Counted.{missing}
use Rattle.flash_disk.specs.OwnFaults.{unrecorded, EndsTooLate, WantsTooMany, IsAllowed, TakesPages, StopsAdding}
use Rattle.flash_disk.specs.OwnFaults.{FailsAlone}
use Rattle.flash_disk.specs.Entries.{SameEntries}
use Rattle.flash_disk.proofs.PageCount.{missing_is}
use Rattle.flash_disk.proofs.Affording.{same_missing}

-- the write wants more pages than there is room for
pub wants_too_many : (m : FlashMedium) (s : LayerState) (file at n end : ℕ) → IsSoundLayer m s → end ≡ at + n
    → (missing s.table file (at / 256) (div_ceil end 256 - at / 256) ≤ limit_of s.table - page_len s.table → ⊥)
    → WantsTooMany m file at n
wants_too_many m s file at n end sound is full =
    let range = div_ceil end 256 - at / 256 in
    let limit = sound.limit in
    let known_pages = sound.count in
    let misses = missing_is m.state.pages (places m.blocks) s.table sound.knows.led file (at / 256) range in
    let many : limit_of s.table - page_len s.table < missing s.table file (at / 256) range = omega (arith, full) in
    subst (λ e. page_limit m.blocks < page_count m.state.pages (places m.blocks)
    + unrecorded m.state.pages (places m.blocks) file (at / 256) (div_ceil e 256 - at / 256)) is
    (omega (arith, limit, known_pages, misses, many))

-- there is room for the write
pub has_room_for : (m : FlashMedium) (s : LayerState) (file at n end : ℕ) → IsSoundLayer m s → end ≡ at + n
    → missing s.table file (at / 256) (div_ceil end 256 - at / 256) ≤ limit_of s.table - page_len s.table
    → page_count m.state.pages (places m.blocks) + unrecorded m.state.pages (places m.blocks) file (at / 256)
    (div_ceil (at + n) 256 - at / 256) ≤ page_limit m.blocks
has_room_for m s file at n end sound is room =
    let range = div_ceil end 256 - at / 256 in
    let limit = sound.limit in
    let few = sound.counted.fits in
    let known_pages = sound.count in
    let misses = missing_is m.state.pages (places m.blocks) s.table sound.knows.led file (at / 256) range in
    subst (λ e. page_count m.state.pages (places m.blocks)
    + unrecorded m.state.pages (places m.blocks) file (at / 256) (div_ceil e 256 - at / 256) ≤ page_limit m.blocks)
    is
    (omega (arith, limit, few, known_pages, misses, room))

-- a write that is too long or too much was not begun
pub not_begun : (m : FlashMedium) (s : LayerState) (file at n end : ℕ) → IsSoundLayer m s → end ≡ at + n
    → end ≤ 1099511627776
    → missing s.table file (at / 256) (div_ceil end 256 - at / 256) ≤ limit_of s.table - page_len s.table
    → EndsTooLate at n ⊎ WantsTooMany m file at n → ⊥
not_begun m s file at n end sound is late room why =
    let fits = has_room_for m s file at n end sound is room in
    ⊎_elim (λ ends. omega (arith, ends, late, is)) (λ many. omega (arith, many, fits)) why

-- a write for which there was room, into pages that agree
pub allowed : (m : FlashMedium) (s : LayerState) (file at n end : ℕ) → IsSoundLayer m s → end ≡ at + n → end
    ≤ 1099511627776
    → missing s.table file (at / 256) (div_ceil end 256 - at / 256) ≤ limit_of s.table - page_len s.table
    → IsFalse s.has_rivals → IsAllowed m file at n
allowed m s file at n end sound is late room no_rivals = record {
  ends = omega (arith, late, is);
  fits = has_room_for m s file at n end sound is room;
  agreed = sound.agreed no_rivals;
}

-- the pages that it takes are those that it lacked: a has the table s, whose entries are those of u when its pages are
-- written
pub takes_pages : (a d : FlashMedium) (s u t : LayerState) (file at n : ℕ) → IsSoundLayer a s → IsSoundLayer d t
    → SameEntries s.table u.table
    → page_len t.table ≤ page_len u.table + missing u.table file (at / 256) (div_ceil (at + n) 256 - at / 256)
    → TakesPages a d file at n
takes_pages a d s u t file at n before after same takes =
    let range = div_ceil (at + n) 256 - at / 256 in
    let first = before.count in
    let last = after.count in
    let len = same.len in
    let seen = same_missing file (at / 256) s.table u.table range
    (λ i below. same.has (record { file = file; page = at / 256 + i })) in
    let misses = missing_is a.state.pages (places a.blocks) s.table before.knows.led file (at / 256) range in
    omega (arith, first, last, len, seen, misses, takes)

-- why a write fails, said of these pages
abbrev Fails : Pages → (blocks : ℕ) → LayerState → (file at n : ℕ) → Type 0
Fails pages blocks t file at n = EndsTooLate at n
    ⊎ ((page_limit blocks < page_count pages (places blocks)
    + unrecorded pages (places blocks) file (at / 256) (div_ceil (at + n) 256 - at / 256))
    ⊎ ((t.sequence ≡ 18446744073709551615) ⊎ HasRivals pages (places blocks)))

-- what a write says after calls that only look, said of the flash before them
pub fails_alone : (a b : FlashMedium) (s t : LayerState) (file at n : ℕ) → b.state ≡ a.state → b.blocks ≡ a.blocks
    → IsSoundLayer b s → t.has_rivals ≡ s.has_rivals
    → EndsTooLate at n ⊎ (WantsTooMany b file at n ⊎ StopsAdding t) → FailsAlone a t.sequence file at n
fails_alone a b s t file at n state blocks sound has_rivals why =
    let here : Fails b.state.pages b.blocks t file at n = ⊎_elim
    (λ late. inl late)
    (λ other. inr (⊎_elim
    (λ many. inl many)
    (λ stops. inr (⊎_elim (λ last. inl last) (λ rival. inr (sound.rivals (sym has_rivals ∙ rival))) stops))
    other))
    why in
    subst (λ k. Fails a.state.pages k t file at n) blocks
    (subst (λ (q : FlashState). Fails q.pages b.blocks t file at n) state here)

-- what holds of pages that calls only looked at holds of them before those calls, and the other way round
module _ (a b : FlashMedium) (state : b.state ≡ a.state) (blocks : b.blocks ≡ a.blocks) where
  pub seen_before : (P : Pages → ℕ → Type 0) → P b.state.pages b.blocks → P a.state.pages a.blocks
  seen_before P holds = subst (P a.state.pages) blocks (subst (λ (q : FlashState). P q.pages b.blocks) state holds)

  pub allowed_before : (file at n : ℕ) → IsAllowed b file at n → IsAllowed a file at n
  allowed_before file at n allowed = record {
    ends = allowed.ends;
    fits = seen_before (λ p k. page_count p (places k) + unrecorded p (places k) file (at / 256)
        (div_ceil (at + n) 256 - at / 256) ≤ page_limit k) allowed.fits;
    agreed = seen_before (λ p k. IsAgreed p (places k)) allowed.agreed;
  }

  pub takes_before : (d : FlashMedium) (file at n : ℕ) → TakesPages b d file at n → TakesPages a d file at n
  takes_before d file at n takes =
      seen_before (λ p k. page_count d.state.pages (places d.blocks)
      ≤ page_count p (places k) + unrecorded p (places k) file (at / 256) (div_ceil (at + n) 256 - at / 256)) takes

  -- a write that is refused changes no page
  pub refused_before : (d : FlashMedium) (file at n : ℕ)
      → (EndsTooLate at n ⊎ WantsTooMany b file at n → d.state ≡ b.state)
      → EndsTooLate at n ⊎ WantsTooMany a file at n → d.state ≡ a.state
  refused_before d file at n refused = seen_before
      (λ p k. EndsTooLate at n ⊎ (page_limit k < page_count p (places k)
      + unrecorded p (places k) file (at / 256) (div_ceil (at + n) 256 - at / 256)) → d.state ≡ a.state)
      (λ why. refused why ∙ state)
