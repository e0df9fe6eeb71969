-- A record is added to the block that is being filled, or what the call that failed may have left pends.
use Rattle.std.proofs.Common.{◌≡◌, ◌≢◌, ◌⊎◌, ℕ, ◌+◌, ◌*◌, ◌/◌, ◌%◌, ◌<◌, Bool, List, cond, get_or, length, Result, OnOk}
use Rattle.std.proofs.Common.{OnErr, refl, sym, ap, subst, ◌∙◌, inl, inr, ⊎_elim, arith}
use Rattle.std.specs.Prelude.{Option, Some, None, IsFalse, nat_eq, ◌&&◌}
use Rattle.flash_model.specs.Pages.{Pages, TornPage, program_page, blank_page}
use Rattle.flash_model.specs.State.{FlashState, IsStill, ProgramCase, FailsToProgram, programmed}
use Rattle.flash_model.specs.FlashMedium.{FlashMedium, IsLawfulFlash, FlashElapses, EachFlashCase}
use Rattle.flash_record.specs.PageRecord.{PageRecord, record_in}
use Rattle.flash_disk.specs.declared.table.FlashPage.{FlashPage}
use Rattle.flash_disk.specs.declared.layer.LayerState.{LayerState}
use Rattle.flash_disk.specs.Newest.{record_at, places}
use Rattle.flash_disk.specs.Known.{page_of}
use Rattle.flash_disk.specs.Entries.{Occupies}
use Rattle.flash_disk.specs.Learnt.{number, AddsRecord}
use Rattle.flash_disk.specs.FlashFiles.{flash_files}
use Rattle.flash_disk.specs.Does.{Does}
use Rattle.flash_disk.specs.PutPart.{PutPart, PutOrNot}
use Rattle.flash_disk.specs.Standing.{DenotesFiles}
use Rattle.flash_disk.specs.Sound.{files_on, Sound, IsSoundLayer, HasFreshPage, FitsIn, Enters, Pends, IsDescribedBy}
use Rattle.flash_disk.specs.Sound.{LeavesPut}
use Rattle.flash_disk.specs.Sound.{ShowsSame, ShowsPage, LeavesAdded}
use Rattle.flash_disk.specs.Apart.{copy_of, KeepsHeld}
use Rattle.flash_disk.proofs.Holding.{held_refl, held_same, held_added}
use Rattle.flash_disk.proofs.Standing.{HasSameRecords, records_agreed}
use Rattle.flash_disk.proofs.Growing.{adds_byte, adds_put, adds_agreed, grown_put}
use Rattle.flash_disk.proofs.Tearing.{IsTorn, nothing_there, torn_program, torn_is, torn_adds_there, torn_add}
use Rattle.flash_disk.proofs.Tearing.{whole_add, whole_torn}
use Rattle.flash_disk.proofs.Stretches.{does_nothing, does_then, does_weaken, program_does}
use Rattle.flash_disk.proofs.Entering.{sound_usable, records_usable, adds_usable}

-- nothing was put yet
pub nothing_put : (m : FlashMedium) (s : LayerState) → IsSoundLayer m s → (file at len : ℕ) (bytes : List ℕ)
    → LeavesPut file at bytes len m m.state.pages
nothing_put m s sound file at len bytes = record {
  put = inl refl;
  usable =
      sound_usable m.state.pages m.blocks s sound;
  agreed = λ all. all;
}

-- nor added
pub nothing_added : (m : FlashMedium) (s : LayerState) → IsSoundLayer m s → (block file at len : ℕ) (bytes : List ℕ)
    → LeavesAdded block file at bytes len m m.state.pages
nothing_added m s sound block file at len bytes = record {
  put = nothing_put m s sound file at len bytes;
  held = held_refl (copy_of file) block (places m.blocks) m.state.pages;
}

pub adds_nothing : (told : Bool) (m : FlashMedium) → IsLawfulFlash told m → (s : LayerState) → IsSoundLayer m s
    → (block file at len : ℕ) (bytes : List ℕ)
    → Does (LeavesAdded block file at bytes len m) m m
adds_nothing told m lawful s sound block file at len bytes = does_nothing m m (LeavesAdded block file at bytes len m)
    refl (λ x past. lawful.only_now x past) (nothing_added m s sound block file at len bytes)

-- no call was made
pub puts_nothing : (told : Bool) (m : FlashMedium) → IsLawfulFlash told m → (s : LayerState) → IsSoundLayer m s
    → (file at len : ℕ) (bytes : List ℕ)
    → Does (LeavesPut file at bytes len m) m m
puts_nothing told m lawful s sound file at len bytes = does_nothing m m (LeavesPut file at bytes len m) refl
    (λ x past. lawful.only_now x past) (nothing_put m s sound file at len bytes)

-- a record was added after a call that changed no byte
pub shown_after : (a b d : FlashMedium) (file page : ℕ) (bytes : List ℕ) → ShowsSame a b → ShowsPage b d file page bytes
    → ShowsPage a d file page bytes
shown_after a b d file page bytes same shown = λ f i. shown f i
    ∙ ap (λ z. cond (nat_eq f file && nat_eq (i / 256) page) (get_or bytes (i % 256) 0) z) (same f i)

module _ (m now : FlashMedium) (s u : LayerState) (place : FlashPage) (r : PageRecord) (whole : List ℕ)
    (sound : IsSoundLayer m s) (room : s.fill < 64) (fits : FitsIn m s r.file r.page r.len r.bytes)
    (full : length r.bytes ≡ 256)
    (at : place ≡ (let p : FlashPage = record { block = s.current; page = s.fill } in p))
    (sequence : r.sequence ≡ s.sequence + 1)
    (on : u ≡ record s { sequence = r.sequence; fill = 64 }) (is : record_in whole ≡ Some r) where
  abbrev pages : Pages
  pages = m.state.pages

  abbrev n : ℕ
  n = places m.blocks

  abbrev fresh : HasFreshPage pages m.blocks s
  fresh = sound.fresh room

  abbrev block_is : place.block ≡ s.current
  block_is = ap (λ p. p.block) at

  abbrev page_is : place.page ≡ s.fill
  page_is = ap (λ p. p.page) at

  small : place.page < 64
  small = omega (arith, page_is, room)

  block_in : place.block < m.blocks
  block_in = let within = fresh.within in omega (arith, block_is, within)

  within : number place < n
  within = omega (arith, small, block_in)

  blank : pages place.block place.page ≡ blank_page
  blank = subst (λ (p : FlashPage). pages p.block p.page ≡ blank_page) (sym at) fresh.blank

  apart : place.block ≢ s.spare
  apart = λ same. fresh.apart (sym block_is ∙ same)

  newer : (j : ℕ) (q : PageRecord) → j < n → record_at pages j ≡ Some q → q.sequence < r.sequence
  newer j q inside there = let le = sound.tops j q inside there in omega (arith, le, sequence)

  nothing : record_at pages (number place) ≡ None
  nothing = nothing_there pages place.block place.page small blank

  abbrev written : Pages
  written = program_page pages place.block place.page whole

  adds : AddsRecord pages written n place r
  adds = whole_add pages n place whole r small within blank is newer

  -- the state while the record is added
  abbrev pub adding : Option FlashPage → LayerState
  adding w = record s { sequence = r.sequence; fill = 64; unsure = w }

  still_sound : (w : Option FlashPage) → Sound pages m.blocks (adding w)
  still_sound w = record {
    knows = sound.knows;
    tops = λ j q inside there. (let less = newer j q inside there in omega (arith, less));
    strays = sound.strays;
    limit = sound.limit;
    files = sound.files;
    measured = sound.measured;
    counted = sound.counted;
    count = sound.count;
    memory = sound.memory;
    within = sound.within;
    is_spare = sound.is_spare;
    agreed = sound.agreed;
    rivals = sound.rivals;
    apart = sound.apart;
    fresh = λ more. absurd (omega (arith, more));
    empty = sound.empty;
  }

  entering : (w : Option FlashPage) (left : Pages) → TornPage place.block place.page pages left
      → AddsRecord pages left n place r
      → Enters pages left m.blocks (adding w) place r
  entering w left torn added = record {
    adds = added;
    fits = record { place = fits.place; no_shorter = fits.no_shorter; zeros = fits.zeros; grows = fits.grows };
    full = full;
    numbered = omega arith;
    elsewhere = torn;
    apart = apart;
    behind = λ _. small;
  }

  -- the record was added
  pub added_sound : now.state ≡ programmed m.state place.block place.page whole → now.blocks ≡ m.blocks
      → (after : LayerState)
      → ((old new : Pages) (b : ℕ) → Sound old b u → IsFalse u.has_rivals → Enters old new b u place r
      → Sound new b after) → IsSoundLayer now after
  added_sound done blocks after enters =
      let state : adding s.unsure ≡ u = sym on in
      subst (λ b. Sound now.state.pages b after) (sym blocks)
      (subst (λ (z : FlashState). Sound z.pages m.blocks after) (sym done)
      (enters pages written m.blocks
      (subst (Sound pages m.blocks) state (still_sound s.unsure))
      (subst (λ (q : LayerState). IsFalse q.has_rivals) state fresh.agreed)
      (subst (λ q. Enters pages written m.blocks q place r) state
      (entering s.unsure written (whole_torn pages place.block place.page whole) adds))))

  -- its page has an entry from then on
  pub added_entries : (after : LayerState)
      → ((old new : Pages) (b : ℕ) → Sound old b u → IsFalse u.has_rivals → Enters old new b u place r
      → Occupies u.table after.table (page_of r))
      → Occupies s.table after.table (page_of r)
  added_entries after enters =
      let state : adding s.unsure ≡ u = sym on in
      subst (λ table. Occupies table after.table (page_of r)) (ap (λ (q : LayerState). q.table) on)
      (enters pages written m.blocks
      (subst (Sound pages m.blocks) state (still_sound s.unsure))
      (subst (λ (q : LayerState). IsFalse q.has_rivals) state fresh.agreed)
      (subst (λ q. Enters pages written m.blocks q place r) state
      (entering s.unsure written (whole_torn pages place.block place.page whole) adds)))

  pub added_put : now.state ≡ programmed m.state place.block place.page whole → now.blocks ≡ m.blocks
      → PutPart r.file (256 * r.page) r.bytes r.len (files_on m) (files_on now)
  added_put done blocks = subst (λ b. PutPart r.file (256 * r.page) r.bytes r.len (files_on m)
      (flash_files now.state.pages b)) (sym blocks)
      (subst (λ (z : FlashState). PutPart r.file (256 * r.page) r.bytes r.len (files_on m)
      (flash_files z.pages m.blocks)) (sym done)
      (adds_put pages written m.blocks place r adds fits.no_shorter fits.grows full))

  pub added_shown : now.state ≡ programmed m.state place.block place.page whole → now.blocks ≡ m.blocks
      → ShowsPage m now r.file r.page r.bytes
  added_shown done blocks = subst (λ b. ShowsPage m (record now { blocks = b }) r.file r.page r.bytes) (sym blocks)
      (subst (λ (z : FlashState). ShowsPage m (record now { state = z; blocks = m.blocks }) r.file r.page r.bytes)
      (sym done)
      (adds_byte pages written n place r adds))

  -- what a call that failed left pends
  pub failed_holds : FailsToProgram place.block place.page whole m.state now.state → now.blocks ≡ m.blocks
      → IsDescribedBy now (record u { unsure = Some place })
  failed_holds failed blocks =
      let left = now.state.pages in
      let torn = subst (IsTorn pages left (number place)) is
      (torn_program pages place.block place.page small blank left whole failed.torn failed.plain) in
      let state : adding (Some place) ≡ record u { unsure = Some place } =
      ap (λ (q : LayerState). let t : LayerState = record q { unsure = Some place } in t) (sym on) in
      subst (IsDescribedBy now) state (record {
        sure = pages;
        sound = subst (λ b. Sound pages b (adding (Some place))) (sym blocks) (still_sound (Some place));
        pends = subst (λ b. Pends pages left b (adding (Some place)) place) (sym blocks) (record {
          agreed = fresh.agreed;
          small = small;
          within = block_in;
          apart = apart;
          behind = λ _. small;
          nothing = nothing;
          elsewhere = failed.torn;
          may_enter = λ q there. (let same : q ≡ r = torn_is pages left (number place) r q torn there in
              subst (Enters pages left m.blocks (adding (Some place)) place) (sym same)
              (entering (Some place) left failed.torn
              (subst (AddsRecord pages left n place) same (torn_adds_there pages left n place r small within nothing
              newer
              torn q there))));
        });
      })

  abbrev pub Puts : Pages → Type 0
  Puts = LeavesAdded s.current r.file (256 * r.page) r.bytes r.len m

  at_current : number place / 64 ≡ s.current
  at_current = let few = small in let here = block_is in
      (let is : number place / 64 ≡ s.current = omega (arith, few, here) in is)

  only_there : (left : Pages) → HasSameRecords pages left ⊎ AddsRecord pages left n place r
      → KeepsHeld (copy_of r.file) s.current n pages left
  only_there left grows = ⊎_elim
      (λ same. held_same pages left (copy_of r.file) s.current n same)
      (λ added. held_added pages left (copy_of r.file) s.current n place r added at_current refl)
      grows

  puts : (left : Pages) → HasSameRecords pages left ⊎ AddsRecord pages left n place r
      → LeavesPut r.file (256 * r.page) r.bytes r.len m left
  puts left grows = record {
    put = grown_put pages left m.blocks place r grows fits.no_shorter fits.grows full;
    usable = ⊎_elim
        (λ same. records_usable pages left m.blocks same (sound_usable pages m.blocks s sound))
        (λ added. adds_usable pages left m.blocks s place r sound added fits.place apart)
        grows;
    agreed = λ all. ⊎_elim
        (λ same. records_agreed pages left same n all)
        (λ added. adds_agreed pages left n place r added all)
        grows;
  }

  leaves : (left : Pages) → HasSameRecords pages left ⊎ AddsRecord pages left n place r → Puts left
  leaves left grows = record { put = puts left grows; held = only_there left grows }

  -- it was added, or nothing was
  pub add_does : {T E : Type 0} → (result : Result T E)
      → OnOk result (now.state ≡ programmed m.state place.block place.page whole)
      → OnErr result (FailsToProgram place.block place.page whole m.state now.state)
      → EachFlashCase (λ c. IsStill m.state c ⊎ (IsStill now.state c
      ⊎ ProgramCase place.block place.page whole m.state c)) m now → Does Puts m now
  add_does result done failed cases = program_does m now Puts place.block place.page whole result done failed cases
      (nothing_added m s sound s.current r.file (256 * r.page) r.len r.bytes)
      (leaves written (inr adds))
      (λ left torn plain. leaves left (torn_add pages n place whole r small within blank is newer left torn plain))

module _ (a b c : FlashMedium) (first : FlashElapses a b) (early : Does (DenotesFiles a) a b) (file at len : ℕ)
    (bytes : List ℕ) where
  same_files : files_on b ≡ files_on a
  same_files = ap (λ k. flash_files b.state.pages k) first.blocks ∙ early.now.files_are

  -- what is left of the part that is put after it
  puts_since : (left : Pages) → LeavesPut file at bytes len b left → LeavesPut file at bytes len a left
  puts_since left put_there =
      let over = subst (λ k. LeavesPut file at bytes len (record b { blocks = k }) left) first.blocks put_there in
      record {
        put = subst (λ f. PutOrNot file at bytes len f (flash_files left a.blocks)) early.now.files_are over.put;
        usable = over.usable;
        agreed = λ all. over.agreed (early.now.agreed all);
      }

  -- nothing is put in it
  not_put : (left : Pages) → DenotesFiles a left → LeavesPut file at bytes len a left
  not_put left stands = record { put = inl stands.files_are; usable = stands.usable; agreed = stands.agreed }

  -- such a stretch alone
  pub puts_not : Does (LeavesPut file at bytes len a) a b
  puts_not = does_weaken a b (DenotesFiles a) (LeavesPut file at bytes len a) not_put early

  -- a part is put after a stretch that changes no file
  pub puts_then : FlashElapses b c → Does (LeavesPut file at bytes len b) b c → Does (LeavesPut file at bytes len a) a c
  puts_then second late = does_then a b c (LeavesPut file at bytes len a) first second puts_not
      (does_weaken b c (LeavesPut file at bytes len b) (LeavesPut file at bytes len a) puts_since late)

-- what is put, and what the blocks hold, of a record that was added
pub added_puts : (block file at : ℕ) (bytes : List ℕ) (len : ℕ) (a b : FlashMedium)
    → Does (LeavesAdded block file at bytes len a) a b → Does (LeavesPut file at bytes len a) a b
added_puts block file at bytes len a b = does_weaken a b (LeavesAdded block file at bytes len a)
    (LeavesPut file at bytes len a) (λ pages added. added.put)

pub added_held : (block file at : ℕ) (bytes : List ℕ) (len : ℕ) (a b : FlashMedium)
    → Does (LeavesAdded block file at bytes len a) a b
    → Does (KeepsHeld (copy_of file) block (places a.blocks) a.state.pages) a b
added_held block file at bytes len a b = does_weaken a b (LeavesAdded block file at bytes len a)
    (KeepsHeld (copy_of file) block (places a.blocks) a.state.pages) (λ pages added. added.held)
