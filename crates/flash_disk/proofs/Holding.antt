-- Blocks that hold one copy alone go on doing so, whatever is lost of what does not count and whatever of that copy
-- comes; and so the copies of a flash stay apart.
use Rattle.std.proofs.Common.{◌≡◌, ◌⊎◌, ℕ, ◌+◌, ◌/◌, ◌≤◌, Bool, refl, sym, ap, subst, ◌∙◌, inl, inr}
use Rattle.std.proofs.Common.{List, Result, Ok, Err, ⊎_elim, arith}
use Rattle.std.specs.Prelude.{Option, Some, None, OnOk, OnErr, IsTrue, nat_eq}
use Rattle.std.proofs.lemmas.Bool.{cases_eq, and_parts, eqb-true}
use Rattle.std.proofs.lemmas.Option.{same_Some}
use Rattle.flash_model.specs.Pages.{Pages, IsPlain}
use Rattle.flash_model.specs.State.{FlashState, FlashCase, IsStill, announce_write}
use Rattle.flash_model.specs.FlashMedium.{FlashMedium, IsLawfulFlash, FlashElapses, EachFlashCase}
use Rattle.flash_record.specs.PageRecord.{PageRecord}
use Rattle.flash_disk.specs.declared.table.FilePage.{FilePage}
use Rattle.flash_disk.specs.declared.table.FlashPage.{FlashPage}
use Rattle.flash_disk.specs.declared.table.Newest.{Newest}
use Rattle.flash_disk.specs.declared.table.Table.{Table}
use Rattle.flash_disk.specs.Newest.{Placed, record_at, newest, places}
use Rattle.flash_disk.specs.Known.{known}
use Rattle.flash_disk.specs.Learnt.{number, AddsRecord, Led, LedOf, IsLed}
use Rattle.flash_disk.specs.Does.{Does}
use Rattle.flash_disk.specs.Apart.{copy_of, IsApart, HoldsOneCopy, KeepsHeld, StandApart, HasNoRoom}
use Rattle.flash_disk.specs.LedApart.{LeadsOnly, LeadsSome}
use Rattle.flash_disk.specs.KeepsApart.{MayMix, StaysApart, KeepsApart, HasHome, LackedRoom, StandsOrLacked, ApartSince}
use Rattle.flash_disk.specs.Looks.{KeepsPages, still_case}
use Rattle.flash_disk.specs.Writes.{WritesInto}
use Rattle.flash_disk.proofs.Programming.{placed, either}
use Rattle.flash_disk.proofs.Growing.{by_page}
use Rattle.flash_disk.proofs.Standing.{SaysAlike, said_before, is_newest_of, HasSameRecords, records_newest}
use Rattle.flash_disk.proofs.Tearing.{IsTorn, torn_is}

-- ---- pages

module _ (copy home n : ℕ) where
  pub held_refl : (pages : Pages) → KeepsHeld copy home n pages pages
  held_refl pages = λ block own fits only. only

  pub held_then : (a b c : Pages) → KeepsHeld copy home n a b → KeepsHeld copy home n b c → KeepsHeld copy home n a c
  held_then a b c first second = λ block own fits only. second block own fits (first block own fits only)

-- the file of a newest record
file_of : (pages : Pages) (file page n : ℕ) (x : Placed) → newest pages file page n ≡ Some x → x.says.file ≡ file
file_of pages file page n x found =
    let is = is_newest_of pages file page n x found in
    eqb-true x.says.file file (and_parts (nat_eq x.says.file file) (nat_eq x.says.page page) is.of_page).0

module _ (old new : Pages) (copy home n : ℕ) where
  -- no record changed
  pub held_same : HasSameRecords old new → KeepsHeld copy home n old new
  held_same same = λ block own fits only file page x found j inside at there.
      only file page x (sym (records_newest old new same file page n) ∙ found) j inside at (sym (same j) ∙ there)

  -- nothing that counts was lost
  pub held_lost : SaysAlike old new n → ((j : ℕ) (q : PageRecord) → record_at new j ≡ Some q
      → record_at old j ≡ Some q) → KeepsHeld copy home n old new
  held_lost alike were = λ block own fits only file page x found j inside at there.
      let before = said_before old new n alike file page x found in
      only file page before.0 before.1 j inside at (were j x.says there ∙ ap Some (sym before.2))

  -- a record that counts was copied into the block, or its copying was cut short
  pub held_copied : SaysAlike old new n → (i : ℕ) (r : PageRecord) → IsTorn old new i (Some r) → i / 64 ≡ home
      → copy_of r.file ≡ copy → KeepsHeld copy home n old new
  held_copied alike i r torn at_home of_copy = λ block own fits only file page x found j inside at there.
      let before = said_before old new n alike file page x found in
      ⊎_elim
      (λ here.
      (let same : x.says ≡ r = torn_is old new i r x.says torn
      (subst (λ k. record_at new k ≡ Some x.says) here there) in
      let into : block ≡ home = sym at ∙ (ap (λ k. k / 64) here ∙ at_home) in
      ap copy_of (sym (file_of new file page n x found)) ∙ (ap (λ (q : PageRecord). copy_of q.file) same
      ∙ (of_copy ∙ fits into))))
      (λ apart. only file page before.0 before.1 j inside at
      (sym (torn.elsewhere j apart) ∙ (there ∙ ap Some (sym before.2))))
      (cases_eq j i)

  -- a new record came to be in the block
  pub held_added : (place : FlashPage) (r : PageRecord) → AddsRecord old new n place r → number place / 64 ≡ home
      → copy_of r.file ≡ copy → KeepsHeld copy home n old new
  held_added place r adds at_home of_copy = λ block own fits only file page x found j inside at there.
      ⊎_elim
      (λ here.
      (let into : block ≡ home = sym at ∙ (ap (λ k. k / 64) here.0 ∙ at_home) in
      ap copy_of (sym (file_of new file page n x found)) ∙ (ap (λ (q : PageRecord). copy_of q.file) here.1
      ∙ (of_copy ∙ fits into))))
      (λ was. ⊎_elim
      (λ page_is.
      (let is : placed old new n place r adds ≡ x =
      same_Some (placed old new n place r adds) x (sym page_is.2 ∙ found) in
      let says : r ≡ x.says = ap (λ z. z.says) is in
      let less = adds.newer j x.says inside was in
      let e : r.sequence ≡ x.says.sequence = ap (λ (q : PageRecord). q.sequence) says in
      absurd (omega (arith, less, e))))
      (λ other. only file page x (sym other.1 ∙ found) j inside at was)
      (by_page old new n place r adds file page))
      (either old new n place r adds j x.says there)

-- where a block may come to hold a copy, the copies still stand apart
pub stand_held : (old new : Pages) (blocks copy home : ℕ) → KeepsHeld copy home (places blocks) old new
    → HoldsOneCopy old (places blocks) home copy → StandApart old blocks → StandApart new blocks
stand_held old new blocks copy home held only stand block = ⊎_elim
    (λ same. (
      copy,
      held block copy (λ _. refl) (subst (λ b. HoldsOneCopy old (places blocks) b copy) (sym same) only),
    ))
    (λ apart. let own = stand block in (own.0, held block own.0 (λ same. absurd (apart same)) own.1))
    (cases_eq block home)

-- copies that stand apart are apart
pub stand_apart : (pages : Pages) (blocks : ℕ) → StandApart pages blocks → IsApart pages blocks
stand_apart pages blocks stand block =
    let own = stand block in (
      own.0,
      λ file page x found other.
          let is = is_newest_of pages file page (places blocks) x found in (
            x.place,
            is.within,
            (λ here. other (own.1 file page x found x.place is.within here is.there)),
            is.there,
          ),
    )

-- ---- what the table says of it

led_newest : (pages : Pages) (n : ℕ) (e : Newest) (file page : ℕ) (best : Option Placed)
    → newest pages file page n ≡ best → LedOf pages n (Some e) best
    → (x : Placed) × (newest pages file page n ≡ Some x) × Led pages n e x
led_newest pages n e file page None is led = absurd led
led_newest pages n e file page (Some x) is led = (x, is, led)

module _ (pages : Pages) (blocks : ℕ) (table : Table) (led : IsLed pages (places blocks) table) where
  -- the newest record to which an entry leads, or an equal one
  pub leads_to : (key : FilePage) (e : Newest) → known table key ≡ Some e
      → (x : Placed) × (newest pages key.file key.page (places blocks) ≡ Some x) × Led pages (places blocks) e x
  leads_to key e is = led_newest pages (places blocks) e key.file key.page
      (newest pages key.file key.page (places blocks)) refl
      (subst (λ o. LedOf pages (places blocks) o (newest pages key.file key.page (places blocks))) is (led.says key))

  pub leads_only : (block copy : ℕ) → HoldsOneCopy pages (places blocks) block copy → LeadsOnly table copy block
  leads_only block copy only = λ key e is at.
      let found = leads_to key e is in
      let small = found.2.leads.small in
      only key.file key.page found.0 found.1 (number e.place) found.2.within
      (let here : number e.place / 64 ≡ block = omega (arith, at, small) in here) found.2.leads.there

  -- where copies stand apart, a block with one record of a copy that counts holds only that copy
  pub holds_some : (block copy : ℕ) → LeadsSome table copy block → StandApart pages blocks
      → HoldsOneCopy pages (places blocks) block copy
  holds_some block copy some stand =
      let own = stand block in
      let same : own.0 ≡ copy = sym (leads_only block own.0 own.1 some.0 some.1 some.2 some.3) ∙ some.4 in
      subst (HoldsOneCopy pages (places blocks) block) same own.1

-- ---- calls

module _ (copy : ℕ) (a b : FlashMedium) where
  -- calls in all of which a block holds one copy alone, be it this one or another
  pub held_apart : (own home : ℕ) → Does (KeepsHeld own home (places a.blocks) a.state.pages) a b
      → HoldsOneCopy a.state.pages (places a.blocks) home own → KeepsApart copy a b
  held_apart own home does only = record {
    now = λ many stand. inl (stand_held a.state.pages b.state.pages a.blocks own home does.now only stand);
    during = λ c past plain many stand. inl (stand_held a.state.pages c.left a.blocks own home
        ((does.during c past).left plain) only stand);
  }

  pub does_apart : (home : ℕ) → Does (KeepsHeld copy home (places a.blocks) a.state.pages) a b
      → HoldsOneCopy a.state.pages (places a.blocks) home copy → KeepsApart copy a b
  does_apart home = held_apart copy home

  -- calls that bring no record at all
  pub loses_apart : Does (λ pages. (home : ℕ) → KeepsHeld copy home (places a.blocks) a.state.pages pages) a b
      → KeepsApart copy a b
  loses_apart does = record {
    now = λ many stand. inl (over b.state.pages does.now stand);
    during = λ c past plain many stand. inl (over c.left ((does.during c past).left plain) stand);
  }
    where
      over : (pages : Pages) → ((home : ℕ) → KeepsHeld copy home (places a.blocks) a.state.pages pages)
          → StandApart a.state.pages a.blocks → StandApart pages a.blocks
      over pages held stand block = let own = stand block in (
        own.0,
        held (block + 1) block own.0 (λ same. absurd (omega (arith, same))) own.1,
      )

  still_apart : (pages : Pages) → pages ≡ a.state.pages → StaysApart copy a b pages
  still_apart pages same = λ many stand. inl (subst (λ p. StandApart p a.blocks) (sym same) stand)

  -- calls that change no page
  pub pages_apart : b.state.pages ≡ a.state.pages → EachFlashCase (λ c. IsStill a.state c ⊎ IsStill b.state c) a b
      → KeepsApart copy a b
  pages_apart pages cases = record {
    now = still_apart b.state.pages pages;
    during = λ c past plain. still_apart c.left (⊎_elim (λ still. still.left) (λ still. still.left ∙ pages)
        (cases c past));
  }

  -- calls that only look
  pub look_apart : b.state ≡ a.state → EachFlashCase (IsStill a.state) a b → KeepsApart copy a b
  look_apart state looks = pages_apart (ap (λ (s : FlashState). s.pages) state) (λ c past. inl (looks c past))

  -- calls after a moment without room
  pub mixes_apart : (16 ≤ a.blocks → StandApart a.state.pages a.blocks → MayMix copy a b) → KeepsApart copy a b
  mixes_apart mix = record {
    now = λ many stand. inr (mix many stand);
    during = λ c past plain many stand. inr (mix many stand);
  }

-- an announcement changes no page, whether it fails or not
pub failed_apart : (copy : ℕ) (a b : FlashMedium) {T E : Type 0} (result : Result T E) (state : FlashState)
    → OnOk result (b.state ≡ state) → OnErr result (b.state ≡ a.state)
    → EachFlashCase (λ c. IsStill a.state c ⊎ IsStill b.state c) a b
    → state.pages ≡ a.state.pages → KeepsApart copy a b
failed_apart copy a b (Ok x) state done failed cases same =
    pages_apart copy a b (ap (λ (s : FlashState). s.pages) done ∙ same) cases
failed_apart copy a b (Err e) state done failed cases same =
    pages_apart copy a b (ap (λ (s : FlashState). s.pages) failed) cases

-- no call at all
pub none_apart : (copy : ℕ) (told : Bool) (m : FlashMedium) → IsLawfulFlash told m → KeepsApart copy m m
none_apart copy told m lawful = look_apart copy m m refl (λ c past. lawful.only_now c past)

module _ (copy : ℕ) (a b c : FlashMedium) (first : FlashElapses a b) (second : FlashElapses b c) where
  pub mix_early : MayMix copy a b → MayMix copy a c
  mix_early mix = (mix.0, second.keeps a.moment (still_case mix.0) first.later mix.1, mix.2, mix.3)

  mix_late : MayMix copy b c → MayMix copy a c
  mix_late mix = (
    mix.0,
    second.adds a.moment (still_case mix.0) first.later mix.1,
    subst (StandApart mix.0.pages) first.blocks mix.2,
    subst (λ k. HasNoRoom mix.0.pages k copy) first.blocks mix.3,
  )

  module _ (early : KeepsApart copy a b) (P : Type 0) (given : 16 ≤ a.blocks → StandApart a.state.pages a.blocks
      → P ⊎ MayMix copy a b) (late : P → KeepsApart copy b c) where
    over : (pages : Pages) → (KeepsApart copy b c → StaysApart copy b c pages) → StaysApart copy a c pages
    over pages stays many stand = ⊎_elim
        (λ holds. ⊎_elim
        (λ between. ⊎_elim
        (λ on. inl (subst (StandApart pages) first.blocks on))
        (λ mix. inr (mix_late mix))
        (stays (late holds) (subst (λ (k : ℕ). 16 ≤ k) (sym first.blocks) many)
        (subst (StandApart b.state.pages) (sym first.blocks) between)))
        (λ mix. inr (mix_early mix))
        (early.now many stand))
        (λ mix. inr (mix_early mix))
        (given many stand)

    -- one stretch after the other, where the second needs what the first left
    pub apart_if : KeepsApart copy a c
    apart_if = record {
      now = over c.state.pages (λ kept. kept.now);
      during = λ x past plain. ⊎_elim
          (λ before many stand. ⊎_elim (λ on. inl on) (λ mix. inr (mix_early mix))
          (early.during x before plain many stand))
          (λ since. over x.left (λ kept. kept.during x since plain))
          (second.nothing_else a.moment x first.later past);
    }

  -- one stretch after the other
  pub apart_then : KeepsApart copy a b → KeepsApart copy b c → KeepsApart copy a c
  apart_then early late = apart_if early (Unit {0}) (λ many stand. inl tt) (λ _. late)

  -- and what the second left
  pub home_then : (block : ℕ) → KeepsApart copy a b → HasHome copy b c block → HasHome copy a c block
  home_then block early home many stand = ⊎_elim
      (λ between. ⊎_elim inl (λ mix. inr (mix_late mix))
      (home (subst (λ (k : ℕ). 16 ≤ k) (sym first.blocks) many)
      (subst (StandApart b.state.pages) (sym first.blocks) between)))
      (λ mix. inr (mix_early mix))
      (early.now many stand)

-- what stood apart since a moment does so after calls that change no page, or that write a file as long as there is room
module _ (a b : FlashMedium) (time : FlashElapses a b) (t : ℕ) (le : t ≤ a.moment) (was : ApartSince a t) where
  still_lacked : LackedRoom a t → LackedRoom b t
  still_lacked lacked = record {
    between = lacked.between;
    past = time.keeps t (still_case lacked.between) le lacked.past;
    earlier = lacked.earlier;
    write = lacked.write;
    last = lacked.last;
    apart = subst (StandApart lacked.between.pages) (sym time.blocks) lacked.apart;
    no_room = subst (λ k. HasNoRoom lacked.between.pages k (copy_of lacked.write.file)) (sym time.blocks)
        lacked.no_room;
  }

  stood_before : (pages : Pages) → StandsOrLacked a t pages → StandsOrLacked b t pages
  stood_before pages stands = ⊎_elim
      (λ stand. inl (subst (StandApart pages) (sym time.blocks) stand))
      (λ lacked. inr (still_lacked lacked))
      stands

  since_then : StandsOrLacked b t b.state.pages
      → ((c : FlashCase) → b.since a.moment c → IsPlain c.before c.whole c.left → StandsOrLacked b t c.left)
      → ApartSince b t
  since_then now during = record {
    many = subst (λ (k : ℕ). 16 ≤ k) (sym time.blocks) was.many;
    now = now;
    during = λ c past plain. ⊎_elim
        (λ early. stood_before c.left (was.during c early plain))
        (λ since. during c since plain)
        (time.nothing_else t c le past);
  }

  pub keeps_since : KeepsPages a b → ApartSince b t
  keeps_since keeps = since_then (same b.state.pages keeps.now) (λ c since plain. same c.left (keeps.during c since))
    where
      same : (pages : Pages) → pages ≡ a.state.pages → StandsOrLacked b t pages
      same pages is = subst (StandsOrLacked b t) (sym is) (stood_before a.state.pages was.now)

  module _ (file at : ℕ) (bytes : List ℕ) (writes : WritesInto file at bytes a b) where
    -- there was no room on pages on which the write was announced
    announced_lacked : (s : FlashState) → b.since a.moment (still_case s)
        → s.announced ≡ (announce_write a.state file at bytes).announced → StandApart s.pages a.blocks
        → HasNoRoom s.pages a.blocks (copy_of file) → LackedRoom b t
    announced_lacked s past announced stand none = record {
      between = s;
      past = time.adds t (still_case s) le past;
      earlier = a.state.announced;
      write = record { file = file; at = at; bytes = bytes };
      last = announced;
      apart = subst (StandApart s.pages) (sym time.blocks) stand;
      no_room = subst (λ k. HasNoRoom s.pages k (copy_of file)) (sym time.blocks) none;
    }

    mix_lacked : b.since a.moment (still_case (announce_write a.state file at bytes)) → MayMix (copy_of file) a b
        → LackedRoom b t
    mix_lacked first mix = ⊎_elim
        (λ still. announced_lacked (announce_write a.state file at bytes) first refl
        (subst (λ p. StandApart p a.blocks) still.left mix.2)
        (subst (λ p. HasNoRoom p a.blocks (copy_of file)) still.left mix.3))
        (λ leaves. announced_lacked mix.0 mix.1 leaves.announced mix.2 mix.3)
        (writes.during (still_case mix.0) mix.1)

    stays_after : b.since a.moment (still_case (announce_write a.state file at bytes)) → (pages : Pages)
        → StaysApart (copy_of file) a b pages → StandsOrLacked b t pages
    stays_after first pages stays = ⊎_elim
        (λ stood. ⊎_elim
        (λ stand. inl (subst (StandApart pages) (sym time.blocks) stand))
        (λ mix. inr (mix_lacked first mix))
        (stays was.many stood))
        (λ lacked. inr (still_lacked lacked))
        was.now

    pub apart_since : KeepsApart (copy_of file) a b → ApartSince b t
    apart_since kept = ⊎_elim
        keeps_since
        (λ first. since_then (stays_after first b.state.pages kept.now)
        (λ c since plain. stays_after first c.left (kept.during c since plain)))
        writes.first

-- there is no room at this moment
pub no_room_now : (copy : ℕ) (told : Bool) (m now : FlashMedium) → IsLawfulFlash told m → IsTrue told
    → FlashElapses m now → StandApart m.state.pages m.blocks → HasNoRoom m.state.pages m.blocks copy
    → MayMix copy m now
no_room_now copy told m now lawful tells time stand room = (
  m.state,
  time.keeps m.moment (still_case m.state) (omega arith) (lawful.counts_now tells m.moment (still_case m.state)
      (omega arith) (record { before = refl; whole = refl; left = refl; settled = refl; announced = refl })),
  stand,
  room,
)

-- after a look, a block that holds a record of the copy that counts holds it alone
pub goes_on : (copy : ℕ) (m look : FlashMedium) → look.state ≡ m.state → look.blocks ≡ m.blocks → (table : Table)
    → IsLed m.state.pages (places m.blocks) table → table.blocks ≡ m.blocks → (block : ℕ)
    → (16 ≤ table.blocks → LeadsSome table copy block) → HasHome copy m look block
goes_on copy m look state blocks table led blocks_are block some many stand = inl
    (subst (λ k. HoldsOneCopy look.state.pages (places k) block copy) (sym blocks)
    (subst (λ (z : FlashState). HoldsOneCopy z.pages (places m.blocks) block copy) (sym state)
    (holds_some m.state.pages m.blocks table led block copy (some (omega (arith, many, blocks_are))) stand)))

-- no call but a failure of the disk's own
pub fault_apart : (copy : ℕ) {F : Type 0} (told : Bool) (medium : F → FlashMedium) (a b : F) → b ≡ a
    → IsLawfulFlash told (medium a) → KeepsApart copy (medium a) (medium b)
fault_apart copy told medium a b same lawful = subst (λ f. KeepsApart copy (medium a) (medium f)) (sym same)
    (none_apart copy told (medium a) lawful)
