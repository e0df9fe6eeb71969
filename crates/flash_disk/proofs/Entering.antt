-- What is kept stays fit when a record comes to be in the block that is being filled.
use Rattle.std.proofs.Common.{◌≡◌, ◌≢◌, ◌⊎◌, ℕ, ◌+◌, ◌/◌, ◌<◌, ◌≤◌, List, Bool, true, false, cond, refl, sym, ap, subst}
use Rattle.std.proofs.Common.{◌∙◌, inl, inr, ⊎_elim, arith, true≢false, eq-eqb}
use Rattle.std.specs.Prelude.{Option, Some, None, IsTrue, IsFalse, IsSome, max, is_some, is_none, vec_capacity}
use Rattle.std.specs.HashMap.{get, hash_map_len, spare}
use Rattle.std.proofs.lemmas.Bool.{cases_eq, ne_eqb}
use Rattle.std.proofs.lemmas.Option.{same_Some, none-some}
use Rattle.flash_model.specs.Pages.{Pages, TornPage}
use Rattle.flash_model.specs.FlashMedium.{FlashMedium}
use Rattle.flash_record.specs.PageRecord.{PageRecord, record_in}
use Rattle.flash_disk.specs.declared.table.FilePage.{FilePage}
use Rattle.flash_disk.specs.declared.table.FlashPage.{FlashPage}
use Rattle.flash_disk.specs.declared.table.Newest.{Newest}
use Rattle.flash_disk.specs.declared.table.Table.{Table}
use Rattle.flash_disk.specs.declared.layer.LayerState.{LayerState}
use Rattle.flash_disk.specs.Newest.{Placed, record_at, newest, places, page_count, IsUsable}
use Rattle.flash_disk.specs.Known.{same_page, page_of, known, page_len, limit_of, len_in, len_known, HasLenIn, HasLen}
use Rattle.flash_disk.specs.Known.{SetsEntry, Lengthens}
use Rattle.flash_disk.specs.Counted.{IsCountedTable}
use Rattle.flash_disk.specs.Learnt.{number, Led, LedOf, IsLed, AddsRecord, HasPlace, Tops}
use Rattle.flash_disk.specs.FlashFiles.{file_len, IsFileLen}
use Rattle.flash_disk.proofs.FlashFilesLaws.{file_len_is, one_len}
use Rattle.flash_disk.specs.Sound.{Sound, IsSoundLayer, Enters, Pends, PendsAt, IsDescribedBy}
use Rattle.flash_disk.specs.Emptied.{IsEmptyBlock}
use Rattle.flash_disk.proofs.Standing.{HasSameRecords, records_known, records_tops, records_alike, records_spare}
use Rattle.flash_disk.proofs.Standing.{records_count, records_agreed, same_said_strayless}
use Rattle.flash_disk.proofs.Tearing.{torn_same, torn_page}
use Rattle.flash_disk.proofs.Sparing.{LiesElsewhere, number_block}
use Rattle.flash_disk.proofs.Growing.{adds_agreed, adds_len, adds_other_len, adds_strayless, adds_spare, adds_is_spare}
use Rattle.flash_disk.proofs.Programming.{IsItsEntry, added, same_led, either}
use Rattle.flash_disk.proofs.Learning.{same_page_is, record_at_place}
use Rattle.flash_disk.proofs.PageCount.{count_adds}

-- an entry that leads to the newest record of a page
by_entry : (pages : Pages) (n : ℕ) (o : Option Newest) (best : Option Placed) (x : Placed) → best ≡ Some x
    → LedOf pages n o best
    → (e : Newest) × (o ≡ Some e) × Led pages n e x
by_entry pages n None None x is led = absurd (none-some x is)
by_entry pages n None (Some y) x is led = absurd led
by_entry pages n (Some e) None x is led = absurd led
by_entry pages n (Some e) (Some y) x is led = (e, refl, subst (Led pages n e) (same_Some y x is) led)

pub entry_of : (pages : Pages) (n : ℕ) (table : Table) → IsLed pages n table → (key : FilePage) (x : Placed)
    → newest pages key.file key.page n ≡ Some x
    → (e : Newest) × (known table key ≡ Some e) × Led pages n e x
entry_of pages n table led key x is = by_entry pages n (known table key) (newest pages key.file key.page n) x is
    (led.says key)

-- what is kept fits pages that can be opened
pub sound_usable : (pages : Pages) (blocks : ℕ) (s : LayerState) → Sound pages blocks s → IsUsable pages blocks
sound_usable pages blocks s sound = record {
  fits = (let count = sound.count in let fits = sound.counted.fits in let limit =
      sound.limit in omega (arith, count, fits, limit));
  block = s.spare;
  within = sound.within;
  spare = sound.is_spare;
}

-- the pages can still be opened where no record changed
pub records_usable : (old new : Pages) (blocks : ℕ) → HasSameRecords old new → IsUsable old blocks → IsUsable new blocks
records_usable old new blocks same usable = record {
  fits = (let count = records_count old new same (places blocks) in let fits =
      usable.fits in omega (arith, count, fits));
  block = usable.block;
  within = usable.within;
  spare = records_spare old new same (places blocks) usable.block usable.spare;
}

-- a page comes with its first record, as its entry does
one_comes : (pages : Pages) (n : ℕ) (o : Option Newest) (best : Option Placed) → LedOf pages n o best
    → ◌≡◌ {A = ℕ} (cond (is_none best) 1 0) (cond (is_some o) 0 1)
one_comes pages n None None led = refl
one_comes pages n None (Some x) led = absurd led
one_comes pages n (Some e) None led = absurd led
one_comes pages n (Some e) (Some x) led = refl

one_more_fits : (len limit : ℕ) (o : Option Newest) → len ≤ limit → IsSome o ⊎ (len < limit)
    → len + cond (is_some o) 0 1 ≤ limit
one_more_fits len limit None fits place = ⊎_elim (λ some. absurd (true≢false (sym some)))
    (λ room. (let e : len + 1 ≤ limit = omega (arith, room) in e)) place
one_more_fits len limit (Some e) fits place = let e : len + 0 ≤ limit = omega (arith, fits) in e

-- and where a record came for which there was a place
pub adds_usable : (old new : Pages) (blocks : ℕ) (s : LayerState) (place : FlashPage) (r : PageRecord)
    → Sound old blocks s
    → AddsRecord old new (places blocks) place r
    → HasPlace s.table (page_of r) → place.block ≢ s.spare → IsUsable new blocks
adds_usable old new blocks s place r sound adds has apart =
    let n = places blocks in
    let o = known s.table (page_of r) in record {
      fits = (let count = sound.count in let limit = sound.limit in
          let grown = count_adds old new n place r adds in
          let comes = one_comes old n o (newest old r.file r.page n) (sound.knows.led.says (page_of r)) in
          let fits = one_more_fits (page_len s.table) (limit_of s.table) o sound.counted.fits has in
          omega (arith, count, limit, grown, comes, fits));
      block = s.spare;
      within = sound.within;
      spare = adds_is_spare old new n place r adds s.spare sound.is_spare
          (λ same. apart (sym (number_block place adds.small) ∙ same));
    }

-- each newest record is outside the spare block, or an equal one does
pub lies_elsewhere : (pages : Pages) (blocks : ℕ) (s : LayerState) → Sound pages blocks s → IsFalse s.has_rivals
    → LiesElsewhere pages (places blocks) s.spare
lies_elsewhere pages blocks s sound agreed = λ file page x is.
    let key : FilePage = record { file = file; page = page } in
    let led = entry_of pages (places blocks) s.table sound.knows.led key x is in
    let apart = sound.apart agreed key led.0 led.1 in
    let small = led.2.leads.small in (
      number led.0.place,
      led.2.within,
      (λ same. apart (let e : led.0.place.block ≡ s.spare = omega (arith, same, small) in e)),
      led.2.leads.there,
    )

-- what is kept does not speak of the page in doubt, nor of what was moved
pub as_said : (pages : Pages) (blocks : ℕ) (s t : LayerState) → Sound pages blocks s
    → vec_capacity s.moved ≤ vec_capacity t.moved
    → Sound pages blocks (record s { unsure = t.unsure; moved = t.moved })
as_said pages blocks s t sound more = record {
  knows = sound.knows;
  tops = sound.tops;
  strays = sound.strays;
  limit = sound.limit;
  files = sound.files;
  measured = sound.measured;
  counted = sound.counted;
  count = sound.count;
  memory = (let memory = sound.memory in omega (arith, memory, more));
  within = sound.within;
  is_spare = sound.is_spare;
  agreed = sound.agreed;
  rivals = sound.rivals;
  apart = sound.apart;
  fresh = λ room. let fresh = sound.fresh room in record {
    agreed = fresh.agreed;
    within = fresh.within;
    apart =
        fresh.apart;
    blank = fresh.blank;
  };
  empty = sound.empty;
}

-- whether the spare block is known to be blank is said where it is
pub as_cleared : (pages : Pages) (blocks : ℕ) (s : LayerState) (cleared : Bool) → Sound pages blocks s
    → (IsTrue cleared → IsEmptyBlock pages s.spare) → Sound pages blocks (record s { cleared = cleared })
as_cleared pages blocks s cleared sound empty = record {
  knows = sound.knows;
  tops = sound.tops;
  strays = sound.strays;
  limit = sound.limit;
  files = sound.files;
  measured = sound.measured;
  counted = sound.counted;
  count = sound.count;
  memory = sound.memory;
  within = sound.within;
  is_spare = sound.is_spare;
  agreed = sound.agreed;
  rivals = sound.rivals;
  apart = sound.apart;
  fresh = λ room. let fresh = sound.fresh room in record {
    agreed = fresh.agreed;
    within = fresh.within;
    apart =
        fresh.apart;
    blank = fresh.blank;
  };
  empty = empty;
}

-- a torn page elsewhere leaves a blank block so
pub still_empty : (old new : Pages) (block page spare : ℕ) → TornPage block page old new → block ≢ spare
    → IsEmptyBlock old spare → IsEmptyBlock new spare
still_empty old new block page spare torn apart empty p small =
    torn spare p (inl (λ same. apart (sym same))) ∙ empty p small

-- pages with the same records, and blank where blank ones are to be filled
pub same_sound : (old new : Pages) (blocks : ℕ) (s : LayerState) → Sound old blocks s → IsFalse s.has_rivals
    → HasSameRecords old new
    → ((p : ℕ) → s.fill ≤ p → p < 64 → new s.current p ≡ old s.current p)
    → (IsTrue s.cleared → IsEmptyBlock new s.spare) → Sound new blocks s
same_sound old new blocks s sound no_rivals same blank empty = record {
  knows = records_known old new same (places blocks) s.table sound.knows;
  tops = records_tops old new same (places blocks) s.sequence sound.tops;
  strays = same_said_strayless old new (places blocks) (records_alike old new same (places blocks)) s.stray_end
      sound.strays;
  limit = sound.limit;
  files = sound.files;
  measured = sound.measured;
  counted = sound.counted;
  count = sound.count ∙ sym (records_count old new same (places blocks));
  memory = sound.memory;
  within = sound.within;
  is_spare = records_spare old new same (places blocks) s.spare sound.is_spare;
  agreed = λ agreed. records_agreed old new same (places blocks) (sound.agreed agreed);
  rivals = λ has_rivals. absurd (true≢false (sym has_rivals ∙ no_rivals));
  apart = sound.apart;
  fresh = λ room. let fresh = sound.fresh room in record {
    agreed = fresh.agreed;
    within = fresh.within;
    apart = fresh.apart;
    blank = blank s.fill (omega arith) room ∙ fresh.blank;
  };
  empty = empty;
}

-- a torn page before the blank ones leaves them so
pub still_blank : (old new : Pages) (block page current fill : ℕ) → TornPage block page old new
    → (block ≡ current → page < fill)
    → (p : ℕ) → fill ≤ p → p < 64 → new current p ≡ old current p
still_blank old new block page current fill torn behind p past small = torn current p (⊎_elim
    (λ here. inr (λ same. let before = behind (sym here) in omega (arith, before, same, past)))
    (λ other. inl other)
    (cases_eq current block))

-- what fits the pages is what was kept
pub sound_holds : (m : FlashMedium) (s : LayerState) → IsSoundLayer m s → s.unsure ≡ None → IsDescribedBy m s
sound_holds m s sound sure = record {
  sure = m.state.pages;
  sound = sound;
  pends = subst (PendsAt m.state.pages m.state.pages m.blocks s) (sym sure) refl;
}

-- nothing that is kept is in doubt
pub holds_sound : (m : FlashMedium) (s : LayerState) → IsDescribedBy m s → s.unsure ≡ None → IsSoundLayer m s
holds_sound m s described sure =
    let same : m.state.pages ≡ described.sure =
    subst (PendsAt described.sure m.state.pages m.blocks s) sure described.pends in
    subst (λ p. Sound p m.blocks s) (sym same) described.sound

-- a page in doubt was read
module _ (m now : FlashMedium) (s t : LayerState) (place : FlashPage) (described : IsDescribedBy m s)
    (is : s.unsure ≡ Some place)
    (pages : now.state.pages ≡ m.state.pages) (blocks : now.blocks ≡ m.blocks) (state : t ≡ s) (page : List ℕ)
    (read : place.block < m.blocks → place.page < 64 → page ≡ m.state.pages place.block place.page) where
  abbrev pub pends : Pends described.sure m.state.pages m.blocks s place
  pends = subst (PendsAt described.sure m.state.pages m.blocks s) is described.pends

  abbrev sure_state : LayerState
  sure_state = record t { unsure = None }

  was_sound : Sound described.sure m.blocks sure_state
  was_sound = subst (λ (q : LayerState). Sound described.sure m.blocks (record q { unsure = None })) (sym state)
      (as_said described.sure m.blocks s (record s { unsure = None }) described.sound (omega arith))

  at_place : record_at m.state.pages (number place) ≡ record_in page
  at_place = record_at_place m.state.pages place.block place.page pends.small
      ∙ ap record_in (sym (read pends.within pends.small))

  over_now : (P : Pages → ℕ → Type 0) → P m.state.pages m.blocks → P now.state.pages now.blocks
  over_now P holds_there = subst (λ b. P now.state.pages b) (sym blocks)
      (subst (λ p. P p m.blocks) (sym pages) holds_there)

  -- no record is in it
  pub nothing_there : record_in page ≡ None → Sound now.state.pages now.blocks sure_state
  nothing_there none = over_now (λ p b. Sound p b sure_state)
      (same_sound described.sure m.state.pages m.blocks sure_state was_sound
      (subst (λ (q : LayerState). IsFalse q.has_rivals) (sym state) pends.agreed)
      (torn_same described.sure m.state.pages (number place) (record_at m.state.pages (number place)) pends.nothing
      (torn_page described.sure place.block place.page m.state.pages pends.elsewhere) (at_place ∙ none))
      (still_blank described.sure m.state.pages place.block place.page t.current t.fill pends.elsewhere
      (subst (λ (q : LayerState). place.block ≡ q.current → place.page < q.fill) (sym state) pends.behind))
      (λ cleared. still_empty described.sure m.state.pages place.block place.page t.spare pends.elsewhere
      (subst (λ (q : LayerState). place.block ≢ q.spare) (sym state) pends.apart) (was_sound.empty cleared)))

  -- a record came to be in it
  pub one_there : (r : PageRecord) → record_in page ≡ Some r → (after : LayerState)
      → ((old new : Pages) (b : ℕ) → Sound old b sure_state → IsFalse t.has_rivals → Enters old new b sure_state place r
      → Sound new b after)
      → Sound now.state.pages now.blocks after
  one_there r some after enters = over_now (λ p b. Sound p b after) (enters described.sure m.state.pages m.blocks was_sound
      (subst (λ (q : LayerState). IsFalse q.has_rivals) (sym state) pends.agreed)
      (subst (λ (q : LayerState). Enters described.sure m.state.pages m.blocks (record q { unsure = None }) place r)
      (sym state)
      (let entering = pends.may_enter r (at_place ∙ some) in record {
        adds = entering.adds;
        fits = record {
          place = entering.fits.place;
          no_shorter = entering.fits.no_shorter;
          zeros =
              entering.fits.zeros;
          grows = entering.fits.grows;
        };
        full = entering.full;
        numbered = entering.numbered;
        elsewhere = entering.elsewhere;
        apart = entering.apart;
        behind = entering.behind;
      })))

module _ (old new : Pages) (blocks : ℕ) (s : LayerState) (place : FlashPage) (r : PageRecord)
    (sound : Sound old blocks s) (agreed : IsFalse s.has_rivals) (enters : Enters old new blocks s place r)
    (e : Newest) (is : IsItsEntry old new (places blocks) place r enters.adds e)
    (mid after : Table) (puts : SetsEntry s.table mid (page_of r) e) (mid_lens : mid.lens ≡ s.table.lens)
    (mid_limit : limit_of mid ≡ limit_of s.table)
    (done : Bool) (lengthened : IsTrue done → Lengthens mid after r.file r.len)
    (has : IsTrue done → (f : ℕ) → HasLen mid f ⊎ (f ≡ r.file) → HasLen after f)
    (succeeds : (0 < spare mid.lens) ⊎ HasLen mid r.file → IsTrue done)
    (takes : spare mid.lens ≤ spare after.lens + 1) (in_place : HasLen mid r.file → spare mid.lens ≤ spare after.lens)
    (records : after.newest ≡ mid.newest) (limit : limit_of after ≡ limit_of mid)
    (counted : IsCountedTable blocks s.table → e.place.block < blocks → IsCountedTable blocks after) where
  abbrev n : ℕ
  n = places blocks

  abbrev key : FilePage
  key = page_of r

  -- the page was known, and so was its file; or there was room for one page more
  was_known : (o : Option Newest) → known s.table key ≡ o
      → (HasLen mid r.file × (page_len mid ≡ page_len s.table))
      ⊎ ((page_len s.table < limit_of s.table) × (page_len mid ≡ page_len s.table + 1))
  was_known None none = inr (
    ⊎_elim (λ some. absurd (true≢false (sym (subst IsSome none some)))) (λ room. room) enters.fits.place,
    puts.len ∙ ap (λ o. page_len s.table + cond (is_some o) 0 1) none,
  )
  was_known (Some e) some = inl (
    subst (λ l. HasLenIn l r.file) (sym mid_lens) (sound.measured key e some),
    (let len = puts.len ∙ ap (λ o. page_len s.table + cond (is_some o) 0 1) some in omega (arith, len)),
  )

  abbrev lens_spare : spare mid.lens ≡ spare s.table.lens
  lens_spare = ap (λ l. spare l) mid_lens

  room_for_len : (0 < spare mid.lens) ⊎ HasLen mid r.file
  room_for_len = ⊎_elim
      (λ was. inr was.0)
      (λ new. inl (let room = new.0 in let files = sound.files in omega (arith, room, files, lens_spare)))
      (was_known (known s.table key) refl)

  did : IsTrue done
  did = succeeds room_for_len

  same_len : page_len after ≡ page_len mid
  same_len = ap (λ m. hash_map_len m) records

  same_limit : limit_of after ≡ limit_of s.table
  same_limit = limit ∙ mid_limit

  files_kept : limit_of after ≤ page_len after + spare after.lens
  files_kept = let files = sound.files in ⊎_elim
      (λ was. let len = was.1 in let place = in_place was.0 in
      omega (arith, len, place, files, lens_spare, same_len, same_limit))
      (λ new. let len = new.1 in omega (arith, len, takes, files, lens_spare, same_len, same_limit))
      (was_known (known s.table key) refl)

  known_now : (k : FilePage) → known after k ≡ cond (same_page key k) (Some e) (known s.table k)
  known_now k = ap (λ m. get same_page m k) records ∙ puts.known_is k

  -- an entry is the new one, or was there
  entry_by : (k : FilePage) (f : Newest) (b : Bool) → same_page key k ≡ b → cond b (Some e) (known s.table k) ≡ Some f
      → ((key ≡ k) × (e ≡ f)) ⊎ (known s.table k ≡ Some f)
  entry_by k f true same found = inl (same_page_is key k same, same_Some e f found)
  entry_by k f false other found = inr found

  entry_now : (k : FilePage) (f : Newest) → known after k ≡ Some f → ((key ≡ k) × (e ≡ f)) ⊎ (known s.table k ≡ Some f)
  entry_now k f found = entry_by k f (same_page key k) refl (sym (known_now k) ∙ found)

  was_len : (file : ℕ) → len_known s.table file ≡ file_len old n file
  was_len file = one_len old n file (len_known s.table file) (sound.knows.lens file)

  mid_len : (file : ℕ) → len_known mid file ≡ file_len old n file
  mid_len file = ap (λ l. len_in l file) mid_lens ∙ was_len file

  len_by : (file : ℕ) → len_known after file ≡ file_len new n file
  len_by file = lengthened did file ∙ ⊎_elim
      (λ own. ap (λ b. cond b (max (len_known mid file) r.len) (len_known mid file)) (eq-eqb file r.file own)
      ∙ subst (λ f. max (len_known mid f) r.len ≡ file_len new n f) (sym own)
      (let long = adds_len old new n place r enters.adds enters.fits.no_shorter in let was =
      mid_len r.file in let less = enters.fits.no_shorter in
      omega (arith, long, was, less)))
      (λ other. ap (λ b. cond b (max (len_known mid file) r.len) (len_known mid file)) (ne_eqb file r.file other)
      ∙ (mid_len file ∙ sym (adds_other_len old new n place r enters.adds file other)))
      (cases_eq file r.file)

  abbrev block_is : number place / 64 ≡ place.block
  block_is = let small = enters.adds.small in omega (arith, small)

  count_now : page_len after ≡ page_count new n
  count_now =
      let before = sound.count in
      let grown = count_adds old new n place r enters.adds in
      let comes = one_comes old n (known s.table key) (newest old r.file r.page n) (sound.knows.led.says key) in
      let len = puts.len in
      omega (arith, before, grown, comes, len, same_len)

  tops_now : Tops new n s.sequence
  tops_now = λ j q inside there. ⊎_elim
      (λ own. (let numbered = enters.numbered in let same : q.sequence ≡ r.sequence =
      ap (λ z. z.sequence) own.1 in omega (arith, numbered, same)))
      (λ was. sound.tops j q inside was)
      (either old new n place r enters.adds j q there)

  pub entered : Sound new blocks (record s { table = after })
  entered = record {
    knows = record {
      led = same_led old new n place r enters.adds mid after records limit
          (added old new n place r enters.adds s.table mid e is sound.knows.led puts);
      lens = λ file. subst (IsFileLen new n file) (sym (len_by file)) (file_len_is new n file);
    };
    tops = tops_now;
    strays = adds_strayless old new n place r enters.adds enters.fits.no_shorter s.stray_end sound.strays
        enters.fits.zeros;
    limit = same_limit ∙ sound.limit;
    files = files_kept;
    measured = λ k f found. ⊎_elim
        (λ own. has did k.file (inr (ap (λ (q : FilePage). q.file) (sym own.0))))
        (λ was. has did k.file (inl (subst (λ l. HasLenIn l k.file) (sym mid_lens) (sound.measured k f was))))
        (entry_now k f found);
    counted = counted sound.counted
        (let within = enters.adds.within in let small = enters.adds.small in let same : e.place.block ≡ place.block =
        ap (λ p. p.block) is.0 in omega (arith, within, small, same));
    count = count_now;
    memory = sound.memory;
    within = sound.within;
    is_spare = adds_spare old new n place r enters.adds s.spare (lies_elsewhere old blocks s sound agreed)
        (λ same. enters.apart (sym block_is ∙ same));
    agreed = λ _. adds_agreed old new n place r enters.adds (sound.agreed agreed);
    rivals = λ has_rivals. absurd (true≢false (sym has_rivals ∙ agreed));
    apart = λ _ k f found. ⊎_elim
        (λ own. (λ same. enters.apart (ap (λ p. p.block) (sym is.0)
        ∙ (ap (λ (q : Newest). q.place.block) own.1 ∙ same))))
        (λ was. sound.apart agreed k f was)
        (entry_now k f found);
    fresh = λ room. let fresh = sound.fresh room in record {
      agreed = fresh.agreed;
      within = fresh.within;
      apart = fresh.apart;
      blank = still_blank old new place.block place.page s.current s.fill enters.elsewhere enters.behind s.fill
          (omega arith) room ∙ fresh.blank;
    };
    empty = λ cleared. still_empty old new place.block place.page s.spare enters.elsewhere enters.apart
        (sound.empty cleared);
  }
