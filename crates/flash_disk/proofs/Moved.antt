-- The table leads to the copies, and the block that they came from is the spare one.
use Rattle.std.proofs.Common.{◌≡◌, ◌≢◌, ℕ, suc, ◌+◌, ◌<◌, ◌≤◌, min, true, cond, List, [], ◌∷◌, length, refl, sym, ap}
use Rattle.std.proofs.Common.{subst, ◌∙◌, inl, inr, ⊎_elim, arith, true≢false}
use Rattle.std.specs.Prelude.{Option, Some, None, is_some, IsSome, IfSome, All}
use Rattle.std.specs.HashMap.{spare}
use Rattle.std.specs.Map.{update, update_all}
use Rattle.std.proofs.lemmas.Map.Made.{IfSome-update_all}
use Rattle.std.proofs.lemmas.Bool.{cases_eq}
use Rattle.std.proofs.lemmas.Option.{same_Some, none-some}
use Rattle.flash_model.specs.Pages.{Pages}
use Rattle.flash_model.specs.FlashMedium.{FlashMedium}
use Rattle.flash_disk.specs.declared.table.FilePage.{FilePage}
use Rattle.flash_disk.specs.declared.table.Newest.{Newest}
use Rattle.flash_disk.specs.declared.table.Table.{Table}
use Rattle.flash_disk.specs.declared.layer.LayerState.{LayerState}
use Rattle.flash_disk.specs.Newest.{Placed, record_at, newest, places}
use Rattle.flash_disk.specs.FlashFiles.{IsFileLen}
use Rattle.flash_disk.specs.Known.{same_page, known, page_len, limit_of, len_in, HasLenIn, HasCapacity, PutsAll}
use Rattle.flash_disk.specs.Counted.{entries_in, IsInside, IsCountedTable}
use Rattle.flash_disk.specs.Entries.{SameEntries}
use Rattle.flash_disk.specs.Learnt.{number, LedOf, IsLed, HasPlace}
use Rattle.flash_disk.specs.Sound.{Sound, LeavesOut}
use Rattle.flash_disk.specs.Moving.{IsMoved, HasKey, IsMoving, IsJoining, LeadsFewer}
use Rattle.flash_disk.proofs.Learning.{same_page_is}
use Rattle.flash_disk.proofs.Sparing.{led_elsewhere, spare_of}
use Rattle.flash_disk.proofs.Moving.{record_of}

abbrev Entry : Type 0
Entry = FilePage × Newest

-- a page that one of the entries is of has one of them at the end
hit : (P : Newest → Type 0) (k : FilePage) (f : FilePage → Option Newest) (es : List Entry)
    → All (λ p. same_page p.0 k ≡ true → P p.1) es → HasKey k es
    → IfSome (update_all same_page f es k) P
hit P k f [] all has = absurd has
hit P k f (e ∷ es) all has =
    let rest : All (λ (p : Entry). same_page p.0 k ≡ true → P p.1) es =
    (λ j d inside. all (suc j) d (omega (arith, inside))) in ⊎_elim
    (λ here. IfSome-update_all same_page P k (update same_page f e.0 (Some e.1)) es
    (subst (λ b. IfSome (cond b (Some e.1) (f k)) P) (sym here) (all 0 e (omega arith) here)) rest)
    (λ later. hit P k (update same_page f e.0 (Some e.1)) es rest later)
    has

held_by : (o : Option Newest) (P : Newest → Type 0) → ((q : Newest) → o ≡ Some q → P q) → IfSome o P
held_by None P all = tt
held_by (Some q) P all = all q refl

-- an entry in place of another leads to an equal record
pub record Follows (pages : Pages) (n : ℕ) (old new : Newest) : Type 0 where
  pub small : new.place.page < 64
  pub within : number new.place < n
  pub sequence : new.sequence ≡ old.sequence
  pub len : new.len ≡ old.len
  pub filled : new.filled ≡ old.filled
  pub there : record_at pages (number new.place) ≡ record_at pages (number old.place)

-- and so to the newest one of its page
pub led_by : (pages : Pages) (n : ℕ) (old v : Newest) → Follows pages n old v → (best : Option Placed)
    → LedOf pages n (Some old) best → LedOf pages n (Some v) best
led_by pages n old v f None led = led
led_by pages n old v f (Some x) led = record {
  within = f.within;
  leads = record {
    small = f.small;
    there = f.there ∙ led.leads.there;
    sequence = f.sequence ∙ led.leads.sequence;
    len = f.len ∙ led.leads.len;
    filled = λ j past. led.leads.filled j (let same = f.filled in omega (arith, past, same));
  };
}

module _ (m : FlashMedium) (s : LayerState) (from to : ℕ) (moving : IsMoving m.state.pages m.blocks s from to 64) where
  -- each of the entries is of a page that the table knows
  pub all_known : All (λ new. IsSome (known s.table new.0)) s.moved.items
  all_known = λ k d inside. subst IsSome (sym (moving.moved k d inside).known_is) refl

  module _ (table : Table) (puts : PutsAll s.table table s.moved.items) (len : page_len table ≡ page_len s.table)
      (room : HasCapacity table)
      (limit : limit_of table ≡ limit_of s.table) (lens : table.lens ≡ s.table.lens)
      (stays : (key : FilePage) → IsSome (known s.table key) → IsSome (known table key)) where
    abbrev pages : Pages
    pages = m.state.pages

    abbrev n : ℕ
    n = places m.blocks

    by_moved : (P : Newest → Type 0) (k : FilePage) → ((e : Entry)
        → IsMoved pages s.table from to (length s.moved.items) e → e.0 ≡ k → P e.1)
        → All (λ (p : Entry). same_page p.0 k ≡ true → P p.1) s.moved.items
    by_moved P k holds = λ j d inside same. holds _ (moving.moved j d inside) (same_page_is _ k same)

    -- what holds of the entry of a page before, and of each that was moved, holds of it after
    after_by : (P : Newest → Type 0) (k : FilePage) (v : Newest) → known table k ≡ Some v → IfSome (known s.table k) P
        → ((e : Entry) → IsMoved pages s.table from to (length s.moved.items) e → e.0 ≡ k → P e.1) → P v
    after_by P k v now was holds = subst (λ o. IfSome o P) (sym (puts k) ∙ now)
        (IfSome-update_all same_page P k (known s.table) s.moved.items was (by_moved P k holds))

    old_of : (e : Entry) → (moved : IsMoved pages s.table from to (length s.moved.items) e) → (k : FilePage) → e.0 ≡ k
        → (old : Newest) → known s.table k ≡ Some old → moved.old ≡ old
    old_of e moved k same old is = same_Some moved.old old (sym moved.known_is ∙ (ap (λ q. known s.table q) same ∙ is))

    moved_follows : (e : Entry) → (moved : IsMoved pages s.table from to (length s.moved.items) e)
        → Follows pages n moved.old e.1
    moved_follows e moved =
        let front = moved.front in
        let count = moving.count in
        let small : e.1.place.page < 64 = omega (arith, front, count) in
        let to_in = moving.sound.within in
        let spare_is = moving.spare in
        let block = moved.block in record {
          small = small;
          within = omega (arith, small, to_in, spare_is, block);
          sequence = ap (λ (q : Newest). q.sequence) moved.entry;
          len = ap (λ (q : Newest). q.len) moved.entry;
          filled = ap (λ (q : Newest). q.filled) moved.entry;
          there = moved.copy;
        }

    follows : (k : FilePage) (old v : Newest) → known s.table k ≡ Some old → known table k ≡ Some v
        → Follows pages n old v
    follows k old v is now =
        let found = record_of pages n s.table moving.sound.knows.led k old is in
        after_by (Follows pages n old) k v now
        (subst (λ o. IfSome o (Follows pages n old)) (sym is) (record {
          small = found.1.leads.small;
          within = found.1.within;
          sequence = refl;
          len = refl;
          filled = refl;
          there = refl;
        }))
        (λ e moved same. subst (λ o. Follows pages n o e.1) (old_of e moved k same old is) (moved_follows e moved))

    -- what the table knew of a page of which it knows now
    was_known : (k : FilePage) (v : Newest) → known table k ≡ Some v → (o : Option Newest) → known s.table k ≡ o
        → (old : Newest) × (known s.table k ≡ Some old)
    was_known k v now (Some old) is = (old, is)
    was_known k v now None is = absurd (after_by (λ _. ⊥) k v now (subst (λ o. IfSome o (λ _. ⊥)) (sym is) tt)
        (λ e moved same. none-some moved.old (sym is ∙ (ap (λ q. known s.table q) (sym same) ∙ moved.known_is))))

    moved_apart : (e : Entry) → IsMoved pages s.table from to (length s.moved.items) e → e.1.place.block ≢ from
    moved_apart e moved = λ there. moving.apart (sym there ∙ moved.block)

    apart_by : (k : FilePage) (v old : Newest) → known table k ≡ Some v → known s.table k ≡ Some old
        → v.place.block ≢ from
    apart_by k v old now is = ⊎_elim
        (λ came. (let small = (record_of pages n s.table moving.sound.knows.led k old is).1.leads.small in
        subst (λ o. IfSome o (λ (q : Newest). q.place.block ≢ from)) (sym (puts k) ∙ now)
        (hit (λ q. q.place.block ≢ from) k (known s.table) s.moved.items
        (by_moved (λ q. q.place.block ≢ from) k (λ e moved same. moved_apart e moved))
        (moving.all k old is came small))))
        (λ other. after_by (λ q. q.place.block ≢ from) k v now
        (subst (λ o. IfSome o (λ (q : Newest). q.place.block ≢ from)) (sym is) other)
        (λ e moved same. moved_apart e moved))
        (cases_eq old.place.block from)

    -- no entry leads into the block that they came from
    leaves : LeavesOut table from
    leaves = λ k v now. let was = was_known k v now (known s.table k) refl in apart_by k v was.0 now was.1

    none_by : (k : FilePage) → known table k ≡ None → (o : Option Newest) → known s.table k ≡ o
        → LedOf pages n None (newest pages k.file k.page n)
    none_by k now None is = subst (λ o. LedOf pages n o (newest pages k.file k.page n)) is
        (moving.sound.knows.led.says k)
    none_by k now (Some old) is = absurd (true≢false (sym (subst IsSome now (stays k (subst IsSome (sym is) refl)))))

    says : (k : FilePage) (o : Option Newest) → known table k ≡ o → LedOf pages n o (newest pages k.file k.page n)
    says k (Some v) now =
        let was = was_known k v now (known s.table k) refl in
        led_by pages n was.0 v (follows k was.0 v was.1 now) (newest pages k.file k.page n)
        (subst (λ o. LedOf pages n o (newest pages k.file k.page n)) was.1 (moving.sound.knows.led.says k))
    says k None now = none_by k now (known s.table k) refl

    led_now : IsLed pages n table
    led_now = record {
      says = λ k. says k (known table k) refl;
      room = room;
      fits = (let fits = moving.sound.knows.led.fits in omega (arith, fits, len, limit));
    }

    inside : IsCountedTable m.blocks s.table → All (λ (new : Entry). IsInside m.blocks new.1) s.moved.items
    inside counted = λ k d within.
        let moved = moving.moved k d within in
        let was = counted.inside _ moved.old moved.known_is in record {
          place = (let spare = moving.sound.within in let same = moving.spare in let block =
              moved.block in omega (arith, spare, same, block));
          twin = subst (λ t. IfSome t (λ q. q.block < m.blocks)) (sym (ap (λ (q : Newest). q.twin) moved.entry))
              was.twin;
        }

    pub finished : (fill : ℕ) → fill ≡ min (length s.moved.items) 64
        → (IsCountedTable m.blocks s.table → All (λ (new : Entry). IsInside m.blocks new.1) s.moved.items
        → IsCountedTable m.blocks table)
        → Sound pages m.blocks (record s { table = table; fill = fill; current = to; spare = from })
    finished fill fill_is counted = record {
      knows = record {
        led = led_now;
        lens = λ file. subst (λ l. IsFileLen pages n file (len_in l file)) (sym lens) (moving.sound.knows.lens file);
      };
      tops = moving.sound.tops;
      strays = moving.sound.strays;
      limit = limit ∙ moving.sound.limit;
      files = (let files = moving.sound.files in let same =
          ap (λ l. spare l) lens in omega (arith, files, same, len, limit));
      measured = λ k v now. let was = was_known k v now (known s.table k) refl in
          subst (λ l. HasLenIn l k.file) (sym lens) (moving.sound.measured k was.0 was.1);
      counted = counted moving.sound.counted (inside moving.sound.counted);
      count = len ∙ moving.sound.count;
      memory = moving.sound.memory;
      within = moving.within;
      is_spare = spare_of pages n from (led_elsewhere pages n table led_now from leaves);
      agreed = moving.sound.agreed;
      rivals = moving.sound.rivals;
      apart = λ _. leaves;
      fresh = λ more. record {
        agreed = moving.agreed;
        within = (let within = moving.sound.within in let same = moving.spare in omega (arith, within, same));
        apart = λ same. moving.apart (sym same);
        blank = moving.blank fill (omega (arith, more, fill_is)) more;
      };
      empty = λ cleared. absurd (true≢false (sym cleared ∙ moving.uncleared));
    }

    -- an entry that leads into a third block did before
    fewer : (block : ℕ) → block ≢ to → LeadsFewer s.table table block
    fewer block other k v now at = after_by (λ q. q.place.block ≡ block → known s.table k ≡ Some q) k v now
        (held_by (known s.table k) (λ q. q.place.block ≡ block → known s.table k ≡ Some q) (λ q is _. is))
        (λ e moved same here. absurd (other (sym here ∙ moved.block)))
        at

    -- the newest records of a third block may be added to those that were moved
    pub joins : (fill : ℕ) → fill ≡ min (length s.moved.items) 64 → Sound pages m.blocks (record s {
      table = table;
      fill = fill;
      current = to;
      spare = from;
    }) → fill ≤ entries_in s.table from
        → ((block : ℕ) → All (λ (new : Entry). new.1.place.block ≢ block) s.moved.items
        → entries_in table block ≤ entries_in s.table block)
        → (block : ℕ) → block < m.blocks → block ≢ to → entries_in s.table from + entries_in s.table block ≤ 64
        → IsJoining pages m.blocks (record s { table = table; fill = fill; current = to; spare = from }) block 0
        × LeadsFewer s.table table block
    joins fill fill_is sound few no_more block within other room = (
      record {
        sound = sound;
        agreed = moving.agreed;
        within = within;
        apart = other;
        blank = λ p past small. moving.blank p (omega (arith, past, small, fill_is)) small;
        room = (let more = no_more block (λ k d inside here. other (sym here ∙ (moving.moved k d inside).block)) in
            omega (arith, few, more, room));
        left = λ k e is at. omega arith;
      },
      fewer block other,
    )

    -- a page that had a place has one
    pub places_stay : (k : FilePage) → HasPlace s.table k → HasPlace table k
    places_stay k has = ⊎_elim (λ some. inl (stays k some)) (λ more. inr (omega (arith, more, len, limit))) has

    some_by : (k : FilePage) (o : Option Newest) → known s.table k ≡ o → (v : Option Newest) → known table k ≡ v
        → is_some v ≡ is_some o
    some_by k None was None now = refl
    some_by k None was (Some v) now = let had = was_known k v now (known s.table k) refl in
        absurd (none-some had.0 (sym was ∙ had.1))
    some_by k (Some old) was None now = absurd (true≢false
        (sym (subst IsSome now (stays k (subst IsSome (sym was) refl)))))
    some_by k (Some old) was (Some v) now = refl

    -- the same pages have entries
    pub entries_stay : SameEntries s.table table
    entries_stay = record { has = λ k. some_by k (known s.table k) refl (known table k) refl; len = len; limit = limit }
