-- One place more is learnt.
use Rattle.std.proofs.Common.{◌≡◌, ◌≢◌, ◌⊎◌, ℕ, suc, ◌+◌, ◌*◌, ◌/◌, ◌%◌, ◌<◌, ◌≤◌, List, Bool, true, false, cond, refl}
use Rattle.std.proofs.Common.{sym, ap, subst, ◌∙◌, inl, inr, ⊎_elim, arith, true≢false, add-one, eq-eqb}
use Rattle.std.specs.Prelude.{Option, Some, None, nat_eq, ◌&&◌, is_none, is_some, IsTrue, IsFalse, ◌↔◌, slice_index}
use Rattle.std.proofs.lemmas.Bool.{lt-ltb, le-ltb, eqb-true, cases_lt, cases_eq}
use Rattle.std.specs.Str.{bytes_eq}
use Rattle.std.specs.Bool.{Decides}
use Rattle.std.proofs.lemmas.Slice.Eq.{bytes_eq-Decides}
use Rattle.std.proofs.lemmas.Option.{same_Some, none-some}
use Rattle.flash_model.specs.Pages.{Pages}
use Rattle.flash_record.specs.PageRecord.{PageRecord, record_in}
use Rattle.flash_disk.specs.declared.table.FilePage.{FilePage}
use Rattle.flash_disk.specs.declared.table.FlashPage.{FlashPage}
use Rattle.flash_disk.specs.declared.table.Newest.{Newest}
use Rattle.flash_disk.specs.declared.table.Table.{Table}
use Rattle.flash_disk.specs.Newest.{Placed, record_at, is_of, newer, with_record, newest, opens_page, page_count}
use Rattle.flash_disk.specs.Newest.{IsNewest, IsNewestOf}
use Rattle.flash_disk.proofs.NewestLaws.{newest_is}
use Rattle.flash_disk.specs.Known.{same_page, page_of, known, page_len, limit_of, SetsEntry, HasCapacity}
use Rattle.flash_disk.specs.Learnt.{number, TwinSays, Unrivalled, Learns, LearnsOf, HasLearnt, LearnsNext, SaysTheSame}
use Rattle.flash_disk.specs.Learnt.{TwinAt, RivalledAt}
use Rattle.flash_disk.specs.Standing.{IsRivalled}

pub below_suc : (j n : ℕ) → j < suc n → (j < n) ⊎ (j ≡ n)
below_suc j n within = ⊎_elim inl (λ past. inr (let e : j ≡ n = omega arith in e)) (cases_lt j n)

decided : (b : Bool) (P : Type 0) → Decides b P → ((b ≡ true) × P) ⊎ ((b ≡ false) × (P → ⊥))
decided true P tells = inl (refl, tells.0 refl)
decided false P tells = inr (refl, λ p. true≢false (sym (tells.1 p)))

bytes_tell : (a b : List ℕ) → ((bytes_eq a b ≡ true) × (a ≡ b)) ⊎ ((bytes_eq a b ≡ false) × (a ≢ b))
bytes_tell a b = decided (bytes_eq a b) (a ≡ b) (bytes_eq-Decides a b)

both_parts : (a b : Bool) → (a && b) ≡ true → (a ≡ true) × (b ≡ true)
both_parts true true e = (refl, refl)
both_parts true false e = absurd (true≢false (sym e))
both_parts false b e = absurd (true≢false (sym e))

pub same_page_is : (a b : FilePage) → same_page a b ≡ true → a ≡ b
same_page_is a b e = let parts = both_parts (nat_eq a.file b.file) (nat_eq a.page b.page) e in
    let file : a.file ≡ b.file = eqb-true a.file b.file parts.0 in
    let page : a.page ≡ b.page = eqb-true a.page b.page parts.1 in
    ap (λ f. let k : FilePage = record { file = f; page = a.page } in k) file
    ∙ ap (λ p. let k : FilePage = record { file = b.file; page = p } in k) page

pub same_page_refl : (a : FilePage) → same_page a a ≡ true
same_page_refl a = rw (eq-eqb a.file a.file refl, eq-eqb a.page a.page refl) refl

-- the number of a place leads back to it
pub record_at_place : (pages : Pages) (block page : ℕ) → page < 64
    → record_at pages (64 * block + page) ≡ record_in (pages block page)
record_at_place pages block page small =
    let b : (64 * block + page) / 64 ≡ block = omega arith in
    let p : (64 * block + page) % 64 ≡ page = omega arith in
    rw (b, p) refl

module _ (pages : Pages) (n : ℕ) where
  -- place n holds no copy of x
  abbrev NoCopy : Placed → Type 0
  NoCopy x = record_at pages n ≡ Some x.says → n / 64 ≢ x.place / 64 → ⊥

  twin_stays : (x : Placed) (twin : Option FlashPage) → NoCopy x → TwinSays pages n x twin
      → TwinSays pages (suc n) x twin
  twin_stays x None none alone = λ j copy. ⊎_elim
      (λ below. alone j (record { within = below; apart = copy.apart; same = copy.same }))
      (λ last. none (subst (λ k. record_at pages k ≡ Some x.says) last copy.same)
      (subst (λ k. k / 64 ≢ x.place / 64) last copy.apart))
      (below_suc j n copy.within)
  twin_stays x (Some place) none copy = (
    copy.0,
    record {
      within = (let lt = copy.1.within in omega arith);
      apart =
          copy.1.apart;
      same = copy.1.same;
    },
  )

  -- a record in place n with the page and the number of x is x
  abbrev NoRival : Placed → Type 0
  NoRival x = (q : PageRecord) → record_at pages n ≡ Some q → is_of x.says.file x.says.page q ≡ true
      → q.sequence ≡ x.says.sequence → q ≡ x.says

  unrivalled_stays : (x : Placed) → NoRival x → Unrivalled pages n x → Unrivalled pages (suc n) x
  unrivalled_stays x none agreed = λ j q within is of_page same. ⊎_elim
      (λ below. agreed j q below is of_page same)
      (λ last. none q (subst (λ k. record_at pages k ≡ Some q) last is) of_page same)
      (below_suc j n within)

  rivalled_stays : (x : Placed) → IsRivalled pages n x → IsRivalled pages (suc n) x
  rivalled_stays x rival = record {
    place = rival.place;
    says = rival.says;
    within = (let lt = rival.within in omega (arith, lt));
    there = rival.there;
    of_page = rival.of_page;
    number = rival.number;
    differs = rival.differs;
  }

  -- place n holds no record of the page of x
  abbrev OfAnother : Placed → Type 0
  OfAnother x = (q : PageRecord) → record_at pages n ≡ Some q → is_of x.says.file x.says.page q ≡ true → ⊥

  own_page_of : (r : PageRecord) → is_of r.file r.page r ≡ true
  own_page_of r = rw (eq-eqb r.file r.file refl, eq-eqb r.page r.page refl) refl

  stays : (entry : Option Newest) (best : Option Placed) → ((x : Placed) → best ≡ Some x → OfAnother x)
      → LearnsOf pages n entry best → LearnsOf pages (suc n) entry best
  stays None None none says = says
  stays None (Some x) none says = says
  stays (Some e) None none says = says
  stays (Some e) (Some x) none says = record {
    leads = says.leads;
    place = says.place;
    twin = twin_stays x e.twin (λ same apart. none x refl x.says same (own_page_of x.says)) says.twin;
    agreed = λ no_rivals. unrivalled_stays x (λ q here of_page same. absurd (none x refl q here of_page))
        (says.agreed no_rivals);
    rivals = λ so. rivalled_stays x (says.rivals so);
    page = says.page;
  }

  -- a place without a record
  pub nothing : (table : Table) → record_at pages n ≡ None → HasLearnt pages n table → HasLearnt pages (suc n) table
  nothing table empty learnt = record {
    says = λ key. subst (λ o. LearnsOf pages (suc n) (known table key)
        (with_record key.file key.page n o (newest pages key.file key.page n))) (sym empty)
        (stays (known table key) (newest pages key.file key.page n)
        (λ x is q same of_page. none-some q (sym empty ∙ same)) (learnt.says key));
    count = learnt.count ∙ subst (λ o. page_count pages n ≡ page_count pages n + opens_page pages n o) (sym empty)
        (omega arith);
    room = learnt.room;
    fits = learnt.fits;
  }

  module _ (r : PageRecord) (old : Table) (e : Newest) (learnt : HasLearnt pages n old)
      (known_is : known old (page_of r) ≡ Some e) where
    before : (best : Option Placed) → newest pages r.file r.page n ≡ best → LearnsOf pages n (Some e) best
        → IsNewestOf pages r.file r.page n best
        → (x : Placed) × (newest pages r.file r.page n ≡ Some x) × Learns pages n e x × IsNewest pages r.file r.page n x
    before None is says is_newest = absurd says
    before (Some x) is says is_newest = (x, is, says, is_newest)

    -- the newest record of a page of which the table knows
    pub best_of : (x : Placed) × (newest pages r.file r.page n ≡ Some x) × Learns pages n e x
        × IsNewest pages r.file r.page n x
    best_of = before (newest pages r.file r.page n) refl
        (subst (λ k. LearnsOf pages n k (newest pages r.file r.page n)) known_is (learnt.says (page_of r)))
        (newest_is pages r.file r.page n)

  module _ (r : PageRecord) (here : record_at pages n ≡ Some r) where
    abbrev one_if : Bool → ℕ
    one_if b = cond b 1 0

    abbrev none_if : Bool → ℕ
    none_if b = cond b 0 1

    abbrev placed : Placed
    placed = record { place = n; says = r }

    own_page : is_of r.file r.page r ≡ true
    own_page = rw (eq-eqb r.file r.file refl, eq-eqb r.page r.page refl) refl

    same_count : (entry : Option Newest) (best : Option Placed) → LearnsOf pages n entry best
        → one_if (is_none best) ≡ none_if (is_some entry)
    same_count None None says = refl
    same_count None (Some x) says = absurd says
    same_count (Some e) None says = absurd says
    same_count (Some e) (Some x) says = refl

    same_entry : (old : Table) (e : Newest) → known old (page_of r) ≡ Some e → (key : FilePage) (b : Bool)
        → same_page (page_of r) key ≡ b → known old key ≡ cond b (Some e) (known old key)
    same_entry old e known_is key true is = subst (λ k. known old k ≡ Some e) (same_page_is (page_of r) key is) known_is
    same_entry old e known_is key false is = refl

    -- a record of the page of a record of a page
    same_page_of : (key : FilePage) (x : Placed) → is_of key.file key.page x.says ≡ true → (q : PageRecord)
        → is_of x.says.file x.says.page q ≡ true
        → is_of key.file key.page q ≡ true
    same_page_of key x of_key q of_x =
        let parts = both_parts (nat_eq x.says.file key.file) (nat_eq x.says.page key.page) of_key in
        subst (λ p. is_of key.file p q ≡ true) (eqb-true x.says.page key.page parts.1)
        (subst (λ f. is_of f x.says.page q ≡ true) (eqb-true x.says.file key.file parts.0) of_x)

    -- another page keeps its newest record
    elsewhere : (table : Table) → HasLearnt pages n table → (key : FilePage) → same_page (page_of r) key ≡ false
        → LearnsOf pages (suc n) (known table key) (newest pages key.file key.page n)
    elsewhere table learnt key other = stays (known table key) (newest pages key.file key.page n)
        (λ x is q same of_page. true≢false (
        sym (same_page_of key x (subst (λ b. IsNewestOf pages key.file key.page n b) is
        (newest_is pages key.file key.page n)).of_page q of_page)
        ∙ (ap (is_of key.file key.page) (same_Some q r (sym same ∙ here)) ∙ other)))
        (learnt.says key)

    by_key : (old : Table) (entry : Newest) → HasLearnt pages n old
        → LearnsOf pages (suc n) (Some entry) (newer (newest pages r.file r.page n) placed)
        → (key : FilePage) (b : Bool) → same_page (page_of r) key ≡ b
        → LearnsOf pages (suc n) (cond b (Some entry) (known old key))
        (cond b (newer (newest pages key.file key.page n) placed) (newest pages key.file key.page n))
    by_key old entry learnt says key true is = subst (λ k.
        LearnsOf pages (suc n) (Some entry) (newer (newest pages k.file k.page n) placed))
        (same_page_is (page_of r) key is) says
    by_key old entry learnt says key false is = elsewhere old learnt key is

    -- the table after an entry was put in
    pub entered : (old new : Table) (entry : Newest) → HasLearnt pages n old → SetsEntry old new (page_of r) entry
        → LearnsOf pages (suc n) (Some entry) (newer (newest pages r.file r.page n) placed)
        → HasLearnt pages (suc n) new
    entered old new entry learnt puts says = record {
      says = λ key. subst (λ o. LearnsOf pages (suc n) (known new key)
          (with_record key.file key.page n o (newest pages key.file key.page n))) (sym here)
          (subst (λ k. LearnsOf pages (suc n) k (cond (is_of key.file key.page r)
          (newer (newest pages key.file key.page n) placed) (newest pages key.file key.page n)))
          (sym (puts.known_is key)) (by_key old entry learnt says key (same_page (page_of r) key) refl));
      count = puts.len ∙ (ap (λ k. k + none_if (is_some (known old (page_of r)))) learnt.count
          ∙ subst (λ o. page_count pages n + none_if (is_some (known old (page_of r)))
          ≡ page_count pages n + opens_page pages n o) (sym here)
          (ap (λ k. page_count pages n + k) (sym (same_count (known old (page_of r)) (newest pages r.file r.page n)
          (learnt.says (page_of r))))));
      room = puts.room learnt.room;
      fits = puts.fits learnt.fits;
    }

    -- the entry of the record itself
    abbrev pub IsEntryHere : Newest → Type 0
    IsEntryHere entry = (number entry.place ≡ n) × (entry.place.page < 64) × (entry.sequence ≡ r.sequence)
        × (entry.len ≡ r.len) × (entry.twin ≡ None)
        × ((j : ℕ) → entry.filled ≤ j → slice_index r.bytes j ≡ 0) × (r.page < 4294967296) × IsFalse entry.rivalled

    here_learns : (entry : Newest) → IsEntryHere entry
        → ((j : ℕ) (q : PageRecord) → j < n → record_at pages j ≡ Some q → is_of r.file r.page q ≡ true
        → q.sequence < r.sequence)
        → Learns pages (suc n) entry placed
    here_learns entry (place, small, sequence, len, twin, filled, page, unrivalled) less = record {
      leads = record {
        small = small;
        there = ap (record_at pages) place ∙ here;
        sequence = sequence;
        len =
            len;
        filled = filled;
      };
      place = place;
      twin = subst (λ w. TwinSays pages (suc n) placed w) (sym twin)
          (λ j copy. ⊎_elim
          (λ below. let lt = less j r below copy.same own_page in omega arith)
          (λ last. copy.apart (ap (λ k. k / 64) last))
          (below_suc j n copy.within));
      agreed = λ no_rivals j q within is of_page same. ⊎_elim
          (λ below. let lt = less j q below is of_page in absurd (omega (arith, lt, same)))
          (λ last. same_Some q r (sym (subst (λ k. record_at pages k ≡ Some q) last is) ∙ here))
          (below_suc j n within);
      rivals = λ so. absurd (true≢false (sym so ∙ unrivalled));
      page = page;
    }

    newer_by : (entry : Newest) → IsEntryHere entry → (x : Placed) → IsNewest pages r.file r.page n x
        → x.says.sequence < r.sequence
        → LearnsOf pages (suc n) (Some entry) (newer (Some x) placed)
    newer_by entry is x is_newest less = rw (lt-ltb x.says.sequence r.sequence less)
        (here_learns entry is (λ j q below same of_page. let most =
        is_newest.most j q below same of_page in omega arith))

    first_by : (entry : Newest) → IsEntryHere entry → (best : Option Placed) → best ≡ None
        → IsNewestOf pages r.file r.page n best
        → LearnsOf pages (suc n) (Some entry) (newer best placed)
    first_by entry is None e none = here_learns entry is
        (λ j q below same of_page. absurd (none j q below same of_page))
    first_by entry is (Some x) e none = absurd (none-some x (sym e))

    -- nothing was known of its page
    nothing_known : (best : Option Placed) (entry : Option Newest) → entry ≡ None → LearnsOf pages n entry best
        → best ≡ None
    nothing_known None entry e says = refl
    nothing_known (Some x) entry e says = absurd (subst (λ k. LearnsOf pages n k (Some x)) e says)

    pub first : (old : Table) (entry : Newest) → HasLearnt pages n old → known old (page_of r) ≡ None
        → IsEntryHere entry
        → LearnsOf pages (suc n) (Some entry) (newer (newest pages r.file r.page n) placed)
    first old entry learnt none is = first_by entry is (newest pages r.file r.page n)
        (nothing_known (newest pages r.file r.page n) (known old (page_of r)) none (learnt.says (page_of r)))
        (newest_is pages r.file r.page n)

    -- there is no room for it
    pub no_room : (old : Table) → HasLearnt pages n old → known old (page_of r) ≡ None → limit_of old ≤ page_len old
        → limit_of old < page_count pages (suc n)
    no_room old learnt none full = subst (λ o. limit_of old < page_count pages n + opens_page pages n o) (sym here)
        (subst (λ b. limit_of old < page_count pages n + one_if (is_none b))
        (sym (nothing_known (newest pages r.file r.page n) (known old (page_of r)) none (learnt.says (page_of r))))
        (let count = learnt.count in omega arith))

    module _ (old : Table) (e : Newest) (learnt : HasLearnt pages n old) (known_is : known old (page_of r) ≡ Some e)
      where
        abbrev pub best : (x : Placed) × (newest pages r.file r.page n ≡ Some x) × Learns pages n e x
            × IsNewest pages r.file r.page n x
        best = best_of r old e learnt known_is

        pub old_small : e.place.page < 64
        old_small = best.2.leads.small

        pub newer_one : (entry : Newest) → IsEntryHere entry → e.sequence < r.sequence
            → LearnsOf pages (suc n) (Some entry) (newer (newest pages r.file r.page n) placed)
        newer_one entry is less = subst (λ b. LearnsOf pages (suc n) (Some entry) (newer b placed)) (sym best.1)
            (newer_by entry is best.0 best.3 (let same = best.2.leads.sequence in omega arith))

        -- the record is no newer, so the newest one stays
        pub stays_newest : (entry : Newest) → r.sequence ≤ e.sequence → Learns pages (suc n) entry best.0
            → LearnsOf pages (suc n) (Some entry) (newer (newest pages r.file r.page n) placed)
        stays_newest entry less says = subst (λ b. LearnsOf pages (suc n) (Some entry) (newer b placed)) (sym best.1)
            (subst (λ b. LearnsOf pages (suc n) (Some entry) (cond b (Some placed) (Some best.0)))
            (sym (le-ltb best.0.says.sequence r.sequence (let same = best.2.leads.sequence in omega arith))) says)

        -- an older record
        pub older : r.sequence < e.sequence → HasLearnt pages (suc n) old
        older less = entered old old e learnt
            (record {
              known_is = λ key. same_entry old e known_is key (same_page (page_of r) key) refl;
              len = subst (λ k. page_len old ≡ page_len old + none_if (is_some k)) (sym known_is) (omega arith);
              room = λ room. room;
              fits = λ fits. fits;
            })
            (stays_newest e (omega arith) (record {
              leads = best.2.leads;
              place = best.2.place;
              twin = twin_stays best.0 e.twin (λ same apart. let q : r.sequence ≡ best.0.says.sequence =
                  ap (λ z. z.sequence) (same_Some r best.0.says (sym here ∙ same)) in
                  let s = best.2.leads.sequence in omega arith) best.2.twin;
              agreed = λ no_rivals. unrivalled_stays best.0 (λ q same of_page number. let z : q.sequence ≡ r.sequence =
                  ap (λ z. z.sequence) (same_Some q r (sym same ∙ here)) in
                  let s = best.2.leads.sequence in absurd (omega (arith, z, s, number, less))) (best.2.agreed no_rivals);
              rivals = λ so. rivalled_stays best.0 (best.2.rivals so);
              page = best.2.page;
            }))

    -- what putting the entry in answers
    pub put_learns : (old mid new : Table) (key : FilePage) (entry : Newest) (done : Bool) → mid ≡ old → key ≡ page_of r
        → HasLearnt pages n old
        → LearnsOf pages (suc n) (Some entry) (newer (newest pages r.file r.page n) placed)
        → (HasCapacity mid → IsFalse done ↔ ((known mid key ≡ None) × (limit_of mid ≤ page_len mid)))
        → (IsTrue done → SetsEntry mid new key entry) → LearnsNext pages (n + 1) old new done
    put_learns old mid new key entry true same key_is learnt says full puts = rw (add-one n)
        (entered old new entry learnt (subst (λ t. SetsEntry t new (page_of r) entry) same
        (subst (λ k. SetsEntry mid new k entry) key_is (puts refl))) says)
    put_learns old mid new key entry false same key_is learnt says full puts = rw (add-one n)
        (let none = (full (subst HasCapacity (sym same) learnt.room)).0 refl in
        no_room old learnt (subst (λ t. known t (page_of r) ≡ None) same
        (subst (λ k. known mid k ≡ None) key_is none.0)) (subst (λ t. limit_of t ≤ page_len t) same none.1))

    -- a record that says the same as another of its page and number is that record
    same_record : (q : PageRecord) → is_of r.file r.page q ≡ true → q.sequence ≡ r.sequence → SaysTheSame q r → q ≡ r
    same_record q of_page sequence same =
        let parts = both_parts (nat_eq q.file r.file) (nat_eq q.page r.page) of_page in
        let file : q.file ≡ r.file = eqb-true q.file r.file parts.0 in
        let page : q.page ≡ r.page = eqb-true q.page r.page parts.1 in
        ap (λ v. let z : PageRecord = record {
          sequence = v;
          file = q.file;
          page = q.page;
          len = q.len;
          bytes =
              q.bytes;
        } in z) sequence
        ∙ (ap (λ v. let z : PageRecord = record {
          sequence = r.sequence;
          file = v;
          page = q.page;
          len = q.len;
          bytes =
              q.bytes;
        } in z) file
        ∙ (ap (λ v. let z : PageRecord = record {
          sequence = r.sequence;
          file = r.file;
          page = v;
          len = q.len;
          bytes =
              q.bytes;
        } in z) page
        ∙ (ap (λ v. let z : PageRecord = record {
          sequence = r.sequence;
          file = r.file;
          page = r.page;
          len = v;
          bytes =
              q.bytes;
        } in z) same.0
        ∙ ap (λ v. let z : PageRecord = record {
          sequence = r.sequence;
          file = r.file;
          page = r.page;
          len =
              r.len;
          bytes = v;
        } in z) same.1)))

    module _ (old : Table) (e : Newest) (learnt : HasLearnt pages n old) (known_is : known old (page_of r) ≡ Some e)
        (place : FlashPage) (place_is : number place ≡ n) (small : place.page < 64) (sequence : e.sequence ≡ r.sequence)
      where
        abbrev x : Placed
        x = (best old e learnt known_is).0

        abbrev before_is : Learns pages n e x
        before_is = (best old e learnt known_is).2

        abbrev is_newest : IsNewest pages r.file r.page n x
        is_newest = (best old e learnt known_is).3

        pub old_block : e.place.block ≤ place.block
        old_block = let p = before_is.place in let lt = is_newest.within in omega (arith, p, lt, place_is, small)

        e_block : x.place / 64 ≡ e.place.block
        e_block = let p = before_is.place in let s = before_is.leads.small in omega (arith, p, s)

        n_block : n / 64 ≡ place.block
        n_block = omega (arith, place_is, small)

        module _ (first : Option PageRecord) (is : first ≡ Some x.says) (twin : Option FlashPage)
            (at : TwinAt first r e place twin) where
          -- the record is equal, and in another block
          copied : place.block ≢ e.place.block → SaysTheSame x.says r → TwinSays pages (suc n) x twin
          copied apart same = subst (TwinSays pages (suc n) x) (sym (at.equal x.says is apart same)) (
            small,
            record {
              within = omega (arith, place_is);
              apart = λ block. apart (sym n_block ∙ (sym (ap (λ k. k / 64) place_is) ∙ (block ∙ e_block)));
              same = ap (record_at pages) place_is ∙ (here ∙ ap Some
                  (sym (same_record x.says is_newest.of_page (sym before_is.leads.sequence ∙ sequence) same)));
            },
          )

          -- it is another record
          differs : (SaysTheSame x.says r → ⊥) → TwinSays pages (suc n) x twin
          differs other = subst (TwinSays pages (suc n) x) (sym (at.other x.says is other))
              (twin_stays x e.twin (λ same apart. other (let z : r ≡ x.says =
              same_Some r x.says (sym here ∙ same) in (ap (λ q. q.len) (sym z), ap (λ q. q.bytes) (sym z))))
              before_is.twin)

          by_content : place.block ≢ e.place.block → TwinSays pages (suc n) x twin
          by_content apart = ⊎_elim
              (λ len. ⊎_elim
              (λ bytes. copied apart (len, bytes.1))
              (λ bytes. differs (λ same. bytes.1 same.1))
              (bytes_tell x.says.bytes r.bytes))
              (λ len. differs (λ same. len same.0))
              (cases_eq x.says.len r.len)

        -- the twin after the record was seen
        twin_says : (first : Option PageRecord) → first ≡ Some x.says → (twin : Option FlashPage)
            → TwinAt first r e place twin → TwinSays pages (suc n) x twin
        twin_says first is twin at = ⊎_elim
            (λ same_block. subst (TwinSays pages (suc n) x) (sym (at.same_block same_block))
            (twin_stays x e.twin (λ same apart. apart (n_block ∙ (same_block ∙ sym e_block))) before_is.twin))
            (λ apart. by_content first is twin at apart)
            (cases_eq place.block e.place.block)

        -- whether it is rivalled after the record was seen
        agreed_says : (first : Option PageRecord) → first ≡ Some x.says → (rivalled : Bool)
            → RivalledAt first r e rivalled → IsFalse rivalled → Unrivalled pages (suc n) x
        agreed_says first is rivalled at no_rivals = let says = at.no_rivals no_rivals in unrivalled_stays x
            (λ q there of_page number. same_Some q r (sym there ∙ here)
            ∙ sym (same_record x.says is_newest.of_page (sym before_is.leads.sequence ∙ sequence) (says.1 x.says is)))
            (before_is.agreed says.0)

        -- the record is another one, which rivals the newest one
        rival_here : (SaysTheSame x.says r → ⊥) → IsRivalled pages (suc n) x
        rival_here other =
            let parts = both_parts (nat_eq x.says.file r.file) (nat_eq x.says.page r.page) is_newest.of_page in
            let file : r.file ≡ x.says.file = sym (eqb-true x.says.file r.file parts.0) in
            let page : r.page ≡ x.says.page = sym (eqb-true x.says.page r.page parts.1) in
            record {
              place = n;
              says = r;
              within = omega arith;
              there = here;
              of_page = rw (eq-eqb r.file x.says.file file, eq-eqb r.page x.says.page page) refl;
              number = sym sequence ∙ before_is.leads.sequence;
              differs = λ same. other (ap (λ q. q.len) (sym same), ap (λ q. q.bytes) (sym same));
            }

        rivals_say : (first : Option PageRecord) → first ≡ Some x.says → (rivalled : Bool)
            → RivalledAt first r e rivalled
            → IsTrue rivalled → IsRivalled pages (suc n) x
        rivals_say first is rivalled at so = ⊎_elim (λ was. rivalled_stays x (before_is.rivals was))
            (λ other. rival_here (other x.says is)) (at.rivals so)

        -- what is put in for a record with the newest one's number
        pub equal : (seen : Option PageRecord) → seen ≡ record_at pages (number e.place)
            → (twin : Option FlashPage) (rivalled : Bool) → TwinAt seen r e place twin
            → RivalledAt seen r e rivalled
            → LearnsOf pages (suc n) (Some (record e { twin = twin; rivalled = rivalled }))
            (newer (newest pages r.file r.page n) placed)
        equal seen is twin rivalled at no_rivals = stays_newest old e learnt known_is
            (record e { twin = twin; rivalled = rivalled }) (omega (arith, sequence)) (record {
              leads = record {
                small = before_is.leads.small;
                there = before_is.leads.there;
                sequence =
                    before_is.leads.sequence;
                len = before_is.leads.len;
                filled = before_is.leads.filled;
              };
              place = before_is.place;
              twin = twin_says seen (is ∙ before_is.leads.there) twin at;
              agreed = agreed_says seen (is ∙ before_is.leads.there) rivalled no_rivals;
              rivals = rivals_say seen (is ∙ before_is.leads.there) rivalled no_rivals;
              page = before_is.page;
            })
