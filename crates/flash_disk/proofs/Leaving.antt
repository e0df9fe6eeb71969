-- A spare block is left: each entry that leads into it comes to lead to an equal record in another block.
use Rattle.std.proofs.Common.{◌≡◌, ◌≢◌, ◌⊎◌, ℕ, ◌+◌, ◌*◌, ◌/◌, ◌%◌, ◌<◌, ◌≤◌, Bool, true, false, cond, refl, sym, ap}
use Rattle.std.proofs.Common.{subst, ◌∙◌, inl, inr, ⊎_elim, arith, true≢false, eq-eqb}
use Rattle.std.specs.Prelude.{Option, Some, None, IsTrue, IsFalse, ◌↔◌, ◌&&◌, not, nat_eq}
use Rattle.std.proofs.lemmas.Bool.{cases_eq, cases_lt, eqb-true}
use Rattle.std.proofs.lemmas.Option.{same_Some, none-some}
use Rattle.flash_model.specs.Pages.{Pages}
use Rattle.flash_record.specs.PageRecord.{PageRecord}
use Rattle.flash_disk.specs.declared.table.FilePage.{FilePage}
use Rattle.flash_disk.specs.declared.table.FlashPage.{FlashPage}
use Rattle.flash_disk.specs.declared.table.Newest.{Newest}
use Rattle.flash_disk.specs.declared.table.Table.{Table}
use Rattle.flash_disk.specs.Newest.{Placed, record_at, is_of, newest, IsCopyOf, IsNewest, IsNewestOf, IsSpare, places}
use Rattle.flash_disk.proofs.NewestLaws.{newest_is}
use Rattle.flash_disk.specs.Known.{same_page, page_of, known, page_len, limit_of, HasCapacity, SetsEntry}
use Rattle.flash_disk.specs.Learnt.{number, TwinSays, Unrivalled, LearnsOf, HasLearnt, LedOf, IsLed, IsLeavingBlock}
use Rattle.flash_disk.specs.Learnt.{LeavesOf}
use Rattle.flash_disk.specs.Learnt.{IsLeaving, LeavesBlock}
use Rattle.flash_disk.specs.Sound.{LeavesOut}
use Rattle.flash_disk.specs.Standing.{IsAgreed, HasRivals, IsStrayless}
use Rattle.flash_disk.specs.FlashFiles.{byte_in, file_len}
use Rattle.flash_disk.proofs.Learning.{same_page_is, same_page_refl}

-- two places that a test distinguishes, or not
pub places_differ : (a b c d : ℕ) (ne : Bool) → ne ≡ not (nat_eq a b && nat_eq c d) → ne ≡ true → a ≡ b → c ≡ d → ⊥
places_differ a b c d ne is holds ab cd = true≢false (sym holds ∙ (is ∙ rw (eq-eqb a b ab, eq-eqb c d cd) refl))

pub places_same : (a b c d : ℕ) (ne : Bool) → ne ≡ not (nat_eq a b && nat_eq c d) → ne ≡ false → (a ≡ b) × (c ≡ d)
places_same a b c d ne is fails = by_tests (nat_eq a b) refl (nat_eq c d) refl (sym is ∙ fails)
  where
    by_tests : (x : Bool) → nat_eq a b ≡ x → (y : Bool) → nat_eq c d ≡ y → not (x && y) ≡ false → (a ≡ b) × (c ≡ d)
    by_tests true ab true cd e = (eqb-true a b ab, eqb-true c d cd)
    by_tests true ab false cd e = absurd (true≢false e)
    by_tests false ab y cd e = absurd (true≢false e)

module _ (pages : Pages) (n block : ℕ) where
  starts_by : (file page : ℕ) (k : Option Newest) (b : Option Placed) → IsNewestOf pages file page n b
      → LearnsOf pages n k b → LeavesOf pages n block k b
  starts_by file page None None is says = says
  starts_by file page None (Some x) is says = says
  starts_by file page (Some e) None is says = says
  starts_by file page (Some e) (Some x) is says = record {
    led = record {
      within = (let lt = is.within in let same = says.place in omega (arith, lt, same));
      leads =
          says.leads;
    };
    twin = says.twin;
    agreed = says.agreed;
    rivals = says.rivals;
    page = says.page;
    moved = inl says.place;
  }

  -- what was learnt, before the first page is left
  pub starts_leaving : (table : Table) → HasLearnt pages n table → IsLeaving pages n block 0 table
  starts_leaving table learnt = record {
    says = λ key. starts_by key.file key.page (known table key) (newest pages key.file key.page n)
        (newest_is pages key.file key.page n) (learnt.says key);
    out = λ key entry is at. omega arith;
    room = learnt.room;
    fits = learnt.fits;
  }

  -- the newest record of an entry's page
  abbrev pub Found : FilePage → Newest → Type 0
  Found key e = (x : Placed) × (newest pages key.file key.page n ≡ Some x) × IsLeavingBlock pages n block e x
      × IsNewest pages key.file key.page n x

  found_by : (key : FilePage) (e : Newest) (b : Option Placed) → newest pages key.file key.page n ≡ b
      → LeavesOf pages n block (Some e) b
      → IsNewestOf pages key.file key.page n b → Found key e
  found_by key e None is says of_page = absurd says
  found_by key e (Some x) is says of_page = (x, is, says, of_page)

  module _ (p : ℕ) (table : Table) (leaving : IsLeaving pages n block p table) where
    pub found : (key : FilePage) (e : Newest) → known table key ≡ Some e → Found key e
    found key e is = found_by key e (newest pages key.file key.page n) refl
        (subst (λ k. LeavesOf pages n block k (newest pages key.file key.page n)) is (leaving.says key))
        (newest_is pages key.file key.page n)

    -- an entry leads to this page of the block
    abbrev pub LeadsHere : FilePage → Newest → Type 0
    LeadsHere key e = (known table key ≡ Some e) × (e.place.block ≡ block) × (e.place.page ≡ p)

    -- the record there is one of its page
    pub record_here : (key : FilePage) (e : Newest) → LeadsHere key e
        → (r : PageRecord) × (record_at pages (64 * block + p) ≡ Some r) × (page_of r ≡ key)
    record_here key e (is, at, at_page) =
        let x = found key e is in (
          x.0.says,
          subst (λ q. record_at pages q ≡ Some x.0.says) (omega (arith, at, at_page)) x.2.led.leads.there,
          same_page_is (page_of x.0.says) key x.3.of_page,
        )

    -- no entry leads there
    pub none_here : ((key : FilePage) (e : Newest) → LeadsHere key e → ⊥) → IsLeaving pages n block (p + 1) table
    none_here none = record {
      says = leaving.says;
      out = λ key e is at. (let past = leaving.out key e is at in ⊎_elim
          (λ same. absurd (none key e (is, at, same)))
          (λ apart. omega (arith, past, apart))
          (cases_eq e.place.page p));
      room = leaving.room;
      fits = leaving.fits;
    }

    module _ (spare : IsSpare pages n block) (small : p < 64) where
      -- its newest record is that which it leads to
      own_place : (key : FilePage) (e : Newest) (here : LeadsHere key e) → (found key e here.0).0.place ≡ number e.place
      own_place key e here = ⊎_elim (λ same. sym same) (λ apart. absurd (apart here.1)) (found key e here.0).2.moved

      own_block : (key : FilePage) (e : Newest) (here : LeadsHere key e) → (found key e here.0).0.place / 64 ≡ block
      own_block key e here = let at = own_place key e here in let b = here.1 in let q =
          here.2 in omega (arith, at, b, q, small)

      -- so it has a twin
      pub has_twin : (key : FilePage) (e : Newest) → LeadsHere key e → e.twin ≡ None → ⊥
      has_twin key e here none = let x = found key e here.0 in
          spare x.0 (record {
            newest_is = (let of = same_page_is (page_of x.0.says) key x.3.of_page in
                subst (λ (k : FilePage). newest pages k.file k.page n ≡ Some x.0) (sym of) x.1);
            alone = subst (TwinSays pages n x.0) none x.2.twin;
          }) (own_block key e here)

      module _ (key : FilePage) (e : Newest) (here : LeadsHere key e) (twin : FlashPage) (twin_is : e.twin ≡ Some twin)
        where
          abbrev x : Placed
          x = (found key e here.0).0

          abbrev moved_to : Newest
          moved_to = record e { place = twin }

          copy : (twin.page < 64) × IsCopyOf pages n x (number twin)
          copy = subst (TwinSays pages n x) twin_is (found key e here.0).2.twin

          apart : twin.block ≢ block
          apart same = copy.1.apart ((let s = copy.0 in let q : number twin / 64 ≡ twin.block = omega (arith, s) in q)
              ∙ (same ∙ sym (own_block key e here)))

          moved_leaves : IsLeavingBlock pages n block moved_to x
          moved_leaves = let was = (found key e here.0).2 in record {
            led = record {
              within = copy.1.within;
              leads = record {
                small = copy.0;
                there = copy.1.same;
                sequence = was.led.leads.sequence;
                len =
                    was.led.leads.len;
                filled = was.led.leads.filled;
              };
            };
            twin = was.twin;
            agreed = was.agreed;
            rivals = was.rivals;
            page = was.page;
            moved = inr apart;
          }

          says_by : (k : FilePage) (b : Bool) → same_page key k ≡ b
              → LeavesOf pages n block (cond b (Some moved_to) (known table k)) (newest pages k.file k.page n)
          says_by k true same = subst (λ (q : FilePage). LeavesOf pages n block (Some moved_to)
              (newest pages q.file q.page n)) (same_page_is key k same)
              (subst (LeavesOf pages n block (Some moved_to)) (sym (found key e here.0).1) moved_leaves)
          says_by k false other = leaving.says k

          out_by : ((k : FilePage) (w : Newest) → LeadsHere k w → k ≡ key) → (k : FilePage) (w : Newest) (b : Bool)
              → same_page key k ≡ b
              → cond b (Some moved_to) (known table k) ≡ Some w → w.place.block ≡ block → p + 1 ≤ w.place.page
          out_by one k w true same is at = absurd (apart (ap (λ (q : Newest). q.place.block) (same_Some moved_to w is)
              ∙ at))
          out_by one k w false other is at = let past = leaving.out k w is at in ⊎_elim
              (λ same. absurd (true≢false (sym (same_page_refl key)
              ∙ (ap (same_page key) (sym (one k w (is, at, same))) ∙ other))))
              (λ far. omega (arith, past, far))
              (cases_eq w.place.page p)

          -- the entry leads to its twin now, and no other one led there
          pub moved_out : (new : Table) → SetsEntry table new key moved_to
              → ((k : FilePage) (w : Newest) → LeadsHere k w → k ≡ key) → IsLeaving pages n block (p + 1) new
          moved_out new puts one = record {
            says = λ k. subst (λ q. LeavesOf pages n block q (newest pages k.file k.page n)) (sym (puts.known_is k))
                (says_by k (same_page key k) refl);
            out = λ k w is at. out_by one k w (same_page key k) refl (sym (puts.known_is k) ∙ is) at;
            room = puts.room leaving.room;
            fits = puts.fits leaving.fits;
          }

    -- what a look into the page finds
    module _ (spare : IsSpare pages n block) (small : p < 64) (seen : Option PageRecord)
        (there : seen ≡ record_at pages (64 * block + p))
        (finding : Option (FilePage × Newest))
        (finds : (r : PageRecord) (w : Newest) → seen ≡ Some r → known table (page_of r) ≡ Some w
        → finding ≡ Some (page_of r, w)) where
      is_found : (key : FilePage) (e : Newest) → LeadsHere key e → finding ≡ Some (key, e)
      is_found key e here = let r = record_here key e here in
          subst (λ k. finding ≡ Some (k, e)) r.2 (finds r.0 e (there ∙ r.1) (ap (known table) r.2 ∙ here.0))

      pub nothing_found : finding ≡ None → IsLeaving pages n block (p + 1) table
      nothing_found none = none_here (λ key e here. none-some (key, e) (sym none ∙ is_found key e here))

      module _ (key : FilePage) (e : Newest) (is : finding ≡ Some (key, e)) where
        abbrev pair : FilePage → Newest → FilePage × Newest
        pair k w = (k, w)

        only : (k : FilePage) (w : Newest) → LeadsHere k w → pair key e ≡ pair k w
        only k w here = same_Some (pair key e) (pair k w) (sym is ∙ is_found k w here)

        pub elsewhere_found : (e.place.block ≡ block → e.place.page ≡ p → ⊥) → IsLeaving pages n block (p + 1) table
        elsewhere_found other = none_here (λ k w here. other
            (ap (λ (q : FilePage × Newest). q.1.place.block) (only k w here) ∙ here.1)
            (ap (λ (q : FilePage × Newest). q.1.place.page) (only k w here) ∙ here.2))

        pub no_twin_found : e.twin ≡ None → IsLeaving pages n block (p + 1) table
        no_twin_found none = none_here (λ k w here. has_twin spare small k w here
            (ap (λ (q : FilePage × Newest). q.1.twin) (sym (only k w here)) ∙ none))

        pub twin_found : known table key ≡ Some e → e.place.block ≡ block → e.place.page ≡ p → (twin : FlashPage)
            → e.twin ≡ Some twin → (new : Table) (done : Bool)
            → (HasCapacity table → IsFalse done ↔ ((known table key ≡ None) × (limit_of table ≤ page_len table)))
            → (IsTrue done → SetsEntry table new key (record e { place = twin })) → IsLeaving pages n block (p + 1) new
        twin_found known_is at at_page twin twin_is new true full puts =
            moved_out spare small key e (known_is, at, at_page) twin twin_is new (puts refl)
            (λ k w here. ap (λ (q : FilePage × Newest). q.0) (sym (only k w here)))
        twin_found known_is at at_page twin twin_is new false full puts =
            absurd (none-some e (sym ((full leaving.room).0 refl).0 ∙ known_is))

  -- what holds once all pages are left
  led_by : (k : Option Newest) (b : Option Placed) → LeavesOf pages n block k b → LedOf pages n k b
  led_by None None says = says
  led_by None (Some x) says = says
  led_by (Some e) None says = says
  led_by (Some e) (Some x) says = says.led

  module _ (table : Table) (leaving : IsLeaving pages n block 64 table) where
    pub leads_at_last : IsLed pages n table
    leads_at_last = record {
      says = λ key. led_by (known table key) (newest pages key.file key.page n) (leaving.says key);
      room = leaving.room;
      fits = leaving.fits;
    }

    pub left_out : LeavesOut table block
    left_out key e is at = let x = found 64 table leaving key e is in let small = x.2.led.leads.small in let far =
        leaving.out key e is at in omega (arith, small, far)

    unrivalled_by : (x : Placed) (k : Option Newest) → ((e : Newest) → k ≡ Some e → IsFalse e.rivalled)
        → LeavesOf pages n block k (Some x) → Unrivalled pages n x
    unrivalled_by x None no_rivals says = absurd says
    unrivalled_by x (Some e) no_rivals says = says.agreed (no_rivals e refl)

    of_key : (file page : ℕ) (x : Placed) → newest pages file page n ≡ Some x
        → page_of x.says ≡ record { file = file; page = page }
    of_key file page x is = same_page_is (page_of x.says) (record { file = file; page = page })
        (subst (IsNewestOf pages file page n) is (newest_is pages file page n)).of_page

    -- where no entry is rivalled, the records are agreed
    pub agreed_at_last : ((key : FilePage) (e : Newest) → known table key ≡ Some e → IsFalse e.rivalled)
        → IsAgreed pages n
    agreed_at_last no_rivals file page x is j q within there of_page same =
        let key : FilePage = record { file = file; page = page } in
        unrivalled_by x (known table key) (no_rivals key) (subst (LeavesOf pages n block (known table key)) is
        (leaving.says key)) j q within there
        (subst (λ (k : FilePage). is_of k.file k.page q ≡ true) (sym (of_key file page x is)) of_page) same

    -- and where one is, two differ
    pub rivals_at_last : (key : FilePage) (e : Newest) → known table key ≡ Some e → IsTrue e.rivalled
        → HasRivals pages n
    rivals_at_last key e is so = let x = found 64 table leaving key e is in
        (key.file, key.page, x.0, x.1, x.2.rivals so)

    module _ (lens : ℕ → ℕ) (len_is : (file : ℕ) → lens file ≡ file_len pages n file) (stray : ℕ)
        (ends : (key : FilePage) (e : Newest) → known table key ≡ Some e → key.page < 4294967296 → 0 < e.filled
        → (256 * key.page + e.filled ≤ lens key.file) ⊎ (256 * key.page + e.filled ≤ stray)) where
      byte_by : (file i : ℕ) → file_len pages n file ≤ i → stray ≤ i → (b : Option Placed)
          → newest pages file (i / 256) n ≡ b
          → (k : Option Newest) → known table (record { file = file; page = i / 256 }) ≡ k → LeavesOf pages n block k b
          → byte_in b (i % 256) ≡ 0
      byte_by file i past from None is k known_is says = refl
      byte_by file i past from (Some x) is None known_is says = absurd says
      byte_by file i past from (Some x) is (Some e) known_is says = ⊎_elim
          (λ filled. ⊎_elim
          (λ inside. (let l = len_is file in absurd (omega (arith, inside, filled, past, l))))
          (λ before. absurd (omega (arith, before, filled, from)))
          (ends (record { file = file; page = i / 256 }) e known_is
          (let small = says.page in let q : x.says.page ≡ i / 256 =
          ap (λ (k : FilePage). k.page) (of_key file (i / 256) x is) in omega (arith, small, q))
          (omega (arith, filled))))
          (λ zeros. says.led.leads.filled (i % 256) zeros)
          (cases_lt (i % 256) e.filled)

      -- no other byte past the end of its file shows
      pub strayless_at_last : IsStrayless pages n stray
      strayless_at_last file i past from = byte_by file i past from (newest pages file (i / 256) n) refl
          (known table (record { file = file; page = i / 256 })) refl
          (leaving.says (record { file = file; page = i / 256 }))

-- what a call that saw the same flash says
pub leaves_there : (pages seen : Pages) → seen ≡ pages → (b b' : ℕ) → b' ≡ b → (block p q : ℕ) (old new : Table)
    → LeavesBlock seen (places b') block p q old new
    → LeavesBlock pages (places b) block p q old new
leaves_there pages seen same b b' blocks block p q old new =
    subst (λ k. LeavesBlock seen (places b') block p q old new → LeavesBlock pages (places k) block p q old new) blocks
    (subst (λ w. LeavesBlock seen (places b') block p q old new → LeavesBlock w (places b') block p q old new) same
    (λ leaves. leaves))
